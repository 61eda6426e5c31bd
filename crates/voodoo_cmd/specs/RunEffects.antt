-- What a run leaves, where it was expected to answer so.
use Rattle.std.specs.Prelude.{ℕ, ◌≡◌, ◌≤◌, ◌⊎◌, List, Option, Some, None, Ok, Err, IsOkAnd}
use Rattle.std.specs.Io.KnownBytes.{Appends, Keeps}
use Rattle.io_edge.specs.Faults.{Rose}
use Rattle.io_edge.specs.Shelves.{FileMap}
use Rattle.io_edge.specs.Sinks.{AppendsPrefix}
use Rattle.run_steps.specs.declared.status.FileRole.{FileRole}
use Rattle.run_steps.specs.declared.status.FileRole.TheVariants.{Schema, Table, Text}
use Rattle.run_steps.specs.declared.status.Status.{Status}
use Rattle.run_steps.specs.declared.status.Status.TheVariants.{Done, ReadFault, WriteFault, NoMemory}
use Rattle.run_steps.specs.Outcomes.{Outcome, IsReadFault}
use Rattle.run_steps.specs.Expected.{file_read, schema_file_read}

-- Done with the whole text; a write fault or want of memory with a prefix of it; a read fault with nothing written.
-- A refusal with nothing written, or in its place a read fault or want of memory with nothing written.
abbrev pub Answers : Outcome (List ℕ) → Status → Option (List ℕ) → Option (List ℕ) → Type 0
Answers (Ok text) Done old new = Appends old new text
Answers (Ok text) WriteFault old new = AppendsPrefix old new text
Answers (Ok text) NoMemory old new = AppendsPrefix old new text
Answers (Ok text) (ReadFault role) old new = Keeps old new
Answers (Ok text) _ old new = ⊥
Answers (Err refusal) status old new = ((status ≡ refusal) ⊎ (IsReadFault status ⊎ (status ≡ NoMemory))) × Keeps old new

-- the roles of a run's files: a schema has at most 16 tables
abbrev pub IsRole : FileRole → Type 0
IsRole Schema = Unit {0}
IsRole (Table k) = (1 ≤ k) × (k ≤ 16)
IsRole Text = Unit {0}

-- the roles of the schema's file and its tables'
abbrev pub IsSchemaRole : FileRole → Type 0
IsSchemaRole Text = ⊥
IsSchemaRole role = IsRole role

-- why the reading of the schema and its tables may end with a read fault: only in a role whose file no step before refuses, and
-- where the count of faults rose or that file is missing
pub record HasSchemaCause (files : FileMap) (schema : List ℕ) (before now : ℕ) (role : FileRole) : Type 0 where
  pub role_is : IsSchemaRole role
  pub cause : IsOkAnd (schema_file_read files schema role) (λ name. Rose before now ⊎ (files name ≡ None))

-- the same where the shelf need not tell what it holds
abbrev pub HasSchemaFault : Option FileMap → List ℕ → ℕ → ℕ → FileRole → Type 0
HasSchemaFault None schema before now role = IsSchemaRole role × Rose before now
HasSchemaFault (Some files) schema before now role = HasSchemaCause files schema before now role

abbrev pub SchemaFaultHasCause : Option FileMap → List ℕ → ℕ → ℕ → Status → Type 0
SchemaFaultHasCause holds schema before now (ReadFault role) = HasSchemaFault holds schema before now role
SchemaFaultHasCause holds schema before now _ = Unit {0}

-- a read fault comes only in a role whose file no step before refuses, and where the count of faults rose or that file is missing
pub record HasCauseIn (words : List (List ℕ)) (files : FileMap) (before now : ℕ) (role : FileRole) : Type 0 where
  pub role_is : IsRole role
  pub cause : IsOkAnd (file_read words files role) (λ name. Rose before now ⊎ (files name ≡ None))

-- the same where the shelf need not tell what it holds: what it does not tell, it does not lack
abbrev pub ReadFaultHasCause : List (List ℕ) → Option FileMap → ℕ → ℕ → Status → Type 0
ReadFaultHasCause words None before now (ReadFault role) = IsRole role × Rose before now
ReadFaultHasCause words (Some files) before now (ReadFault role) = HasCauseIn words files before now role
ReadFaultHasCause words holds before now _ = Unit {0}

-- a text was written whole, or a prefix of it
abbrev pub Writes : List ℕ → Status → Option (List ℕ) → Option (List ℕ) → Type 0
Writes text Done old new = Appends old new text
Writes text WriteFault old new = AppendsPrefix old new text
Writes text NoMemory old new = AppendsPrefix old new text
Writes text _ old new = ⊥

-- the statuses after which something may have been written
abbrev pub MayHaveWritten : Status → Type 0
MayHaveWritten Done = Unit {0}
MayHaveWritten WriteFault = Unit {0}
MayHaveWritten NoMemory = Unit {0}
MayHaveWritten _ = ⊥

-- the statuses of a run that wrote nothing
abbrev pub IsRefusal : Status → Type 0
IsRefusal Done = ⊥
IsRefusal WriteFault = ⊥
IsRefusal _ = Unit {0}

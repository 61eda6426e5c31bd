-- A run's files: each read in its role, up to its limit.
use Rattle.std.specs.Prelude.{ℕ, ◌+◌, ◌^◌, ◌⊎◌, ◌≡◌, List, length, nat_le, Option, Ok, Err, if◌then◌else◌}
use Rattle.io_edge.specs.Faults.{Rose}
use Rattle.io_edge.specs.Shelves.{FileMap, Lacks}
use Rattle.run_steps.specs.declared.status.FileRole.{FileRole}
use Rattle.run_steps.specs.declared.status.LimitWhat.TheVariants.{File}
use Rattle.run_steps.specs.declared.status.Status.{Status}
use Rattle.run_steps.specs.declared.status.Status.TheVariants.{Done, Usage, ReadFault, WriteFault, SchemaRefused, DataRefused, QueryRefused, AlgebraRefused, LimitReached, Overflow, NotYet, NoMemory}
use Rattle.run_steps.specs.Outcomes.{Outcome, or_refuse, ◌>>=◌}

-- how many bytes a schema, a table's file, a query and a program may have
abbrev pub schema_limit : ℕ
schema_limit = 65536

abbrev pub table_limit : ℕ
table_limit = 2 ^ 28

abbrev pub query_limit : ℕ
query_limit = 65536

abbrev pub program_limit : ℕ
program_limit = 2 ^ 23

-- bytes that are not more than the limit, or else the limit that they pass
abbrev pub within_limit : FileRole → ℕ → List ℕ → Outcome (List ℕ)
within_limit role limit bytes = if nat_le (length bytes) limit then Ok bytes else Err (LimitReached (File role) (limit + 1))

-- the bytes of a file in its role, which has at most so many
abbrev pub file_in : FileMap → FileRole → ℕ → List ℕ → Outcome (List ℕ)
file_in files role limit name = or_refuse (ReadFault role) (files name) >>= within_limit role limit

-- How the reading of a file in its role may end but with its value. A read fault comes only where the count of faults rose, or the
-- shelf tells that it lacks the file.
abbrev pub HasFileCause : Option FileMap → FileRole → List ℕ → ℕ → ℕ → Status → Type 0
HasFileCause holds role name before now (ReadFault r) = (r ≡ role) × (Rose before now ⊎ Lacks holds name)
HasFileCause holds role name before now (NotYet r) = r ≡ role
HasFileCause holds role name before now NoMemory = Unit {0}
HasFileCause holds role name before now (SchemaRefused at kind) = Unit {0}
HasFileCause holds role name before now (DataRefused table at_record at_column kind) = Unit {0}
HasFileCause holds role name before now (QueryRefused at kind) = Unit {0}
HasFileCause holds role name before now (AlgebraRefused line kind) = Unit {0}
HasFileCause holds role name before now (LimitReached what number) = Unit {0}
HasFileCause holds role name before now _ = ⊥

-- a refusal of the schema, or want of memory
abbrev pub IsSchemaRefusal : Status → Type 0
IsSchemaRefusal (SchemaRefused at kind) = Unit {0}
IsSchemaRefusal NoMemory = Unit {0}
IsSchemaRefusal _ = ⊥

-- a refusal of a table's data, or want of memory
abbrev pub IsDataRefusal : Status → Type 0
IsDataRefusal (DataRefused table at_record at_column kind) = Unit {0}
IsDataRefusal NoMemory = Unit {0}
IsDataRefusal _ = ⊥

-- a refusal of the query, or want of memory
abbrev pub IsQueryRefusal : Status → Type 0
IsQueryRefusal (QueryRefused at kind) = Unit {0}
IsQueryRefusal NoMemory = Unit {0}
IsQueryRefusal _ = ⊥

-- a refusal of the program or of its vectors' lengths, or want of memory
abbrev pub IsProgramRefusal : Status → Type 0
IsProgramRefusal (AlgebraRefused line kind) = Unit {0}
IsProgramRefusal (LimitReached what number) = Unit {0}
IsProgramRefusal NoMemory = Unit {0}
IsProgramRefusal _ = ⊥

-- a number that leaves 128 bits, or want of memory
abbrev pub IsRunRefusal : Status → Type 0
IsRunRefusal Overflow = Unit {0}
IsRunRefusal NoMemory = Unit {0}
IsRunRefusal _ = ⊥

-- the statuses of a step that reads files
abbrev pub IsFileRefusal : Status → Type 0
IsFileRefusal Done = ⊥
IsFileRefusal (Usage kind) = ⊥
IsFileRefusal WriteFault = ⊥
IsFileRefusal Overflow = ⊥
IsFileRefusal _ = Unit {0}

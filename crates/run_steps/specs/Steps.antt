-- The steps of a run, each a function of the files.
use Rattle.std.specs.Prelude.{ℕ, ◌+◌, List, [], ◌∷◌, slice_index_or, Option, Some, None, Result, Ok, Err}
use Rattle.control_vectors.specs.declared.Over.{Over}
use Rattle.io_edge.specs.Shelves.{FileMap}
use Rattle.sql_read.specs.declared.definition.TableDef.{TableDef}
use Rattle.sql_read.specs.declared.refusal.SqlRefusal.{SqlRefusal}
use Rattle.sql_read.specs.declared.refusal.SqlRefusal.TheVariants as text
use Rattle.sql_read.specs.SchemaText.{schema_of}
use Rattle.query_trees.specs.declared.query.Query.{Query}
use Rattle.query_read.specs.QueryText.{query_of}
use Rattle.query_types.specs.declared.refusal.TypeRefusal.{TypeRefusal}
use Rattle.query_types.specs.declared.refusal.TypeRefusal.TheVariants as typing
use Rattle.typed_trees.specs.declared.typed.TypedQuery.{TypedQuery}
use Rattle.query_types.specs.Typing.{typed_query}
use Rattle.sql_types.specs.declared.refusal.SchemaRefusal.{SchemaRefusal}
use Rattle.sql_types.specs.declared.refusal.SchemaRefusal.TheVariants as catalog
use Rattle.sql_types.specs.Catalog.{catalog_of}
use Rattle.table_load.specs.declared.refusal.DataRefusal.{DataRefusal}
use Rattle.table_load.specs.declared.refusal.DataRefusal.TheVariants as loading
use Rattle.table_load.specs.Values.{Table as TableValue}
use Rattle.table_load.specs.Tables.{table_of}
use Rattle.table_load.specs.Databases.{DatabaseValue}
use Rattle.programs.specs.declared.op.Statement.{Statement}
use Rattle.programs.specs.Check.{Fault, check, limit_of}
use Rattle.programs.specs.Outlines.{Outline, outlines}
use Rattle.programs.specs.Vectors.{Env, Named, tables}
use Rattle.voodoo_text.specs.declared.read_text.ReadProgram.{ReadProgram}
use Rattle.voodoo_text.specs.declared.refusal.TextRefusal.{TextRefusal}
use Rattle.voodoo_text.specs.declared.refusal.TextRefusal.TheVariants as algebra
use Rattle.voodoo_text.specs.Reading.{read_text}
use Rattle.run_steps.specs.declared.status.UsageKind.TheVariants as usage
use Rattle.run_steps.specs.declared.status.FileRole.TheVariants.{Schema, Table, Text}
use Rattle.run_steps.specs.declared.status.SchemaCause.TheVariants as cause
use Rattle.run_steps.specs.declared.status.QueryCause.TheVariants as query_cause
use Rattle.run_steps.specs.declared.status.AlgebraCause.TheVariants as algebra_cause
use Rattle.run_steps.specs.declared.status.LimitWhat.TheVariants.{Slots}
use Rattle.run_steps.specs.declared.status.Status.TheVariants.{Usage, SchemaRefused, DataRefused, QueryRefused, AlgebraRefused, LimitReached, Overflow, NoMemory}
use Rattle.run_steps.specs.Inputs.{file_in, schema_limit, table_limit, query_limit, program_limit}
use Rattle.run_steps.specs.Outcomes.{Outcome, or_refuse, ◌>>=◌}
use Rattle.run_steps.specs.Paths.{table_file}
use Rattle.run_steps.specs.Words.{Request, request_of}

-- ---- the words
abbrev pub request_in : List (List ℕ) → Outcome Request
request_in words = or_refuse (Usage usage.Words) (request_of words)

-- ---- the schema's file gives its definitions, or the first refusal of its text, or of its catalog
abbrev pub text_outcome : Result (List TableDef) SqlRefusal → Outcome (List TableDef)
text_outcome (Ok defs) = Ok defs
text_outcome (Err text.NoMemory) = Err NoMemory
text_outcome (Err (text.Bad at kind)) = Err (SchemaRefused at (cause.Text kind))

abbrev pub catalog_outcome : Result (List TableDef) SchemaRefusal → Outcome (List TableDef)
catalog_outcome (Ok defs) = Ok defs
catalog_outcome (Err catalog.NoMemory) = Err NoMemory
catalog_outcome (Err (catalog.Bad at kind)) = Err (SchemaRefused at (cause.Catalog kind))

abbrev pub catalog_in : FileMap → List ℕ → Outcome (List TableDef)
catalog_in files name = do
  bytes ← file_in files Schema schema_limit name
  defs ← text_outcome (schema_of bytes)
  catalog_outcome (catalog_of defs)

-- ---- each table's file gives its rows, or its first refusal. Tables count from 1
abbrev pub table_outcome : ℕ → Result TableValue DataRefusal → Outcome TableValue
table_outcome k (Ok t) = Ok t
table_outcome k (Err loading.NoMemory) = Err NoMemory
table_outcome k (Err (loading.Bad at_record at_column kind)) = Err (DataRefused k at_record at_column kind)

abbrev pub table_in : FileMap → List ℕ → ℕ → TableDef → Outcome TableValue
table_in files schema k def = file_in files (Table k) table_limit (table_file schema def.name) >>= λ bytes. table_outcome k (table_of def bytes)

-- the tables of some definitions, of which the first has this number, in the schema's order
unfoldable pub tables_from : FileMap → List ℕ → ℕ → List TableDef → Outcome (List TableValue)
tables_from files schema k [] = Ok []
tables_from files schema k (def ∷ defs) = do
  t ← table_in files schema k def
  ts ← tables_from files schema (k + 1) defs
  Ok (t ∷ ts)

-- the tables of a schema, with their definitions
pub record LoadedTables : Type 0 where
  pub defs : List TableDef
  pub tables : List TableValue

-- those of a schema's file
abbrev pub tables_in : FileMap → List ℕ → Outcome LoadedTables
tables_in files schema = do
  defs ← catalog_in files schema
  ts ← tables_from files schema 1 defs
  Ok (record { defs = defs; tables = ts })

-- ---- the query's file gives what its names mean, or the first refusal of its text, or of its typing
abbrev pub query_outcome : Result Query SqlRefusal → Outcome Query
query_outcome (Ok q) = Ok q
query_outcome (Err text.NoMemory) = Err NoMemory
query_outcome (Err (text.Bad at kind)) = Err (QueryRefused at (query_cause.Text kind))

abbrev pub typing_outcome : Result TypedQuery TypeRefusal → Outcome TypedQuery
typing_outcome (Ok q) = Ok q
typing_outcome (Err typing.NoMemory) = Err NoMemory
typing_outcome (Err (typing.Bad at kind)) = Err (QueryRefused at (query_cause.Typing kind))

-- the query of a text, over a schema's tables
abbrev pub query_over : List TableDef → List ℕ → Outcome TypedQuery
query_over defs bytes = query_outcome (query_of bytes) >>= λ q. typing_outcome (typed_query q defs)

abbrev pub query_in : FileMap → List ℕ → List TableDef → Outcome TypedQuery
query_in files name defs = file_in files Text query_limit name >>= query_over defs

-- ---- the program's file gives its statements, each with its line, or the first refusal of its text
abbrev pub read_outcome : Result ReadProgram TextRefusal → Outcome ReadProgram
read_outcome (Ok r) = Ok r
read_outcome (Err algebra.NoMemory) = Err NoMemory
read_outcome (Err (algebra.Bad line kind)) = Err (AlgebraRefused line (algebra_cause.Text kind))

-- the line of a statement, by its number from 1 on; 0 where a refusal names no statement
abbrev pub line_of : List ℕ → ℕ → ℕ
line_of lines statement = slice_index_or (0 ∷ lines) statement 0

-- the outlines of a program that its check takes, or the line of its first fault
abbrev pub check_outcome : List ℕ → Result (List Outline) Fault → Outcome (List Outline)
check_outcome lines (Ok shape) = Ok shape
check_outcome lines (Err e) = Err (AlgebraRefused (line_of lines e.statement) (algebra_cause.Program e.kind))

-- the program, where no vector is longer than the limit; else the length of the first that is
abbrev pub within_slots : List Statement → Option (ℕ × ℕ) → Outcome (List Statement)
within_slots program None = Ok program
within_slots program (Some past) = Err (LimitReached Slots past.1)

-- the program that was read, where it can be run over the tables
abbrev pub runnable : Env → ReadProgram → Outcome (List Statement)
runnable store read = check_outcome read.lines (check (outlines store) read.program) >>= λ shape. within_slots read.program (limit_of shape)

-- the program of a text, where it can be run over the tables
abbrev pub program_over : Env → List ℕ → Outcome (List Statement)
program_over store bytes = read_outcome (read_text bytes) >>= runnable store

abbrev pub program_in : FileMap → List ℕ → DatabaseValue → Outcome (List Statement)
program_in files name db = file_in files Text program_limit name >>= program_over (tables db.store)

-- a program's results, or Overflow
abbrev pub results_outcome : Result Named Over → Outcome Named
results_outcome (Ok named) = Ok named
results_outcome (Err e) = Err Overflow

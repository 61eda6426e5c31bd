-- What a run is expected to answer, from the words and the files alone: the first refusal in the order of the steps, or the text.
use Rattle.std.specs.Prelude.{ℕ, ◌-◌, List, length, nat_le, take, slice_get, Bool, true, false, Result, Ok, Err}
use Rattle.std.specs.Option.{option_map}
use Rattle.control_vectors.specs.declared.Over.{Over}
use Rattle.io_edge.specs.Shelves.{FileMap}
use Rattle.row_print.specs.Results.{results_text}
use Rattle.typed_trees.specs.declared.typed.TypedQuery.{TypedQuery}
use Rattle.sql_read.specs.declared.definition.TableDef.{TableDef}
use Rattle.table_load.specs.Databases.{DatabaseValue, database_of}
use Rattle.table_load.specs.Values.{Table as TableValue}
use Rattle.voodoo_ops.specs.Meaning.{meaning}
use Rattle.programs.specs.Vectors.{tables}
use Rattle.answer_texts.specs.Texts.{answer_text}
use Rattle.run_steps.specs.declared.words.Mode.{Mode}
use Rattle.run_steps.specs.declared.words.Mode.TheVariants.{Sql, Algebra}
use Rattle.run_steps.specs.declared.status.FileRole.{FileRole}
use Rattle.run_steps.specs.declared.status.FileRole.TheVariants.{Schema, Table, Text}
use Rattle.run_steps.specs.declared.status.Status.TheVariants.{ReadFault, NotYet, Overflow}
use Rattle.run_steps.specs.Outcomes.{Outcome, or_refuse, ◌>>=◌}
use Rattle.run_steps.specs.Paths.{table_file}
use Rattle.run_steps.specs.Steps.{LoadedTables, request_in, catalog_in, tables_from, tables_in, query_in, program_in, results_outcome}

-- ---- the answer

-- a text, or Overflow
abbrev pub text_outcome : Result (List ℕ) Over → Outcome (List ℕ)
text_outcome (Ok text) = Ok text
text_outcome (Err e) = Err Overflow

-- queries over more than one table are not answered yet
abbrev pub one_table_text : Bool → Result (List ℕ) Over → Outcome (List ℕ)
one_table_text true text = Err (NotYet Text)
one_table_text false text = text_outcome text

-- the answer to a query: the output names, then the answer's rows
abbrev pub query_text : List TableValue → TypedQuery → Outcome (List ℕ)
query_text ts q = one_table_text (nat_le 2 (length q.sources)) (answer_text ts q)

abbrev pub query_answer : FileMap → List ℕ → LoadedTables → Outcome (List ℕ)
query_answer files text loaded = query_in files text loaded.defs >>= query_text loaded.tables

-- the answer to a program
abbrev pub program_answer : FileMap → List ℕ → DatabaseValue → Outcome (List ℕ)
program_answer files text db = do
  program ← program_in files text db
  named ← results_outcome (meaning (tables db.store) program)
  Ok (results_text named)

abbrev pub answer_of : Mode → FileMap → List ℕ → LoadedTables → Outcome (List ℕ)
answer_of Sql files text loaded = query_answer files text loaded
answer_of Algebra files text loaded = program_answer files text (database_of loaded.defs loaded.tables)

-- the text, or the status of the first step that refuses
abbrev pub expected : List (List ℕ) → FileMap → Outcome (List ℕ)
expected words files = do
  request ← request_in words
  loaded ← tables_in files request.schema
  answer_of request.mode files request.text loaded

-- ---- the files that are read

-- the file of the table with this number
abbrev pub numbered_file : List ℕ → List TableDef → ℕ → Outcome (List ℕ)
numbered_file schema defs k = or_refuse (ReadFault (Table k)) (option_map (λ def. table_file schema def.name) (slice_get defs (k - 1)))

-- the schema's file and those of its tables, each where no step before its reading refuses
abbrev pub schema_file_read : FileMap → List ℕ → FileRole → Outcome (List ℕ)
schema_file_read files schema Schema = Ok schema
schema_file_read files schema (Table k) = do
  defs ← catalog_in files schema
  before ← tables_from files schema 1 (take (k - 1) defs)
  numbered_file schema defs k
schema_file_read files schema Text = Err (ReadFault Text)

-- the name of the file that is read in a role, where no step before its reading refuses
abbrev pub file_read : List (List ℕ) → FileMap → FileRole → Outcome (List ℕ)
file_read words files Text = do
  request ← request_in words
  loaded ← tables_in files request.schema
  Ok request.text
file_read words files role = do
  request ← request_in words
  schema_file_read files request.schema role

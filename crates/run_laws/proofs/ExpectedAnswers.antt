-- Each step of a run, and what is expected of the whole, comes to a value or a status that is not want of memory.
use Rattle.std.proofs.Common.{◌≡◌, ℕ, ◌+◌, Bool, true, false, List, [], ◌∷◌, Ok, Err, Some, None, refl, length}
use Rattle.std.specs.Prelude.{Option, Result, nat_le, codes}
use Rattle.std.specs.Str.{bytes_eq}
use Rattle.control_vectors.specs.declared.Over.{Over}
use Rattle.io_edge.specs.Shelves.{FileMap}
use Rattle.sql_read.specs.declared.definition.TableDef.{TableDef}
use Rattle.sql_read.specs.declared.refusal.SqlRefusal.{SqlRefusal}
use Rattle.sql_read.specs.declared.refusal.SqlRefusal.TheVariants as text
use Rattle.sql_read.specs.SchemaText.{schema_of}
use Rattle.query_trees.specs.declared.query.Query.{Query}
use Rattle.query_read.specs.QueryText.{query_of}
use Rattle.query_types.specs.declared.refusal.TypeRefusal.{TypeRefusal}
use Rattle.query_types.specs.declared.refusal.TypeRefusal.TheVariants as typing
use Rattle.typed_trees.specs.declared.typed.TypedQuery.{TypedQuery}
use Rattle.query_types.specs.Typing.{typed_query}
use Rattle.sql_types.specs.declared.refusal.SchemaRefusal.{SchemaRefusal}
use Rattle.sql_types.specs.declared.refusal.SchemaRefusal.TheVariants as catalog
use Rattle.sql_types.specs.Catalog.{catalog_of}
use Rattle.table_load.specs.declared.refusal.DataRefusal.{DataRefusal}
use Rattle.table_load.specs.declared.refusal.DataRefusal.TheVariants as loading
use Rattle.table_load.specs.Values.{Table as TableValue}
use Rattle.table_load.specs.Tables.{table_of}
use Rattle.table_load.specs.Databases.{DatabaseValue, database_of}
use Rattle.answer_texts.specs.Texts.{answer_text}
use Rattle.programs.specs.declared.op.Statement.{Statement}
use Rattle.programs.specs.Check.{Fault, check, limit_of}
use Rattle.programs.specs.Outlines.{Outline, outlines}
use Rattle.programs.specs.Vectors.{Env, Named, tables}
use Rattle.row_print.specs.Results.{results_text}
use Rattle.voodoo_ops.specs.Meaning.{meaning}
use Rattle.voodoo_text.specs.declared.read_text.ReadProgram.{ReadProgram}
use Rattle.voodoo_text.specs.declared.refusal.TextRefusal.{TextRefusal}
use Rattle.voodoo_text.specs.declared.refusal.TextRefusal.TheVariants as algebra
use Rattle.voodoo_text.specs.Reading.{read_text}
use Rattle.run_steps.specs.declared.status.UsageKind.TheVariants as usage
use Rattle.run_steps.specs.declared.status.FileRole.{FileRole}
use Rattle.run_steps.specs.declared.status.FileRole.TheVariants.{Schema, Table, Text}
use Rattle.run_steps.specs.declared.status.SchemaCause.TheVariants as cause
use Rattle.run_steps.specs.declared.status.QueryCause.TheVariants as query_cause
use Rattle.run_steps.specs.declared.status.AlgebraCause.TheVariants as algebra_cause
use Rattle.run_steps.specs.declared.status.LimitWhat.TheVariants.{File, Slots}
use Rattle.run_steps.specs.declared.status.Status.TheVariants.{Usage, ReadFault, SchemaRefused, DataRefused, QueryRefused, AlgebraRefused, LimitReached, NotYet, Overflow}
use Rattle.run_steps.specs.Inputs as n
use Rattle.run_steps.specs.Outcomes.{or_refuse, ◌>>=◌}
use Rattle.run_steps.specs.Paths.{table_file}
use Rattle.run_steps.specs.Words.{word_at, mode_of, are_options, request_for, request_of}
use Rattle.run_steps.specs.Steps as s
use Rattle.run_steps.specs.Expected as x
use Rattle.run_laws.specs.Laws.{ExpectedLaw}
use Rattle.run_laws.proofs.RunSteps.{Reports, reports_value, reports_refusal, reports_either, reports_or, reports_then, reports_with, Each, each_none, each_some, each_either, each_map, each_so}
use Rattle.run_laws.proofs.SchemaTexts.{schema_law}
use Rattle.run_laws.proofs.Catalogs.{catalog_law}
use Rattle.run_laws.proofs.Tables.{table_law}
use Rattle.run_laws.proofs.QueryTexts.{query_law}
use Rattle.run_laws.proofs.TypedQueries.{typing_law}
use Rattle.run_laws.proofs.ProgramTexts.{program_law}

-- ---- what a step's answer is to a run

text_outcome : (r : Result (List TableDef) SqlRefusal) → (r ≡ Err text.NoMemory → ⊥) → Reports (s.text_outcome r)
text_outcome (Ok defs) h = reports_value defs
text_outcome (Err text.NoMemory) h = absurd (h refl)
text_outcome (Err (text.Bad at kind)) h = reports_refusal (SchemaRefused at (cause.Text kind)) (λ e. cc)

catalog_outcome : (r : Result (List TableDef) SchemaRefusal) → (r ≡ Err catalog.NoMemory → ⊥) → Reports (s.catalog_outcome r)
catalog_outcome (Ok defs) h = reports_value defs
catalog_outcome (Err catalog.NoMemory) h = absurd (h refl)
catalog_outcome (Err (catalog.Bad at kind)) h = reports_refusal (SchemaRefused at (cause.Catalog kind)) (λ e. cc)

table_outcome : (k : ℕ) (r : Result TableValue DataRefusal) → (r ≡ Err loading.NoMemory → ⊥) → Reports (s.table_outcome k r)
table_outcome k (Ok t) h = reports_value t
table_outcome k (Err loading.NoMemory) h = absurd (h refl)
table_outcome k (Err (loading.Bad at_record at_column kind)) h = reports_refusal (DataRefused k at_record at_column kind) (λ e. cc)

query_outcome : (r : Result Query SqlRefusal) → (r ≡ Err text.NoMemory → ⊥) → Reports (s.query_outcome r)
query_outcome (Ok q) h = reports_value q
query_outcome (Err text.NoMemory) h = absurd (h refl)
query_outcome (Err (text.Bad at kind)) h = reports_refusal (QueryRefused at (query_cause.Text kind)) (λ e. cc)

typing_outcome : (r : Result TypedQuery TypeRefusal) → (r ≡ Err typing.NoMemory → ⊥) → Reports (s.typing_outcome r)
typing_outcome (Ok q) h = reports_value q
typing_outcome (Err typing.NoMemory) h = absurd (h refl)
typing_outcome (Err (typing.Bad at kind)) h = reports_refusal (QueryRefused at (query_cause.Typing kind)) (λ e. cc)

read_outcome : (r : Result ReadProgram TextRefusal) → (r ≡ Err algebra.NoMemory → ⊥) → Reports (s.read_outcome r)
read_outcome (Ok r) h = reports_value r
read_outcome (Err algebra.NoMemory) h = absurd (h refl)
read_outcome (Err (algebra.Bad line kind)) h = reports_refusal (AlgebraRefused line (algebra_cause.Text kind)) (λ e. cc)

check_outcome : (lines : List ℕ) (r : Result (List Outline) Fault) → Reports (s.check_outcome lines r)
check_outcome lines (Ok shape) = reports_value shape
check_outcome lines (Err f) = reports_refusal (AlgebraRefused (s.line_of lines f.statement) (algebra_cause.Program f.kind)) (λ e. cc)

within_slots : (program : List Statement) (past : Option (ℕ × ℕ)) → Reports (s.within_slots program past)
within_slots program None = reports_value program
within_slots program (Some past) = reports_refusal (LimitReached Slots past.1) (λ e. cc)

results_outcome : (r : Result Named Over) → Reports (s.results_outcome r)
results_outcome (Ok named) = reports_value named
results_outcome (Err over) = reports_refusal Overflow (λ e. cc)

-- ---- files

file_in : (files : FileMap) (role : FileRole) (limit : ℕ) (name : List ℕ) → Reports (n.file_in files role limit name)
file_in files role limit name =
    reports_then (or_refuse (ReadFault role) (files name)) (reports_or (ReadFault role) (files name) (λ e. cc)) (λ bytes.
    reports_either (nat_le (length bytes) limit) (reports_value bytes) (reports_refusal (LimitReached (File role) (limit + 1)) (λ e. cc)))

catalog_in : (files : FileMap) (name : List ℕ) → Reports (s.catalog_in files name)
catalog_in files name =
    reports_then (n.file_in files Schema n.schema_limit name) (file_in files Schema n.schema_limit name) (λ bytes.
    reports_then (s.text_outcome (schema_of bytes)) (text_outcome (schema_of bytes) (schema_law bytes)) (λ defs.
    catalog_outcome (catalog_of defs) (catalog_law defs)))

table_in : (files : FileMap) (schema : List ℕ) (k : ℕ) (def : TableDef) → Reports (s.table_in files schema k def)
table_in files schema k def =
    let name = table_file schema def.name in
    reports_then (n.file_in files (Table k) n.table_limit name) (file_in files (Table k) n.table_limit name) (λ bytes. table_outcome k (table_of def bytes) (table_law def bytes))

tables_from : (files : FileMap) (schema : List ℕ) (k : ℕ) (defs : List TableDef) → Reports (s.tables_from files schema k defs)
unfolding s.tables_from
tables_from files schema k [] = reports_value []
tables_from files schema k (def ∷ defs) =
    reports_then (s.table_in files schema k def) (table_in files schema k def) (λ t.
    reports_then (s.tables_from files schema (k + 1) defs) (tables_from files schema (k + 1) defs) (λ ts. reports_value (t ∷ ts)))

tables_in : (files : FileMap) (schema : List ℕ) → Reports (s.tables_in files schema)
tables_in files schema =
    reports_then (s.catalog_in files schema) (catalog_in files schema) (λ defs.
    reports_then (s.tables_from files schema 1 defs) (tables_from files schema 1 defs) (λ ts. reports_value (record { defs = defs; tables = ts })))

-- ---- queries

query_over : (defs : List TableDef) (bytes : List ℕ) → Reports (s.query_over defs bytes)
query_over defs bytes = reports_then (s.query_outcome (query_of bytes)) (query_outcome (query_of bytes) (query_law bytes)) (λ q. typing_outcome (typed_query q defs) (typing_law q defs))

query_in : (files : FileMap) (name : List ℕ) (defs : List TableDef) → Reports (s.query_in files name defs)
query_in files name defs = reports_then (n.file_in files Text n.query_limit name) (file_in files Text n.query_limit name) (query_over defs)

text_outcome_of : (text : Result (List ℕ) Over) → Reports (x.text_outcome text)
text_outcome_of (Ok text) = reports_value text
text_outcome_of (Err e) = reports_refusal Overflow (λ e. cc)

one_table_text : (more : Bool) (text : Result (List ℕ) Over) → Reports (x.one_table_text more text)
one_table_text true text = reports_refusal (NotYet Text) (λ e. cc)
one_table_text false text = text_outcome_of text

query_answer : (files : FileMap) (name : List ℕ) (loaded : s.LoadedTables) → Reports (x.query_answer files name loaded)
query_answer files name loaded =
    reports_then (s.query_in files name loaded.defs) (query_in files name loaded.defs) (λ q. one_table_text (nat_le 2 (length q.sources)) (answer_text loaded.tables q))

-- ---- programs

runnable : (store : Env) (read : ReadProgram) → Reports (s.runnable store read)
runnable store read =
    let checked = check (outlines store) read.program in
    reports_then (s.check_outcome read.lines checked) (check_outcome read.lines checked) (λ shape. within_slots read.program (limit_of shape))

program_over : (store : Env) (bytes : List ℕ) → Reports (s.program_over store bytes)
program_over store bytes = reports_then (s.read_outcome (read_text bytes)) (read_outcome (read_text bytes) (program_law bytes)) (runnable store)

program_in : (files : FileMap) (name : List ℕ) (db : DatabaseValue) → Reports (s.program_in files name db)
program_in files name db = reports_then (n.file_in files Text n.program_limit name) (file_in files Text n.program_limit name) (program_over (tables db.store))

program_answer : (files : FileMap) (name : List ℕ) (db : DatabaseValue) → Reports (x.program_answer files name db)
program_answer files name db =
    reports_then (s.program_in files name db) (program_in files name db) (λ program.
    let meant = meaning (tables db.store) program in
    reports_then (s.results_outcome meant) (results_outcome meant) (λ named. reports_value (results_text named)))

-- ---- the whole

-- the answer in the mode that a word names
by_word : (files : FileMap) (name word : List ℕ) → Each (λ m. (loaded : s.LoadedTables) → Reports (x.answer_of m files name loaded)) (mode_of word)
by_word files name word =
    each_either (bytes_eq word (codes "sql")) (each_some _ (query_answer files name))
    (each_either (bytes_eq word (codes "algebra")) (each_some _ (λ loaded. program_answer files name (database_of loaded.defs loaded.tables))) each_none)

by_words : (words : List (List ℕ)) (files : FileMap) → Each (λ request. Reports (s.tables_in files request.schema >>= λ loaded. x.answer_of request.mode files request.text loaded)) (request_of words)
by_words words files =
    each_either (are_options words)
    (each_map (request_for words) (mode_of (word_at words 4))
    (each_so (λ m h. reports_then (s.tables_in files (word_at words 2)) (tables_in files (word_at words 2)) h) (by_word files (word_at words 6) (word_at words 4))))
    each_none

expected : (words : List (List ℕ)) (files : FileMap) → Reports (x.expected words files)
expected words files = reports_with (Usage usage.Words) (request_of words) (λ e. cc) (by_words words files)

pub expected_law : ExpectedLaw
expected_law words files = (expected words files).never

-- Want of memory may end a run at any time, so nothing that a run is compared with is want of memory: each definition gives a
-- value, or says what is wrong.
use Rattle.std.specs.Prelude.{◌≢◌, ℕ, List, Err}
use Rattle.io_edge.specs.Shelves.{FileMap}
use Rattle.sql_read.specs.declared.definition.TableDef.{TableDef}
use Rattle.sql_read.specs.declared.refusal.SqlRefusal.TheVariants as sql
use Rattle.sql_read.specs.Lexis.{Bytes}
use Rattle.sql_read.specs.SchemaText.{schema_of}
use Rattle.sql_types.specs.declared.refusal.SchemaRefusal.TheVariants as catalog
use Rattle.sql_types.specs.Catalog.{catalog_of}
use Rattle.table_load.specs.declared.refusal.DataRefusal.TheVariants as loading
use Rattle.table_load.specs.Tables.{table_of}
use Rattle.query_trees.specs.declared.query.Query.{Query}
use Rattle.query_read.specs.QueryText.{query_of}
use Rattle.query_types.specs.declared.refusal.TypeRefusal.TheVariants as typing
use Rattle.query_types.specs.Typing.{typed_query}
use Rattle.voodoo_text.specs.declared.refusal.TextRefusal.TheVariants as algebra
use Rattle.voodoo_text.specs.Reading.{read_text}
use Rattle.run_steps.specs.declared.status.Status.TheVariants as status
use Rattle.run_steps.specs.Expected.{expected}

-- a text is a schema, or it is refused at a byte
abbrev pub SchemaLaw : Type 0
SchemaLaw = (text : Bytes) → schema_of text ≢ Err sql.NoMemory

-- definitions are a catalog, or the first that is wrong with them is at a byte
abbrev pub CatalogLaw : Type 0
CatalogLaw = (defs : List TableDef) → catalog_of defs ≢ Err catalog.NoMemory

-- a file's bytes are the table of a definition, or a record of theirs is refused
abbrev pub TableLaw : Type 0
TableLaw = (def : TableDef) (bytes : List ℕ) → table_of def bytes ≢ Err loading.NoMemory

-- a text is a query, or it is refused at a byte
abbrev pub QueryLaw : Type 0
QueryLaw = (text : Bytes) → query_of text ≢ Err sql.NoMemory

-- a query has a meaning, or its names or kinds are refused at a byte
abbrev pub TypingLaw : Type 0
TypingLaw = (q : Query) (defs : List TableDef) → typed_query q defs ≢ Err typing.NoMemory

-- a text is a program, or a line of it is refused
abbrev pub ProgramLaw : Type 0
ProgramLaw = (bytes : List ℕ) → read_text bytes ≢ Err algebra.NoMemory

-- whatever the words and files, a text is expected or a status that is not want of memory
abbrev pub ExpectedLaw : Type 0
ExpectedLaw = (words : List (List ℕ)) (files : FileMap) → expected words files ≢ Err status.NoMemory

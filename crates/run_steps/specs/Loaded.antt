-- What the steps of a run tell of what they read, whatever the shelf tells of its files.
use Rattle.std.specs.Prelude.{◌≡◌, ℕ, ◌≤◌, ◌^◌, List, [], All, length, Ok}
use Rattle.sql_read.specs.declared.definition.TableDef.{TableDef}
use Rattle.sql_read.specs.Forms.{IsFormed}
use Rattle.sql_read.specs.SchemaText.{schema_of}
use Rattle.sql_types.specs.Catalog.{findings}
use Rattle.table_load.specs.Databases.{DatabaseValue, database_of}
use Rattle.table_load.specs.Values.{Table as TableValue}
use Rattle.query_trees.specs.declared.query.Query.{Query}
use Rattle.typed_trees.specs.declared.typed.TypedQuery.{TypedQuery}
use Rattle.query_read.specs.QueryText.{IsQuery, query_of}
use Rattle.query_types.specs.Typing.{typed_query}
use Rattle.loaded_plans.specs.Laws.{AreLoaded}

-- definitions that are read from a text
pub record IsReadSchema (defs : List TableDef) : Type 0 where
  pub text : List ℕ
  pub read : schema_of text ≡ Ok defs

-- no table has more rows than a table may have
abbrev pub AreShort : List TableValue → Type 0
AreShort ts = All (λ t. length t.rows ≤ 2 ^ 20) ts

-- the tables of a database, loaded by the definitions of a schema that is read and has nothing wrong with it
pub record AreTablesOf (db : DatabaseValue) (ts : List TableValue) : Type 0 where
  pub database : db ≡ database_of db.defs ts
  pub loaded : AreLoaded db.defs ts
  pub short : AreShort ts
  pub clean : findings db.defs ≡ []
  pub formed : All IsFormed db.defs
  pub schema : IsReadSchema db.defs

pub record HasTables (db : DatabaseValue) : Type 0 where
  pub tables : List TableValue
  pub are : AreTablesOf db tables

-- a query that is read from a text, and typed over a catalog
pub record IsQueryOver (defs : List TableDef) (q : TypedQuery) : Type 0 where
  pub text : List ℕ
  pub query : Query
  pub written : IsQuery text query
  pub read : query_of text ≡ Ok query
  pub typed : typed_query query defs ≡ Ok q

-- The tables of FROM, from left to right. After SQL-92 (ISO/IEC 9075:1992), 6.3 <table reference>, 7.4 <from clause> and 7.5 <joined table>.
use Rattle.std.specs.Prelude.{ℕ, ◌==◌, nat_le, Bool, not, ◌&&◌, ◌||◌, if◌then◌else◌, List, [], ◌∷◌, ◌++◌, length, slice_get, Option, Some, None, Ok}
use Rattle.std.specs.List.{list_any, position_from, range_with_len}
use Rattle.std.specs.Str.{bytes_eq}
use Rattle.sql_read.specs.declared.definition.KeyDef.{KeyDef}
use Rattle.sql_read.specs.declared.definition.TableDef.{TableDef}
use Rattle.sql_types.specs.Catalog.{is_table_named, is_key_of}
use Rattle.query_trees.specs.declared.clauses.Alias.{Alias}
use Rattle.query_trees.specs.declared.expr.ColumnName.{ColumnName}
use Rattle.query_trees.specs.declared.clauses.TableName.{TableName}
use Rattle.query_trees.specs.declared.clauses.Join.{Join}
use Rattle.query_trees.specs.declared.clauses.JoinKind.{JoinKind}
use Rattle.query_trees.specs.declared.clauses.JoinKind.TheVariants as join
use Rattle.query_trees.specs.declared.clauses.Source.{Source}
use Rattle.query_types.specs.declared.refusal.TypeKind.TheVariants.{UnknownTable, NameTwice, TypesDiffer, NotAKey, TooManyTables}
use Rattle.typed_trees.specs.declared.typed.ColumnRef.{ColumnRef}
use Rattle.typed_trees.specs.declared.typed.ColumnType.{ColumnType}
use Rattle.typed_trees.specs.declared.typed.PlanSource.{PlanSource}
use Rattle.typed_trees.specs.Kinds.{kind_of, same_kind, is_number}
use Rattle.query_types.specs.declared.scope.Called.{Called}
use Rattle.query_types.specs.declared.scope.Found.{Found}
use Rattle.query_types.specs.declared.sources.Tables.{Tables}
use Rattle.query_types.specs.Names.{columns_of, resolved}
use Rattle.query_types.specs.Outcomes.{Outcome, refuse, refuse_if, and_then}

-- ---- the name by which a table is called: its alias, or else its name

abbrev pub name_by : TableName → Option Alias → List ℕ
name_by t (Some a) = a.name
name_by t None = t.name

abbrev pub call_name : TableName → List ℕ
call_name t = name_by t t.alias

abbrev pub at_by : TableName → Option Alias → ℕ
at_by t (Some a) = a.at
at_by t None = t.at

abbrev pub call_at : TableName → ℕ
call_at t = at_by t t.alias

abbrev pub is_called : List ℕ → Called → Bool
is_called name t = bytes_eq t.name name

-- ---- one table

abbrev pub called : TableName → ℕ → Called
called t table = record { name = call_name t; table = table }

abbrev pub opened_at : List Called → TableName → Option ℕ → Outcome Called
opened_at tables t None = refuse UnknownTable t.at
opened_at tables t (Some table) = refuse_if (list_any (is_called (call_name t)) tables) NameTwice (call_at t) (Ok (called t table))

-- a table after those before it: the ninth, one that the catalog has not, a name that stands already
unfoldable pub opened : List TableDef → List Called → TableName → Outcome Called
opened defs tables t = refuse_if (nat_le 8 (length tables)) TooManyTables t.at (opened_at tables t (position_from (is_table_named t.name) 0 defs))

-- the column to the left and the place of the added table's own, in a key join
abbrev pub Link : Type 0
Link = Option (ColumnRef × ℕ)

-- a source with all columns of its table
abbrev pub source_of : List TableDef → ℕ → Link → PlanSource
source_of defs table link = record { table = table; columns = range_with_len 0 (length (columns_of defs table)); filter = []; join = link }

-- ---- joins

abbrev pub keys_at : Option TableDef → List KeyDef
keys_at (Some t) = t.keys
keys_at None = []

abbrev pub is_key : List TableDef → ℕ → List ℕ → Bool
is_key defs table name = list_any (is_key_of name) (keys_at (slice_get defs table))

-- of one kind and, where they are numbers, of one scale
abbrev pub same_types : ColumnType → ColumnType → Bool
same_types a b = same_kind (kind_of a.kind) (kind_of b.kind) && (not (is_number (kind_of a.kind)) || (a.scale == b.scale))

-- the added table's own column and the one to its left: of one type, and its own the key
unfoldable pub linked : List TableDef → ℕ → ℕ → Found → ColumnName → Found → Outcome Link
linked defs table at own name left =
    refuse_if (not (same_types own.type_ left.type_)) TypesDiffer at
    (refuse_if (not (is_key defs table name.name)) NotAKey name.at (Ok (Some (left.column, own.column.column))))

abbrev pub is_of : ℕ → Found → Bool
is_of s x = x.column.source == s

-- One column is of the added table, the s-th, and one of a table to its left, in either order.
unfoldable pub paired : List TableDef → ℕ → ℕ → ColumnName → ℕ → ColumnName → Found → Found → Outcome Link
paired defs s table a at b x y =
    if is_of s x then refuse_if (is_of s y) TypesDiffer at (linked defs table at x a y)
    else refuse_if (not (is_of s y)) TypesDiffer at (linked defs table at y b x)

-- ON sees the added table, the last of those, and the tables to its left.
unfoldable pub linked_on : List TableDef → List Called → ℕ → ℕ → ColumnName → ℕ → ColumnName → Outcome Link
linked_on defs tables s table a at b =
    and_then (resolved defs tables a) (λ x. and_then (resolved defs tables b) (paired defs s table a at b x))

abbrev pub link : List TableDef → List Called → ℕ → ℕ → JoinKind → Outcome Link
link defs tables s table join.Cross = Ok None
link defs tables s table (join.On a at b) = linked_on defs tables s table a at b

-- ---- FROM

abbrev pub with_table : List TableDef → Tables → Called → Link → Tables
with_table defs f t l = record { called = f.called ++ t ∷ []; sources = f.sources ++ source_of defs t.table l ∷ [] }

unfoldable pub with_join : List TableDef → Tables → Join → Outcome Tables
with_join defs f j =
    and_then (opened defs f.called j.table) (λ t.
    and_then (link defs (f.called ++ t ∷ []) (length f.called) t.table j.kind) (λ l.
    Ok (with_table defs f t l)))

-- those joins after these tables
abbrev pub with_joins : List TableDef → Tables → List Join → Outcome Tables
with_joins defs f [] = Ok f
with_joins defs f (j ∷ js) = and_then (with_join defs f j) (λ g. with_joins defs g js)

unfoldable pub first : List TableDef → TableName → Outcome Tables
first defs t = and_then (opened defs [] t) (λ t. Ok (record { called = t ∷ []; sources = source_of defs t.table None ∷ [] }))

-- the tables of FROM
unfoldable pub tables_of : List TableDef → Source → Outcome Tables
tables_of defs s = and_then (first defs s.first) (λ f. with_joins defs f s.joins)

-- What holds of every query that is typed over a catalog: it is typed, its columns have the types that the catalog gives them, and on groups they are
-- group columns.
use Rattle.std.specs.Prelude.{◌≡◌, ℕ, ◌+◌, ◌<◌, true, List, All, length, map, slice_get, Option, Some, Ok, IsSome}
use Rattle.std.specs.List.{range_with_len}
use Rattle.std.specs.Option.{option_map, option_and_then, ForSome}
use Rattle.sql_read.specs.declared.definition.ColumnDef.{ColumnDef}
use Rattle.sql_read.specs.declared.definition.TableDef.{TableDef}
use Rattle.query_trees.specs.declared.query.Query.{Query}
use Rattle.typed_trees.specs.declared.typed.ColumnRef.{ColumnRef}
use Rattle.typed_trees.specs.declared.typed.ColumnType.{ColumnType}
use Rattle.typed_trees.specs.declared.typed.KeyRef.{KeyRef}
use Rattle.typed_trees.specs.declared.typed.KeyRef.TheVariants as key
use Rattle.typed_trees.specs.declared.typed.PlanSource.{PlanSource}
use Rattle.typed_trees.specs.declared.typed.TypedExpr.{TypedExpr}
use Rattle.typed_trees.specs.declared.typed.TypedQuery.{TypedQuery}
use Rattle.typed_trees.specs.Columns.{columns_in}
use Rattle.typed_trees.specs.Typed.{IsTyped}
use Rattle.query_types.specs.Names.{columns_of, type_of_column, is_group_column}
use Rattle.query_types.specs.Sources.{is_key, same_types}
use Rattle.query_types.specs.Typing.{typed_query}

-- a query that has a typed form is typed
abbrev pub TypedLaw : Type 0
TypedLaw = (q : Query) (defs : List TableDef) (t : TypedQuery) → typed_query q defs ≡ Ok t → IsTyped t

-- ---- columns

-- the type of a column of FROM, whose tables stand at these places of the catalog
abbrev pub column_at : List TableDef → List ℕ → ColumnRef → Option ColumnType
column_at defs places c = option_map type_of_column (option_and_then (λ table. slice_get (columns_of defs table) c.column) (slice_get places c.source))

abbrev pub IsDeclared : List TableDef → List ℕ → ColumnRef × ColumnType → Type 0
IsDeclared defs places x = column_at defs places x.0 ≡ Some x.1

-- each column of an expression has its definition's type
abbrev pub AreDeclared : List TableDef → List ℕ → TypedExpr → Type 0
AreDeclared defs places e = All (IsDeclared defs places) (columns_in e)

abbrev pub IsColumn : List TableDef → List ℕ → ColumnRef → Type 0
IsColumn defs places c = IsSome (column_at defs places c)

-- a key of ORDER BY is one of so many items, or a column
abbrev pub IsKey : List TableDef → List ℕ → ℕ → KeyRef → Type 0
IsKey defs places items (key.Item k) = k < items
IsKey defs places items (key.Column c) = IsColumn defs places c

abbrev pub places_of : TypedQuery → List ℕ
places_of t = map (λ s. s.table) t.sources

-- a key join pairs a column to the left of the s-th table with that table's own key, of one type
pub record IsJoin (defs : List TableDef) (places : List ℕ) (s table : ℕ) (j : ColumnRef × ℕ) : Type 0 where
  pub own : ColumnDef
  pub type : ColumnType
  pub left : j.0.source < s
  pub left_type : column_at defs places j.0 ≡ Some type
  pub own_column : slice_get (columns_of defs table) j.1 ≡ Some own
  pub key : is_key defs table own.name ≡ true
  pub one_type : same_types (type_of_column own) type ≡ true

-- the s-th table of FROM is one of the catalog, with all its columns
pub record IsTable (defs : List TableDef) (places : List ℕ) (s : ℕ) (x : PlanSource) : Type 0 where
  pub known : x.table < length defs
  pub columns : x.columns ≡ range_with_len 0 (length (columns_of defs x.table))
  pub join : ForSome x.join (IsJoin defs places s x.table)

pub record IsOfCatalog (defs : List TableDef) (t : TypedQuery) : Type 0 where
  pub sources : (s : ℕ) (x : PlanSource) → slice_get t.sources s ≡ Some x → IsTable defs (places_of t) s x
  pub filter : All (AreDeclared defs (places_of t)) t.filter
  pub aggregates : All (λ a. ForSome a.argument (AreDeclared defs (places_of t))) t.aggregates
  pub having : ForSome t.having (AreDeclared defs (places_of t))
  pub items : All (AreDeclared defs (places_of t)) t.items
  pub groups : All (IsColumn defs (places_of t)) t.groups
  pub order : All (λ k. IsKey defs (places_of t) (length t.items) k.key) t.order
  pub names : length t.names ≡ length t.items

-- the columns of a query that has a typed form are those of the catalog
abbrev pub ColumnLaw : Type 0
ColumnLaw = (q : Query) (defs : List TableDef) (t : TypedQuery) → typed_query q defs ≡ Ok t → IsOfCatalog defs t

-- ---- groups

abbrev pub AreGroupColumns : List ColumnRef → TypedExpr → Type 0
AreGroupColumns groups e = All (λ x. is_group_column groups x.0 ≡ true) (columns_in e)

abbrev pub IsGroupKey : List ColumnRef → KeyRef → Type 0
IsGroupKey groups (key.Item k) = Unit {0}
IsGroupKey groups (key.Column c) = is_group_column groups c ≡ true

-- outside aggregates the columns are group columns
pub record IsOnGroups (t : TypedQuery) : Type 0 where
  pub having : ForSome t.having (AreGroupColumns t.groups)
  pub items : All (AreGroupColumns t.groups) t.items
  pub order : All (λ k. IsGroupKey t.groups k.key) t.order

-- a query with group columns or aggregates is answered on groups
abbrev pub GroupLaw : Type 0
GroupLaw = (q : Query) (defs : List TableDef) (t : TypedQuery) → typed_query q defs ≡ Ok t → 0 < length t.groups + length t.aggregates → IsOnGroups t

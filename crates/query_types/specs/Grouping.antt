-- The group columns: those of GROUP BY, or what DISTINCT selects. After SQL-92 (ISO/IEC 9075:1992), 7.7 <group by clause> and 7.9 <query specification>.
use Rattle.std.specs.Prelude.{ℕ, suc, nat_le, nat_lt, Bool, true, false, not, ◌||◌, List, [], ◌∷◌, ◌++◌, length, map, Option, Some, None, is_some, Ok}
use Rattle.std.specs.List.{list_any, list_all}
use Rattle.sql_read.specs.declared.definition.ColumnDef.{ColumnDef}
use Rattle.sql_read.specs.declared.definition.TableDef.{TableDef}
use Rattle.query_trees.specs.declared.expr.ColumnName.{ColumnName}
use Rattle.query_trees.specs.declared.clauses.SelectItem.{SelectItem}
use Rattle.query_trees.specs.declared.clauses.SelectList.{SelectList}
use Rattle.query_trees.specs.declared.clauses.SelectList.TheVariants as select
use Rattle.query_trees.specs.declared.query.Query.{Query}
use Rattle.query_types.specs.declared.refusal.TypeKind.TheVariants.{UnknownColumn, NotColumns, TooManyKeys}
use Rattle.typed_trees.specs.declared.typed.ColumnRef.{ColumnRef}
use Rattle.query_types.specs.declared.scope.Called.{Called}
use Rattle.query_types.specs.declared.stars.Starred.{Starred}
use Rattle.query_types.specs.Names.{columns_of, column_ref, type_of_column, resolved}
use Rattle.query_types.specs.Expressions.{has_aggregate, column_alone}
use Rattle.query_types.specs.Outcomes.{Outcome, refuse, refuse_if, and_then}

-- ---- `*`: all columns of all tables of FROM, in order

abbrev pub starred : ℕ → ℕ → ColumnDef → Starred
starred s k c = record { column = column_ref s k; type_ = type_of_column c; name = c.name }

abbrev pub table_columns : ℕ → ℕ → List ColumnDef → List Starred
table_columns s k [] = []
table_columns s k (c ∷ cs) = starred s k c ∷ table_columns s (suc k) cs

abbrev pub every_column : List TableDef → ℕ → List Called → List Starred
every_column defs s [] = []
every_column defs s (t ∷ ts) = table_columns s 0 (columns_of defs t.table) ++ every_column defs (suc s) ts

-- ---- GROUP BY

-- those columns after these, at most four
abbrev pub grouped_by : List TableDef → List Called → List ColumnRef → List ColumnName → Outcome (List ColumnRef)
grouped_by defs tables before [] = Ok before
grouped_by defs tables before (c ∷ cs) =
    refuse_if (nat_le 4 (length before)) TooManyKeys c.at
    (and_then (resolved defs tables c) (λ f. grouped_by defs tables (before ++ f.column ∷ []) cs))

-- ---- DISTINCT

abbrev pub is_column_item : SelectItem → Bool
is_column_item x = is_some (column_alone x.value)

-- the column that an item is
abbrev pub column_of_item : List TableDef → List Called → SelectItem → Option ColumnName → Outcome ColumnRef
column_of_item defs tables x (Some c) = and_then (resolved defs tables c) (λ f. Ok f.column)
column_of_item defs tables x None = refuse UnknownColumn x.value.at

-- the columns that those items are, after these, at most four
abbrev pub selected : List TableDef → List Called → List ColumnRef → List SelectItem → Outcome (List ColumnRef)
selected defs tables before [] = Ok before
selected defs tables before (x ∷ xs) =
    refuse_if (nat_le 4 (length before)) TooManyKeys x.value.at
    (and_then (column_of_item defs tables x (column_alone x.value)) (λ c. selected defs tables (before ++ c ∷ []) xs))

abbrev pub columns_starred : List Starred → List ColumnRef
columns_starred all = map (λ f. f.column) all

-- what DISTINCT at this byte selects
abbrev pub distinct : List TableDef → List Called → ℕ → SelectList → Outcome (List ColumnRef)
distinct defs tables at (select.All star) =
    refuse_if (nat_lt 4 (length (every_column defs 0 tables))) TooManyKeys star (Ok (columns_starred (every_column defs 0 tables)))
distinct defs tables at (select.Items xs) =
    refuse_if (not (list_all is_column_item xs)) NotColumns at (selected defs tables [] xs)

-- ---- the group columns of a query

abbrev pub is_written : List ColumnName → Bool
is_written [] = false
is_written (c ∷ cs) = true

abbrev pub groups_by : List TableDef → List Called → List ColumnName → SelectList → Option ℕ → Outcome (List ColumnRef)
groups_by defs tables columns list None = grouped_by defs tables [] columns
groups_by defs tables columns list (Some at) = refuse_if (is_written columns) NotColumns at (distinct defs tables at list)

unfoldable pub groups_of : List TableDef → List Called → Query → Outcome (List ColumnRef)
groups_of defs tables q = groups_by defs tables q.groups q.list q.distinct

abbrev pub item_aggregates : SelectItem → Bool
item_aggregates x = has_aggregate x.value

abbrev pub aggregates : SelectList → Bool
aggregates (select.All star) = false
aggregates (select.Items xs) = list_any item_aggregates xs

-- A query is grouped where it has GROUP BY, DISTINCT or an aggregate among its items.
unfoldable pub is_grouped : Query → Bool
is_grouped q = is_written q.groups || (is_some q.distinct || aggregates q.list)

-- The answer of a query over tables: filters, maps and stable sorts over lists of rows.
-- After SQL-92 (ISO/IEC 9075:1992), 7.3 to 7.9 and 13.1, where a table is a multiset of rows. Here it is a list, in the order of its file, and every
-- order that the standard leaves open is settled: pairs, kept rows and groups have one, and null is below every value.
use Rattle.std.specs.Prelude.{ℕ, Bool, true, false, List, [], ◌∷◌, ◌++◌, map, filter, flat_map, fold, zip, slice_index_or, Option, Some, None, unwrap_or, option_to_list, Result, Ok}
use Rattle.std.specs.declared.cmp.Ordering.{Ordering}
use Rattle.std.specs.declared.cmp.Ordering.TheVariants.{Equal}
use Rattle.std.specs.Cmp.Lexicographic.{slice_cmp}
use Rattle.std.specs.List.{list_all}
use Rattle.std.specs.Map.{lookup}
use Rattle.std.specs.Ordering.{is_lt, is_eq, ordering_then}
use Rattle.control_vectors.specs.declared.Over.{Over}
use Rattle.dict_codes.specs.Ascending.{ascending}
use Rattle.sort_order.specs.Orders.{sorted_by}
use Rattle.sql_values.specs.Values.{Value, truth, null, by_value}
use Rattle.table_load.specs.Values.{Table, same_value, value_at}
use Rattle.typed_trees.specs.declared.typed.ColumnRef.{ColumnRef}
use Rattle.typed_trees.specs.declared.typed.KeyRef.{KeyRef}
use Rattle.typed_trees.specs.declared.typed.KeyRef.TheVariants.{Item, Column}
use Rattle.typed_trees.specs.declared.typed.OrderKey.{OrderKey}
use Rattle.typed_trees.specs.declared.typed.PlanSource.{PlanSource}
use Rattle.typed_trees.specs.declared.typed.TypedExpr.{TypedExpr}
use Rattle.typed_trees.specs.declared.typed.TypedQuery.{TypedQuery}
use Rattle.typed_trees.specs.Names.{same_column}
use Rattle.typed_values.specs.Aggregates.{aggregate_value}
use Rattle.typed_values.specs.Values.{Valued, On, value, value_on_row, both}
use Rattle.query_answers.specs.Clauses.{Clauses, clauses_of}
use Rattle.query_answers.specs.Overs.{◌>>=◌, each, is_met, kept}

abbrev pub Row : Type 0
Row = List Value

-- ---- FROM: from-rows (7.4 <from clause>, 7.5 <joined table>)

-- a row of each source, in order
abbrev pub FromRow : Type 0
FromRow = List Row

abbrev pub column_value : FromRow → ColumnRef → Value
column_value row c = value_at c.column (slice_index_or row c.source [])

-- a cross join pairs each row so far with each added row, a key join with the added row whose key is equal, and a null is equal to none (8.2)
abbrev pub pairs_with : Option (ColumnRef × ℕ) → FromRow → Row → Bool
pairs_with None row added = true
pairs_with (Some on) row added = same_value (column_value row on.0) (value_at on.1 added)

-- the pairs, the row so far first in order
abbrev pub joined : (FromRow → Row → Bool) → List FromRow → List Row → List FromRow
joined pairs rows added = flat_map (λ row. map (λ r. row ++ r ∷ []) (filter (pairs row) added)) rows

-- the conditions on a table's rows alone
abbrev pub meets : List TypedExpr → Row → Bool
meets parts r = list_all (λ e. is_met (value_on_row (λ c. value_at c.column r) e)) parts

abbrev pub source_rows : List Table → PlanSource → List Row
source_rows tables s = filter (meets s.filter) (slice_index_or (map (λ t. t.rows) tables) s.table [])

-- one row of no source, extended by each source from left to right
abbrev pub from_rows : List Table → List PlanSource → List FromRow
from_rows tables sources = fold (λ rows s. joined (pairs_with s.join) rows (source_rows tables s)) ([] ∷ []) sources

-- ---- WHERE: kept rows (7.6 <where clause>)

abbrev pub on_row : FromRow → On
on_row row = record { column = column_value row; aggregate = λ n. Ok null }

-- the parts that AND joins (8.12), none of which is left out
abbrev pub condition : List TypedExpr → On → Valued
condition parts on = do
  truths ← each (value on) parts
  Ok (fold both (truth true) truths)

abbrev pub kept_rows : List Table → Clauses → Result (List FromRow) Over
kept_rows tables q = kept (λ row. condition q.filter (on_row row)) (from_rows tables q.sources)

-- ---- GROUP BY: groups (7.7 <group by clause>)

pub record Group : Type 0 where
  pub key : List Value
  pub rows : List FromRow

abbrev pub group_key : List ColumnRef → FromRow → List Value
group_key columns row = map (column_value row) columns

abbrev pub by_key : List Value → List Value → Ordering
by_key = slice_cmp by_value

abbrev pub group_at : List ColumnRef → List FromRow → List Value → Group
group_at columns rows key = record { key = key; rows = filter (λ row. is_eq (by_key key (group_key columns row))) rows }

-- the distinct keys, ascending, each with its rows in order; without group columns all rows are one group, even where there is none
abbrev pub groups_of : List ColumnRef → List FromRow → List Group
groups_of [] rows = record { key = []; rows = rows } ∷ []
groups_of (c ∷ cs) rows = map (group_at (c ∷ cs) rows) (ascending by_key (map (group_key (c ∷ cs)) rows))

-- the value that all rows of a group have in a group column
abbrev pub group_value : List ColumnRef → List Value → ColumnRef → Value
group_value columns key c = unwrap_or (lookup (same_column c) (zip columns key)) null

-- a group with the values of its aggregates (6.5 <set function specification>), each of which counts, whether an item shows it or not
abbrev pub on_group : Clauses → Group → Result On Over
on_group q g = do
  values ← each (λ a. aggregate_value a (map column_value g.rows)) q.aggregates
  Ok (record { column = group_value q.groups g.key; aggregate = λ n. Ok (slice_index_or values n null) })

-- ---- HAVING and SELECT: output rows (7.8 <having clause>, 7.9 <query specification>)

-- what the items are evaluated on: the kept rows, or the groups of which HAVING is true
abbrev pub selected : Clauses → Bool → List FromRow → Result (List On) Over
selected q false rows = Ok (map on_row rows)
selected q true rows = do
  groups ← each (on_group q) (groups_of q.groups rows)
  kept (condition (option_to_list q.having)) groups

-- the items' values, and what ORDER BY may ask beside them
pub record OutputRow : Type 0 where
  pub on : On
  pub items : List Value

abbrev pub output_row : Clauses → On → Result OutputRow Over
output_row q on = do
  items ← each (value on) q.items
  Ok (record { on = on; items = items })

-- ---- ORDER BY (13.1 <order by clause>)

abbrev pub key_value : KeyRef → OutputRow → Value
key_value (Item n) r = slice_index_or r.items n null
key_value (Column c) r = r.on.column c

-- DESC turns the order of a key round
abbrev pub directed : Bool → Value → Value → Ordering
directed false a b = by_value a b
directed true a b = by_value b a

-- the first key that tells two rows apart decides
abbrev pub by_keys : List OrderKey → OutputRow → OutputRow → Ordering
by_keys [] a b = Equal
by_keys (k ∷ ks) a b = ordering_then (directed k.descending (key_value k.key a) (key_value k.key b)) (by_keys ks a b)

abbrev pub comes_before : List OrderKey → OutputRow → OutputRow → Bool
comes_before keys a b = is_lt (by_keys keys a b)

-- rows that no key tells apart keep their order
abbrev pub in_order : List OrderKey → List OutputRow → List OutputRow
in_order keys rows = sorted_by (comes_before keys) rows

-- ---- the answer

unfoldable pub answer : List Table → Clauses → Result (List Row) Over
answer tables q = do
  rows ← kept_rows tables q
  places ← selected q q.grouped rows
  outputs ← each (output_row q) places
  Ok (map (λ o. o.items) (in_order q.order outputs))

-- of a typed query
abbrev pub query_answer : List Table → TypedQuery → Result (List Row) Over
query_answer tables q = answer tables (clauses_of q)

-- The laws of answers: of the kept rows of a list in two parts, of a condition's parts, of joins, of groups as runs, and of the order.
use Rattle.std.specs.Prelude.{◌≡◌, ℕ, ◌*◌, ◌/◌, ◌%◌, Bool, true, false, not, if◌then◌else◌, List, [], ◌∷◌, ◌++◌, length, map, filter, slice_index_or, Some, option_map, Ok, Err, is_err}
use Rattle.std.specs.List.{AllPairs, Contains, find, filter_map, list_all, list_any, range_with_len}
use Rattle.std.specs.List.Sorted.{IsSortedBy, IsStableBy}
use Rattle.std.specs.Ordering.{is_eq}
use Rattle.control_vectors.specs.Runs.{Tuple, tuple_eq, run_marks}
use Rattle.control_vectors.specs.Slots.{over}
use Rattle.sort_order.specs.Orders.{sorted_by}
use Rattle.sql_values.specs.Values.{Value}
use Rattle.table_load.specs.Values.{Table, same_value, value_at}
use Rattle.typed_trees.specs.declared.typed.ColumnRef.{ColumnRef}
use Rattle.typed_trees.specs.declared.typed.OrderKey.{OrderKey}
use Rattle.typed_trees.specs.declared.typed.PlanSource.{PlanSource}
use Rattle.typed_trees.specs.declared.typed.TypedExpr.{TypedExpr}
use Rattle.typed_trees.specs.Names.{same_column}
use Rattle.typed_values.specs.Values.{Valued, On, value, value_on_row}
use Rattle.query_answers.specs.Clauses.{Clauses}
use Rattle.query_answers.specs.Overs.{◌>>=◌, is_met, kept}
use Rattle.query_answers.specs.Answers.{Row, FromRow, pairs_with, joined, meets, from_rows, on_row, condition, column_value, group_key, by_key, groups_of, group_value, OutputRow, comes_before, in_order, answer}
use Rattle.query_answers.specs.Runs.{key_before, key_marks, key_runs, run_group}

-- ---- kept rows

pub record KeptLaws : Type 0 where
  -- a condition that is Over on one row is so on all, and else each row counts by itself
  pub kept_are : (c : FromRow → Valued) (rows : List FromRow) → kept c rows ≡ (if list_any (λ row. is_err (c row)) rows then Err over else Ok (filter (λ row. is_met (c row)) rows))
  -- those of a list in two parts
  pub in_two : (c : FromRow → Valued) (rows more : List FromRow) → kept c (rows ++ more) ≡ (kept c rows >>= λ a. kept c more >>= λ b. Ok (a ++ b))
  -- a condition is true where each of its parts is, in whatever order they stand
  pub all_parts : (parts : List TypedExpr) (on : On) → is_met (condition parts on) ≡ list_all (λ e. is_met (value on e)) parts
  -- and Over where one of them is
  pub some_part : (parts : List TypedExpr) (on : On) → is_err (condition parts on) ≡ list_any (λ e. is_err (value on e)) parts

-- ---- joins

-- the i-th of n times m pairs is that of the places i / m and i % m
abbrev pub pair_at : List FromRow → List Row → ℕ → FromRow
pair_at rows added i = slice_index_or rows (i / length added) [] ++ slice_index_or added (i % length added) [] ∷ []

-- no two rows have an equal value in a column
abbrev pub IsKey : ℕ → List Row → Type 0
IsKey key rows = AllPairs (λ r s. same_value (value_at key r) (value_at key s) ≡ false) rows

-- a source with more conditions on its rows alone
abbrev pub with_parts : List TypedExpr → PlanSource → PlanSource
with_parts parts s = record s { filter = s.filter ++ parts }

pub record JoinLaws : Type 0 where
  pub cross : (rows : List FromRow) (added : List Row) → joined (λ row r. true) rows added ≡ map (pair_at rows added) (range_with_len 0 (length rows * length added))
  -- a key has one row at most, and a row without it is dropped
  pub one_key : (on : ColumnRef × ℕ) (rows : List FromRow) (added : List Row) → IsKey on.1 added
      → joined (pairs_with (Some on)) rows added ≡ filter_map (λ row. option_map (λ r. row ++ r ∷ []) (find (pairs_with (Some on) row) added)) rows
  -- conditions on one source's rows alone hold before the joins or after them
  pub pushed : (tables : List Table) (front : List PlanSource) (s : PlanSource) (others : List PlanSource) (parts : List TypedExpr)
      → from_rows tables (front ++ with_parts parts s ∷ others) ≡ filter (λ row. meets parts (slice_index_or row (length front) [])) (from_rows tables (front ++ s ∷ others))

-- ---- plans

-- a source with these columns
abbrev pub with_columns : List ℕ → PlanSource → PlanSource
with_columns columns s = record s { columns = columns }

-- a query whose sources and whose parts of WHERE are these
abbrev pub over_sources : List PlanSource → List TypedExpr → Clauses → Clauses
over_sources sources parts q = record q { sources = sources; filter = parts }

-- on a row of the source in a place alone
abbrev pub on_source : ℕ → FromRow → ColumnRef → Value
on_source n row c = value_at c.column (slice_index_or row n [])

pub record PlanLaws : Type 0 where
  -- nothing is asked of the columns that a source has
  pub narrowed : (tables : List Table) (columns : PlanSource → List ℕ) (q : Clauses) → answer tables (record q { sources = map (λ s. with_columns (columns s) s) q.sources }) ≡ answer tables q
  -- parts of WHERE that ask of one source alone may be asked of its table's rows, where no part is Over on a from-row
  pub moved : (tables : List Table) (front : List PlanSource) (s : PlanSource) (others : List PlanSource) (moves : TypedExpr → Bool) (parts : List TypedExpr) (q : Clauses)
      → ((row : FromRow) → Contains (from_rows tables (front ++ s ∷ others)) row → list_any (λ e. is_err (value (on_row row) e)) parts ≡ false)
      → ((row : FromRow) (e : TypedExpr) → moves e ≡ true → value (on_row row) e ≡ value_on_row (on_source (length front) row) e)
      → answer tables (over_sources (front ++ with_parts (filter moves parts) s ∷ others) (filter (λ e. not (moves e)) parts) q) ≡ answer tables (over_sources (front ++ s ∷ others) parts q)

-- ---- groups

pub record RunLaws : Type 0 where
  -- groups are the runs of the rows in any order that ascends by the group columns and leaves ties as they were
  pub groups_are : (c : ColumnRef) (cs : List ColumnRef) (rows sorted : List FromRow) → IsSortedBy (key_before (c ∷ cs)) sorted → IsStableBy (key_before (c ∷ cs)) rows sorted
      → groups_of (c ∷ cs) rows ≡ map (run_group (c ∷ cs)) (key_runs (c ∷ cs) sorted)
  -- a group's value in a group column is that of each row of its key
  pub key_column : (columns : List ColumnRef) (row : FromRow) (c : ColumnRef) → list_any (same_column c) columns ≡ true → group_value columns (group_key columns row) c ≡ column_value row c
  -- where tuples of slots are equal as the keys are, they mark the same runs
  pub marks_are : (columns : List ColumnRef) (tuple : FromRow → Tuple) (rows : List FromRow)
      → ((r s : FromRow) → Contains rows r → Contains rows s → tuple_eq (tuple r) (tuple s) ≡ is_eq (by_key (group_key columns r) (group_key columns s)))
      → run_marks (map tuple rows) ≡ key_marks (map (group_key columns) rows)

-- ---- order

pub record OrderLaws : Type 0 where
  -- no row comes before an earlier one
  pub ascends : (keys : List OrderKey) (rows : List OutputRow) → IsSortedBy (comes_before keys) (in_order keys rows)
  -- rows that no key tells apart stay in their order, of a descending key too
  pub stable : (keys : List OrderKey) (rows : List OutputRow) → IsStableBy (comes_before keys) rows (in_order keys rows)
  -- nothing else is so
  pub only : (keys : List OrderKey) (rows sorted : List OutputRow) → IsSortedBy (comes_before keys) sorted → IsStableBy (comes_before keys) rows sorted → sorted ≡ in_order keys rows
  -- the places of rows, sorted as the rows are
  pub of_places : (keys : List OrderKey) (row : ℕ → OutputRow) (places : List ℕ) → in_order keys (map row places) ≡ map row (sorted_by (λ i j. comes_before keys (row i) (row j)) places)

-- Worked answers: small tables, a query over them and its rows, worked out by hand after SQL-92 (ISO/IEC 9075:1992), 7.3 to 7.9 and 13.1.
-- The query stands above each as it is written. A date is its day, and a decimal the number without its point.
use Rattle.std.specs.Prelude.{◌≡◌, ℕ, pos, negsuc, true, false, List, [], ◌∷◌, map, codes, Some, None, Result, Ok, Err}
use Rattle.control_vectors.specs.declared.Over.{Over}
use Rattle.control_vectors.specs.Slots.{over}
use Rattle.query_trees.specs.declared.expr.BinaryOp.{BinaryOp}
use Rattle.query_trees.specs.declared.expr.BinaryOp.TheVariants as op
use Rattle.query_trees.specs.declared.expr.Polarity.TheVariants.{Plain}
use Rattle.sql_read.specs.declared.definition.ColumnKind.TheVariants.{Integer, Decimal, Text}
use Rattle.sql_values.specs.Values.{Value, number, text, null}
use Rattle.table_load.specs.Values.{Table}
use Rattle.typed_trees.specs.declared.typed.Aggregate.{Aggregate}
use Rattle.typed_trees.specs.declared.typed.AggregateKind.{AggregateKind}
use Rattle.typed_trees.specs.declared.typed.AggregateKind.TheVariants as of
use Rattle.typed_trees.specs.declared.typed.ColumnRef.{ColumnRef}
use Rattle.typed_trees.specs.declared.typed.KeyRef.TheVariants.{Item, Column}
use Rattle.typed_trees.specs.declared.typed.OrderKey.{OrderKey}
use Rattle.typed_trees.specs.declared.typed.PlanSource.{PlanSource}
use Rattle.typed_trees.specs.declared.typed.TypedExpr.{TypedExpr}
use Rattle.typed_trees.specs.declared.typed.TypedExpr.TheVariants as e
use Rattle.typed_trees.specs.declared.typed.TypedQuery.{TypedQuery}
use Rattle.typed_values.specs.Aggregates.{aggregate_value}
use Rattle.query_answers.specs.Clauses.{clauses_of}
use Rattle.query_answers.specs.Overs.{each}
use Rattle.query_answers.specs.Answers.{Row, FromRow, column_value, from_rows, kept_rows, groups_of, answer, query_answer}

-- ---- how tables and queries are written here

abbrev pub table_of : ℕ → List Row → Table
table_of degree rows = record { degree = degree; rows = rows }

abbrev pub int : ℕ → Value
int n = number (pos n)

-- the column in this place of the first source; as an expression, of an INTEGER or of a text
abbrev pub column : ℕ → ColumnRef
column n = record { source = 0; column = n }

abbrev pub integer : ℕ → TypedExpr
integer n = e.Column (column n) (record { kind = Integer; width = 0; scale = 0 })

abbrev pub texts : ℕ → TypedExpr
texts n = e.Column (column n) (record { kind = Text; width = 9; scale = 0 })

abbrev pub times : TypedExpr → TypedExpr → TypedExpr
times x y = e.Binary op.Multiply x y

-- SUM, MIN, MAX, AVG or COUNT of an expression; COUNT(*)
abbrev pub of_each : AggregateKind → TypedExpr → Aggregate
of_each kind x = record { kind = kind; argument = Some x }

abbrev pub all_rows : Aggregate
all_rows = record { kind = of.Count; argument = None }

-- the table in this place
abbrev pub first : ℕ → PlanSource
first table = record { table = table; columns = []; filter = []; join = None }

-- SELECT items FROM the first table
abbrev pub select : List TypedExpr → TypedQuery
select items = record { sources = first 0 ∷ []; filter = []; groups = []; aggregates = []; having = None; items = items; order = []; names = [] }

abbrev pub where_ : List TypedExpr → TypedQuery → TypedQuery
where_ parts q = record q { filter = parts }

abbrev pub totals : List Aggregate → TypedQuery → TypedQuery
totals aggregates q = record q { aggregates = aggregates }

abbrev pub group_by : List ColumnRef → TypedQuery → TypedQuery
group_by groups q = record q { groups = groups }

abbrev pub having_ : TypedExpr → TypedQuery → TypedQuery
having_ x q = record q { having = Some x }

-- an item, turned round
abbrev pub by_item : ℕ → OrderKey
by_item n = record { key = Item n; descending = true }

abbrev pub order_by : List OrderKey → TypedQuery → TypedQuery
order_by order q = record q { order = order }

-- the greatest number of 64 bits
abbrev pub most : Value
most = int 9223372036854775807

abbrev pub minus_one : Value
minus_one = number (negsuc 0)

-- rows of one column
abbrev pub one_column : List Value → List Row
one_column values = map (λ v. v ∷ []) values

abbrev pub rows_are : List Row → Result (List Row) Over
rows_are rows = Ok rows

abbrev pub too_wide : Result (List Row) Over
too_wide = Err over

-- ---- totals, without GROUP BY

-- a*a, for the table's first column a
abbrev pub square : TypedExpr
square = times (integer 0) (integer 0)

abbrev pub of_signs : List Row
of_signs = map (λ b. most ∷ b ∷ []) (int 1 ∷ int 1 ∷ int 1 ∷ minus_one ∷ minus_one ∷ minus_one ∷ [])

abbrev pub sum_of : TypedExpr → TypedQuery
sum_of x = totals (of_each of.Sum x ∷ []) (select (e.Aggregate 0 0 ∷ []))

pub record Totals : Type 0 where
  -- SELECT SUM(a) FROM t, with 1, 2 and 3
  pub a_sum : query_answer (table_of 1 (one_column (int 1 ∷ int 2 ∷ int 3 ∷ [])) ∷ []) (sum_of (integer 0)) ≡ rows_are ((int 6 ∷ []) ∷ [])
  -- SELECT SUM(a*a) FROM t, with the greatest number of 64 bits twice: 2 * (2^63 - 1)^2 has 128 bits, and a third time it leaves them
  pub a_wide_sum : query_answer (table_of 1 (one_column (most ∷ most ∷ [])) ∷ []) (sum_of square) ≡ rows_are ((int 170141183460469231694793815568465002498 ∷ []) ∷ [])
  pub a_sum_too_wide : query_answer (table_of 1 (one_column (most ∷ most ∷ most ∷ [])) ∷ []) (sum_of square) ≡ too_wide
  -- SELECT SUM(a*a*b) FROM t: three such squares and their opposites add to 0, whatever the first three add to
  pub a_sum_that_cancels : query_answer (table_of 2 of_signs ∷ []) (sum_of (times square (integer 1))) ≡ rows_are ((int 0 ∷ []) ∷ [])
  -- SELECT SUM(a), COUNT(*) FROM t, of no rows: one group
  pub no_rows :
      query_answer (table_of 1 [] ∷ []) (totals (of_each of.Sum (integer 0) ∷ all_rows ∷ []) (select (e.Aggregate 0 0 ∷ e.Aggregate 1 0 ∷ [])))
      ≡ rows_are ((null ∷ int 0 ∷ []) ∷ [])
  -- SELECT MIN(w), MAX(w), AVG(n) FROM m, with `RAIL` 7 and `AIRMAIL` 4: the greatest text is not the longest, and 11 / 2 is 5
  pub of_texts :
      query_answer (table_of 2 ((text (codes "RAIL") ∷ int 7 ∷ []) ∷ (text (codes "AIRMAIL") ∷ int 4 ∷ []) ∷ []) ∷ [])
      (totals (of_each of.Min (texts 0) ∷ of_each of.Max (texts 0) ∷ of_each of.Avg (integer 1) ∷ []) (select (e.Aggregate 0 0 ∷ e.Aggregate 1 0 ∷ e.Aggregate 2 0 ∷ [])))
      ≡ rows_are ((text (codes "AIRMAIL") ∷ text (codes "RAIL") ∷ int 5 ∷ []) ∷ [])

-- ---- conditions, joins and order

abbrev pub modes : Table
modes = table_of 1 (one_column (text (codes "RAIL") ∷ text (codes "AIR") ∷ text (codes "TRUCK") ∷ []))

abbrev pub positive : TypedExpr → TypedExpr
positive x = e.Binary op.Greater x (e.Number 0 0)

abbrev pub cube : TypedExpr
cube = times square (integer 0)

-- SELECT w FROM m WHERE w < 'MAIL', or = 'MAIL'
abbrev pub compared : BinaryOp → TypedQuery
compared o = where_ (e.Binary o (texts 0) (e.Text (codes "MAIL")) ∷ []) (select (texts 0 ∷ []))

-- SELECT t.a FROM t JOIN u ON t.k = u.id WHERE t.a*t.a*t.a > 0, where t(a, k) is the first table and u(id) the second
abbrev pub keyed : TypedQuery
keyed = record (where_ (positive cube ∷ []) (select (integer 0 ∷ []))) {
  sources = first 0 ∷ record { table = 1; columns = []; filter = []; join = Some (column 1, 0) } ∷ [];
}

abbrev pub one_row : Value → Table
one_row key = table_of 2 ((most ∷ key ∷ []) ∷ [])

abbrev pub keys_of : List Value → Table
keys_of keys = table_of 1 (one_column keys)

-- SELECT v FROM t ORDER BY k DESC
abbrev pub turned : TypedQuery
turned = order_by (record { key = Column (column 0); descending = true } ∷ []) (select (integer 1 ∷ []))

pub record Rows : Type 0 where
  pub below_a_text : query_answer (modes ∷ []) (compared op.Less) ≡ rows_are ((text (codes "AIR") ∷ []) ∷ [])
  pub equal_to_a_text : query_answer (modes ∷ []) (compared op.Equal) ≡ rows_are []
  -- the row that finds no key is dropped before WHERE, and so is one whose key is null
  pub a_key_that_is_not_there : query_answer (one_row (int 1) ∷ keys_of (int 2 ∷ []) ∷ []) keyed ≡ rows_are []
  pub a_null_key : query_answer (one_row null ∷ keys_of (null ∷ int 2 ∷ []) ∷ []) keyed ≡ rows_are []
  pub a_key_that_is_there : query_answer (one_row (int 1) ∷ keys_of (int 2 ∷ int 1 ∷ []) ∷ []) keyed ≡ too_wide
  -- SELECT a FROM t WHERE a < 0 AND a*a*a > 0: no part is left out
  pub a_part_too_wide : query_answer (one_row (int 1) ∷ []) (where_ (e.Binary op.Less (integer 0) (e.Number 0 0) ∷ positive cube ∷ []) (select (integer 0 ∷ []))) ≡ too_wide
  -- SELECT a.n, b.n FROM a, b: the first table's row goes slowest
  pub pairs :
      query_answer (keys_of (int 1 ∷ int 2 ∷ []) ∷ keys_of (int 7 ∷ int 8 ∷ []) ∷ [])
      (record (select (integer 0 ∷ e.Column (record { source = 1; column = 0 }) (record { kind = Integer; width = 0; scale = 0 }) ∷ [])) { sources = first 0 ∷ first 1 ∷ [] })
      ≡ rows_are ((int 1 ∷ int 7 ∷ []) ∷ (int 1 ∷ int 8 ∷ []) ∷ (int 2 ∷ int 7 ∷ []) ∷ (int 2 ∷ int 8 ∷ []) ∷ [])
  -- SELECT v FROM t ORDER BY k, v DESC: the second key decides between rows of one k
  pub two_keys :
      query_answer (table_of 2 ((int 1 ∷ int 10 ∷ []) ∷ (int 2 ∷ int 20 ∷ []) ∷ (int 1 ∷ int 30 ∷ []) ∷ []) ∷ [])
      (order_by (record { key = Column (column 0); descending = false } ∷ by_item 0 ∷ []) (select (integer 1 ∷ [])))
      ≡ rows_are ((int 30 ∷ []) ∷ (int 10 ∷ []) ∷ (int 20 ∷ []) ∷ [])
  -- SELECT a FROM t, as a plan that asks a > 1 of the table's rows: those of which it is not true are as if they were not there
  pub a_source_with_a_condition :
      answer (keys_of (int 1 ∷ null ∷ int 2 ∷ []) ∷ []) (record (clauses_of (select (integer 0 ∷ []))) { sources = record (first 0) { filter = e.Binary op.Greater (integer 0) (e.Number 1 0) ∷ [] } ∷ [] })
      ≡ rows_are ((int 2 ∷ []) ∷ [])
  -- two rows of one key stay in their order
  pub ties : query_answer (table_of 2 ((int 1 ∷ int 10 ∷ []) ∷ (int 2 ∷ int 20 ∷ []) ∷ (int 1 ∷ int 30 ∷ []) ∷ []) ∷ []) turned ≡ rows_are ((int 20 ∷ []) ∷ (int 10 ∷ []) ∷ (int 30 ∷ []) ∷ [])

-- ---- nulls, over n(g, a) with `x`, 1; null, 2; `x`, null; null, null

abbrev pub with_nulls : List Table
with_nulls = table_of 2 ((text (codes "x") ∷ int 1 ∷ []) ∷ (null ∷ int 2 ∷ []) ∷ (text (codes "x") ∷ null ∷ []) ∷ (null ∷ null ∷ []) ∷ []) ∷ []

abbrev pub above_one : TypedExpr
above_one = e.Binary op.Greater (integer 1) (e.Number 1 0)

pub record Nulls : Type 0 where
  -- SELECT g, COUNT(*) AS n, COUNT(a) AS k, SUM(a) AS s FROM n GROUP BY g
  pub a_null_group :
      query_answer with_nulls
      (group_by (column 0 ∷ []) (totals (all_rows ∷ of_each of.Count (integer 1) ∷ of_each of.Sum (integer 1) ∷ []) (select (texts 0 ∷ e.Aggregate 0 0 ∷ e.Aggregate 1 0 ∷ e.Aggregate 2 0 ∷ []))))
      ≡ rows_are ((null ∷ int 2 ∷ int 1 ∷ int 2 ∷ []) ∷ (text (codes "x") ∷ int 2 ∷ int 1 ∷ int 1 ∷ []) ∷ [])
  -- SELECT g FROM n GROUP BY g HAVING SUM(a) > 1
  pub a_total_in_having :
      query_answer with_nulls (having_ (e.Binary op.Greater (e.Aggregate 0 0) (e.Number 1 0)) (group_by (column 0 ∷ []) (totals (of_each of.Sum (integer 1) ∷ []) (select (texts 0 ∷ [])))))
      ≡ rows_are ((null ∷ []) ∷ [])
  -- SELECT DISTINCT g FROM n ORDER BY g DESC
  pub distinct_turned :
      query_answer with_nulls (order_by (record { key = Column (column 0); descending = true } ∷ []) (group_by (column 0 ∷ []) (select (texts 0 ∷ []))))
      ≡ rows_are ((text (codes "x") ∷ []) ∷ (null ∷ []) ∷ [])
  -- SELECT a FROM n WHERE NOT a > 1
  pub not_of_unknown : query_answer with_nulls (where_ (e.Not above_one ∷ []) (select (integer 1 ∷ []))) ≡ rows_are ((int 1 ∷ []) ∷ [])
  -- SELECT COALESCE(a, 0) + 1 AS b FROM n ORDER BY b DESC
  pub the_first_value :
      query_answer with_nulls (order_by (by_item 0 ∷ []) (select (e.Binary op.Add (e.Coalesce (integer 1) (e.Number 0 0 ∷ [])) (e.Number 1 0) ∷ [])))
      ≡ rows_are ((int 3 ∷ []) ∷ (int 2 ∷ []) ∷ (int 1 ∷ []) ∷ (int 1 ∷ []) ∷ [])
  -- SELECT a, g FROM n ORDER BY a DESC
  pub nulls_last :
      query_answer with_nulls (order_by (by_item 0 ∷ []) (select (integer 1 ∷ texts 0 ∷ [])))
      ≡ rows_are ((int 2 ∷ null ∷ []) ∷ (int 1 ∷ text (codes "x") ∷ []) ∷ (null ∷ text (codes "x") ∷ []) ∷ (null ∷ null ∷ []) ∷ [])
  -- SELECT COUNT(*) FROM n WHERE a > 1 OR a IS NULL
  pub is_null :
      query_answer with_nulls (where_ (e.Binary op.Or above_one (e.IsNull Plain (integer 1)) ∷ []) (totals (all_rows ∷ []) (select (e.Aggregate 0 0 ∷ []))))
      ≡ rows_are ((int 3 ∷ []) ∷ [])

-- ---- decimals, over p(amt, rate), a DECIMAL(10, 2) and a DECIMAL(4, 3), with 12.50, 0.125 and -0.05, 1

abbrev pub amount : TypedExpr
amount = e.Column (column 0) (record { kind = Decimal; width = 10; scale = 2 })

abbrev pub rate : TypedExpr
rate = e.Column (column 1) (record { kind = Decimal; width = 4; scale = 3 })

abbrev pub prices : List Table
prices = table_of 2 ((int 1250 ∷ int 125 ∷ []) ∷ (number (negsuc 4) ∷ int 1000 ∷ []) ∷ []) ∷ []

pub record Decimals : Type 0 where
  -- SELECT SUM(amt*rate), SUM(amt), AVG(amt), SUM(amt + rate) FROM p: 1.51250, 12.45, 6.22 and 13.575; half of 12.45 is 6.225
  pub sums :
      query_answer prices
      (totals (of_each of.Sum (times amount rate) ∷ of_each of.Sum amount ∷ of_each of.Avg amount ∷ of_each of.Sum (e.Binary op.Add amount rate) ∷ [])
      (select (e.Aggregate 0 5 ∷ e.Aggregate 1 2 ∷ e.Aggregate 2 2 ∷ e.Aggregate 3 3 ∷ [])))
      ≡ rows_are ((int 151250 ∷ int 1245 ∷ int 622 ∷ int 13575 ∷ []) ∷ [])
  -- SELECT amt FROM p WHERE amt < 0.001
  pub below_a_thousandth : query_answer prices (where_ (e.Binary op.Less amount (e.Number 1 3) ∷ []) (select (amount ∷ []))) ≡ rows_are ((number (negsuc 4) ∷ []) ∷ [])

-- ---- one answer, step by step:
-- SELECT g, SUM(a) AS s FROM n WHERE a < 5 OR a IS NULL GROUP BY g HAVING COUNT(*) > 1 ORDER BY s
-- over n(g, a) with `x`, 1; null, 2; `x`, null; null, null; `y`, 7; `z`, 3

abbrev pub rows_of_x : List Row
rows_of_x = (text (codes "x") ∷ int 1 ∷ []) ∷ (text (codes "x") ∷ null ∷ []) ∷ []

abbrev pub rows_of_null : List Row
rows_of_null = (null ∷ int 2 ∷ []) ∷ (null ∷ null ∷ []) ∷ []

abbrev pub row_of_z : Row
row_of_z = text (codes "z") ∷ int 3 ∷ []

abbrev pub walked_table : Table
walked_table =
    table_of 2 ((text (codes "x") ∷ int 1 ∷ []) ∷ (null ∷ int 2 ∷ []) ∷ (text (codes "x") ∷ null ∷ []) ∷ (null ∷ null ∷ []) ∷ (text (codes "y") ∷ int 7 ∷ []) ∷ row_of_z ∷ [])

abbrev pub walked : TypedQuery
walked =
    order_by (record { key = Item 1; descending = false } ∷ [])
    (having_ (e.Binary op.Greater (e.Aggregate 1 0) (e.Number 1 0))
    (group_by (column 0 ∷ [])
    (totals (of_each of.Sum (integer 1) ∷ all_rows ∷ [])
    (where_ (e.Binary op.Or (e.Binary op.Less (integer 1) (e.Number 5 0)) (e.IsNull Plain (integer 1)) ∷ [])
    (select (texts 0 ∷ e.Aggregate 0 0 ∷ []))))))

-- a row of one source
abbrev pub alone : Row → FromRow
alone row = row ∷ []

abbrev pub walked_kept : List FromRow
walked_kept = map alone ((text (codes "x") ∷ int 1 ∷ []) ∷ (null ∷ int 2 ∷ []) ∷ (text (codes "x") ∷ null ∷ []) ∷ (null ∷ null ∷ []) ∷ row_of_z ∷ [])

-- the values of the query's aggregates over some rows
abbrev pub walked_totals : List Row → Result (List Value) Over
walked_totals rows = each (λ a. aggregate_value a (map (λ row. column_value (alone row)) rows)) walked.aggregates

pub record Steps : Type 0 where
  pub from : from_rows (walked_table ∷ []) walked.sources ≡ map alone walked_table.rows
  -- the row of `y` is dropped
  pub where_ : kept_rows (walked_table ∷ []) (clauses_of walked) ≡ Ok walked_kept
  pub groups :
      groups_of walked.groups walked_kept
      ≡ record { key = null ∷ []; rows = map alone rows_of_null }
      ∷ record { key = text (codes "x") ∷ []; rows = map alone rows_of_x }
      ∷ record { key = text (codes "z") ∷ []; rows = alone row_of_z ∷ [] }
      ∷ []
  -- SUM(a) and COUNT(*) of each
  pub of_null : walked_totals rows_of_null ≡ Ok (int 2 ∷ int 2 ∷ [])
  pub of_x : walked_totals rows_of_x ≡ Ok (int 1 ∷ int 2 ∷ [])
  pub of_z : walked_totals (row_of_z ∷ []) ≡ Ok (int 3 ∷ int 1 ∷ [])
  -- HAVING drops the group of `z`, and ORDER BY puts `x` first
  pub rows : query_answer (walked_table ∷ []) walked ≡ rows_are ((text (codes "x") ∷ int 1 ∷ []) ∷ (null ∷ int 2 ∷ []) ∷ [])

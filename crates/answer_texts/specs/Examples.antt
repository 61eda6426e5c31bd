-- Worked texts of answers, worked out by hand. The query stands above each as it is written, and a row of the text on a line of its own.
use Rattle.std.specs.Prelude.{◌≡◌, ℕ, ℤ, pos, negsuc, List, [], ◌∷◌, codes, Ok, Err}
use Rattle.control_vectors.specs.Slots.{over}
use Rattle.query_trees.specs.declared.expr.BinaryOp.TheVariants as op
use Rattle.sql_read.specs.declared.definition.ColumnKind.TheVariants.{Date}
use Rattle.sql_values.specs.Values.{number, text, null}
use Rattle.table_load.specs.Values.{Table}
use Rattle.typed_trees.specs.declared.typed.AggregateKind.TheVariants as of
use Rattle.typed_trees.specs.declared.typed.TypedExpr.{TypedExpr}
use Rattle.typed_trees.specs.declared.typed.TypedExpr.TheVariants as e
use Rattle.typed_trees.specs.declared.typed.TypedQuery.{TypedQuery}
use Rattle.query_answers.specs.Answers.{Row}
use Rattle.query_answers.specs.Examples.{table_of, int, most, column, integer, texts, times, square, sum_of, of_each, all_rows, select, where_, totals, order_by, by_item, one_column, with_nulls, amount, rate, prices}
use Rattle.answer_texts.specs.Dates.{date_text}
use Rattle.answer_texts.specs.Numbers.{number_text}
use Rattle.answer_texts.specs.Texts.{answer_text}

-- ---- numbers

abbrev pub IsWritten : ℕ → ℤ → List ℕ → Type 0
IsWritten scale z written = number_text scale z ≡ written

abbrev pub NumberTexts : Type 0
NumberTexts =
    IsWritten 2 (negsuc 4) (codes "-0.05")
    × IsWritten 2 (pos 0) (codes "0.00")
    × IsWritten 2 (pos 100) (codes "1.00")
    × IsWritten 2 (negsuc 1249) (codes "-12.50")
    × IsWritten 1 (pos 9) (codes "0.9")
    × IsWritten 0 (pos 100) (codes "100")
    × IsWritten 0 (negsuc 6) (codes "-7")
    -- the greatest number of 128 bits at the greatest scale, and the least
    × IsWritten 36 (pos 170141183460469231731687303715884105727) (codes "170.141183460469231731687303715884105727")
    × IsWritten 0 (negsuc 170141183460469231731687303715884105727) (codes "-170141183460469231731687303715884105728")

-- ---- dates

abbrev pub IsDated : ℤ → List ℕ → Type 0
IsDated day written = date_text day ≡ written

abbrev pub DateTexts : Type 0
DateTexts =
    IsDated (pos 0) (codes "1970-01-01")
    × IsDated (negsuc 0) (codes "1969-12-31")
    -- a year's edge before 1970
    × IsDated (negsuc 364) (codes "1969-01-01")
    × IsDated (negsuc 365) (codes "1968-12-31")
    × IsDated (pos 10471) (codes "1998-09-02")
    × IsDated (pos 11016) (codes "2000-02-29")
    -- the first day and the last
    × IsDated (negsuc 719161) (codes "0001-01-01")
    × IsDated (pos 2932896) (codes "9999-12-31")

-- ---- answers

-- a query whose output has these names
abbrev pub under : List (List ℕ) → TypedQuery → TypedQuery
under names q = record q { names = names }

abbrev pub Prints : List Table → TypedQuery → List ℕ → Type 0
Prints tables q written = answer_text tables q ≡ Ok written

-- the first table's column in this place, a DATE
abbrev pub date : ℕ → TypedExpr
date n = e.Column (column n) (record { kind = Date; width = 0; scale = 0 })

-- 1998-09-02, 1969-12-31, 0001-01-01 and 9999-12-31
abbrev pub days : Row
days = number (pos 10471) ∷ number (negsuc 0) ∷ number (negsuc 719161) ∷ number (pos 2932896) ∷ []

-- a table of one column
abbrev pub one : Row → List Table
one values = table_of 1 (one_column values) ∷ []

pub record Texts : Type 0 where
  -- SELECT SUM(a) FROM t, with 1, 2 and 3
  pub a_sum : Prints (one (int 1 ∷ int 2 ∷ int 3 ∷ [])) (under (codes "c1" ∷ []) (sum_of (integer 0))) (codes "c1\n6\n")
  -- SELECT SUM(a*a) FROM t, where the sum leaves 128 bits
  pub a_sum_too_wide : answer_text (one (most ∷ most ∷ most ∷ [])) (under (codes "c1" ∷ []) (sum_of square)) ≡ Err over
  -- SELECT SUM(a), COUNT(*) FROM t, of no rows
  pub no_rows :
      Prints (one []) (under (codes "c1" ∷ codes "c2" ∷ []) (totals (of_each of.Sum (integer 0) ∷ all_rows ∷ []) (select (e.Aggregate 0 0 ∷ e.Aggregate 1 0 ∷ []))))
      (codes "c1,c2\n,0\n")
  -- SELECT a FROM t WHERE a > 1, of which no row is kept: the header alone
  pub a_header :
      Prints (one (int 1 ∷ [])) (under (codes "a" ∷ []) (where_ (e.Binary op.Greater (integer 0) (e.Number 1 0) ∷ []) (select (integer 0 ∷ []))))
      (codes "a\n")
  -- SELECT a FROM t, with a null: a row of one empty field has quotes, so that it is no empty line
  pub a_null : Prints (one (int 5 ∷ null ∷ [])) (under (codes "a" ∷ []) (select (integer 0 ∷ []))) (codes "a\n5\n\"\"\n")
  -- SELECT a, g FROM n ORDER BY a DESC
  pub nulls :
      Prints with_nulls (under (codes "a" ∷ codes "g" ∷ []) (order_by (by_item 0 ∷ []) (select (integer 1 ∷ texts 0 ∷ []))))
      (codes "a,g\n2,\n1,x\n,x\n,\n")
  -- SELECT w FROM m: a text that has a comma or a quote stands in quotes, and a quote in it twice
  pub quoted :
      Prints (one (text (codes "AIR") ∷ text (codes "a,b") ∷ text (codes "6\" x") ∷ [])) (under (codes "w" ∷ []) (select (texts 0 ∷ [])))
      (codes "w\nAIR\n\"a,b\"\n\"6\"\" x\"\n")
  -- SELECT SUM(amt*rate), SUM(amt), AVG(amt), SUM(amt + rate) FROM p, with 12.50, 0.125 and -0.05, 1
  pub decimals :
      Prints prices
      (under (codes "c1" ∷ codes "c2" ∷ codes "c3" ∷ codes "c4" ∷ [])
      (totals (of_each of.Sum (times amount rate) ∷ of_each of.Sum amount ∷ of_each of.Avg amount ∷ of_each of.Sum (e.Binary op.Add amount rate) ∷ [])
      (select (e.Aggregate 0 5 ∷ e.Aggregate 1 2 ∷ e.Aggregate 2 2 ∷ e.Aggregate 3 3 ∷ []))))
      (codes "c1,c2,c3,c4\n1.51250,12.45,6.22,13.575\n")
  -- SELECT amt FROM p WHERE amt < 0.001
  pub below_a_thousandth :
      Prints prices (under (codes "amt" ∷ []) (where_ (e.Binary op.Less amount (e.Number 1 3) ∷ []) (select (amount ∷ []))))
      (codes "amt\n-0.05\n")
  -- SELECT d FROM t
  pub dates :
      Prints (one days) (under (codes "d" ∷ []) (select (date 0 ∷ [])))
      (codes "d\n1998-09-02\n1969-12-31\n0001-01-01\n9999-12-31\n")
  -- SELECT MIN(d), MAX(d), COUNT(d) FROM t: the least and the greatest date are dates, and their count is a number
  pub totals_of_dates :
      Prints (one days)
      (under (codes "c1" ∷ codes "c2" ∷ codes "c3" ∷ [])
      (totals (of_each of.Min (date 0) ∷ of_each of.Max (date 0) ∷ of_each of.Count (date 0) ∷ []) (select (e.Aggregate 0 0 ∷ e.Aggregate 1 0 ∷ e.Aggregate 2 0 ∷ []))))
      (codes "c1,c2,c3\n0001-01-01,9999-12-31,4\n")

-- Worked aggregates, after SQL-92 (ISO/IEC 9075:1992), 6.5: values, and their count, sum, least, greatest and mean.
use Rattle.std.specs.Prelude.{◌≡◌, pos, negsuc, List, [], ◌∷◌, map, Some, None}
use Rattle.sql_values.specs.Values.{Value, number, text, null}
use Rattle.query_trees.specs.declared.expr.BinaryOp.TheVariants as op
use Rattle.typed_trees.specs.declared.typed.AggregateKind.TheVariants.{Count, Sum, Min, Max, Avg}
use Rattle.typed_trees.specs.declared.typed.ColumnRef.{ColumnRef}
use Rattle.typed_trees.specs.declared.typed.TypedExpr.{TypedExpr}
use Rattle.typed_trees.specs.declared.typed.TypedExpr.TheVariants as e
use Rattle.typed_values.specs.Values.{Valued}
use Rattle.typed_values.specs.Examples.{unknown, too_wide, int, bytes, greatest, a}
use Rattle.typed_values.specs.Aggregates.{aggregate_over, aggregate_value}

-- 2^127 - 1
abbrev pub most : Value
most = number (pos 170141183460469231731687303715884105727)

-- nulls do not count; a mean truncates towards 0; texts are compared by their bytes, where 97 is 'a' and 98 is 'b'; partial totals may leave 128 bits
abbrev pub lists : List (List Value × List Valued)
lists =
    (null ∷ number (pos 5) ∷ null ∷ number (negsuc 1) ∷ number (pos 7) ∷ [], int (pos 3) ∷ int (pos 10) ∷ int (negsuc 1) ∷ int (pos 7) ∷ int (pos 3) ∷ [])
    ∷ (number (negsuc 6) ∷ number (pos 2) ∷ [], int (pos 2) ∷ int (negsuc 4) ∷ int (negsuc 6) ∷ int (pos 2) ∷ int (negsuc 1) ∷ [])
    ∷ ([], int (pos 0) ∷ unknown ∷ unknown ∷ unknown ∷ unknown ∷ [])
    ∷ (null ∷ null ∷ [], int (pos 0) ∷ unknown ∷ unknown ∷ unknown ∷ unknown ∷ [])
    ∷ (most ∷ number (pos 1) ∷ [], int (pos 2) ∷ too_wide ∷ int (pos 1) ∷ greatest ∷ too_wide ∷ [])
    ∷ (most ∷ number (pos 1) ∷ number (negsuc 0) ∷ [], int (pos 3) ∷ greatest ∷ int (negsuc 0) ∷ greatest ∷ int (pos 56713727820156410577229101238628035242) ∷ [])
    ∷ []

abbrev pub AggregateTable : Type 0
AggregateTable = map (λ r. map (λ kind. aggregate_over kind r.0) (Count ∷ Sum ∷ Min ∷ Max ∷ Avg ∷ [])) lists ≡ map (λ r. r.1) lists

-- the least and the greatest of 'b', 'ab' and null
abbrev pub TextTable : Type 0
TextTable =
    map (λ kind. aggregate_over kind (text (98 ∷ []) ∷ text (97 ∷ 98 ∷ []) ∷ null ∷ [])) (Count ∷ Min ∷ Max ∷ [])
    ≡ int (pos 2) ∷ bytes (97 ∷ 98 ∷ []) ∷ bytes (98 ∷ []) ∷ []

-- ---- over three rows, on which a column is null, 1 and 2

abbrev pub rows : List (ColumnRef → Value)
rows = (λ c. null) ∷ (λ c. number (pos 1)) ∷ (λ c. number (pos 2)) ∷ []

-- 2^127 - 2 + a, which is Over where a is 2
abbrev pub wide : TypedExpr
wide = e.Binary op.Add (e.Number 170141183460469231731687303715884105726 0) a

-- COUNT(*); COUNT(a); SUM(a); COUNT(2^127 - 2 + a)
abbrev pub RowTable : Type 0
RowTable =
    map (λ g. aggregate_value g rows)
    (record { kind = Count; argument = None }
    ∷ record { kind = Count; argument = Some a }
    ∷ record { kind = Sum; argument = Some a }
    ∷ record { kind = Count; argument = Some wide }
    ∷ [])
    ≡ int (pos 3) ∷ int (pos 2) ∷ int (pos 3) ∷ too_wide ∷ []

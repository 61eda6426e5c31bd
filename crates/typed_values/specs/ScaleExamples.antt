-- Worked rescalings: operands of several scales, each a scale and an unscaled number, and what the operators make of them.
use Rattle.std.specs.Prelude.{◌≡◌, ℕ, pos, negsuc, List, [], ◌∷◌, map, ◌==◌, if◌then◌else◌}
use Rattle.sql_values.specs.Values.{Value, number}
use Rattle.query_trees.specs.declared.expr.BinaryOp.TheVariants as op
use Rattle.query_trees.specs.declared.expr.Polarity.TheVariants.{Plain, Negated}
use Rattle.query_trees.specs.declared.expr.Sign.TheVariants as sign
use Rattle.sql_read.specs.declared.definition.ColumnKind.TheVariants.{Decimal}
use Rattle.typed_trees.specs.declared.typed.ColumnRef.{ColumnRef}
use Rattle.typed_trees.specs.declared.typed.TypedExpr.{TypedExpr}
use Rattle.typed_trees.specs.declared.typed.TypedExpr.TheVariants as e
use Rattle.typed_trees.specs.declared.typed.TypedExpr.TheOpen.{TypedExpr-F}
use Rattle.typed_values.specs.Values.{Valued, Operand, form_value, value_on_row}
use Rattle.typed_values.specs.Examples.{nothing, yes, no, unknown, too_wide, int, greatest}

abbrev pub of_scale : ℕ → Valued → Operand
of_scale s v = record { scale = s; value = v }

-- ---- two operands: their sum, their difference and their product, and whether the first is less

-- 1.5 and 2, 2 and 1.5, -0.05 and 0.001, 12.50 and 0.001, 1.0 and 1; then nulls, and numbers that a power of ten takes out of 128 bits, also beside a null
abbrev pub pairs : List (Operand × Operand × List Valued)
pairs =
    (of_scale 1 (int (pos 15)), of_scale 0 (int (pos 2)), int (pos 35) ∷ int (negsuc 4) ∷ int (pos 30) ∷ yes ∷ [])
    ∷ (of_scale 0 (int (pos 2)), of_scale 1 (int (pos 15)), int (pos 35) ∷ int (pos 5) ∷ int (pos 30) ∷ no ∷ [])
    ∷ (of_scale 2 (int (negsuc 4)), of_scale 3 (int (pos 1)), int (negsuc 48) ∷ int (negsuc 50) ∷ int (negsuc 4) ∷ yes ∷ [])
    ∷ (of_scale 2 (int (pos 1250)), of_scale 3 (int (pos 1)), int (pos 12501) ∷ int (pos 12499) ∷ int (pos 1250) ∷ no ∷ [])
    ∷ (of_scale 1 (int (pos 10)), of_scale 0 (int (pos 1)), int (pos 20) ∷ int (pos 0) ∷ int (pos 10) ∷ no ∷ [])
    ∷ (of_scale 1 unknown, of_scale 0 (int (pos 2)), unknown ∷ unknown ∷ unknown ∷ unknown ∷ [])
    ∷ (of_scale 1 unknown, of_scale 0 greatest, too_wide ∷ too_wide ∷ unknown ∷ too_wide ∷ [])
    ∷ (of_scale 0 greatest, of_scale 1 unknown, too_wide ∷ too_wide ∷ unknown ∷ too_wide ∷ [])
    ∷ (of_scale 0 greatest, of_scale 1 (int (pos 1)), too_wide ∷ too_wide ∷ greatest ∷ too_wide ∷ [])
    ∷ (of_scale 1 greatest, of_scale 1 (int (pos 0)), greatest ∷ greatest ∷ int (pos 0) ∷ no ∷ [])
    ∷ []

abbrev pub made_of : Operand → Operand → List Valued
made_of x y = map (λ o. form_value nothing (TypedExpr-F.Binary o x y)) (op.Add ∷ op.Subtract ∷ op.Multiply ∷ op.Less ∷ [])

abbrev pub ScalesTable : Type 0
ScalesTable = map (λ r. made_of r.0 r.1) pairs ≡ map (λ r. r.2) pairs

-- ---- BETWEEN and IN rescale pair by pair

-- 2 between 1 and 2.5; 1.5 between 1 and 2; 1 between 2^127 - 1, which 1 alone is beside, and 0.5; 2^127 - 1 between 1 and 0.5
abbrev pub betweens : List (Operand × Operand × Operand × Valued × Valued)
betweens =
    (of_scale 0 (int (pos 2)), of_scale 0 (int (pos 1)), of_scale 1 (int (pos 25)), yes, no)
    ∷ (of_scale 1 (int (pos 15)), of_scale 0 (int (pos 1)), of_scale 0 (int (pos 2)), yes, no)
    ∷ (of_scale 0 (int (pos 1)), of_scale 0 greatest, of_scale 1 (int (pos 5)), no, yes)
    ∷ (of_scale 0 greatest, of_scale 0 (int (pos 1)), of_scale 1 (int (pos 5)), too_wide, too_wide)
    ∷ []

abbrev pub ScaledBetweenTable : Type 0
ScaledBetweenTable =
    map (λ r. form_value nothing (TypedExpr-F.Between Plain r.0 r.1 r.2) ∷ form_value nothing (TypedExpr-F.Between Negated r.0 r.1 r.2) ∷ []) betweens
    ≡ map (λ r. r.3 ∷ r.4 ∷ []) betweens

-- 1 among 2^127 - 1 and 1.0; 1 among 1.1 and 0.9; 2^127 - 1 among 1 and 0.5
abbrev pub ins : List (Operand × List Operand × Valued × Valued)
ins =
    (of_scale 0 (int (pos 1)), of_scale 0 greatest ∷ of_scale 1 (int (pos 10)) ∷ [], yes, no)
    ∷ (of_scale 0 (int (pos 1)), of_scale 1 (int (pos 11)) ∷ of_scale 1 (int (pos 9)) ∷ [], no, yes)
    ∷ (of_scale 0 greatest, of_scale 0 (int (pos 1)) ∷ of_scale 1 (int (pos 5)) ∷ [], too_wide, too_wide)
    ∷ []

abbrev pub ScaledInTable : Type 0
ScaledInTable =
    map (λ r. form_value nothing (TypedExpr-F.In Plain r.0 r.1) ∷ form_value nothing (TypedExpr-F.In Negated r.0 r.1) ∷ []) ins
    ≡ map (λ r. r.2 ∷ r.3 ∷ []) ins

-- ---- COALESCE rescales each operand to the greatest scale, chosen or not

abbrev pub choices : List (Operand × List Operand × Valued)
choices =
    (of_scale 1 (int (pos 15)), of_scale 0 (int (pos 2)) ∷ [], int (pos 15))
    ∷ (of_scale 1 unknown, of_scale 0 (int (pos 2)) ∷ [], int (pos 20))
    ∷ (of_scale 0 (int (pos 2)), of_scale 1 unknown ∷ of_scale 3 unknown ∷ [], int (pos 2000))
    ∷ (of_scale 2 unknown, of_scale 0 unknown ∷ [], unknown)
    ∷ (of_scale 0 (int (pos 7)), of_scale 0 greatest ∷ of_scale 1 (int (pos 1)) ∷ [], too_wide)
    ∷ []

abbrev pub ScaledChoiceTable : Type 0
ScaledChoiceTable = map (λ r. form_value nothing (TypedExpr-F.Coalesce r.0 r.1)) choices ≡ map (λ r. r.2) choices

-- ---- whole expressions, on a row of a DECIMAL(10, 2) of -0.05 and a DECIMAL(4, 3) of 1

abbrev pub amt : TypedExpr
amt = e.Column (record { source = 0; column = 0 }) (record { kind = Decimal; width = 10; scale = 2 })

abbrev pub rate : TypedExpr
rate = e.Column (record { source = 0; column = 1 }) (record { kind = Decimal; width = 4; scale = 3 })

abbrev pub row : ColumnRef → Value
row c = if c.column == 0 then number (negsuc 4) else number (pos 1000)

-- amt < 0.001; amt + rate; amt * rate; amt * rate + 1; COALESCE(amt, rate) = -0.050
abbrev pub DecimalTable : Type 0
DecimalTable =
    map (value_on_row row)
    (e.Binary op.Less amt (e.Number 1 3)
    ∷ e.Binary op.Add amt rate
    ∷ e.Binary op.Multiply amt rate
    ∷ e.Binary op.Add (e.Binary op.Multiply amt rate) (e.Number 1 0)
    ∷ e.Binary op.Equal (e.Coalesce amt (rate ∷ [])) (e.Signed sign.Minus (e.Number 50 3))
    ∷ [])
    ≡ yes ∷ int (pos 950) ∷ int (negsuc 4999) ∷ int (pos 95000) ∷ yes ∷ []

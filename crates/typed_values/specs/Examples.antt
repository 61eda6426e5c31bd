-- Worked evaluations of each operator over the values of its operands, after the tables and rules of SQL-92 (ISO/IEC 9075:1992), 6.12, 8.2 to 8.4 and 8.12.
use Rattle.std.specs.Prelude.{◌≡◌, ℕ, ℤ, pos, negsuc, true, false, List, [], ◌∷◌, map, ◌==◌, if◌then◌else◌, Ok, Err}
use Rattle.control_vectors.specs.Slots.{over}
use Rattle.sql_values.specs.Values.{Value, number, text, truth, null}
use Rattle.query_trees.specs.declared.expr.BinaryOp.{BinaryOp}
use Rattle.query_trees.specs.declared.expr.BinaryOp.TheVariants as op
use Rattle.query_trees.specs.declared.expr.Polarity.TheVariants.{Plain, Negated}
use Rattle.query_trees.specs.declared.expr.Sign.{Sign}
use Rattle.query_trees.specs.declared.expr.Sign.TheVariants as sign
use Rattle.sql_read.specs.declared.definition.ColumnKind.TheVariants.{Integer}
use Rattle.typed_trees.specs.declared.typed.ColumnRef.{ColumnRef}
use Rattle.typed_trees.specs.declared.typed.ColumnType.{ColumnType}
use Rattle.typed_trees.specs.declared.typed.TypedExpr.{TypedExpr}
use Rattle.typed_trees.specs.declared.typed.TypedExpr.TheVariants as e
use Rattle.typed_trees.specs.declared.typed.TypedExpr.TheOpen.{TypedExpr-F}
use Rattle.typed_values.specs.Values.{Valued, On, Operand, form_value, value_on_row}

abbrev pub yes : Valued
yes = Ok (truth true)

abbrev pub no : Valued
no = Ok (truth false)

abbrev pub unknown : Valued
unknown = Ok null

abbrev pub too_wide : Valued
too_wide = Err over

abbrev pub int : ℤ → Valued
int z = Ok (number z)

abbrev pub bytes : List ℕ → Valued
bytes t = Ok (text t)

-- no example names a column or an aggregate
abbrev pub nothing : On
nothing = record { column = λ c. null; aggregate = λ n. unknown }

-- a value as an operand of scale 0
abbrev pub plain : Valued → Operand
plain v = record { scale = 0; value = v }

abbrev pub binary : BinaryOp → Valued → Valued → Valued
binary o a b = form_value nothing (TypedExpr-F.Binary o (plain a) (plain b))

-- ---- truths: SQL-92's tables, with a row and a column for Over

abbrev pub truths : List Valued
truths = yes ∷ no ∷ unknown ∷ too_wide ∷ []

abbrev pub table_of : BinaryOp → List (List Valued)
table_of o = map (λ a. map (λ b. binary o a b) truths) truths

abbrev pub AndTable : Type 0
AndTable = table_of op.And ≡
    (yes ∷ no ∷ unknown ∷ too_wide ∷ [])
    ∷ (no ∷ no ∷ no ∷ too_wide ∷ [])
    ∷ (unknown ∷ no ∷ unknown ∷ too_wide ∷ [])
    ∷ (too_wide ∷ too_wide ∷ too_wide ∷ too_wide ∷ [])
    ∷ []

abbrev pub OrTable : Type 0
OrTable = table_of op.Or ≡
    (yes ∷ yes ∷ yes ∷ too_wide ∷ [])
    ∷ (yes ∷ no ∷ unknown ∷ too_wide ∷ [])
    ∷ (yes ∷ unknown ∷ unknown ∷ too_wide ∷ [])
    ∷ (too_wide ∷ too_wide ∷ too_wide ∷ too_wide ∷ [])
    ∷ []

abbrev pub NotTable : Type 0
NotTable = map (λ a. form_value nothing (TypedExpr-F.Not (plain a))) truths ≡ no ∷ yes ∷ unknown ∷ too_wide ∷ []

-- ---- comparisons: two sides, and the answers of =, <>, <, <=, > and >=

abbrev pub comparisons : List BinaryOp
comparisons = op.Equal ∷ op.Differs ∷ op.Less ∷ op.LessEqual ∷ op.Greater ∷ op.GreaterEqual ∷ []

abbrev pub less : List Valued
less = no ∷ yes ∷ yes ∷ yes ∷ no ∷ no ∷ []

abbrev pub equal : List Valued
equal = yes ∷ no ∷ no ∷ yes ∷ no ∷ yes ∷ []

abbrev pub greater : List Valued
greater = no ∷ yes ∷ no ∷ no ∷ yes ∷ yes ∷ []

abbrev pub none_known : List Valued
none_known = unknown ∷ unknown ∷ unknown ∷ unknown ∷ unknown ∷ unknown ∷ []

abbrev pub all_too_wide : List Valued
all_too_wide = too_wide ∷ too_wide ∷ too_wide ∷ too_wide ∷ too_wide ∷ too_wide ∷ []

-- numbers and dates as their days (10471 is 1998-09-02, -719162 is 0001-01-01), where `negsuc n` is -(n + 1); then texts, where 97 is 'a', 98 is 'b' and
-- 195, 169 are the bytes of 'é'; then nulls and Over
abbrev pub sides : List (Valued × Valued × List Valued)
sides =
    (int (pos 2), int (pos 10), less)
    ∷ (int (pos 10), int (pos 2), greater)
    ∷ (int (pos 7), int (pos 7), equal)
    ∷ (int (negsuc 1), int (negsuc 0), less)
    ∷ (int (pos 0), int (negsuc 0), greater)
    ∷ (int (negsuc 719161), int (pos 10471), less)
    ∷ (int (pos 10471), int (pos 10471), equal)
    ∷ (int (pos 10471), int (pos 10470), greater)
    ∷ (bytes [], bytes (97 ∷ []), less)
    ∷ (bytes (97 ∷ []), bytes (97 ∷ 98 ∷ []), less)
    ∷ (bytes (97 ∷ 98 ∷ []), bytes (97 ∷ []), greater)
    ∷ (bytes (97 ∷ 98 ∷ []), bytes (97 ∷ 98 ∷ []), equal)
    ∷ (bytes (98 ∷ []), bytes (97 ∷ 98 ∷ []), greater)
    ∷ (bytes (98 ∷ []), bytes (195 ∷ 169 ∷ []), less)
    ∷ (bytes (195 ∷ 169 ∷ []), bytes (98 ∷ 98 ∷ []), greater)
    ∷ (unknown, int (pos 7), none_known)
    ∷ (int (pos 7), unknown, none_known)
    ∷ (bytes [], unknown, none_known)
    ∷ (unknown, unknown, none_known)
    ∷ (unknown, too_wide, all_too_wide)
    ∷ (too_wide, unknown, all_too_wide)
    ∷ (too_wide, int (pos 7), all_too_wide)
    ∷ []

abbrev pub ComparisonTable : Type 0
ComparisonTable = map (λ r. map (λ o. binary o r.0 r.1) comparisons) sides ≡ map (λ r. r.2) sides

-- ---- BETWEEN: the tested value, the least, the greatest; x BETWEEN low AND high, and x NOT BETWEEN low AND high

abbrev pub betweens : List (Valued × Valued × Valued × Valued × Valued)
betweens =
    (int (pos 0), int (pos 1), int (pos 3), no, yes)
    ∷ (int (pos 1), int (pos 1), int (pos 3), yes, no)
    ∷ (int (pos 2), int (pos 1), int (pos 3), yes, no)
    ∷ (int (pos 3), int (pos 1), int (pos 3), yes, no)
    ∷ (int (pos 4), int (pos 1), int (pos 3), no, yes)
    ∷ (int (pos 2), int (pos 3), int (pos 1), no, yes)
    ∷ (bytes (97 ∷ 98 ∷ []), bytes (97 ∷ []), bytes (98 ∷ []), yes, no)
    ∷ (unknown, int (pos 1), int (pos 3), unknown, unknown)
    ∷ (int (pos 2), unknown, int (pos 3), unknown, unknown)
    ∷ (int (pos 4), unknown, int (pos 3), no, yes)
    ∷ (int (pos 0), int (pos 1), unknown, no, yes)
    ∷ (int (pos 0), int (pos 1), too_wide, too_wide, too_wide)
    ∷ []

abbrev pub BetweenTable : Type 0
BetweenTable =
    map (λ r. form_value nothing (TypedExpr-F.Between Plain (plain r.0) (plain r.1) (plain r.2)) ∷ form_value nothing (TypedExpr-F.Between Negated (plain r.0) (plain r.1) (plain r.2)) ∷ []) betweens
    ≡ map (λ r. r.3 ∷ r.4 ∷ []) betweens

-- ---- IN: the tested value, the list; x IN (..), and x NOT IN (..)

abbrev pub ins : List (Valued × List Valued × Valued × Valued)
ins =
    (int (pos 2), int (pos 1) ∷ int (pos 2) ∷ [], yes, no)
    ∷ (int (pos 3), int (pos 1) ∷ int (pos 2) ∷ [], no, yes)
    ∷ (bytes (97 ∷ []), bytes (98 ∷ []) ∷ bytes (97 ∷ []) ∷ [], yes, no)
    ∷ (int (pos 1), unknown ∷ int (pos 1) ∷ [], yes, no)
    ∷ (int (pos 3), int (pos 1) ∷ unknown ∷ [], unknown, unknown)
    ∷ (unknown, int (pos 1) ∷ [], unknown, unknown)
    ∷ (int (pos 1), int (pos 1) ∷ too_wide ∷ [], too_wide, too_wide)
    ∷ []

abbrev pub InTable : Type 0
InTable =
    map (λ r. form_value nothing (TypedExpr-F.In Plain (plain r.0) (map plain r.1)) ∷ form_value nothing (TypedExpr-F.In Negated (plain r.0) (map plain r.1)) ∷ []) ins
    ≡ map (λ r. r.2 ∷ r.3 ∷ []) ins

-- ---- arithmetic: two operands, their sum, difference and product

-- 2^127 - 1, and -2^127
abbrev pub greatest : Valued
greatest = int (pos 170141183460469231731687303715884105727)

abbrev pub least : Valued
least = int (negsuc 170141183460469231731687303715884105727)

abbrev pub sums : List (Valued × Valued × Valued × Valued × Valued)
sums =
    (int (pos 7), int (negsuc 9), int (negsuc 2), int (pos 17), int (negsuc 69))
    ∷ (greatest, int (pos 0), greatest, greatest, int (pos 0))
    ∷ (greatest, int (pos 1), too_wide, int (pos 170141183460469231731687303715884105726), greatest)
    ∷ (least, int (pos 1), int (negsuc 170141183460469231731687303715884105726), too_wide, least)
    ∷ (least, int (negsuc 0), too_wide, int (negsuc 170141183460469231731687303715884105726), too_wide)
    ∷ (int (pos 7), unknown, unknown, unknown, unknown)
    ∷ (unknown, int (pos 7), unknown, unknown, unknown)
    ∷ (unknown, too_wide, too_wide, too_wide, too_wide)
    ∷ (too_wide, unknown, too_wide, too_wide, too_wide)
    ∷ []

abbrev pub SumTable : Type 0
SumTable =
    map (λ r. binary op.Add r.0 r.1 ∷ binary op.Subtract r.0 r.1 ∷ binary op.Multiply r.0 r.1 ∷ []) sums
    ≡ map (λ r. r.2 ∷ r.3 ∷ r.4 ∷ []) sums

-- a dividend, the divisor's sign and digits, and the quotient, which truncates
abbrev pub quotients : List (Valued × Sign × ℕ × Valued)
quotients =
    (int (pos 7), sign.Plus, 2, int (pos 3))
    ∷ (int (negsuc 6), sign.Plus, 2, int (negsuc 2))
    ∷ (int (pos 7), sign.Minus, 2, int (negsuc 2))
    ∷ (int (negsuc 6), sign.Minus, 2, int (pos 3))
    ∷ (int (negsuc 0), sign.Plus, 2, int (pos 0))
    ∷ (int (pos 6), sign.Plus, 2, int (pos 3))
    ∷ (least, sign.Minus, 1, too_wide)
    ∷ (unknown, sign.Plus, 2, unknown)
    ∷ (too_wide, sign.Plus, 2, too_wide)
    ∷ []

abbrev pub QuotientTable : Type 0
QuotientTable = map (λ r. form_value nothing (TypedExpr-F.Divide (plain r.0) r.1 r.2)) quotients ≡ map (λ r. r.3) quotients

-- a number, and its negative
abbrev pub negatives : List (Valued × Valued)
negatives =
    (int (pos 7), int (negsuc 6))
    ∷ (int (negsuc 6), int (pos 7))
    ∷ (int (pos 0), int (pos 0))
    ∷ (least, too_wide)
    ∷ (unknown, unknown)
    ∷ (too_wide, too_wide)
    ∷ []

abbrev pub NegativeTable : Type 0
NegativeTable = map (λ r. form_value nothing (TypedExpr-F.Signed sign.Minus (plain r.0))) negatives ≡ map (λ r. r.1) negatives

-- ---- IS NULL and IS NOT NULL

abbrev pub nulls : List (Valued × Valued × Valued)
nulls =
    (unknown, yes, no)
    ∷ (int (pos 0), no, yes)
    ∷ (bytes [], no, yes)
    ∷ (too_wide, too_wide, too_wide)
    ∷ []

abbrev pub NullTable : Type 0
NullTable =
    map (λ r. form_value nothing (TypedExpr-F.IsNull Plain (plain r.0)) ∷ form_value nothing (TypedExpr-F.IsNull Negated (plain r.0)) ∷ []) nulls
    ≡ map (λ r. r.1 ∷ r.2 ∷ []) nulls

-- ---- COALESCE: the first operand, the others

abbrev pub choices : List (Valued × List Valued × Valued)
choices =
    (int (pos 7), int (pos 8) ∷ [], int (pos 7))
    ∷ (unknown, int (pos 8) ∷ int (pos 9) ∷ [], int (pos 8))
    ∷ (unknown, unknown ∷ bytes (97 ∷ []) ∷ [], bytes (97 ∷ []))
    ∷ (bytes [], bytes (97 ∷ []) ∷ [], bytes [])
    ∷ (unknown, unknown ∷ [], unknown)
    ∷ (int (pos 7), too_wide ∷ [], too_wide)
    ∷ []

abbrev pub ChoiceTable : Type 0
ChoiceTable = map (λ r. form_value nothing (TypedExpr-F.Coalesce (plain r.0) (map plain r.1))) choices ≡ map (λ r. r.2) choices

-- ---- whole expressions, on a row whose first column is null and whose others are -7

abbrev pub integer : ColumnType
integer = record { kind = Integer; width = 0; scale = 0 }

abbrev pub a : TypedExpr
a = e.Column (record { source = 0; column = 0 }) integer

abbrev pub b : TypedExpr
b = e.Column (record { source = 0; column = 1 }) integer

abbrev pub whole : ℕ → TypedExpr
whole n = e.Number n 0

abbrev pub row : ColumnRef → Value
row c = if c.column == 0 then null else number (negsuc 6)

-- NOT a > 1; b / 2 + 1; b IN (a, 3, b); a BETWEEN 1 AND 3 OR b < 0; a IS NULL; COALESCE(a, 0) + 1
abbrev pub WholeTable : Type 0
WholeTable =
    map (value_on_row row)
    (e.Not (e.Binary op.Greater a (whole 1))
    ∷ e.Binary op.Add (e.Divide b sign.Plus 2) (whole 1)
    ∷ e.In Plain b (a ∷ whole 3 ∷ b ∷ [])
    ∷ e.Binary op.Or (e.Between Plain a (whole 1) (whole 3)) (e.Binary op.Less b (whole 0))
    ∷ e.IsNull Plain a
    ∷ e.Binary op.Add (e.Coalesce a (whole 0 ∷ [])) (whole 1)
    ∷ [])
    ≡ unknown ∷ int (negsuc 1) ∷ yes ∷ yes ∷ yes ∷ int (pos 1) ∷ []

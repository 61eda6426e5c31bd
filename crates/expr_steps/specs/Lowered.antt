-- An expression as steps that work slot by slot: a number is itself, a date its day, a text its code, a truth 1 or 0, and a null or an unknown is empty.
-- Two steps stand before all others: a 0 and a 1 at each marked place. What they leave is empty at every other place, and so is all that is made of it.
-- After SQL-92 (ISO/IEC 9075:1992), 6.11 <value expression>, 6.12 <numeric value expression>, 8.2 to 8.6 and 8.12 <search condition>; the operators are those of Voodoo, PVLDB 9(14), 2016, table 2.
use Rattle.std.specs.Prelude.{ℕ, ◌-◌, ◌*◌, ◌^◌, max, min, ℤ, pos, ◌-ℤ◌, Bool, true, false, List, [], ◌∷◌, ◌++◌, map, if◌then◌else◌, Option, Some, None}
use Rattle.std.specs.Ordering.{int_eq}
use Rattle.sql_values.specs.Texts.{by_bytes}
use Rattle.control_vectors.specs.declared.PairKind.TheVariants as pair
use Rattle.dict_codes.specs.Dictionaries.{rank_in, is_among}
use Rattle.query_trees.specs.declared.expr.BinaryOp.{BinaryOp}
use Rattle.query_trees.specs.declared.expr.BinaryOp.TheVariants as op
use Rattle.query_trees.specs.declared.expr.Polarity.{Polarity}
use Rattle.query_trees.specs.declared.expr.Polarity.TheVariants.{Plain, Negated}
use Rattle.query_trees.specs.declared.expr.Sign.{Sign}
use Rattle.query_trees.specs.declared.expr.Sign.TheVariants.{Plus, Minus}
use Rattle.typed_trees.specs.declared.typed.TypedExpr.{TypedExpr}
use Rattle.typed_trees.specs.declared.typed.TypedExpr.TheOpen.{TypedExpr-F}
use Rattle.typed_trees.specs.declared.typed.TypedExpr.TheFolds.{map-TypedExpr, fold-TypedExpr, para-TypedExpr}
use Rattle.typed_trees.specs.Scales.{greatest, scale_of}
use Rattle.typed_values.specs.Intervals.{signed}
use Rattle.typed_values.specs.Narrow.{counted}
use Rattle.typed_values.specs.Values.{holds}
use Rattle.expr_steps.specs.declared.steps.Factors.{Factors}
use Rattle.expr_steps.specs.declared.steps.Source.{Source}
use Rattle.expr_steps.specs.declared.steps.Source.TheVariants.{Mark, Column, Aggregate, Made, Number}
use Rattle.expr_steps.specs.declared.steps.Step.{Step}
use Rattle.expr_steps.specs.Codes.{Code, from_source, pair_step, one, and_then}

-- ---- operands

abbrev pub Bytes : Type 0
Bytes = List ℕ

-- an operand: its scale, its bytes where it is a text literal, and its code
pub record Part : Type 0 where
  pub scale : ℕ
  pub text : Option Bytes
  pub code : Code

abbrev pub form_literal : TypedExpr-F (Option Bytes) → Option Bytes
form_literal (TypedExpr-F.Text t) = Some t
form_literal d = None

-- the bytes of a text literal
unfoldable pub literal_of : TypedExpr → Option Bytes
literal_of = fold-TypedExpr (Option Bytes) form_literal

abbrev pub in_two : Part → Part → (Source → Source → Code) → Code
in_two x y next = and_then x.code (λ a. and_then y.code (λ b. next a b))

-- ---- truths

-- a 0 and a 1 at each marked place
abbrev pub zero : Source
zero = Made 0

abbrev pub unit : Source
unit = Made 1

abbrev pub truth_source : Bool → Source
truth_source true = unit
truth_source false = zero

-- NOT: 0 of 1, 1 of 0, and empty of what is empty
abbrev pub opposite : Source → Code
opposite x = one pair.Equals x (Number (pos 0))

-- as it is, or its opposite
abbrev pub by_polarity : Polarity → Source → Code
by_polarity Plain x = from_source x
by_polarity Negated x = opposite x

-- ---- literals

-- a number at each marked place, and nothing at any other
abbrev pub constant : ℤ → Code
constant z = one pair.Add zero (Number z)

-- no text of a query has a greater number than 2^127 - 1
abbrev pub written : ℕ → ℕ
written n = min n (2 ^ 127 - 1)

-- a text of the dictionary is its code; any other stands half a step below the first code above it, and is counted in halves
abbrev pub text_number : List Bytes → Bytes → ℤ
text_number texts t = if is_among texts t then pos (rank_in texts t) else pos (2 * rank_in texts t) -ℤ pos 1

-- ---- operands of several scales, and codes beside a text that has none

abbrev pub times : ℤ → Source → Code
times f x = if int_eq f (pos 1) then from_source x else one pair.Multiply x (Number f)

-- from one scale to a greater one
abbrev pub raise : ℕ → ℕ → ℤ
raise to scale = pos (10 ^ (to - scale))

abbrev pub between_scales : ℕ → ℕ → Factors
between_scales s t = record { x = raise (max s t) s; y = raise (max s t) t }

abbrev pub scale_factors : ℕ → ℕ → Factors
scale_factors s t = between_scales (counted s) (counted t)

-- codes are counted in halves too, where the other side is a text that has no code
abbrev pub steps_a_code : Bool → ℤ
steps_a_code true = pos 1
steps_a_code false = pos 2

abbrev pub factors_of : List Bytes → Option Bytes → Option Bytes → ℕ → ℕ → Factors
factors_of texts (Some a) t s u = record { x = pos 1; y = steps_a_code (is_among texts a) }
factors_of texts None (Some b) s u = record { x = steps_a_code (is_among texts b); y = pos 1 }
factors_of texts None None s u = scale_factors s u

abbrev pub factors : List Bytes → Part → Part → Factors
factors texts x y = factors_of texts x.text y.text x.scale y.scale

abbrev pub brought_together : Factors → Source → Source → (Source → Source → Code) → Code
brought_together f a b next = and_then (times f.x a) (λ x. and_then (times f.y b) (λ y. next x y))

-- ---- comparisons

abbrev pub comparing : BinaryOp → Source → Source → Code
comparing op.Equal x y = one pair.Equals x y
comparing op.Differs x y = and_then (one pair.Equals x y) opposite
comparing op.Less x y = one pair.Greater y x
comparing op.LessEqual x y = and_then (one pair.Greater x y) opposite
comparing op.Greater x y = one pair.Greater x y
comparing o x y = and_then (one pair.Greater y x) opposite

-- a truth that is known, where both operands stand: it is nonempty wherever the mark is, and Fill keeps what is nonempty
abbrev pub known : Bool → Source → Source → Code
known h a b = and_then (one pair.Fill (truth_source h) a) (λ x. one pair.Fill x b)

-- two text literals compare as they are written
abbrev pub compared_as : BinaryOp → Option Bytes → Option Bytes → Factors → Source → Source → Code
compared_as o (Some s) (Some t) f a b = known (holds o (by_bytes s t)) a b
compared_as o s t f a b = brought_together f a b (comparing o)

abbrev pub compared : List Bytes → BinaryOp → Part → Part → Source → Source → Code
compared texts o x y a b = compared_as o x.text y.text (factors texts x y) a b

-- ---- the forms

abbrev pub binary : List Bytes → BinaryOp → Part → Part → Source → Source → Code
binary texts op.Or x y a b = one pair.LogicalOr a b
binary texts op.And x y a b = one pair.LogicalAnd a b
binary texts op.Add x y a b = brought_together (scale_factors x.scale y.scale) a b (one pair.Add)
binary texts op.Subtract x y a b = brought_together (scale_factors x.scale y.scale) a b (one pair.Subtract)
binary texts op.Multiply x y a b = one pair.Multiply a b
binary texts o x y a b = compared texts o x y a b

abbrev pub sign_step : Sign → Source → Code
sign_step Plus x = one pair.Add (Number (pos 0)) x
sign_step Minus x = one pair.Subtract (Number (pos 0)) x

abbrev pub divisor : Sign → ℕ → ℤ
divisor s n = signed s (pos (written n))

abbrev pub divided : Sign → ℕ → Source → Code
divided s n x = one pair.Divide x (Number (divisor s n))

-- x BETWEEN a AND b is NOT (x < a OR x > b)
abbrev pub outside : List Bytes → Part → Part → Part → Source → Source → Source → Code
outside texts x least most a b c =
    and_then (compared texts op.Less x least a b) (λ below. and_then (compared texts op.Greater x most a c) (one pair.LogicalOr below))

abbrev pub unless_negated : Polarity → Source → Code
unless_negated Plain x = opposite x
unless_negated Negated x = from_source x

abbrev pub between : List Bytes → Polarity → Part → Part → Part → Code
between texts p x least most =
    and_then x.code (λ a. in_two least most (λ b c. and_then (outside texts x least most a b c) (unless_negated p)))

-- x IN (..) is an OR of equalities, behind what is found so far
abbrev pub found_equal : List Bytes → Part → Source → Part → Source → Source → Code
found_equal texts x a y found b = and_then (compared texts op.Equal x y a b) (one pair.LogicalOr found)

abbrev pub or_equal : List Bytes → Part → Source → Part → Source → Code
or_equal texts x a y found = and_then y.code (found_equal texts x a y found)

abbrev pub any_equal : List Bytes → Part → Source → List Part → Source → Code
any_equal texts x a [] found = from_source found
any_equal texts x a (y ∷ ys) found = and_then (or_equal texts x a y found) (any_equal texts x a ys)

-- none is equal yet; where there is none at all, a step reads x all the same
abbrev pub found_among : List Bytes → Part → Source → List Part → Code
found_among texts x a [] = one pair.Fill zero a
found_among texts x a (y ∷ ys) = any_equal texts x a (y ∷ ys) zero

abbrev pub among : List Bytes → Polarity → Part → List Part → Code
among texts p x ys = and_then x.code (λ a. and_then (found_among texts x a ys) (by_polarity p))

-- 0 and 1 of what is there, and the other truth where only the mark is
abbrev pub null_test : Polarity → Source → Code
null_test Plain x = and_then (one pair.Greater x x) (λ t. one pair.Fill t unit)
null_test Negated x = and_then (one pair.Equals x x) (λ t. one pair.Fill t zero)

-- COALESCE: each operand fills what is empty before it
abbrev pub filled_from : ℕ → ℕ → Source → Source → Code
filled_from to scale found b = and_then (times (raise to (counted scale)) b) (one pair.Fill found)

abbrev pub filled : ℕ → Part → Source → Code
filled to y found = and_then y.code (filled_from to y.scale found)

abbrev pub first_there : ℕ → List Part → Source → Code
first_there to [] found = from_source found
first_there to (y ∷ ys) found = and_then (filled to y found) (first_there to ys)

abbrev pub most_scale : Part → List Part → ℕ
most_scale x ys = counted (greatest x.scale (map (λ y. y.scale) ys))

abbrev pub choice : Part → List Part → Code
choice x ys = and_then x.code (λ a. and_then (times (raise (most_scale x ys) (counted x.scale)) a) (first_there (most_scale x ys) ys))

abbrev pub form_code : List Bytes → TypedExpr-F Part → Code
form_code texts (TypedExpr-F.Number n scale) = constant (pos (written n))
form_code texts (TypedExpr-F.Text t) = constant (text_number texts t)
form_code texts (TypedExpr-F.Date day) = constant day
form_code texts (TypedExpr-F.Column c type) = from_source (Column c)
form_code texts (TypedExpr-F.Aggregate n scale) = from_source (Aggregate n)
form_code texts (TypedExpr-F.Signed s x) = and_then x.code (sign_step s)
form_code texts (TypedExpr-F.Not x) = and_then x.code opposite
form_code texts (TypedExpr-F.Binary o x y) = in_two x y (binary texts o x y)
form_code texts (TypedExpr-F.Divide x s n) = and_then x.code (divided s n)
form_code texts (TypedExpr-F.Between p x a b) = between texts p x a b
form_code texts (TypedExpr-F.In p x ys) = among texts p x ys
form_code texts (TypedExpr-F.IsNull p x) = and_then x.code (null_test p)
form_code texts (TypedExpr-F.Coalesce x ys) = choice x ys

abbrev pub part : TypedExpr × Code → Part
part x = record { scale = scale_of x.0; text = literal_of x.0; code = x.1 }

-- the code of an expression over a dictionary
unfoldable pub lowered : List Bytes → TypedExpr → Code
lowered texts = para-TypedExpr Code (λ d. form_code texts (map-TypedExpr (TypedExpr × Code) Part part d))

abbrev pub part_of : List Bytes → TypedExpr → Part
part_of texts e = record { scale = scale_of e; text = literal_of e; code = lowered texts e }

-- ---- the whole

-- 0 and 1 at each marked place
abbrev pub constants : List Step
constants = pair_step pair.Greater Mark Mark ∷ pair_step pair.Equals Mark Mark ∷ []

-- the last step gives the value, which may be a column itself
abbrev pub steps_of : List Bytes → TypedExpr → List Step
steps_of texts e = constants ++ (and_then (lowered texts e) (λ x. one pair.Fill x x) 2).steps

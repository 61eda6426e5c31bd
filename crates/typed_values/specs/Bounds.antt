-- The interval rule: an expression cannot overflow where the interval of each of its parts lies within -2^127 to 2^127 - 1.
-- An operand that is rescaled is a part of its own. A part of more than 36 digits after the point lies nowhere: no query has one.
use Rattle.std.specs.Prelude.{ℕ, ◌-◌, max, nat_le, ℤ, pos, Bool, false, ◌&&◌, if◌then◌else◌, List, [], ◌∷◌, ◌++◌, map, flat_map, Option, Some, None}
use Rattle.std.specs.List.{fold, list_all}
use Rattle.std.specs.Option.{option_map}
use Rattle.control_vectors.specs.Slots.{fits_128}
use Rattle.query_trees.specs.declared.expr.BinaryOp.{BinaryOp}
use Rattle.query_trees.specs.declared.expr.BinaryOp.TheVariants as op
use Rattle.typed_trees.specs.declared.typed.TypedExpr.{TypedExpr}
use Rattle.typed_trees.specs.declared.typed.TypedExpr.TheVariants as e
use Rattle.typed_trees.specs.declared.typed.TypedExpr.TheOpen.{TypedExpr-F}
use Rattle.typed_trees.specs.declared.typed.TypedExpr.TheFolds.{map-TypedExpr, para-TypedExpr}
use Rattle.typed_trees.specs.Scales.{greatest, scale_of}
use Rattle.typed_values.specs.declared.intervals.Interval.{Interval}
use Rattle.typed_values.specs.Intervals.{interval, of_type, truth, point, around, raised_interval, signed, signed_interval, combined_interval, quotient_interval, is_zero}

-- ---- the least and the greatest that an expression can be

-- an operand: its scale, and its interval
pub record Ranged : Type 0 where
  pub scale : ℕ
  pub range : Option Interval

-- the interval of an operand that is rescaled
abbrev pub range_at : ℕ → Ranged → Option Interval
range_at to x = option_map (raised_interval (to - x.scale)) x.range

abbrev pub combined_ranges : BinaryOp → Option Interval → Option Interval → Option Interval
combined_ranges o (Some a) (Some b) = Some (combined_interval o a b)
combined_ranges o a b = None

abbrev pub range_at_one_scale : BinaryOp → Ranged → Ranged → Option Interval
range_at_one_scale o x y = combined_ranges o (range_at (max x.scale y.scale) x) (range_at (max x.scale y.scale) y)

abbrev pub binary_range : BinaryOp → Ranged → Ranged → Option Interval
binary_range op.Add x y = range_at_one_scale op.Add x y
binary_range op.Subtract x y = range_at_one_scale op.Subtract x y
binary_range op.Multiply x y = combined_ranges op.Multiply x.range y.range
binary_range o x y = Some truth

-- a quotient by 0 has none
abbrev pub quotient_or_none : Option Interval → ℤ → Option Interval
quotient_or_none a d = if is_zero d then None else option_map (λ i. quotient_interval i d) a

-- the least interval around two
abbrev pub hull : Option Interval → Option Interval → Option Interval
hull (Some a) (Some b) = Some (around a b)
hull a b = None

-- around all operands, at the greatest of their scales
abbrev pub chosen_range : Ranged → List Ranged → Option Interval
chosen_range x ys = let to = greatest x.scale (map (λ y. y.scale) ys) in fold hull (range_at to x) (map (range_at to) ys)

abbrev pub form_interval : TypedExpr-F Ranged → Option Interval
form_interval (TypedExpr-F.Number n scale) = Some (point (pos n))
form_interval (TypedExpr-F.Text t) = Some (interval (pos 0) (pos 4294967295))
form_interval (TypedExpr-F.Date day) = Some (point day)
form_interval (TypedExpr-F.Column c type) = Some (of_type type)
form_interval (TypedExpr-F.Aggregate n scale) = None
form_interval (TypedExpr-F.Signed s x) = option_map (signed_interval s) x.range
form_interval (TypedExpr-F.Not x) = Some truth
form_interval (TypedExpr-F.Binary o x y) = binary_range o x y
form_interval (TypedExpr-F.Divide x s n) = quotient_or_none x.range (signed s (pos n))
form_interval (TypedExpr-F.Between p x a b) = Some truth
form_interval (TypedExpr-F.In p x ys) = Some truth
form_interval (TypedExpr-F.IsNull p x) = Some truth
form_interval (TypedExpr-F.Coalesce x ys) = chosen_range x ys

abbrev pub ranged : TypedExpr × Option Interval → Ranged
ranged x = record { scale = scale_of x.0; range = x.1 }

-- an aggregate has none, and neither has what is calculated from one
unfoldable pub interval_of : TypedExpr → Option Interval
interval_of = para-TypedExpr (Option Interval) (λ d. form_interval (map-TypedExpr (TypedExpr × Option Interval) Ranged ranged d))

-- ---- the parts of an expression: those of its operands, these themselves and as they are rescaled, the number that it divides by, and it itself

-- an expression, and by how many digits it is rescaled
abbrev pub Part : Type 0
Part = TypedExpr × ℕ

-- an operand, with the parts below it
abbrev pub Operand : Type 0
Operand = TypedExpr × List Part

abbrev pub with_itself : Operand → List Part
with_itself x = x.1 ++ (x.0, 0) ∷ []

abbrev pub part_at : ℕ → Operand → Part
part_at to x = (x.0, to - scale_of x.0)

abbrev pub both_at_one_scale : Operand → Operand → List Part
both_at_one_scale x y = part_at (max (scale_of x.0) (scale_of y.0)) x ∷ part_at (max (scale_of x.0) (scale_of y.0)) y ∷ []

-- a product and the operators of logic rescale nothing
abbrev pub rescaled_by : BinaryOp → Operand → Operand → List Part
rescaled_by op.Or x y = []
rescaled_by op.And x y = []
rescaled_by op.Multiply x y = []
rescaled_by o x y = both_at_one_scale x y

abbrev pub greatest_scale : Operand → List Operand → ℕ
greatest_scale x ys = greatest (scale_of x.0) (map (λ y. scale_of y.0) ys)

abbrev pub form_below : TypedExpr-F Operand → List Part
form_below (TypedExpr-F.Signed s x) = with_itself x
form_below (TypedExpr-F.Not x) = with_itself x
form_below (TypedExpr-F.Binary o x y) = with_itself x ++ (with_itself y ++ rescaled_by o x y)
form_below (TypedExpr-F.Divide x s n) = with_itself x ++ (e.Number n 0, 0) ∷ []
form_below (TypedExpr-F.Between p x a b) = with_itself x ++ (with_itself a ++ (with_itself b ++ (both_at_one_scale x a ++ both_at_one_scale x b)))
form_below (TypedExpr-F.In p x ys) = with_itself x ++ flat_map (λ y. with_itself y ++ both_at_one_scale x y) ys
form_below (TypedExpr-F.IsNull p x) = with_itself x
form_below (TypedExpr-F.Coalesce x ys) = flat_map (λ y. with_itself y ++ part_at (greatest_scale x ys) y ∷ []) (x ∷ ys)
form_below form = []

unfoldable pub parts_below : TypedExpr → List Part
parts_below = para-TypedExpr (List Part) form_below

abbrev pub parts : TypedExpr → List Part
parts x = with_itself (x, parts_below x)

-- ---- the rule

abbrev pub lies_within : Option Interval → Bool
lies_within (Some i) = fits_128 i.least && fits_128 i.greatest
lies_within None = false

abbrev pub has_scale : ℕ → Bool
has_scale scale = nat_le scale 36

abbrev pub is_narrow : Part → Bool
is_narrow x = has_scale (scale_of x.0) && lies_within (option_map (raised_interval x.1) (interval_of x.0))

abbrev pub cannot_overflow : TypedExpr → Bool
cannot_overflow x = list_all is_narrow (parts x)

-- the interval of an expression that cannot overflow
abbrev pub bounds : TypedExpr → Option Interval
bounds x = if cannot_overflow x then interval_of x else None

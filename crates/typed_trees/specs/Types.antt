-- The type of an expression: the kind of its values, and the scale of its numbers. None where an operator's operands are of types that it does not take.
-- After SQL-92 (ISO/IEC 9075:1992), 6.5 <set function specification>, 6.12 <numeric value expression>, 6.13 <value expression>, 8.2 <comparison predicate> to 8.6 <null predicate> and 8.12 <search condition>.
use Rattle.std.specs.Prelude.{ℕ, ◌+◌, ◌==◌, nat_le, Bool, true, not, ◌&&◌, List, [], ◌∷◌, map, slice_get, Option, Some, None}
use Rattle.std.specs.Bool.{then_some}
use Rattle.std.specs.List.{list_all}
use Rattle.std.specs.Option.{option_and_then}
use Rattle.query_trees.specs.declared.expr.BinaryOp.{BinaryOp}
use Rattle.query_trees.specs.declared.expr.BinaryOp.TheVariants as op
use Rattle.typed_trees.specs.declared.kinds.Kind.{Kind}
use Rattle.typed_trees.specs.declared.kinds.Kind.TheVariants.{Number, Date, Text, Truth}
use Rattle.typed_trees.specs.declared.typed.Aggregate.{Aggregate}
use Rattle.typed_trees.specs.declared.typed.AggregateKind.{AggregateKind}
use Rattle.typed_trees.specs.declared.typed.AggregateKind.TheVariants as of
use Rattle.typed_trees.specs.declared.typed.ColumnType.{ColumnType}
use Rattle.typed_trees.specs.declared.typed.TypedExpr.{TypedExpr}
use Rattle.typed_trees.specs.declared.typed.TypedExpr.TheOpen.{TypedExpr-F}
use Rattle.typed_trees.specs.declared.typed.TypedExpr.TheFolds.{fold-TypedExpr}
use Rattle.typed_trees.specs.Kinds.{kind_of, is_number, is_truth, compare, family_of, takes, makes}
use Rattle.typed_trees.specs.Scales.{greatest, binary_scale}

pub record DataType : Type 0 where
  pub kind : Kind
  pub scale : ℕ

abbrev pub typed_as : Kind → ℕ → DataType
typed_as kind scale = record { kind = kind; scale = scale }

abbrev pub truth : DataType
truth = typed_as Truth 0

abbrev pub column_type : ColumnType → DataType
column_type t = typed_as (kind_of t.kind) t.scale

-- ---- the type that each operator makes of its operands' types

-- a sign and a division keep the scale
abbrev pub number_type : DataType → Option DataType
number_type a = then_some (is_number a.kind) a

abbrev pub not_type : DataType → Option DataType
not_type a = then_some (is_truth a.kind) truth

-- the scale of a product is at most 36
abbrev pub scale_fits : BinaryOp → ℕ → ℕ → Bool
scale_fits op.Multiply s t = nat_le (s + t) 36
scale_fits o s t = true

abbrev pub binary_type : BinaryOp → DataType → DataType → Option DataType
binary_type o a b = then_some (takes (family_of o) a.kind b.kind && scale_fits o a.scale b.scale) (typed_as (makes (family_of o)) (binary_scale o a.scale b.scale))

abbrev pub compares_with : DataType → DataType → Bool
compares_with a b = compare a.kind b.kind

-- BETWEEN and IN
abbrev pub tested_type : DataType → List DataType → Option DataType
tested_type a bs = then_some (list_all (compares_with a) bs) truth

abbrev pub null_test_type : DataType → Option DataType
null_test_type a = then_some (not (is_truth a.kind)) truth

-- COALESCE
abbrev pub choice_type : DataType → List DataType → Option DataType
choice_type a bs = then_some (list_all (compares_with a) (a ∷ bs)) (typed_as a.kind (greatest a.scale (map (λ b. b.scale) bs)))

-- ---- expressions, over the types of the aggregates by their places

abbrev pub with_type : Option DataType → (DataType → Option DataType) → Option DataType
with_type a f = option_and_then f a

abbrev pub more_types : DataType → Option (List DataType) → Option (List DataType)
more_types t (Some ts) = Some (t ∷ ts)
more_types t None = None

abbrev pub all_types : List (Option DataType) → Option (List DataType)
all_types [] = Some []
all_types (None ∷ more) = None
all_types (Some t ∷ more) = more_types t (all_types more)

abbrev pub with_types : List (Option DataType) → (List DataType → Option DataType) → Option DataType
with_types bs f = option_and_then f (all_types bs)

abbrev pub form_type : (ℕ → Option DataType) → TypedExpr-F (Option DataType) → Option DataType
form_type at (TypedExpr-F.Number n scale) = Some (typed_as Number scale)
form_type at (TypedExpr-F.Text t) = Some (typed_as Text 0)
form_type at (TypedExpr-F.Date day) = Some (typed_as Date 0)
form_type at (TypedExpr-F.Column c type) = Some (column_type type)
form_type at (TypedExpr-F.Aggregate n scale) = with_type (at n) (λ t. then_some (t.scale == scale) t)
form_type at (TypedExpr-F.Signed s a) = with_type a number_type
form_type at (TypedExpr-F.Not a) = with_type a not_type
form_type at (TypedExpr-F.Binary o a b) = with_type a (λ s. with_type b (binary_type o s))
form_type at (TypedExpr-F.Divide a s n) = with_type a (λ t. then_some (not (n == 0) && is_number t.kind) t)
form_type at (TypedExpr-F.Between p a b c) = with_type a (λ t. with_types (b ∷ c ∷ []) (tested_type t))
form_type at (TypedExpr-F.In p a bs) = with_type a (λ t. with_types bs (tested_type t))
form_type at (TypedExpr-F.IsNull p a) = with_type a null_test_type
form_type at (TypedExpr-F.Coalesce a bs) = with_type a (λ t. with_types bs (choice_type t))

unfoldable pub type_of : (ℕ → Option DataType) → TypedExpr → Option DataType
type_of at = fold-TypedExpr (Option DataType) (form_type at)

-- ---- aggregates

-- on a row there are none
abbrev pub no_aggregate : ℕ → Option DataType
no_aggregate n = None

-- COUNT is a whole number; SUM, AVG, MIN and MAX keep the scale
abbrev pub folded_type : AggregateKind → DataType → Option DataType
folded_type of.Count a = then_some (not (is_truth a.kind)) (typed_as Number 0)
folded_type of.Sum a = then_some (is_number a.kind) a
folded_type of.Avg a = then_some (is_number a.kind) a
folded_type of.Min a = then_some (not (is_truth a.kind)) a
folded_type of.Max a = then_some (not (is_truth a.kind)) a

-- COUNT(*) alone has no argument
abbrev pub counted_type : AggregateKind → Option DataType
counted_type of.Count = Some (typed_as Number 0)
counted_type kind = None

abbrev pub argument_type : AggregateKind → Option TypedExpr → Option DataType
argument_type kind None = counted_type kind
argument_type kind (Some e) = with_type (type_of no_aggregate e) (folded_type kind)

abbrev pub aggregate_type : Aggregate → Option DataType
aggregate_type a = argument_type a.kind a.argument

-- the types of a query's aggregates, by their places
abbrev pub types_of : List Aggregate → ℕ → Option DataType
types_of aggregates n = option_and_then aggregate_type (slice_get aggregates n)

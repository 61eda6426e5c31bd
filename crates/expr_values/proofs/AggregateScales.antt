-- The types of a query's aggregates have scales of their kinds, where their arguments have.
use Rattle.std.proofs.Common.{◌≡◌, ℕ, true, not, List, Option, Some, None, refl, subst}
use Rattle.std.specs.Prelude.{slice_get}
use Rattle.typed_trees.specs.declared.typed.Aggregate.{Aggregate}
use Rattle.typed_trees.specs.declared.typed.AggregateKind.{AggregateKind}
use Rattle.typed_trees.specs.declared.typed.AggregateKind.TheVariants as of
use Rattle.typed_trees.specs.declared.kinds.Kind.TheVariants.{Number}
use Rattle.typed_trees.specs.declared.typed.TypedExpr.{TypedExpr}
use Rattle.typed_trees.specs.Kinds.{is_number, is_truth}
use Rattle.typed_trees.specs.Types.{DataType, typed_as, no_aggregate, folded_type, counted_type, argument_type, aggregate_type, types_of, type_of}
use Rattle.typed_trees.proofs.Inversions.{some_same, passed, chosen}
use Rattle.expr_values.specs.Written.{kind_scale, AreScaled, is_written}
use Rattle.expr_values.proofs.Scales.{scaled_types}

pub none_scaled : AreScaled no_aggregate
none_scaled n t e = absurd (cc)

abbrev IsScaledType : DataType → Type 0
IsScaledType t = kind_scale t.kind t.scale ≡ true

folded_scaled : (kind : AggregateKind) (u t : DataType) → folded_type kind u ≡ Some t → IsScaledType u → IsScaledType t
folded_scaled of.Count u t e h = subst IsScaledType (passed (not (is_truth u.kind)) (typed_as Number 0) t e).1 refl
folded_scaled of.Sum u t e h = subst IsScaledType (passed (is_number u.kind) u t e).1 h
folded_scaled of.Avg u t e h = subst IsScaledType (passed (is_number u.kind) u t e).1 h
folded_scaled of.Min u t e h = subst IsScaledType (passed (not (is_truth u.kind)) u t e).1 h
folded_scaled of.Max u t e h = subst IsScaledType (passed (not (is_truth u.kind)) u t e).1 h

counted_scaled : (kind : AggregateKind) (t : DataType) → counted_type kind ≡ Some t → IsScaledType t
counted_scaled of.Count t e = subst IsScaledType (some_same (typed_as Number 0) t e) refl
counted_scaled of.Sum t e = absurd (cc)
counted_scaled of.Avg t e = absurd (cc)
counted_scaled of.Min t e = absurd (cc)
counted_scaled of.Max t e = absurd (cc)

argument_scaled : (kind : AggregateKind) (argument : Option TypedExpr) (t : DataType) → argument_type kind argument ≡ Some t → ((e : TypedExpr) → argument ≡ Some e → is_written e ≡ true) → IsScaledType t
argument_scaled kind None t e w = counted_scaled kind t e
argument_scaled kind (Some x) t e w =
    let found = chosen (type_of no_aggregate x) (folded_type kind) t e in
    folded_scaled kind found.0 t found.2 (scaled_types no_aggregate none_scaled x found.0 found.1 (w x refl))

pub aggregates_scaled : (aggregates : List Aggregate) → ((n : ℕ) (a : Aggregate) (e : TypedExpr) → slice_get aggregates n ≡ Some a → a.argument ≡ Some e → is_written e ≡ true) → AreScaled (types_of aggregates)
aggregates_scaled aggregates w n t e =
    let found = chosen (slice_get aggregates n) aggregate_type t e in
    argument_scaled found.0.kind found.0.argument t found.2 (λ x is. w n found.0 x found.1 is)

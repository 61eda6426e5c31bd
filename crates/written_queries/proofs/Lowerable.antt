-- Each expression of a plan that is well formed, and whose literals are as the grammar has them, can be lowered.
use Rattle.std.proofs.Common.{◌≡◌, ℕ, Bool, true, List, [], ◌∷◌, ◌++◌, Option, Some, None, option_to_list, refl, subst}
use Rattle.std.specs.Prelude.{All, IsSome, slice_get}
use Rattle.std.specs.Option.{option_and_then, ForSome}
use Rattle.std.proofs.lemmas.Option.{get_or_from_slice_get, slice_get_within}
use Rattle.std.proofs.lemmas.List.Elements.{All-nil, All-cons, All-head, All-tail}
use Rattle.typed_trees.specs.declared.kinds.Kind.{Kind}
use Rattle.typed_trees.specs.declared.kinds.Role.TheVariants.{Alone}
use Rattle.typed_trees.specs.declared.typed.Aggregate.{Aggregate}
use Rattle.typed_trees.specs.declared.typed.AggregateKind.{AggregateKind}
use Rattle.typed_trees.specs.declared.typed.PlanSource.{PlanSource}
use Rattle.typed_trees.specs.declared.typed.TypedExpr.{TypedExpr}
use Rattle.typed_trees.specs.Kinds.{is_truth}
use Rattle.typed_trees.specs.Sides.{stands}
use Rattle.typed_trees.specs.Typed.{HasType, IsAggregate, IsSource, IsTyped, is_value}
use Rattle.typed_trees.specs.Types.{DataType, type_of, no_aggregate, folded_type, argument_type, types_of}
use Rattle.typed_trees.proofs.Inversions.{some_same}
use Rattle.expr_values.specs.Laws.{IsLowerable}
use Rattle.expr_values.specs.Written.{AreScaled}
use Rattle.expr_values.proofs.AggregateScales.{none_scaled, aggregates_scaled}
use Rattle.rel_plan.specs.declared.plans.RelPlan.{RelPlan}
use Rattle.rel_plan.specs.Plans.{conditions_of_sources, arguments_of, expressions, plan_of}
use Rattle.rel_plan.specs.Prunes.{pruned}
use Rattle.rel_plan.specs.Pushes.{pushed}
use Rattle.read_queries.specs.Laws.{AnswerLaw}
use Rattle.plan_laws.specs.WellFormed.{query_of, WellFormedLaws}
use Rattle.written_queries.specs.Laws.{IsAsWritten}
use Rattle.written_queries.proofs.Ranges.{within_ranges}
use Rattle.written_queries.specs.Plans.{PlanWritten, IsLowerablePlan, LowerableLaw}

apart : (xs ys : List TypedExpr) → All IsAsWritten (xs ++ ys) → All IsAsWritten xs × All IsAsWritten ys
apart [] ys h = (All-nil IsAsWritten, h)
apart (x ∷ xs) ys h =
    let rest = apart xs ys (All-tail IsAsWritten x (xs ++ ys) h) in
    (All-cons IsAsWritten x xs (All-head IsAsWritten x (xs ++ ys) h) rest.0, rest.1)

module _ (at : ℕ → Option DataType) (aggregates : AreScaled at) (allowed : Kind → Bool) where
  lower : (e : TypedExpr) → HasType at allowed e → IsAsWritten e → IsLowerable at e
  lower e h g = record { type = h.type; is = h.is; aggregates = aggregates; sides = h.sides; written = within_ranges e g }

  lower_all : (es : List TypedExpr) → All (HasType at allowed) es → All IsAsWritten es → All (IsLowerable at) es
  lower_all [] h g = All-nil (IsLowerable at)
  lower_all (e ∷ es) h g =
      All-cons (IsLowerable at) e es (lower e (All-head (HasType at allowed) e es h) (All-head IsAsWritten e es g)) (lower_all es (All-tail (HasType at allowed) e es h) (All-tail IsAsWritten e es g))

  lower_some : (o : Option TypedExpr) → ForSome o (HasType at allowed) → All IsAsWritten (option_to_list o) → ForSome o (IsLowerable at)
  lower_some None h g = λ e none. absurd (cc)
  lower_some (Some x) h g = λ e same. subst (IsLowerable at) (some_same x e same) (lower x (h x refl) (All-head IsAsWritten x [] g))

-- ---- the conditions of sources

abbrev Lowers : PlanSource → Type 0
Lowers s = All (IsLowerable no_aggregate) s.filter

sources_lower : (ss : List PlanSource) → All IsSource ss → All IsAsWritten (conditions_of_sources ss) → All Lowers ss
sources_lower [] h g = All-nil Lowers
sources_lower (s ∷ ss) h g =
    let both = apart s.filter (conditions_of_sources ss) g in
    All-cons Lowers s ss (lower_all no_aggregate none_scaled is_truth s.filter (All-head IsSource s ss h) both.0) (sources_lower ss (All-tail IsSource s ss h) both.1)

-- ---- the arguments of aggregates

argument_typed : (kind : AggregateKind) (o : Option DataType) → IsSome (option_and_then (folded_type kind) o) → (t : DataType) × (o ≡ Some t)
argument_typed kind None h = absurd (cc)
argument_typed kind (Some t) h = (t, refl)

argument_lowers : (kind : AggregateKind) (o : Option TypedExpr) → IsSome (argument_type kind o) → ForSome o (λ e. stands e Alone ≡ true) → All IsAsWritten (option_to_list o) → ForSome o (IsLowerable no_aggregate)
argument_lowers kind None h sides g = λ e none. absurd (cc)
argument_lowers kind (Some x) h sides g =
    let t = argument_typed kind (type_of no_aggregate x) h in
    λ e same. subst (IsLowerable no_aggregate) (some_same x e same) (record { type = t.0; is = t.1; aggregates = none_scaled; sides = sides x refl; written = within_ranges x (All-head IsAsWritten x [] g) })

abbrev Folds : Aggregate → Type 0
Folds a = ForSome a.argument (IsLowerable no_aggregate)

aggregates_lower : (more : List Aggregate) → All IsAggregate more → All IsAsWritten (arguments_of more) → All Folds more
aggregates_lower [] h g = All-nil Folds
aggregates_lower (a ∷ more) h g =
    let both = apart (option_to_list a.argument) (arguments_of more) g in
    let one = All-head IsAggregate a more h in
    All-cons Folds a more (argument_lowers a.kind a.argument one.type one.sides both.0) (aggregates_lower more (All-tail IsAggregate a more h) both.1)

folds_at : (aggregates : List Aggregate) → All Folds aggregates → (n : ℕ) (a : Aggregate) → slice_get aggregates n ≡ Some a → Folds a
folds_at aggregates h n a at = subst Folds (get_or_from_slice_get aggregates n a a at) (h n a (slice_get_within aggregates n a at))

-- so the scales of their types are scales of their kinds
aggregate_scales : (aggregates : List Aggregate) → All Folds aggregates → AreScaled (types_of aggregates)
aggregate_scales aggregates h = aggregates_scaled aggregates (λ n a e at is. (folds_at aggregates h n a at e is).written)

-- ---- plans

plan_lowers : (p : RelPlan) → IsTyped (query_of p) → All IsAsWritten (expressions p) → IsLowerablePlan p
plan_lowers p h g =
    let last = option_to_list p.having ++ p.items in
    let x = apart p.filter (conditions_of_sources p.sources ++ (arguments_of p.aggregates ++ last)) g in
    let y = apart (conditions_of_sources p.sources) (arguments_of p.aggregates ++ last) x.1 in
    let z = apart (arguments_of p.aggregates) last y.1 in
    let w = apart (option_to_list p.having) p.items z.1 in
    let at = types_of p.aggregates in
    let folds = aggregates_lower p.aggregates h.aggregates z.0 in
    let scales = aggregate_scales p.aggregates folds in
    record {
      sources = sources_lower p.sources h.sources y.0;
      filter = lower_all no_aggregate none_scaled is_truth p.filter h.filter x.0;
      aggregates = folds;
      having = lower_some at scales is_truth p.having h.having w.0;
      items = lower_all at scales is_value p.items h.items w.1;
    }

pub lowerable_law : PlanWritten → WellFormedLaws → AnswerLaw → LowerableLaw
lowerable_law plan laws groups = record {
  formed = λ defs p h g. plan_lowers p h.typed g;
  read = λ text defs q t read scales typed.
      let p = plan_of t in
      let formed = laws.pruned_is defs (pushed p) (laws.pushed_is defs p (laws.planned q defs t (groups text q read) typed)) in
      plan_lowers (pruned (pushed p)) formed.typed (plan text defs q t read scales typed);
}

-- The literals of a plan's expressions are those of its query's.
use Rattle.std.proofs.Common.{◌≡◌, ◌∙◌, ℕ, Bool, true, false, List, [], ◌∷◌, ◌++◌, Option, Some, None, option_to_list, refl, ap, arith}
use Rattle.std.specs.Prelude.{All, sum_by}
use Rattle.std.specs.Option.{ForSome}
use Rattle.std.proofs.lemmas.List.Elements.{All-nil, All-cons, All-head, All-tail, All-append}
use Rattle.std.proofs.lemmas.List.Sums.{sum_by-cons}
use Rattle.typed_trees.specs.declared.typed.Aggregate.{Aggregate}
use Rattle.typed_trees.specs.declared.typed.PlanSource.{PlanSource}
use Rattle.typed_trees.specs.declared.typed.TypedExpr.{TypedExpr}
use Rattle.typed_trees.specs.declared.typed.TypedQuery.{TypedQuery}
use Rattle.rel_plan.specs.Plans.{conditions_of_sources, arguments_of, expressions, plan_of}
use Rattle.rel_plan.specs.Prunes.{pruned}
use Rattle.rel_plan.specs.Pushes.{pushed}
use Rattle.plan_laws.specs.Sizes.{SizeLaws}
use Rattle.written_queries.specs.Laws.{IsAsWritten, IsWritten, WrittenLaw, is_as_written}
use Rattle.written_queries.specs.Plans.{PlanWritten}

-- ---- what is written weighs nothing

abbrev weight_by : Bool → ℕ
weight_by true = 0
weight_by false = 1

abbrev weight : TypedExpr → ℕ
weight e = weight_by (is_as_written e)

all_weigh : (es : List TypedExpr) → All IsAsWritten es → sum_by weight es ≡ 0
all_weigh [] h = refl
all_weigh (e ∷ es) h =
    let one : weight e ≡ 0 = ap weight_by (All-head IsAsWritten e es h) in
    omega (arith, sum_by-cons weight e es, one, all_weigh es (All-tail IsAsWritten e es h))

weightless : (b : Bool) → weight_by b ≡ 0 → b ≡ true
weightless true h = refl
weightless false h = absurd (omega (arith, h))

none_weigh : (es : List TypedExpr) → sum_by weight es ≡ 0 → All IsAsWritten es
none_weigh [] h = All-nil IsAsWritten
none_weigh (e ∷ es) h =
    let sum = sum_by-cons weight e es in
    let one : weight e ≡ 0 = omega (arith, sum, h) in
    let rest : sum_by weight es ≡ 0 = omega (arith, sum, h) in
    All-cons IsAsWritten e es (weightless (is_as_written e) one) (none_weigh es rest)

-- ---- the plan of a query

conditions : (ss : List PlanSource) → All (λ s. All IsAsWritten s.filter) ss → All IsAsWritten (conditions_of_sources ss)
conditions [] h = All-nil IsAsWritten
conditions (s ∷ ss) h =
    All-append IsAsWritten s.filter (conditions_of_sources ss) (All-head (λ (x : PlanSource). All IsAsWritten x.filter) s ss h) (conditions ss (All-tail (λ (x : PlanSource). All IsAsWritten x.filter) s ss h))

optional : (o : Option TypedExpr) → ForSome o IsAsWritten → All IsAsWritten (option_to_list o)
optional None h = All-nil IsAsWritten
optional (Some e) h = All-cons IsAsWritten e [] (h e refl) (All-nil IsAsWritten)

arguments : (more : List Aggregate) → All (λ a. ForSome a.argument IsAsWritten) more → All IsAsWritten (arguments_of more)
arguments [] h = All-nil IsAsWritten
arguments (a ∷ more) h =
    All-append IsAsWritten (option_to_list a.argument) (arguments_of more) (optional a.argument (All-head (λ (x : Aggregate). ForSome x.argument IsAsWritten) a more h))
    (arguments more (All-tail (λ (x : Aggregate). ForSome x.argument IsAsWritten) a more h))

all_written : (t : TypedQuery) → IsWritten t → All IsAsWritten (expressions (plan_of t))
all_written t h =
    let last = option_to_list t.having ++ t.items in
    All-append IsAsWritten t.filter (conditions_of_sources t.sources ++ (arguments_of t.aggregates ++ last)) h.filter
    (All-append IsAsWritten (conditions_of_sources t.sources) (arguments_of t.aggregates ++ last) (conditions t.sources h.sources)
    (All-append IsAsWritten (arguments_of t.aggregates) last (arguments t.aggregates h.aggregates)
    (All-append IsAsWritten (option_to_list t.having) t.items (optional t.having h.having) h.items)))

pub plan_written : WrittenLaw → SizeLaws → PlanWritten
plan_written written sizes text defs q t read scales typed =
    let p = plan_of t in
    none_weigh (expressions (pruned (pushed p)))
    (ap (sum_by weight) (sizes.pruned_expressions (pushed p)) ∙ (sizes.pushed_weighs weight p ∙ all_weigh (expressions p) (all_written t (written text defs q t read scales typed))))

-- No expression of a plan has more nodes than the plan.
use Rattle.std.proofs.Common.{◌≡◌, ℕ, zero, suc, ◌<◌, ◌≤◌, List, [], ◌∷◌, ◌++◌, length, get_or, Option, Some, None, option_to_list, subst, arith}
use Rattle.std.specs.Prelude.{All, sum_by}
use Rattle.std.specs.Option.{ForSome}
use Rattle.std.proofs.lemmas.List.Elements.{All-cons, All-head, All-nil, All-tail}
use Rattle.std.proofs.lemmas.List.Sums.{sum_by-cons}
use Rattle.sql_read.specs.declared.definition.TableDef.{TableDef}
use Rattle.table_load.specs.Values.{Table}
use Rattle.query_sizes.specs.Sizes.{nodes}
use Rattle.typed_trees.specs.declared.typed.Aggregate.{Aggregate}
use Rattle.typed_trees.specs.declared.typed.TypedExpr.{TypedExpr}
use Rattle.rel_plan.specs.declared.plans.RelPlan.{RelPlan}
use Rattle.rel_plan.specs.Plans.{conditions_of_sources, arguments_of, expressions}
use Rattle.lowered_stages.specs.Plans.{CanLower}

-- ---- no expression of a plan has more nodes than the plan

-- what holds of each element of two lists holds of either's
pub front_of : {X : Type 0} (P : X → Type 0) (xs ys : List X) → All P (xs ++ ys) → All P xs
front_of P [] ys h = All-nil P
front_of P (x ∷ xs) ys h = All-cons P x xs (All-head P x (xs ++ ys) h) (front_of P xs ys (All-tail P x (xs ++ ys) h))

pub rest_of : {X : Type 0} (P : X → Type 0) (xs ys : List X) → All P (xs ++ ys) → All P ys
rest_of P [] ys h = h
rest_of P (x ∷ xs) ys h = rest_of P xs ys (All-tail P x (xs ++ ys) h)

pub of_optional : {X : Type 0} (P : X → Type 0) (o : Option X) → All P (option_to_list o) → ForSome o P
of_optional P None h = λ x e. absurd cc
of_optional P (Some y) h = λ x e. let same : y ≡ x = cc in subst P same (All-head P y [] h)

of_each : (P : TypedExpr → Type 0) (aggregates : List Aggregate) → All P (arguments_of aggregates) → All (λ (a : Aggregate). ForSome a.argument P) aggregates
of_each P [] h = All-nil (λ (a : Aggregate). ForSome a.argument P)
of_each P (a ∷ more) h =
    All-cons (λ (x : Aggregate). ForSome x.argument P) a more (of_optional P a.argument (front_of P (option_to_list a.argument) (arguments_of more) h))
    (of_each P more (rest_of P (option_to_list a.argument) (arguments_of more) h))

within_sum : {X : Type 0} (f : X → ℕ) (xs : List X) (k : ℕ) (d : X) → k < length xs → f (get_or xs k d) ≤ sum_by f xs
within_sum f [] k d l = absurd (omega (arith, l))
within_sum f (x ∷ xs) zero d l = omega (arith, sum_by-cons f x xs)
within_sum f (x ∷ xs) (suc k) d l = omega (arith, sum_by-cons f x xs, within_sum f xs k d (omega (arith, l)))

abbrev pub IsFew : TypedExpr → Type 0
IsFew e = nodes e ≤ 2176

module _ (defs : List TableDef) (ts : List Table) (p : RelPlan) (h : CanLower defs ts p) where
  all_few : All IsFew (expressions p)
  all_few = λ k d l. omega (arith, within_sum nodes (expressions p) k d l, h.small.nodes)

  abbrev behind_filter : List TypedExpr
  behind_filter = conditions_of_sources p.sources ++ (arguments_of p.aggregates ++ (option_to_list p.having ++ p.items))

  pub few_filter : All IsFew p.filter
  few_filter = front_of IsFew p.filter behind_filter all_few

  pub few_sources : All IsFew (conditions_of_sources p.sources)
  few_sources = front_of IsFew (conditions_of_sources p.sources) (arguments_of p.aggregates ++ (option_to_list p.having ++ p.items)) (rest_of IsFew p.filter behind_filter all_few)

  behind_sources : All IsFew (arguments_of p.aggregates ++ (option_to_list p.having ++ p.items))
  behind_sources = rest_of IsFew (conditions_of_sources p.sources) (arguments_of p.aggregates ++ (option_to_list p.having ++ p.items)) (rest_of IsFew p.filter behind_filter all_few)

  pub few_arguments : All (λ (a : Aggregate). ForSome a.argument IsFew) p.aggregates
  few_arguments = of_each IsFew p.aggregates (front_of IsFew (arguments_of p.aggregates) (option_to_list p.having ++ p.items) behind_sources)

  last_ones : All IsFew (option_to_list p.having ++ p.items)
  last_ones = rest_of IsFew (arguments_of p.aggregates) (option_to_list p.having ++ p.items) behind_sources

  pub few_having : ForSome p.having IsFew
  few_having = of_optional IsFew p.having (front_of IsFew (option_to_list p.having) p.items last_ones)

  pub few_items : All IsFew p.items
  few_items = rest_of IsFew (option_to_list p.having) p.items last_ones

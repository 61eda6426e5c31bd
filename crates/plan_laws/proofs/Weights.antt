-- What the expressions of a plan weigh, before and after its conditions move.
use Rattle.std.proofs.Common.{◌≡◌, ◌∙◌, ℕ, ◌+◌, ◌==◌, Bool, true, false, cond, not, ◌&&◌, if◌then◌else◌, List, [], ◌∷◌, ◌++◌, length, map, Option, Some, None, option_to_list, refl, sym, ap, arith}
use Rattle.std.specs.Prelude.{count_by, filter, flat_map, sum_by}
use Rattle.std.specs.List.{enumerate_from, list_all, range_with_len}
use Rattle.std.proofs.lemmas.Bool.{eqb-true}
use Rattle.std.proofs.lemmas.List.Sums.{sum_by-append, sum_by-cons}
use Rattle.query_sizes.specs.Sizes.{nodes, optional_nodes, aggregate_nodes, source_nodes}
use Rattle.typed_trees.specs.declared.typed.PlanSource.{PlanSource}
use Rattle.typed_trees.specs.declared.typed.TypedExpr.{TypedExpr}
use Rattle.typed_trees.specs.declared.typed.TypedQuery.{TypedQuery}
use Rattle.typed_values.specs.Bounds.{cannot_overflow}
use Rattle.rel_plan.specs.declared.plans.RelPlan.{RelPlan}
use Rattle.rel_plan.specs.Plans.{conditions_of_sources, arguments_of, expressions, plan_of}
use Rattle.rel_plan.specs.Pushes.{names_source, moves_to, stays, with_moved, pushed_sources, moved, pushed}
use Rattle.rel_plan.specs.Prunes.{pruned, pruned_source}
use Rattle.plan_laws.specs.Sizes.{weighs, plan_nodes, SizeLaws}

-- ---- sums

module _ {X : Type 0} where
  sum_alike : (f g : X → ℕ) → ((x : X) → f x ≡ g x) → (xs : List X) → sum_by f xs ≡ sum_by g xs
  sum_alike f g same xs = λ i. sum_by (λ x. same x i) xs

  sum_added : (f g : X → ℕ) (xs : List X) → sum_by (λ x. f x + g x) xs ≡ sum_by f xs + sum_by g xs
  sum_added f g [] = omega arith
  sum_added f g (x ∷ xs) = omega (arith, sum_by-cons (λ y. f y + g y) x xs, sum_by-cons f x xs, sum_by-cons g x xs, sum_added f g xs)

  sum_joined : {Y : Type 0} (f : Y → ℕ) (g : X → List Y) (xs : List X) → sum_by f (flat_map g xs) ≡ sum_by (λ x. sum_by f (g x)) xs
  sum_joined f g [] = refl
  sum_joined f g (x ∷ xs) = sum_by-append f (g x) (flat_map g xs) ∙ omega (arith, sum_by-cons (λ y. sum_by f (g y)) x xs, sum_joined f g xs)

-- ---- each condition has one place

module _ (p : ℕ → Bool) (x : ℕ) where
  abbrev shared : Bool → List ℕ → ℕ
  shared one ns = sum_by (λ k. cond (p k && one) x 0) ns

  nowhere : (ns : List ℕ) → shared false ns ≡ 0
  nowhere [] = refl
  nowhere (n ∷ ns) = sum_by-cons (λ k. cond (p k && false) x 0) n ns ∙ (ap (λ (b : Bool). cond b x 0 + shared false ns) (none (p n)) ∙ omega (arith, nowhere ns))
    where
      none : (b : Bool) → (b && false) ≡ false
      none true = refl
      none false = refl

  counted : (n : ℕ) (ns : List ℕ) → count_by p (n ∷ ns) ≡ cond (p n) 1 0 + count_by p ns
  counted n ns = sum_by-cons (λ k. cond (p k) 1 0) n ns

  one_added : (n : ℕ) (ns : List ℕ) → shared true (n ∷ ns) ≡ cond (p n && true) x 0 + shared true ns
  one_added n ns = sum_by-cons (λ k. cond (p k && true) x 0) n ns

  none_pass : (ns : List ℕ) → count_by p ns ≡ 0 → shared true ns ≡ 0
  none_pass [] h = refl
  none_pass (n ∷ ns) h = one_added n ns ∙ by (p n) (sym (counted n ns) ∙ h) (none_pass ns)
    where
      by : (b : Bool) → cond b 1 0 + count_by p ns ≡ 0 → (count_by p ns ≡ 0 → shared true ns ≡ 0) → cond (b && true) x 0 + shared true ns ≡ 0
      by true e further = absurd (omega arith)
      by false e further = let rest : count_by p ns ≡ 0 = omega arith in omega (arith, further rest)

  one_passes : (ns : List ℕ) → count_by p ns ≡ 1 → shared true ns ≡ x
  one_passes [] h = absurd (omega arith)
  one_passes (n ∷ ns) h = one_added n ns ∙ by (p n) (sym (counted n ns) ∙ h) (one_passes ns)
    where
      by : (b : Bool) → cond b 1 0 + count_by p ns ≡ 1 → (count_by p ns ≡ 1 → shared true ns ≡ x) → cond (b && true) x 0 + shared true ns ≡ x
      by true e further = let rest : count_by p ns ≡ 0 = omega arith in omega (arith, none_pass ns rest)
      by false e further = let rest : count_by p ns ≡ 1 = omega arith in omega (arith, further rest)

  -- what one place has, or it stays where no place alone has it
  in_one_place : (ns : List ℕ) → cond (not (count_by p ns == 1)) x 0 + shared (count_by p ns == 1) ns ≡ x
  in_one_place ns = by (count_by p ns == 1) refl
    where
      by : (b : Bool) → (count_by p ns == 1) ≡ b → cond (not b) x 0 + shared b ns ≡ x
      by true e = omega (arith, one_passes ns (eqb-true (count_by p ns) 1 e))
      by false e = omega (arith, nowhere ns)

-- ---- the conditions of a plan

module _ (weight : TypedExpr → ℕ) (count : ℕ) where
  filtered : (test : TypedExpr → Bool) (e : TypedExpr) (parts : List TypedExpr) → sum_by weight (filter test (e ∷ parts)) ≡ cond (test e) (weight e) 0 + sum_by weight (filter test parts)
  filtered test e parts = by (test e)
    where
      by : (b : Bool) → sum_by weight (cond b (e ∷ filter test parts) (filter test parts)) ≡ cond b (weight e) 0 + sum_by weight (filter test parts)
      by true = sum_by-cons weight e (filter test parts)
      by false = omega arith

  abbrev moving : List TypedExpr → ℕ → ℕ
  moving parts k = sum_by weight (filter (moves_to count k) parts)

  -- what stays and what moves weigh what there was
  split : (parts : List TypedExpr) → sum_by weight (filter (stays count) parts) + sum_by (moving parts) (range_with_len 0 count) ≡ sum_by weight parts
  split [] = all_zero (range_with_len 0 count)
    where
      all_zero : (ns : List ℕ) → 0 + sum_by (λ k. 0) ns ≡ 0
      all_zero [] = omega arith
      all_zero (n ∷ ns) = omega (arith, sum_by-cons (λ (k : ℕ). 0) n ns, all_zero ns)
  split (e ∷ parts) =
      let ns = range_with_len 0 count in
      let here = in_one_place (λ n. names_source n e) (weight e) ns in
      let gone : sum_by (moving (e ∷ parts)) ns ≡ sum_by (λ k. cond (moves_to count k e) (weight e) 0) ns + sum_by (moving parts) ns =
      sum_alike (moving (e ∷ parts)) (λ k. cond (moves_to count k e) (weight e) 0 + moving parts k) (λ k. filtered (moves_to count k) e parts) ns
      ∙ sum_added (λ k. cond (moves_to count k e) (weight e) 0) (moving parts) ns in
      omega (arith, here, gone, filtered (stays count) e parts, split parts, sum_by-cons weight e parts)

  sources_weigh : (parts : List TypedExpr) (k : ℕ) (sources : List PlanSource)
      → sum_by weight (conditions_of_sources (map (with_moved count parts) (enumerate_from k sources))) ≡ sum_by weight (conditions_of_sources sources) + sum_by (moving parts) (range_with_len k (length sources))
  sources_weigh parts k [] = omega arith
  sources_weigh parts k (s ∷ sources) =
      omega (
        arith,
        sum_by-append weight (s.filter ++ filter (moves_to count k) parts) (conditions_of_sources (map (with_moved count parts) (enumerate_from (k + 1) sources))),
        sum_by-append weight s.filter (filter (moves_to count k) parts),
        sum_by-append weight s.filter (conditions_of_sources sources),
        sum_by-cons (moving parts) k (range_with_len (k + 1) (length sources)),
        sources_weigh parts (k + 1) sources,
      )

-- ---- plans

parts_weigh : (weight : TypedExpr → ℕ) (filter conditions more : List TypedExpr) → sum_by weight (filter ++ (conditions ++ more)) ≡ sum_by weight filter + (sum_by weight conditions + sum_by weight more)
parts_weigh weight filter conditions more = sum_by-append weight filter (conditions ++ more) ∙ ap (λ (n : ℕ). sum_by weight filter + n) (sum_by-append weight conditions more)

pub moved_weighs : (weight : TypedExpr → ℕ) (p : RelPlan) → weighs weight (moved p) ≡ weighs weight p
moved_weighs weight p =
    let count = length p.sources in
    let more = arguments_of p.aggregates ++ (option_to_list p.having ++ p.items) in
    omega (
      arith,
      parts_weigh weight (filter (stays count) p.filter) (conditions_of_sources (pushed_sources p.filter p.sources)) more,
      parts_weigh weight p.filter (conditions_of_sources p.sources) more,
      sources_weigh weight count p.filter 0 p.sources,
      split weight count p.filter,
    )

pushed_weighs : (weight : TypedExpr → ℕ) (p : RelPlan) → weighs weight (pushed p) ≡ weighs weight p
unfolding pushed
pushed_weighs weight p = by (list_all cannot_overflow p.filter)
  where
    by : (b : Bool) → weighs weight (if b then moved p else p) ≡ weighs weight p
    by true = moved_weighs weight p
    by false = refl

pushed_aggregates : (p : RelPlan) → (pushed p).aggregates ≡ p.aggregates
unfolding pushed
pushed_aggregates p = by (list_all cannot_overflow p.filter)
  where
    by : (b : Bool) → (if b then moved p else p).aggregates ≡ p.aggregates
    by true = refl
    by false = refl

same_conditions : (p : RelPlan) (n : ℕ) (sources : List PlanSource) → conditions_of_sources (map (pruned_source p) (enumerate_from n sources)) ≡ conditions_of_sources sources
same_conditions p n [] = refl
same_conditions p n (s ∷ sources) = ap (λ (l : List TypedExpr). s.filter ++ l) (same_conditions p (n + 1) sources)

pruned_expressions : (p : RelPlan) → expressions (pruned p) ≡ expressions p
unfolding pruned
pruned_expressions p = ap (λ (l : List TypedExpr). p.filter ++ (l ++ (arguments_of p.aggregates ++ (option_to_list p.having ++ p.items)))) (same_conditions p 0 p.sources)

pruned_aggregates : (p : RelPlan) → (pruned p).aggregates ≡ p.aggregates
unfolding pruned
pruned_aggregates p = refl

-- ---- the plan of a query

optional : (o : Option TypedExpr) → sum_by nodes (option_to_list o) ≡ optional_nodes o
optional None = refl
optional (Some e) = omega (arith, sum_by-cons nodes e [])

planned : (q : TypedQuery) → plan_nodes (plan_of q) ≡ sum_by nodes q.filter + sum_by aggregate_nodes q.aggregates + optional_nodes q.having + sum_by nodes q.items + sum_by source_nodes q.sources
planned q =
    let last = option_to_list q.having ++ q.items in
    let of_sources : sum_by nodes (conditions_of_sources q.sources) ≡ sum_by source_nodes q.sources = sum_joined nodes (λ s. s.filter) q.sources in
    let of_aggregates : sum_by nodes (arguments_of q.aggregates) ≡ sum_by aggregate_nodes q.aggregates =
    sum_joined nodes (λ a. option_to_list a.argument) q.aggregates ∙ sum_alike (λ a. sum_by nodes (option_to_list a.argument)) aggregate_nodes (λ a. optional a.argument) q.aggregates in
    omega (
      arith,
      parts_weigh nodes q.filter (conditions_of_sources q.sources) (arguments_of q.aggregates ++ last),
      sum_by-append nodes (arguments_of q.aggregates) last,
      sum_by-append nodes (option_to_list q.having) q.items,
      of_sources,
      of_aggregates,
      optional q.having,
    )

pub size_laws : SizeLaws
size_laws = record {
  planned = planned;
  planned_aggregates = λ q. refl;
  pushed_weighs = pushed_weighs;
  pushed_aggregates = pushed_aggregates;
  pruned_expressions = pruned_expressions;
  pruned_aggregates = pruned_aggregates;
}

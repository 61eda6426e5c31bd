-- The plan of a query, and a plan without the columns that nothing names, keep the answer.
use Rattle.std.proofs.Common.{◌≡◌, ◌∙◌, ℕ, suc, ◌+◌, ◌==◌, Bool, false, not, ◌||◌, List, [], ◌∷◌, length, map, refl, sym, ap, arith}
use Rattle.std.specs.List.{enumerate_from}
use Rattle.std.proofs.lemmas.Bool.{ne_eqb}
use Rattle.typed_trees.specs.declared.typed.Aggregate.{Aggregate}
use Rattle.typed_trees.specs.declared.typed.ColumnRef.{ColumnRef}
use Rattle.typed_trees.specs.declared.typed.PlanSource.{PlanSource}
use Rattle.query_answers.specs.Clauses as query
use Rattle.query_answers.specs.Clauses.{clauses_of}
use Rattle.query_answers.specs.Answers.{answer}
use Rattle.query_answers.specs.Laws.{with_columns}
use Rattle.query_answers.proofs.Plans.{plan_laws}
use Rattle.rel_plan.specs.declared.plans.RelPlan.{RelPlan}
use Rattle.rel_plan.specs.Prunes.{pruned, pruned_source}
use Rattle.plan_laws.specs.PlanAnswers.{clauses_of_plan}
use Rattle.plan_laws.specs.Laws.{PlanLaw, PruneLaw}

-- ---- the plan of a query

some_there : (n : ℕ) → (suc n == 0) ≡ false
some_there n = ne_eqb (suc n) 0 (λ e. omega arith)

grouped_alike : (groups : List ColumnRef) (aggregates : List Aggregate) → (not (length groups == 0) || not (length aggregates == 0)) ≡ query.is_grouped groups aggregates
grouped_alike [] [] = refl
grouped_alike [] (a ∷ more) = ap not (some_there (length more))
grouped_alike (c ∷ groups) aggregates = ap (λ (b : Bool). not b || not (length aggregates == 0)) (some_there (length groups))

pub plan_law : PlanLaw
plan_law tables q = ap (λ (grouped : Bool). answer tables (record (clauses_of q) { grouped = grouped })) (grouped_alike q.groups q.aggregates)

-- ---- columns that nothing names

without_columns : (p : RelPlan) (n : ℕ) (sources : List PlanSource) → map (with_columns []) (map (pruned_source p) (enumerate_from n sources)) ≡ map (with_columns []) sources
without_columns p n [] = refl
without_columns p n (s ∷ sources) = ap (λ (more : List PlanSource). with_columns [] s ∷ more) (without_columns p (n + 1) sources)

pub prune_law : PruneLaw
unfolding pruned
prune_law tables p =
    sym (plan_laws.narrowed tables (λ s. []) (clauses_of_plan (pruned p)))
    ∙ (ap (λ (sources : List PlanSource). answer tables (record (clauses_of_plan p) { sources = sources })) (without_columns p 0 p.sources)
    ∙ plan_laws.narrowed tables (λ s. []) (clauses_of_plan p))

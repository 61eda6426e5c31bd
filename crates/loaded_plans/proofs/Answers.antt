-- Over loaded tables plans keep the answers of their queries.
use Rattle.std.proofs.Common.{◌∙◌}
use Rattle.rel_plan.specs.Plans.{plan_of}
use Rattle.rel_plan.specs.Pushes.{pushed}
use Rattle.plan_laws.specs.Laws.{PlanLaw, PruneLaw}
use Rattle.plan_laws.specs.WellFormed.{WellFormedLaws}
use Rattle.loaded_plans.specs.Laws.{LoadedAnswers, LoadedFit}

pub loaded_answers : LoadedFit → WellFormedLaws → PlanLaw → PruneLaw → LoadedAnswers
loaded_answers fit formed plan prune = record {
  pushed_keeps = λ defs tables p h w. formed.answered defs tables p (fit defs tables h) w;
  query_kept = λ defs tables q t h g e.
      prune tables (pushed (plan_of t)) ∙ formed.answered defs tables (plan_of t) (fit defs tables h) (formed.planned q defs t g e) ∙ plan tables t;
}

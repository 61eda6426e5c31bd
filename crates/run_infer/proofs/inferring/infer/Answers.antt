use Rattle.std.proofs.Common.{rules, ◌≡◌, ◌/◌}
use Rattle.run_infer.specs.declared.inferring.Runs.TheVariants.{One, Uniform}
use Rattle.run_infer.specs.Inferred.{inferred}
use Rattle.run_infer.proofs.InferLaws.{has_runs}
use Rattle.run_infer.proofs.inferring.infer.Goals as goal

pub returns-then-modulus-eq1-clause-runs : goal.returns-then-modulus-eq1-clause-runs
returns-then-modulus-eq1-clause-runs c =
    let e : One ≡ inferred c.args.v.now = search rules in
    has_runs c.args.v.now One c.divisor-divisor.ensures.admissible.divisor_from e

pub returns-then-divisor-step-eq0-clause-runs : goal.returns-then-divisor-step-eq0-clause-runs
returns-then-divisor-step-eq0-clause-runs c =
    let e : Uniform (c.divisor-divisor.result / c.step-step.result) ≡ inferred c.args.v.now = search rules in
    has_runs c.args.v.now (Uniform (c.divisor-divisor.result / c.step-step.result)) c.divisor-divisor.ensures.admissible.divisor_from e

pub returns-then-step-divisor-eq0-clause-runs : goal.returns-then-step-divisor-eq0-clause-runs
returns-then-step-divisor-eq0-clause-runs c = has_runs c.args.v.now c.stepping.result c.divisor-divisor.ensures.admissible.divisor_from (search rules)

use Rattle.std.proofs.Common.{rules, FitsSigned}
use Rattle.std.specs.Int.{w128}
use Rattle.std.proofs.lemmas.Int.{to_z-of_z}
use Rattle.control_plan.proofs.NumberLaws.{wide_start, wide_step, wide_modulus, wide_divisor}
use Rattle.control_plan.proofs.numbers.admitted.Goals as goal
use Rattle.control_plan.proofs.numbers.admitted.Goals.{in_default-via-in-Some+in-Some+in-Some+in_default, in_default-via-in-Some+in-Some+in_default, in_default-via-in-Some+in_default, in_default-via-in_default}

pub returns-in_default : goal.returns-in_default
returns-in_default c =
    let start : FitsSigned w128 c.args.start = search rules in
    let step : FitsSigned w128 c.args.step = search rules in
    let modulus : FitsSigned w128 c.args.modulus = search rules in
    let divisor : FitsSigned w128 c.args.divisor = search rules in
    elim c.in_default.branch [
      | in_default-via-in-Some+in-Some+in-Some+in_default w ↦
          let wide = rw w.in_default.is-3 at c.unsigned-divisor.ensures in
          wide_divisor c.args.start c.args.step c.args.modulus c.args.divisor (simp (to_z-of_z w128 c.args.divisor divisor) at wide)
      | in_default-via-in-Some+in-Some+in_default w ↦
          let wide = rw w.in_default.is-2 at c.unsigned-modulus.ensures in
          wide_modulus c.args.start c.args.step c.args.modulus c.args.divisor (simp (to_z-of_z w128 c.args.modulus modulus) at wide)
      | in_default-via-in-Some+in_default w ↦
          let wide = rw w.in_default.is-1 at c.unsigned-step.ensures in
          wide_step c.args.start c.args.step c.args.modulus c.args.divisor (simp (to_z-of_z w128 c.args.step step) at wide)
      | in_default-via-in_default w ↦
          let wide = rw w.in_default.is-0 at c.signed-start.ensures in
          wide_start c.args.start c.args.step c.args.modulus c.args.divisor (simp (to_z-of_z w128 c.args.start start) at wide)
    ]

use Rattle.std.proofs.Common.{ℕ, ◌+◌, ap, ◌∙◌}
use Rattle.programs.specs.Outlines.{outlines}
use Rattle.programs.specs.Vectors.{tables}
use Rattle.programs.specs.Parts.{known_in}
use Rattle.programs.proofs.CheckSteps.{check_next, check_stops}
use Rattle.programs.proofs.check.check_all.Goals as goal

pub returns-in-Err-clause-checked : goal.returns-in-Err-clause-checked
returns-in-Err-clause-checked c =
    check_stops (outlines (tables c.args.store.now)) c.args.statements.now c.loop-i.i c.index-statements-i.result (known_in c.loop-i.known) c.in-Err.refusal c.loop-i-test.true c.index-statements-i.is c.in-Err.ensures.checked c.loop-i.invariant.so_far

pub loop-i-preserved : goal.loop-i-preserved
loop-i-preserved c = record {
  count = c.in-Ok.ensures.count ∙ ap (λ (k : ℕ). k + 1) c.loop-i.invariant.count;
  so_far = check_next (outlines (tables c.args.store.now)) c.args.statements.now c.loop-i.i c.index-statements-i.result (known_in c.loop-i.known) (known_in c.in-Ok.next) c.loop-i-test.true c.index-statements-i.is c.in-Ok.ensures.checked c.loop-i.invariant.so_far;
}

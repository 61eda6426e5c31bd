use Rattle.std.proofs.Common.{arith}
use Rattle.std.proofs.lemmas.Grind.{common_steps}
use Rattle.query_read.proofs.Spans.{not_wide, not_long}
use Rattle.query_read.proofs.days.digits_value.Goals as goal

pub returns-in_default-clause-value : goal.returns-in_default-clause-value
returns-in_default-clause-value c =
    let m = not_long c.args.z.now c.in-Some.value in
    absurd (grind (arith, common_steps))

pub returns-in_default-2-clause-value : goal.returns-in_default-2-clause-value
returns-in_default-2-clause-value c =
    let m = not_wide c.args.z.now in
    absurd (grind (arith, common_steps))

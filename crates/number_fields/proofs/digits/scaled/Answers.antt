use Rattle.std.proofs.Common.{◌≤◌, sym, arith}
use Rattle.number_fields.proofs.CappedLaws.{capped_far}
use Rattle.number_fields.proofs.digits.scaled.Goals as goal

pub returns-then-places-gt18 : goal.returns-then-places-gt18
returns-then-places-gt18 c =
    let some : 1 ≤ c.args.value = grind (arith, c.if-places-eq0.false.0) in
    sym (capped_far c.args.value c.args.places some (omega (arith, c.if-places-gt18.true)))

use Rattle.std.proofs.Common.{◌∙◌, sym}
use Rattle.typed_values.proofs.FoundParts.{bounds_none, bounds_some}
use Rattle.typed_values.proofs.interval_rule.bounds.Goals as goal

pub returns-in-None : goal.returns-in-None
returns-in-None c = bounds_none c.args.e.now (sym c.bounds_of.ensures ∙ c.in-None.is)

pub returns-in-Some : goal.returns-in-Some
returns-in-Some c = bounds_some c.args.e.now c.in-Some.found (sym c.bounds_of.ensures ∙ c.in-Some.is)

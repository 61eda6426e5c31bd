use Rattle.programs.proofs.Places.{known_at_start, within_none}
use Rattle.programs.proofs.known.Known.nothing.Goals as goal

pub invariant_of-result : goal.invariant_of-result
invariant_of-result c = record { within = within_none _ _ c.new-2.ensures }

pub returns : goal.returns
returns c = known_at_start _ _ _ c.new.ensures.items c.new-2.ensures c.new-3.ensures

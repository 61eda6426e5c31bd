use Rattle.slot_moves.proofs.MoveLaws.{numbers_more}
use Rattle.slot_moves.proofs.ranking.numbers_of.Goals as goal

pub loop-i-preserved : goal.loop-i-preserved
loop-i-preserved c =
    numbers_more c.args.column.now.slots c.loop-i.found.items c.push_number.new.found.items c.loop-i.i c.get.result c.in_ok-push_number.ensures c.loop-i.invariant c.get.ensures.slot

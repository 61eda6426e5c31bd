use Rattle.std.proofs.Common.{arith}
use Rattle.programs.specs.Indexes.{places_of}
use Rattle.last_readers.proofs.Noting.{reading_start, reading_skip, reading_keep}
use Rattle.last_readers.proofs.last.last_readers.Goals as goal

pub loop-i-init : goal.loop-i-init
loop-i-init c = reading_start _ _ _ (omega arith) c.new-places.ensures

pub loop-i-preserved-then-is_wanted : goal.loop-i-preserved-then-is_wanted
loop-i-preserved-then-is_wanted c =
    reading_keep (places_of c.loop-i.places) (places_of c.in_ok-places.places) c.args.statements.now c.loop-i.i _ c.index-statements-i.result c.index-statements-i-then-is_wanted.result (omega arith) c.loop-i.invariant c.index-statements-i.is c.if-is_wanted.ensures (rw c.mentions_of.ensures at c.in_ok-places.ensures)

pub loop-i-preserved : goal.loop-i-preserved
loop-i-preserved c =
    reading_skip (places_of c.loop-i.places) c.args.statements.now c.loop-i.i _ c.index-statements-i.result (omega arith) c.loop-i.invariant c.index-statements-i.is c.if-is_wanted.ensures

use Rattle.std.proofs.Common.{arith}
use Rattle.programs.specs.Indexes.{places_of}
use Rattle.programs.proofs.Marks.{marked_start, marked_skip, marked_keep}
use Rattle.programs.proofs.reach.reached_marks.Goals as goal

pub loop-i-init : goal.loop-i-init
loop-i-init c = marked_start _ _ _ c.in_ok-marks.ensures c.new-wanted.ensures

pub loop-i-preserved-then-is_wanted : goal.loop-i-preserved-then-is_wanted
loop-i-preserved-then-is_wanted c =
    marked_keep _ _ _ (places_of c.in_ok-wanted.wanted) c.loop-i.i _ c.index-statements-i.result c.index-statements-i-then-is_wanted.result (omega arith) c.loop-i.invariant c.index-statements-i.is c.if-is_wanted.ensures c.in_ok-wanted.ensures

pub loop-i-preserved : goal.loop-i-preserved
loop-i-preserved c = marked_skip _ _ _ c.loop-i.i _ c.index-statements-i.result (omega arith) c.loop-i.invariant c.index-statements-i.is c.if-is_wanted.ensures

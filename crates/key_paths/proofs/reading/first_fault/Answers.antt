use Rattle.std.proofs.Common.{sym}
use Rattle.key_paths.proofs.ReadingLaws.{fault_at_place, fault_at_end, path_at_end, read_more, read_to_end}
use Rattle.key_paths.proofs.reading.first_fault.Goals as goal

pub returns-in-Err : goal.returns-in-Err
returns-in-Err c = fault_at_place _ _ _ _ c.loop-at-test.true c.loop-at.invariant c.in-Err.ensures

pub loop-at-preserved : goal.loop-at-preserved
loop-at-preserved c = read_more _ _ _ _ c.loop-at-test.true c.loop-at.invariant c.in-Ok.ensures

pub returns-in-Ok-end : goal.returns-in-Ok-end
returns-in-Ok-end c =
    path_at_end _ _ (read_to_end _ _ _ c.loop-at-test.false c.loop-at.auto.at-end c.loop-at.invariant) (sym c.in-Ok-end.ensures)

pub returns-in-Err-end : goal.returns-in-Err-end
returns-in-Err-end c =
    fault_at_end _ _ _ (read_to_end _ _ _ c.loop-at-test.false c.loop-at.auto.at-end c.loop-at.invariant) (sym c.in-Err-end.ensures)

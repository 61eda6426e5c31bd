use Rattle.std.proofs.Common.{arith}
use Rattle.std.proofs.lemmas.Int.{ints}
use Rattle.slot_wise.proofs.FarShifts.{far_right_up, far_right_down}
use Rattle.slot_wise.proofs.shifting.far_right.Goals as goal

pub returns-then-z-lt0 : goal.returns-then-z-lt0
returns-then-z-lt0 c = far_right_down c.args.z c.args.by c.requires c.ranges.z (omega (arith, ints))

pub returns-else-z-lt0 : goal.returns-else-z-lt0
returns-else-z-lt0 c = far_right_up c.args.z c.args.by c.requires c.ranges.z (omega (arith, ints))

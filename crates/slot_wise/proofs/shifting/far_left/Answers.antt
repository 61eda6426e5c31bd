use Rattle.std.proofs.Common.{sym, refl}
use Rattle.slot_wise.proofs.FarShifts.{far_left_over}
use Rattle.slot_wise.proofs.shifting.far_left.Goals as goal

pub returns-else-z-eq0 : goal.returns-else-z-eq0
returns-else-z-eq0 c = sym (far_left_over c.args.z c.args.by c.requires (λ e. c.if-z-eq0.false (rw e refl)))

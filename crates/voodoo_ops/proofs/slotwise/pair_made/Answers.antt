use Rattle.std.proofs.Common.{ap}
use Rattle.control_vectors.specs.Slots.{all_slots}
use Rattle.voodoo_ops.specs.Envs.{env_in}
use Rattle.voodoo_ops.specs.Slotwise.{pair_len, pair_cells}
use Rattle.voodoo_ops.proofs.Readings.{pair_cells_are, pair_cells_long}
use Rattle.voodoo_ops.proofs.slotwise.pair_made.Goals as goal

pub returns : goal.returns
returns c =
    let env = env_in c.args.made.now in
    let x = c.args.args.now.x in
    let y = c.args.args.now.y in
    let cells = ap all_slots (pair_cells_are c.args.kind env x y c.operand-x.result c.operand-y.result c.common_len.result c.operand-x.ensures c.operand-y.ensures c.common_len.ensures.len) in
    c.named_if_made.ensures (pair_len env x y) (all_slots (pair_cells c.args.kind env x y)) (rw cells at c.pairs.ensures) (pair_cells_long c.args.kind env x y)

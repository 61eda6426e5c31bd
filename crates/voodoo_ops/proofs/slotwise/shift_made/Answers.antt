use Rattle.std.proofs.Common.{ℕ, ℤ, ap, ◌∙◌, map}
use Rattle.std.specs.Int.{w32}
use Rattle.std.specs.List.{range_with_len}
use Rattle.std.proofs.lemmas.Int.{to_z-of_z}
use Rattle.control_vectors.specs.Slots.{all_slots}
use Rattle.slot_wise.specs.Pairs.{bit_shift_slot}
use Rattle.slot_wise.specs.Sources.{source_at}
use Rattle.voodoo_ops.specs.Envs.{env_in}
use Rattle.voodoo_ops.specs.Slotwise.{pair_len, shift_cells}
use Rattle.voodoo_ops.proofs.Readings.{shift_cells_are, shift_cells_long}
use Rattle.voodoo_ops.proofs.slotwise.shift_made.Goals as goal

pub returns : goal.returns
returns c =
    let env = env_in c.args.made.now in
    let x = c.args.x.now in
    let same = ap (λ (z : ℤ). all_slots (map (λ (i : ℕ). bit_shift_slot z (source_at c.operand-source.result i)) (range_with_len 0 c.common_len-n.result))) (to_z-of_z w32 c.args.by c.ranges.by) in
    let cells = ap all_slots (shift_cells_are env x c.args.by c.operand-source.result c.common_len-n.result c.operand-source.ensures c.common_len-n.ensures.len) in
    c.named_if_made.ensures (pair_len env x x) (all_slots (shift_cells env x c.args.by)) (rw (same ∙ cells) at c.shifts-column.ensures) (shift_cells_long env x c.args.by)

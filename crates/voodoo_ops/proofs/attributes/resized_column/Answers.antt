use Rattle.std.proofs.Common.{◌≤◌, ap, sym, ◌∙◌, arith, List, [], ◌∷◌, ◌++◌, length}
use Rattle.control_vectors.specs.Slots.{Slot}
use Rattle.slot_columns.specs.Builders.{BuilderValue}
use Rattle.struct_vectors.specs.Columns.{ColumnValue}
use Rattle.voodoo_ops.specs.Attributes.{resized}
use Rattle.voodoo_ops.proofs.Listed.{resized_take, resized_more, length-resized}
use Rattle.voodoo_ops.proofs.attributes.resized_column.Goals as goal

pub returns-then-n-len : goal.returns-then-n-len
returns-then-n-len c =
    let few : c.args.n ≤ length c.args.column.now.slots = omega (arith, c.if-n-len.true, c.len.ensures.len) in
    ap (λ (d : ColumnValue). d.slots) c.in_ok-front.ensures ∙ resized_take c.args.n c.args.column.now.slots few

pub push-requires : goal.push-requires
push-requires c = omega (arith, c.loop-i.invariant.room, ap (λ (l : List Slot). length l) c.loop-i.invariant.slots, length-resized c.loop-i.i c.args.column.now.slots, c.loop-i-test.true)

pub loop-i-preserved : goal.loop-i-preserved
loop-i-preserved c =
    let xs = c.args.column.now.slots in
    record {
      room = ap (λ (b : BuilderValue). b.room) c.in_ok-push.ensures.pushed ∙ c.loop-i.invariant.room;
      slots = ap (λ (b : BuilderValue). b.slots) c.in_ok-push.ensures.pushed
          ∙ ap (λ (l : List Slot). l ++ c.slot_of.result ∷ []) c.loop-i.invariant.slots
          ∙ ap (λ (s : Slot). resized c.loop-i.i xs ++ s ∷ []) c.slot_of.ensures
          ∙ sym (resized_more c.loop-i.i xs);
    }

use Rattle.std.proofs.Common.{◌+◌, ap, ◌∙◌, sym, arith, length, List, Ok, Err}
use Rattle.std.proofs.lemmas.Result.{err_from_is_err_and}
use Rattle.control_vectors.specs.Slots.{Slot}
use Rattle.slot_columns.specs.Builders.{BuilderValue}
use Rattle.slot_columns.proofs.Listings.{length_pushed, mapped_more, mapped_over, mapped_all}
use Rattle.slot_columns.proofs.listed.built.Goals as goal

pub returns-in_err-f : goal.returns-in_err-f
returns-in_err-f g c = λ cell gives.
    let p = err_from_is_err_and c.from_residual-in_err-f.result c.from_residual-in_err-f.ensures.1 in
    rw (p.1, p.2) (mapped_over cell c.args.n c.loop-i.i c.in_err-f.field-0.0 c.loop-i-test.true (gives c.loop-i.i (Err c.in_err-f.field-0.0) c.loop-i-test.true c.in_err-f.ensures))

pub loop-i-preserved : goal.loop-i-preserved
loop-i-preserved g c =
    let slots = ap (λ (b : BuilderValue). b.slots) c.in_ok-push.ensures.pushed in
    record {
      room = ap (λ (b : BuilderValue). b.room) c.in_ok-push.ensures.pushed ∙ c.loop-i.invariant.room;
      count = ap (λ (l : List Slot). length l) slots ∙ length_pushed c.loop-i.builder.slots c.in_ok-f.field-0 ∙ ap (λ n. n + 1) c.loop-i.invariant.count;
      so_far = λ cell gives. mapped_more cell c.loop-i.builder.slots c.push.new.self.slots c.loop-i.i c.in_ok-f.field-0 slots (c.loop-i.invariant.so_far cell gives) (gives c.loop-i.i (Ok c.in_ok-f.field-0) c.loop-i-test.true c.in_ok-f.ensures);
    }

pub returns : goal.returns
returns g c = λ cell gives.
    mapped_all cell c.loop-i.builder.slots c.args.n c.loop-i.i (omega (arith, c.loop-i-test.false, c.loop-i.auto.i-end)) (c.loop-i.invariant.so_far cell gives) ∙ ap (λ (l : List Slot). Ok l) (sym c.done.ensures)

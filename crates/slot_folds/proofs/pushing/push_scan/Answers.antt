use Rattle.std.proofs.Common.{◌≡◌, ◌+◌, ◌-◌, ◌^◌, ◌∙◌, ap, arith, length, List}
use Rattle.std.specs.Prelude.{slice_range}
use Rattle.control_vectors.specs.Slots.{Slot}
use Rattle.slot_columns.specs.Builders.{BuilderValue}
use Rattle.slot_columns.proofs.Listings.{length_pushed}
use Rattle.slot_folds.proofs.RunLaws.{length_range}
use Rattle.slot_folds.proofs.StretchLaws.{summed_more, summed_few}
use Rattle.slot_folds.proofs.PushLaws.{scanned_is, scan_more, scan_over}
use Rattle.slot_folds.proofs.pushing.push_scan.Goals as goal

pub with_slot-total-requires : goal.with_slot-total-requires
with_slot-total-requires c =
    summed_few c.args.values.now.slots c.args.from (c.args.from + c.loop-k.k) (2 ^ 22) c.loop-k.total (omega (arith, c.requires.within, c.loop-k-test.true)) c.get-s.ensures.bounded c.loop-k.invariant.total

pub returns-in-Err : goal.returns-in-Err
returns-in-Err c =
    let xs = c.args.values.now.slots in
    let next : c.args.from + c.loop-k.k + 1 ≡ c.args.from + (c.loop-k.k + 1) = omega arith in
    let total = rw next at (summed_more xs c.args.from (c.args.from + c.loop-k.k) c.get-s.result c.loop-k.total c.with_slot-total.result (omega arith) c.get-s.ensures.slot c.with_slot-total.ensures c.loop-k.invariant.total) in
    let long : length (slice_range xs c.args.from c.args.to) ≡ c.args.to - c.args.from = length_range xs c.args.from c.args.to c.requires.within in
    scan_over (slice_range xs c.args.from c.args.to) c.loop-k.k c.in-Err.field-0 (omega (arith, c.loop-k-test.true)) (c.in-Err.ensures ∙ scanned_is xs c.args.from c.args.to c.loop-k.k c.get-s.result c.with_slot-total.result (omega (arith, c.loop-k-test.true)) c.requires.within c.get-s.ensures.slot total)

pub loop-k-preserved : goal.loop-k-preserved
loop-k-preserved c =
    let xs = c.args.values.now.slots in
    let next : c.args.from + c.loop-k.k + 1 ≡ c.args.from + (c.loop-k.k + 1) = omega arith in
    let total = rw next at (summed_more xs c.args.from (c.args.from + c.loop-k.k) c.get-s.result c.loop-k.total c.with_slot-total.result (omega arith) c.get-s.ensures.slot c.with_slot-total.ensures c.loop-k.invariant.total) in
    let slots = ap (λ (b : BuilderValue). b.slots) c.in_ok-push-in-Ok.ensures.pushed in
    record {
      room = ap (λ (b : BuilderValue). b.room) c.in_ok-push-in-Ok.ensures.pushed ∙ c.loop-k.invariant.room;
      count = ap (λ (l : List Slot). length l) slots ∙ length_pushed c.loop-k.builder.slots c.in-Ok.t ∙ omega (arith, c.loop-k.invariant.count);
      slots = scan_more (slice_range xs c.args.from c.args.to) c.args.builder.now.slots c.loop-k.builder.slots c.push.new.self.slots c.loop-k.k c.in-Ok.t slots c.loop-k.invariant.slots (c.in-Ok.ensures ∙ scanned_is xs c.args.from c.args.to c.loop-k.k c.get-s.result c.with_slot-total.result (omega (arith, c.loop-k-test.true)) c.requires.within c.get-s.ensures.slot total);
      total = total;
    }

use Rattle.std.proofs.Common.{◌≡◌, ◌+◌, ◌++◌, ◌∙◌, ap, arith, length, List, ℕ}
use Rattle.std.specs.Prelude.{slice_range}
use Rattle.std.specs.List.{range_with_len}
use Rattle.std.proofs.lemmas.List.{length-append}
use Rattle.slot_columns.specs.Builders.{BuilderValue}
use Rattle.slot_folds.specs.Folds.{chosen}
use Rattle.slot_folds.specs.Jobs.{picked}
use Rattle.slot_folds.proofs.PushLaws.{chosen_more, places_more, picked_few}
use Rattle.slot_folds.proofs.pushing.push_places.Goals as goal

pub loop-i-preserved : goal.loop-i-preserved
loop-i-preserved c =
    let xs = c.args.values.now.slots in
    let places = range_with_len 0 (length xs) in
    let before = chosen xs (slice_range places c.args.from c.loop-i.i) in
    let after = chosen xs (slice_range places c.args.from (c.loop-i.i + 1)) in
    let new = picked c.get.result c.loop-i.i in
    let split : after ≡ before ++ new = chosen_more xs c.args.from c.loop-i.i c.get.result c.loop-i.auto.i c.get.ensures.slot in
    let many : length after ≡ length before + length new = ap (λ (l : List ℕ). length l) split ∙ length-append before new in
    record {
      room = ap (λ (b : BuilderValue). b.room) c.in_ok-kept.ensures.pushed ∙ c.loop-i.invariant.room;
      slots = places_more c.args.builder.now.slots c.loop-i.builder.slots c.push_place.new.builder.slots before after new (ap (λ (b : BuilderValue). b.slots) c.in_ok-kept.ensures.pushed) c.loop-i.invariant.slots split;
      count = omega (arith, c.loop-i.invariant.count, c.in_ok-kept.ensures.count, many);
      few = omega (arith, c.loop-i.invariant.few, c.in_ok-kept.ensures.count, picked_few c.get.result c.loop-i.i);
    }

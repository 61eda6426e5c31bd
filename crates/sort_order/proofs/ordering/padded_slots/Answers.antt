use Rattle.std.proofs.Common.{◌≡◌, ◌++◌, ◌-◌, ◌∙◌, ap, arith, length, replicate, None}
use Rattle.sort_order.proofs.CellLaws.{padded_more, places_as_slots}
use Rattle.sort_order.proofs.ordering.padded_slots.Goals as goal

pub loop-k-preserved : goal.loop-k-preserved
loop-k-preserved c = record {
  few = omega (arith, c.loop-k-test.true);
  slots = padded_more (places_as_slots c.args.places.now) c.loop-k.slots.items c.push-in-loop-k.new.self.items (length c.args.places.now) c.loop-k.k c.loop-k.auto.k c.in_ok-push-2.ensures.items c.loop-k.invariant.slots;
}

pub returns : goal.returns
returns c =
    let count : c.loop-k.k - length c.args.places.now ≡ c.args.n - length c.args.places.now = omega (arith, c.loop-k.invariant.few, c.loop-k.auto.k, c.loop-k-test.false) in
    c.loop-k.invariant.slots ∙ ap (λ k. places_as_slots c.args.places.now ++ replicate k None) count

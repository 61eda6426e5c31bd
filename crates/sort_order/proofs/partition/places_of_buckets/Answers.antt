use Rattle.std.proofs.Common.{ℕ, ℤ, get_or, ap, ◌∙◌, arith, List, None}
use Rattle.sort_order.specs.Pairs.{rank_slot}
use Rattle.sort_order.proofs.PairLaws.{slots_more, ranks_are}
use Rattle.sort_order.proofs.partition.places_of_buckets.Goals as goal

pub loop-i-preserved : goal.loop-i-preserved
loop-i-preserved c =
    slots_more (λ j. rank_slot c.in_ok-pairs.pairs.items (get_or c.args.buckets.now j None) j) c.loop-i.slots.items c.push.new.self.items c.loop-i.i c.rank_of.result c.in_ok-push.ensures.items c.loop-i.invariant
    (c.rank_of.ensures ∙ ap (λ (l : List (ℤ × ℕ)). rank_slot l (get_or c.args.buckets.now c.loop-i.i None) c.loop-i.i) c.as_slice.ensures.value)

pub returns : goal.returns
returns c =
    ranks_are c.args.buckets.now c.in_ok-pairs.pairs.items c.loop-i.slots.items c.loop-i.i c.in_ok-pairs.ensures.same (omega (arith, c.loop-i-test.false, c.loop-i.auto.i-end)) c.loop-i.invariant

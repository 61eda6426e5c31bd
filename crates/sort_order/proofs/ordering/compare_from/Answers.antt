use Rattle.std.proofs.Common.{◌+◌, map, drop, ap, sym, ◌∙◌, arith}
use Rattle.std.specs.Ordering.{ordering_then}
use Rattle.std.specs.declared.cmp.Ordering.{Ordering}
use Rattle.sort_order.specs.Keys.{key_of}
use Rattle.sort_order.specs.Orders.{keys_cmp}
use Rattle.sort_order.proofs.CellLaws.{keys_from, then_tells, then_equal, tells, tells_not}
use Rattle.sort_order.proofs.ordering.compare_from.Goals as goal

pub returns-then-ne : goal.returns-then-ne
returns-then-ne g c =
    let keys = g.K.KeySource.keys c.args.keys.now in
    let rest = keys_cmp (drop (c.loop-k.k + 1) (map key_of keys)) c.args.i c.args.j in
    let o = c.compare_by-by_key.result in
    sym (sym c.loop-k.invariant ∙ keys_from keys c.loop-k.k c.args.i c.args.j (omega (arith, c.loop-k-test.true, c.count-k-end.ensures.count))
    ∙ ap (λ (p : Ordering). ordering_then p rest) (sym c.compare_by-by_key.ensures) ∙ then_tells o rest (tells o (sym c.ne.ensures ∙ c.if-ne.true)))

pub loop-k-preserved : goal.loop-k-preserved
loop-k-preserved g c =
    let keys = g.K.KeySource.keys c.args.keys.now in
    let rest = keys_cmp (drop (c.loop-k.k + 1) (map key_of keys)) c.args.i c.args.j in
    let o = c.compare_by-by_key.result in
    sym (keys_from keys c.loop-k.k c.args.i c.args.j (omega (arith, c.loop-k-test.true, c.count-k-end.ensures.count))
    ∙ ap (λ (p : Ordering). ordering_then p rest) (sym c.compare_by-by_key.ensures) ∙ then_equal o rest (tells_not o (sym c.ne.ensures ∙ c.if-ne.false))) ∙ c.loop-k.invariant

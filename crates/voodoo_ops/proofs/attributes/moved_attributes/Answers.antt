use Rattle.std.specs.Vec.Iter.{into_iter_items}
use Rattle.voodoo_ops.proofs.Listed.{moving_on}
use Rattle.voodoo_ops.proofs.attributes.moved_attributes.Goals as goal

pub loop-path-preserved : goal.loop-path-preserved
loop-path-preserved c =
    let pushed = c.in_ok-push_moved.ensures in
    moving_on c.args.p.now c.args.q.now c.args.attributes.items c.loop-path.moved.items c.push_moved.new.to.items (into_iter_items c.loop-path.path-iterator) (into_iter_items c.next.new.self) c.in-Some.path c.in-Some.column c.in-Some.ensures.steps.0 pushed.pushed pushed.path pushed.from pushed.to c.loop-path.invariant

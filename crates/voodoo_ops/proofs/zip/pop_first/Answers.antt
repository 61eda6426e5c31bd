use Rattle.voodoo_ops.proofs.Popped.{popped_second}
use Rattle.voodoo_ops.proofs.zip.pop_first.Goals as goal

pub returns-then-takes_second-clause-first : goal.returns-then-takes_second-clause-first
returns-then-takes_second-clause-first c =
    popped_second c.args.left.now.items c.args.right.now.items c.pop.new.self.items c.pop.result
    (rw (c.as_slice.ensures.value, c.as_slice-2.ensures.value, c.if-takes_second.true) at c.takes_second.ensures) c.pop.ensures.items

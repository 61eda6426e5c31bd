use Rattle.std.proofs.Common.{◌≡◌, ◌++◌, ◌+◌, length}
use Rattle.std.specs.Prelude.{reverse}
use Rattle.programs.specs.Merges.{merged}
use Rattle.voodoo_ops.specs.Columns.{earlier}
use Rattle.voodoo_ops.proofs.zip.merge.Given as goal

abbrev pub invariant-loop-next : goal.invariant-loop-next
invariant-loop-next l = l.attributes.items ++ merged earlier (reverse l.left.items) (reverse l.right.items) ≡ merged earlier l.fn.firsts.items l.fn.seconds.items

abbrev pub decreases-loop-next : goal.decreases-loop-next
decreases-loop-next l = length l.left.items + length l.right.items

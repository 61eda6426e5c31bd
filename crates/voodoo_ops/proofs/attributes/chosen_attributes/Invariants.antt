use Rattle.std.proofs.Common.{◌≡◌, ◌++◌}
use Rattle.std.specs.Vec.Iter.{into_iter_items}
use Rattle.voodoo_ops.specs.Handing.{on_side}
use Rattle.voodoo_ops.proofs.attributes.chosen_attributes.Given as goal

abbrev pub invariant-loop-attribute : goal.invariant-loop-attribute
invariant-loop-attribute l = l.chosen.items ++ on_side l.side l.p (into_iter_items l.attribute-iterator) ≡ on_side l.side l.p l.fn.attributes.items

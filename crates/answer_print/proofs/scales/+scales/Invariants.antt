use Rattle.std.proofs.Common.{◌≡◌, drop, map}
use Rattle.typed_trees.specs.Scales.{greatest, scale_of}
use Rattle.typed_values.specs.Narrow.{counted}
use Rattle.answer_print.proofs.scales.+scales.Given as goal

abbrev pub invariant-greatest_scale-loop-y : goal.invariant-greatest_scale-loop-y
invariant-greatest_scale-loop-y l = counted (greatest l.fn.first (map scale_of l.others)) ≡ counted (greatest l.most (map scale_of (drop l.y-index l.others)))

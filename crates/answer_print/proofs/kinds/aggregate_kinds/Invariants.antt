use Rattle.std.proofs.Common.{◌≡◌, take}
use Rattle.answer_print.specs.Kinds.{aggregate_kinds}
use Rattle.answer_print.proofs.kinds.aggregate_kinds.Given as goal

abbrev pub invariant-loop-a : goal.invariant-loop-a
invariant-loop-a l = l.kinds.items ≡ aggregate_kinds (take l.a-index l.aggregates)

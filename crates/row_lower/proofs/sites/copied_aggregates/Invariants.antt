use Rattle.std.proofs.Common.{◌≡◌, take}
use Rattle.row_lower.proofs.sites.copied_aggregates.Given as goal

abbrev pub invariant-loop-p : goal.invariant-loop-p
invariant-loop-p l = l.copies.items ≡ take l.p-index l.aggregates

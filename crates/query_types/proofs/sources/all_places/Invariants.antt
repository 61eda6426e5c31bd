use Rattle.std.proofs.Common.{◌≡◌, ◌++◌, ◌-◌}
use Rattle.std.specs.List.{range_with_len}
use Rattle.query_types.proofs.sources.all_places.Given as goal

abbrev pub invariant-loop-i : goal.invariant-loop-i
invariant-loop-i l = range_with_len 0 l.n ≡ l.places ++ range_with_len l.i (l.n - l.i)

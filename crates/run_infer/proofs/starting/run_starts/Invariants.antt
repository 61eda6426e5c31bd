use Rattle.std.proofs.Common.{◌≡◌, false, get_or}
use Rattle.std.specs.Prelude.{filter}
use Rattle.std.specs.List.{range_with_len}
use Rattle.run_infer.proofs.starting.run_starts.Given as goal

abbrev pub invariant-loop-i : goal.invariant-loop-i
invariant-loop-i g l = l.starts.items ≡ filter (λ k. get_or (g.M.RunMarks.marks l.marks) k false) (range_with_len 0 l.i)

use Rattle.std.proofs.Common.{◌≡◌, ◌++◌, ◌+◌, ◌-◌, ◌≤◌, drop, length}
use Rattle.key_paths.specs.Substructures.{is_before}
use Rattle.programs.specs.Merges.{merged}
use Rattle.programs.proofs.ordered.merged_paths.Given as goal

abbrev pub invariant-loop-i : goal.invariant-loop-i
invariant-loop-i l = record {
  first : l.i ≤ length l.a;
  second : l.j ≤ length l.b;
  so_far : l.paths.items ++ merged is_before (drop l.i l.a) (drop l.j l.b) ≡ merged is_before l.a l.b;
}

abbrev pub decreases-loop-i : goal.decreases-loop-i
decreases-loop-i l = (length l.a - l.i) + (length l.b - l.j)

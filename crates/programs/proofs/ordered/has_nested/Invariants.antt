use Rattle.std.proofs.Common.{◌≡◌, ◌-◌, drop}
use Rattle.programs.proofs.Nesting.{neighbours_nest}
use Rattle.programs.proofs.ordered.has_nested.Given as goal

abbrev pub invariant-loop-i : goal.invariant-loop-i
invariant-loop-i l = neighbours_nest l.paths ≡ neighbours_nest (drop (l.i - 1) l.paths)

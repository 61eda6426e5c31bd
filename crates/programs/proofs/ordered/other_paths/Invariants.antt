use Rattle.std.proofs.Common.{◌≡◌, take}
use Rattle.programs.specs.Moves.{others}
use Rattle.programs.proofs.ordered.other_paths.Given as goal

abbrev pub invariant-loop-path : goal.invariant-loop-path
invariant-loop-path l = l.rest.items ≡ others l.p (take l.path-index l.paths)

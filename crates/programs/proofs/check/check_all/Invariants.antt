use Rattle.std.proofs.Common.{◌≡◌, drop, length}
use Rattle.programs.specs.Check.{check_from, at_start}
use Rattle.programs.specs.Outlines.{outlines}
use Rattle.programs.specs.Parts.{known_in}
use Rattle.programs.specs.Vectors.{tables}
use Rattle.programs.proofs.check.check_all.Given as goal

abbrev pub invariant-loop-i : goal.invariant-loop-i
invariant-loop-i l = record {
  count : length (known_in l.known).shape ≡ l.i;
  so_far : check_from (outlines (tables l.store)) l.statements at_start ≡ check_from (outlines (tables l.store)) (drop l.i l.statements) (known_in l.known);
}

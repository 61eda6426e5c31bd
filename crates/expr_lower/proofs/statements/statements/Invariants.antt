use Rattle.std.proofs.Common.{◌≡◌, ◌++◌, drop}
use Rattle.expr_lower.specs.Statements.{site, statements, statements_from}
use Rattle.expr_lower.proofs.statements.statements.Given as goal

abbrev pub invariant-loop-i : goal.invariant-loop-i
invariant-loop-i l =
    let s = site l.vector l.mark l.places.columns.items l.places.aggregates.items l.stem in
    l.all.items ++ statements_from s l.last l.i (drop l.i l.steps) ≡ statements s l.steps

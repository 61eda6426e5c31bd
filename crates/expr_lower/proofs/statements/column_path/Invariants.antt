use Rattle.std.proofs.Common.{◌≡◌, drop}
use Rattle.expr_lower.specs.Statements.{column_path}
use Rattle.expr_lower.proofs.statements.column_path.Given as goal

abbrev pub invariant-loop-place : goal.invariant-loop-place
invariant-loop-place l = column_path l.columns l.column ≡ column_path (drop l.place-index l.columns) l.column

use Rattle.std.proofs.Common.{◌≡◌, drop}
use Rattle.expr_lower.specs.Statements.{aggregate_path}
use Rattle.expr_lower.proofs.statements.aggregate_path.Given as goal

abbrev pub invariant-loop-place : goal.invariant-loop-place
invariant-loop-place l = aggregate_path l.aggregates l.aggregate ≡ aggregate_path (drop l.place-index l.aggregates) l.aggregate

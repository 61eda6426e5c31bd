use Rattle.std.proofs.Common.{◌≡◌, drop}
use Rattle.std.specs.List.{list_any}
use Rattle.query_types.specs.Expressions.{has_aggregate}
use Rattle.query_types.proofs.expr.+has_aggregate.Given as goal

abbrev pub invariant-any_aggregate-loop-x : goal.invariant-any_aggregate-loop-x
invariant-any_aggregate-loop-x l = list_any (λ x. has_aggregate x) l.items ≡ list_any (λ x. has_aggregate x) (drop l.x-index l.items)

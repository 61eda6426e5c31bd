use Rattle.std.proofs.Common.{◌≡◌, [], drop, map}
use Rattle.query_types.specs.Expressions as spec
use Rattle.query_types.specs.Names.{seen}
use Rattle.query_types.proofs.expr.+typing.Given as goal

abbrev pub invariant-each-loop-x : goal.invariant-each-loop-x
invariant-each-loop-x l = spec.each (seen l.scope) l.role [] (map spec.typer l.items) l.fn.aggregates ≡ spec.each (seen l.scope) l.role l.all (map spec.typer (drop l.x-index l.items)) l.aggregates

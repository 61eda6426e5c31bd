use Rattle.std.proofs.Common.{◌≡◌}
use Rattle.query_types.specs.Expressions.{values}
use Rattle.query_types.proofs.forms.values.Given as goal

abbrev pub invariant-loop-t : goal.invariant-loop-t
invariant-loop-t l = l.values ≡ values l.yielded

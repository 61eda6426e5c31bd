-- What each aggregate takes. After SQL-92 (ISO/IEC 9075:1992), 6.5 <set function specification>.
use Rattle.std.specs.Prelude.{Bool, not}
use Rattle.query_trees.specs.declared.expr.AggregateKind.{AggregateKind}
use Rattle.query_trees.specs.declared.expr.AggregateKind.TheVariants as aggregate
use Rattle.typed_trees.specs.declared.kinds.Kind.{Kind}
use Rattle.typed_trees.specs.Kinds.{is_number, is_truth}

-- SUM and AVG take numbers; COUNT, MIN and MAX take all but truths.
abbrev pub folds : AggregateKind → Kind → Bool
folds aggregate.Sum a = is_number a
folds aggregate.Avg a = is_number a
folds of a = not (is_truth a)

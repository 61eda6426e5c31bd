-- Where the rows or the groups of a query stand, and the statements of an expression over them.
use Rattle.std.specs.Prelude.{ℕ, ◌+◌, List, [], ◌∷◌, ◌++◌}
use Rattle.programs.specs.Mentions.{Label}
use Rattle.typed_trees.specs.declared.typed.ColumnRef.{ColumnRef}
use Rattle.typed_trees.specs.declared.typed.TypedExpr.{TypedExpr}
use Rattle.expr_steps.specs.Lowered.{Bytes}
use Rattle.expr_lower.specs.declared.places.ColumnPlace.{ColumnPlace}
use Rattle.expr_lower.specs.declared.places.AggregatePlace.{AggregatePlace}
use Rattle.expr_lower.specs.Statements.{site, value_name, expr_statements, column_path}
use Rattle.program_writers.specs.Writers.{Writer, numbered}
use Rattle.program_writers.specs.Statements.{mark}

-- a vector with a row, or a group, at each place whose mark is nonempty, and the attributes of its columns and aggregates
pub record Base : Type 0 where
  pub vector : Label
  pub columns : List ColumnPlace
  pub aggregates : List AggregatePlace

abbrev pub base : Label → List ColumnPlace → List AggregatePlace → Base
base vector columns aggregates = record { vector = vector; columns = columns; aggregates = aggregates }

-- a vector with nothing but its mark
abbrev pub marked_alone : Label → Base
marked_alone vector = base vector [] []

-- the same rows at another vector
abbrev pub moved_to : Label → Base → Base
moved_to vector b = base vector b.columns b.aggregates

abbrev pub path_in : Base → ColumnRef → Label
path_in b c = column_path b.columns c

abbrev pub with_column : Label → ColumnRef → Label → Base → Base
with_column vector c p b = base vector (b.columns ++ record { column = c; path = p } ∷ []) b.aggregates

abbrev pub with_aggregate : Label → ℕ → Label → Base → Base
with_aggregate vector n p b = base vector b.columns (b.aggregates ++ record { aggregate = n; path = p } ∷ [])

-- the value of an expression, at `.out` of the vector that it tells; its names begin with a word and a number
abbrev pub value_of : List Bytes → Label → Base → TypedExpr → Writer Label
value_of texts word b e k = record {
  statements = expr_statements (site b.vector mark b.columns b.aggregates (numbered word k)) texts e;
  next = k + 1;
  told = value_name (numbered word k);
}

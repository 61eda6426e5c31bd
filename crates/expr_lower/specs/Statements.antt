-- The statements of an expression over a vector: one for each step, under a name of its own.
use Rattle.std.specs.Prelude.{ℕ, ◌+◌, ◌-◌, ◌==◌, List, [], ◌∷◌, ◌++◌, length, codes, if◌then◌else◌}
use Rattle.std.specs.Fmt.{decimal}
use Rattle.programs.specs.declared.op.Operand.{Operand}
use Rattle.programs.specs.declared.op.Operand.TheVariants as operand
use Rattle.programs.specs.declared.op.PairArgs.{PairArgs}
use Rattle.programs.specs.declared.op.Statement.{Statement}
use Rattle.programs.specs.Families.{pair_of}
use Rattle.programs.specs.Mentions.{Label}
use Rattle.typed_trees.specs.declared.typed.ColumnRef.{ColumnRef}
use Rattle.typed_trees.specs.declared.typed.TypedExpr.{TypedExpr}
use Rattle.typed_trees.specs.Names.{same_column}
use Rattle.expr_steps.specs.declared.steps.Source.{Source}
use Rattle.expr_steps.specs.declared.steps.Source.TheVariants as at
use Rattle.expr_steps.specs.declared.steps.Step.{Step}
use Rattle.expr_steps.specs.Lowered.{Bytes, steps_of}
use Rattle.expr_lower.specs.declared.places.ColumnPlace.{ColumnPlace}
use Rattle.expr_lower.specs.declared.places.AggregatePlace.{AggregatePlace}

-- where an expression is evaluated: a vector, its mark, the places of columns and of aggregates, and what new names begin with
pub record Site : Type 0 where
  pub vector : Label
  pub mark : Label
  pub columns : List ColumnPlace
  pub aggregates : List AggregatePlace
  pub stem : Label

abbrev pub site : Label → Label → List ColumnPlace → List AggregatePlace → Label → Site
site vector mark columns aggregates stem = record { vector = vector; mark = mark; columns = columns; aggregates = aggregates; stem = stem }

-- the attribute that each statement makes
abbrev pub out : Label
out = codes ".out"

-- the path of a column, and of an aggregate
abbrev pub column_path : List ColumnPlace → ColumnRef → Label
column_path [] c = out
column_path (p ∷ rest) c = if same_column p.column c then p.path else column_path rest c

abbrev pub aggregate_path : List AggregatePlace → ℕ → Label
aggregate_path [] n = out
aggregate_path (p ∷ rest) n = if p.aggregate == n then p.path else aggregate_path rest n

-- the stem, and `_n` and the step's number
abbrev pub numbered : Label → ℕ → Label
numbered stem k = stem ++ (codes "_n" ++ decimal k)

-- the stem and `_value`
abbrev pub value_name : Label → Label
value_name stem = stem ++ codes "_value"

-- the last step has the value's name
abbrev pub name_of : Label → ℕ → ℕ → Label
name_of stem last k = if k == last then value_name stem else numbered stem k

abbrev pub operand_of : Site → Source → Operand
operand_of s at.Mark = operand.Column s.vector s.mark
operand_of s (at.Column c) = operand.Column s.vector (column_path s.columns c)
operand_of s (at.Aggregate n) = operand.Column s.vector (aggregate_path s.aggregates n)
operand_of s (at.Made k) = operand.Column (numbered s.stem k) out
operand_of s (at.Number z) = operand.Number z

abbrev pub args_of : Site → Step → PairArgs
args_of s step = record { x = operand_of s step.x; y = operand_of s step.y; out = out }

abbrev pub statement_of : Site → Label → Step → Statement
statement_of s n step = record { name = n; op = pair_of step.kind (args_of s step) }

-- steps as statements, numbered from k on
abbrev pub statements_from : Site → ℕ → ℕ → List Step → List Statement
statements_from s last k [] = []
statements_from s last k (step ∷ rest) = statement_of s (name_of s.stem last k) step ∷ statements_from s last (k + 1) rest

abbrev pub statements : Site → List Step → List Statement
statements s steps = statements_from s (length steps - 1) 0 steps

-- the statements of an expression
abbrev pub expr_statements : Site → List Bytes → TypedExpr → List Statement
expr_statements s texts e = statements s (steps_of texts e)

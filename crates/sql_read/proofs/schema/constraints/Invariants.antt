use Rattle.std.proofs.Common.{◌≡◌, ◌-◌}
use Rattle.phrases.specs.Parsers.{turns}
use Rattle.sql_read.specs.SchemaParsers.{constraints, constraint, begins_constraint}
use Rattle.sql_read.proofs.schema.constraints.Given as goal

abbrev pub invariant-loop-turn : goal.invariant-loop-turn
invariant-loop-turn l = constraints l.fn.d l.fn.tokens ≡ turns begins_constraint constraint (l._turn-end - l._turn) l.draft l.tokens

use Rattle.std.proofs.Common.{◌≡◌, ◌-◌}
use Rattle.phrases.specs.Parsers.{turns}
use Rattle.sql_read.specs.declared.kind.Kind.TheVariants as k
use Rattle.sql_read.specs.Schema.{is}
use Rattle.query_read.specs.ExpressionParsers as rules
use Rattle.query_read.proofs.clauses.more_columns.Given as goal

abbrev pub invariant-loop-turn : goal.invariant-loop-turn
invariant-loop-turn l = rules.more (rules.column l.text) l.fn.found l.fn.tokens ≡ turns (is k.Comma) (rules.another (rules.column l.text)) (l._turn-end - l._turn) l.columns l.tokens

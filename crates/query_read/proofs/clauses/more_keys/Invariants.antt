use Rattle.std.proofs.Common.{◌≡◌, ◌-◌}
use Rattle.phrases.specs.Parsers.{turns}
use Rattle.sql_read.specs.declared.kind.Kind.TheVariants as k
use Rattle.sql_read.specs.Schema.{is}
use Rattle.query_read.specs.ExpressionParsers as rules
use Rattle.query_read.specs.ClauseParsers as spec
use Rattle.query_read.proofs.clauses.more_keys.Given as goal

abbrev pub invariant-loop-turn : goal.invariant-loop-turn
invariant-loop-turn l = rules.more (spec.key l.text) l.fn.found l.fn.tokens ≡ turns (is k.Comma) (rules.another (spec.key l.text)) (l._turn-end - l._turn) l.keys l.tokens

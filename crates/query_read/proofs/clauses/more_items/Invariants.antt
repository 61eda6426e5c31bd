use Rattle.std.proofs.Common.{◌≡◌, ◌-◌}
use Rattle.phrases.specs.Parsers.{turns}
use Rattle.sql_read.specs.declared.kind.Kind.TheVariants as k
use Rattle.sql_read.specs.Schema.{is}
use Rattle.query_read.specs.Asked.{all}
use Rattle.query_read.specs.ExpressionParsers as rules
use Rattle.query_read.specs.ClauseParsers as spec
use Rattle.query_read.proofs.clauses.more_items.Given as goal

abbrev pub invariant-loop-turn : goal.invariant-loop-turn
invariant-loop-turn l = rules.more (spec.item l.text (rules.expr all l.text (rules.under all l.text l.levels))) l.fn.found l.fn.tokens ≡ turns (is k.Comma) (rules.another (spec.item l.text (rules.expr all l.text (rules.under all l.text l.levels)))) (l._turn-end - l._turn) l.items l.tokens

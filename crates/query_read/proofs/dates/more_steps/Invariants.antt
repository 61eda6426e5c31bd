use Rattle.std.proofs.Common.{◌≡◌, ◌-◌}
use Rattle.phrases.specs.Parsers.{turns}
use Rattle.query_read.specs.Asked.{all}
use Rattle.query_read.specs.Nodes.{of, steps}
use Rattle.query_read.specs.ExpressionParsers as rules
use Rattle.query_read.proofs.dates.more_steps.Given as goal

abbrev pub invariant-loop-turn : goal.invariant-loop-turn
invariant-loop-turn l = rules.more_steps all l.text l.fn.day l.fn.tokens ≡ turns (of steps) (rules.step all l.text) (l._turn-end - l._turn) l.now l.tokens

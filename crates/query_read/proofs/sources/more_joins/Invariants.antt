use Rattle.std.proofs.Common.{◌≡◌, ◌-◌}
use Rattle.phrases.specs.Parsers.{turns}
use Rattle.query_read.specs.Classes.{joins}
use Rattle.query_read.specs.Nodes.{of}
use Rattle.query_read.specs.ClauseParsers as spec
use Rattle.query_read.proofs.sources.more_joins.Given as goal

abbrev pub invariant-loop-turn : goal.invariant-loop-turn
invariant-loop-turn l = spec.more_joins l.text l.fn.found l.fn.tokens ≡ turns (of joins) (spec.join l.text) (l._turn-end - l._turn) l.joins l.tokens

use Rattle.std.proofs.Common.{◌≡◌, ◌-◌}
use Rattle.phrases.specs.Parsers.{turns}
use Rattle.sql_read.specs.declared.kind.Kind.TheVariants as k
use Rattle.sql_read.specs.Schema.{is}
use Rattle.sql_read.specs.SchemaParsers.{more_parts, next_part}
use Rattle.sql_read.proofs.schema.more_parts.Given as goal

abbrev pub invariant-loop-turn : goal.invariant-loop-turn
invariant-loop-turn l = more_parts l.text l.fn.b l.fn.tokens ≡ turns (is k.Comma) (next_part l.text) (l._turn-end - l._turn) l.parts l.tokens

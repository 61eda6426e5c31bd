use Rattle.std.proofs.Common.{◌≡◌, ◌-◌}
use Rattle.phrases.specs.Parsers.{turns}
use Rattle.sql_read.specs.declared.kind.Kind.TheVariants as k
use Rattle.sql_read.specs.Schema.{is}
use Rattle.sql_read.specs.SchemaParsers.{more_tables, another}
use Rattle.sql_read.proofs.schema.more_tables.Given as goal

abbrev pub invariant-loop-turn : goal.invariant-loop-turn
invariant-loop-turn l = more_tables l.text l.fn.r l.fn.tokens ≡ turns (is k.Semicolon) (another l.text) (l._turn-end - l._turn) l.run l.tokens

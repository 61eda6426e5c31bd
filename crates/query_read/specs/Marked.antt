-- A sign that belongs to a date, found by its neighbours: a date ends before it, and INTERVAL follows.
use Rattle.std.specs.Prelude.{Bool, true, false, ◌&&◌, [], ◌∷◌}
use Rattle.phrases.specs.Parsers.{next}
use Rattle.sql_read.specs.declared.kind.Kind.{Kind}
use Rattle.sql_read.specs.declared.kind.Kind.TheVariants as k
use Rattle.sql_read.specs.declared.token_list.Token.{Token}
use Rattle.sql_read.specs.Schema.{is}
use Rattle.sql_read.specs.Tokens.{Tokens}

-- A date ends with its text, or with the DAY of its last step.
abbrev pub ends_date : Kind → Kind → Bool
ends_date k.Date k.Quoted = true
ends_date before k.Day = true
ends_date before latest = false

abbrev pub step_kind : Kind → Kind
step_kind k.Plus = k.StepPlus
step_kind k.Minus = k.StepMinus
step_kind kind = kind

abbrev pub as_step : Bool → Token → Token
as_step true t = record t { kind = step_kind t.kind }
as_step false t = t

-- the tokens after two of these kinds
abbrev pub marked_after : Kind → Kind → Tokens → Tokens
marked_after before latest [] = []
marked_after before latest (t ∷ ts) = as_step (ends_date before latest && next (is k.Interval) ts) t ∷ marked_after latest t.kind ts

abbrev pub marked : Tokens → Tokens
marked ts = marked_after k.Blank k.Blank ts

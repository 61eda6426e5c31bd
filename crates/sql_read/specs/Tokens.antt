-- The tokens of an SQL text. The schema and the query are both read from this list.
use Rattle.std.specs.Prelude.{◌≡◌, ◌<◌, ◌≤◌, ℕ, zero, suc, ◌+◌, ◌-◌, Bool, true, false, List, [], ◌∷◌, ◌++◌, Option, Some, None}
use Rattle.std.specs.Option.{option_to_list}
use Rattle.sql_read.specs.declared.kind.Kind.{Kind}
use Rattle.sql_read.specs.declared.kind.Kind.TheVariants as k
use Rattle.sql_read.specs.declared.lexis.Piece.{Piece}
use Rattle.sql_read.specs.declared.token_list.Token.{Token}
use Rattle.sql_read.specs.Lexis.{Bytes, front}

abbrev pub Tokens : Type 0
Tokens = List Token

abbrev pub unless_blank : Kind → Token → Option Token
unless_blank k.Blank t = None
unless_blank kind t = Some t

-- a piece at its place; blanks and comments are no tokens
abbrev pub token_of : ℕ → Piece → Option Token
token_of at p = unless_blank p.kind (record { kind = p.kind; at = at; len = p.len; value = p.value; scale = p.scale })

-- The tokens from a place on. The first number counts the bytes that are left of the piece before.
abbrev pub tokens_from : ℕ → ℕ → Bytes → Tokens
tokens_from left at [] = []
tokens_from (suc left) at (b ∷ z) = tokens_from left (at + 1) z
tokens_from zero at (b ∷ z) = let p = front (b ∷ z) in option_to_list (token_of at p) ++ tokens_from (p.len - 1) (at + 1) z

abbrev pub past_kind : Kind → Kind
past_kind k.BadToken = k.BadToken
past_kind k.TooWide = k.TooWide
past_kind kind = k.Past

-- one token too many, unless it is refused for its own sake
abbrev pub past : Token → Token
past t = record t { kind = past_kind t.kind }

-- at most so many tokens, and the first one past them
abbrev pub limited : ℕ → Tokens → Tokens
limited n [] = []
limited zero (t ∷ ts) = past t ∷ []
limited (suc n) (t ∷ ts) = t ∷ limited n ts

unfoldable pub tokens : ℕ → Bytes → Tokens
tokens limit text = limited limit (tokens_from 0 0 text)

-- What taking in a piece does to the n tokens so far: whether there is room for more, and the tokens then.
abbrev pub TakesIn : ℕ → Option Token → ℕ → Tokens → Bool → ℕ → Tokens → Type 0
TakesIn limit None n old room m new = (room ≡ true) × (m ≡ n) × (new ≡ old)
TakesIn limit (Some t) n old true m new = (n < limit) × (m ≡ n + 1) × (new ≡ old ++ t ∷ [])
TakesIn limit (Some t) n old false m new = (limit ≤ n) × (new ≡ old ++ past t ∷ [])

-- A query's tokens weigh no more than there are: none of them is blank, and at most 2,049 stand.
use Rattle.std.proofs.Common.{◌≡◌, ℕ, zero, suc, ◌+◌, ◌≤◌, ◌&&◌, Bool, true, false, [], ◌∷◌, ◌++◌, refl, ap, arith}
use Rattle.std.specs.Option.{option_to_list}
use Rattle.phrases.specs.Parsers.{next}
use Rattle.sql_read.specs.declared.kind.Kind.{Kind}
use Rattle.sql_read.specs.declared.kind.Kind.TheVariants as k
use Rattle.sql_read.specs.declared.token_list.Token.{Token}
use Rattle.sql_read.specs.Lexis.{Bytes, front}
use Rattle.sql_read.specs.Schema.{is}
use Rattle.sql_read.specs.Tokens.{Tokens, unless_blank, token_of, tokens_from, past_kind, limited, tokens}
use Rattle.query_read.specs.Marked.{ends_date, step_kind, as_step, marked_after}
use Rattle.query_read.specs.QueryText.{query_tokens}
use Rattle.query_sizes.proofs.Weights.{sized, size, taken}

-- each token weighs as one
abbrev AreLight : Tokens → Type 0
AreLight [] = Unit {0}
AreLight (t ∷ ts) = (size t ≤ 1) × AreLight ts

light_append : (xs ys : Tokens) → AreLight xs → AreLight ys → AreLight (xs ++ ys)
light_append [] ys h g = g
light_append (x ∷ xs) ys h g = (h.0, light_append xs ys h.1 g)

light_token : (kind : Kind) (t : Token) → t.kind ≡ kind → AreLight (option_to_list (unless_blank kind t))
light_token k.Blank t e = tt
light_token kind t e = let s : size t ≡ 1 = ap sized e in (omega (arith, s), tt)

light_from : (left at : ℕ) (z : Bytes) → AreLight (tokens_from left at z)
light_from left at [] = tt
light_from (suc left) at (b ∷ z) = light_from left (at + 1) z
light_from zero at (b ∷ z) =
    let p = front (b ∷ z) in
    light_append (option_to_list (token_of at p)) _ (light_token p.kind (record { kind = p.kind; at = at; len = p.len; value = p.value; scale = p.scale }) refl) (light_from _ (at + 1) z)

past_light : (kind : Kind) → sized (past_kind kind) ≡ 1
past_light k.BadToken = refl
past_light k.TooWide = refl
past_light kind = refl

few : (n : ℕ) (ts : Tokens) → AreLight ts → taken (limited n ts) ≤ n + 1
few n [] h = omega arith
few zero (t ∷ ts) h = omega (arith, past_light t.kind)
few (suc n) (t ∷ ts) h = let one = h.0 in omega (arith, one, few n ts h.1)

step_same : (kind : Kind) → sized (step_kind kind) ≡ sized kind
step_same k.Plus = refl
step_same k.Minus = refl
step_same kind = refl

as_step_same : (b : Bool) (t : Token) → size (as_step b t) ≡ size t
as_step_same true t = step_same t.kind
as_step_same false t = refl

marked_same : (before latest : Kind) (ts : Tokens) → taken (marked_after before latest ts) ≡ taken ts
marked_same before latest [] = refl
marked_same before latest (t ∷ ts) = omega (arith, as_step_same (ends_date before latest && next (is k.Interval) ts) t, marked_same latest t.kind ts)

pub tokens_few : (text : Bytes) → taken (query_tokens text) ≤ 2049
unfolding tokens
tokens_few text =
    let ts = limited 2048 (tokens_from 0 0 text) in
    omega (arith, marked_same k.Blank k.Blank ts, few 2048 (tokens_from 0 0 text) (light_from 0 0 text))

-- The list of tokens, piece by piece.
use Rattle.std.proofs.Common.{◌≡◌, ℕ, zero, suc, ◌+◌, ◌-◌, ◌≤◌, ◌<◌, true, false, [], ◌∷◌, ◌++◌, length, take, drop, refl, ap, sym, ◌∙◌, arith, add-zero, append_assoc}
use Rattle.std.specs.Prelude.{Option, Some, None}
use Rattle.std.specs.Option.{option_to_list}
use Rattle.std.proofs.lemmas.List.{take_rest}
use Rattle.sql_read.specs.declared.lexis.Piece.{Piece}
use Rattle.sql_read.specs.declared.token_list.Token.{Token}
use Rattle.sql_read.specs.Lexis.{Bytes, front}
use Rattle.sql_read.specs.Tokens.{Tokens, token_of, tokens_from, past, limited, TakesIn}

tokens_from-drop : (n at : ℕ) (z : Bytes) → tokens_from n at z ≡ tokens_from 0 (at + n) (drop n z)
tokens_from-drop zero at z = ap (λ k. tokens_from 0 k z) (sym (add-zero at))
tokens_from-drop (suc n) at [] = refl
tokens_from-drop (suc n) at (b ∷ z) =
    let e : at + 1 + n ≡ at + suc n = omega arith in
    tokens_from-drop n (at + 1) z ∙ ap (λ k. tokens_from 0 k (drop n z)) e

drop-cons : (n b : ℕ) (z : Bytes) → 1 ≤ n → drop (n - 1) z ≡ drop n (b ∷ z)
drop-cons zero b z h = absurd (omega arith)
drop-cons (suc n) b z h = let e : suc n - 1 ≡ n = omega arith in ap (λ k. drop k z) e

-- the first piece, and the tokens after it
tokens_go : (at : ℕ) (z : Bytes) → 0 < length z → 1 ≤ (front z).len → tokens_from 0 at z ≡ option_to_list (token_of at (front z)) ++ tokens_from 0 (at + (front z).len) (drop (front z).len z)
tokens_go at [] some moves = absurd (omega arith)
tokens_go at (b ∷ z) some moves =
    let e : at + 1 + ((front (b ∷ z)).len - 1) ≡ at + (front (b ∷ z)).len = omega arith in
    ap (λ ts. option_to_list (token_of at (front (b ∷ z))) ++ ts)
    (tokens_from-drop ((front (b ∷ z)).len - 1) (at + 1) z ∙ rw (e, drop-cons (front (b ∷ z)).len b z moves) refl)

-- with room for one more
limited_more : (limit n : ℕ) (t : Token) (ts : Tokens) → n < limit → limited (limit - n) (t ∷ ts) ≡ t ∷ limited (limit - (n + 1)) ts
limited_more limit n t ts h = let e : limit - n ≡ suc (limit - (n + 1)) = omega arith in rw e refl

limited_full : (limit n : ℕ) (t : Token) (ts : Tokens) → limit ≤ n → limited (limit - n) (t ∷ ts) ≡ past t ∷ []
limited_full limit n t ts h = let e : limit - n ≡ 0 = omega arith in rw e refl

-- what a piece adds, where there is room
taken : (limit n m : ℕ) (o : Option Token) (old new ts : Tokens) → TakesIn limit o n old true m new → new ++ limited (limit - m) ts ≡ old ++ limited (limit - n) (option_to_list o ++ ts)
taken limit n m None old new ts h = rw (h.1, h.2) refl
taken limit n m (Some t) old new ts h = rw (h.1, h.2, limited_more limit n t ts h.0) (append_assoc old (t ∷ []) (limited (limit - (n + 1)) ts))

pub taken_room : (limit n m : ℕ) (o : Option Token) (old new : Tokens) → TakesIn limit o n old true m new → n ≤ limit → m ≤ limit
taken_room limit n m None old new h le = omega arith
taken_room limit n m (Some t) old new h le = omega arith

-- and where there is none
filled : (limit n m : ℕ) (o : Option Token) (old new ts : Tokens) → TakesIn limit o n old false m new → new ≡ old ++ limited (limit - n) (option_to_list o ++ ts)
filled limit n m None old new ts h = let e = h.0 in absurd (cc)
filled limit n m (Some t) old new ts h = h.1 ∙ ap (λ x. old ++ x) (sym (limited_full limit n t ts h.0))

pub goes_on : (limit n m at : ℕ) (out new : Tokens) (z : Bytes) (p : Piece) → p ≡ front z → 0 < length z → 1 ≤ p.len → TakesIn limit (token_of at p) n out true m new
    → new ++ limited (limit - m) (tokens_from 0 (at + p.len) (take (length z - p.len) (drop p.len z))) ≡ out ++ limited (limit - n) (tokens_from 0 at z)
goes_on limit n m at out new z p is some moves h =
    let moves_front : 1 ≤ (front z).len = rw (← is) moves in
    let step = taken limit n m (token_of at p) out new (tokens_from 0 (at + p.len) (drop p.len z)) h in
    rw (take_rest z p.len) (step ∙ rw is (ap (λ ts. out ++ limited (limit - n) ts) (sym (tokens_go at z some moves_front))))

pub ends_full : (limit n m at : ℕ) (out new : Tokens) (z : Bytes) (p : Piece) → p ≡ front z → 0 < length z → 1 ≤ p.len → TakesIn limit (token_of at p) n out false m new → new ≡ out ++ limited (limit - n) (tokens_from 0 at z)
ends_full limit n m at out new z p is some moves h =
    let moves_front : 1 ≤ (front z).len = rw (← is) moves in
    filled limit n m (token_of at p) out new (tokens_from 0 (at + p.len) (drop p.len z)) h ∙ rw is (ap (λ ts. out ++ limited (limit - n) ts) (sym (tokens_go at z some moves_front)))

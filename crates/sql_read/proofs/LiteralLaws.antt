-- The text literals at the tokens of a text begin and end with quotes.
use Rattle.std.proofs.Common.{◌≡◌, ◌∙◌, ℕ, zero, suc, ◌+◌, ◌-◌, ◌≤◌, Bool, true, false, not, ◌&&◌, ◌==◌, List, [], ◌∷◌, length, take, drop, refl, sym, ap, subst, arith, if◌then◌else◌}
use Rattle.std.specs.Prelude.{nat_lt, slice_index, Option, Some, None}
use Rattle.std.specs.List.{All, list_all}
use Rattle.std.specs.Option.{option_to_list}
use Rattle.std.specs.Str.{str_eq_ignore_ascii_case}
use Rattle.std.proofs.lemmas.Bool.{eqb-true, true≢false, and_parts}
use Rattle.std.proofs.lemmas.List.{drop-drop}
use Rattle.std.proofs.lemmas.List.Elements.{All-nil, All-cons, All-head, All-tail, All-append}
use Rattle.sql_read.specs.declared.kind.Kind.{Kind}
use Rattle.sql_read.specs.declared.kind.Kind.TheVariants as k
use Rattle.sql_read.specs.declared.lexis.Class.TheVariants as class
use Rattle.sql_read.specs.declared.lexis.Piece.{Piece}
use Rattle.sql_read.specs.declared.token_list.Token.{Token}
use Rattle.sql_read.specs.Reserved.{reserved_words}
use Rattle.sql_read.specs.Lexis as lexis
use Rattle.sql_read.specs.Lexis.{Bytes, front, is_in, run_len, word, plain, closing, lookup, word_kind}
use Rattle.sql_read.specs.Literals.{IsClosed, IsLiteralAt}
use Rattle.sql_read.specs.Tokens.{Tokens, token_of, tokens_from, unless_blank, past_kind, limited, tokens}
use Rattle.sql_read.proofs.Fronts.{is_sign, is_numeral, of_front}

-- ---- where a literal closes

-- the closing quote is the last of its bytes
record Closes (at : ℕ) (z : Bytes) (e : ℕ) : Type 0 where
  pub low : at + 1 ≤ e
  pub high : e ≤ at + length z
  pub quote : slice_index z (e - (at + 1)) ≡ 39

ends : (at : ℕ) (b : ℕ) (z : Bytes) (e : ℕ) → b ≡ 39 → Some (at + 1) ≡ Some e → Closes at (b ∷ z) e
ends at b z e q h =
    let same : e - (at + 1) ≡ 0 = grind arith in
    record { low = grind arith; high = grind arith; quote = rw same q }

there : (at : ℕ) (b : ℕ) (z : Bytes) (e : ℕ) → Closes (at + 1) z e → Closes at (b ∷ z) e
there at b z e h =
    let low = h.low in
    let high = h.high in
    let same : e - (at + 1) ≡ suc (e - (at + 1 + 1)) = omega (arith, low) in
    record { low = omega (arith, low); high = omega (arith, high); quote = rw same h.quote }

closes : (second : Bool) (at : ℕ) (z : Bytes) (e : ℕ) → closing second at z ≡ Some e → Closes at z e
closes second at [] e h = absurd (cc)
closes true at (b ∷ z) e h = there at b z e (closes false (at + 1) z e h)
closes false at (b ∷ z) e h = by_test (b == 39 && not (slice_index z 0 == 39)) refl (closes (b == 39) (at + 1) z e) h
  where
    by_test : (c : Bool) → (b == 39 && not (slice_index z 0 == 39)) ≡ c → (closing (b == 39) (at + 1) z ≡ Some e → Closes (at + 1) z e) → (if c then Some (at + 1) else closing (b == 39) (at + 1) z) ≡ Some e → Closes at (b ∷ z) e
    by_test true is later g = ends at b z e (eqb-true b 39 (and_parts (b == 39) (not (slice_index z 0 == 39)) is).0) g
    by_test false is later g = there at b z e (later g)

-- ---- the front of a text: where it is a literal, it is closed

abbrev IsClosedIfQuoted : Bytes → Piece → Type 0
IsClosedIfQuoted z p = p.kind ≡ k.Quoted → IsClosed z p.len

abbrev is_quoted : Kind → Bool
is_quoted k.Quoted = true
is_quoted kind = false

no : (z : Bytes) (kind : Kind) (len : ℕ) → is_quoted kind ≡ false → IsClosedIfQuoted z (plain kind len)
no z kind len other e = let same : true ≡ false = ap is_quoted (sym e) ∙ other in absurd (true≢false same)

looked_up : (rs : List (Bytes × Kind)) (w : Bytes) → list_all (λ r. not (is_quoted r.1)) rs ≡ true → is_quoted (lookup rs w) ≡ false
looked_up [] w h = refl
looked_up (r ∷ rs) w h = let g = and_parts (not (is_quoted r.1)) _ h in by_test (str_eq_ignore_ascii_case r.0 w) (is_quoted r.1) refl g.0 (looked_up rs w g.1)
  where
    by_test : (c q : Bool) → is_quoted r.1 ≡ q → not (is_quoted r.1) ≡ true → is_quoted (lookup rs w) ≡ false → is_quoted (if c then r.1 else lookup rs w) ≡ false
    by_test true true e g later = absurd (true≢false (sym g ∙ ap not e))
    by_test true false e g later = e
    by_test false q e g later = later

word_other : (w : Bytes) → is_quoted (word_kind w) ≡ false
unfolding word_kind reserved_words
word_other w = looked_up reserved_words w refl

long_or_word : (c : Bool) (w : Bytes) → is_quoted (if c then k.BadToken else word_kind w) ≡ false
long_or_word true w = refl
long_or_word false w = word_other w

numeral_other : (kind : Kind) → is_numeral kind ≡ true → is_quoted kind ≡ false
numeral_other k.Quoted h = absurd (cc)
numeral_other kind h = refl

no_number : (z : Bytes) (kind : Kind) (len n scale : ℕ) → is_numeral kind ≡ true → IsClosedIfQuoted z (record { kind = kind; len = len; value = n; scale = scale })
no_number z kind len n scale h e = let same : true ≡ false = ap is_quoted (sym e) ∙ numeral_other kind h in absurd (true≢false same)

quoted_closed : (z : Bytes) (end : Option ℕ) → closing false 1 (drop 1 z) ≡ end → slice_index z 0 ≡ 39 → IsClosedIfQuoted z (lexis.closed (length z) end)
quoted_closed z None e q = λ is. absurd (cc)
quoted_closed [] (Some n) e q = absurd (cc)
quoted_closed (b ∷ z) (Some n) e q = λ _.
    let c = closes false 1 z n e in
    let low = c.low in
    let high = c.high in
    let same : n - 1 ≡ suc (n - (1 + 1)) = omega (arith, low) in
    record { two = omega (arith, low); within = omega (arith, high); first = q; end = rw same c.quote }

sign_other : (kind : Kind) → is_sign kind ≡ true → is_quoted kind ≡ false
sign_other k.Quoted h = absurd (cc)
sign_other kind h = refl

front_closed : (z : Bytes) → IsClosedIfQuoted z (front z)
front_closed z =
    let len = run_len class.Word z in
    of_front (IsClosedIfQuoted z) z (λ _. no z _ len (long_or_word (nat_lt 64 len) (take len z))) (λ kind len n scale h _ _. no_number z kind len n scale h) (quoted_closed z (closing false 1 (drop 1 z)) refl)
    (λ kind len s. no z kind len (sign_other kind s))

-- ---- the tokens of a text

one_literal : (text : Bytes) (kind : Kind) (t : Token) → IsLiteralAt text t → All (IsLiteralAt text) (option_to_list (unless_blank kind t))
one_literal text k.Blank t h = All-nil (IsLiteralAt text)
one_literal text kind t h = All-cons (IsLiteralAt text) t [] h (All-nil (IsLiteralAt text))

piece_at : (text z : Bytes) (at : ℕ) → z ≡ drop at text → (front z).kind ≡ k.Quoted → IsClosed (drop at text) (front z).len
piece_at text z at here is = subst (λ y. IsClosed y (front z).len) here (front_closed z is)

literals_from : (text : Bytes) (left at : ℕ) (z : Bytes) → z ≡ drop at text → All (IsLiteralAt text) (tokens_from left at z)
literals_from text left at [] here = All-nil (IsLiteralAt text)
literals_from text (suc left) at (b ∷ z) here = literals_from text left (at + 1) z (ap (drop 1) here ∙ drop-drop 1 at text)
literals_from text zero at (b ∷ z) here =
    let p = front (b ∷ z) in
    All-append (IsLiteralAt text) (option_to_list (token_of at p)) _ (one_literal text p.kind _ (piece_at text (b ∷ z) at here))
    (literals_from text (p.len - 1) (at + 1) z (ap (drop 1) here ∙ drop-drop 1 at text))

past_other : (kind : Kind) → past_kind kind ≡ k.Quoted → ⊥
past_other k.BadToken e = cc
past_other k.TooWide e = cc
past_other kind e = cc

literals_limited : (text : Bytes) (n : ℕ) (ts : Tokens) → All (IsLiteralAt text) ts → All (IsLiteralAt text) (limited n ts)
literals_limited text n [] h = All-nil (IsLiteralAt text)
literals_limited text zero (t ∷ ts) h = All-cons (IsLiteralAt text) _ [] (λ e. absurd (past_other t.kind e)) (All-nil (IsLiteralAt text))
literals_limited text (suc n) (t ∷ ts) h = All-cons (IsLiteralAt text) t _ (All-head (IsLiteralAt text) t ts h) (literals_limited text n ts (All-tail (IsLiteralAt text) t ts h))

pub literals_are_closed : (text : Bytes) (n : ℕ) → All (IsLiteralAt text) (tokens n text)
unfolding tokens
literals_are_closed text n = literals_limited text n (tokens_from 0 0 text) (literals_from text 0 0 text refl)

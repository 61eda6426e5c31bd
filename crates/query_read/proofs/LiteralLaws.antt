-- What stands between the quotes of a literal is UTF-8 in a text of UTF-8, and its value then is no other bytes.
use Rattle.std.proofs.Common.{◌≡◌, ◌∙◌, ℕ, suc, ◌+◌, ◌-◌, ◌≤◌, Bool, true, false, ◌&&◌, ◌==◌, List, [], ◌∷◌, ◌++◌, length, take, drop, get_or, cond, ◌/◌, zero, refl, sym, ap, subst, arith, if◌then◌else◌}
use Rattle.std.specs.Prelude.{nat_lt}
use Rattle.std.specs.List.{All}
use Rattle.std.specs.Str.{IsUtf8, all_scalars}
use Rattle.std.proofs.Math.Utf8.{encode, encodes, scalar, next}
use Rattle.std.proofs.lemmas.Bool.{eqb-true, and_parts, and_from}
use Rattle.std.proofs.lemmas.Bool.Decides.{nat_tests}
use Rattle.std.proofs.lemmas.List.{drop-drop, take-take, length-drop, get_or-drop}
use Rattle.std.proofs.lemmas.List.Elements.{All-head, All-tail, All-cons, All-weaker}
use Rattle.std.proofs.lemmas.Str.{utf8_lossy-IsUtf8, IsUtf8-between, IsCharBoundary-before_ascii, IsCharBoundary-after_ascii}
use Rattle.phrases.specs.Parsers as parsers
use Rattle.sql_read.specs.declared.kind.Kind.{Kind}
use Rattle.sql_read.specs.declared.kind.Kind.TheVariants as k
use Rattle.sql_read.specs.declared.token_list.Token.{Token}
use Rattle.sql_read.specs.Lexis.{Bytes}
use Rattle.sql_read.specs.Literals.{IsClosed, IsLiteralAt}
use Rattle.sql_read.specs.Schema.{is}
use Rattle.sql_read.specs.Tokens.{Tokens, tokens}
use Rattle.sql_read.proofs.LiteralLaws.{literals_are_closed}
use Rattle.query_read.specs.Marked.{ends_date, step_kind, as_step, marked_after}
use Rattle.query_read.specs.Literals.{inner, single_quoted, content, LiteralLaw}

-- ---- two quotes in a row are one, byte by byte and character by character

-- a byte that is no quote stands by itself
apart : (b : ℕ) (z : Bytes) → (b == 39) ≡ false → single_quoted (b ∷ z) ≡ b ∷ single_quoted z
unfolding single_quoted
apart b [] h = refl
apart b (c ∷ z) h = rw h refl

-- and so does a quote before such a byte
lone : (b : ℕ) (z : Bytes) → (b == 39) ≡ false → single_quoted (39 ∷ b ∷ z) ≡ 39 ∷ single_quoted (b ∷ z)
unfolding single_quoted
lone b z h = rw h refl

far : (b : ℕ) → 40 ≤ b → (b == 39) ≡ false
far b h = grind (arith, nat_tests)

-- the bytes of a character that is no quote
module _ (c : ℕ) (z : Bytes) (h : (c == 39) ≡ false) where
  apart_by : (x y w : Bool) → let bytes = cond x (c ∷ []) (cond y ((192 + c / 64) ∷ next c ∷ []) (cond w ((224 + c / 4096) ∷ next (c / 64) ∷ next c ∷ []) ((240 + c / 262144) ∷ next (c / 4096) ∷ next (c / 64) ∷ next c ∷ []))) in single_quoted (bytes ++ z) ≡ bytes ++ single_quoted z
  apart_by true y w = apart c z h
  apart_by false true w = apart _ _ (far (192 + c / 64) (omega arith)) ∙ ap (λ r. (192 + c / 64) ∷ r) (apart _ z (far (next c) (omega arith)))
  apart_by false false true = apart _ _ (far (224 + c / 4096) (omega arith)) ∙ ap (λ r. (224 + c / 4096) ∷ r) (apart _ _ (far (next (c / 64)) (omega arith)) ∙ ap (λ r. next (c / 64) ∷ r) (apart _ z (far (next c) (omega arith))))
  apart_by false false false =
      apart _ _ (far (240 + c / 262144) (omega arith)) ∙ ap (λ r. (240 + c / 262144) ∷ r) (apart _ _ (far (next (c / 4096)) (omega arith))
      ∙ ap (λ r. next (c / 4096) ∷ r) (apart _ _ (far (next (c / 64)) (omega arith)) ∙ ap (λ r. next (c / 64) ∷ r) (apart _ z (far (next c) (omega arith)))))

  lone_by : (x y w : Bool) → let bytes = cond x (c ∷ []) (cond y ((192 + c / 64) ∷ next c ∷ []) (cond w ((224 + c / 4096) ∷ next (c / 64) ∷ next c ∷ []) ((240 + c / 262144) ∷ next (c / 4096) ∷ next (c / 64) ∷ next c ∷ []))) in single_quoted (39 ∷ (bytes ++ z)) ≡ 39 ∷ single_quoted (bytes ++ z)
  lone_by true y w = lone c z h
  lone_by false true w = lone _ _ (far (192 + c / 64) (omega arith))
  lone_by false false true = lone _ _ (far (224 + c / 4096) (omega arith))
  lone_by false false false = lone _ _ (far (240 + c / 262144) (omega arith))

  encode_apart : single_quoted (encode c ++ z) ≡ encode c ++ single_quoted z
  unfolding encode
  encode_apart = apart_by (nat_lt c 128) (nat_lt c 2048) (nat_lt c 65536)

  encode_lone : single_quoted (39 ∷ (encode c ++ z)) ≡ 39 ∷ single_quoted (encode c ++ z)
  unfolding encode
  encode_lone = lone_by (nat_lt c 128) (nat_lt c 2048) (nat_lt c 65536)

-- so the value, taken byte by byte, is the value taken character by character
quoted_chars : (cs : List ℕ) → single_quoted (encodes cs) ≡ encodes (single_quoted cs)
unfolding single_quoted encode
quoted_chars [] = refl
quoted_chars (c ∷ []) = by_test (c == 39) refl
  where
    by_test : (x : Bool) → (c == 39) ≡ x → single_quoted (encode c ++ []) ≡ encode c ++ []
    by_test true e = let same = eqb-true c 39 e in rw same refl
    by_test false e = encode_apart c [] e
quoted_chars (c ∷ d ∷ ds) = by_tests (c == 39) (d == 39) refl refl (quoted_chars ds) (quoted_chars (d ∷ ds))
  where
    by_tests : (x y : Bool) → (c == 39) ≡ x → (d == 39) ≡ y → single_quoted (encodes ds) ≡ encodes (single_quoted ds) → single_quoted (encodes (d ∷ ds)) ≡ encodes (single_quoted (d ∷ ds))
        → single_quoted (encodes (c ∷ d ∷ ds)) ≡ encodes (if x && y then 39 ∷ single_quoted ds else c ∷ single_quoted (d ∷ ds))
    by_tests true true e g later one = rw (eqb-true c 39 e, eqb-true d 39 g) (ap (λ r. 39 ∷ r) later)
    by_tests true false e g later one = rw (eqb-true c 39 e) (encode_lone d (encodes ds) g ∙ ap (λ r. 39 ∷ r) one)
    by_tests false y e g later one = encode_apart c (encodes (d ∷ ds)) e ∙ ap (λ r. encode c ++ r) one

scalars_quoted : (cs : List ℕ) → all_scalars cs ≡ true → all_scalars (single_quoted cs) ≡ true
unfolding single_quoted
scalars_quoted [] h = refl
scalars_quoted (c ∷ []) h = h
scalars_quoted (c ∷ d ∷ ds) h =
    let x = and_parts (scalar c) (all_scalars (d ∷ ds)) h in
    let y = and_parts (scalar d) (all_scalars ds) x.1 in
    by_test (c == 39 && d == 39) x.0 (scalars_quoted ds y.1) (scalars_quoted (d ∷ ds) x.1)
  where
    by_test : (b : Bool) → scalar c ≡ true → all_scalars (single_quoted ds) ≡ true → all_scalars (single_quoted (d ∷ ds)) ≡ true → all_scalars (if b then 39 ∷ single_quoted ds else c ∷ single_quoted (d ∷ ds)) ≡ true
    by_test true x later one = later
    by_test false x later one = and_from (scalar c) _ x one

IsUtf8-quoted : (z : Bytes) → IsUtf8 z → IsUtf8 (single_quoted z)
IsUtf8-quoted z h = (single_quoted h.0, (scalars_quoted h.0 h.1.0, sym (quoted_chars h.0) ∙ ap single_quoted h.1.1))

-- ---- what stands between the quotes

-- the bytes between the first and the last of n
between : (n : ℕ) (w : Bytes) → 2 ≤ n → take (n - 2) (drop 1 (take n w)) ≡ take (n - 2) (drop 1 w)
between zero w h = absurd (omega (arith, h))
between (suc n) [] h = refl
between (suc n) (b ∷ w) h = take-take (suc n - 2) n w (omega arith)

inner_utf8 : (text : Bytes) (t : Token) → IsUtf8 text → IsClosed (drop t.at text) t.len → IsUtf8 (inner text t)
inner_utf8 text t u c =
    let i = t.at + 1 in
    let j = t.at + (t.len - 1) in
    let two = c.two in
    let long : t.len ≤ length text - t.at = subst (λ m. t.len ≤ m) (length-drop t.at text) c.within in
    let first : get_or text (t.at + 0) 0 ≡ 39 = sym (get_or-drop t.at text 0 0) ∙ c.first in
    let first_here : get_or text t.at 0 ≡ 39 = subst (λ m. get_or text m 0 ≡ 39) (omega arith) first in
    let last : get_or text j 0 ≡ 39 = sym (get_or-drop t.at text (t.len - 1) 0) ∙ c.end in
    let from = IsCharBoundary-after_ascii text t.at u (omega (arith, two, long)) (omega (arith, first_here)) in
    let to = IsCharBoundary-before_ascii text j (omega (arith, two, long)) (omega (arith, last)) in
    let whole : IsUtf8 (take (j - i) (drop i text)) = IsUtf8-between text i j u (omega (arith, two)) from to in
    let count : j - i ≡ t.len - 2 = omega (arith, two) in
    let same : take (t.len - 2) (drop i text) ≡ inner text t = ap (take (t.len - 2)) (sym (drop-drop 1 t.at text)) ∙ sym (between t.len (drop t.at text) two) in
    subst IsUtf8 same (subst (λ m. IsUtf8 (take m (drop i text))) count whole)

literal_here : (text : Bytes) → IsUtf8 text → (t : Token) → IsLiteralAt text t → t.kind ≡ k.Quoted → content text t ≡ single_quoted (inner text t)
literal_here text u t h is = utf8_lossy-IsUtf8 (single_quoted (inner text t)) (IsUtf8-quoted (inner text t) (inner_utf8 text t u (h is)))

-- ---- the marking of signs leaves literals as they are

step_other : (kind : Kind) → step_kind kind ≡ k.Quoted → kind ≡ k.Quoted
step_other k.Plus e = absurd (cc)
step_other k.Minus e = absurd (cc)
step_other kind e = e

abbrev HasValue : Bytes → Token → Type 0
HasValue text t = t.kind ≡ k.Quoted → content text t ≡ single_quoted (inner text t)

step_here : (text : Bytes) (belongs : Bool) (t : Token) → HasValue text t → HasValue text (as_step belongs t)
step_here text true t h = λ e. h (step_other t.kind e)
step_here text false t h = h

marked_here : (text : Bytes) (before latest : Kind) (ts : Tokens) → All (HasValue text) ts → All (HasValue text) (marked_after before latest ts)
marked_here text before latest [] h = h
marked_here text before latest (t ∷ ts) h =
    All-cons (HasValue text) _ _ (step_here text (ends_date before latest && parsers.next (is k.Interval) ts) t (All-head (HasValue text) t ts h)) (marked_here text latest t.kind ts (All-tail (HasValue text) t ts h))

pub literal_law : LiteralLaw
literal_law text n u =
    marked_here text k.Blank k.Blank (tokens n text) (All-weaker (IsLiteralAt text) _ (literal_here text u) (tokens n text) (literals_are_closed text n))

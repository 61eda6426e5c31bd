-- The names that stand at the tokens of a text are words.
use Rattle.std.proofs.Common.{◌≡◌, ◌∙◌, ℕ, zero, suc, ◌+◌, ◌-◌, ◌<◌, ◌≤◌, Bool, true, false, cond, ◌&&◌, [], ◌∷◌, ◌++◌, length, take, drop, flat_map, encode_utf8, refl, sym, ap, subst, arith, if◌then◌else◌}
use Rattle.std.specs.Prelude.{nat_lt, nat_le, slice_index, Option, Some, None}
use Rattle.std.specs.Char.{is_ascii_alphabetic, to_ascii_lowercase}
use Rattle.std.specs.List.{list_all}
use Rattle.std.specs.Option.{option_to_list}
use Rattle.std.proofs.lemmas.Bool.{le-leb, ltb-false, true≢false}
use Rattle.std.proofs.lemmas.List.{drop-drop}
use Rattle.std.proofs.lemmas.Str.{encode_ascii}
use Rattle.sql_read.specs.declared.kind.Kind.{Kind}
use Rattle.sql_read.specs.declared.kind.Kind.TheVariants as k
use Rattle.sql_read.specs.declared.lexis.Class.TheVariants as class
use Rattle.sql_read.specs.declared.lexis.Piece.{Piece}
use Rattle.sql_read.specs.declared.token_list.Token.{Token}
use Rattle.sql_read.specs.Forms.{is_name}
use Rattle.sql_read.specs.Lexis as lexis
use Rattle.sql_read.specs.Lexis.{Bytes, front, is_in, run_len, word, plain}
use Rattle.sql_read.specs.Schema.{name_at}
use Rattle.sql_read.specs.Tokens.{Tokens, token_of, tokens_from, unless_blank, past_kind, limited, tokens}
use Rattle.sql_read.proofs.Fronts.{is_sign, is_numeral, of_front}

-- ---- the front of a text: where it is a name, it is a word

abbrev IsWordIfNamed : Bytes → Piece → Type 0
IsWordIfNamed z p = p.kind ≡ k.Name → (p ≡ word z) × (is_ascii_alphabetic (slice_index z 0) ≡ true)

abbrev is_name_kind : Kind → Bool
is_name_kind k.Name = true
is_name_kind kind = false

no : (z : Bytes) (kind : Kind) (len : ℕ) → is_name_kind kind ≡ false → IsWordIfNamed z (plain kind len)
no z kind len other e = let same : true ≡ false = ap is_name_kind (sym e) ∙ other in absurd (true≢false same)

numeral_other : (kind : Kind) → is_numeral kind ≡ true → is_name_kind kind ≡ false
numeral_other k.Name h = absurd (cc)
numeral_other kind h = refl

no_number : (z : Bytes) (kind : Kind) (len n scale : ℕ) → is_numeral kind ≡ true → IsWordIfNamed z (record { kind = kind; len = len; value = n; scale = scale })
no_number z kind len n scale h e = let same : true ≡ false = ap is_name_kind (sym e) ∙ numeral_other kind h in absurd (true≢false same)

closed_other : (z : Bytes) (len : ℕ) (end : Option ℕ) → IsWordIfNamed z (lexis.closed len end)
closed_other z len None = λ e. absurd (cc)
closed_other z len (Some n) = λ e. absurd (cc)

sign_other : (kind : Kind) → is_sign kind ≡ true → is_name_kind kind ≡ false
sign_other k.Name h = absurd (cc)
sign_other kind h = refl

front_word : (z : Bytes) → IsWordIfNamed z (front z)
front_word z =
    of_front (IsWordIfNamed z) z (λ letter _. (refl, letter)) (λ kind len n scale h _ _. no_number z kind len n scale h) (λ _. closed_other z (length z) (lexis.closing false 1 (drop 1 z)))
    (λ kind len s. no z kind len (sign_other kind s))

-- ---- a word's bytes, in lower case

abbrev IsLower : ℕ → Type 0
IsLower b = (to_ascii_lowercase b < 128) × (is_in class.Word (to_ascii_lowercase b) ≡ true)

lower_word : (b : ℕ) → is_in class.Word b ≡ true → IsLower b
lower_word b h = grind arith

lower_letter : (b : ℕ) → is_ascii_alphabetic b ≡ true → is_ascii_alphabetic (to_ascii_lowercase b) ≡ true
lower_letter b h = grind arith

letter_word : (b : ℕ) → is_ascii_alphabetic b ≡ true → is_in class.Word b ≡ true
letter_word b h = grind arith

abbrev lowered : Bytes → Bytes
lowered w = flat_map (λ b. encode_utf8 (to_ascii_lowercase b)) w

both : (a b : Bool) → a ≡ true → b ≡ true → (a && b) ≡ true
both true b h g = g
both false b h g = h

-- the bytes of the run that a word takes, in lower case, are those of a word again, and as many
abbrev IsRun : Bytes → ℕ → Type 0
IsRun z n = (list_all (is_in class.Word) (lowered (take n z)) ≡ true) × (length (lowered (take n z)) ≡ n)

run_more : (b : ℕ) (z : Bytes) (m : ℕ) → is_in class.Word b ≡ true → IsRun z m → IsRun (b ∷ z) (suc m)
run_more b z m e h = rw (encode_ascii (to_ascii_lowercase b) (lower_word b e).0) (both _ _ (lower_word b e).1 h.0, ap suc h.1)

run_lower : (z : Bytes) → IsRun z (run_len class.Word z)
run_lower [] = (refl, refl)
run_lower (b ∷ z) = by_test (is_in class.Word b) refl (run_lower z)
  where
    by_test : (c : Bool) → is_in class.Word b ≡ c → IsRun z (run_len class.Word z) → IsRun (b ∷ z) (cond c (1 + run_len class.Word z) 0)
    by_test true e h = let one : suc (run_len class.Word z) ≡ 1 + run_len class.Word z = omega arith in subst (IsRun (b ∷ z)) one (run_more b z (run_len class.Word z) e h)
    by_test false e h = (refl, refl)

name_of_word : (z : Bytes) → is_ascii_alphabetic (slice_index z 0) ≡ true → nat_lt 64 (run_len class.Word z) ≡ false → is_name (lowered (take (run_len class.Word z) z)) ≡ true
name_of_word [] letter few = absurd (cc)
name_of_word (b ∷ z) letter few =
    let m = run_len class.Word z in
    let h = run_lower z in
    let on = letter_word b letter in
    let one : 1 + m ≡ suc m = omega arith in
    let long : run_len class.Word (b ∷ z) ≡ suc m = ap (λ c. cond c (1 + m) 0) on ∙ one in
    let bound : suc m ≤ 64 = subst (λ n. n ≤ 64) long (ltb-false _ _ few) in
    let short : nat_le (length (lowered (take m z))) 63 ≡ true = le-leb _ _ (omega (arith, h.1, bound)) in
    subst (λ n. is_name (lowered (take n (b ∷ z))) ≡ true) (sym long)
    (rw (encode_ascii (to_ascii_lowercase b) (lower_word b on).0) (both _ _ (lower_letter b letter) (both _ _ h.0 short)))

word_short : (z : Bytes) → (word z).kind ≡ k.Name → nat_lt 64 (run_len class.Word z) ≡ false
word_short z e = by_test (nat_lt 64 (run_len class.Word z)) refl e
  where
    by_test : (c : Bool) → nat_lt 64 (run_len class.Word z) ≡ c → (if c then k.BadToken else lexis.word_kind (take (run_len class.Word z) z)) ≡ k.Name → nat_lt 64 (run_len class.Word z) ≡ false
    by_test true same g = absurd (cc)
    by_test false same g = same

-- ---- the tokens of a text

abbrev pub IsWordAt : Bytes → Token → Type 0
IsWordAt text t = t.kind ≡ k.Name → is_name (name_at text t) ≡ true

abbrev pub AreWords : Bytes → Tokens → Type 0
AreWords text [] = Unit {0}
AreWords text (t ∷ ts) = IsWordAt text t × AreWords text ts

pub words_apart : (text : Bytes) (xs ys : Tokens) → AreWords text (xs ++ ys) → AreWords text xs × AreWords text ys
words_apart text [] ys h = (tt, h)
words_apart text (x ∷ xs) ys h = let (a, b) = words_apart text xs ys h.1 in ((h.0, a), b)

words_joined : (text : Bytes) (xs ys : Tokens) → AreWords text xs → AreWords text ys → AreWords text (xs ++ ys)
words_joined text [] ys a b = b
words_joined text (x ∷ xs) ys a b = (a.0, words_joined text xs ys a.1 b)

piece_at : (text z : Bytes) (at : ℕ) (p : Piece) → z ≡ drop at text → p ≡ front z → p.kind ≡ k.Name → is_name (lowered (take p.len (drop at text))) ≡ true
piece_at text z at p here is named =
    let w = front_word z (ap (λ q. q.kind) (sym is) ∙ named) in
    let same : p ≡ word z = is ∙ w.0 in
    let few = word_short z (ap (λ q. q.kind) (sym same) ∙ named) in
    rw (← here, ap (λ q. q.len) same) (name_of_word z w.1 few)

one_word : (text : Bytes) (kind : Kind) (t : Token) → IsWordAt text t → AreWords text (option_to_list (unless_blank kind t))
one_word text k.Blank t h = tt
one_word text kind t h = (h, tt)

words_from : (text : Bytes) (left at : ℕ) (z : Bytes) → z ≡ drop at text → AreWords text (tokens_from left at z)
words_from text left at [] here = tt
words_from text (suc left) at (b ∷ z) here = words_from text left (at + 1) z (ap (drop 1) here ∙ drop-drop 1 at text)
words_from text zero at (b ∷ z) here =
    let p = front (b ∷ z) in
    words_joined text (option_to_list (token_of at p)) _ (one_word text p.kind _ (piece_at text (b ∷ z) at p here refl))
    (words_from text (p.len - 1) (at + 1) z (ap (drop 1) here ∙ drop-drop 1 at text))

past_other : (kind : Kind) → past_kind kind ≡ k.Name → ⊥
past_other k.BadToken e = cc
past_other k.TooWide e = cc
past_other kind e = cc

words_limited : (text : Bytes) (n : ℕ) (ts : Tokens) → AreWords text ts → AreWords text (limited n ts)
words_limited text n [] h = tt
words_limited text zero (t ∷ ts) h = (λ e. absurd (past_other t.kind e), tt)
words_limited text (suc n) (t ∷ ts) h = (h.0, words_limited text n ts h.1)

pub tokens_are_words : (text : Bytes) (n : ℕ) → AreWords text (tokens n text)
unfolding tokens
tokens_are_words text n = words_limited text n (tokens_from 0 0 text) (words_from text 0 0 text refl)

-- What a test says of the tokens of a kind, or of a class of kinds.
use Rattle.std.proofs.Common.{◌≡◌, Bool, true, false, not, List, ◌∷◌, length, Err, refl, ◌∙◌, inr}
use Rattle.std.specs.List.{list_all}
use Rattle.std.proofs.lemmas.Bool.{and_parts}
use denote.Enum.Bare.{true_same}
use Rattle.phrases.specs.declared.refusal.ReadError.TheVariants.{Refused}
use Rattle.phrases.specs.Phrases.{Phrase, Both, nothing, token, ◌<|>◌}
use Rattle.phrases.specs.Parsers.{pure, ◌>>=◌}
use Rattle.phrases.proofs.Good.{Fits, Some, good_expect, cond_is}
use Rattle.phrases.proofs.Shapes.{some_token, some_both, some_nothing, good_map, good_after}
use Rattle.phrases.proofs.First.{Starts, starts_token, starts_both, Quiet, Avoids, avoids_token, quiet_token, fits_gap}
use Rattle.sql_read.specs.contracts.kind.Kind.{the_type}
use Rattle.sql_read.specs.declared.kind.Kind.{Kind}
use Rattle.sql_read.specs.declared.kind.Kind.TheVariants as k
use Rattle.sql_read.specs.declared.token_list.Token.{Token}
use Rattle.sql_read.specs.Kinds.{same_kind}
use Rattle.sql_read.specs.Schema.{is, word}
use Rattle.sql_read.proofs.GoodSchema.{of_kind}
use Rattle.query_read.specs.declared.fault.Fault.TheVariants.{Unexpected}
use Rattle.query_read.specs.Classes.{multiplies, ranges, joins}
use Rattle.query_read.specs.Nodes.{signs, steps, compares, numerals, aggregates, of}
use Rattle.query_read.specs.Expressions as g
use Rattle.query_read.specs.ExpressionParsers.{Parser, expect, expect_of, opening}

-- no text has a blank
abbrev pub gap : Token → Bool
gap = is k.Blank

abbrev pub FitsQ : {A : Type 0} → Phrase Token A → (Token → Bool) → Parser A → Type 0
FitsQ L stop q = Fits gap L stop q

pub signs_are : (f : Kind → Bool) (c : Bool) → f k.Plus ≡ c → f k.Minus ≡ c → (x : Kind) → signs x ≡ true → f x ≡ c
signs_are f c a b k.Plus h = a
signs_are f c a b k.Minus h = b
signs_are f c a b x h = absurd (cc)

pub steps_are : (f : Kind → Bool) (c : Bool) → f k.StepPlus ≡ c → f k.StepMinus ≡ c → (x : Kind) → steps x ≡ true → f x ≡ c
steps_are f c a b k.StepPlus h = a
steps_are f c a b k.StepMinus h = b
steps_are f c a b x h = absurd (cc)

pub multiplies_are : (f : Kind → Bool) (c : Bool) → f k.Star ≡ c → f k.Slash ≡ c → (x : Kind) → multiplies x ≡ true → f x ≡ c
multiplies_are f c a b k.Star h = a
multiplies_are f c a b k.Slash h = b
multiplies_are f c a b x h = absurd (cc)

pub ranges_are : (f : Kind → Bool) (c : Bool) → f k.Between ≡ c → f k.In ≡ c → (x : Kind) → ranges x ≡ true → f x ≡ c
ranges_are f c a b k.Between h = a
ranges_are f c a b k.In h = b
ranges_are f c a b x h = absurd (cc)

pub compares_are : (f : Kind → Bool) (c : Bool) → f k.Equal ≡ c → f k.Differs ≡ c → f k.Less ≡ c → f k.LessEqual ≡ c → f k.Greater ≡ c → f k.GreaterEqual ≡ c → (x : Kind) → compares x ≡ true → f x ≡ c
compares_are f c a b d e g i k.Equal h = a
compares_are f c a b d e g i k.Differs h = b
compares_are f c a b d e g i k.Less h = d
compares_are f c a b d e g i k.LessEqual h = e
compares_are f c a b d e g i k.Greater h = g
compares_are f c a b d e g i k.GreaterEqual h = i
compares_are f c a b d e g i x h = absurd (cc)

pub aggregates_are : (f : Kind → Bool) (c : Bool) → f k.Sum ≡ c → f k.Min ≡ c → f k.Max ≡ c → f k.Avg ≡ c → (x : Kind) → aggregates x ≡ true → f x ≡ c
aggregates_are f c a b d e k.Sum h = a
aggregates_are f c a b d e k.Min h = b
aggregates_are f c a b d e k.Max h = d
aggregates_are f c a b d e k.Avg h = e
aggregates_are f c a b d e x h = absurd (cc)

pub numerals_are : (f : Kind → Bool) (c : Bool) → f k.Digits ≡ c → f k.Fraction ≡ c → (x : Kind) → numerals x ≡ true → f x ≡ c
numerals_are f c a b k.Digits h = a
numerals_are f c a b k.Fraction h = b
numerals_are f c a b x h = absurd (cc)

pub joins_are : (f : Kind → Bool) (c : Bool) → f k.Comma ≡ c → f k.Cross ≡ c → f k.Inner ≡ c → f k.Join ≡ c → (x : Kind) → joins x ≡ true → f x ≡ c
joins_are f c a b d e k.Comma h = a
joins_are f c a b d e k.Cross h = b
joins_are f c a b d e k.Inner h = d
joins_are f c a b d e k.Join h = e
joins_are f c a b d e x h = absurd (cc)

-- ---- a test that none of some kinds passes

abbrev pub apart : List Kind → (Kind → Bool) → Bool
apart kinds f = list_all (λ x. not (f x)) kinds

not_true : (b : Bool) → not b ≡ true → b ≡ false
not_true true h = absurd (cc)
not_true false h = refl

pub first_apart : (x : Kind) (kinds : List Kind) (f : Kind → Bool) → apart (x ∷ kinds) f ≡ true → f x ≡ false
first_apart x kinds f h = not_true (f x) (and_parts (not (f x)) (apart kinds f) h).0

pub others_apart : (x : Kind) (kinds : List Kind) (f : Kind → Bool) → apart (x ∷ kinds) f ≡ true → apart kinds f ≡ true
others_apart x kinds f h = (and_parts (not (f x)) (apart kinds f) h).1

-- ---- one token

pub token_of : Kind → Token
token_of kind = record { kind = kind; at = 0; len = 0; value = 0; scale = 0 }

pub some_word : (kind : Kind) → Some (word kind)
unfolding same_kind token_of
some_word kind = some_token (is kind) (token_of kind) (true_same the_type kind kind refl)

pub some_of : (test : Kind → Bool) (kind : Kind) → test kind ≡ true → Some (token (of test))
unfolding token_of
some_of test kind e = some_token (of test) (token_of kind) e

pub fits_word : (kind : Kind) (stop : Token → Bool) → FitsQ (word kind) stop (expect kind)
fits_word kind stop = good_expect Unexpected (is kind) stop

pub fits_of : (test : Kind → Bool) (stop : Token → Bool) → FitsQ (token (of test)) stop (expect_of test)
fits_of test stop = good_expect Unexpected (of test) stop

pub word_map : {A : Type 0} (kind : Kind) (f : Token → A) (stop : Token → Bool) → FitsQ (Both (word kind) (λ t. nothing (f t))) stop (expect kind >>= (λ t. pure (f t)))
word_map kind f stop = good_map (word kind) (expect kind) stop (fits_word kind stop) f

pub some_map : {A : Type 0} (kind : Kind) (f : Token → A) → Some (Both (word kind) (λ t. nothing (f t)))
some_map kind f = some_both (word kind) (λ t. nothing (f t)) (some_word kind) (λ t. some_nothing (f t))

pub after : {A : Type 0} (kind : Kind) (M : Token → Phrase Token A) (q : Token → Parser A) (stop : Token → Bool) → ((t : Token) → FitsQ (M t) stop (q t)) → ((t : Token) → Some (M t)) → FitsQ (Both (word kind) M) stop (expect kind >>= q)
after kind M q stop good some = good_after Unexpected (is kind) M q stop good some

pub after_of : {A : Type 0} (test : Kind → Bool) (M : Token → Phrase Token A) (q : Token → Parser A) (stop : Token → Bool) → ((t : Token) → FitsQ (M t) stop (q t)) → ((t : Token) → Some (M t)) → FitsQ (Both (token (of test)) M) stop (expect_of test >>= q)
after_of test M q stop good some = good_after Unexpected (of test) M q stop good some

-- what begins with a word
pub starts_word : {B : Type 0} (kind : Kind) (M : Token → Phrase Token B) → Starts (is kind) (Both (word kind) M)
starts_word kind M = starts_both (is kind) (word kind) M (starts_token (is kind) (is kind) (λ t h. h))

pub starts_in : {B : Type 0} (f : Kind → Bool) (kind : Kind) (M : Token → Phrase Token B) → f kind ≡ true → Starts (of f) (Both (word kind) M)
starts_in f kind M e = starts_both (of f) (word kind) M (starts_token (is kind) (of f) (λ t h. of_kind f kind t h ∙ e))

pub starts_of : {B : Type 0} (test : Kind → Bool) (M : Token → Phrase Token B) → Starts (of test) (Both (token (of test)) M)
starts_of test M = starts_both (of test) (token (of test)) M (starts_token (of test) (of test) (λ t h. h))

pub quiet_word : {B : Type 0} (f : Kind → Bool) (kind : Kind) (M : Token → Phrase Token B) → f kind ≡ false → Quiet (of f) (Both (word kind) M)
quiet_word f kind M e = quiet_token (is kind) (of f) M (λ t h. of_kind f kind t h ∙ e)

pub avoids_word : {B : Type 0} (f : Kind → Bool) (kind : Kind) (M : Token → Phrase Token B) → f kind ≡ false → Avoids (of f) (Both (word kind) M)
avoids_word f kind M e = avoids_token (is kind) (of f) M (λ t h. of_kind f kind t h ∙ e)

-- ---- parentheses

pub shut_opening : {A : Type 0} (q : Parser A) (t : Token) (s : List Token) → gap t ≡ true → opening q (t ∷ s) ≡ Err (Refused Unexpected (length (t ∷ s)))
unfolding same_kind
shut_opening q t s h = cond_is (is k.OpenParen t) false (q (t ∷ s)) (Err (Refused Unexpected (length (t ∷ s)))) (of_kind (λ x. same_kind x k.OpenParen) k.Blank t h)

pub argument : {A : Type 0} (L : Phrase Token A) (stop : Token → Bool) (q : Parser A) (a : A) → FitsQ L stop q → ((t : Token) (s : List Token) → gap t ≡ true → q (t ∷ s) ≡ Err (Refused Unexpected (length (t ∷ s)))) → FitsQ (L <|> g.gap a) stop q
argument L stop q a good shut = fits_gap gap L stop q Unexpected a good shut

pub some_argument : {A : Type 0} (L : Phrase Token A) (a : A) → Some (L <|> g.gap a)
some_argument L a = let s = some_map k.Blank (λ _. a) in record { text = s.text; value = s.value; reads = inr s.reads }

-- The rules of one token of a line, by its kind and what its bytes spell.
use Rattle.std.proofs.Common.{◌≡◌, Bool, true, false, cond, List, [], ◌∷◌, ◌++◌, refl, ap, ◌∙◌, subst, inl, inr}
use Rattle.std.specs.Prelude.{Option, Some, None, Result, Ok, Err, unwrap_or, codes}
use Rattle.std.proofs.lemmas.Option.{same_Some}
use denote.Enum.Bare.{true_same}
use Rattle.phrases.specs.Phrases.{Phrase, Both}
use Rattle.phrases.specs.Parsers.{Outcome, next}
use Rattle.phrases.proofs.Good.{free}
use Rattle.phrases.proofs.Good as good
use Rattle.phrases.proofs.First.{Starts, Avoids, starts_both, avoids_starts, avoids_both}
use Rattle.voodoo_text.specs.contracts.kind.Kind.{the_type}
use Rattle.voodoo_text.specs.declared.kind.Kind.{Kind}
use Rattle.voodoo_text.specs.declared.kind.Kind.TheVariants as k
use Rattle.voodoo_text.specs.declared.operator.Operator.{Operator}
use Rattle.voodoo_text.specs.declared.operator.Operator.TheVariants as o
use Rattle.voodoo_text.specs.declared.operator.SingleOperator.TheVariants as s
use Rattle.voodoo_text.specs.declared.refusal.TextKind.{TextKind}
use Rattle.voodoo_text.specs.declared.refusal.TextKind.TheVariants.{Unexpected, BadNumber}
use Rattle.voodoo_text.specs.Kinds.{same_kind, fault_of}
use Rattle.voodoo_text.specs.Values.{Bytes}
use Rattle.voodoo_text.specs.Tokens.{Token, token}
use Rattle.voodoo_text.specs.Operators.{operator_of}
use Rattle.voodoo_text.specs.Places as p
use Rattle.voodoo_text.specs.Places.{Parser, is}
use Rattle.voodoo_text.specs.Statements as st
use Rattle.voodoo_text.specs.PlaceGrammar as g
use Rattle.voodoo_text.specs.PlaceGrammar.{ranges, order_alone, word, valued, held}
use Rattle.voodoo_text.proofs.SameKinds.{kinds_one}
use Rattle.voodoo_text.proofs.OneToken.{Says, Answer, Taken, Eased, put, one, fits_one, blames_one, rel_one}
use Rattle.voodoo_text.proofs.Rules.{Rule, Same, same_phrase, same_parser}

-- ---- the answer at a token

abbrev pub or_fault : {A : Type 0} → TextKind → Option A → Result A TextKind
or_fault fault (Some a) = Ok a
or_fault fault None = Err fault

-- by a token's kind, and then by its bytes
abbrev pub of_kind : {A : Type 0} → Kind → TextKind → (Bytes → Option A) → Answer A
of_kind kind fault value t = cond (is kind t) (or_fault fault (value t.word)) (Err (fault_of t.kind))

pub is_own : (kind : Kind) → same_kind kind kind ≡ true
unfolding same_kind
is_own kind = true_same the_type kind kind refl

-- what a test by the kind says of a token of this kind
pub of_one : (test : Kind → Bool) (kind : Kind) (t : Token) → is kind t ≡ true → test t.kind ≡ test kind
of_one test kind t h = ap test (kinds_one t.kind kind h)

token_is : (t : Token) (kind : Kind) → t.kind ≡ kind → t ≡ token kind t.word
token_is t kind e = ap (λ x. token x t.word) e

ok_by : {A : Type 0} (b : Bool) (x : Option A) (fault other : TextKind) (a : A) → cond b (or_fault fault x) (Err other) ≡ Ok a → (b ≡ true) × (x ≡ Some a)
ok_by true (Some y) fault other a h = let e : y ≡ a = cc in (refl, ap (λ z. Some z) e)
ok_by true None fault other a h = absurd (cc)
ok_by false x fault other a h = absurd (cc)

taken_valued : {A : Type 0} (kind : Kind) (fault : TextKind) (value : Bytes → Option A) → Same (Taken (of_kind kind fault value)) (valued kind value)
taken_valued kind fault value = (
  λ xs a x.
      let t = x.0 in
      let parts = ok_by (is kind t) (value t.word) fault (fault_of t.kind) a x.2 in
      (t.word, x.1 ∙ ap (λ u. u ∷ []) (token_is t kind (kinds_one t.kind kind parts.0)), parts.1),
  λ xs a x. (token kind x.0, x.1, ap (λ b. cond b (or_fault fault (value x.0)) (Err (fault_of kind))) (is_own kind) ∙ ap (or_fault fault) x.2),
)

-- ---- what a refusal says of the token

pub says_kind : (kind : Kind) (bytes : Bytes) (ts : List Token) → Says (fault_of kind) (token kind bytes ∷ ts)
says_kind k.Bad bytes ts = refl
says_kind kind bytes ts = λ h. cc

says_by : {A : Type 0} (b : Bool) (x : Option A) (f fault : TextKind) (t : Token) (ts : List Token) → (b ≡ true → x ≡ None → Says f (t ∷ ts)) → cond b (or_fault f x) (Err (fault_of t.kind)) ≡ Err fault → Says fault (t ∷ ts)
says_by true (Some y) f fault t ts h e = absurd (cc)
says_by true None f fault t ts h e = let same : f ≡ fault = cc in subst (λ z. Says z (t ∷ ts)) same (h refl refl)
says_by false x f fault t ts h e = let same : fault_of t.kind ≡ fault = cc in subst (λ z. Says z (t ∷ ts)) same (says_kind t.kind t.word ts)

pub never_number : (kind : Kind) → fault_of kind ≡ BadNumber → ⊥
never_number k.Bad h = cc
never_number kind h = cc

never_by : {A : Type 0} (b : Bool) (x : Option A) (kind : Kind) → cond b (or_fault Unexpected x) (Err (fault_of kind)) ≡ Err BadNumber → ⊥
never_by true (Some y) kind h = cc
never_by true None kind h = cc
never_by false x kind h = never_number kind (cc)

eased_by : {A : Type 0} (b : Bool) (x : Option A) (nil : A) (kind : Kind) → Eased (cond b (or_fault BadNumber x) (Err (fault_of kind))) (cond b (or_fault BadNumber (Some (unwrap_or x nil))) (Err (fault_of kind)))
eased_by true (Some y) nil kind = inl (refl, λ h. cc)
eased_by true None nil kind = inr (refl, nil, refl)
eased_by false x nil kind = inl (refl, λ h. never_number kind (cc))

-- ---- the parsers of one token

put_cond : {A : Type 0} (b : Bool) (x y : Result A TextKind) (t : Token) (ts : List Token) → put (cond b x y) t ts ≡ cond b (put x t ts) (put y t ts)
put_cond true x y t ts = refl
put_cond false x y t ts = refl

expect_is : (kind : Kind) (ts : List Token) → one (of_kind kind Unexpected Some) ts ≡ p.expect kind ts
unfolding one p.expect
expect_is kind [] = refl
expect_is kind (t ∷ ts) = put_cond (is kind t) (Ok t.word) (Err (fault_of t.kind)) t ts

in_range_is : {A : Type 0} (x : Option A) (t : Token) (ts : List Token) → put (or_fault BadNumber x) t ts ≡ p.in_range x t ts
in_range_is (Some a) t ts = refl
in_range_is None t ts = refl

number_is : {A : Type 0} (within : Bytes → Option A) (ts : List Token) → one (of_kind k.Number BadNumber within) ts ≡ p.number within ts
unfolding one p.number
number_is within [] = refl
number_is {A = A} within (t ∷ ts) =
    let refused : Outcome Token TextKind A = put (Err (fault_of t.kind)) t ts in
    put_cond (is k.Number t) (or_fault BadNumber (within t.word)) (Err (fault_of t.kind)) t ts
    ∙ ap (λ x. cond (is k.Number t) x refused) (in_range_is (within t.word) t ts)

known_is : (x : Option Operator) (t : Token) (ts : List Token) → put (or_fault Unexpected x) t ts ≡ st.known x t ts
known_is (Some a) t ts = refl
known_is None t ts = refl

operator_is : (ts : List Token) → one (of_kind k.Name Unexpected operator_of) ts ≡ st.operator ts
unfolding one st.operator
operator_is [] = refl
operator_is (t ∷ ts) =
    let refused : Outcome Token TextKind Operator = put (Err (fault_of t.kind)) t ts in
    put_cond (is k.Name t) (or_fault Unexpected (operator_of t.word)) (Err (fault_of t.kind)) t ts
    ∙ ap (λ x. cond (is k.Name t) x refused) (known_is (operator_of t.word) t ts)

-- ---- their rules

some_valued : {A : Type 0} (kind : Kind) (value : Bytes → Option A) (bytes : Bytes) (a : A) → value bytes ≡ Some a → good.Some (valued kind value)
some_valued kind value bytes a e = record { text = token kind bytes ∷ []; value = a; reads = (bytes, refl, e) }

rule_one : {A : Type 0} (kind : Kind) (fault : TextKind) (value easy : Bytes → Option A) (stop : Token → Bool)
    → ((t : Token) → Eased (of_kind kind fault value t) (of_kind kind fault easy t))
    → ((t : Token) (ts : List Token) → is kind t ≡ true → value t.word ≡ None → Says fault (t ∷ ts))
    → good.Some (valued kind value) → good.Some (valued kind easy)
    → Rule (valued kind value) (valued kind easy) stop (one (of_kind kind fault value))
rule_one kind fault value easy stop eased says some some_easy = record {
  easy = one (of_kind kind fault easy);
  reads = let same = taken_valued kind fault value in good.good_same (Taken (of_kind kind fault value)) (valued kind value) stop (one (of_kind kind fault value)) same.0 same.1 (fits_one (of_kind kind fault value) stop);
  reads_easy = let same = taken_valued kind fault easy in good.good_same (Taken (of_kind kind fault easy)) (valued kind easy) stop (one (of_kind kind fault easy)) same.0 same.1 (fits_one (of_kind kind fault easy) stop);
  rel = rel_one (of_kind kind fault value) (of_kind kind fault easy) eased;
  blames = blames_one (of_kind kind fault value) (λ t other e ts. says_by (is kind t) (value t.word) fault other t ts (says t ts) e);
  text = some;
  text_easy = some_easy;
}

same_word : (kind : Kind) → Same (valued kind Some) (word kind)
same_word kind = (
  λ xs a x. x.1 ∙ ap (λ bytes. token kind bytes ∷ []) (same_Some x.0 a x.2),
  λ xs a e. (a, e, refl),
)

pub rule_word : (kind : Kind) {stop : Token → Bool} → Rule (word kind) (word kind) stop (p.expect kind)
rule_word kind {stop = stop} = same_parser (p.expect kind) (expect_is kind) (same_phrase (word kind) (word kind) (same_word kind) (same_word kind)
    (rule_one kind Unexpected Some Some stop
    (λ t. inl (refl, never_by (is kind t) (Some t.word) t.kind))
    (λ t ts is none. absurd (cc))
    (some_valued kind Some [] [] refl) (some_valued kind Some [] [] refl)))

-- a number; 0 is one in each range
pub rule_number : {A : Type 0} (nil : A) (within : Bytes → Option A) → within (48 ∷ []) ≡ Some nil → {stop : Token → Bool}
    → Rule (valued k.Number (held ranges nil within)) (valued k.Number (held order_alone nil within)) stop (p.number within)
rule_number nil within zero {stop = stop} = same_parser (p.number within) (number_is within)
    (rule_one k.Number BadNumber within (held order_alone nil within) stop
    (λ t. eased_by (is k.Number t) (within t.word) nil t.kind)
    (λ t ts is none. kinds_one t.kind k.Number is)
    (some_valued k.Number within (48 ∷ []) nil zero)
    (some_valued k.Number (held order_alone nil within) (48 ∷ []) nil (ap (λ x. Some (unwrap_or x nil)) zero)))

named : (t : Token) → is k.Name t ≡ true → t.kind ≡ k.Bad → ⊥
named t is bad = let e = kinds_one t.kind k.Name is in cc

load_word : good.Some g.operator
unfolding operator_of
load_word = some_valued k.Name operator_of (codes "Load") (o.Single s.Load) refl

pub rule_operator : {stop : Token → Bool} → Rule g.operator g.operator stop st.operator
rule_operator {stop = stop} = same_parser st.operator operator_is
    (rule_one k.Name Unexpected operator_of operator_of stop
    (λ t. inl (refl, never_by (is k.Name t) (operator_of t.word) t.kind))
    (λ t ts is none. named t is)
    load_word load_word)

-- ---- what begins with a token of a kind

starts_word : (kind : Kind) (xs rest : List Token) (a : Bytes) → word kind xs a → next (is kind) (xs ++ rest) ≡ true
starts_word kind xs rest a e = ap (λ z. next (is kind) (z ++ rest)) e ∙ is_own kind

pub begins : {B : Type 0} (kind : Kind) (M : Bytes → Phrase Token B) → Starts (is kind) (Both (word kind) M)
begins kind M = starts_both (is kind) (word kind) M (starts_word kind)

-- no token of one kind is of another
pub differs : {B : Type 0} (kind other : Kind) (M : Bytes → Phrase Token B) → same_kind kind other ≡ false → Avoids (is other) (Both (word kind) M)
differs kind other M e = avoids_starts (is kind) (is other) (Both (word kind) M) (λ t h. of_one (λ x. same_kind x other) kind t h ∙ e) (begins kind M)

-- a number in the place of a name
pub begins_number : {A B : Type 0} (value : Bytes → Option A) (other : Kind) (M : A → Phrase Token B) → same_kind k.Number other ≡ false → Avoids (is other) (Both (valued k.Number value) M)
begins_number value other M e = avoids_both (is other) (valued k.Number value) M (λ xs rest a x. ap (λ z. next (is other) (z ++ rest)) x.1 ∙ e)

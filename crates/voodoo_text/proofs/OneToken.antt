-- A parser of one token that decides by the token alone: it is good for the phrase of the tokens that it takes, and what it says of
-- the others is said of that token.
use Rattle.std.proofs.Common.{◌≡◌, ℕ, Bool, List, [], ◌∷◌, ◌++◌, length, refl, ap, sym, ◌∙◌, subst, ◌⊎◌, inl, inr, ⊎_elim, arith}
use Rattle.std.specs.Prelude.{Result, Ok, Err}
use Rattle.phrases.specs.declared.refusal.ReadError.{ReadError}
use Rattle.phrases.specs.declared.refusal.ReadError.TheVariants.{Refused}
use Rattle.phrases.specs.Phrases.{Phrase}
use Rattle.phrases.specs.Parsers.{Outcome, head}
use Rattle.phrases.proofs.Good.{Fits, Takes, Refuses, free, ok_is}
use Rattle.phrases.proofs.Deeper.{Rel, Within, Passes, IsTooDeep, within_good}
use Rattle.voodoo_text.specs.declared.kind.Kind.TheVariants as k
use Rattle.voodoo_text.specs.declared.refusal.TextKind.{TextKind}
use Rattle.voodoo_text.specs.declared.refusal.TextKind.TheVariants.{NotText, BadToken, Unexpected, BadNumber, NotAdmissible}
use Rattle.voodoo_text.specs.Tokens.{Token}
use Rattle.voodoo_text.specs.Places.{Parser}
use Rattle.voodoo_text.specs.GrammarLaws.{NextIs}

-- ---- what a refusal says of the next token

abbrev pub Says : TextKind → List Token → Type 0
Says BadToken rest = NextIs k.Bad rest
Says BadNumber rest = NextIs k.Number rest
Says Unexpected rest = NextIs k.Bad rest → ⊥
Says NotAdmissible rest = ⊥
Says NotText rest = ⊥

-- a refusal in a list of tokens says so of the rest there
pub record Blamed (ts : List Token) (fault : TextKind) (left : ℕ) : Type 0 where
  pub before : List Token
  pub rest : List Token
  pub cut : ts ≡ before ++ rest
  pub place : left ≡ length rest
  pub says : Says fault rest

abbrev pub Blames : {A : Type 0} → Parser A → Type 0
Blames p = (ts : List Token) (fault : TextKind) (left : ℕ) → p ts ≡ Err (Refused fault left) → Blamed ts fault left

-- ---- one token

abbrev pub Answer : Type 0 → Type 0
Answer A = Token → Result A TextKind

abbrev pub put : {A : Type 0} → Result A TextKind → Token → List Token → Outcome Token TextKind A
put (Ok a) t ts = Ok (a, ts)
put (Err fault) t ts = Err (Refused fault (length (t ∷ ts)))

unfoldable pub one : {A : Type 0} → Answer A → Parser A
one answer [] = Err (Refused Unexpected 0)
one answer (t ∷ ts) = put (answer t) t ts

-- the tokens that it takes
abbrev pub Taken : {A : Type 0} → Answer A → Phrase Token A
Taken answer xs a = (t : Token) × (xs ≡ t ∷ []) × (answer t ≡ Ok a)

module _ {A : Type 0} (answer : Answer A) where
  pub one_at : (t : Token) (ts : List Token) (x : Result A TextKind) → answer t ≡ x → one answer (t ∷ ts) ≡ put x t ts
  unfolding one
  one_at t ts x e = ap (λ y. put y t ts) e

  one_end : one answer [] ≡ Err (Refused Unexpected 0)
  unfolding one
  one_end = refl

  one_takes : (ts rest : List Token) (a : A) → one answer ts ≡ Ok (a, rest) → Takes (Taken answer) (one answer) ts a rest
  one_takes [] rest a h = let e = one_end in absurd (cc)
  one_takes (t ∷ ts) rest a h = by_answer (answer t) refl
    where
      by_answer : (x : Result A TextKind) → answer t ≡ x → Takes (Taken answer) (one answer) (t ∷ ts) a rest
      by_answer (Ok b) e =
          let is = ok_is b a ts rest (sym (one_at t ts (Ok b) e) ∙ h) in
          let ok : answer t ≡ Ok a = e ∙ ap (λ y. Ok y) is.0 in
          record { text = t ∷ []; cut = ap (λ y. t ∷ y) is.1; reads = (t, refl, ok); local = λ s same. one_at t s (Ok a) ok }
      by_answer (Err fault) e = let f = one_at t ts (Err fault) e in absurd (cc)

  one_refuses : (ts : List Token) (d : ReadError TextKind) → one answer ts ≡ Err d → Refuses (Taken answer) (one answer) ts d
  one_refuses [] d h =
      let e = one_end in
      record { before = []; rest = []; fault = Unexpected; is = cc; cut = refl; viable = inl refl; local = at_end }
    where
      at_end : (s : List Token) → head s ≡ head [] → one answer s ≡ Err (Refused Unexpected (length s))
      at_end [] same = one_end
      at_end (u ∷ s) same = absurd (cc)
  one_refuses (t ∷ ts) d h = by_answer (answer t) refl
    where
      at_same : (fault : TextKind) → answer t ≡ Err fault → (s : List Token) → head s ≡ head (t ∷ ts) → one answer s ≡ Err (Refused fault (length s))
      at_same fault e [] same = absurd (cc)
      at_same fault e (u ∷ s) same = let is : u ≡ t = cc in one_at u s (Err fault) (ap answer is ∙ e)

      by_answer : (x : Result A TextKind) → answer t ≡ x → Refuses (Taken answer) (one answer) (t ∷ ts) d
      by_answer (Ok b) e = let f = one_at t ts (Ok b) e in absurd (cc)
      by_answer (Err fault) e =
          let f = one_at t ts (Err fault) e in
          record { before = []; rest = t ∷ ts; fault = fault; is = cc; cut = refl; viable = inl refl; local = at_same fault e }

  pub fits_one : (stop : Token → Bool) → Fits free (Taken answer) stop (one answer)
  fits_one stop = record {
    sound = one_takes;
    complete = λ xs rest a l h. let e = l.1 in inl (rw e (one_at l.0 rest (Ok a) l.2));
    refuses = one_refuses;
  }

  pub blames_one : ((t : Token) (fault : TextKind) → answer t ≡ Err fault → (ts : List Token) → Says fault (t ∷ ts)) → Blames (one answer)
  blames_one says [] fault left h =
      let e = one_end in
      let unexpected : Unexpected ≡ fault = cc in
      record { before = []; rest = []; cut = refl; place = cc; says = subst (λ f. Says f []) unexpected (λ bad. bad) }
  blames_one says (t ∷ ts) fault left h = by_answer (answer t) refl
    where
      by_answer : (x : Result A TextKind) → answer t ≡ x → Blamed (t ∷ ts) fault left
      by_answer (Ok b) e = let f = one_at t ts (Ok b) e in absurd (cc)
      by_answer (Err other) e =
          let f = one_at t ts (Err other) e in
          let same : other ≡ fault = cc in
          record { before = []; rest = t ∷ ts; cut = refl; place = cc; says = says t fault (e ∙ ap (λ y. Err y) same) ts }

-- ---- an answer that takes more numbers

-- the second is the first, but takes what the first refuses for its range
abbrev pub Eased : {A : Type 0} → Result A TextKind → Result A TextKind → Type 0
Eased {A = A} x y = ((x ≡ y) × (x ≡ Err BadNumber → ⊥)) ⊎ ((x ≡ Err BadNumber) × (a : A) × (y ≡ Ok a))

put_bad : {A : Type 0} (x : Result A TextKind) (t : Token) (ts : List Token) (left : ℕ) → put x t ts ≡ Err (Refused BadNumber left) → (x ≡ Err BadNumber) × (length (t ∷ ts) ≡ left)
put_bad (Ok a) t ts left h = absurd (cc)
put_bad (Err fault) t ts left h = let e : fault ≡ BadNumber = cc in (ap (λ y. Err y) e, cc)

module _ {A : Type 0} (x y : Answer A) (h : (t : Token) → Eased (x t) (y t)) where
  below_one : (ts : List Token) → (one x ts ≡ one y ts) ⊎ IsTooDeep BadNumber (one x ts)
  unfolding one
  below_one [] = inl refl
  below_one (t ∷ ts) = ⊎_elim (λ e. inl (ap (λ z. put z t ts) e.0)) (λ e. inr (length (t ∷ ts), ap (λ z. put z t ts) e.0)) (h t)

  deeper_one : (ts : List Token) (left : ℕ) → one x ts ≡ Err (Refused BadNumber left) → Passes left (one y ts)
  unfolding one
  deeper_one [] left e = absurd (cc)
  deeper_one (t ∷ ts) left e =
      let bad = put_bad (x t) t ts left e in
      ⊎_elim
      (λ same. absurd (same.1 bad.0))
      (λ good. (length ts, omega (arith, bad.1), subst (λ z. Within (length ts) z) (sym (ap (λ z. put z t ts) good.2)) (omega arith)))
      (h t)

  pub rel_one : Rel BadNumber (one x) (one y)
  rel_one = record { below = below_one; deeper = deeper_one; shrinks = within_good (Taken y) free (one y) (fits_one y free) }

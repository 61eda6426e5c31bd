-- A whole text: what is read is in the phrase, what is in the phrase is read, and a refusal is at the first token that cannot stand.
use Rattle.std.proofs.Common.{◌≡◌, ℕ, Bool, List, [], ◌∷◌, ◌++◌, length, Ok, Err, refl, ap, sym, ◌∙◌, subst, ◌⊎◌, inl, inr, ⊎_elim, append_assoc}
use Rattle.std.proofs.lemmas.List.{append-nil}
use Rattle.std.specs.Prelude.{Result, IfOk, MatchResult}
use Rattle.phrases.specs.declared.refusal.ReadError.{ReadError}
use Rattle.phrases.specs.declared.refusal.ReadError.TheVariants.{NoMemory, Refused}
use Rattle.phrases.specs.Phrases.{Phrase}
use Rattle.phrases.specs.Parsers.{Parser, Outcome, head, ended, Ends}
use Rattle.phrases.specs.Promise.{Begins, EndsNone, IsUnexpected}
use Rattle.phrases.proofs.Good.{Good, Some, completes}

module _ {T F A : Type 0} (L : Phrase T A) (stop : T → Bool) (p : Parser T F A) (gp : Good L stop p) (over : F) where
  ended_ok : (r : Outcome T F A) (a : A) → ended over r ≡ Ok a → r ≡ Ok (a, [])
  ended_ok (Ok (b, [])) a h = let e : b ≡ a = cc in ap (λ x. Ok (x, [])) e
  ended_ok (Ok (b, t ∷ ts)) a h = absurd (cc)
  ended_ok (Err d) a h = absurd (cc)

  ended_err : (r : Outcome T F A) (d : ReadError F) → ended over r ≡ Err d → (r ≡ Err d) ⊎ ((a : A) × (t : T) × (ts : List T) × (r ≡ Ok (a, t ∷ ts)) × (d ≡ Refused over (length (t ∷ ts))))
  ended_err (Ok (b, [])) d h = absurd (cc)
  ended_err (Ok (b, t ∷ ts)) d h = inr (b, t, ts, refl, cc)
  ended_err (Err c) d h = inl (cc)

  pub read_sound : (ts : List T) (a : A) → ended over (p ts) ≡ Ok a → L ts a
  read_sound ts a h = let t = gp.sound ts [] a (ended_ok (p ts) a h) in subst (λ x. L x a) (sym (t.cut ∙ append-nil t.text)) t.reads

  pub read_complete : (ts : List T) (a : A) → L ts a → ended over (p ts) ≡ Ok a
  read_complete ts a l = ap (λ x. ended over (p x)) (sym (append-nil ts)) ∙ ap (ended over) (completes L stop p gp ts [] a l refl)

  -- what is refused however it goes on begins no text
  no_more_text : (before : List T) (t : T) → ((more : List T) → (d : ReadError F) × (ended over (p (before ++ t ∷ more)) ≡ Err d)) → Begins L (before ++ t ∷ []) → ⊥
  no_more_text before t h b =
      let x = h b.more in
      let c = read_complete ((before ++ t ∷ []) ++ b.more) b.value b.reads in
      let y = ap (λ z. ended over (p z)) (append_assoc before (t ∷ []) b.more) in
      absurd (cc)

  -- refused there with the same token, or at the same end, however it goes on
  abbrev pub Still : List T → List T → F → Type 0
  Still before [] fault = ended over (p (before ++ [])) ≡ Err (Refused fault 0)
  Still before (t ∷ rest) fault = (more : List T) → ended over (p (before ++ t ∷ more)) ≡ Err (Refused fault (length (t ∷ more)))

  pub no_text : (before rest : List T) (fault : F) → Still before rest fault → EndsNone L before rest
  no_text before [] fault h = λ a l. let y = ap (λ z. ended over (p z)) (append-nil before) in let c = read_complete before a l in absurd (cc)
  no_text before (t ∷ rest) fault h = no_more_text before t (λ more. (Refused fault (length (t ∷ more)), h more))

  still : (before rest : List T) (fault : F) → ((s : List T) → head s ≡ head rest → p (before ++ s) ≡ Err (Refused fault (length s))) → Still before rest fault
  still before [] fault h = ap (ended over) (h [] refl)
  still before (t ∷ rest) fault h = λ more. ap (ended over) (h (t ∷ more) refl)

  pub record Stopped (ts : List T) (fault : F) (left : ℕ) : Type 0 where
    pub before : List T
    pub rest : List T
    pub cut : ts ≡ before ++ rest
    pub place : left ≡ length rest
    pub begins : Begins L before
    pub still : Still before rest fault

  pub read_refuses : Some L → (ts : List T) (d : ReadError F) → ended over (p ts) ≡ Err d → (fault : F) × (left : ℕ) × (d ≡ Refused fault left) × Stopped ts fault left
  read_refuses some ts d h = ⊎_elim
      (λ e.
      let r = gp.refuses ts d e in (
        r.fault,
        length r.rest,
        r.is,
        record {
          before = r.before;
          rest = r.rest;
          cut = r.cut;
          place = refl;
          begins = ⊎_elim (λ none. record { more = some.text; value = some.value; reads = subst (λ x. L (x ++ some.text) some.value) (sym none) some.reads }) (λ v. record { more = v.more; value = v.value; reads = v.reads }) r.viable;
          still = still r.before r.rest r.fault r.local;
        },
      ))
      (λ x.
      let t = gp.sound ts (x.1 ∷ x.2) x.0 x.3 in (
        over,
        length (x.1 ∷ x.2),
        x.4,
        record {
          before = t.text;
          rest = x.1 ∷ x.2;
          cut = t.cut;
          place = refl;
          begins = record { more = []; value = x.0; reads = subst (λ y. L y x.0) (sym (append-nil t.text)) t.reads };
          still = λ more. ap (ended over) (t.local (x.1 ∷ more) refl);
        },
      ))
      (ended_err (p ts) d h)

  -- ---- what a function that reads a whole text may promise

  pub found : (ts : List T) (x : Result A (ReadError F)) → Ends (ended over (p ts)) x → IfOk x (L ts)
  found ts (Ok a) h = read_sound ts a h
  found ts (Err d) h = tt

  pub only : (ts : List T) (x : Result A (ReadError F)) → Ends (ended over (p ts)) x → (a : A) → L ts a → MatchResult x (λ b. b ≡ a) (λ e. e ≡ NoMemory)
  only ts (Ok b) h a l = let c = read_complete ts a l in cc
  only ts (Err NoMemory) h a l = refl
  only ts (Err (Refused fault left)) h a l = let c = read_complete ts a l in let d = h (λ e. cc) in absurd (cc)

  pub unexpected : Some L → (ts : List T) (fault : F) (left : ℕ) → ended over (p ts) ≡ Err (Refused fault left) → IsUnexpected L ts left
  unexpected some ts fault left h =
      let x = read_refuses some ts (Refused fault left) h in
      let is = x.2 in
      let same : x.1 ≡ left = cc in
      let s = x.3 in
      record { before = s.before; rest = s.rest; cut = s.cut; place = sym same ∙ s.place; begins = s.begins; ends = no_text s.before s.rest x.0 s.still }

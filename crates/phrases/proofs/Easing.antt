-- A whole text of a phrase with gaps, and its first refusal: where a parser that asks less is refused too, and where it goes on.
use Rattle.std.proofs.Common.{◌≡◌, ℕ, ◌<◌, Bool, true, false, not, ◌&&◌, List, [], ◌∷◌, ◌++◌, length, Ok, Err, refl, ap, sym, ◌∙◌, subst, ◌⊎◌, inl, inr, ⊎_elim, append_assoc, arith, length-append}
use Rattle.std.specs.List.{list_all}
use Rattle.std.proofs.lemmas.List.{append-nil}
use Rattle.std.proofs.lemmas.List.Folds.{list_all-append}
use Rattle.phrases.specs.declared.refusal.ReadError.{ReadError}
use Rattle.phrases.specs.declared.refusal.ReadError.TheVariants.{NoMemory, Refused}
use Rattle.phrases.specs.Phrases.{Phrase}
use Rattle.phrases.specs.Parsers.{Parser, Outcome, head, ended}
use Rattle.phrases.specs.Promise.{Begins, EndsNone, GoesOn}
use Rattle.phrases.proofs.Cuts.{front_goes_on, same_cut}
use Rattle.phrases.proofs.Good.{Fits, Gapped, Some}
use Rattle.phrases.proofs.Deeper.{Rel, Within}

module _ {T : Type 0} (gap : T → Bool) where
  -- no token is a gap
  abbrev pub Whole : List T → Type 0
  Whole ts = list_all (λ t. not (gap t)) ts ≡ true

  last_true : (a b : Bool) → (a && b) ≡ true → b ≡ true
  last_true true b h = h
  last_true false b h = absurd (cc)

  first_true : (a b : Bool) → (a && b) ≡ true → a ≡ true
  first_true true b h = refl
  first_true false b h = absurd (cc)

  -- the tokens from a place on are none either
  pub whole_rest : (before rest : List T) → Whole (before ++ rest) → Whole rest
  whole_rest before rest h = last_true (list_all (λ t. not (gap t)) before) (list_all (λ t. not (gap t)) rest) (sym (list_all-append (λ t. not (gap t)) before rest) ∙ h)

  no_gap : (before : List T) (t : T) (after : List T) → gap t ≡ true → Whole (before ++ t ∷ after) → ⊥
  no_gap before t after g h = let w = whole_rest before (t ∷ after) h in absurd (cc)

module _ {T F A : Type 0} (gap : T → Bool) (over : F) where
  -- refused there with the same token, or at the same end, however it goes on
  abbrev pub Still : Parser T F A → List T → List T → F → Type 0
  Still p before [] fault = ended over (p (before ++ [])) ≡ Err (Refused fault 0)
  Still p before (t ∷ rest) fault = (more : List T) → ended over (p (before ++ t ∷ more)) ≡ Err (Refused fault (length (t ∷ more)))

  ended_ok : (r : Outcome T F A) (a : A) → ended over r ≡ Ok a → r ≡ Ok (a, [])
  ended_ok (Ok (b, [])) a h = let e : b ≡ a = cc in ap (λ x. Ok (x, [])) e
  ended_ok (Ok (b, t ∷ ts)) a h = absurd (cc)
  ended_ok (Err d) a h = absurd (cc)

  ended_err : (r : Outcome T F A) (d : ReadError F) → ended over r ≡ Err d → (r ≡ Err d) ⊎ ((a : A) × (t : T) × (ts : List T) × (r ≡ Ok (a, t ∷ ts)) × (d ≡ Refused over (length (t ∷ ts))))
  ended_err (Ok (b, [])) d h = absurd (cc)
  ended_err (Ok (b, t ∷ ts)) d h = inr (b, t, ts, refl, cc)
  ended_err (Err c) d h = inl (cc)

  pub record Stopped (L : Phrase T A) (p : Parser T F A) (ts : List T) (fault : F) (left : ℕ) : Type 0 where
    pub before : List T
    pub rest : List T
    pub cut : ts ≡ before ++ rest
    pub place : left ≡ length rest
    pub begins : Begins L before
    pub still : Still p before rest fault

  module _ (L : Phrase T A) (stop : T → Bool) (p : Parser T F A) (gp : Fits gap L stop p) where
    pub read_sound : (ts : List T) (a : A) → ended over (p ts) ≡ Ok a → L ts a
    read_sound ts a h = let t = gp.sound ts [] a (ended_ok (p ts) a h) in subst (λ x. L x a) (sym (t.cut ∙ append-nil t.text)) t.reads

    read_or_gap : (ts : List T) (a : A) → L ts a → (ended over (p ts) ≡ Ok a) ⊎ Gapped gap p ts
    read_or_gap ts a l = ⊎_elim
        (λ e. inl (ap (λ x. ended over (p x)) (sym (append-nil ts)) ∙ ap (ended over) e))
        (λ g. inr g)
        (gp.complete ts [] a l refl)

    pub read_complete : (ts : List T) (a : A) → Whole gap ts → L ts a → ended over (p ts) ≡ Ok a
    read_complete ts a w l = ⊎_elim
        (λ e. e)
        (λ g. absurd (no_gap gap g.before g.mark g.after g.is_gap (subst (Whole gap) g.cut w)))
        (read_or_gap ts a l)

    -- a gap at another place than where it is refused
    gap_refused : (before : List T) (t : T) (more : List T) (fault : F) → gap t ≡ false → ended over (p (before ++ t ∷ more)) ≡ Err (Refused fault (length (t ∷ more))) → Gapped gap p (before ++ t ∷ more) → ⊥
    gap_refused before t more fault real h g =
        let e : ended over (p (before ++ t ∷ more)) ≡ Err (Refused g.fault (length (g.mark ∷ g.after))) = ap (λ x. ended over (p x)) g.cut ∙ ap (ended over) (g.refused g.after) in
        let same : length (t ∷ more) ≡ length (g.mark ∷ g.after) = cc in
        let c = same_cut before (t ∷ more) g.before (g.mark ∷ g.after) g.cut same in
        let f = c.1 in
        let u : t ≡ g.mark = cc in
        let is = g.is_gap in
        absurd (cc)

    no_more_text : (before : List T) (t : T) (fault : F) → gap t ≡ false → ((more : List T) → ended over (p (before ++ t ∷ more)) ≡ Err (Refused fault (length (t ∷ more)))) → Begins L (before ++ t ∷ []) → ⊥
    no_more_text before t fault real h b =
        let regroup = append_assoc before (t ∷ []) b.more in
        let l : L (before ++ t ∷ b.more) b.value = subst (λ x. L x b.value) regroup b.reads in
        let x = h b.more in
        ⊎_elim
        (λ e. absurd (cc))
        (λ g. gap_refused before t b.more fault real x g)
        (read_or_gap (before ++ t ∷ b.more) b.value l)

    end_no_text : (before : List T) (fault : F) → ended over (p (before ++ [])) ≡ Err (Refused fault 0) → (a : A) → L before a → ⊥
    end_no_text before fault h a l =
        let e : ended over (p before) ≡ Err (Refused fault 0) = ap (λ x. ended over (p x)) (sym (append-nil before)) ∙ h in
        ⊎_elim
        (λ f. absurd (cc))
        (λ g.
        let y : ended over (p before) ≡ Err (Refused g.fault (length (g.mark ∷ g.after))) = ap (λ x. ended over (p x)) g.cut ∙ ap (ended over) (g.refused g.after) in
        let z : 0 ≡ length (g.mark ∷ g.after) = cc in
        absurd (omega arith))
        (read_or_gap before a l)

    pub no_text : (before rest : List T) (fault : F) → Whole gap rest → Still p before rest fault → EndsNone L before rest
    no_text before [] fault w h = end_no_text before fault h
    no_text before (t ∷ rest) fault w h = no_more_text before t fault (real (gap t) (first_true gap (not (gap t)) (list_all (λ t. not (gap t)) rest) w)) h
      where
        real : (b : Bool) → not b ≡ true → b ≡ false
        real true e = absurd (cc)
        real false e = refl

    still_by : (before rest : List T) (fault : F) → ((s : List T) → head s ≡ head rest → p (before ++ s) ≡ Err (Refused fault (length s))) → Still p before rest fault
    still_by before [] fault h = ap (ended over) (h [] refl)
    still_by before (t ∷ rest) fault h = λ more. ap (ended over) (h (t ∷ more) refl)

    pub read_refuses : Some L → (ts : List T) (d : ReadError F) → ended over (p ts) ≡ Err d → (fault : F) × (left : ℕ) × (d ≡ Refused fault left) × Stopped L p ts fault left
    read_refuses some ts d h = ⊎_elim
        (λ e.
        let r = gp.refuses ts d e in (
          r.fault,
          length r.rest,
          r.is,
          record {
            before = r.before;
            rest = r.rest;
            cut = r.cut;
            place = refl;
            begins = ⊎_elim (λ none. record { more = some.text; value = some.value; reads = subst (λ x. L (x ++ some.text) some.value) (sym none) some.reads }) (λ v. record { more = v.more; value = v.value; reads = v.reads }) r.viable;
            still = still_by r.before r.rest r.fault r.local;
          },
        ))
        (λ x.
        let t = gp.sound ts (x.1 ∷ x.2) x.0 x.3 in (
          over,
          length (x.1 ∷ x.2),
          x.4,
          record {
            before = t.text;
            rest = x.1 ∷ x.2;
            cut = t.cut;
            place = refl;
            begins = record { more = []; value = x.0; reads = subst (λ y. L y x.0) (sym (append-nil t.text)) t.reads };
            still = λ more. ap (ended over) (t.local (x.1 ∷ more) refl);
          },
        ))
        (ended_err (p ts) d h)

    -- what is read past a place begins with it
    goes_on_by : (before : List T) (t : T) (post text short : List T) (a : A) → before ++ t ∷ post ≡ text ++ short → length short < length (t ∷ post) → (more : List T) → L (text ++ more) a → Begins L (before ++ t ∷ [])
    goes_on_by before t post text short a cut lt more l =
        let z = front_goes_on before text short t post (sym cut) lt in
        record { more = z.0 ++ more; value = a; reads = subst (λ x. L x a) (ap (λ x. x ++ more) z.1 ∙ append_assoc (before ++ t ∷ []) z.0 more) l }

    goes_on_past : (before : List T) (t : T) (post : List T) (x : Outcome T F A) → p (before ++ t ∷ post) ≡ x → (m : ℕ) → m < length (t ∷ post) → Within m x → Begins L (before ++ t ∷ [])
    goes_on_past before t post (Ok y) e m lt w =
        let u = gp.sound (before ++ t ∷ post) y.1 y.0 e in
        goes_on_by before t post u.text y.1 y.0 u.cut (omega arith) [] (subst (λ x. L x y.0) (sym (append-nil u.text)) u.reads)
    goes_on_past before t post (Err NoMemory) e m lt w = absurd w
    goes_on_past before t post (Err (Refused fault left)) e m lt w =
        let u = gp.refuses (before ++ t ∷ post) (Refused fault left) e in
        let is = u.is in
        let same : left ≡ length u.rest = cc in
        ⊎_elim
        (λ none. let x = ap length u.cut in let y = ap length none in absurd (omega (arith, length-append u.before u.rest, length-append before (t ∷ post))))
        (λ v. goes_on_by before t post u.before u.rest v.value u.cut (omega arith) v.more v.reads)
        u.viable

    -- ---- a stricter parser q

    module _ (q : Parser T F A) (deep : F) (other : over ≡ deep → ⊥) (rel : Rel deep q p) where
      deep_err : (x : Outcome T F A) (left : ℕ) → ended over x ≡ Err (Refused deep left) → x ≡ Err (Refused deep left)
      deep_err (Ok (a, [])) left h = absurd (cc)
      deep_err (Ok (a, t ∷ ts)) left h = absurd (other (cc))
      deep_err (Err d) left h = cc

      pub goes_on : (before rest : List T) → Still q before rest deep → GoesOn L before rest
      goes_on before [] h =
          let d = rel.deeper (before ++ []) 0 (deep_err (q (before ++ [])) 0 h) in
          absurd (omega (arith, d.1))
      goes_on before (t ∷ post) h =
          let d = rel.deeper (before ++ t ∷ post) (length (t ∷ post)) (deep_err (q (before ++ t ∷ post)) (length (t ∷ post)) (h post)) in
          goes_on_past before t post (p (before ++ t ∷ post)) refl d.0 d.1 d.2

  -- what is refused for another fault is refused by one that asks less
  module _ (p q : Parser T F A) (deep : F) (rel : Rel deep q p) where
    same_refusal : (ts : List T) (fault : F) (left : ℕ) → (fault ≡ deep → ⊥) → ended over (q ts) ≡ Err (Refused fault left) → ended over (p ts) ≡ Err (Refused fault left)
    same_refusal ts fault left ne h = ⊎_elim
        (λ e. sym (ap (ended over) e) ∙ h)
        (λ e. let x : Err (Refused deep e.0) ≡ ended over (q ts) = sym (ap (ended over) e.1) in absurd (ne (cc)))
        (rel.below ts)

    pub still_refused : (before rest : List T) (fault : F) → (fault ≡ deep → ⊥) → Still q before rest fault → Still p before rest fault
    still_refused before [] fault ne h = same_refusal (before ++ []) fault 0 ne h
    still_refused before (t ∷ rest) fault ne h = λ more. same_refusal (before ++ t ∷ more) fault (length (t ∷ more)) ne (h more)

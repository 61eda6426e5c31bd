-- A whole text of at most so many levels, and its first refusal.
use Rattle.std.proofs.Common.{◌≡◌, ℕ, zero, suc, ◌+◌, ◌-◌, ◌≤◌, ◌<◌, arith, length-append, Bool, List, [], ◌∷◌, ◌++◌, length, Ok, Err, refl, ap, sym, ◌∙◌, subst, ⊎_elim, append_assoc}
use Rattle.std.proofs.lemmas.List.{append-nil}
use Rattle.std.specs.Prelude.{Result}
use Rattle.phrases.specs.declared.refusal.ReadError.{ReadError}
use Rattle.phrases.specs.declared.refusal.ReadError.TheVariants.{NoMemory, Refused}
use Rattle.phrases.specs.Phrases.{Phrase}
use Rattle.phrases.specs.Parsers.{Parser, Outcome, ended}
use Rattle.phrases.specs.Promise.{Begins, EndsNone, GoesOn, IsRefused}
use Rattle.phrases.proofs.Cuts.{front_goes_on}
use Rattle.phrases.proofs.Good.{Good, Some}
use Rattle.phrases.proofs.Whole.{Still, no_text, read_sound, read_complete, read_refuses}
use Rattle.phrases.proofs.Deeper.{Rel, Within}

module _ {T F A : Type 0} (G : ℕ → Phrase T A) (stop : T → Bool) (p : ℕ → Parser T F A) (good : (n : ℕ) → Good (G n) stop (p n)) (some : (n : ℕ) → Some (G n)) (deep over : F) (other : over ≡ deep → ⊥) (rel : (n : ℕ) → Rel deep (p n) (p (suc n))) where
  sound : (n : ℕ) (ts : List T) (a : A) → ended over (p n ts) ≡ Ok a → G n ts a
  sound n = read_sound (G n) stop (p n) (good n) over

  complete : (n : ℕ) (ts : List T) (a : A) → G n ts a → ended over (p n ts) ≡ Ok a
  complete n = read_complete (G n) stop (p n) (good n) over

  abbrev StillAt : ℕ → List T → List T → F → Type 0
  StillAt n = Still (G n) stop (p n) (good n) over

  -- ---- with more levels

  ended_deep : (x : Outcome T F A) (left : ℕ) (y : Result A (ReadError F)) → x ≡ Err (Refused deep left) → ended over x ≡ y → y ≡ Err (Refused deep left)
  ended_deep x left y e h = sym h ∙ ap (ended over) e

  one_level : (n : ℕ) (ts : List T) (y : Result A (ReadError F)) → ((left : ℕ) → y ≡ Err (Refused deep left) → ⊥) → ended over (p n ts) ≡ y → ended over (p (suc n) ts) ≡ y
  one_level n ts y not_deep h = ⊎_elim (λ e. sym (ap (ended over) e) ∙ h) (λ e. absurd (not_deep e.0 (ended_deep (p n ts) e.0 y e.1 h))) ((rel n).below ts)

  more_levels : (k n : ℕ) (ts : List T) (y : Result A (ReadError F)) → ((left : ℕ) → y ≡ Err (Refused deep left) → ⊥) → ended over (p n ts) ≡ y → ended over (p (k + n) ts) ≡ y
  more_levels zero n ts y not_deep h = let e : 0 + n ≡ n = omega arith in rw e h
  more_levels (suc k) n ts y not_deep h = let e : suc k + n ≡ suc (k + n) = omega arith in rw e (one_level (k + n) ts y not_deep (more_levels k n ts y not_deep h))

  fault_is : (fault : F) → (fault ≡ deep → ⊥) → (left l : ℕ) → ◌≡◌ {A = Result A (ReadError F)} (Err (Refused fault left)) (Err (Refused deep l)) → ⊥
  fault_is fault ne left l h = ne (cc)

  ok_not_deep : (a : A) (l : ℕ) → ◌≡◌ {A = Result A (ReadError F)} (Ok a) (Err (Refused deep l)) → ⊥
  ok_not_deep a l h = cc

  -- a text of few levels is one of more
  deeper_text : (k n : ℕ) (ts : List T) (a : A) → G n ts a → G (k + n) ts a
  deeper_text k n ts a l = sound (k + n) ts a (more_levels k n ts (Ok a) (ok_not_deep a) (complete n ts a l))

  still_deeper : (k n : ℕ) (before rest : List T) (fault : F) → (fault ≡ deep → ⊥) → StillAt n before rest fault → StillAt (k + n) before rest fault
  still_deeper k n before [] fault ne h = more_levels k n (before ++ []) (Err (Refused fault 0)) (fault_is fault ne 0) h
  still_deeper k n before (t ∷ rest) fault ne h = λ more. more_levels k n (before ++ t ∷ more) (Err (Refused fault (length (t ∷ more)))) (fault_is fault ne (length (t ∷ more))) (h more)

  shallower : (n m : ℕ) (before rest : List T) → n ≤ m → EndsNone (G m) before rest → EndsNone (G n) before rest
  shallower n m before [] le h = λ a l. let e : m - n + n ≡ m = omega arith in h a (subst (λ j. G j before a) e (deeper_text (m - n) n before a l))
  shallower n m before (t ∷ rest) le h = λ b. let e : m - n + n ≡ m = omega arith in h (record { more = b.more; value = b.value; reads = subst (λ j. G j ((before ++ t ∷ []) ++ b.more) b.value) e (deeper_text (m - n) n ((before ++ t ∷ []) ++ b.more) b.value b.reads) })

  never : (n : ℕ) (before rest : List T) (fault : F) → (fault ≡ deep → ⊥) → StillAt n before rest fault → (m : ℕ) → EndsNone (G m) before rest
  never n before rest fault ne h m = shallower m (m + n) before rest (omega arith) (no_text (G (m + n)) stop (p (m + n)) (good (m + n)) over before rest fault (still_deeper m n before rest fault ne h))

  -- ---- what is too deep goes on at one level more

  goes_on_by : (n : ℕ) (before : List T) (t : T) (post text short : List T) (a : A) → before ++ t ∷ post ≡ text ++ short → length short < length (t ∷ post) → (more : List T) → G (suc n) (text ++ more) a → Begins (G (suc n)) (before ++ t ∷ [])
  goes_on_by n before t post text short a cut lt more l =
      let z = front_goes_on before text short t post (sym cut) lt in
      record { more = z.0 ++ more; value = a; reads = subst (λ x. G (suc n) x a) (ap (λ x. x ++ more) z.1 ∙ append_assoc (before ++ t ∷ []) z.0 more) l }

  goes_on : (n : ℕ) (before : List T) (t : T) (post : List T) (x : Outcome T F A) → p (suc n) (before ++ t ∷ post) ≡ x → (m : ℕ) → m < length (t ∷ post) → Within m x → Begins (G (suc n)) (before ++ t ∷ [])
  goes_on n before t post (Ok y) e m lt w =
      let u = (good (suc n)).sound (before ++ t ∷ post) y.1 y.0 e in
      goes_on_by n before t post u.text y.1 y.0 u.cut (omega arith) [] (subst (λ x. G (suc n) x y.0) (sym (append-nil u.text)) u.reads)
  goes_on n before t post (Err NoMemory) e m lt w = absurd w
  goes_on n before t post (Err (Refused fault left)) e m lt w =
      let u = (good (suc n)).refuses (before ++ t ∷ post) (Refused fault left) e in
      let is = u.is in
      let same : left ≡ length u.rest = cc in
      ⊎_elim
      (λ none. let x = ap length u.cut in let y = ap length none in absurd (omega (arith, length-append u.before u.rest, length-append before (t ∷ post))))
      (λ v. goes_on_by n before t post u.before u.rest v.value u.cut (omega arith) v.more v.reads)
      u.viable

  deep_err : (x : Outcome T F A) (left : ℕ) → ended over x ≡ Err (Refused deep left) → x ≡ Err (Refused deep left)
  deep_err (Ok (a, [])) left h = absurd (cc)
  deep_err (Ok (a, t ∷ ts)) left h = absurd (other (cc))
  deep_err (Err d) left h = cc

  too_deep : (n : ℕ) (before rest : List T) → StillAt n before rest deep → GoesOn (G (suc n)) before rest
  too_deep n before [] h =
      let e = deep_err (p n (before ++ [])) 0 h in
      let d = (rel n).deeper (before ++ []) 0 e in
      absurd (omega (arith, d.1))
  too_deep n before (t ∷ post) h =
      let e = deep_err (p n (before ++ t ∷ post)) (length (t ∷ post)) (h post) in
      let d = (rel n).deeper (before ++ t ∷ post) (length (t ∷ post)) e in
      goes_on n before t post (p (suc n) (before ++ t ∷ post)) refl d.0 d.1 d.2

  pub refused : (n : ℕ) (ts : List T) (fault : F) (left : ℕ) → ended over (p n ts) ≡ Err (Refused fault left) → IsRefused G deep n ts fault left
  refused n ts fault left h =
      let x = read_refuses (G n) stop (p n) (good n) over (some n) ts (Refused fault left) h in
      let is = x.2 in
      let same : x.1 ≡ left = cc in
      let kind : x.0 ≡ fault = cc in
      let s = x.3 in
      let held : StillAt n s.before s.rest fault = subst (StillAt n s.before s.rest) kind s.still in
      record {
        before = s.before;
        rest = s.rest;
        cut = s.cut;
        place = sym same ∙ s.place;
        begins = s.begins;
        ends = no_text (G n) stop (p n) (good n) over s.before s.rest fault held;
        never = λ ne. never n s.before s.rest fault ne held;
        too_deep = λ is_deep. too_deep n s.before s.rest (subst (StillAt n s.before s.rest) is_deep held);
      }

-- What the texts of a phrase begin with, and gaps.
use Rattle.std.proofs.Common.{◌≡◌, Bool, true, false, List, [], ◌∷◌, ◌++◌, length, Err, ap, ◌∙◌, inl, inr, ⊎_elim, append_assoc}
use Rattle.phrases.specs.declared.refusal.ReadError.TheVariants.{Refused}
use Rattle.phrases.specs.Phrases.{Phrase, Both, nothing, none, token, ◌<|>◌, Repeated, done, more}
use Rattle.phrases.specs.Parsers.{Parser, next}
use Rattle.phrases.proofs.Good.{Fits}
use Rattle.phrases.proofs.Shapes.{begins_both}

-- each text begins with a token that passes
abbrev pub Starts : {T A : Type 0} → (T → Bool) → Phrase T A → Type 0
Starts {T = T} {A = A} sel L = (xs rest : List T) (a : A) → L xs a → next sel (xs ++ rest) ≡ true

-- no text begins with a token that passes; an empty one lets what follows stand first
abbrev pub Quiet : {T A : Type 0} → (T → Bool) → Phrase T A → Type 0
Quiet {T = T} {A = A} sel L = (xs rest : List T) (a : A) → L xs a → next sel rest ≡ false → next sel (xs ++ rest) ≡ false

pub starts_token : {T : Type 0} (test sel : T → Bool) → ((t : T) → test t ≡ true → sel t ≡ true) → Starts sel (token test)
starts_token test sel h xs rest t l = ap (λ z. next sel (z ++ rest)) l.0 ∙ h t l.1

pub starts_both : {T A B : Type 0} (sel : T → Bool) (L : Phrase T A) (M : A → Phrase T B) → Starts sel L → Starts sel (Both L M)
starts_both sel L M h zs rest b l = begins_both L M sel true h zs rest b l

pub starts_either : {T A : Type 0} (sel : T → Bool) (L M : Phrase T A) → Starts sel L → Starts sel M → Starts sel (L <|> M)
starts_either sel L M h g xs rest a l = ⊎_elim (h xs rest a) (g xs rest a) l

pub starts_none : {T A : Type 0} (sel : T → Bool) → Starts sel (none {T = T} {A = A})
starts_none sel xs rest a l = absurd l

pub starts_weaker : {T A : Type 0} (test sel : T → Bool) (L : Phrase T A) → ((t : T) → test t ≡ true → sel t ≡ true) → Starts test L → Starts sel L
starts_weaker {T = T} test sel L h g xs rest a l = by_first (xs ++ rest) (g xs rest a l)
  where
    by_first : (ts : List T) → next test ts ≡ true → next sel ts ≡ true
    by_first [] e = absurd (cc)
    by_first (t ∷ ts) e = h t e

-- no text, not even an empty one, lets a token that passes stand first
abbrev pub Avoids : {T A : Type 0} → (T → Bool) → Phrase T A → Type 0
Avoids {T = T} {A = A} sel L = (xs rest : List T) (a : A) → L xs a → next sel (xs ++ rest) ≡ false

pub avoids_starts : {T A : Type 0} (test sel : T → Bool) (L : Phrase T A) → ((t : T) → test t ≡ true → sel t ≡ false) → Starts test L → Avoids sel L
avoids_starts {T = T} test sel L h g xs rest a l = by_first (xs ++ rest) (g xs rest a l)
  where
    by_first : (ts : List T) → next test ts ≡ true → next sel ts ≡ false
    by_first [] e = absurd (cc)
    by_first (t ∷ ts) e = h t e

pub avoids_token : {T B : Type 0} (test sel : T → Bool) (M : T → Phrase T B) → ((t : T) → test t ≡ true → sel t ≡ false) → Avoids sel (Both (token test) M)
avoids_token test sel M h = avoids_starts test sel (Both (token test) M) h (starts_both test (token test) M (starts_token test test (λ t e. e)))

pub avoids_either : {T A : Type 0} (sel : T → Bool) (L M : Phrase T A) → Avoids sel L → Avoids sel M → Avoids sel (L <|> M)
avoids_either sel L M h g xs rest a l = ⊎_elim (h xs rest a) (g xs rest a) l

pub avoids_both : {T A B : Type 0} (sel : T → Bool) (L : Phrase T A) (M : A → Phrase T B) → Avoids sel L → Avoids sel (Both L M)
avoids_both sel L M h zs rest b l = begins_both L M sel false h zs rest b l

pub avoids_none : {T A : Type 0} (sel : T → Bool) → Avoids sel (none {T = T} {A = A})
avoids_none sel xs rest a l = absurd l

pub quiet_avoids : {T A : Type 0} (sel : T → Bool) (L : Phrase T A) → Avoids sel L → Quiet sel L
quiet_avoids sel L h xs rest a l e = h xs rest a l

pub quiet_starts : {T A : Type 0} (test sel : T → Bool) (L : Phrase T A) → ((t : T) → test t ≡ true → sel t ≡ false) → Starts test L → Quiet sel L
quiet_starts {T = T} test sel L h g xs rest a l e = by_first (xs ++ rest) (g xs rest a l)
  where
    by_first : (ts : List T) → next test ts ≡ true → next sel ts ≡ false
    by_first [] e = absurd (cc)
    by_first (t ∷ ts) e = h t e

pub quiet_token : {T B : Type 0} (test sel : T → Bool) (M : T → Phrase T B) → ((t : T) → test t ≡ true → sel t ≡ false) → Quiet sel (Both (token test) M)
quiet_token test sel M h = quiet_starts test sel (Both (token test) M) h (starts_both test (token test) M (starts_token test test (λ t e. e)))

pub quiet_nothing : {T A : Type 0} (sel : T → Bool) (a : A) → Quiet sel (nothing {T = T} a)
quiet_nothing sel a xs rest b l h = ap (λ x. next sel (x ++ rest)) l.0 ∙ h

pub quiet_both : {T A B : Type 0} (sel : T → Bool) (L : Phrase T A) (M : A → Phrase T B) → Quiet sel L → ((a : A) → Quiet sel (M a)) → Quiet sel (Both L M)
quiet_both sel L M h g zs rest b l e =
    ap (λ z. next sel (z ++ rest)) l.cut ∙ ap (λ z. next sel z) (append_assoc l.left l.right rest)
    ∙ h l.left (l.right ++ rest) l.between l.reads_left (g l.between l.right rest b l.reads_right e)

pub quiet_either : {T A : Type 0} (sel : T → Bool) (L M : Phrase T A) → Quiet sel L → Quiet sel M → Quiet sel (L <|> M)
quiet_either sel L M h g xs rest a l e = ⊎_elim (λ x. h xs rest a x e) (λ x. g xs rest a x e) l

pub quiet_none : {T A : Type 0} (sel : T → Bool) → Quiet sel (none {T = T} {A = A})
quiet_none sel xs rest a l e = absurd l

pub quiet_repeated : {T A : Type 0} (sel : T → Bool) (M : A → Phrase T A) → ((a : A) → Quiet sel (M a)) → (a : A) → Quiet sel (Repeated M a)
quiet_repeated sel M h a xs rest b (done _) e = e
quiet_repeated sel M h a xs rest b (more _ c _ us vs l m) e =
    ap (λ z. next sel z) (append_assoc us vs rest) ∙ h a us (vs ++ rest) c l (quiet_repeated sel M h c vs rest b m e)

-- a phrase, or a gap in its place, at which its parser refuses
pub fits_gap : {T F A : Type 0} (gap : T → Bool) (M : Phrase T A) (stop : T → Bool) (q : Parser T F A) (fault : F) (a : A) → Fits gap M stop q
    → ((t : T) (s : List T) → gap t ≡ true → q (t ∷ s) ≡ Err (Refused fault (length (t ∷ s))))
    → Fits gap (M <|> Both (token gap) (λ _. nothing a)) stop q
fits_gap gap M stop q fault a g shut = record {
  sound = λ ts rest b h. let t = g.sound ts rest b h in record { text = t.text; cut = t.cut; reads = inl t.reads; local = t.local };
  complete = λ xs rest b l h. ⊎_elim
      (λ x. g.complete xs rest b x h)
      (λ x. inr (record { before = []; mark = x.between; after = x.right; fault = fault; cut = x.cut ∙ ap (λ y. y ++ x.right) x.reads_left.0; is_gap = x.reads_left.1; refused = λ s. shut x.between s x.reads_left.1 }))
      l;
  refuses = λ ts e h.
      let r = g.refuses ts e h in
      record {
        before = r.before;
        rest = r.rest;
        fault = r.fault;
        is = r.is;
        cut = r.cut;
        viable = ⊎_elim (λ none. inl none) (λ v. inr (record { more = v.more; value = v.value; reads = inl v.reads })) r.viable;
        local = r.local;
      };
}

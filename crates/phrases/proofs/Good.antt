-- What a parser of a phrase keeps, and that each way to put parsers together keeps it.
use Rattle.std.proofs.lemmas.List.{append_cancel_right}
use Rattle.std.proofs.Common.{◌≡◌, Bool, true, false, cond, List, [], ◌∷◌, ◌++◌, length, Ok, Err, refl, ap, sym, ◌∙◌, ◌⊎◌, inl, inr, ⊎_elim, append_assoc}
use Rattle.phrases.specs.declared.refusal.ReadError.{ReadError}
use Rattle.phrases.specs.declared.refusal.ReadError.TheVariants.{Refused}
use Rattle.phrases.specs.Phrases.{Phrase, Both, nothing, none, token, ◌<|>◌}
use Rattle.phrases.specs.Parsers.{Outcome, Parser, and_then, ◌>>=◌, pure, refuse, head, passes, next, expect, either}
use Rattle.phrases.specs.Promise.{Begins}

-- ---- small steps

pub head-append : {T : Type 0} (xs r s : List T) → head r ≡ head s → head (xs ++ r) ≡ head (xs ++ s)
head-append [] r s h = h
head-append (t ∷ xs) r s h = refl

pub bool_cases : (b : Bool) → (b ≡ true) ⊎ (b ≡ false)
bool_cases true = inl refl
bool_cases false = inr refl

pub bind_ok : {T F A B : Type 0} (r : Outcome T F A) (f : A → Parser T F B) (b : B) (rest : List T) → and_then r f ≡ Ok (b, rest) → (a : A) × (mid : List T) × (r ≡ Ok (a, mid)) × (f a mid ≡ Ok (b, rest))
bind_ok (Ok p) f b rest h = (p.0, p.1, refl, h)
bind_ok (Err e) f b rest h = absurd (cc)

pub bind_err : {T F A B : Type 0} (r : Outcome T F A) (f : A → Parser T F B) (e : ReadError F) → and_then r f ≡ Err e → (r ≡ Err e) ⊎ ((a : A) × (mid : List T) × (r ≡ Ok (a, mid)) × (f a mid ≡ Err e))
bind_err (Ok p) f e h = inr (p.0, p.1, refl, h)
bind_err (Err d) f e h = inl (cc)

-- ---- what a parser keeps

pub record Takes {T F A : Type 0} (L : Phrase T A) (p : Parser T F A) (ts : List T) (a : A) (rest : List T) : Type 0 where
  pub text : List T
  pub cut : ts ≡ text ++ rest
  pub reads : L text a
  pub local : (s : List T) → head s ≡ head rest → p (text ++ s) ≡ Ok (a, s)

pub record Refuses {T F A : Type 0} (L : Phrase T A) (p : Parser T F A) (ts : List T) (e : ReadError F) : Type 0 where
  pub before : List T
  pub rest : List T
  pub fault : F
  pub is : e ≡ Refused fault (length rest)
  pub cut : ts ≡ before ++ rest
  pub viable : (before ≡ []) ⊎ Begins L before
  pub local : (s : List T) → head s ≡ head rest → p (before ++ s) ≡ Err (Refused fault (length s))

-- a gap in the text, at which the parser refuses however it goes on
pub record Gapped {T F A : Type 0} (gap : T → Bool) (p : Parser T F A) (xs : List T) : Type 0 where
  pub before : List T
  pub mark : T
  pub after : List T
  pub fault : F
  pub cut : xs ≡ before ++ mark ∷ after
  pub is_gap : gap mark ≡ true
  pub refused : (s : List T) → p (before ++ mark ∷ s) ≡ Err (Refused fault (length (mark ∷ s)))

-- A token of stop goes on with a phrase that could end before it. A gap stands in a phrase for what nothing but refused tokens could be.
pub record Fits {T F A : Type 0} (gap : T → Bool) (L : Phrase T A) (stop : T → Bool) (p : Parser T F A) : Type 0 where
  pub sound : (ts rest : List T) (a : A) → p ts ≡ Ok (a, rest) → Takes L p ts a rest
  pub complete : (xs rest : List T) (a : A) → L xs a → next stop rest ≡ false → (p (xs ++ rest) ≡ Ok (a, rest)) ⊎ Gapped gap p xs
  pub refuses : (ts : List T) (e : ReadError F) → p ts ≡ Err e → Refuses L p ts e

-- no token
abbrev pub free : {T : Type 0} → T → Bool
free t = false

-- without gaps
abbrev pub Good : {T F A : Type 0} → Phrase T A → (T → Bool) → Parser T F A → Type 0
Good L stop p = Fits free L stop p

pub completes : {T F A : Type 0} (L : Phrase T A) (stop : T → Bool) (p : Parser T F A) → Good L stop p → (xs rest : List T) (a : A) → L xs a → next stop rest ≡ false → p (xs ++ rest) ≡ Ok (a, rest)
completes L stop p g xs rest a l h = ⊎_elim (λ e. e) (λ gapped. let is = gapped.is_gap in absurd (cc)) (g.complete xs rest a l h)

-- a text of the phrase
pub record Some {T A : Type 0} (L : Phrase T A) : Type 0 where
  pub text : List T
  pub value : A
  pub reads : L text value

-- ---- nothing

pub ok_is : {T F A : Type 0} (a b : A) (ts rest : List T) → ◌≡◌ {A = Outcome T F A} (Ok (a, ts)) (Ok (b, rest)) → (a ≡ b) × (ts ≡ rest)
ok_is {T = T} {A = A} a b ts rest h = let e : ◌≡◌ {A = A × List T} (a, ts) (b, rest) = cc in (ap (λ (p : A × List T). p.0) e, ap (λ (p : A × List T). p.1) e)

pub good_pure : {T F A : Type 0} {gap : T → Bool} (a : A) (stop : T → Bool) → Fits {F = F} gap (nothing a) stop (pure a)
good_pure a stop = record {
  sound = λ ts rest b h. let e = ok_is a b ts rest h in record { text = []; cut = e.1; reads = (refl, e.0); local = λ s _. ap (λ x. Ok (x, s)) e.0 };
  complete = λ xs rest b l h. let e = l.0 in let f = l.1 in inl (rw (e, f) refl);
  refuses = λ ts e h. absurd (cc);
}

-- ---- one token

expect_took : {T F : Type 0} (fault : F) (test : T → Bool) (ts rest : List T) (t : T) → expect fault test ts ≡ Ok (t, rest) → (ts ≡ t ∷ rest) × (test t ≡ true)
unfolding expect
expect_took fault test [] rest t h = absurd (cc)
expect_took fault test (u ∷ us) rest t h = ⊎_elim
    (λ e. let is = ok_is u t us rest (rw e at h) in ((λ i. is.0 i ∷ is.1 i), ap test (sym is.0) ∙ e))
    (λ e. let bad = rw e at h in absurd (cc))
    (bool_cases (test u))

expect_takes : {T F : Type 0} (fault : F) (test : T → Bool) (s : List T) (t : T) → test t ≡ true → expect fault test (t ∷ s) ≡ Ok (t, s)
unfolding expect
expect_takes fault test s t h = rw h refl

expect_refuses : {T F : Type 0} (fault : F) (test : T → Bool) (s : List T) → next test s ≡ false → expect fault test s ≡ Err (Refused fault (length s))
unfolding expect
expect_refuses fault test [] h = refl
expect_refuses fault test (t ∷ s) h = rw h refl

expect_refused : {T F : Type 0} (fault : F) (test : T → Bool) (ts : List T) (e : ReadError F) → expect fault test ts ≡ Err e → (next test ts ≡ false) × (e ≡ Refused fault (length ts))
unfolding expect
expect_refused fault test [] e h = (refl, cc)
expect_refused fault test (u ∷ us) e h = ⊎_elim
    (λ y. let bad = rw y at h in absurd (cc))
    (λ y. let is = rw y at h in (y, cc))
    (bool_cases (test u))

pub good_expect : {T F : Type 0} {gap : T → Bool} (fault : F) (test stop : T → Bool) → Fits gap (token test) stop (expect fault test)
good_expect fault test stop = record {
  sound = λ ts rest t h. let e = expect_took fault test ts rest t h in record { text = t ∷ []; cut = e.0; reads = (refl, e.1); local = λ s _. expect_takes fault test s t e.1 };
  complete = λ xs rest t l h. let e = l.0 in inl (rw e (expect_takes fault test rest t l.1));
  refuses = λ ts e h. let r = expect_refused fault test ts e h in record {
    before = [];
    rest = ts;
    fault = fault;
    is = r.1;
    cut = refl;
    viable = inl refl;
    local = λ s same. expect_refuses fault test s (ap (passes test) same ∙ r.0);
  };
}

-- ---- one after the other

module _ {T F A B : Type 0} (L : Phrase T A) (M : A → Phrase T B) (p : Parser T F A) (q : A → Parser T F B) where
  then_ok : (ts mid rest : List T) (a : A) (b : B) → Takes L p ts a mid → Takes (M a) (q a) mid b rest → Takes (Both L M) (p >>= q) ts b rest
  then_ok ts mid rest a b t u = record {
    text = t.text ++ u.text;
    cut = t.cut ∙ ap (λ x. t.text ++ x) u.cut ∙ sym (append_assoc t.text u.text rest);
    reads = record { left = t.text; right = u.text; between = a; reads_left = t.reads; reads_right = u.reads; cut = refl };
    local = λ s same.
        let here : head (u.text ++ s) ≡ head mid = head-append u.text s rest same ∙ sym (ap head u.cut) in
        ap (λ x. and_then (p x) q) (append_assoc t.text u.text s) ∙ ap (λ r. and_then r q) (t.local (u.text ++ s) here) ∙ u.local s same;
  }

  first_refused : (ts : List T) (e : ReadError F) → ((a : A) → Some (M a)) → Refuses L p ts e → Refuses (Both L M) (p >>= q) ts e
  first_refused ts e some r = record {
    before = r.before;
    rest = r.rest;
    fault = r.fault;
    is = r.is;
    cut = r.cut;
    viable = ⊎_elim (λ none. inl none) (λ v. let m = some v.value in inr (record {
      more = v.more ++ m.text;
      value = m.value;
      reads = record { left = r.before ++ v.more; right = m.text; between = v.value; reads_left = v.reads; reads_right = m.reads; cut = sym (append_assoc r.before v.more m.text) };
    })) r.viable;
    local = λ s same. ap (λ x. and_then x q) (r.local s same);
  }

  then_refused : (ts mid : List T) (a : A) (e : ReadError F) → Some (M a) → Takes L p ts a mid → Refuses (M a) (q a) mid e → Refuses (Both L M) (p >>= q) ts e
  then_refused ts mid a e m t r = record {
    before = t.text ++ r.before;
    rest = r.rest;
    fault = r.fault;
    is = r.is;
    cut = t.cut ∙ ap (λ x. t.text ++ x) r.cut ∙ sym (append_assoc t.text r.before r.rest);
    viable = inr (⊎_elim
        (λ none. record { more = m.text; value = m.value; reads = record { left = t.text; right = m.text; between = a; reads_left = t.reads; reads_right = m.reads; cut = ap (λ x. (t.text ++ x) ++ m.text) none ∙ append_assoc t.text [] m.text } })
        (λ v. record { more = v.more; value = v.value; reads = record { left = t.text; right = r.before ++ v.more; between = a; reads_left = t.reads; reads_right = v.reads; cut = append_assoc t.text r.before v.more } })
        r.viable);
    local = λ s same.
        let here : head (r.before ++ s) ≡ head mid = head-append r.before s r.rest same ∙ sym (ap head r.cut) in
        ap (λ x. and_then (p x) q) (append_assoc t.text r.before s) ∙ ap (λ x. and_then x q) (t.local (r.before ++ s) here) ∙ r.local s same;
  }

  -- where the first stopped, the second is refused at its gap
  then_gapped : {gap : T → Bool} (xs ys rest : List T) (a : A) → p (xs ++ (ys ++ rest)) ≡ Ok (a, ys ++ rest) → Takes L p (xs ++ (ys ++ rest)) a (ys ++ rest) → Gapped gap (q a) ys → Gapped gap (p >>= q) (xs ++ ys)
  then_gapped xs ys rest a e t g = record {
    before = xs ++ g.before;
    mark = g.mark;
    after = g.after;
    fault = g.fault;
    cut = ap (λ z. xs ++ z) g.cut ∙ sym (append_assoc xs g.before (g.mark ∷ g.after));
    is_gap = g.is_gap;
    refused = λ s.
        let same : t.text ≡ xs = append_cancel_right t.text xs (ys ++ rest) (sym t.cut) in
        let here : head (g.before ++ g.mark ∷ s) ≡ head (ys ++ rest) = head-append g.before (g.mark ∷ s) (g.mark ∷ (g.after ++ rest)) refl ∙ ap head (sym (append_assoc g.before (g.mark ∷ g.after) rest) ∙ ap (λ z. z ++ rest) (sym g.cut)) in
        ap (λ x. and_then (p x) q) (append_assoc xs g.before (g.mark ∷ s)) ∙ ap (λ x. and_then (p (x ++ (g.before ++ g.mark ∷ s))) q) (sym same)
        ∙ ap (λ x. and_then x q) (t.local (g.before ++ g.mark ∷ s) here) ∙ g.refused s;
  }

  first_gapped : {gap : T → Bool} (xs ys : List T) → Gapped gap p xs → Gapped gap (p >>= q) (xs ++ ys)
  first_gapped xs ys g = record {
    before = g.before;
    mark = g.mark;
    after = g.after ++ ys;
    fault = g.fault;
    cut = ap (λ z. z ++ ys) g.cut ∙ append_assoc g.before (g.mark ∷ g.after) ys;
    is_gap = g.is_gap;
    refused = λ s. ap (λ x. and_then x q) (g.refused s);
  }

  same_gapped : {gap : T → Bool} (zs xs : List T) → zs ≡ xs → Gapped gap (p >>= q) xs → Gapped gap (p >>= q) zs
  same_gapped zs xs e g = record { before = g.before; mark = g.mark; after = g.after; fault = g.fault; cut = e ∙ g.cut; is_gap = g.is_gap; refused = g.refused }

  pub good_bind : {gap : T → Bool} (s1 s2 : T → Bool) → Fits gap L s1 p → ((a : A) → Fits gap (M a) s2 (q a))
      → ((a : A) (ys rest : List T) (b : B) → M a ys b → next s2 rest ≡ false → next s1 (ys ++ rest) ≡ false)
      → ((a : A) → Some (M a))
      → Fits gap (Both L M) s2 (p >>= q)
  good_bind s1 s2 gp gq goes some = record {
    sound = λ ts rest b h. let x = bind_ok (p ts) q b rest h in then_ok ts x.1 rest x.0 b (gp.sound ts x.1 x.0 x.2) ((gq x.0).sound x.1 rest b x.3);
    complete = λ zs rest b l h.
        let regroup = ap (λ x. and_then (p (x ++ rest)) q) l.cut ∙ ap (λ x. and_then (p x) q) (append_assoc l.left l.right rest) in
        ⊎_elim
        (λ e. ⊎_elim
        (λ f. inl (regroup ∙ ap (λ x. and_then x q) e ∙ f))
        (λ g. inr (same_gapped zs (l.left ++ l.right) l.cut (then_gapped l.left l.right rest l.between e (gp.sound (l.left ++ (l.right ++ rest)) (l.right ++ rest) l.between e) g)))
        ((gq l.between).complete l.right rest b l.reads_right h))
        (λ g. inr (same_gapped zs (l.left ++ l.right) l.cut (first_gapped l.left l.right g)))
        (gp.complete l.left (l.right ++ rest) l.between l.reads_left (goes l.between l.right rest b l.reads_right h));
    refuses = λ ts e h. ⊎_elim
        (λ x. first_refused ts e some (gp.refuses ts e x))
        (λ x. then_refused ts x.1 x.0 e (some x.0) (gp.sound ts x.1 x.0 x.2) ((gq x.0).refuses x.1 e x.3))
        (bind_err (p ts) q e h);
  }

-- ---- by the next token

pub cond_is : {X : Type 0} (b c : Bool) (x y : X) → b ≡ c → cond b x y ≡ cond c x y
cond_is b c x y e = ap (λ v. cond v x y) e

module _ {T F A : Type 0} (L M : Phrase T A) (p q : Parser T F A) (sel : T → Bool) where
  same_choice : (xs s rest ts : List T) (b : Bool) → ts ≡ xs ++ rest → head s ≡ head rest → next sel ts ≡ b → next sel (xs ++ s) ≡ b
  same_choice xs s rest ts b cut same e = ap (passes sel) (head-append xs s rest same ∙ sym (ap head cut)) ∙ e

  -- a choice that is the same before a gap
  chosen_gapped : {gap : T → Bool} (b : Bool) (r : Parser T F A) (xs rest : List T) → next sel (xs ++ rest) ≡ b → ((s : List T) → next sel s ≡ b → either sel p q s ≡ r s) → Gapped gap r xs → Gapped gap (either sel p q) xs
  chosen_gapped b r xs rest e chosen g = record {
    before = g.before;
    mark = g.mark;
    after = g.after;
    fault = g.fault;
    cut = g.cut;
    is_gap = g.is_gap;
    refused = λ s.
        let whole : xs ++ rest ≡ g.before ++ (g.mark ∷ (g.after ++ rest)) = ap (λ z. z ++ rest) g.cut ∙ append_assoc g.before (g.mark ∷ g.after) rest in
        chosen (g.before ++ g.mark ∷ s) (same_choice g.before (g.mark ∷ s) (g.mark ∷ (g.after ++ rest)) (xs ++ rest) b whole refl e) ∙ g.refused s;
  }

  pub good_either : {gap : T → Bool} (stop : T → Bool) → Fits gap L stop p → Fits gap M stop q
      → ((xs rest : List T) (a : A) → L xs a → next sel (xs ++ rest) ≡ true)
      → ((xs rest : List T) (a : A) → M xs a → next stop rest ≡ false → next sel (xs ++ rest) ≡ false)
      → Fits gap (L <|> M) stop (either sel p q)
  good_either stop gp gq begins others = record {
    sound = λ ts rest a h. ⊎_elim
        (λ e. let t = gp.sound ts rest a (sym (cond_is (next sel ts) true (p ts) (q ts) e) ∙ h) in
        record { text = t.text; cut = t.cut; reads = inl t.reads; local = λ s same. cond_is (next sel (t.text ++ s)) true (p (t.text ++ s)) (q (t.text ++ s)) (same_choice t.text s rest ts true t.cut same e) ∙ t.local s same })
        (λ e. let t = gq.sound ts rest a (sym (cond_is (next sel ts) false (p ts) (q ts) e) ∙ h) in
        record { text = t.text; cut = t.cut; reads = inr t.reads; local = λ s same. cond_is (next sel (t.text ++ s)) false (p (t.text ++ s)) (q (t.text ++ s)) (same_choice t.text s rest ts false t.cut same e) ∙ t.local s same })
        (bool_cases (next sel ts));
    complete = λ xs rest a l h. ⊎_elim
        (λ x. ⊎_elim
        (λ e. inl (cond_is (next sel (xs ++ rest)) true (p (xs ++ rest)) (q (xs ++ rest)) (begins xs rest a x) ∙ e))
        (λ g. inr (chosen_gapped true p xs rest (begins xs rest a x) (λ s e. cond_is (next sel s) true (p s) (q s) e) g))
        (gp.complete xs rest a x h))
        (λ x. ⊎_elim
        (λ e. inl (cond_is (next sel (xs ++ rest)) false (p (xs ++ rest)) (q (xs ++ rest)) (others xs rest a x h) ∙ e))
        (λ g. inr (chosen_gapped false q xs rest (others xs rest a x h) (λ s e. cond_is (next sel s) false (p s) (q s) e) g))
        (gq.complete xs rest a x h))
        l;
    refuses = λ ts d h. ⊎_elim
        (λ e. let t = gp.refuses ts d (sym (cond_is (next sel ts) true (p ts) (q ts) e) ∙ h) in
        record {
          before = t.before;
          rest = t.rest;
          fault = t.fault;
          is = t.is;
          cut = t.cut;
          viable = ⊎_elim (λ none. inl none) (λ v. inr (record { more = v.more; value = v.value; reads = inl v.reads })) t.viable;
          local = λ s same. cond_is (next sel (t.before ++ s)) true (p (t.before ++ s)) (q (t.before ++ s)) (same_choice t.before s t.rest ts true t.cut same e) ∙ t.local s same;
        })
        (λ e. let t = gq.refuses ts d (sym (cond_is (next sel ts) false (p ts) (q ts) e) ∙ h) in
        record {
          before = t.before;
          rest = t.rest;
          fault = t.fault;
          is = t.is;
          cut = t.cut;
          viable = ⊎_elim (λ none. inl none) (λ v. inr (record { more = v.more; value = v.value; reads = inr v.reads })) t.viable;
          local = λ s same. cond_is (next sel (t.before ++ s)) false (p (t.before ++ s)) (q (t.before ++ s)) (same_choice t.before s t.rest ts false t.cut same e) ∙ t.local s same;
        })
        (bool_cases (next sel ts));
  }

-- ---- what is refused at once, and more tokens that go on

pub good_refuse : {T F A : Type 0} {gap : T → Bool} (fault : F) (stop : T → Bool) → Fits gap (none {T = T} {A = A}) stop (refuse {T = T} {A = A} fault)
good_refuse fault stop = record {
  sound = λ ts rest a h. absurd (cc);
  complete = λ xs rest a l h. absurd l;
  refuses = λ ts e h. record { before = []; rest = ts; fault = fault; is = cc; cut = refl; viable = inl refl; local = λ s same. refl };
}

pub next-weaker : {T : Type 0} (stop all : T → Bool) → ((t : T) → all t ≡ false → stop t ≡ false) → (rest : List T) → next all rest ≡ false → next stop rest ≡ false
next-weaker stop all h [] e = refl
next-weaker stop all h (t ∷ rest) e = h t e

pub weaken : {T F A : Type 0} {gap : T → Bool} (L : Phrase T A) (p : Parser T F A) (stop all : T → Bool) → Fits gap L stop p → ((t : T) → all t ≡ false → stop t ≡ false) → Fits gap L all p
weaken L p stop all g h = record { sound = g.sound; complete = λ xs rest a l e. g.complete xs rest a l (next-weaker stop all h rest e); refuses = g.refuses }

-- ---- another phrase with the same texts

pub good_same : {T F A : Type 0} {gap : T → Bool} (L M : Phrase T A) (stop : T → Bool) (p : Parser T F A) → ((xs : List T) (a : A) → L xs a → M xs a) → ((xs : List T) (a : A) → M xs a → L xs a) → Fits gap L stop p → Fits gap M stop p
good_same L M stop p there back g = record {
  sound = λ ts rest a h. let t = g.sound ts rest a h in record { text = t.text; cut = t.cut; reads = there t.text a t.reads; local = t.local };
  complete = λ xs rest a l h. g.complete xs rest a (back xs a l) h;
  refuses = λ ts e h. let r = g.refuses ts e h in record {
    before = r.before;
    rest = r.rest;
    fault = r.fault;
    is = r.is;
    cut = r.cut;
    viable = ⊎_elim (λ none. inl none) (λ v. inr (record { more = v.more; value = v.value; reads = there (r.before ++ v.more) v.value v.reads })) r.viable;
    local = r.local;
  };
}

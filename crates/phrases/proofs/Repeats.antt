-- A repeated parser keeps what its turn keeps.
use Rattle.std.proofs.Common.{◌≡◌, ℕ, zero, suc, ◌≤◌, Bool, true, false, List, [], ◌∷◌, ◌++◌, length, Ok, Err, refl, ap, sym, ◌∙◌, subst, ◌⊎◌, inl, inr, ⊎_elim, append_assoc, length-append, arith}
use Rattle.std.proofs.lemmas.List.{append-nil, append_cancel_right}
use Rattle.phrases.specs.declared.refusal.ReadError.{ReadError}
use Rattle.phrases.specs.declared.refusal.ReadError.TheVariants.{Refused}
use Rattle.phrases.specs.Phrases.{Phrase, Repeated, done, more}
use Rattle.phrases.specs.Parsers.{Outcome, Parser, and_then, head, passes, next, turns, repeat}
use Rattle.phrases.specs.Promise.{Begins}
use Rattle.phrases.proofs.Good.{Fits, Gapped, free, Takes, Refuses, head-append, bool_cases, bind_ok, bind_err, ok_is, cond_is, next-weaker}

-- what a turn keeps, and that the sorts of token tell whether another comes
pub record Turns {T F A : Type 0} (gap : T → Bool) (M : A → Phrase T A) (stop sel : T → Bool) (turn : A → Parser T F A) : Type 0 where
  pub good : (a : A) → Fits gap (M a) stop (turn a)
  pub begins : (a : A) (xs rest : List T) (b : A) → M a xs b → next sel (xs ++ rest) ≡ true
  pub apart : (t : T) → sel t ≡ true → stop t ≡ false

abbrev pub Turn : {T F A : Type 0} → (A → Phrase T A) → (T → Bool) → (T → Bool) → (A → Parser T F A) → Type 0
Turn M stop sel turn = Turns free M stop sel turn

pub next-apart : {T : Type 0} (stop sel : T → Bool) → ((t : T) → sel t ≡ true → stop t ≡ false) → (ts : List T) → next sel ts ≡ true → next stop ts ≡ false
next-apart stop sel h [] e = absurd (cc)
next-apart stop sel h (t ∷ ts) e = h t e

module _ {T F A : Type 0} {gap : T → Bool} (M : A → Phrase T A) (stop sel : T → Bool) (turn : A → Parser T F A) (t : Turns gap M stop sel turn) where
  moves : (a b : A) (xs : List T) → M a xs b → 1 ≤ length xs
  moves a b [] l = let y = t.begins a [] [] b l in absurd (cc)
  moves a b (x ∷ xs) l = omega arith

  turns_stop : (n : ℕ) (a : A) (ts : List T) → next sel ts ≡ false → turns sel turn n a ts ≡ Ok (a, ts)
  unfolding turns
  turns_stop zero a ts h = refl
  turns_stop (suc n) a ts h = cond_is (next sel ts) false (and_then (turn a ts) (turns sel turn n)) (Ok (a, ts)) h

  turns_go : (n : ℕ) (a : A) (ts : List T) → next sel ts ≡ true → turns sel turn (suc n) a ts ≡ and_then (turn a ts) (turns sel turn n)
  unfolding turns
  turns_go n a ts h = cond_is (next sel ts) true (and_then (turn a ts) (turns sel turn n)) (Ok (a, ts)) h

  turns_zero : (a : A) (ts : List T) → turns sel turn zero a ts ≡ Ok (a, ts)
  unfolding turns
  turns_zero a ts = refl

  -- a turn, and then the others
  turns_went : (m : ℕ) (a b : A) (xs mid : List T) → M a xs b → length (xs ++ mid) ≤ m → turn a (xs ++ mid) ≡ Ok (b, mid)
      → (n : ℕ) × (length mid ≤ n) × (turns sel turn m a (xs ++ mid) ≡ turns sel turn n b mid)
  turns_went zero a b xs mid l h e = absurd (omega (arith, length-append xs mid, moves a b xs l))
  turns_went (suc n) a b xs mid l h e = (n, omega (arith, length-append xs mid, moves a b xs l), turns_go n a (xs ++ mid) (t.begins a xs mid b l) ∙ ap (λ r. and_then r (turns sel turn n)) e)

  record Took (a : A) (ts : List T) (b : A) (rest : List T) : Type 0 where
    text : List T
    cut : ts ≡ text ++ rest
    reads : Repeated M a text b
    local : (m : ℕ) (s : List T) → length (text ++ s) ≤ m → head s ≡ head rest → turns sel turn m a (text ++ s) ≡ Ok (b, s)

  record Refused_at (a : A) (ts : List T) (e : ReadError F) : Type 0 where
    before : List T
    rest : List T
    fault : F
    is : e ≡ Refused fault (length rest)
    cut : ts ≡ before ++ rest
    viable : (before ≡ []) ⊎ Begins (Repeated M a) before
    local : (m : ℕ) (s : List T) → length (before ++ s) ≤ m → head s ≡ head rest → turns sel turn m a (before ++ s) ≡ Err (Refused fault (length s))

  none_left : (ts : List T) → length ts ≤ 0 → ts ≡ []
  none_left [] h = refl
  none_left (x ∷ ts) h = absurd (omega arith)

  took_none : (a b : A) (ts rest : List T) → next sel ts ≡ false → ◌≡◌ {A = Outcome T F A} (Ok (a, ts)) (Ok (b, rest)) → Took a ts b rest
  took_none a b ts rest h e =
      let is = ok_is a b ts rest e in
      record {
        text = [];
        cut = is.1;
        reads = subst (λ c. Repeated M a [] c) is.0 (done a);
        local = λ m s room same. turns_stop m a s (ap (passes sel) (same ∙ sym (ap head is.1)) ∙ h) ∙ ap (λ c. Ok (c, s)) is.0;
      }

  took_more : (a c b : A) (ts mid rest : List T) → Takes (M a) (turn a) ts c mid → Took c mid b rest → Took a ts b rest
  took_more a c b ts mid rest u v = record {
    text = u.text ++ v.text;
    cut = u.cut ∙ ap (λ x. u.text ++ x) v.cut ∙ sym (append_assoc u.text v.text rest);
    reads = more a c b u.text v.text u.reads v.reads;
    local = λ m s room same.
        let here : head (v.text ++ s) ≡ head mid = head-append v.text s rest same ∙ sym (ap head v.cut) in
        let regroup = append_assoc u.text v.text s in
        let room' : length (u.text ++ (v.text ++ s)) ≤ m = omega (arith, ap length regroup) in
        let w = turns_went m a c u.text (v.text ++ s) u.reads room' (u.local (v.text ++ s) here) in
        ap (turns sel turn m a) regroup ∙ w.2 ∙ v.local w.0 s w.1 same;
  }

  turns_sound : (n : ℕ) (a b : A) (ts rest : List T) → length ts ≤ n → turns sel turn n a ts ≡ Ok (b, rest) → Took a ts b rest
  turns_sound zero a b ts rest room h =
      took_none a b ts rest (ap (λ x. next sel x) (none_left ts room)) (sym (turns_zero a ts) ∙ h)
  turns_sound (suc n) a b ts rest room h = ⊎_elim
      (λ y.
      let x = bind_ok (turn a ts) (turns sel turn n) b rest (sym (turns_go n a ts y) ∙ h) in
      let u = (t.good a).sound ts x.1 x.0 x.2 in
      let shorter : length x.1 ≤ n = omega (arith, ap length u.cut, length-append u.text x.1, moves a x.0 u.text u.reads) in
      took_more a x.0 b ts x.1 rest u (turns_sound n x.0 b x.1 rest shorter x.3))
      (λ y. took_none a b ts rest y (sym (turns_stop (suc n) a ts y) ∙ h))
      (bool_cases (next sel ts))

  refused_first : (a : A) (ts : List T) (e : ReadError F) → next sel ts ≡ true → Refuses (M a) (turn a) ts e → Refused_at a ts e
  refused_first a ts e y r = record {
    before = r.before;
    rest = r.rest;
    fault = r.fault;
    is = r.is;
    cut = r.cut;
    viable = ⊎_elim (λ none. inl none) (λ v. inr (record { more = v.more ++ []; value = v.value; reads = subst (λ x. Repeated M a x v.value) (append_assoc r.before v.more []) (more a v.value v.value (r.before ++ v.more) [] v.reads (done v.value)) })) r.viable;
    local = λ m s room same. refused_local m a r.before s r.fault (ap (passes sel) (head-append r.before s r.rest same ∙ sym (ap head r.cut)) ∙ y) room (r.local s same);
  } where
    refused_local : (m : ℕ) (a : A) (xs s : List T) (fault : F) → next sel (xs ++ s) ≡ true → length (xs ++ s) ≤ m → turn a (xs ++ s) ≡ Err (Refused fault (length s)) → turns sel turn m a (xs ++ s) ≡ Err (Refused fault (length s))
    refused_local zero a xs s fault y room e = let n = ap (λ x. next sel x) (none_left (xs ++ s) room) in absurd (cc)
    refused_local (suc n) a xs s fault y room e = turns_go n a (xs ++ s) y ∙ ap (λ r. and_then r (turns sel turn n)) e

  refused_later : (a c : A) (ts mid : List T) (e : ReadError F) → Takes (M a) (turn a) ts c mid → Refused_at c mid e → Refused_at a ts e
  refused_later a c ts mid e u r = record {
    before = u.text ++ r.before;
    rest = r.rest;
    fault = r.fault;
    is = r.is;
    cut = u.cut ∙ ap (λ x. u.text ++ x) r.cut ∙ sym (append_assoc u.text r.before r.rest);
    viable = inr (⊎_elim
        (λ none. record { more = []; value = c; reads = subst (λ x. Repeated M a x c) (ap (λ x. u.text ++ x) (sym none) ∙ sym (append-nil (u.text ++ r.before))) (more a c c u.text [] u.reads (done c)) })
        (λ v. record { more = v.more; value = v.value; reads = subst (λ x. Repeated M a x v.value) (sym (append_assoc u.text r.before v.more)) (more a c v.value u.text (r.before ++ v.more) u.reads v.reads) })
        r.viable);
    local = λ m s room same.
        let here : head (r.before ++ s) ≡ head mid = head-append r.before s r.rest same ∙ sym (ap head r.cut) in
        let regroup = append_assoc u.text r.before s in
        let room' : length (u.text ++ (r.before ++ s)) ≤ m = omega (arith, ap length regroup) in
        let w = turns_went m a c u.text (r.before ++ s) u.reads room' (u.local (r.before ++ s) here) in
        ap (turns sel turn m a) regroup ∙ w.2 ∙ r.local w.0 s w.1 same;
  }

  turns_refuses : (n : ℕ) (a : A) (ts : List T) (e : ReadError F) → length ts ≤ n → turns sel turn n a ts ≡ Err e → Refused_at a ts e
  turns_refuses zero a ts e room h = let y = sym (turns_zero a ts) ∙ h in absurd (cc)
  turns_refuses (suc n) a ts e room h = ⊎_elim
      (λ y. ⊎_elim
      (λ x. refused_first a ts e y ((t.good a).refuses ts e x))
      (λ x.
      let u = (t.good a).sound ts x.1 x.0 x.2 in
      let shorter : length x.1 ≤ n = omega (arith, ap length u.cut, length-append u.text x.1, moves a x.0 u.text u.reads) in
      refused_later a x.0 ts x.1 e u (turns_refuses n x.0 x.1 e shorter x.3))
      (bind_err (turn a ts) (turns sel turn n) e (sym (turns_go n a ts y) ∙ h)))
      (λ y. let z = sym (turns_stop (suc n) a ts y) ∙ h in absurd (cc))
      (bool_cases (next sel ts))

  pub repeated_first : (a c : A) (ys rest : List T) → Repeated M a ys c → (head (ys ++ rest) ≡ head rest) ⊎ (next sel (ys ++ rest) ≡ true)
  repeated_first a c ys rest (done _) = inl refl
  repeated_first a c ys rest (more _ b _ us vs l m) = inr (ap (λ x. next sel x) (append_assoc us vs rest) ∙ t.begins a us (vs ++ rest) b l)

  -- a gap of the turns, whatever the count of turns that is enough
  record Gap_in (a : A) (xs : List T) : Type 0 where
    before : List T
    mark : T
    after : List T
    fault : F
    cut : xs ≡ before ++ mark ∷ after
    is_gap : gap mark ≡ true
    refused : (n : ℕ) (s : List T) → length (before ++ mark ∷ s) ≤ n → turns sel turn n a (before ++ mark ∷ s) ≡ Err (Refused fault (length (mark ∷ s)))

  gap_first : (a b : A) (us vs rest : List T) → next sel (us ++ (vs ++ rest)) ≡ true → Gapped gap (turn a) us → Gap_in a (us ++ vs)
  gap_first a b us vs rest y g = record {
    before = g.before;
    mark = g.mark;
    after = g.after ++ vs;
    fault = g.fault;
    cut = ap (λ z. z ++ vs) g.cut ∙ append_assoc g.before (g.mark ∷ g.after) vs;
    is_gap = g.is_gap;
    refused = λ n s room. refused_here n a g.before g.mark s g.fault
        (ap (passes sel) (head-append g.before (g.mark ∷ s) (g.mark ∷ (g.after ++ (vs ++ rest))) refl ∙ ap head (sym (append_assoc g.before (g.mark ∷ g.after) (vs ++ rest)) ∙ ap (λ z. z ++ (vs ++ rest)) (sym g.cut))) ∙ y)
        room (g.refused s);
  } where
    refused_here : (n : ℕ) (a : A) (xs : List T) (x : T) (s : List T) (fault : F) → next sel (xs ++ x ∷ s) ≡ true → length (xs ++ x ∷ s) ≤ n → turn a (xs ++ x ∷ s) ≡ Err (Refused fault (length (x ∷ s))) → turns sel turn n a (xs ++ x ∷ s) ≡ Err (Refused fault (length (x ∷ s)))
    refused_here zero a xs x s fault y room e = absurd (omega (arith, length-append xs (x ∷ s)))
    refused_here (suc n) a xs x s fault y room e = turns_go n a (xs ++ x ∷ s) y ∙ ap (λ r. and_then r (turns sel turn n)) e

  gap_later : (a c : A) (us vs rest : List T) → M a us c → turn a (us ++ (vs ++ rest)) ≡ Ok (c, vs ++ rest) → Takes (M a) (turn a) (us ++ (vs ++ rest)) c (vs ++ rest) → Gap_in c vs → Gap_in a (us ++ vs)
  gap_later a c us vs rest l e t' g = record {
    before = us ++ g.before;
    mark = g.mark;
    after = g.after;
    fault = g.fault;
    cut = ap (λ z. us ++ z) g.cut ∙ sym (append_assoc us g.before (g.mark ∷ g.after));
    is_gap = g.is_gap;
    refused = λ n s room.
        let same : t'.text ≡ us = append_cancel_right t'.text us (vs ++ rest) (sym t'.cut) in
        let here : head (g.before ++ g.mark ∷ s) ≡ head (vs ++ rest) = head-append g.before (g.mark ∷ s) (g.mark ∷ (g.after ++ rest)) refl ∙ ap head (sym (append_assoc g.before (g.mark ∷ g.after) rest) ∙ ap (λ z. z ++ rest) (sym g.cut)) in
        let regroup = append_assoc us g.before (g.mark ∷ s) in
        let room' : length (us ++ (g.before ++ g.mark ∷ s)) ≤ n = omega (arith, ap length regroup) in
        let w = turns_went n a c us (g.before ++ g.mark ∷ s) l room' (ap (λ x. turn a (x ++ (g.before ++ g.mark ∷ s))) (sym same) ∙ t'.local (g.before ++ g.mark ∷ s) here) in
        ap (turns sel turn n a) regroup ∙ w.2 ∙ g.refused w.0 s w.1;
  }

  turns_complete : (n : ℕ) (a b : A) (xs rest : List T) → Repeated M a xs b → length (xs ++ rest) ≤ n → next sel rest ≡ false → next stop rest ≡ false → (turns sel turn n a (xs ++ rest) ≡ Ok (b, rest)) ⊎ Gap_in a xs
  turns_complete n a b xs rest (done _) room h g = inl (turns_stop n a rest h)
  turns_complete n a b xs rest (more _ c _ us vs l m) room h g =
      let regroup = append_assoc us vs rest in
      let room' : length (us ++ (vs ++ rest)) ≤ n = omega (arith, ap length regroup) in
      let ends : next stop (vs ++ rest) ≡ false = ⊎_elim (λ e. ap (passes stop) e ∙ g) (λ e. next-apart stop sel t.apart (vs ++ rest) e) (repeated_first c b vs rest m) in
      ⊎_elim
      (λ e.
      let w = turns_went n a c us (vs ++ rest) l room' e in
      ⊎_elim
      (λ f. inl (ap (turns sel turn n a) regroup ∙ w.2 ∙ f))
      (λ k. inr (gap_later a c us vs rest l e ((t.good a).sound (us ++ (vs ++ rest)) (vs ++ rest) c e) k))
      (turns_complete w.0 c b vs rest m w.1 h g))
      (λ k. inr (gap_first a c us vs rest (t.begins a us (vs ++ rest) c l) k))
      ((t.good a).complete us (vs ++ rest) c l ends)

  gapped_in : (a : A) (xs : List T) → Gap_in a xs → Gapped gap (repeat sel turn a) xs
  gapped_in a xs g = record { before = g.before; mark = g.mark; after = g.after; fault = g.fault; cut = g.cut; is_gap = g.is_gap; refused = λ s. g.refused (length (g.before ++ g.mark ∷ s)) s (omega arith) }

  -- a token that neither begins a turn nor goes on with one
  pub good_repeat : (all : T → Bool) → ((x : T) → all x ≡ false → sel x ≡ false) → ((x : T) → all x ≡ false → stop x ≡ false) → (a : A) → Fits gap (Repeated M a) all (repeat sel turn a)
  good_repeat all not_sel not_stop a = record {
    sound = λ ts rest b h.
        let u = turns_sound (length ts) a b ts rest (omega arith) h in
        record { text = u.text; cut = u.cut; reads = u.reads; local = λ s same. u.local (length (u.text ++ s)) s (omega arith) same };
    complete = λ xs rest b l h. ⊎_elim (λ e. inl e) (λ g. inr (gapped_in a xs g)) (turns_complete (length (xs ++ rest)) a b xs rest l (omega arith) (next-weaker sel all not_sel rest h) (next-weaker stop all not_stop rest h));
    refuses = λ ts e h.
        let r = turns_refuses (length ts) a ts e (omega arith) h in
        record { before = r.before; rest = r.rest; fault = r.fault; is = r.is; cut = r.cut; viable = r.viable; local = λ s same. r.local (length (r.before ++ s)) s (omega arith) same };
  }

-- More levels change nothing but what was too deep.
use Rattle.std.proofs.Common.{◌≡◌, ℕ, zero, suc, ◌≤◌, ◌<◌, Bool, true, false, cond, List, [], ◌∷◌, length, Ok, Err, refl, ap, sym, ◌∙◌, subst, ◌⊎◌, inl, inr, ⊎_elim, arith, length-append}
use Rattle.phrases.specs.declared.refusal.ReadError.TheVariants.{NoMemory, Refused}
use Rattle.phrases.specs.Phrases.{Phrase}
use Rattle.phrases.specs.Parsers.{Outcome, Parser, and_then, ◌>>=◌, pure, refuse, next, expect, either, turns, repeat}
use Rattle.phrases.proofs.Good.{Fits, cond_is, bind_err, bool_cases}

abbrev pub IsTooDeep : {T F A : Type 0} → F → Outcome T F A → Type 0
IsTooDeep deep x = (left : ℕ) × (x ≡ Err (Refused deep left))

abbrev pub Below : {T F A : Type 0} → F → Parser T F A → Parser T F A → Type 0
Below {T = T} deep p q = (ts : List T) → (p ts ≡ q ts) ⊎ IsTooDeep deep (p ts)

below_same : {T F A : Type 0} (deep : F) (p : Parser T F A) → Below deep p p
below_same deep p ts = inl refl

below_too_deep : {T F A : Type 0} (deep : F) (q : Parser T F A) → Below deep (refuse deep) q
below_too_deep deep q ts = inr (length ts, refl)

below_step : {T F A B : Type 0} (deep : F) (x : Outcome T F A) (q s : A → Parser T F B) → ((a : A) → Below deep (q a) (s a)) → (and_then x q ≡ and_then x s) ⊎ IsTooDeep deep (and_then x q)
below_step deep (Ok p) q s h = h p.0 p.1
below_step deep (Err e) q s h = inl refl

below_bind : {T F A B : Type 0} (deep : F) (p p' : Parser T F A) (q q' : A → Parser T F B) → Below deep p p' → ((a : A) → Below deep (q a) (q' a)) → Below deep (p >>= q) (p' >>= q')
below_bind deep p p' q q' h g ts = ⊎_elim
    (λ e. ⊎_elim (λ f. inl (f ∙ ap (λ x. and_then x q') e)) (λ f. inr f) (below_step deep (p ts) q q' g))
    (λ e. inr (e.0, ap (λ x. and_then x q) e.1))
    (h ts)

below_either : {T F A : Type 0} (deep : F) (sel : T → Bool) (p p' q q' : Parser T F A) → Below deep p p' → Below deep q q' → Below deep (either sel p q) (either sel p' q')
below_either {T = T} {F = F} {A = A} deep sel p p' q q' h g ts = by_test (next sel ts) (p ts) (p' ts) (q ts) (q' ts) (h ts) (g ts)
  where
    by_test : (b : Bool) (x x' y y' : Outcome T F A) → (x ≡ x') ⊎ IsTooDeep deep x → (y ≡ y') ⊎ IsTooDeep deep y → (cond b x y ≡ cond b x' y') ⊎ IsTooDeep deep (cond b x y)
    by_test true x x' y y' h g = h
    by_test false x x' y y' h g = g

-- ---- what was too deep is read with one more level

-- at most n tokens are left, from the refused one on if one is
abbrev pub Within : {T F A : Type 0} → ℕ → Outcome T F A → Type 0
Within n (Ok p) = length p.1 ≤ n
Within n (Err NoMemory) = ⊥
Within n (Err (Refused fault left)) = left ≤ n

abbrev pub Passes : {T F A : Type 0} → ℕ → Outcome T F A → Type 0
Passes left x = (n : ℕ) × (n < left) × Within n x

within_more : {T F A : Type 0} (x : Outcome T F A) (m n : ℕ) → m ≤ n → Within m x → Within n x
within_more (Ok p) m n le h = omega arith
within_more (Err NoMemory) m n le h = h
within_more (Err (Refused fault left)) m n le h = omega arith

pub within_step : {T F A B : Type 0} (x : Outcome T F A) (q : A → Parser T F B) (n : ℕ) → Within n x → ((a : A) (ts : List T) → Within (length ts) (q a ts)) → Within n (and_then x q)
within_step (Ok p) q n h g = within_more (q p.0 p.1) (length p.1) n h (g p.0 p.1)
within_step (Err NoMemory) q n h g = h
within_step (Err (Refused fault left)) q n h g = h

-- the second parser has one more level than the first
pub record Rel {T F A : Type 0} (deep : F) (p q : Parser T F A) : Type 0 where
  pub below : Below deep p q
  pub deeper : (ts : List T) (left : ℕ) → p ts ≡ Err (Refused deep left) → Passes left (q ts)
  pub shrinks : (ts : List T) → Within (length ts) (q ts)

pub rel_pure : {T F A : Type 0} (deep : F) (a : A) → Rel {T = T} deep (pure a) (pure a)
rel_pure {T = T} deep a = record { below = below_same {T = T} deep (pure a); deeper = λ ts left h. absurd (cc); shrinks = λ ts. omega arith }

pub rel_refuse : {T F A : Type 0} (deep fault : F) → (fault ≡ deep → ⊥) → Rel {T = T} {A = A} deep (refuse fault) (refuse fault)
rel_refuse {T = T} {F = F} {A = A} deep fault other = record { below = below_same {T = T} deep (refuse {A = A} fault); deeper = λ ts left h. absurd (other (cc)); shrinks = λ ts. omega arith }

pub expect_within : {T F : Type 0} (fault : F) (test : T → Bool) (ts : List T) → Within (length ts) (expect fault test ts)
unfolding expect
expect_within fault test [] = omega arith
expect_within {T = T} {F = F} fault test (t ∷ ts) = by_test (test t)
  where
    by_test : (b : Bool) → Within (length (t ∷ ts)) (let x : Outcome T F T = cond b (Ok (t, ts)) (Err (Refused fault (length (t ∷ ts)))) in x)
    by_test true = omega arith
    by_test false = omega arith

expect_not_deep : {T F : Type 0} (deep fault : F) → (fault ≡ deep → ⊥) → (test : T → Bool) (ts : List T) (left : ℕ) → expect fault test ts ≡ Err (Refused deep left) → ⊥
unfolding expect
expect_not_deep deep fault other test [] left h = other (cc)
expect_not_deep {T = T} {F = F} deep fault other test (t ∷ ts) left h = by_test (test t) h
  where
    by_test : (b : Bool) → ◌≡◌ {A = Outcome T F T} (cond b (Ok (t, ts)) (Err (Refused fault (length (t ∷ ts))))) (Err (Refused deep left)) → ⊥
    by_test true h = cc
    by_test false h = other (cc)

pub rel_expect : {T F : Type 0} (deep fault : F) → (fault ≡ deep → ⊥) → (test : T → Bool) → Rel deep (expect fault test) (expect fault test)
rel_expect deep fault other test = record { below = below_same deep (expect fault test); deeper = λ ts left h. absurd (expect_not_deep deep fault other test ts left h); shrinks = expect_within fault test }

pub rel_bind : {T F A B : Type 0} (deep : F) (p p' : Parser T F A) (q q' : A → Parser T F B) → Rel deep p p' → ((a : A) → Rel deep (q a) (q' a)) → Rel deep (p >>= q) (p' >>= q')
rel_bind deep p p' q q' h g = record {
  below = below_bind deep p p' q q' h.below (λ a. (g a).below);
  deeper = λ ts left e. ⊎_elim
      (λ x. let d = h.deeper ts left x in (d.0, d.1, within_step (p' ts) q' d.0 d.2 (λ a. (g a).shrinks)))
      (λ x. ⊎_elim
      (λ same.
      let d = (g x.0).deeper x.1 left x.3 in
      let went : and_then (p' ts) q' ≡ q' x.0 x.1 = ap (λ y. and_then y q') (sym same ∙ x.2) in
      (d.0, d.1, subst (λ y. Within d.0 y) (sym went) d.2))
      (λ too_deep. let y = x.2 in let z = too_deep.1 in absurd (cc))
      (h.below ts))
      (bind_err (p ts) q (Refused deep left) e);
  shrinks = λ ts. within_step (p' ts) q' (length ts) (h.shrinks ts) (λ a. (g a).shrinks);
}

passes_test : {T F A : Type 0} (deep : F) (b : Bool) (left : ℕ) (x x' y y' : Outcome T F A) → (x ≡ Err (Refused deep left) → Passes left x') → (y ≡ Err (Refused deep left) → Passes left y') → cond b x y ≡ Err (Refused deep left) → Passes left (cond b x' y')
passes_test deep true left x x' y y' h g e = h e
passes_test deep false left x x' y y' h g e = g e

within_test : {T F A : Type 0} (b : Bool) (n : ℕ) (x y : Outcome T F A) → Within n x → Within n y → Within n (cond b x y)
within_test true n x y h g = h
within_test false n x y h g = g

pub rel_either : {T F A : Type 0} (deep : F) (sel : T → Bool) (p p' q q' : Parser T F A) → Rel deep p p' → Rel deep q q' → Rel deep (either sel p q) (either sel p' q')
rel_either deep sel p p' q q' h g = record {
  below = below_either deep sel p p' q q' h.below g.below;
  deeper = λ ts left. passes_test deep (next sel ts) left (p ts) (p' ts) (q ts) (q' ts) (h.deeper ts left) (g.deeper ts left);
  shrinks = λ ts. within_test (next sel ts) (length ts) (p' ts) (q' ts) (h.shrinks ts) (g.shrinks ts);
}

-- a token that opens a level
opening : {T F A : Type 0} (fault : F) (test : T → Bool) (q : T → Parser T F A) → ((t : T) (ts : List T) → Within (length ts) (q t ts)) → (ts : List T) → next test ts ≡ true → Passes (length ts) ((expect fault test >>= q) ts)
unfolding expect
opening fault test q h [] e = absurd (cc)
opening fault test q h (t ∷ ts) e = (length ts, omega arith, rw e (h t ts))

pub rel_opening : {T F A : Type 0} (deep fault : F) (test : T → Bool) (q : T → Parser T F A) (s s' : Parser T F A) → ((t : T) (ts : List T) → Within (length ts) (q t ts)) → Rel deep s s' → Rel deep (either test (refuse deep) s) (either test (expect fault test >>= q) s')
rel_opening {T = T} {F = F} {A = A} deep fault test q s s' h g = record {
  below = below_either deep test (refuse deep) (expect fault test >>= q) s s' (below_too_deep deep (expect fault test >>= q)) g.below;
  deeper = λ ts left e. ⊎_elim
      (λ y.
      let z : ◌≡◌ {A = Outcome T F A} (Err (Refused deep (length ts))) (Err (Refused deep left)) = sym (cond_is (next test ts) true (refuse deep ts) (s ts) y) ∙ e in
      let same : length ts ≡ left = cc in
      subst (λ x. Passes left x) (sym (cond_is (next test ts) true ((expect fault test >>= q) ts) (s' ts) y)) (subst (λ l. Passes l ((expect fault test >>= q) ts)) same (opening fault test q h ts y)))
      (λ y. subst (λ x. Passes left x) (sym (cond_is (next test ts) false ((expect fault test >>= q) ts) (s' ts) y)) (g.deeper ts left (sym (cond_is (next test ts) false (refuse deep ts) (s ts) y) ∙ e)))
      (bool_cases (next test ts));
  shrinks = λ ts. within_test (next test ts) (length ts) ((expect fault test >>= q) ts) (s' ts) (within_step (expect fault test ts) q (length ts) (expect_within fault test ts) h) (g.shrinks ts);
}

rel_turns : {T F A : Type 0} (deep : F) (sel : T → Bool) (turn turn' : A → Parser T F A) → ((a : A) → Rel deep (turn a) (turn' a)) → (n : ℕ) (a : A) → Rel deep (turns sel turn n a) (turns sel turn' n a)
unfolding turns
rel_turns deep sel turn turn' h zero a = rel_pure deep a
rel_turns deep sel turn turn' h (suc n) a =
    rel_either deep sel (turn a >>= turns sel turn n) (turn' a >>= turns sel turn' n) (pure a) (pure a)
    (rel_bind deep (turn a) (turn' a) (turns sel turn n) (turns sel turn' n) (h a) (rel_turns deep sel turn turn' h n)) (rel_pure deep a)

pub rel_repeat : {T F A : Type 0} (deep : F) (sel : T → Bool) (turn turn' : A → Parser T F A) → ((a : A) → Rel deep (turn a) (turn' a)) → (a : A) → Rel deep (repeat sel turn a) (repeat sel turn' a)
rel_repeat deep sel turn turn' h a = record {
  below = λ ts. (rel_turns deep sel turn turn' h (length ts) a).below ts;
  deeper = λ ts. (rel_turns deep sel turn turn' h (length ts) a).deeper ts;
  shrinks = λ ts. (rel_turns deep sel turn turn' h (length ts) a).shrinks ts;
}

pub rel_after : {T F A : Type 0} (deep fault : F) → (fault ≡ deep → ⊥) → (test : T → Bool) (q q' : T → Parser T F A) → ((t : T) → Rel deep (q t) (q' t)) → Rel deep (expect fault test >>= q) (expect fault test >>= q')
rel_after deep fault other test q q' h = rel_bind deep (expect fault test) (expect fault test) q q' (rel_expect deep fault other test) h

pub rel_map : {T F A B : Type 0} (deep : F) (p p' : Parser T F A) (f : A → B) → Rel deep p p' → Rel deep (p >>= (λ a. pure (f a))) (p' >>= (λ a. pure (f a)))
rel_map deep p p' f h = rel_bind deep p p' (λ a. pure (f a)) (λ a. pure (f a)) h (λ a. rel_pure deep (f a))

-- a good parser takes from the front
pub within_good : {T F A : Type 0} {gap : T → Bool} (L : Phrase T A) (stop : T → Bool) (p : Parser T F A) → Fits gap L stop p → (ts : List T) → Within (length ts) (p ts)
within_good {T = T} {F = F} {A = A} L stop p gp ts = by_outcome (p ts) refl
  where
    by_outcome : (x : Outcome T F A) → p ts ≡ x → Within (length ts) x
    by_outcome (Ok y) h = let t = gp.sound ts y.1 y.0 h in omega (arith, ap length t.cut, length-append t.text y.1)
    by_outcome (Err NoMemory) h = let t = gp.refuses ts NoMemory h in let e = t.is in absurd (cc)
    by_outcome (Err (Refused fault left)) h =
        let t = gp.refuses ts (Refused fault left) h in
        let e = t.is in
        let same : left ≡ length t.rest = cc in
        omega (arith, ap length t.cut, length-append t.before t.rest, same)

-- How many of the first places pass a test, and which.
use Rattle.std.proofs.Common.{◌≡◌, ◌∙◌, ℕ, zero, suc, ◌+◌, ◌<◌, ◌≤◌, Bool, true, false, cond, refl, sym, ap, arith, ⊎_elim}
use Rattle.std.specs.Prelude.{count_by}
use Rattle.std.specs.List.{range_with_len}
use Rattle.std.proofs.lemmas.Bool.{false≢true, cases_eq, cond-true, cond-false}
use Rattle.rel_plan.proofs.Counts.{count_more}

module _ (p : ℕ → Bool) where
  abbrev passing : ℕ → ℕ
  passing k = count_by p (range_with_len 0 k)

  one_more : (k : ℕ) → passing (suc k) ≡ passing k + cond (p k) 1 0
  one_more k = let e : suc k ≡ k + 1 = omega arith in ap passing e ∙ count_more p k

  one_passes : (k : ℕ) → p k ≡ true → passing (suc k) ≡ passing k + 1
  one_passes k h = one_more k ∙ ap (λ n. passing k + n) (cond-true (p k) 1 0 h)

  one_fails : (k : ℕ) → p k ≡ false → passing (suc k) ≡ passing k
  one_fails k h = one_more k ∙ (ap (λ n. passing k + n) (cond-false (p k) 1 0 h) ∙ omega arith)

  no_fewer : (k : ℕ) → passing k ≤ passing (suc k)
  no_fewer k = omega (arith, one_more k)

  -- one that passes counts
  counts : (k n : ℕ) → n < k → p n ≡ true → 1 ≤ passing k
  counts zero n l h = absurd (omega arith)
  counts (suc k) n l h = ⊎_elim this (λ other. omega (arith, no_fewer k, counts k n (before other) h)) (cases_eq n k)
    where
      before : (n ≡ k → ⊥) → n < k
      before other = grind arith

      this : n ≡ k → 1 ≤ passing (suc k)
      this e = omega (arith, one_passes k (sym (ap p e) ∙ h))

  -- where one counts, there is one that passes
  pub one_of : (k : ℕ) → 1 ≤ passing k → (n : ℕ) × (n < k) × (p n ≡ true)
  one_of zero h = absurd (omega arith)
  one_of (suc k) h = by (p k) refl (one_of k)
    where
      by : (b : Bool) → p k ≡ b → (1 ≤ passing k → (n : ℕ) × (n < k) × (p n ≡ true)) → (n : ℕ) × (n < suc k) × (p n ≡ true)
      by true e further = (k, omega arith, e)
      by false e further = let found = further (omega (arith, one_fails k e)) in (found.0, omega (arith, found.1), found.2)

  -- where one alone counts, there is one alone
  pub only_one : (k n m : ℕ) → passing k ≡ 1 → n < k → p n ≡ true → m < k → p m ≡ true → n ≡ m
  only_one zero n m one l h k g = absurd (omega arith)
  only_one (suc k) n m one l h j g = by (p k) refl (only_one k n m)
    where
      last : p k ≡ true → (i : ℕ) → i < suc k → p i ≡ true → i ≡ k
      last e i t q = ⊎_elim (λ is. is) (λ other. absurd (omega (arith, one, one_passes k e, counts k i (before other) q))) (cases_eq i k)
        where
          before : (i ≡ k → ⊥) → i < k
          before other = grind arith

      earlier : p k ≡ false → (i : ℕ) → i < suc k → p i ≡ true → i < k
      earlier e i t q = ⊎_elim (λ is. absurd (false≢true (sym e ∙ (sym (ap p is) ∙ q)))) (λ other. before other) (cases_eq i k)
        where
          before : (i ≡ k → ⊥) → i < k
          before other = grind arith

      by : (b : Bool) → p k ≡ b → (passing k ≡ 1 → n < k → p n ≡ true → m < k → p m ≡ true → n ≡ m) → n ≡ m
      by true e further = last e n l h ∙ sym (last e m j g)
      by false e further = further (sym (one_fails k e) ∙ one) (earlier e n l h) h (earlier e m j g) g

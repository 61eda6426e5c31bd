-- How many of the first numbers pass a test, one number more.
use Rattle.std.proofs.Common.{◌≡◌, ℕ, zero, suc, ◌+◌, Bool, cond, [], ◌∷◌, ◌++◌, ap, ◌∙◌, arith}
use Rattle.std.specs.Prelude.{count_by}
use Rattle.std.specs.List.{range_with_len}
use Rattle.std.proofs.lemmas.List.Sums.{sum_by-append}

one : (a b : ℕ) → a ≡ b → a ∷ [] ≡ b ∷ []
one a b e = ap (λ n. n ∷ []) e

range_suc : (a n : ℕ) → range_with_len a (suc n) ≡ range_with_len a n ++ (a + n) ∷ []
range_suc a zero = one a (a + 0) (omega arith)
range_suc a (suc n) = ap (λ ns. a ∷ ns) (range_suc (a + 1) n ∙ ap (λ ns. range_with_len (a + 1) n ++ ns) (one (a + 1 + n) (a + suc n) (omega arith)))

range_more : (n : ℕ) → range_with_len 0 (n + 1) ≡ range_with_len 0 n ++ n ∷ []
range_more n = let e : n + 1 ≡ suc n = omega arith in ap (λ m. range_with_len 0 m) e ∙ (range_suc 0 n ∙ ap (λ ns. range_with_len 0 n ++ ns) (one (0 + n) n (omega arith)))

pub count_more : (p : ℕ → Bool) (n : ℕ) → count_by p (range_with_len 0 (n + 1)) ≡ count_by p (range_with_len 0 n) + cond (p n) 1 0
count_more p n = ap (count_by p) (range_more n) ∙ (sum_by-append (λ x. cond (p x) 1 0) (range_with_len 0 n) (n ∷ []) ∙ omega arith)

-- Facts about lists.
use Rattle.std.proofs.Common.{◌≡◌, ℕ, suc, ◌+◌, ◌-◌, ◌<◌, List, [], ◌∷◌, ◌++◌, refl, arith, append_assoc}
use Rattle.std.specs.List.{range_with_len}

pub range_more : (i n : ℕ) → i < n → range_with_len i (n - i) ≡ i ∷ range_with_len (i + 1) (n - (i + 1))
range_more i n h = let e : n - i ≡ suc (n - (i + 1)) = omega arith in rw e refl

-- a range that is taken element by element
pub range_taken : (all taken : List ℕ) (i n : ℕ) → i < n → all ≡ taken ++ range_with_len i (n - i) → all ≡ (taken ++ i ∷ []) ++ range_with_len (i + 1) (n - (i + 1))
range_taken all taken i n h e = rw (append_assoc, ← range_more i n h) e

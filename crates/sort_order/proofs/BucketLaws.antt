-- Pivots that ascend are parted by each number.
use Rattle.std.proofs.Common.{◌≡◌, ℤ, Bool, true, false, cond, not, Less, Equal, Greater, List, get_or, refl, sym, ◌∙◌, arith}
use Rattle.std.specs.Prelude.{int_lt}
use Rattle.std.specs.Ordering.{is_lt, int_cmp}
use Rattle.std.specs.List.Sorted.{IsSorted, IsPartitionedBy}
use Rattle.std.proofs.lemmas.Cmp.{int_cmp_total}
use Rattle.std.proofs.lemmas.Int.{ints}
use Rattle.std.proofs.lemmas.List.Sorted.{ranks_by, sorted_far}

pub int_cmp_lt : (a b : ℤ) → is_lt (int_cmp a b) ≡ int_lt a b
int_cmp_lt a b = by (int_lt a b) (int_lt b a)
  where
    by : (s t : Bool) → is_lt (cond s Less (cond t Greater Equal)) ≡ s
    by true t = refl
    by false true = refl
    by false false = refl

not_true : (b : Bool) → not b ≡ true → b ≡ false
not_true true e = absurd cc
not_true false e = refl

not_false : (b : Bool) → b ≡ false → not b ≡ true
not_false true e = absurd cc
not_false false e = refl

no_less : (a b x : ℤ) → int_lt b a ≡ false → int_lt x b ≡ false → int_lt x a ≡ false
no_less a b x h k = grind (arith, ints)

pub parted : (pivots : List ℤ) (x : ℤ) → IsSorted int_cmp pivots → IsPartitionedBy (λ p. not (int_lt x p)) pivots
parted pivots x up i j d l h t =
    let low = sorted_far (λ (a b : ℤ). is_lt (int_cmp a b)) (ranks_by int_cmp_total (λ (z : ℤ). z)) pivots up i j d l h in
    not_false _ (no_less (get_or pivots i d) (get_or pivots j d) x (sym (int_cmp_lt (get_or pivots j d) (get_or pivots i d)) ∙ low) (not_true _ t))

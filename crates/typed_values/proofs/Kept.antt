-- An interval that is found by its ends is the exact one, where both of its ends have 128 bits, and else there is none.
use Rattle.std.proofs.Common.{◌≡◌, ℕ, ◌-◌, ◌^◌, ◌≤◌, nat_le, ℤ, pos, neg_ℤ, ◌-ℤ◌, ◌≤ℤ◌, int_div, Bool, true, false, ◌&&◌, if◌then◌else◌, Option, Some, None, FitsSigned, refl, sym, ap, ◌∙◌, arith}
use Rattle.std.specs.Int.{w128, int_min, int_max}
use Rattle.std.proofs.lemmas.Bool.Decides.{nat_tests}
use Rattle.std.proofs.lemmas.Int.{ints, clamps}
use Rattle.std.proofs.Math.Nat.{pow-le-pow_right, one-le-pow}
use Rattle.control_vectors.specs.Slots.{fits_128, in_128_bits}
use Rattle.control_vectors.proofs.NumberLaws.{fits_128_yes, FitsSigned-from_fits_128, in_128_bits_yes}
use Rattle.sql_read.specs.declared.definition.ColumnKind.{ColumnKind}
use Rattle.sql_read.specs.declared.definition.ColumnKind.TheVariants as column
use Rattle.query_trees.specs.declared.expr.BinaryOp.{BinaryOp}
use Rattle.query_trees.specs.declared.expr.Sign.{Sign}
use Rattle.typed_values.specs.declared.intervals.Interval.{Interval}
use Rattle.typed_values.specs.Intervals.{interval, point, around, digits, of_column, raised, raised_interval, signed, signed_interval, combined, combined_interval, quotient_interval}
use Rattle.typed_values.specs.Narrow as n
use Rattle.typed_values.specs.Bounds.{hull, lies_within}

-- the interval, where its ends have 128 bits
abbrev pub keep : Interval → Option Interval
keep i = if lies_within (Some i) then Some i else None

abbrev IsOrdered : Interval → Type 0
IsOrdered i = i.least ≤ℤ i.greatest

abbrev pub Within : Interval → Type 0
Within i = FitsSigned w128 i.least × FitsSigned w128 i.greatest

-- ---- tests

left_true : (a b : Bool) → (a && b) ≡ true → a ≡ true
left_true true b e = refl
left_true false b e = cc

right_true : (a b : Bool) → (a && b) ≡ true → b ≡ true
right_true true b e = e
right_true false b e = cc

both_so : (a b : Bool) → a ≡ true → b ≡ true → (a && b) ≡ true
both_so a b e f = (λ i. e i && f i)

not_so : (b : Bool) → (b ≡ true → ⊥) → b ≡ false
not_so true h = absurd (h refl)
not_so false h = refl

not_both : (b : Bool) → b ≡ false → b ≡ true → ⊥
not_both b e f = cc

pub within_from : (i : Interval) → lies_within (Some i) ≡ true → Within i
within_from i e = (
  FitsSigned-from_fits_128 i.least (left_true (fits_128 i.least) (fits_128 i.greatest) e),
  FitsSigned-from_fits_128 i.greatest (right_true (fits_128 i.least) (fits_128 i.greatest) e),
)

pub lies_from : (i : Interval) → Within i → lies_within (Some i) ≡ true
lies_from i w = both_so (fits_128 i.least) (fits_128 i.greatest) (fits_128_yes i.least w.0) (fits_128_yes i.greatest w.1)

-- ---- the interval around two

min_fits : (x y : ℤ) → FitsSigned w128 x → FitsSigned w128 y → FitsSigned w128 (int_min x y)
min_fits x y h g = omega (arith, ints, clamps)

max_fits : (x y : ℤ) → FitsSigned w128 x → FitsSigned w128 y → FitsSigned w128 (int_max x y)
max_fits x y h g = omega (arith, ints, clamps)

pub around_within : (i j : Interval) → Within i → Within j → Within (around i j)
around_within i j v w = (min_fits i.least j.least v.0 w.0, max_fits i.greatest j.greatest v.1 w.1)

left_inside : (a b c d z : ℤ) → a ≤ℤ z → z ≤ℤ c → FitsSigned w128 (int_min a b) → FitsSigned w128 (int_max c d) → FitsSigned w128 z
left_inside a b c d z h g k l = omega (arith, ints, clamps)

right_inside : (a b c d z : ℤ) → b ≤ℤ z → z ≤ℤ d → FitsSigned w128 (int_min a b) → FitsSigned w128 (int_max c d) → FitsSigned w128 z
right_inside a b c d z h g k l = omega (arith, ints, clamps)

same : (z : ℤ) → z ≤ℤ z
same z = omega (arith, ints)

left_within : (i j : Interval) → IsOrdered i → Within (around i j) → Within i
left_within i j o w = (
  left_inside i.least j.least i.greatest j.greatest i.least (same i.least) o w.0 w.1,
  left_inside i.least j.least i.greatest j.greatest i.greatest o (same i.greatest) w.0 w.1,
)

right_within : (i j : Interval) → IsOrdered j → Within (around i j) → Within j
right_within i j o w = (
  right_inside i.least j.least i.greatest j.greatest j.least (same j.least) o w.0 w.1,
  right_inside i.least j.least i.greatest j.greatest j.greatest o (same j.greatest) w.0 w.1,
)

around_ordered : (i j : Interval) → IsOrdered i → IsOrdered (around i j)
around_ordered i j o = below i.least i.greatest j.least j.greatest o
  where
    below : (a c b d : ℤ) → a ≤ℤ c → int_min a b ≤ℤ int_max c d
    below a c b d h = omega (arith, ints, clamps)

abbrev kept_if : Interval → Bool → Option Interval
kept_if i b = if b then Some i else None

hull_kept : (i j : Interval) → IsOrdered i → IsOrdered j → hull (keep i) (keep j) ≡ keep (around i j)
hull_kept i j oi oj = by (lies_within (Some i)) (lies_within (Some j)) refl refl
  where
    by : (s t : Bool) → lies_within (Some i) ≡ s → lies_within (Some j) ≡ t → hull (kept_if i s) (kept_if j t) ≡ keep (around i j)
    by true true e f = sym (ap (kept_if (around i j)) (lies_from (around i j) (around_within i j (within_from i e) (within_from j f))))
    by true false e f = sym (ap (kept_if (around i j)) (not_so (lies_within (Some (around i j))) (λ k. not_both (lies_within (Some j)) f (lies_from j (right_within i j oj (within_from (around i j) k))))))
    by false t e f = sym (ap (kept_if (around i j)) (not_so (lies_within (Some (around i j))) (λ k. not_both (lies_within (Some i)) e (lies_from i (left_within i j oi (within_from (around i j) k))))))

-- ---- numbers, and arithmetic at the ends

pub exact_kept : (z : ℤ) → n.exact z ≡ keep (point z)
exact_kept z = by (fits_128 z)
  where
    by : (t : Bool) → n.point (if t then Some z else None) ≡ (if t && t then Some (point z) else None)
    by true = refl
    by false = refl

pub literal_kept : (k : ℕ) → n.literal k ≡ keep (point (pos k))
literal_kept k = by (fits_128 (pos k))
  where
    by : (t : Bool) → (if t then Some (point (pos k)) else None) ≡ (if t && t then Some (point (pos k)) else None)
    by true = refl
    by false = refl

points_kept : (x y : ℤ) → hull (n.exact x) (n.exact y) ≡ keep (around (point x) (point y))
points_kept x y = (λ i. hull (exact_kept x i) (exact_kept y i)) ∙ hull_kept (point x) (point y) (same x) (same y)

points_ordered : (x y : ℤ) → IsOrdered (around (point x) (point y))
points_ordered x y = around_ordered (point x) (point y) (same x)

pub signed_kept : (s : Sign) (a : Interval) → n.signed_interval s a ≡ keep (signed_interval s a)
signed_kept s a = points_kept (signed s a.least) (signed s a.greatest)

pub combined_kept : (o : BinaryOp) (a b : Interval) → n.combined_interval o a b ≡ keep (combined_interval o a b)
combined_kept o a b =
    (λ i. hull (points_kept (combined o a.least b.least) (combined o a.least b.greatest) i) (points_kept (combined o a.greatest b.least) (combined o a.greatest b.greatest) i))
    ∙ hull_kept (around (point (combined o a.least b.least)) (point (combined o a.least b.greatest)))
    (around (point (combined o a.greatest b.least)) (point (combined o a.greatest b.greatest)))
    (points_ordered (combined o a.least b.least) (combined o a.least b.greatest))
    (points_ordered (combined o a.greatest b.least) (combined o a.greatest b.greatest))

pub quotient_kept : (a : Interval) (d : ℤ) → hull (n.exact (int_div a.least d)) (n.exact (int_div a.greatest d)) ≡ keep (quotient_interval a d)
quotient_kept a d = points_kept (int_div a.least d) (int_div a.greatest d)

-- ---- powers of ten

between_kept : (x y : ℤ) → n.between (in_128_bits x) (in_128_bits y) ≡ keep (interval x y)
between_kept x y = by (fits_128 x) (fits_128 y)
  where
    by : (s t : Bool) → n.between (if s then Some x else None) (if t then Some y else None) ≡ (if s && t then Some (interval x y) else None)
    by true true = refl
    by true false = refl
    by false t = refl

power_at_most : (m n : ℕ) → m ≤ n → 10 ^ m ≤ 10 ^ n
power_at_most m n h = pow-le-pow_right (omega arith) h

power_fits : (n : ℕ) → n ≤ 38 → FitsSigned w128 (pos (10 ^ n))
power_fits n h = let most : 10 ^ n ≤ 100000000000000000000000000000000000000 = power_at_most n 38 h in omega (arith, ints)

pub raised_kept : (by : ℕ) (a : Interval) → by ≤ 36 → n.raised by a ≡ keep (raised_interval by a)
raised_kept by a h = ap (n.times a) (in_128_bits_yes (pos (10 ^ by)) (power_fits by (omega arith))) ∙ between_kept (raised by a.least) (raised by a.greatest)

-- one below a power of ten
negative_digits : (k : ℕ) → 1 ≤ k → (pos 1 -ℤ pos k) ≡ neg_ℤ (pos (k - 1))
negative_digits k h = omega (arith, ints)

positive_digits : (k : ℕ) → 1 ≤ k → (pos k -ℤ pos 1) ≡ pos (k - 1)
positive_digits k h = omega (arith, ints)

up_to_38 : (p : ℕ) → nat_le p 38 ≡ true → p ≤ 38
up_to_38 p e = grind (arith, nat_tests)

from_39 : (p : ℕ) → nat_le p 38 ≡ false → 39 ≤ p
from_39 p e = grind (arith, nat_tests)

-- a number of 39 digits and more leaves 128 bits, and so does the one below it
beyond : (p : ℕ) → fits_128 (pos (10 ^ p)) ≡ false → FitsSigned w128 (pos (10 ^ p - 1)) → ⊥
beyond p e f = by (nat_le p 38) refl
  where
    by : (t : Bool) → nat_le p 38 ≡ t → ⊥
    by true h = not_both (fits_128 (pos (10 ^ p))) e (fits_128_yes (pos (10 ^ p)) (power_fits p (up_to_38 p h)))
    by false h = let least : 1000000000000000000000000000000000000000 ≤ 10 ^ p = power_at_most 39 p (from_39 p h) in omega (arith, ints)

pub digits_kept : (p : ℕ) → n.digits p ≡ keep (digits p)
digits_kept p = by (fits_128 (pos (10 ^ p))) refl
  where
    some : 1 ≤ 10 ^ p
    some = one-le-pow p 10 (omega arith)

    by : (t : Bool) → fits_128 (pos (10 ^ p)) ≡ t → n.digits_below (if t then Some (pos (10 ^ p)) else None) ≡ keep (digits p)
    by true e = between_kept (pos 1 -ℤ pos (10 ^ p)) (pos (10 ^ p) -ℤ pos 1) ∙ (λ i. keep (interval (negative_digits (10 ^ p) some i) (positive_digits (10 ^ p) some i)))
    by false e = sym (ap (kept_if (digits p)) (not_so (lies_within (Some (digits p))) (λ k. beyond p e (within_from (digits p) k).1)))

pub column_kept : (kind : ColumnKind) (width : ℕ) → n.of_column kind width ≡ keep (of_column kind width)
column_kept column.Integer width = refl
column_kept column.Decimal width = digits_kept width
column_kept column.Date width = refl
column_kept column.Text width = refl

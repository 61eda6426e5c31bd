-- Intervals by their ends: what lies between numbers that an interval covers is covered too, and arithmetic keeps what lies between.
use Rattle.std.proofs.Common.{◌≡◌, ◌⊎◌, ℕ, zero, suc, ◌+◌, ◌/◌, ◌^◌, ◌≤◌, ℤ, pos, negsuc, neg_ℤ, ◌+ℤ◌, ◌-ℤ◌, ◌*ℤ◌, ◌≤ℤ◌, int_div, Bool, true, false, if◌then◌else◌, Option, Some, None, FitsSigned, refl, sym, ap, subst, inl, inr, ⊎_elim, arith, mul-le-mul_right, div-mul-le_self}
use Rattle.std.specs.Int.{w128, int_min, int_max}
use Rattle.std.proofs.lemmas.Int.{ints, clamps}
use Rattle.std.proofs.lemmas.Nat.{le-div}
use Rattle.std.proofs.Math.Nat.{div-zero}
use Rattle.std.proofs.Math.IntN.{neg_ℤ-neg_ℤ, *ℤ_comm}
use Rattle.control_vectors.specs.Slots.{fits_128, in_128_bits}
use Rattle.control_vectors.proofs.NumberLaws.{FitsSigned-from_fits_128, in_128_bits-some}
use Rattle.query_trees.specs.declared.expr.BinaryOp.{BinaryOp}
use Rattle.query_trees.specs.declared.expr.BinaryOp.TheVariants as op
use Rattle.query_trees.specs.declared.expr.Sign.{Sign}
use Rattle.query_trees.specs.declared.expr.Sign.TheVariants as sign
use Rattle.typed_values.specs.declared.intervals.Interval.{Interval}
use Rattle.typed_values.specs.Intervals.{interval, signed, combined, is_zero}
use Rattle.typed_values.specs.Intervals as exactly
use Rattle.typed_values.specs.Bounds.{hull}
use Rattle.typed_values.specs.Narrow.{point, between as ends_of, exact, literal, power_of_ten, times, raised, signed_interval, combined_interval, quotient_interval}
use borrow.Author.Differences.{up, down}

-- between two numbers, whichever of them is the lesser
abbrev pub Lies : ℤ → ℤ → ℤ → Type 0
Lies x y z = ((x ≤ℤ z) × (z ≤ℤ y)) ⊎ ((y ≤ℤ z) × (z ≤ℤ x))

-- an interval, where there is one, has z, a number of 128 bits
pub record Covers (p : Option Interval) (z : ℤ) : Type 0 where
  pub fits : (i : Interval) → p ≡ Some i → FitsSigned w128 z
  pub above : (i : Interval) → p ≡ Some i → i.least ≤ℤ z
  pub below : (i : Interval) → p ≡ Some i → z ≤ℤ i.greatest

-- ---- numbers that an interval covers

some_same : (i j : Interval) → Some i ≡ Some j → (i.least ≡ j.least) × (i.greatest ≡ j.greatest)
some_same i j e = let same : i ≡ j = cc in (ap (λ (k : Interval). k.least) same, ap (λ (k : Interval). k.greatest) same)

pub no_interval : (i : Interval) → None ≡ Some i → ⊥
no_interval i e = cc

covers_none : (z : ℤ) → Covers None z
covers_none z = record { fits = λ i e. absurd (no_interval i e); above = λ i e. absurd (no_interval i e); below = λ i e. absurd (no_interval i e) }

covers_point : (z : ℤ) → FitsSigned w128 z → Covers (Some (interval z z)) z
covers_point z h = record {
  fits = λ i e. h;
  above = λ i e. let s = some_same (interval z z) i e in omega (arith, ints);
  below = λ i e. let s = some_same (interval z z) i e in omega (arith, ints);
}

pub covers_exact : (z : ℤ) → Covers (exact z) z
covers_exact z = by (fits_128 z) refl
  where
    by : (t : Bool) → fits_128 z ≡ t → Covers (point (if t then Some z else None)) z
    by true is = covers_point z (FitsSigned-from_fits_128 z is)
    by false is = covers_none z

pub least_hull : (a b : Interval) → (int_min a.least b.least ≤ℤ a.least) × (int_min a.least b.least ≤ℤ b.least)
least_hull a b = (omega (arith, ints, clamps), omega (arith, ints, clamps))

pub greatest_hull : (a b : Interval) → (a.greatest ≤ℤ int_max a.greatest b.greatest) × (b.greatest ≤ℤ int_max a.greatest b.greatest)
greatest_hull a b = (omega (arith, ints, clamps), omega (arith, ints, clamps))

-- an interval that reaches as far covers as much
wider : (a b : Interval) (z : ℤ) → b.least ≤ℤ a.least → a.greatest ≤ℤ b.greatest → Covers (Some a) z → Covers (Some b) z
wider a b z low high h = record {
  fits = λ i e. h.fits a refl;
  above = λ i e. let s = some_same b i e in let k = h.above a refl in omega (arith, ints);
  below = λ i e. let s = some_same b i e in let k = h.below a refl in omega (arith, ints);
}

abbrev around : Interval → Interval → Interval
around a b = interval (int_min a.least b.least) (int_max a.greatest b.greatest)

hull_left : (p q : Option Interval) (z : ℤ) → Covers p z → Covers (hull p q) z
hull_left None q z h = covers_none z
hull_left (Some a) None z h = covers_none z
hull_left (Some a) (Some b) z h = wider a (around a b) z (least_hull a b).0 (greatest_hull a b).0 h

hull_right : (p q : Option Interval) (z : ℤ) → Covers q z → Covers (hull p q) z
hull_right None q z h = covers_none z
hull_right (Some a) None z h = covers_none z
hull_right (Some a) (Some b) z h = wider b (around a b) z (least_hull a b).1 (greatest_hull a b).1 h

-- 128 bits have no gap
fits_between : (x y z : ℤ) → FitsSigned w128 x → FitsSigned w128 y → x ≤ℤ z → z ≤ℤ y → FitsSigned w128 z
fits_between x y z h g low high = omega (arith, ints)

order_trans : (x y z : ℤ) → x ≤ℤ y → y ≤ℤ z → x ≤ℤ z
order_trans x y z h g = omega (arith, ints)

in_order : (p : Option Interval) (x y z : ℤ) → Covers p x → Covers p y → x ≤ℤ z → z ≤ℤ y → Covers p z
in_order p x y z h g low high = record {
  fits = λ i e. fits_between x y z (h.fits i e) (g.fits i e) low high;
  above = λ i e. order_trans i.least x z (h.above i e) low;
  below = λ i e. order_trans z y i.greatest high (g.below i e);
}

-- what lies between two covered numbers is covered
between : (p : Option Interval) (x y z : ℤ) → Covers p x → Covers p y → Lies x y z → Covers p z
between p x y z h g lies = ⊎_elim (λ l. in_order p x y z h g l.0 l.1) (λ l. in_order p y x z g h l.0 l.1) lies

ends : (x y z : ℤ) → Lies x y z → Covers (hull (exact x) (exact y)) z
ends x y z lies = between (hull (exact x) (exact y)) x y z (hull_left (exact x) (exact y) x (covers_exact x)) (hull_right (exact x) (exact y) y (covers_exact y)) lies

-- ---- arithmetic keeps what lies between

sum_lies : (a b x y : ℤ) → a ≤ℤ x → x ≤ℤ b → Lies (a +ℤ y) (b +ℤ y) (x +ℤ y)
sum_lies a b x y h g = inl (omega (arith, ints), omega (arith, ints))

sum_lies_right : (a b x y : ℤ) → a ≤ℤ x → x ≤ℤ b → Lies (y +ℤ a) (y +ℤ b) (y +ℤ x)
sum_lies_right a b x y h g = inl (omega (arith, ints), omega (arith, ints))

difference_lies_right : (a b x y : ℤ) → a ≤ℤ x → x ≤ℤ b → Lies (y -ℤ a) (y -ℤ b) (y -ℤ x)
difference_lies_right a b x y h g = inr (omega (arith, ints), omega (arith, ints))

-- a product by what is not negative keeps the order, and one by what is negative turns it
times_keeps : (x y : ℤ) (n : ℕ) → x ≤ℤ y → (x *ℤ pos n) ≤ℤ (y *ℤ pos n)
times_keeps x y n h =
    let order : up x + down y ≤ up y + down x = omega (arith, ints) in
    let more = mul-le-mul_right n order in
    omega (arith, ints)

times_turns : (x y : ℤ) (n : ℕ) → x ≤ℤ y → (y *ℤ negsuc n) ≤ℤ (x *ℤ negsuc n)
times_turns x y n h =
    let order : up x + down y ≤ up y + down x = omega (arith, ints) in
    let more = mul-le-mul_right (suc n) order in
    omega (arith, ints)

product_lies : (a b x y : ℤ) → a ≤ℤ x → x ≤ℤ b → Lies (a *ℤ y) (b *ℤ y) (x *ℤ y)
product_lies a b x (pos n) h g = inl (times_keeps a x n h, times_keeps x b n g)
product_lies a b x (negsuc n) h g = inr (times_turns x b n g, times_turns a x n h)

lies_same : (x y z u v w : ℤ) → x ≡ u → y ≡ v → z ≡ w → Lies x y z → Lies u v w
lies_same x y z u v w e f g h = subst (λ k. Lies k v w) e (subst (λ k. Lies x k w) f (subst (λ k. Lies x y k) g h))

product_lies_right : (a b x y : ℤ) → a ≤ℤ x → x ≤ℤ b → Lies (y *ℤ a) (y *ℤ b) (y *ℤ x)
product_lies_right a b x y h g = lies_same (a *ℤ y) (b *ℤ y) (x *ℤ y) (y *ℤ a) (y *ℤ b) (y *ℤ x) (*ℤ_comm a y) (*ℤ_comm b y) (*ℤ_comm x y) (product_lies a b x y h g)

-- ---- quotients, which truncate

div_keeps : (m n k : ℕ) → m ≤ n → m / k ≤ n / k
div_keeps m n zero h = omega (arith, div-zero m, div-zero n)
div_keeps m n (suc k) h = le-div (m / suc k) n (suc k) (omega arith) (omega (arith, div-mul-le_self m (suc k)))

quotient_keeps : (x y : ℤ) (k : ℕ) → x ≤ℤ y → int_div x (pos k) ≤ℤ int_div y (pos k)
quotient_keeps (pos m) (pos n) k h = let l = div_keeps m n k (omega (arith, ints)) in omega (arith, ints)
quotient_keeps (pos m) (negsuc n) k h = absurd h.le
quotient_keeps (negsuc m) (pos n) k h = omega (arith, ints)
quotient_keeps (negsuc m) (negsuc n) k h = let l = div_keeps (suc n) (suc m) k (omega (arith, ints)) in omega (arith, ints)

-- by a negative number it is the negative of that by its opposite
quotient_negsuc : (x : ℤ) (k : ℕ) → int_div x (negsuc k) ≡ neg_ℤ (int_div x (pos (suc k)))
quotient_negsuc (pos m) k = refl
quotient_negsuc (negsuc m) k = sym (neg_ℤ-neg_ℤ (pos (suc m / suc k)))

quotient_turns : (x y : ℤ) (k : ℕ) → x ≤ℤ y → int_div y (negsuc k) ≤ℤ int_div x (negsuc k)
quotient_turns x y k h =
    let l = quotient_keeps x y (suc k) h in
    let turned : neg_ℤ (int_div y (pos (suc k))) ≤ℤ neg_ℤ (int_div x (pos (suc k))) = turn (int_div x (pos (suc k))) (int_div y (pos (suc k))) l in
    subst (λ (z : ℤ). z ≤ℤ int_div x (negsuc k)) (sym (quotient_negsuc y k)) (subst (λ (z : ℤ). neg_ℤ (int_div y (pos (suc k))) ≤ℤ z) (sym (quotient_negsuc x k)) turned)
  where
    turn : (x y : ℤ) → x ≤ℤ y → neg_ℤ y ≤ℤ neg_ℤ x
    turn x y h = omega (arith, ints)

quotient_lies : (a b x d : ℤ) → a ≤ℤ x → x ≤ℤ b → Lies (int_div a d) (int_div b d) (int_div x d)
quotient_lies a b x (pos k) h g = inl (quotient_keeps a x k h, quotient_keeps x b k g)
quotient_lies a b x (negsuc k) h g = inr (quotient_turns x b k g, quotient_turns a x k h)

-- ---- the intervals of the definitions

pub literal_covers : (n : ℕ) → Covers (literal n) (pos n)
literal_covers n = by (fits_128 (pos n)) refl
  where
    by : (t : Bool) → fits_128 (pos n) ≡ t → Covers (if t then Some (interval (pos n) (pos n)) else None) (pos n)
    by true is = covers_point (pos n) (FitsSigned-from_fits_128 (pos n) is)
    by false is = covers_none (pos n)

signed_lies : (s : Sign) (a b x : ℤ) → a ≤ℤ x → x ≤ℤ b → Lies (signed s a) (signed s b) (signed s x)
signed_lies sign.Plus a b x h g = sum_lies_right a b x (pos 0) h g
signed_lies sign.Minus a b x h g = difference_lies_right a b x (pos 0) h g

pub signed_covers : (s : Sign) (a : Interval) (x : ℤ) → a.least ≤ℤ x → x ≤ℤ a.greatest → Covers (signed_interval s a) (signed s x)
signed_covers s a x h g = ends (signed s a.least) (signed s a.greatest) (signed s x) (signed_lies s a.least a.greatest x h g)

-- each operator, in its left operand and in its right one
left_lies : (o : BinaryOp) (a b x y : ℤ) → a ≤ℤ x → x ≤ℤ b → Lies (combined o a y) (combined o b y) (combined o x y)
left_lies op.Subtract a b x y h g = sum_lies a b x (neg_ℤ y) h g
left_lies op.Multiply a b x y h g = product_lies a b x y h g
left_lies o a b x y h g = sum_lies a b x y h g

right_lies : (o : BinaryOp) (a b x y : ℤ) → a ≤ℤ x → x ≤ℤ b → Lies (combined o y a) (combined o y b) (combined o y x)
right_lies op.Subtract a b x y h g = difference_lies_right a b x y h g
right_lies op.Multiply a b x y h g = product_lies_right a b x y h g
right_lies o a b x y h g = sum_lies_right a b x y h g

-- with the left operand at one of its ends, the right one goes from end to end
row_covers : (o : BinaryOp) (x : ℤ) (b : Interval) (y : ℤ) → b.least ≤ℤ y → y ≤ℤ b.greatest → Covers (hull (exact (combined o x b.least)) (exact (combined o x b.greatest))) (combined o x y)
row_covers o x b y h g = ends (combined o x b.least) (combined o x b.greatest) (combined o x y) (right_lies o b.least b.greatest y x h g)

pub combined_covers : (o : BinaryOp) (a b : Interval) (x y : ℤ) → a.least ≤ℤ x → x ≤ℤ a.greatest → b.least ≤ℤ y → y ≤ℤ b.greatest → Covers (combined_interval o a b) (combined o x y)
combined_covers o a b x y h g k l =
    let low = hull (exact (combined o a.least b.least)) (exact (combined o a.least b.greatest)) in
    let high = hull (exact (combined o a.greatest b.least)) (exact (combined o a.greatest b.greatest)) in
    let from_least = hull_left low high (combined o a.least y) (row_covers o a.least b y k l) in
    let from_greatest = hull_right low high (combined o a.greatest y) (row_covers o a.greatest b y k l) in
    between (hull low high) (combined o a.least y) (combined o a.greatest y) (combined o x y) from_least from_greatest (left_lies o a.least a.greatest x y h g)

pub quotient_covers : (a : Interval) (d x : ℤ) → a.least ≤ℤ x → x ≤ℤ a.greatest → Covers (quotient_interval a d) (int_div x d)
quotient_covers a d x h g = by (is_zero d)
  where
    by : (t : Bool) → Covers (if t then None else hull (exact (int_div a.least d)) (exact (int_div a.greatest d))) (int_div x d)
    by true = covers_none (int_div x d)
    by false = ends (int_div a.least d) (int_div a.greatest d) (int_div x d) (quotient_lies a.least a.greatest x d h g)

-- ---- numbers that are rescaled

covers_ends : (x y z : ℤ) → x ≤ℤ z → z ≤ℤ y → Covers (ends_of (in_128_bits x) (in_128_bits y)) z
covers_ends x y z h g = by (fits_128 x) (fits_128 y) refl refl
  where
    both : FitsSigned w128 x → FitsSigned w128 y → Covers (Some (interval x y)) z
    both fx fy = record {
      fits = λ i e. fits_between x y z fx fy h g;
      above = λ i e. let s = some_same (interval x y) i e in omega (arith, ints);
      below = λ i e. let s = some_same (interval x y) i e in omega (arith, ints);
    }

    by : (s t : Bool) → fits_128 x ≡ s → fits_128 y ≡ t → Covers (ends_of (if s then Some x else None) (if t then Some y else None)) z
    by true true e f = both (FitsSigned-from_fits_128 x e) (FitsSigned-from_fits_128 y f)
    by true false e f = covers_none z
    by false t e f = covers_none z

pub raised_covers : (by : ℕ) (a : Interval) (z : ℤ) → a.least ≤ℤ z → z ≤ℤ a.greatest → Covers (raised by a) (exactly.raised by z)
raised_covers by a z h g = at (power_of_ten by) (λ p is. in_128_bits-some (pos (10 ^ by)) p is)
  where
    at : (p : Option ℤ) → ((q : ℤ) → p ≡ Some q → pos (10 ^ by) ≡ q) → Covers (times a p) (exactly.raised by z)
    at None k = covers_none (exactly.raised by z)
    at (Some q) k =
        subst (λ (w : ℤ). Covers (times a (Some q)) (z *ℤ w)) (sym (k q refl))
        (subst (λ (w : ℤ). Covers (times a (Some w)) (z *ℤ w)) (k q refl)
        (covers_ends (a.least *ℤ pos (10 ^ by)) (a.greatest *ℤ pos (10 ^ by)) (z *ℤ pos (10 ^ by)) (times_keeps a.least z (10 ^ by) h) (times_keeps z a.greatest (10 ^ by) g)))

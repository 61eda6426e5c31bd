-- What is found of each form of an expression, by what is found of its operands.
use Rattle.std.proofs.Common.{◌≡◌, ℕ, ◌+◌, ◌-◌, ◌≤◌, max, ℤ, pos, Bool, true, false, ◌&&◌, if◌then◌else◌, Option, Some, None, is_some, FitsSigned, refl, sym, ap, ◌∙◌, arith}
use Rattle.std.specs.Prelude.{int_div}
use Rattle.std.specs.Option.{option_map}
use Rattle.std.specs.Int.{w128}
use Rattle.std.proofs.lemmas.Int.{ints}
use Rattle.control_vectors.specs.Slots.{fits_128, in_128_bits}
use Rattle.control_vectors.proofs.NumberLaws.{FitsSigned-from_fits_128, in_128_bits_yes}
use Rattle.query_trees.specs.declared.expr.BinaryOp.{BinaryOp}
use Rattle.query_trees.specs.declared.expr.BinaryOp.TheVariants as op
use Rattle.query_trees.specs.declared.expr.Sign.{Sign}
use Rattle.query_trees.specs.declared.expr.Sign.TheVariants as sign
use Rattle.typed_trees.specs.declared.typed.ColumnType.{ColumnType}
use Rattle.typed_values.specs.declared.intervals.Interval.{Interval}
use Rattle.typed_values.specs.Intervals.{of_type, truth, point, around, raised_interval, signed, signed_interval, quotient_interval, is_zero}
use Rattle.typed_values.specs.Narrow as n
use Rattle.typed_values.specs.Narrow.{Bounds, limited, truth_if, at_scale, counted}
use Rattle.typed_values.specs.Bounds.{hull, has_scale, combined_ranges, quotient_or_none}
use Rattle.typed_values.proofs.Kept.{exact_kept, literal_kept, column_kept, signed_kept, combined_kept, quotient_kept, within_from, lies_from, around_within}
use Rattle.typed_values.proofs.Found.{Found, wide, narrow, Chosen, some_wide, all_narrow, guarded, part_narrow, up_to_36, rescaled_chosen}

-- ---- literals and columns

pub number_found : (k scale : ℕ) → limited scale (n.literal k) ≡ guarded true scale (Some (point (pos k)))
number_found k scale = ap (limited scale) (literal_kept k)

pub date_found : (day : ℤ) → limited 0 (n.exact day) ≡ guarded true 0 (Some (point day))
date_found day = ap (limited 0) (exact_kept day)

pub column_found : (type : ColumnType) → limited type.scale (n.of_type type) ≡ guarded true type.scale (Some (of_type type))
column_found type = ap (limited type.scale) (column_kept type.kind type.width)

-- ---- one operand

pub signed_found : (s : Sign) (b : Bounds) (v : Bool) (t : ℕ) (q : Option Interval) → Found b v t q → n.signed_bounds s b ≡ guarded v t (option_map (signed_interval s) q)
signed_found s b v t q (wide scale p) = refl
signed_found s b v t q (narrow scale i e f) = ap (limited scale) (signed_kept s i)

pub tested_found : (b : Bounds) (v : Bool) (t : ℕ) (q : Option Interval) → Found b v t q → truth_if (is_some b) ≡ guarded v 0 (Some truth)
tested_found b v t q (wide scale p) = refl
tested_found b v t q (narrow scale i e f) = refl

-- a divisor of 128 bits is a number of 128 bits
divisor_fits : (s : Sign) (k : ℕ) → fits_128 (pos k) ≡ true → FitsSigned w128 (signed s (pos k))
divisor_fits sign.Plus k e = let h = FitsSigned-from_fits_128 (pos k) e in omega (arith, ints)
divisor_fits sign.Minus k e = let h = FitsSigned-from_fits_128 (pos k) e in omega (arith, ints)

by_number : (scale : ℕ) (i : Interval) (d : ℤ) → limited scale (n.quotient_interval i d) ≡ guarded true scale (quotient_or_none (Some i) d)
by_number scale i d = by (is_zero d)
  where
    by : (z : Bool) → limited scale (if z then None else hull (n.exact (int_div i.least d)) (n.exact (int_div i.greatest d))) ≡ guarded true scale (if z then None else Some (quotient_interval i d))
    by true = refl
    by false = ap (limited scale) (quotient_kept i d)

pub divided_found : (s : Sign) (k : ℕ) (b : Bounds) (v : Bool) (t : ℕ) (q : Option Interval) → Found b v t q → n.quotient_bounds b (n.divisor s k) ≡ guarded (v && fits_128 (pos k)) t (quotient_or_none q (signed s (pos k)))
divided_found s k b v t q (wide scale p) = refl
divided_found s k b v t q (narrow scale i e f) = by (fits_128 (pos k)) refl
  where
    by : (g : Bool) → fits_128 (pos k) ≡ g → n.quotient_bounds (Some (record { interval = i; scale = scale })) (if g then in_128_bits (signed s (pos k)) else None) ≡ guarded g scale (quotient_or_none (Some i) (signed s (pos k)))
    by true h = ap (n.quotient_bounds (Some (record { interval = i; scale = scale }))) (in_128_bits_yes (signed s (pos k)) (divisor_fits s k h)) ∙ by_number scale i (signed s (pos k))
    by false h = refl

-- ---- two operands

-- a sum or a difference of two operands that are rescaled
combined_found : (o : BinaryOp) (to : ℕ) (x y : Option Interval) (v w : Bool) (p q : Option Interval) → Chosen x v p → Chosen y w q → limited to (n.combined_bounds o x y) ≡ guarded (v && (w && true)) to (combined_ranges o p q)
combined_found o to x y v w p q (some_wide r) k = refl
combined_found o to x y v w p q (all_narrow i e) (some_wide r) = refl
combined_found o to x y v w p q (all_narrow i e) (all_narrow j f) = ap (limited to) (combined_kept o i j)

-- whether two operands that are rescaled are both there
alike_found : (x y : Option Interval) (v w : Bool) (p q : Option Interval) → Chosen x v p → Chosen y w q → (is_some x && is_some y) ≡ (v && (w && true))
alike_found x y v w p q (some_wide r) k = refl
alike_found x y v w p q (all_narrow i e) (some_wide r) = refl
alike_found x y v w p q (all_narrow i e) (all_narrow j f) = refl

greater_scale : (s t : ℕ) → has_scale s ≡ true → has_scale t ≡ true → max s t ≤ 36
greater_scale s t e f = let h = up_to_36 s e in let k = up_to_36 t f in omega arith

-- both operands of a pair at the greater of their scales
abbrev pub pair_narrow : ℕ → Option Interval → ℕ → Option Interval → Bool
pair_narrow s p t q = part_narrow s (max s t - s) p && (part_narrow t (max s t - t) q && true)

abbrev range_at : ℕ → ℕ → Option Interval → Option Interval
range_at to s p = option_map (raised_interval (to - s)) p

pub sum_found : (o : BinaryOp) (b c : Bounds) (v w : Bool) (s t : ℕ) (p q : Option Interval) → Found b v s p → Found c w t q →
    n.on_both (n.sum_bounds o) b c ≡ guarded (v && (w && pair_narrow s p t q)) (max s t) (combined_ranges o (range_at (max s t) s p) (range_at (max s t) t q))
sum_found o b c v w s t p q (wide s2 r) k = refl
sum_found o b c v w s t p q (narrow s2 i e f) (wide t2 r) = refl
sum_found o b c v w s t p q (narrow s2 i e f) (narrow t2 j g h) =
    let to = max s2 t2 in
    let most = greater_scale s2 t2 e g in
    combined_found o to (at_scale to (Some (record { interval = i; scale = s2 }))) (at_scale to (Some (record { interval = j; scale = t2 })))
    (part_narrow s2 (to - s2) (Some i)) (part_narrow t2 (to - t2) (Some j)) (range_at to s2 (Some i)) (range_at to t2 (Some j))
    (rescaled_chosen to (Some (record { interval = i; scale = s2 })) true s2 (Some i) most (narrow s2 i e f))
    (rescaled_chosen to (Some (record { interval = j; scale = t2 })) true t2 (Some j) most (narrow t2 j g h))

pub product_found : (b c : Bounds) (v w : Bool) (s t : ℕ) (p q : Option Interval) → Found b v s p → Found c w t q →
    n.on_both n.product_bounds b c ≡ guarded (v && (w && true)) (s + t) (combined_ranges op.Multiply p q)
product_found b c v w s t p q (wide s2 r) k = refl
product_found b c v w s t p q (narrow s2 i e f) (wide t2 r) = refl
product_found b c v w s t p q (narrow s2 i e f) (narrow t2 j g h) = ap (limited (s2 + t2)) (combined_kept op.Multiply i j)

pub logic_found : (b c : Bounds) (v w : Bool) (s t : ℕ) (p q : Option Interval) → Found b v s p → Found c w t q →
    n.on_both (λ x y. truth_if true) b c ≡ guarded (v && (w && true)) 0 (Some truth)
logic_found b c v w s t p q (wide s2 r) k = refl
logic_found b c v w s t p q (narrow s2 i e f) (wide t2 r) = refl
logic_found b c v w s t p q (narrow s2 i e f) (narrow t2 j g h) = refl

pub comparable_found : (b c : Bounds) (v w : Bool) (s t : ℕ) (p q : Option Interval) → Found b v s p → Found c w t q →
    n.comparable b c ≡ (v && (w && pair_narrow s p t q))
comparable_found b c v w s t p q (wide s2 r) k = refl
comparable_found b c v w s t p q (narrow s2 i e f) (wide t2 r) = refl
comparable_found b c v w s t p q (narrow s2 i e f) (narrow t2 j g h) =
    let to = max s2 t2 in
    let most = greater_scale s2 t2 e g in
    alike_found (at_scale to (Some (record { interval = i; scale = s2 }))) (at_scale to (Some (record { interval = j; scale = t2 })))
    (part_narrow s2 (to - s2) (Some i)) (part_narrow t2 (to - t2) (Some j)) (range_at to s2 (Some i)) (range_at to t2 (Some j))
    (rescaled_chosen to (Some (record { interval = i; scale = s2 })) true s2 (Some i) most (narrow s2 i e f))
    (rescaled_chosen to (Some (record { interval = j; scale = t2 })) true t2 (Some j) most (narrow t2 j g h))

pub truth_found : (v : Bool) → truth_if v ≡ guarded v 0 (Some truth)
truth_found true = refl
truth_found false = refl

compared_as : (b c : Bounds) → n.on_both (λ x y. truth_if (n.are_alike x y)) b c ≡ truth_if (n.comparable b c)
compared_as None c = refl
compared_as (Some x) None = refl
compared_as (Some x) (Some y) = refl

pub compared_found : (b c : Bounds) (v w : Bool) (s t : ℕ) (p q : Option Interval) → Found b v s p → Found c w t q →
    n.on_both (λ x y. truth_if (n.are_alike x y)) b c ≡ guarded (v && (w && pair_narrow s p t q)) 0 (Some truth)
compared_found b c v w s t p q h k = compared_as b c ∙ (ap truth_if (comparable_found b c v w s t p q h k) ∙ truth_found (v && (w && pair_narrow s p t q)))

-- ---- COALESCE

hull_none : (x : Option Interval) → hull x None ≡ None
hull_none None = refl
hull_none (Some i) = refl

-- one operand more
pub hull_chosen : (x y : Option Interval) (v w : Bool) (p q : Option Interval) → Chosen x v p → Chosen y w q → Chosen (hull x y) (v && w) (hull p q)
hull_chosen x y v w p q (some_wide r) k = some_wide (hull r q)
hull_chosen x y v w p q (all_narrow i e) (some_wide r) = some_wide (hull (Some i) r)
hull_chosen x y v w p q (all_narrow i e) (all_narrow j f) = all_narrow (around i j) (lies_from (around i j) (around_within i j (within_from i e) (within_from j f)))

pub all_kept : (to : ℕ) (x : Option Interval) (v : Bool) (p : Option Interval) → Chosen x v p → limited to x ≡ guarded v to p
all_kept to x v p (some_wide r) = refl
all_kept to x v p (all_narrow i e) = ap (λ t. limited to (if t then Some i else None)) (sym e)

pub no_scale : (to : ℕ) (x : Option Interval) → has_scale to ≡ false → limited to x ≡ None
no_scale to None e = refl
no_scale to (Some i) e = ap (λ s. if s then Some (record { interval = i; scale = to }) else None) e

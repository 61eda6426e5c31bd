-- Values as slots: what each operator gives for the slots of truths and of numbers is the slot of what it gives for the values.
use Rattle.std.proofs.Common.{◌≡◌, ℕ, zero, suc, ◌^◌, ◌<◌, ◌≤◌, ◌==◌, ℤ, pos, ◌+ℤ◌, ◌-ℤ◌, ◌*ℤ◌, int_div, int_lt, cond, Bool, true, false, not, if◌then◌else◌, nat_lt, List, Option, Some, None, Ok, Err, IfOk, refl, ap, ◌∙◌, subst, arith}
use Rattle.std.proofs.lemmas.Bool.{ltb-true}
use Rattle.std.specs.declared.cmp.Ordering.TheVariants.{Less, Equal, Greater}
use Rattle.std.specs.Ordering.{int_eq, int_cmp, is_lt, is_gt}
use Rattle.control_vectors.specs.Slots.{Slot, Cell, in_128_bits, fitted, or_over as cell_or_over}
use Rattle.dict_codes.specs.Dictionaries.{rank_in}
use Rattle.control_vectors.specs.declared.PairKind.TheVariants as pair
use Rattle.slot_wise.specs.Pairs as slots
use Rattle.slot_wise.specs.Pairs.{pair_slot, conjunction, disjunction}
use Rattle.sql_values.specs.Values.{Value, number, text, truth, null}
use Rattle.query_trees.specs.declared.expr.BinaryOp.{BinaryOp}
use Rattle.query_trees.specs.declared.expr.BinaryOp.TheVariants as op
use Rattle.query_trees.specs.declared.expr.Polarity.{Polarity}
use Rattle.query_trees.specs.declared.expr.Polarity.TheVariants.{Plain, Negated}
use Rattle.query_trees.specs.declared.expr.Sign.{Sign}
use Rattle.query_trees.specs.declared.expr.Sign.TheVariants.{Plus, Minus}
use Rattle.typed_trees.specs.declared.kinds.Kind.TheVariants.{Number, Truth}
use Rattle.table_load.specs.Databases.{coded}
use Rattle.typed_values.specs.Intervals.{signed, raised}
use Rattle.typed_values.specs.Values.{Valued, with, with_both, or_over, exact, arithmetic, signed_value, quotient_value, holds, comparison, both, opposite, either, by_polarity, is_null, rescaled}
use Rattle.value_laws.specs.Laws.{is_of}
use Rattle.expr_steps.specs.Lowered.{Bytes, written, divisor}
use Rattle.expr_values.specs.Laws.{value_cell}
use Rattle.expr_values.proofs.Codes.{then_cell}
use Rattle.expr_values.proofs.Cells.{opposite_cell, polarity_cell, null_cell, times_cell, sign_cell, comparing_cell}

-- ---- one value and two

pub one_cell : (texts : List Bytes) (P : Value → Type 0) (r : Valued) (g : Slot → Cell) (f : Value → Valued) → IfOk r P → ((v : Value) → P v → g (coded texts v) ≡ value_cell texts (f v)) → then_cell (value_cell texts r) g ≡ value_cell texts (with r f)
one_cell texts P (Ok v) g f h e = e v h
one_cell texts P (Err x) g f h e = refl

pub two_cells : (texts : List Bytes) (P Q : Value → Type 0) (r s : Valued) (g : Slot → Slot → Cell) (f : Value → Value → Valued) → IfOk r P → IfOk s Q → ((v w : Value) → P v → Q w → g (coded texts v) (coded texts w) ≡ value_cell texts (f v w)) →
    then_cell (value_cell texts r) (λ u. then_cell (value_cell texts s) (g u)) ≡ value_cell texts (with_both r s f)
two_cells texts P Q r s g f h k e = one_cell texts P r (λ u. then_cell (value_cell texts s) (g u)) (λ v. with s (f v)) h (λ v i. one_cell texts Q s (g (coded texts v)) (f v) k (λ w j. e v w i j))

-- ---- truths

abbrev pub tri : Option Bool → Value
tri None = null
tri (Some b) = truth b

pub as_tri : (v : Value) → is_of Truth v ≡ true → (o : Option Bool) × (tri o ≡ v)
as_tri null h = (None, refl)
as_tri (truth b) h = (Some b, refl)
as_tri (number z) h = absurd (cc)
as_tri (text t) h = absurd (cc)

pub opposite_tri : (texts : List Bytes) (o : Option Bool) → opposite_cell (coded texts (tri o)) ≡ Ok (coded texts (opposite (tri o)))
opposite_tri texts None = refl
opposite_tri texts (Some true) = refl
opposite_tri texts (Some false) = refl

pub opposite_coded : (texts : List Bytes) (v : Value) → is_of Truth v ≡ true → opposite_cell (coded texts v) ≡ Ok (coded texts (opposite v))
opposite_coded texts v h = let o = as_tri v h in subst (λ (w : Value). opposite_cell (coded texts w) ≡ Ok (coded texts (opposite w))) o.1 (opposite_tri texts o.0)

pub polarity_coded : (texts : List Bytes) (by : Polarity) (v : Value) → is_of Truth v ≡ true → polarity_cell by (coded texts v) ≡ Ok (coded texts (by_polarity by v))
polarity_coded texts Plain v h = refl
polarity_coded texts Negated v h = opposite_coded texts v h

both_tri : (texts : List Bytes) (a b : Option Bool) → conjunction (coded texts (tri a)) (coded texts (tri b)) ≡ coded texts (both (tri a) (tri b))
both_tri texts None None = refl
both_tri texts None (Some true) = refl
both_tri texts None (Some false) = refl
both_tri texts (Some true) None = refl
both_tri texts (Some true) (Some true) = refl
both_tri texts (Some true) (Some false) = refl
both_tri texts (Some false) None = refl
both_tri texts (Some false) (Some true) = refl
both_tri texts (Some false) (Some false) = refl

pub both_coded : (texts : List Bytes) (v w : Value) → is_of Truth v ≡ true → is_of Truth w ≡ true → pair_slot pair.LogicalAnd (coded texts v) (coded texts w) ≡ value_cell texts (Ok (both v w))
both_coded texts v w h k =
    let a = as_tri v h in let b = as_tri w k in
    subst (λ (x : Value). pair_slot pair.LogicalAnd (coded texts x) (coded texts w) ≡ Ok (coded texts (both x w))) a.1
    (subst (λ (y : Value). pair_slot pair.LogicalAnd (coded texts (tri a.0)) (coded texts y) ≡ Ok (coded texts (both (tri a.0) y))) b.1 (ap (λ (s : Slot). Ok s) (both_tri texts a.0 b.0)))

either_tri : (texts : List Bytes) (a b : Option Bool) → disjunction (coded texts (tri a)) (coded texts (tri b)) ≡ coded texts (either (tri a) (tri b))
either_tri texts None None = refl
either_tri texts None (Some true) = refl
either_tri texts None (Some false) = refl
either_tri texts (Some true) None = refl
either_tri texts (Some true) (Some true) = refl
either_tri texts (Some true) (Some false) = refl
either_tri texts (Some false) None = refl
either_tri texts (Some false) (Some true) = refl
either_tri texts (Some false) (Some false) = refl

pub either_coded : (texts : List Bytes) (v w : Value) → is_of Truth v ≡ true → is_of Truth w ≡ true → pair_slot pair.LogicalOr (coded texts v) (coded texts w) ≡ value_cell texts (Ok (either v w))
either_coded texts v w h k =
    let a = as_tri v h in let b = as_tri w k in
    subst (λ (x : Value). pair_slot pair.LogicalOr (coded texts x) (coded texts w) ≡ Ok (coded texts (either x w))) a.1
    (subst (λ (y : Value). pair_slot pair.LogicalOr (coded texts (tri a.0)) (coded texts y) ≡ Ok (coded texts (either (tri a.0) y))) b.1 (ap (λ (s : Slot). Ok s) (either_tri texts a.0 b.0)))

-- ---- tests of null

pub slot_itself : (z : ℤ) → pair_slot pair.Greater (Some z) (Some z) ≡ Ok (Some (pos 0))
slot_itself z = ap (λ (b : Bool). Ok (Some (slots.truth b))) (below_itself z)
  where
    below_itself : (z : ℤ) → int_lt z z ≡ false
    below_itself z = grind (arith)

pub slot_equal : (z : ℤ) → pair_slot pair.Equals (Some z) (Some z) ≡ Ok (Some (pos 1))
slot_equal z = ap (λ (b : Bool). Ok (Some (slots.truth b))) (is_itself z)
  where
    is_itself : (z : ℤ) → int_eq z z ≡ true
    is_itself z = grind (arith)

null_there : (texts : List Bytes) (by : Polarity) (z : ℤ) → null_cell by (Some z) ≡ Ok (coded texts (by_polarity by (truth false)))
null_there texts Plain z = ap (λ (c : Cell). then_cell c (λ t. pair_slot pair.Fill t (Some (pos 1)))) (slot_itself z)
null_there texts Negated z = ap (λ (c : Cell). then_cell c (λ t. pair_slot pair.Fill t (Some (pos 0)))) (slot_equal z)

pub null_coded : (texts : List Bytes) (by : Polarity) (v : Value) → null_cell by (coded texts v) ≡ value_cell texts (Ok (by_polarity by (truth (is_null v))))
null_coded texts Plain null = refl
null_coded texts Negated null = refl
null_coded texts by (number z) = null_there texts by z
null_coded texts by (text t) = null_there texts by (pos (rank_in texts t))
null_coded texts by (truth true) = null_there texts by (pos 1)
null_coded texts by (truth false) = null_there texts by (pos 0)

-- ---- numbers

abbrev pub numeric : Option ℤ → Value
numeric None = null
numeric (Some z) = number z

pub as_numeric : (v : Value) → is_of Number v ≡ true → (o : Option ℤ) × (numeric o ≡ v)
as_numeric null h = (None, refl)
as_numeric (number z) h = (Some z, refl)
as_numeric (truth b) h = absurd (cc)
as_numeric (text t) h = absurd (cc)

pub exact_coded : (texts : List Bytes) (z : ℤ) → fitted z ≡ value_cell texts (exact z)
exact_coded texts z = by (in_128_bits z)
  where
    by : (o : Option ℤ) → cell_or_over o ≡ value_cell texts (or_over o)
    by (Some x) = refl
    by None = refl

pub arithmetic_numeric : (texts : List Bytes) (f : ℤ → ℤ → ℤ) (a b : Option ℤ) → slots.of_both (λ x y. fitted (f x y)) (coded texts (numeric a)) (coded texts (numeric b)) ≡ value_cell texts (arithmetic f (numeric a) (numeric b))
arithmetic_numeric texts f None b = refl
arithmetic_numeric texts f (Some x) None = refl
arithmetic_numeric texts f (Some x) (Some y) = exact_coded texts (f x y)

pub arithmetic_coded : (texts : List Bytes) (f : ℤ → ℤ → ℤ) (v w : Value) → is_of Number v ≡ true → is_of Number w ≡ true → slots.of_both (λ x y. fitted (f x y)) (coded texts v) (coded texts w) ≡ value_cell texts (arithmetic f v w)
arithmetic_coded texts f v w h k =
    let a = as_numeric v h in let b = as_numeric w k in
    subst (λ (x : Value). slots.of_both (λ x y. fitted (f x y)) (coded texts x) (coded texts w) ≡ value_cell texts (arithmetic f x w)) a.1
    (subst (λ (y : Value). slots.of_both (λ x y. fitted (f x y)) (coded texts (numeric a.0)) (coded texts y) ≡ value_cell texts (arithmetic f (numeric a.0) y)) b.1 (arithmetic_numeric texts f a.0 b.0))

sign_numeric : (texts : List Bytes) (s : Sign) (o : Option ℤ) → sign_cell s (coded texts (numeric o)) ≡ value_cell texts (signed_value s (numeric o))
sign_numeric texts Plus None = refl
sign_numeric texts Minus None = refl
sign_numeric texts Plus (Some z) = exact_coded texts (pos 0 +ℤ z)
sign_numeric texts Minus (Some z) = exact_coded texts (pos 0 -ℤ z)

pub sign_coded : (texts : List Bytes) (s : Sign) (v : Value) → is_of Number v ≡ true → sign_cell s (coded texts v) ≡ value_cell texts (signed_value s v)
sign_coded texts s v h = let o = as_numeric v h in subst (λ (x : Value). sign_cell s (coded texts x) ≡ value_cell texts (signed_value s x)) o.1 (sign_numeric texts s o.0)

-- ---- quotients

pub written_is : (n : ℕ) → nat_lt n (2 ^ 127) ≡ true → written n ≡ n
written_is n h = let below : n < 2 ^ 127 = ltb-true n (2 ^ 127) h in omega arith

not_zero : (s : Sign) (n : ℕ) → not (n == 0) ≡ true → int_eq (signed s (pos n)) (pos 0) ≡ false
not_zero s zero h = absurd (cc)
not_zero Plus (suc n) h = grind arith
not_zero Minus (suc n) h = grind arith

quotient_numeric : (texts : List Bytes) (s : Sign) (n : ℕ) (o : Option ℤ) → not (n == 0) ≡ true → pair_slot pair.Divide (coded texts (numeric o)) (Some (signed s (pos n))) ≡ value_cell texts (quotient_value (numeric o) s n)
quotient_numeric texts s n None h = refl
quotient_numeric texts s n (Some z) h = ap (λ (b : Bool). if b then Ok None else fitted (int_div z (signed s (pos n)))) (not_zero s n h) ∙ exact_coded texts (int_div z (signed s (pos n)))

pub quotient_coded : (texts : List Bytes) (s : Sign) (n : ℕ) (v : Value) → nat_lt n (2 ^ 127) ≡ true → not (n == 0) ≡ true → is_of Number v ≡ true → pair_slot pair.Divide (coded texts v) (Some (divisor s n)) ≡ value_cell texts (quotient_value v s n)
quotient_coded texts s n v w h k =
    let o = as_numeric v k in
    ap (λ (m : ℕ). pair_slot pair.Divide (coded texts v) (Some (signed s (pos m)))) (written_is n w)
    ∙ subst (λ (x : Value). pair_slot pair.Divide (coded texts x) (Some (signed s (pos n))) ≡ value_cell texts (quotient_value x s n)) o.1 (quotient_numeric texts s n o.0 h)

-- ---- numbers of a greater scale

power_not_one : (n : ℕ) → int_eq (pos (10 ^ suc n)) (pos 1) ≡ false
power_not_one n =
    let some : 1 ≤ 10 ^ n = pow_pos n in
    let more : 1 < 10 ^ suc n = omega arith in
    grind arith
  where
    pow_pos : (n : ℕ) → 1 ≤ 10 ^ n
    pow_pos zero = omega arith
    pow_pos (suc n) = let h = pow_pos n in omega arith

pub times_numeric : (texts : List Bytes) (n : ℕ) (o : Option ℤ) → times_cell (pos (10 ^ n)) (coded texts (numeric o)) ≡ value_cell texts (rescaled n (numeric o))
times_numeric texts zero o = refl
times_numeric texts (suc n) None = by (int_eq (pos (10 ^ suc n)) (pos 1))
  where
    by : (b : Bool) → (if b then Ok None else Ok None) ≡ value_cell texts (Ok null)
    by true = refl
    by false = refl
times_numeric texts (suc n) (Some z) = ap (λ (b : Bool). if b then Ok (Some z) else fitted (z *ℤ pos (10 ^ suc n))) (power_not_one n) ∙ exact_coded texts (z *ℤ pos (10 ^ suc n))

abbrev pub IsNumeric : Value → Type 0
IsNumeric v = (o : Option ℤ) × (numeric o ≡ v)

pub rescaled_numeric : (n : ℕ) (o : Option ℤ) → IfOk (rescaled n (numeric o)) IsNumeric
rescaled_numeric zero o = (o, refl)
rescaled_numeric (suc n) None = (None, refl)
rescaled_numeric (suc n) (Some z) = by (in_128_bits (raised (suc n) z))
  where
    by : (o : Option ℤ) → IfOk (or_over o) IsNumeric
    by (Some x) = (Some x, refl)
    by None = tt

-- ---- comparisons

coded_truth : (texts : List Bytes) (b : Bool) → Ok (Some (slots.truth b)) ≡ value_cell texts (Ok (truth b))
coded_truth texts true = refl
coded_truth texts false = refl

opposite_truth : (texts : List Bytes) (b : Bool) → opposite_cell (Some (slots.truth b)) ≡ value_cell texts (Ok (truth (not b)))
opposite_truth texts true = refl
opposite_truth texts false = refl

lt_is : (a b : ℤ) → int_lt a b ≡ is_lt (int_cmp a b)
lt_is a b = by (int_lt a b) (int_lt b a)
  where
    by : (t u : Bool) → t ≡ is_lt (cond t Less (cond u Greater Equal))
    by true u = refl
    by false true = refl
    by false false = refl

gt_is : (a b : ℤ) → int_lt b a ≡ is_gt (int_cmp a b)
gt_is a b = by (int_lt a b) (int_lt b a) (not_both a b)
  where
    not_both : (a b : ℤ) → int_lt a b ≡ true → int_lt b a ≡ false
    not_both a b h = grind arith

    by : (t u : Bool) → (t ≡ true → u ≡ false) → u ≡ is_gt (cond t Less (cond u Greater Equal))
    by true u h = h refl
    by false true h = refl
    by false false h = refl

pub comparing_numbers : (texts : List Bytes) (o : BinaryOp) (a b : ℤ) → comparing_cell o (Some a) (Some b) ≡ value_cell texts (Ok (truth (holds o (int_cmp a b))))
comparing_numbers texts op.Equal a b = coded_truth texts (int_eq a b)
comparing_numbers texts op.Differs a b = opposite_truth texts (int_eq a b)
comparing_numbers texts op.Less a b = coded_truth texts (int_lt a b) ∙ ap (λ (c : Bool). value_cell texts (Ok (truth c))) (lt_is a b)
comparing_numbers texts op.LessEqual a b = opposite_truth texts (int_lt b a) ∙ ap (λ (c : Bool). value_cell texts (Ok (truth (not c)))) (gt_is a b)
comparing_numbers texts op.Greater a b = coded_truth texts (int_lt b a) ∙ ap (λ (c : Bool). value_cell texts (Ok (truth c))) (gt_is a b)
comparing_numbers texts op.GreaterEqual a b = opposite_truth texts (int_lt a b) ∙ ap (λ (c : Bool). value_cell texts (Ok (truth (not c)))) (lt_is a b)
comparing_numbers texts op.Or a b = opposite_truth texts (int_lt a b) ∙ ap (λ (c : Bool). value_cell texts (Ok (truth (not c)))) (lt_is a b)
comparing_numbers texts op.And a b = opposite_truth texts (int_lt a b) ∙ ap (λ (c : Bool). value_cell texts (Ok (truth (not c)))) (lt_is a b)
comparing_numbers texts op.Add a b = opposite_truth texts (int_lt a b) ∙ ap (λ (c : Bool). value_cell texts (Ok (truth (not c)))) (lt_is a b)
comparing_numbers texts op.Subtract a b = opposite_truth texts (int_lt a b) ∙ ap (λ (c : Bool). value_cell texts (Ok (truth (not c)))) (lt_is a b)
comparing_numbers texts op.Multiply a b = opposite_truth texts (int_lt a b) ∙ ap (λ (c : Bool). value_cell texts (Ok (truth (not c)))) (lt_is a b)

-- nothing compares with nothing
pub none_left : (o : BinaryOp) (s : Slot) → comparing_cell o None s ≡ Ok None
none_left op.Equal s = refl
none_left op.Differs s = refl
none_left op.Less None = refl
none_left op.Less (Some z) = refl
none_left op.LessEqual s = refl
none_left op.Greater s = refl
none_left op.GreaterEqual None = refl
none_left op.GreaterEqual (Some z) = refl
none_left op.Or None = refl
none_left op.Or (Some z) = refl
none_left op.And None = refl
none_left op.And (Some z) = refl
none_left op.Add None = refl
none_left op.Add (Some z) = refl
none_left op.Subtract None = refl
none_left op.Subtract (Some z) = refl
none_left op.Multiply None = refl
none_left op.Multiply (Some z) = refl

pub none_right : (o : BinaryOp) (s : Slot) → comparing_cell o s None ≡ Ok None
none_right op.Equal None = refl
none_right op.Equal (Some z) = refl
none_right op.Differs None = refl
none_right op.Differs (Some z) = refl
none_right op.Less s = refl
none_right op.LessEqual None = refl
none_right op.LessEqual (Some z) = refl
none_right op.Greater None = refl
none_right op.Greater (Some z) = refl
none_right op.GreaterEqual s = refl
none_right op.Or s = refl
none_right op.And s = refl
none_right op.Add s = refl
none_right op.Subtract s = refl
none_right op.Multiply s = refl

pub comparing_numeric : (texts : List Bytes) (o : BinaryOp) (a b : Option ℤ) → comparing_cell o (coded texts (numeric a)) (coded texts (numeric b)) ≡ value_cell texts (Ok (comparison o (numeric a) (numeric b)))
comparing_numeric texts o None b = none_left o (coded texts (numeric b))
comparing_numeric texts o (Some x) None = none_right o (Some x)
comparing_numeric texts o (Some x) (Some y) = comparing_numbers texts o x y

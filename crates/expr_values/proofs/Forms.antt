-- The code of each form leaves the form's value: those of one operand, and those of two.
use Rattle.std.proofs.Common.{◌≡◌, ℕ, ◌-◌, ◌==◌, max, ℤ, pos, Bool, true, false, not, ◌&&◌, if◌then◌else◌, List, Option, Some, None, Ok, refl, sym, ap, ◌∙◌, subst}
use Rattle.std.proofs.Math.IntN.{+ℤ_idl}
use Rattle.control_vectors.specs.Slots.{Slot, fitted, fits_128, in_128_bits, or_over}
use Rattle.control_vectors.specs.declared.PairKind.{PairKind}
use Rattle.control_vectors.specs.declared.PairKind.TheVariants as pair
use Rattle.slot_wise.specs.Pairs.{pair_slot}
use Rattle.sql_values.specs.Values.{Value, truth}
use Rattle.query_trees.specs.declared.expr.BinaryOp.{BinaryOp}
use Rattle.query_trees.specs.declared.expr.BinaryOp.TheVariants as op
use Rattle.query_trees.specs.declared.expr.Polarity.{Polarity}
use Rattle.query_trees.specs.declared.expr.Sign.{Sign}
use Rattle.table_load.specs.Databases.{coded}
use Rattle.typed_trees.specs.declared.kinds.Kind.{Kind}
use Rattle.typed_trees.specs.declared.kinds.Kind.TheVariants.{Number, Date, Text, Truth}
use Rattle.typed_trees.specs.declared.typed.TypedExpr.{TypedExpr}
use Rattle.typed_trees.specs.Kinds.{is_number, is_truth, same_kind, compare, family_of, role_in, takes}
use Rattle.typed_trees.specs.Scales.{scale_of}
use Rattle.typed_trees.specs.Sides.{stands}
use Rattle.typed_values.specs.Intervals.{combined}
use Rattle.typed_values.specs.Values.{Valued, with, with_both, exact, arithmetic, signed_value, quotient_value, both, opposite, either, by_polarity, is_null, rescaled, at_one_scale, compared, binary_value, value}
use Rattle.typed_values.proofs.Evaluations.{evaluated}
use Rattle.value_laws.specs.Laws.{is_of, IsOf}
use Rattle.expr_steps.specs.Codes.{Code, one, and_then}
use Rattle.expr_steps.specs.Lowered.{Bytes, Part, part_of, lowered, literal_of, written, constant, text_number, scale_factors, brought_together, binary, in_two, sign_step, divided, null_test}
use Rattle.expr_steps.specs.Lowered as codes
use Rattle.expr_values.specs.Laws.{value_cell}
use Rattle.expr_values.specs.Places.{Place}
use Rattle.expr_values.specs.Written.{fits_127, kind_scale}
use Rattle.expr_values.proofs.Codes.{Begins, Gives, then_cell, one_gives, as_cell}
use Rattle.expr_values.proofs.Cells.{opposite_cell, opposite_gives, null_cell, null_gives, constant_gives, sign_cell, sign_gives, divided_gives, brought_cell, brought_gives}
use Rattle.expr_values.proofs.Numbers.{numeric, opposite_coded, both_coded, either_coded, null_coded, exact_coded, arithmetic_numeric, arithmetic_coded, sign_coded, quotient_coded, written_is}
use Rattle.expr_values.proofs.Sides.{brought_numeric, plain_kind, plain_value}
use Rattle.expr_values.proofs.Scales.{and_left, and_right, same_is, scale_small}
use Rattle.expr_values.proofs.Operands.{Ready, unary_gives, binary_gives, plain_gives, scaled_cells, operand_of, compared_gives}
use Rattle.expr_values.proofs.Fits.{World}
use Rattle.expr_values.proofs.Sound.{ReadyAt, alone, as_kind}

-- ---- literals

constant_is : (z : ℤ) → in_128_bits z ≡ Some z → pair_slot pair.Add (Some (pos 0)) (Some z) ≡ Ok (Some z)
constant_is z h = ap fitted (+ℤ_idl z) ∙ ap or_over h

pub literal_gives : (p : Place) (z : ℤ) → in_128_bits z ≡ Some z → (made : List Slot) → Begins p made → Gives p made (constant z) (Ok (Some z))
literal_gives p z h made b = as_cell p made (constant z) (pair_slot pair.Add (Some (pos 0)) (Some z)) (Ok (Some z)) (constant_is z h) (constant_gives p made z b)

pub fits_is : (z : ℤ) → fits_128 z ≡ true → in_128_bits z ≡ Some z
fits_is z h = by (fits_128 z) h
  where
    by : (b : Bool) → b ≡ true → (if b then Some z else None) ≡ Some z
    by true h = refl
    by false h = absurd (cc)

pub number_gives : (texts : List Bytes) (p : Place) (n : ℕ) → fits_127 n ≡ true → (made : List Slot) → Begins p made → Gives p made (constant (pos (written n))) (value_cell texts (exact (pos n)))
number_gives texts p n h made b =
    as_cell p made (constant (pos (written n))) (Ok (Some (pos n))) (value_cell texts (exact (pos n))) (sym (ap or_over (fits_is (pos n) h)) ∙ exact_coded texts (pos n))
    (subst (λ (m : ℕ). Gives p made (constant (pos m)) (Ok (Some (pos n)))) (sym (written_is n h)) (literal_gives p (pos n) (fits_is (pos n) h) made b))

-- ---- one operand

truth_of : (k : Kind) (v : Value) → is_truth k ≡ true → is_of k v ≡ true → is_of Truth v ≡ true
truth_of Truth v h i = i
truth_of Number v h i = absurd (cc)
truth_of Date v h i = absurd (cc)
truth_of Text v h i = absurd (cc)

number_of : (k : Kind) (v : Value) → is_number k ≡ true → is_of k v ≡ true → is_of Number v ≡ true
number_of Number v h i = i
number_of Date v h i = absurd (cc)
number_of Text v h i = absurd (cc)
number_of Truth v h i = absurd (cc)

number_plain : (k : Kind) → is_number k ≡ true → plain_kind k ≡ true
number_plain Number h = refl
number_plain Date h = absurd (cc)
number_plain Text h = absurd (cc)
number_plain Truth h = absurd (cc)

pub sign_form : (w : World) (s : Sign) (x : TypedExpr) (k : Kind) → is_number k ≡ true → ReadyAt w k None x → (made : List Slot) → Begins w.place made → Gives w.place made (and_then (lowered w.texts x) (sign_step s)) (value_cell w.texts (with (value w.on x) (signed_value s)))
sign_form w s x k h r = unary_gives w.texts w.place k (scale_of x) (value w.on x) (lowered w.texts x) (sign_step s) (sign_cell s) (signed_value s) r (λ l b y t g. sign_gives w.place l s y t g) (λ v i. sign_coded w.texts s v (number_of k v h i))

pub not_form : (w : World) (x : TypedExpr) (k : Kind) → is_truth k ≡ true → ReadyAt w k None x → (made : List Slot) → Begins w.place made → Gives w.place made (and_then (lowered w.texts x) codes.opposite) (value_cell w.texts (with (value w.on x) (λ v. Ok (opposite v))))
not_form w x k h r = unary_gives w.texts w.place k (scale_of x) (value w.on x) (lowered w.texts x) codes.opposite opposite_cell (λ v. Ok (opposite v)) r (λ l b y t g. opposite_gives w.place l y t g) (λ v i. opposite_coded w.texts v (truth_of k v h i))

pub quotient_form : (w : World) (x : TypedExpr) (s : Sign) (n : ℕ) (k : Kind) → fits_127 n ≡ true → not (n == 0) ≡ true → is_number k ≡ true → ReadyAt w k None x → (made : List Slot) → Begins w.place made → Gives w.place made (and_then (lowered w.texts x) (divided s n)) (value_cell w.texts (with (value w.on x) (λ v. quotient_value v s n)))
quotient_form w x s n k f z h r =
    unary_gives w.texts w.place k (scale_of x) (value w.on x) (lowered w.texts x) (divided s n) (λ t. pair_slot pair.Divide t (Some (codes.divisor s n))) (λ v. quotient_value v s n) r (λ l b y t g. divided_gives w.place l s n y t g) (λ v i. quotient_coded w.texts s n v f z (number_of k v h i))

pub null_form : (w : World) (p : Polarity) (x : TypedExpr) (k : Kind) → ReadyAt w k None x → (made : List Slot) → Begins w.place made → Gives w.place made (and_then (lowered w.texts x) (null_test p)) (value_cell w.texts (with (value w.on x) (λ v. Ok (by_polarity p (truth (is_null v))))))
null_form w p x k r = unary_gives w.texts w.place k (scale_of x) (value w.on x) (lowered w.texts x) (null_test p) (null_cell p) (λ v. Ok (by_polarity p (truth (is_null v)))) r (λ l b y t g. null_gives w.place l p y t b g) (λ v i. null_coded w.texts p v)

-- ---- two operands

sum_gives : (texts : List Bytes) (p : Place) (kind : PairKind) (f : ℤ → ℤ → ℤ) (j k : Kind) (c d : ℕ) (q r : Valued) (m n : Code) → plain_kind j ≡ true → plain_kind k ≡ true →
    ((a b : Option ℤ) → pair_slot kind (coded texts (numeric a)) (coded texts (numeric b)) ≡ value_cell texts (arithmetic f (numeric a) (numeric b))) → Ready texts p j None c q m → Ready texts p k None d r n → (made : List Slot) → Begins p made →
    Gives p made (and_then m (λ a. and_then n (λ b. brought_together (scale_factors c d) a b (one kind)))) (value_cell texts (at_one_scale (operand_of c q) (operand_of d r) (arithmetic f)))
sum_gives texts p kind f j k c d q r m n h i same x y made begins =
    let g = λ (u v : Slot). brought_cell (scale_factors c d) u v (pair_slot kind) in
    as_cell p made (and_then m (λ a. and_then n (λ b. brought_together (scale_factors c d) a b (one kind)))) (then_cell (value_cell texts q) (λ u. then_cell (value_cell texts r) (g u))) (value_cell texts (at_one_scale (operand_of c q) (operand_of d r) (arithmetic f)))
    (scaled_cells texts None None (max c d - c) (max c d - d) q r g (arithmetic f) x.text y.text (λ v w e o. of_values v w (subst (λ (z : Valued). IsOf j z) e x.of) (subst (λ (z : Valued). IsOf k z) o y.of) x.fits y.fits))
    (binary_gives texts p j k None None c d q r m n (λ a b. brought_together (scale_factors c d) a b (one kind)) g x y
    (λ l b e o u v stands beside. brought_gives p l (scale_factors c d) e o u v (one kind) (pair_slot kind) stands beside (λ z a b s t. one_gives p z kind a b s t)) made begins)
  where
    of_values : (v w : Value) → is_of j v ≡ true → is_of k w ≡ true → kind_scale j c ≡ true → kind_scale k d ≡ true → brought_cell (scale_factors c d) (coded texts v) (coded texts w) (pair_slot kind) ≡ value_cell texts (with_both (rescaled (max c d - c) v) (rescaled (max c d - d) w) (arithmetic f))
    of_values v w a b s t =
        let x = plain_value j v h a in
        let y = plain_value k w i b in
        subst (λ (z : Value). brought_cell (scale_factors c d) (coded texts z) (coded texts w) (pair_slot kind) ≡ value_cell texts (with_both (rescaled (max c d - c) z) (rescaled (max c d - d) w) (arithmetic f))) x.1
        (subst (λ (z : Value). brought_cell (scale_factors c d) (coded texts (numeric x.0)) (coded texts z) (pair_slot kind) ≡ value_cell texts (with_both (rescaled (max c d - c) (numeric x.0)) (rescaled (max c d - d) z) (arithmetic f))) y.1
        (brought_numeric texts c d x.0 y.0 (pair_slot kind) (arithmetic f) (scale_small j c s) (scale_small k d t) same))

-- two operands of an operator
abbrev pub BinaryGives : World → BinaryOp → TypedExpr → TypedExpr → Type 0
BinaryGives w o x y = (made : List Slot) → Begins w.place made → Gives w.place made (in_two (part_of w.texts x) (part_of w.texts y) (binary w.texts o (part_of w.texts x) (part_of w.texts y))) (value_cell w.texts (binary_value o (evaluated w.on x) (evaluated w.on y)))

logic_gives : (w : World) (kind : PairKind) (f : Value → Value → Value) (x y : TypedExpr) (j k : Kind) → (is_truth j && is_truth k) ≡ true → ReadyAt w j None x → ReadyAt w k None y →
    ((v u : Value) → is_of Truth v ≡ true → is_of Truth u ≡ true → pair_slot kind (coded w.texts v) (coded w.texts u) ≡ value_cell w.texts (Ok (f v u))) → (made : List Slot) → Begins w.place made →
    Gives w.place made (and_then (lowered w.texts x) (λ a. and_then (lowered w.texts y) (λ b. one kind a b))) (value_cell w.texts (with_both (value w.on x) (value w.on y) (λ v u. Ok (f v u))))
logic_gives w kind f x y j k h r q same =
    plain_gives w.texts w.place j k (scale_of x) (scale_of y) (value w.on x) (value w.on y) (lowered w.texts x) (lowered w.texts y) (one kind) (pair_slot kind) (λ v u. Ok (f v u)) r q (λ l b a c s t g i. one_gives w.place l kind a c s t g i)
    (λ v u a b. same v u (truth_of j v (and_left (is_truth j) (is_truth k) h) a) (truth_of k u (and_right (is_truth j) (is_truth k) h) b))

comparison_gives : (w : World) (o : BinaryOp) (x y : TypedExpr) (j k : Kind) → compare j k ≡ true → ReadyAt w j (literal_of x) x → ReadyAt w k (literal_of y) y → (made : List Slot) → Begins w.place made →
    Gives w.place made (and_then (lowered w.texts x) (λ a. and_then (lowered w.texts y) (λ b. codes.compared w.texts o (part_of w.texts x) (part_of w.texts y) a b))) (value_cell w.texts (compared o (evaluated w.on x) (evaluated w.on y)))
comparison_gives w o x y j k h r q =
    compared_gives w.texts w.place j o (literal_of x) (literal_of y) (scale_of x) (scale_of y) (value w.on x) (value w.on y) (lowered w.texts x) (lowered w.texts y) w.few (and_right (same_kind j k) (not (is_truth j)) h) r
    (as_kind w y j k (literal_of y) (sym (same_is j k (and_left (same_kind j k) (not (is_truth j)) h))) q)

pub binary_form : (w : World) (o : BinaryOp) (x y : TypedExpr) (j k : Kind) → takes (family_of o) j k ≡ true → stands x (role_in (family_of o)) ≡ true → stands y (role_in (family_of o)) ≡ true → ReadyAt w j (literal_of x) x → ReadyAt w k (literal_of y) y → BinaryGives w o x y
binary_form w op.Or x y j k h s t r q = logic_gives w pair.LogicalOr either x y j k h (alone w x j s r) (alone w y k t q) (either_coded w.texts)
binary_form w op.And x y j k h s t r q = logic_gives w pair.LogicalAnd both x y j k h (alone w x j s r) (alone w y k t q) (both_coded w.texts)
binary_form w op.Add x y j k h s t r q =
    sum_gives w.texts w.place pair.Add (combined op.Add) j k (scale_of x) (scale_of y) (value w.on x) (value w.on y) (lowered w.texts x) (lowered w.texts y) (number_plain j (and_left (is_number j) (is_number k) h)) (number_plain k (and_right (is_number j) (is_number k) h))
    (arithmetic_numeric w.texts (combined op.Add)) (alone w x j s r) (alone w y k t q)
binary_form w op.Subtract x y j k h s t r q =
    sum_gives w.texts w.place pair.Subtract (combined op.Subtract) j k (scale_of x) (scale_of y) (value w.on x) (value w.on y) (lowered w.texts x) (lowered w.texts y) (number_plain j (and_left (is_number j) (is_number k) h)) (number_plain k (and_right (is_number j) (is_number k) h))
    (arithmetic_numeric w.texts (combined op.Subtract)) (alone w x j s r) (alone w y k t q)
binary_form w op.Multiply x y j k h s t r q =
    plain_gives w.texts w.place j k (scale_of x) (scale_of y) (value w.on x) (value w.on y) (lowered w.texts x) (lowered w.texts y) (one pair.Multiply) (pair_slot pair.Multiply) (arithmetic (combined op.Multiply)) (alone w x j s r) (alone w y k t q)
    (λ l b a c s t g i. one_gives w.place l pair.Multiply a c s t g i)
    (λ v u a b. arithmetic_coded w.texts (combined op.Multiply) v u (number_of j v (and_left (is_number j) (is_number k) h) a) (number_of k u (and_right (is_number j) (is_number k) h) b))
binary_form w op.Equal x y j k h s t r q = comparison_gives w op.Equal x y j k h r q
binary_form w op.Differs x y j k h s t r q = comparison_gives w op.Differs x y j k h r q
binary_form w op.Less x y j k h s t r q = comparison_gives w op.Less x y j k h r q
binary_form w op.LessEqual x y j k h s t r q = comparison_gives w op.LessEqual x y j k h r q
binary_form w op.Greater x y j k h s t r q = comparison_gives w op.Greater x y j k h r q
binary_form w op.GreaterEqual x y j k h s t r q = comparison_gives w op.GreaterEqual x y j k h r q

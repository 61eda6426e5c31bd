-- At most how many steps a piece of code has.
use Rattle.std.proofs.Common.{◌≡◌, ℕ, ◌+◌, ◌-◌, ◌^◌, ◌≤◌, ◌<◌, ◌⊎◌, inl, inr, ℤ, pos, Bool, true, false, if◌then◌else◌, List, length, max, Option, Some, None, refl, sym, ap, arith, subst, length-append}
use Rattle.std.specs.Ordering.{int_eq}
use Rattle.std.proofs.lemmas.Bool.{cases_lt}
use Rattle.control_vectors.specs.declared.PairKind.{PairKind}
use Rattle.control_vectors.specs.declared.PairKind.TheVariants as pair
use Rattle.query_trees.specs.declared.expr.BinaryOp.{BinaryOp}
use Rattle.query_trees.specs.declared.expr.BinaryOp.TheVariants as op
use Rattle.query_trees.specs.declared.expr.Polarity.{Polarity}
use Rattle.query_trees.specs.declared.expr.Polarity.TheVariants.{Plain, Negated}
use Rattle.query_trees.specs.declared.expr.Sign.{Sign}
use Rattle.query_trees.specs.declared.expr.Sign.TheVariants.{Plus, Minus}
use Rattle.typed_values.specs.Narrow.{counted}
use Rattle.typed_values.specs.Values.{holds}
use Rattle.sql_values.specs.Texts.{by_bytes}
use Rattle.expr_steps.specs.declared.steps.Factors.{Factors}
use Rattle.expr_steps.specs.declared.steps.Source.{Source}
use Rattle.expr_steps.specs.declared.steps.Source.TheVariants.{Number}
use Rattle.expr_steps.specs.Codes.{Code, from_source, one, and_then}
use Rattle.expr_steps.specs.Lowered.{Bytes, Part, opposite, by_polarity, times, raise, between_scales, factors_of, brought_together, known, comparing, compared_as, compared, binary, sign_step, outside, unless_negated, null_test, found_equal, filled_from}
use Rattle.expr_counts.specs.Counts.{comparison_steps, binary_steps, in_steps, between_steps}

abbrev pub AtMost : ℕ → Code → Type 0
AtMost n m = (k : ℕ) → length (m k).steps ≤ n

pub then_most : (a b : ℕ) (m : Code) (f : Source → Code) → AtMost a m → ((x : Source) → AtMost b (f x)) → AtMost (a + b) (and_then m f)
then_most a b m f first next k =
    let both = length-append (m k).steps (f (m k).result (k + length (m k).steps)).steps in
    let some = first k in
    let more = next (m k).result (k + length (m k).steps) in
    omega (arith, both, some, more)

pub fewer : (a b : ℕ) (m : Code) → a ≤ b → AtMost a m → AtMost b m
fewer a b m h few k = let some = few k in omega (arith, h, some)

pub none_most : (x : Source) → AtMost 0 (from_source x)
none_most x k = omega arith

pub one_most : (kind : PairKind) (x y : Source) → AtMost 1 (one kind x y)
one_most kind x y k = omega arith

-- ---- products

times_if : (b : Bool) (f : ℤ) (x : Source) (k : ℕ) → length ((if b then from_source x else one pair.Multiply x (Number f)) k).steps ≤ 1
times_if true f x k = omega arith
times_if false f x k = omega arith

pub times_most : (f : ℤ) (x : Source) → AtMost 1 (times f x)
times_most f x k = times_if (int_eq f (pos 1)) f x k

pub times_none : (f : ℤ) (x : Source) → f ≡ pos 1 → AtMost 0 (times f x)
times_none f x e k = subst (λ (g : ℤ). length (times g x k).steps ≤ 0) (sym e) (omega arith)

-- one of two operands stays as it is
pub data StaysOne (f : Factors) : Type 0 where
  first : f.x ≡ pos 1 → StaysOne f
  second : f.y ≡ pos 1 → StaysOne f

pub together_most : (n : ℕ) (f : Factors) (a b : Source) (next : Source → Source → Code) → StaysOne f → ((x y : Source) → AtMost n (next x y)) → AtMost (1 + n) (brought_together f a b next)
together_most n f a b next (first e) h =
    fewer (0 + (1 + n)) (1 + n) (brought_together f a b next) (omega arith)
    (then_most 0 (1 + n) (times f.x a) (λ x. and_then (times f.y b) (λ y. next x y)) (times_none f.x a e) (λ x. then_most 1 n (times f.y b) (λ y. next x y) (times_most f.y b) (λ y. h x y)))
together_most n f a b next (second e) h =
    fewer (1 + (0 + n)) (1 + n) (brought_together f a b next) (omega arith)
    (then_most 1 (0 + n) (times f.x a) (λ x. and_then (times f.y b) (λ y. next x y)) (times_most f.x a) (λ x. then_most 0 n (times f.y b) (λ y. next x y) (times_none f.y b e) (λ y. h x y)))

pub scales_stay : (s t : ℕ) → StaysOne (between_scales s t)
scales_stay s t = by_order (cases_lt s t)
  where
    by_order : (s < t) ⊎ (t ≤ s) → StaysOne (between_scales s t)
    by_order (inl h) = second (let e : max s t - t ≡ 0 = omega (arith, h) in ap (λ (n : ℕ). pos (10 ^ n)) e)
    by_order (inr h) = first (let e : max s t - s ≡ 0 = omega (arith, h) in ap (λ (n : ℕ). pos (10 ^ n)) e)

factors_stay : (texts : List Bytes) (a b : Option Bytes) (s t : ℕ) → StaysOne (factors_of texts a b s t)
factors_stay texts (Some a) b s t = first refl
factors_stay texts None (Some b) s t = second refl
factors_stay texts None None s t = scales_stay (counted s) (counted t)

-- ---- comparisons

pub opposite_most : (x : Source) → AtMost 1 (opposite x)
opposite_most x k = omega arith

abbrev pub comparing_most : (o : BinaryOp) → ℕ
comparing_most op.Equal = 1
comparing_most op.Less = 1
comparing_most op.Greater = 1
comparing_most o = 2

comparing_few : (o : BinaryOp) (x y : Source) → AtMost (comparing_most o) (comparing o x y)
comparing_few op.Or x y k = omega arith
comparing_few op.And x y k = omega arith
comparing_few op.Equal x y k = omega arith
comparing_few op.Differs x y k = omega arith
comparing_few op.Less x y k = omega arith
comparing_few op.LessEqual x y k = omega arith
comparing_few op.Greater x y k = omega arith
comparing_few op.GreaterEqual x y k = omega arith
comparing_few op.Add x y k = omega arith
comparing_few op.Subtract x y k = omega arith
comparing_few op.Multiply x y k = omega arith

one_more : (o : BinaryOp) → 1 + comparing_most o ≤ comparison_steps o
one_more op.Or = omega arith
one_more op.And = omega arith
one_more op.Equal = omega arith
one_more op.Differs = omega arith
one_more op.Less = omega arith
one_more op.LessEqual = omega arith
one_more op.Greater = omega arith
one_more op.GreaterEqual = omega arith
one_more op.Add = omega arith
one_more op.Subtract = omega arith
one_more op.Multiply = omega arith

brought_most : (o : BinaryOp) (f : Factors) (a b : Source) → StaysOne f → AtMost (comparison_steps o) (brought_together f a b (comparing o))
brought_most o f a b h = fewer (1 + comparing_most o) (comparison_steps o) (brought_together f a b (comparing o)) (one_more o) (together_most (comparing_most o) f a b (comparing o) h (comparing_few o))

-- two literals
known_most : (h : Bool) (a b : Source) → AtMost 2 (known h a b)
known_most h a b k = omega arith

two_few : (o : BinaryOp) → 2 ≤ comparison_steps o
two_few op.Or = omega arith
two_few op.And = omega arith
two_few op.Equal = omega arith
two_few op.Differs = omega arith
two_few op.Less = omega arith
two_few op.LessEqual = omega arith
two_few op.Greater = omega arith
two_few op.GreaterEqual = omega arith
two_few op.Add = omega arith
two_few op.Subtract = omega arith
two_few op.Multiply = omega arith

compared_as_most : (o : BinaryOp) (s t : Option Bytes) (f : Factors) (a b : Source) → StaysOne f → AtMost (comparison_steps o) (compared_as o s t f a b)
compared_as_most o (Some s) (Some t) f a b h = fewer 2 (comparison_steps o) (known (holds o (by_bytes s t)) a b) (two_few o) (known_most (holds o (by_bytes s t)) a b)
compared_as_most o (Some s) None f a b h = brought_most o f a b h
compared_as_most o None t f a b h = brought_most o f a b h

pub compared_most : (texts : List Bytes) (o : BinaryOp) (x y : Part) (a b : Source) → AtMost (comparison_steps o) (compared texts o x y a b)
compared_most texts o x y a b = compared_as_most o x.text y.text (factors_of texts x.text y.text x.scale y.scale) a b (factors_stay texts x.text y.text x.scale y.scale)

-- ---- the operators

pub binary_most : (texts : List Bytes) (o : BinaryOp) (x y : Part) (a b : Source) → AtMost (binary_steps o) (binary texts o x y a b)
binary_most texts op.Or x y a b = λ k. omega arith
binary_most texts op.And x y a b = λ k. omega arith
binary_most texts op.Add x y a b = together_most 1 (between_scales (counted x.scale) (counted y.scale)) a b (one pair.Add) (scales_stay (counted x.scale) (counted y.scale)) (one_most pair.Add)
binary_most texts op.Subtract x y a b = together_most 1 (between_scales (counted x.scale) (counted y.scale)) a b (one pair.Subtract) (scales_stay (counted x.scale) (counted y.scale)) (one_most pair.Subtract)
binary_most texts op.Multiply x y a b = λ k. omega arith
binary_most texts op.Equal x y a b = compared_most texts op.Equal x y a b
binary_most texts op.Differs x y a b = compared_most texts op.Differs x y a b
binary_most texts op.Less x y a b = compared_most texts op.Less x y a b
binary_most texts op.LessEqual x y a b = compared_most texts op.LessEqual x y a b
binary_most texts op.Greater x y a b = compared_most texts op.Greater x y a b
binary_most texts op.GreaterEqual x y a b = compared_most texts op.GreaterEqual x y a b

pub sign_most : (s : Sign) (x : Source) → AtMost 1 (sign_step s x)
sign_most Plus x k = omega arith
sign_most Minus x k = omega arith

pub null_test_most : (p : Polarity) (x : Source) → AtMost 2 (null_test p x)
null_test_most Plain x k = omega arith
null_test_most Negated x k = omega arith

pub polarity_most : (p : Polarity) (x : Source) → AtMost (in_steps p) (by_polarity p x)
polarity_most Plain x k = omega arith
polarity_most Negated x k = omega arith

abbrev pub turned : Polarity → ℕ
turned Plain = 1
turned Negated = 0

turned_most : (p : Polarity) (x : Source) → AtMost (turned p) (unless_negated p x)
turned_most Plain x k = omega arith
turned_most Negated x k = omega arith

outside_most : (texts : List Bytes) (x least most : Part) (a b c : Source) → AtMost 5 (outside texts x least most a b c)
outside_most texts x least most a b c =
    then_most 2 3 (compared texts op.Less x least a b) (λ below. and_then (compared texts op.Greater x most a c) (one pair.LogicalOr below)) (compared_most texts op.Less x least a b)
    (λ below. then_most 2 1 (compared texts op.Greater x most a c) (one pair.LogicalOr below) (compared_most texts op.Greater x most a c) (λ above. one_most pair.LogicalOr below above))

sum_turned : (p : Polarity) → 5 + turned p ≤ between_steps p
sum_turned Plain = omega arith
sum_turned Negated = omega arith

pub between_most : (texts : List Bytes) (p : Polarity) (x least most : Part) (a b c : Source) → AtMost (between_steps p) (and_then (outside texts x least most a b c) (unless_negated p))
between_most texts p x least most a b c =
    fewer (5 + turned p) (between_steps p) (and_then (outside texts x least most a b c) (unless_negated p)) (sum_turned p)
    (then_most 5 (turned p) (outside texts x least most a b c) (unless_negated p) (outside_most texts x least most a b c) (turned_most p))

pub found_equal_most : (texts : List Bytes) (x y : Part) (a found b : Source) → AtMost 3 (found_equal texts x a y found b)
found_equal_most texts x y a found b = then_most 2 1 (compared texts op.Equal x y a b) (one pair.LogicalOr found) (compared_most texts op.Equal x y a b) (λ same. one_most pair.LogicalOr found same)

pub filled_from_most : (to scale : ℕ) (found b : Source) → AtMost 2 (filled_from to scale found b)
filled_from_most to scale found b = then_most 1 1 (times (raise to (counted scale)) b) (one pair.Fill found) (times_most (raise to (counted scale)) b) (λ c. one_most pair.Fill found c)

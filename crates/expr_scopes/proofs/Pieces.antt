-- The pieces that each form is made of: each is sound, and reads its operands.
use Rattle.std.proofs.Common.{ℕ, ◌≤◌, ℤ, pos, Bool, true, false, if◌then◌else◌, arith}
use Rattle.std.specs.Ordering.{int_eq}
use Rattle.control_vectors.specs.declared.PairKind.{PairKind}
use Rattle.control_vectors.specs.declared.PairKind.TheVariants as pair
use Rattle.query_trees.specs.declared.expr.BinaryOp.{BinaryOp}
use Rattle.query_trees.specs.declared.expr.BinaryOp.TheVariants as op
use Rattle.query_trees.specs.declared.expr.Polarity.{Polarity}
use Rattle.query_trees.specs.declared.expr.Polarity.TheVariants.{Plain, Negated}
use Rattle.query_trees.specs.declared.expr.Sign.{Sign}
use Rattle.query_trees.specs.declared.expr.Sign.TheVariants.{Plus, Minus}
use Rattle.expr_steps.specs.declared.steps.Factors.{Factors}
use Rattle.expr_steps.specs.declared.steps.Source.{Source}
use Rattle.expr_steps.specs.declared.steps.Source.TheVariants.{Number}
use Rattle.expr_steps.specs.Codes.{Code, from_source, one, and_then}
use Rattle.expr_steps.specs.Lowered.{zero, unit, truth_source, opposite, by_polarity, constant, times, brought_together, known, comparing, sign_step, divisor, divided, unless_negated, null_test}
use Rattle.expr_scopes.specs.Scopes.{Names}
use Rattle.expr_scopes.specs.Laws.{Stands, IsSound}
use Rattle.expr_scopes.proofs.Sound.{stands_later, stands_before, Reads, reads_first, reads_behind, sound_source, reads_source, sound_then, one_first, one_second, reads_x, reads_y}

-- code of one operand, and of two, wherever it is numbered from 2 on
abbrev pub SoundOf : Names → (Source → Code) → Type 0
SoundOf names f = (x : Source) (k : ℕ) → 2 ≤ k → Stands names k x → IsSound names k (f x k)

abbrev pub ReadsIt : (Source → Code) → Type 0
ReadsIt f = (x : Source) (k : ℕ) → Reads x (f x k)

abbrev pub SoundOfTwo : Names → (Source → Source → Code) → Type 0
SoundOfTwo names f = (x y : Source) (k : ℕ) → 2 ≤ k → Stands names k x → Stands names k y → IsSound names k (f x y k)

abbrev pub ReadsFirst : (Source → Source → Code) → Type 0
ReadsFirst f = (x y : Source) (k : ℕ) → Reads x (f x y k)

abbrev pub ReadsSecond : (Source → Source → Code) → Type 0
ReadsSecond f = (x y : Source) (k : ℕ) → Reads y (f x y k)

-- ---- truths and literals

pub zero_stands : (names : Names) (k : ℕ) → 2 ≤ k → Stands names k zero
zero_stands names k h = omega (arith, h)

pub unit_stands : (names : Names) (k : ℕ) → 2 ≤ k → Stands names k unit
unit_stands names k h = omega (arith, h)

pub truth_stands : (names : Names) (b : Bool) (k : ℕ) → 2 ≤ k → Stands names k (truth_source b)
truth_stands names true k h = unit_stands names k h
truth_stands names false k h = zero_stands names k h

pub opposite_sound : (names : Names) → SoundOf names opposite
opposite_sound names x k two h = one_first names k pair.Equals x (Number (pos 0)) h tt

pub opposite_reads : ReadsIt opposite
opposite_reads x k = reads_x pair.Equals x (Number (pos 0)) k

pub polarity_sound : (names : Names) (p : Polarity) → SoundOf names (by_polarity p)
polarity_sound names Plain x k two h = sound_source names k x h
polarity_sound names Negated x k two h = opposite_sound names x k two h

pub polarity_reads : (p : Polarity) → ReadsIt (by_polarity p)
polarity_reads Plain x k = reads_source x k
polarity_reads Negated x k = opposite_reads x k

pub unless_sound : (names : Names) (p : Polarity) → SoundOf names (unless_negated p)
unless_sound names Plain x k two h = opposite_sound names x k two h
unless_sound names Negated x k two h = sound_source names k x h

pub unless_reads : (p : Polarity) → ReadsIt (unless_negated p)
unless_reads Plain x k = opposite_reads x k
unless_reads Negated x k = reads_source x k

pub constant_sound : (names : Names) (z : ℤ) (k : ℕ) → 2 ≤ k → IsSound names k (constant z k)
constant_sound names z k two = one_first names k pair.Add zero (Number z) (zero_stands names k two) tt

pub sign_sound : (names : Names) (s : Sign) → SoundOf names (sign_step s)
sign_sound names Plus x k two h = one_second names k pair.Add (Number (pos 0)) x tt h
sign_sound names Minus x k two h = one_second names k pair.Subtract (Number (pos 0)) x tt h

pub sign_reads : (s : Sign) → ReadsIt (sign_step s)
sign_reads Plus x k = reads_y pair.Add (Number (pos 0)) x k
sign_reads Minus x k = reads_y pair.Subtract (Number (pos 0)) x k

pub divided_sound : (names : Names) (s : Sign) (n : ℕ) → SoundOf names (divided s n)
divided_sound names s n x k two h = one_first names k pair.Divide x (Number (divisor s n)) h tt

pub divided_reads : (s : Sign) (n : ℕ) → ReadsIt (divided s n)
divided_reads s n x k = reads_x pair.Divide x (Number (divisor s n)) k

-- ---- one piece behind another

pub two_later : (k n : ℕ) → 2 ≤ k → k ≤ n → 2 ≤ n
two_later k n two h = omega (arith, two, h)

pub then_sound : (names : Names) (m : Code) (f : Source → Code) (k : ℕ) → 2 ≤ k → IsSound names k (m k) → SoundOf names f → ReadsIt f → IsSound names k (and_then m f k)
then_sound names m f k two first next hand = sound_then names k (m k) f first (λ x n h s. next x n (two_later k n two h) s) hand

-- one step of two operands that stand
pub two_sound : (names : Names) (kind : PairKind) → SoundOfTwo names (one kind)
two_sound names kind x y k two a b = one_first names k kind x y a (stands_before names k y b)

pub two_first : (kind : PairKind) → ReadsFirst (one kind)
two_first kind x y k = reads_x kind x y k

pub two_second : (kind : PairKind) → ReadsSecond (one kind)
two_second kind x y k = reads_y kind x y k

pub turned_sound : (names : Names) (kind : PairKind) → SoundOfTwo names (λ x y. one kind y x)
turned_sound names kind x y k two a b = one_first names k kind y x b (stands_before names k x a)

-- ---- products, and operands that are brought together

times_if_sound : (names : Names) (b : Bool) (f : ℤ) (x : Source) (k : ℕ) → Stands names k x → IsSound names k ((if b then from_source x else one pair.Multiply x (Number f)) k)
times_if_sound names true f x k h = sound_source names k x h
times_if_sound names false f x k h = one_first names k pair.Multiply x (Number f) h tt

pub times_sound : (names : Names) (f : ℤ) → SoundOf names (times f)
times_sound names f x k two h = times_if_sound names (int_eq f (pos 1)) f x k h

times_if_reads : (b : Bool) (f : ℤ) (x : Source) (k : ℕ) → Reads x ((if b then from_source x else one pair.Multiply x (Number f)) k)
times_if_reads true f x k = reads_source x k
times_if_reads false f x k = reads_x pair.Multiply x (Number f) k

pub times_reads : (f : ℤ) → ReadsIt (times f)
times_reads f x k = times_if_reads (int_eq f (pos 1)) f x k

pub together_sound : (names : Names) (f : Factors) (next : Source → Source → Code) → SoundOfTwo names next → ReadsFirst next → ReadsSecond next → SoundOfTwo names (λ a b. brought_together f a b next)
together_sound names f next h first second a b k two sa sb =
    sound_then names k (times f.x a k) (λ x. and_then (times f.y b) (λ y. next x y)) (times_sound names f.x a k two sa)
    (λ x n l sx. sound_then names n (times f.y b n) (λ y. next x y) (times_sound names f.y b n (two_later k n two l) (stands_later names k n b l sb))
    (λ y m l2 sy. h x y m (two_later n m (two_later k n two l) l2) (stands_later names n m x l2 sx) sy) (λ y m. second x y m))
    (λ x n. reads_behind x (times f.y b n) (λ y. next x y) n (λ y m. first x y m))

pub together_first : (f : Factors) (next : Source → Source → Code) → ReadsFirst next → ReadsFirst (λ a b. brought_together f a b next)
together_first f next first a b k =
    reads_first a (times f.x a k) (λ x. and_then (times f.y b) (λ y. next x y)) k (times_reads f.x a k)
    (λ x n. reads_behind x (times f.y b n) (λ y. next x y) n (λ y m. first x y m))

pub together_second : (f : Factors) (next : Source → Source → Code) → ReadsSecond next → ReadsSecond (λ a b. brought_together f a b next)
together_second f next second a b k =
    reads_behind b (times f.x a k) (λ x. and_then (times f.y b) (λ y. next x y)) k
    (λ x n. reads_first b (times f.y b n) (λ y. next x y) n (times_reads f.y b n) (λ y m. second x y m))

-- ---- comparisons

pub known_sound : (names : Names) (h : Bool) → SoundOfTwo names (known h)
known_sound names h a b k two sa sb =
    sound_then names k (one pair.Fill (truth_source h) a k) (λ x. one pair.Fill x b) (two_sound names pair.Fill (truth_source h) a k two (truth_stands names h k two) sa)
    (λ x n l sx. two_sound names pair.Fill x b n (two_later k n two l) sx (stands_later names k n b l sb)) (λ x n. reads_x pair.Fill x b n)

pub known_first : (h : Bool) → ReadsFirst (known h)
known_first h a b k = reads_first a (one pair.Fill (truth_source h) a k) (λ x. one pair.Fill x b) k (reads_y pair.Fill (truth_source h) a k) (λ x n. reads_x pair.Fill x b n)

pub known_second : (h : Bool) → ReadsSecond (known h)
known_second h a b k = reads_behind b (one pair.Fill (truth_source h) a k) (λ x. one pair.Fill x b) k (λ x n. reads_y pair.Fill x b n)

-- a step, and its opposite
opposed_sound : (names : Names) (kind : PairKind) → SoundOfTwo names (λ x y. and_then (one kind x y) opposite)
opposed_sound names kind x y k two a b = then_sound names (one kind x y) opposite k two (two_sound names kind x y k two a b) (opposite_sound names) opposite_reads

opposed_first : (kind : PairKind) → ReadsFirst (λ x y. and_then (one kind x y) opposite)
opposed_first kind x y k = reads_first x (one kind x y k) opposite k (reads_x kind x y k) opposite_reads

opposed_second : (kind : PairKind) → ReadsSecond (λ x y. and_then (one kind x y) opposite)
opposed_second kind x y k = reads_first y (one kind x y k) opposite k (reads_y kind x y k) opposite_reads

below_sound : (names : Names) → SoundOfTwo names (λ x y. and_then (one pair.Greater y x) opposite)
below_sound names x y k two a b = opposed_sound names pair.Greater y x k two b a

below_first : ReadsFirst (λ x y. and_then (one pair.Greater y x) opposite)
below_first x y k = opposed_second pair.Greater y x k

below_second : ReadsSecond (λ x y. and_then (one pair.Greater y x) opposite)
below_second x y k = opposed_first pair.Greater y x k

pub comparing_sound : (names : Names) (o : BinaryOp) → SoundOfTwo names (comparing o)
comparing_sound names op.Or = below_sound names
comparing_sound names op.And = below_sound names
comparing_sound names op.Equal = two_sound names pair.Equals
comparing_sound names op.Differs = opposed_sound names pair.Equals
comparing_sound names op.Less = turned_sound names pair.Greater
comparing_sound names op.LessEqual = opposed_sound names pair.Greater
comparing_sound names op.Greater = two_sound names pair.Greater
comparing_sound names op.GreaterEqual = below_sound names
comparing_sound names op.Add = below_sound names
comparing_sound names op.Subtract = below_sound names
comparing_sound names op.Multiply = below_sound names

pub comparing_first : (o : BinaryOp) → ReadsFirst (comparing o)
comparing_first op.Or = below_first
comparing_first op.And = below_first
comparing_first op.Equal = two_first pair.Equals
comparing_first op.Differs = opposed_first pair.Equals
comparing_first op.Less = λ x y k. reads_y pair.Greater y x k
comparing_first op.LessEqual = opposed_first pair.Greater
comparing_first op.Greater = two_first pair.Greater
comparing_first op.GreaterEqual = below_first
comparing_first op.Add = below_first
comparing_first op.Subtract = below_first
comparing_first op.Multiply = below_first

pub comparing_second : (o : BinaryOp) → ReadsSecond (comparing o)
comparing_second op.Or = below_second
comparing_second op.And = below_second
comparing_second op.Equal = two_second pair.Equals
comparing_second op.Differs = opposed_second pair.Equals
comparing_second op.Less = λ x y k. reads_x pair.Greater y x k
comparing_second op.LessEqual = opposed_second pair.Greater
comparing_second op.Greater = two_second pair.Greater
comparing_second op.GreaterEqual = below_second
comparing_second op.Add = below_second
comparing_second op.Subtract = below_second
comparing_second op.Multiply = below_second

-- ---- IS NULL

pub null_test_sound : (names : Names) (p : Polarity) → SoundOf names (null_test p)
null_test_sound names Plain x k two h =
    sound_then names k (one pair.Greater x x k) (λ t. one pair.Fill t unit) (two_sound names pair.Greater x x k two h h)
    (λ t n l s. two_sound names pair.Fill t unit n (two_later k n two l) s (unit_stands names n (two_later k n two l))) (λ t n. reads_x pair.Fill t unit n)
null_test_sound names Negated x k two h =
    sound_then names k (one pair.Equals x x k) (λ t. one pair.Fill t zero) (two_sound names pair.Equals x x k two h h)
    (λ t n l s. two_sound names pair.Fill t zero n (two_later k n two l) s (zero_stands names n (two_later k n two l))) (λ t n. reads_x pair.Fill t zero n)

pub null_test_reads : (p : Polarity) → ReadsIt (null_test p)
null_test_reads Plain x k = reads_first x (one pair.Greater x x k) (λ t. one pair.Fill t unit) k (reads_x pair.Greater x x k) (λ t n. reads_x pair.Fill t unit n)
null_test_reads Negated x k = reads_first x (one pair.Equals x x k) (λ t. one pair.Fill t zero) k (reads_x pair.Equals x x k) (λ t n. reads_x pair.Fill t zero n)

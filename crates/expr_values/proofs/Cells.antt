-- What each operator of an expression's code gives, by the slots of its operands.
use Rattle.std.proofs.Common.{ℕ, ℤ, pos, Bool, true, false, if◌then◌else◌, List, Some, Ok}
use Rattle.std.specs.Ordering.{int_eq}
use Rattle.control_vectors.specs.Slots.{Slot, Cell}
use Rattle.control_vectors.specs.declared.PairKind.TheVariants as pair
use Rattle.slot_wise.specs.Pairs.{pair_slot}
use Rattle.query_trees.specs.declared.expr.BinaryOp.{BinaryOp}
use Rattle.query_trees.specs.declared.expr.BinaryOp.TheVariants as op
use Rattle.query_trees.specs.declared.expr.Polarity.{Polarity}
use Rattle.query_trees.specs.declared.expr.Polarity.TheVariants.{Plain, Negated}
use Rattle.query_trees.specs.declared.expr.Sign.{Sign}
use Rattle.query_trees.specs.declared.expr.Sign.TheVariants.{Plus, Minus}
use Rattle.expr_steps.specs.declared.steps.Factors.{Factors}
use Rattle.expr_steps.specs.declared.steps.Source.{Source}
use Rattle.expr_steps.specs.declared.steps.Source.TheVariants.{Number}
use Rattle.expr_steps.specs.Codes.{Code, from_source, one, and_then}
use Rattle.expr_steps.specs.Lowered.{zero, unit, opposite, by_polarity, unless_negated, constant, times, brought_together, comparing, sign_step, divided, divisor, null_test}
use Rattle.expr_values.specs.Places.{Place}
use Rattle.expr_values.proofs.Codes.{Stands, Begins, Gives, Later, then_cell, source_gives, one_gives, number_stands, then_gives}

-- ---- truths

abbrev pub opposite_cell : Slot → Cell
opposite_cell s = pair_slot pair.Equals s (Some (pos 0))

pub opposite_gives : (p : Place) (l : List Slot) (x : Source) (s : Slot) → Stands p l x s → Gives p l (opposite x) (opposite_cell s)
opposite_gives p l x s h = one_gives p l pair.Equals x (Number (pos 0)) s (Some (pos 0)) h (number_stands p l (pos 0))

abbrev pub polarity_cell : Polarity → Slot → Cell
polarity_cell Plain s = Ok s
polarity_cell Negated s = opposite_cell s

pub polarity_gives : (p : Place) (l : List Slot) (by : Polarity) (x : Source) (s : Slot) → Stands p l x s → Gives p l (by_polarity by x) (polarity_cell by s)
polarity_gives p l Plain x s h = source_gives p l x s h
polarity_gives p l Negated x s h = opposite_gives p l x s h

abbrev pub unless_cell : Polarity → Slot → Cell
unless_cell Plain s = opposite_cell s
unless_cell Negated s = Ok s

pub unless_gives : (p : Place) (l : List Slot) (by : Polarity) (x : Source) (s : Slot) → Stands p l x s → Gives p l (unless_negated by x) (unless_cell by s)
unless_gives p l Plain x s h = opposite_gives p l x s h
unless_gives p l Negated x s h = source_gives p l x s h

abbrev pub null_cell : Polarity → Slot → Cell
null_cell Plain s = then_cell (pair_slot pair.Greater s s) (λ t. pair_slot pair.Fill t (Some (pos 1)))
null_cell Negated s = then_cell (pair_slot pair.Equals s s) (λ t. pair_slot pair.Fill t (Some (pos 0)))

pub null_gives : (p : Place) (l : List Slot) (by : Polarity) (x : Source) (s : Slot) → Begins p l → Stands p l x s → Gives p l (null_test by x) (null_cell by s)
null_gives p l Plain x s b h =
    then_gives p l (one pair.Greater x x) (λ t. one pair.Fill t unit) (pair_slot pair.Greater s s) (λ t. pair_slot pair.Fill t (Some (pos 1))) (one_gives p l pair.Greater x x s s h h)
    (λ m later y t e g. one_gives p m pair.Fill y unit t (Some (pos 1)) g (later unit (Some (pos 1)) b.unit))
null_gives p l Negated x s b h =
    then_gives p l (one pair.Equals x x) (λ t. one pair.Fill t zero) (pair_slot pair.Equals s s) (λ t. pair_slot pair.Fill t (Some (pos 0))) (one_gives p l pair.Equals x x s s h h)
    (λ m later y t e g. one_gives p m pair.Fill y zero t (Some (pos 0)) g (later zero (Some (pos 0)) b.zero))

-- ---- numbers

pub constant_gives : (p : Place) (l : List Slot) (z : ℤ) → Begins p l → Gives p l (constant z) (pair_slot pair.Add (Some (pos 0)) (Some z))
constant_gives p l z b = one_gives p l pair.Add zero (Number z) (Some (pos 0)) (Some z) b.zero (number_stands p l z)

abbrev pub times_cell : ℤ → Slot → Cell
times_cell f s = if int_eq f (pos 1) then Ok s else pair_slot pair.Multiply s (Some f)

pub times_gives : (p : Place) (l : List Slot) (f : ℤ) (x : Source) (s : Slot) → Stands p l x s → Gives p l (times f x) (times_cell f s)
times_gives p l f x s h = by (int_eq f (pos 1))
  where
    by : (b : Bool) → Gives p l (if b then from_source x else one pair.Multiply x (Number f)) (if b then Ok s else pair_slot pair.Multiply s (Some f))
    by true = source_gives p l x s h
    by false = one_gives p l pair.Multiply x (Number f) s (Some f) h (number_stands p l f)

abbrev pub sign_cell : Sign → Slot → Cell
sign_cell Plus s = pair_slot pair.Add (Some (pos 0)) s
sign_cell Minus s = pair_slot pair.Subtract (Some (pos 0)) s

pub sign_gives : (p : Place) (l : List Slot) (sign : Sign) (x : Source) (s : Slot) → Stands p l x s → Gives p l (sign_step sign x) (sign_cell sign s)
sign_gives p l Plus x s h = one_gives p l pair.Add (Number (pos 0)) x (Some (pos 0)) s (number_stands p l (pos 0)) h
sign_gives p l Minus x s h = one_gives p l pair.Subtract (Number (pos 0)) x (Some (pos 0)) s (number_stands p l (pos 0)) h

pub divided_gives : (p : Place) (l : List Slot) (sign : Sign) (n : ℕ) (x : Source) (s : Slot) → Stands p l x s → Gives p l (divided sign n x) (pair_slot pair.Divide s (Some (divisor sign n)))
divided_gives p l sign n x s h = one_gives p l pair.Divide x (Number (divisor sign n)) s (Some (divisor sign n)) h (number_stands p l (divisor sign n))

abbrev pub brought_cell : Factors → Slot → Slot → (Slot → Slot → Cell) → Cell
brought_cell f s t g = then_cell (times_cell f.x s) (λ u. then_cell (times_cell f.y t) (g u))

pub brought_gives : (p : Place) (l : List Slot) (f : Factors) (a b : Source) (s t : Slot) (next : Source → Source → Code) (g : Slot → Slot → Cell) → Stands p l a s → Stands p l b t →
    ((m : List Slot) (x y : Source) (u v : Slot) → Stands p m x u → Stands p m y v → Gives p m (next x y) (g u v)) → Gives p l (brought_together f a b next) (brought_cell f s t g)
brought_gives p l f a b s t next g h k more =
    then_gives p l (times f.x a) (λ x. and_then (times f.y b) (λ y. next x y)) (times_cell f.x s) (λ u. then_cell (times_cell f.y t) (g u)) (times_gives p l f.x a s h)
    (λ m later x u e i. then_gives p m (times f.y b) (λ y. next x y) (times_cell f.y t) (g u) (times_gives p m f.y b t (later b t k)) (λ n further y v d j. more n x y u v (further x u i) j))

-- ---- comparisons

abbrev pub comparing_cell : BinaryOp → Slot → Slot → Cell
comparing_cell op.Equal s t = pair_slot pair.Equals s t
comparing_cell op.Differs s t = then_cell (pair_slot pair.Equals s t) opposite_cell
comparing_cell op.Less s t = pair_slot pair.Greater t s
comparing_cell op.LessEqual s t = then_cell (pair_slot pair.Greater s t) opposite_cell
comparing_cell op.Greater s t = pair_slot pair.Greater s t
comparing_cell o s t = then_cell (pair_slot pair.Greater t s) opposite_cell

opposite_after : (p : Place) (l : List Slot) (m : Code) (r : Cell) → Gives p l m r → Gives p l (and_then m opposite) (then_cell r opposite_cell)
opposite_after p l m r h = then_gives p l m opposite r opposite_cell h (λ k later x s e g. opposite_gives p k x s g)

at_most : (p : Place) (l : List Slot) (x y : Source) (s t : Slot) → Stands p l x s → Stands p l y t → Gives p l (and_then (one pair.Greater y x) opposite) (then_cell (pair_slot pair.Greater t s) opposite_cell)
at_most p l x y s t h k = opposite_after p l (one pair.Greater y x) (pair_slot pair.Greater t s) (one_gives p l pair.Greater y x t s k h)

pub comparing_gives : (p : Place) (l : List Slot) (o : BinaryOp) (x y : Source) (s t : Slot) → Stands p l x s → Stands p l y t → Gives p l (comparing o x y) (comparing_cell o s t)
comparing_gives p l op.Equal x y s t h k = one_gives p l pair.Equals x y s t h k
comparing_gives p l op.Differs x y s t h k = opposite_after p l (one pair.Equals x y) (pair_slot pair.Equals s t) (one_gives p l pair.Equals x y s t h k)
comparing_gives p l op.Less x y s t h k = one_gives p l pair.Greater y x t s k h
comparing_gives p l op.LessEqual x y s t h k = at_most p l y x t s k h
comparing_gives p l op.Greater x y s t h k = one_gives p l pair.Greater x y s t h k
comparing_gives p l op.GreaterEqual x y s t h k = at_most p l x y s t h k
comparing_gives p l op.Or x y s t h k = at_most p l x y s t h k
comparing_gives p l op.And x y s t h k = at_most p l x y s t h k
comparing_gives p l op.Add x y s t h k = at_most p l x y s t h k
comparing_gives p l op.Subtract x y s t h k = at_most p l x y s t h k
comparing_gives p l op.Multiply x y s t h k = at_most p l x y s t h k

-- ---- two operands

pub two_gives : (p : Place) (made : List Slot) (m n : Code) (next : Source → Source → Code) (r s : Cell) (g : Slot → Slot → Cell) → Gives p made m r → ((l : List Slot) → Later p made l → Gives p l n s) →
    ((l : List Slot) → Later p made l → (x y : Source) (u v : Slot) → Stands p l x u → Stands p l y v → Gives p l (next x y) (g u v)) → Gives p made (and_then m (λ a. and_then n (λ b. next a b))) (then_cell r (λ u. then_cell s (g u)))
two_gives p made m n next r s g h k more =
    then_gives p made m (λ a. and_then n (λ b. next a b)) r (λ u. then_cell s (g u)) h
    (λ l later x u e i. then_gives p l n (λ b. next x b) s (g u) (k l later) (λ j further y v d t. more j (λ z w q. further z w (later z w q)) x y u v (further x u i) t))

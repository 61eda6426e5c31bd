-- BETWEEN and IN at one place: x BETWEEN a AND b is NOT (x < a OR x > b), and IN finds its equalities one by one.
use Rattle.std.proofs.Common.{◌≡◌, ℕ, ◌-◌, ◌^◌, ◌<◌, max, Bool, true, false, not, List, [], ◌∷◌, length, Option, Some, None, Ok, Err, refl, sym, ap, ◌∙◌, subst}
use Rattle.control_vectors.specs.Slots.{Slot, Cell}
use Rattle.control_vectors.specs.declared.Over.{Over}
use Rattle.control_vectors.specs.declared.PairKind.TheVariants as pair
use Rattle.slot_wise.specs.Pairs.{pair_slot}
use Rattle.sql_values.specs.Values.{Value, number, text, truth, null, by_value}
use Rattle.query_trees.specs.declared.expr.BinaryOp.{BinaryOp}
use Rattle.query_trees.specs.declared.expr.BinaryOp.TheVariants as op
use Rattle.query_trees.specs.declared.expr.Polarity.{Polarity}
use Rattle.query_trees.specs.declared.expr.Polarity.TheVariants.{Plain, Negated}
use Rattle.typed_trees.specs.declared.kinds.Kind.{Kind}
use Rattle.typed_trees.specs.declared.kinds.Kind.TheVariants.{Truth}
use Rattle.typed_trees.specs.Kinds.{is_truth}
use Rattle.table_load.specs.Databases.{coded}
use Rattle.typed_values.specs.Values.{Valued, Operand, with, with_both, holds, comparison, both, opposite, either, by_polarity, rescaled, compared, between, among}
use Rattle.value_laws.specs.Laws.{is_of, IsOf}
use Rattle.expr_steps.specs.declared.steps.Source.{Source}
use Rattle.expr_steps.specs.Codes.{Code, one, and_then}
use Rattle.expr_steps.specs.Lowered.{Bytes, Part, zero, factors_of, compared_as, outside, unless_negated, any_equal, or_equal, found_equal}
use Rattle.expr_steps.specs.Lowered as codes
use Rattle.expr_values.specs.Laws.{value_cell}
use Rattle.expr_values.specs.Places.{Place}
use Rattle.expr_values.proofs.Codes.{Stands, Begins, Gives, begins_later, then_cell, one_gives, then_gives, as_cell}
use Rattle.expr_values.proofs.Cells.{unless_cell, unless_gives}
use Rattle.expr_values.proofs.Numbers.{tri, as_tri}
use Rattle.expr_values.proofs.Sides.{compare_cell, compare_gives, sides_compare}
use Rattle.expr_values.proofs.Operands.{part_cell, Ready, not_err, side_of, side_is, operand_of}

-- ---- truths

pub comparison_of : (o : BinaryOp) (v w : Value) → is_of Truth (comparison o v w) ≡ true
comparison_of o null w = refl
comparison_of o v null = refl
comparison_of o v w = refl

opposite_of : (v : Value) → is_of Truth (opposite v) ≡ true
opposite_of (truth b) = refl
opposite_of (number z) = refl
opposite_of (text t) = refl
opposite_of null = refl

pub either_of : (v w : Value) → is_of Truth (either v w) ≡ true
either_of v w = opposite_of (both (opposite v) (opposite w))

both_of : (r s : Valued) (f : Value → Value → Value) → ((v w : Value) → is_of Truth (f v w) ≡ true) → IsOf Truth (with_both r s (λ v w. Ok (f v w)))
both_of (Ok v) (Ok w) f h = h v w
both_of (Ok v) (Err e) f h = tt
both_of (Err e) s f h = tt

pub compared_of : (o : BinaryOp) (x y : Operand) → IsOf Truth (compared o x y)
compared_of o x y = both_of (with x.value (rescaled (max x.scale y.scale - x.scale))) (with y.value (rescaled (max x.scale y.scale - y.scale))) (comparison o) (comparison_of o)

pub among_of : (x : Operand) (ys : List Operand) → IsOf Truth (among x ys)
among_of x [] = of_one x.value
  where
    of_one : (r : Valued) → IsOf Truth (with r (λ v. Ok (truth false)))
    of_one (Ok v) = refl
    of_one (Err e) = tt
among_of x (y ∷ ys) = both_of (compared op.Equal x y) (among x ys) either either_of

-- ---- a comparison and its opposite

abbrev not_value : Valued → Valued
not_value r = with r (λ v. Ok (opposite v))

not_not : (b : Bool) → b ≡ not (not b)
not_not true = refl
not_not false = refl

less_turned : (v w : Value) → comparison op.Less v w ≡ opposite (comparison op.GreaterEqual v w)
less_turned null w = refl
less_turned v null = refl
less_turned v w = ap (λ (b : Bool). truth b) (not_not (holds op.Less (by_value v w)))

greater_turned : (v w : Value) → comparison op.Greater v w ≡ opposite (comparison op.LessEqual v w)
greater_turned null w = refl
greater_turned v null = refl
greater_turned v w = ap (λ (b : Bool). truth b) (not_not (holds op.Greater (by_value v w)))

turned : (o n : BinaryOp) → ((v w : Value) → comparison o v w ≡ opposite (comparison n v w)) → (q r : Valued) → with_both q r (λ v w. Ok (comparison o v w)) ≡ not_value (with_both q r (λ v w. Ok (comparison n v w)))
turned o n h (Ok v) (Ok w) = ap (λ (x : Value). Ok x) (h v w)
turned o n h (Ok v) (Err e) = refl
turned o n h (Err e) r = refl

below_turned : (x y : Operand) → compared op.Less x y ≡ not_value (compared op.GreaterEqual x y)
below_turned x y = turned op.Less op.GreaterEqual less_turned (with x.value (rescaled (max x.scale y.scale - x.scale))) (with y.value (rescaled (max x.scale y.scale - y.scale)))

above_turned : (x y : Operand) → compared op.Greater x y ≡ not_value (compared op.LessEqual x y)
above_turned x y = turned op.Greater op.LessEqual greater_turned (with x.value (rescaled (max x.scale y.scale - x.scale))) (with y.value (rescaled (max x.scale y.scale - y.scale)))

-- ---- De Morgan

abbrev outside_cell : Cell → Cell → Cell
outside_cell c d = then_cell c (λ m. then_cell d (pair_slot pair.LogicalOr m))

outside_tri : (texts : List Bytes) (by : Polarity) (a b : Option Bool) → then_cell (pair_slot pair.LogicalOr (coded texts (opposite (tri a))) (coded texts (opposite (tri b)))) (unless_cell by) ≡ value_cell texts (Ok (by_polarity by (both (tri a) (tri b))))
outside_tri texts Plain None None = refl
outside_tri texts Plain None (Some true) = refl
outside_tri texts Plain None (Some false) = refl
outside_tri texts Plain (Some true) None = refl
outside_tri texts Plain (Some true) (Some true) = refl
outside_tri texts Plain (Some true) (Some false) = refl
outside_tri texts Plain (Some false) None = refl
outside_tri texts Plain (Some false) (Some true) = refl
outside_tri texts Plain (Some false) (Some false) = refl
outside_tri texts Negated None None = refl
outside_tri texts Negated None (Some true) = refl
outside_tri texts Negated None (Some false) = refl
outside_tri texts Negated (Some true) None = refl
outside_tri texts Negated (Some true) (Some true) = refl
outside_tri texts Negated (Some true) (Some false) = refl
outside_tri texts Negated (Some false) None = refl
outside_tri texts Negated (Some false) (Some true) = refl
outside_tri texts Negated (Some false) (Some false) = refl

de_morgan : (texts : List Bytes) (by : Polarity) (q r : Valued) → IsOf Truth q → IsOf Truth r →
    then_cell (outside_cell (value_cell texts (not_value q)) (value_cell texts (not_value r))) (unless_cell by) ≡ value_cell texts (with (with_both q r (λ v w. Ok (both v w))) (λ v. Ok (by_polarity by v)))
de_morgan texts by (Err e) r h k = refl
de_morgan texts by (Ok v) (Err e) h k = refl
de_morgan texts by (Ok v) (Ok w) h k =
    let a = as_tri v h in let b = as_tri w k in
    subst (λ (x : Value). then_cell (pair_slot pair.LogicalOr (coded texts (opposite x)) (coded texts (opposite w))) (unless_cell by) ≡ value_cell texts (Ok (by_polarity by (both x w)))) a.1
    (subst (λ (y : Value). then_cell (pair_slot pair.LogicalOr (coded texts (opposite (tri a.0))) (coded texts (opposite y))) (unless_cell by) ≡ value_cell texts (Ok (by_polarity by (both (tri a.0) y)))) b.1 (outside_tri texts by a.0 b.0))

-- ---- BETWEEN

-- one of the operands is Over
least_over : (texts : List Bytes) (by : Polarity) (q r : Valued) (e : Over) → value_cell texts (with (with_both (with q (λ v. Err e)) r (λ v w. Ok (both v w))) (λ v. Ok (by_polarity by v))) ≡ Err e
least_over texts by (Ok v) r e = refl
least_over texts by (Err x) r e = refl

most_over : (texts : List Bytes) (by : Polarity) (q r : Valued) (e : Over) → value_cell texts (with (with_both r (with q (λ v. Err e)) (λ v w. Ok (both v w))) (λ v. Ok (by_polarity by v))) ≡ Err e
most_over texts by (Ok v) (Ok w) e = refl
most_over texts by (Err x) (Ok w) e = refl
most_over texts by q (Err y) e = refl

between_cells : (texts : List Bytes) (p : Place) (k : Kind) (by : Polarity) (s t u : Option Bytes) (a b c : ℕ) (q r x : Valued) (l m n : Code) → length texts < 2 ^ 32 → not (is_truth k) ≡ true → Ready texts p k s a q l → Ready texts p k t b r m → Ready texts p k u c x n →
    then_cell (part_cell texts s q) (λ i. then_cell (part_cell texts t r) (λ j. then_cell (part_cell texts u x) (λ h. then_cell (outside_cell (compare_cell texts op.Less s t a b i j) (compare_cell texts op.Greater s u a c i h)) (unless_cell by))))
    ≡ value_cell texts (with (between (operand_of a q) (operand_of b r) (operand_of c x)) (λ v. Ok (by_polarity by v)))
between_cells texts p k by (Some s) t u a b c (Err e) r x l m n few h f g i = absurd (let no = not_err e (text s) f.text in cc)
between_cells texts p k by None t u a b c (Err e) r x l m n few h f g i = refl
between_cells texts p k by s (Some t) u a b c (Ok v) (Err e) x l m n few h f g i = absurd (let no = not_err e (text t) g.text in cc)
between_cells texts p k by s None u a b c (Ok v) (Err e) x l m n few h f g i =
    ap (λ (z : Cell). then_cell z (λ i. Err e)) (side_is texts s v) ∙ sym (least_over texts by (rescaled (max a b - a) v) (compared op.LessEqual (operand_of a (Ok v)) (operand_of c x)) e)
between_cells texts p k by s t (Some u) a b c (Ok v) (Ok w) (Err e) l m n few h f g i = absurd (let no = not_err e (text u) i.text in cc)
between_cells texts p k by s t None a b c (Ok v) (Ok w) (Err e) l m n few h f g i =
    (λ z. then_cell (side_is texts s v z) (λ i. then_cell (side_is texts t w z) (λ j. Err e)))
    ∙ sym (most_over texts by (rescaled (max a c - a) v) (compared op.GreaterEqual (operand_of a (Ok v)) (operand_of b (Ok w))) e)
between_cells texts p k by s t u a b c (Ok v) (Ok w) (Ok z) l m n few h f g i =
    let first = side_of texts p k s a (Ok v) l v f refl in
    let below = sides_compare texts op.Less k s t a b v w few h first (side_of texts p k t b (Ok w) m w g refl) in
    let above = sides_compare texts op.Greater k s u a c v z few h first (side_of texts p k u c (Ok z) n z i refl) in
    let x = operand_of a (Ok v) in let y = operand_of b (Ok w) in let o = operand_of c (Ok z) in
    (λ d. then_cell (side_is texts s v d) (λ i. then_cell (side_is texts t w d) (λ j. then_cell (side_is texts u z d) (λ h. then_cell (outside_cell (compare_cell texts op.Less s t a b i j) (compare_cell texts op.Greater s u a c i h)) (unless_cell by)))))
    ∙ ((λ d. then_cell (outside_cell (below d) (above d)) (unless_cell by))
    ∙ ((λ d. then_cell (outside_cell (value_cell texts (below_turned x y d)) (value_cell texts (above_turned x o d))) (unless_cell by))
    ∙ de_morgan texts by (compared op.GreaterEqual x y) (compared op.LessEqual x o) (compared_of op.GreaterEqual x y) (compared_of op.LessEqual x o)))

abbrev pub part_at : ℕ → Option Bytes → Code → Part
part_at scale literal code = record { scale = scale; text = literal; code = code }

outside_gives : (texts : List Bytes) (p : Place) (s t u : Option Bytes) (a b c : ℕ) (l m n : Code) (made : List Slot) (x y z : Source) (i j h : Slot) → Begins p made → Stands p made x i → Stands p made y j → Stands p made z h →
    Gives p made (outside texts (part_at a s l) (part_at b t m) (part_at c u n) x y z) (outside_cell (compare_cell texts op.Less s t a b i j) (compare_cell texts op.Greater s u a c i h))
outside_gives texts p s t u a b c l m n made x y z i j h g d e f =
    let above = compared_as op.Greater s u (factors_of texts s u a c) x z in
    then_gives p made (compared_as op.Less s t (factors_of texts s t a b) x y) (λ below. and_then above (one pair.LogicalOr below)) (compare_cell texts op.Less s t a b i j) (λ m. then_cell (compare_cell texts op.Greater s u a c i h) (pair_slot pair.LogicalOr m))
    (compare_gives texts p made op.Less s t a b x y i j g d e)
    (λ k later below v is o. then_gives p k above (one pair.LogicalOr below) (compare_cell texts op.Greater s u a c i h) (pair_slot pair.LogicalOr v) (compare_gives texts p k op.Greater s u a c x z i h (begins_later p made k later g) (later x i d) (later z h f))
    (λ q further w r are e. one_gives p q pair.LogicalOr below w v r (further below v o) e))

pub between_gives : (texts : List Bytes) (p : Place) (k : Kind) (by : Polarity) (s t u : Option Bytes) (a b c : ℕ) (q r x : Valued) (l m n : Code) → length texts < 2 ^ 32 → not (is_truth k) ≡ true → Ready texts p k s a q l → Ready texts p k t b r m → Ready texts p k u c x n → (made : List Slot) → Begins p made →
    Gives p made (codes.between texts by (part_at a s l) (part_at b t m) (part_at c u n)) (value_cell texts (with (between (operand_of a q) (operand_of b r) (operand_of c x)) (λ v. Ok (by_polarity by v))))
between_gives texts p k by s t u a b c q r x l m n few truthless f g h made begins =
    let px = part_at a s l in let py = part_at b t m in let pz = part_at c u n in
    let cells = λ (i j o : Slot). then_cell (outside_cell (compare_cell texts op.Less s t a b i j) (compare_cell texts op.Greater s u a c i o)) (unless_cell by) in
    as_cell p made (codes.between texts by px py pz) (then_cell (part_cell texts s q) (λ i. then_cell (part_cell texts t r) (λ j. then_cell (part_cell texts u x) (cells i j)))) (value_cell texts (with (between (operand_of a q) (operand_of b r) (operand_of c x)) (λ v. Ok (by_polarity by v))))
    (between_cells texts p k by s t u a b c q r x l m n few truthless f g h)
    (then_gives p made l (λ d. and_then m (λ e. and_then n (λ o. and_then (outside texts px py pz d e o) (unless_negated by)))) (part_cell texts s q) (λ i. then_cell (part_cell texts t r) (λ j. then_cell (part_cell texts u x) (cells i j))) (f.gives made begins)
    (λ made1 later1 d i is1 stands1. then_gives p made1 m (λ e. and_then n (λ o. and_then (outside texts px py pz d e o) (unless_negated by))) (part_cell texts t r) (λ j. then_cell (part_cell texts u x) (cells i j)) (g.gives made1 (begins_later p made made1 later1 begins))
    (λ made2 later2 e j is2 stands2. then_gives p made2 n (λ o. and_then (outside texts px py pz d e o) (unless_negated by)) (part_cell texts u x) (cells i j) (h.gives made2 (begins_later p made1 made2 later2 (begins_later p made made1 later1 begins)))
    (λ made3 later3 o z is3 stands3. then_gives p made3 (outside texts px py pz d e o) (unless_negated by) (outside_cell (compare_cell texts op.Less s t a b i j) (compare_cell texts op.Greater s u a c i z)) (unless_cell by)
    (outside_gives texts p s t u a b c l m n made3 d e o i j z (begins_later p made2 made3 later3 (begins_later p made1 made2 later2 (begins_later p made made1 later1 begins))) (later3 d i (later2 d i stands1)) (later3 e j stands2) stands3)
    (λ made4 later4 y v is4 stands4. unless_gives p made4 by y v stands4)))))

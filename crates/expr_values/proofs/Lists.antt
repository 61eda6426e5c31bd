-- IN and COALESCE at one place: operands that are read one by one, behind what is found so far.
use Rattle.std.proofs.Common.{◌≡◌, ℕ, ◌^◌, ◌<◌, pos, Bool, true, false, not, List, [], ◌∷◌, map, length, Option, Some, None, Ok, Err, refl, sym, ap, ◌∙◌, subst}
use Rattle.control_vectors.specs.Slots.{Slot, Cell}
use Rattle.control_vectors.specs.declared.Over.{Over}
use Rattle.control_vectors.specs.declared.PairKind.TheVariants as pair
use Rattle.slot_wise.specs.Pairs.{pair_slot}
use Rattle.sql_values.specs.Values.{Value, text, truth}
use Rattle.query_trees.specs.declared.expr.BinaryOp.TheVariants as op
use Rattle.query_trees.specs.declared.expr.Polarity.{Polarity}
use Rattle.typed_trees.specs.declared.kinds.Kind.{Kind}
use Rattle.typed_trees.specs.declared.kinds.Kind.TheVariants.{Truth}
use Rattle.typed_trees.specs.Kinds.{is_truth}
use Rattle.table_load.specs.Databases.{coded}
use Rattle.typed_values.specs.Values.{Valued, Operand, with, with_both, either, by_polarity, compared, among}
use Rattle.value_laws.specs.Laws.{is_of, IsOf}
use Rattle.expr_steps.specs.declared.steps.Source.{Source}
use Rattle.expr_steps.specs.Codes.{Code, from_source, one, and_then}
use Rattle.expr_steps.specs.Lowered.{Bytes, Part, factors_of, compared_as, any_equal, or_equal, found_equal, times, raise, filled, filled_from, most_scale}
use Rattle.expr_steps.specs.Lowered as codes
use Rattle.expr_values.specs.Laws.{value_cell}
use Rattle.expr_values.specs.Places.{Place}
use Rattle.expr_values.proofs.Codes.{Stands, Begins, Gives, Later, begins_later, then_cell, slot_same, never, source_gives, one_gives, then_gives, as_cell}
use Rattle.expr_values.proofs.Cells.{polarity_cell, polarity_gives}
use Rattle.expr_values.proofs.Numbers.{tri, as_tri, one_cell, either_coded, polarity_coded}
use Rattle.expr_values.proofs.Sides.{side_slot, compare_cell, compare_gives}
use Rattle.expr_values.proofs.Operands.{part_cell, Ready, not_err, side_is, operand_of, compared_cells}
use Rattle.expr_values.proofs.Between.{part_at, either_of, compared_of, among_of}

-- ---- a list of operands

pub record Member (texts : List Bytes) (p : Place) (k : Kind) : Type 0 where
  pub literal : Option Bytes
  pub scale : ℕ
  pub value : Valued
  pub code : Code
  pub ready : Ready texts p k literal scale value code

abbrev pub member_part : (texts : List Bytes) (p : Place) (k : Kind) → Member texts p k → Part
member_part texts p k y = part_at y.scale y.literal y.code

abbrev pub member_operand : (texts : List Bytes) (p : Place) (k : Kind) → Member texts p k → Operand
member_operand texts p k y = operand_of y.scale y.value

-- ---- IN

either_none : (o : Option Bool) → tri o ≡ either (tri o) (truth false)
either_none None = refl
either_none (Some true) = refl
either_none (Some false) = refl

false_beside : (v : Value) → is_of Truth v ≡ true → v ≡ either v (truth false)
false_beside v h = let o = as_tri v h in subst (λ (x : Value). x ≡ either x (truth false)) o.1 (either_none o.0)

either_tri : (a b c : Option Bool) → either (either (tri a) (tri b)) (tri c) ≡ either (tri a) (either (tri b) (tri c))
either_tri None None None = refl
either_tri None None (Some true) = refl
either_tri None None (Some false) = refl
either_tri None (Some true) None = refl
either_tri None (Some true) (Some true) = refl
either_tri None (Some true) (Some false) = refl
either_tri None (Some false) None = refl
either_tri None (Some false) (Some true) = refl
either_tri None (Some false) (Some false) = refl
either_tri (Some true) None None = refl
either_tri (Some true) None (Some true) = refl
either_tri (Some true) None (Some false) = refl
either_tri (Some true) (Some true) None = refl
either_tri (Some true) (Some true) (Some true) = refl
either_tri (Some true) (Some true) (Some false) = refl
either_tri (Some true) (Some false) None = refl
either_tri (Some true) (Some false) (Some true) = refl
either_tri (Some true) (Some false) (Some false) = refl
either_tri (Some false) None None = refl
either_tri (Some false) None (Some true) = refl
either_tri (Some false) None (Some false) = refl
either_tri (Some false) (Some true) None = refl
either_tri (Some false) (Some true) (Some true) = refl
either_tri (Some false) (Some true) (Some false) = refl
either_tri (Some false) (Some false) None = refl
either_tri (Some false) (Some false) (Some true) = refl
either_tri (Some false) (Some false) (Some false) = refl

either_more : (u v w : Value) → is_of Truth u ≡ true → is_of Truth v ≡ true → is_of Truth w ≡ true → either (either u v) w ≡ either u (either v w)
either_more u v w h k g =
    let a = as_tri u h in let b = as_tri v k in let c = as_tri w g in
    subst (λ (x : Value). either (either x v) w ≡ either x (either v w)) a.1
    (subst (λ (y : Value). either (either (tri a.0) y) w ≡ either (tri a.0) (either y w)) b.1
    (subst (λ (z : Value). either (either (tri a.0) (tri b.0)) z ≡ either (tri a.0) (either (tri b.0) z)) c.1 (either_tri a.0 b.0 c.0)))

-- one equality more
found_more : (texts : List Bytes) (f c : Value) (r : Valued) → is_of Truth f ≡ true → is_of Truth c ≡ true → IsOf Truth r → value_cell texts (with r (λ w. Ok (either (either f c) w))) ≡ value_cell texts (with (with_both (Ok c) r (λ v w. Ok (either v w))) (λ w. Ok (either f w)))
found_more texts f c (Ok w) h k g = ap (λ (x : Value). value_cell texts (Ok x)) (either_more f c w h k g)
found_more texts f c (Err e) h k g = refl

-- the literal, the scale and the value of what is looked for, where it has one
equal_gives : (texts : List Bytes) (p : Place) (k : Kind) (s : Option Bytes) (a : ℕ) (v : Value) (m : Code) (x : Ready texts p k s a (Ok v) m) (y : Member texts p k) → length texts < 2 ^ 32 → not (is_truth k) ≡ true →
    (made : List Slot) (at found : Source) (f : Value) → Begins p made → is_of Truth f ≡ true → Stands p made at (side_slot texts s v) → Stands p made found (coded texts f) →
    Gives p made (or_equal texts (part_at a s m) at (member_part texts p k y) found) (value_cell texts (with (compared op.Equal (operand_of a (Ok v)) (member_operand texts p k y)) (λ c. Ok (either f c))))
equal_gives texts p k s a v m x y few truthless made at found f begins h stands so_far =
    let t = y.literal in let b = y.scale in
    let q = compared op.Equal (operand_of a (Ok v)) (operand_of b y.value) in
    let cell = compare_cell texts op.Equal s t a b (side_slot texts s v) in
    let both_cells : then_cell (part_cell texts t y.value) (λ w. then_cell (cell w) (pair_slot pair.LogicalOr (coded texts f))) ≡ then_cell (then_cell (part_cell texts t y.value) cell) (pair_slot pair.LogicalOr (coded texts f)) = nested (part_cell texts t y.value) cell (pair_slot pair.LogicalOr (coded texts f)) in
    let compared_is : then_cell (part_cell texts t y.value) cell ≡ value_cell texts q =
    ap (λ (z : Cell). then_cell z (λ u. then_cell (part_cell texts t y.value) (compare_cell texts op.Equal s t a b u))) (sym (side_is texts s v)) ∙ compared_cells texts p k op.Equal s t a b (Ok v) y.value m y.code few truthless x y.ready in
    as_cell p made (or_equal texts (part_at a s m) at (member_part texts p k y) found) (then_cell (part_cell texts t y.value) (λ w. then_cell (cell w) (pair_slot pair.LogicalOr (coded texts f)))) (value_cell texts (with q (λ c. Ok (either f c))))
    (both_cells ∙ (ap (λ (z : Cell). then_cell z (pair_slot pair.LogicalOr (coded texts f))) compared_is
    ∙ one_cell texts (λ c. is_of Truth c ≡ true) q (pair_slot pair.LogicalOr (coded texts f)) (λ c. Ok (either f c)) (compared_of op.Equal (operand_of a (Ok v)) (operand_of b y.value)) (λ c i. either_coded texts f c h i)))
    (then_gives p made y.code (found_equal texts (part_at a s m) at (member_part texts p k y) found) (part_cell texts t y.value) (λ w. then_cell (cell w) (pair_slot pair.LogicalOr (coded texts f))) (y.ready.gives made begins)
    (λ l later z w is i. then_gives p l (compared_as op.Equal s t (factors_of texts s t a b) at z) (one pair.LogicalOr found) (cell w) (pair_slot pair.LogicalOr (coded texts f)) (compare_gives texts p l op.Equal s t a b at z (side_slot texts s v) w (begins_later p made l later begins) (later at (side_slot texts s v) stands) i)
    (λ j further e u was g. one_gives p j pair.LogicalOr found e (coded texts f) u (further found (coded texts f) (later found (coded texts f) so_far)) g)))
  where
    nested : (c : Cell) (g h : Slot → Cell) → then_cell c (λ w. then_cell (g w) h) ≡ then_cell (then_cell c g) h
    nested (Ok w) g h = refl
    nested (Err e) g h = refl

any_gives : (texts : List Bytes) (p : Place) (k : Kind) (s : Option Bytes) (a : ℕ) (v : Value) (m : Code) (x : Ready texts p k s a (Ok v) m) (ys : List (Member texts p k)) → length texts < 2 ^ 32 → not (is_truth k) ≡ true →
    (made : List Slot) (at found : Source) (f : Value) → Begins p made → is_of Truth f ≡ true → Stands p made at (side_slot texts s v) → Stands p made found (coded texts f) →
    Gives p made (any_equal texts (part_at a s m) at (map (member_part texts p k) ys) found) (value_cell texts (with (among (operand_of a (Ok v)) (map (member_operand texts p k) ys)) (λ w. Ok (either f w))))
any_gives texts p k s a v m x [] few truthless made at found f begins h stands so_far = as_cell p made (from_source found) (Ok (coded texts f)) (Ok (coded texts (either f (truth false)))) (ap (λ (z : Value). Ok (coded texts z)) (false_beside f h)) (source_gives p made found (coded texts f) so_far)
any_gives texts p k s a v m x (y ∷ ys) few truthless made at found f begins h stands so_far =
    by (compared op.Equal (operand_of a (Ok v)) (member_operand texts p k y)) (compared_of op.Equal (operand_of a (Ok v)) (member_operand texts p k y)) (equal_gives texts p k s a v m x y few truthless made at found f begins h stands so_far)
    (λ c l later next is_next. any_gives texts p k s a v m x ys few truthless l at next (either f c) (begins_later p made l later begins) (either_of f c) (later at (side_slot texts s v) stands) is_next)
  where
    by : (q : Valued) → IsOf Truth q → Gives p made (or_equal texts (part_at a s m) at (member_part texts p k y) found) (value_cell texts (with q (λ c. Ok (either f c)))) →
        ((c : Value) (l : List Slot) → Later p made l → (next : Source) → Stands p l next (coded texts (either f c)) → Gives p l (any_equal texts (part_at a s m) at (map (member_part texts p k) ys) next) (value_cell texts (with (among (operand_of a (Ok v)) (map (member_operand texts p k) ys)) (λ w. Ok (either (either f c) w))))) →
        Gives p made (and_then (or_equal texts (part_at a s m) at (member_part texts p k y) found) (any_equal texts (part_at a s m) at (map (member_part texts p k) ys))) (value_cell texts (with (with_both q (among (operand_of a (Ok v)) (map (member_operand texts p k) ys)) (λ v w. Ok (either v w))) (λ w. Ok (either f w))))
    by (Err e) i g more = then_gives p made (or_equal texts (part_at a s m) at (member_part texts p k y) found) (any_equal texts (part_at a s m) at (map (member_part texts p k) ys)) (Err e) (λ t. Err e) g (λ l later z t is j. absurd (let no = never e t is in cc))
    by (Ok c) i g more =
        let whole = among (operand_of a (Ok v)) (map (member_operand texts p k) ys) in
        let code = and_then (or_equal texts (part_at a s m) at (member_part texts p k y) found) (any_equal texts (part_at a s m) at (map (member_part texts p k) ys)) in
        as_cell p made code (value_cell texts (with whole (λ w. Ok (either (either f c) w)))) (value_cell texts (with (with_both (Ok c) whole (λ v w. Ok (either v w))) (λ w. Ok (either f w)))) (found_more texts f c whole h i (among_of (operand_of a (Ok v)) (map (member_operand texts p k) ys)))
        (then_gives p made (or_equal texts (part_at a s m) at (member_part texts p k y) found) (any_equal texts (part_at a s m) at (map (member_part texts p k) ys)) (Ok (coded texts (either f c))) (λ t. value_cell texts (with whole (λ w. Ok (either (either f c) w)))) g
        (λ l later z t is j. more c l later z (subst (λ (u : Slot). Stands p l z u) (sym (slot_same (coded texts (either f c)) t is)) j)))

false_either : (o : Option Bool) → either (truth false) (tri o) ≡ tri o
false_either None = refl
false_either (Some true) = refl
false_either (Some false) = refl

-- 0 is found before all
from_false : (texts : List Bytes) (by : Polarity) (r : Valued) → IsOf Truth r → then_cell (value_cell texts (with r (λ w. Ok (either (truth false) w)))) (polarity_cell by) ≡ value_cell texts (with r (λ v. Ok (by_polarity by v)))
from_false texts by (Err e) h = refl
from_false texts by (Ok w) h =
    let o = as_tri w h in
    ap (λ (x : Value). polarity_cell by (coded texts x)) (subst (λ (x : Value). either (truth false) x ≡ x) o.1 (false_either o.0)) ∙ polarity_coded texts by w h

over_among : (texts : List Bytes) (p : Place) (by : Polarity) (a : ℕ) (e : Over) (ys : List Operand) → Err e ≡ value_cell texts (with (among (operand_of a (Err e)) ys) (λ v. Ok (by_polarity by v)))
over_among texts p by a e [] = refl
over_among texts p by a e (y ∷ ys) = refl

-- among nothing
pub among_none : (texts : List Bytes) (p : Place) (k : Kind) (by : Polarity) (s : Option Bytes) (a : ℕ) (q : Valued) (m : Code) (x : Ready texts p k s a q m) (made : List Slot) → Begins p made →
    Gives p made (codes.among texts by (part_at a s m) []) (value_cell texts (with (among (operand_of a q) []) (λ v. Ok (by_polarity by v))))
among_none texts p k by (Some t) a (Err e) m x made begins = absurd (let no = not_err e (text t) x.text in cc)
among_none texts p k by None a (Err e) m x made begins = then_gives p made m (λ at. and_then (one pair.Fill codes.zero at) (codes.by_polarity by)) (Err e) (λ t. Err e) (x.gives made begins) (λ l later z t is j. absurd (let no = never e t is in cc))
among_none texts p k by s a (Ok v) m x made begins =
    let inner = λ (at : Source). and_then (one pair.Fill codes.zero at) (codes.by_polarity by) in
    as_cell p made (and_then m inner) (then_cell (part_cell texts s (Ok v)) (λ u. polarity_cell by (Some (pos 0)))) (value_cell texts (Ok (by_polarity by (truth false))))
    (ap (λ (c : Cell). then_cell c (λ u. polarity_cell by (Some (pos 0)))) (side_is texts s v) ∙ polarity_coded texts by (truth false) refl)
    (then_gives p made m inner (part_cell texts s (Ok v)) (λ u. polarity_cell by (Some (pos 0))) (x.gives made begins)
    (λ l later at u is stands.
    let ready = begins_later p made l later begins in
    then_gives p l (one pair.Fill codes.zero at) (codes.by_polarity by) (pair_slot pair.Fill (Some (pos 0)) u) (polarity_cell by) (one_gives p l pair.Fill codes.zero at (Some (pos 0)) u ready.zero stands) (λ j further y t was i. polarity_gives p j by y t i)))

pub among_gives : (texts : List Bytes) (p : Place) (k : Kind) (by : Polarity) (s : Option Bytes) (a : ℕ) (q : Valued) (m : Code) (x : Ready texts p k s a q m) (ys : List (Member texts p k)) → length texts < 2 ^ 32 → not (is_truth k) ≡ true → (made : List Slot) → Begins p made →
    Gives p made (codes.among texts by (part_at a s m) (map (member_part texts p k) ys)) (value_cell texts (with (among (operand_of a q) (map (member_operand texts p k) ys)) (λ v. Ok (by_polarity by v))))
among_gives texts p k by s a q m x [] few truthless made begins = among_none texts p k by s a q m x made begins
among_gives texts p k by (Some t) a (Err e) m x (y ∷ ys) few truthless made begins = absurd (let no = not_err e (text t) x.text in cc)
among_gives texts p k by None a (Err e) m x (y ∷ ys) few truthless made begins =
    as_cell p made (codes.among texts by (part_at a None m) (map (member_part texts p k) (y ∷ ys))) (Err e) (value_cell texts (with (among (operand_of a (Err e)) (map (member_operand texts p k) (y ∷ ys))) (λ v. Ok (by_polarity by v)))) (over_among texts p by a e (map (member_operand texts p k) (y ∷ ys)))
    (then_gives p made m (λ at. and_then (any_equal texts (part_at a None m) at (map (member_part texts p k) (y ∷ ys)) codes.zero) (codes.by_polarity by)) (Err e) (λ t. Err e) (x.gives made begins) (λ l later z t is j. absurd (let no = never e t is in cc)))
among_gives texts p k by s a (Ok v) m x (y ∷ ys) few truthless made begins =
    let pys = map (member_part texts p k) (y ∷ ys) in
    let whole = among (operand_of a (Ok v)) (map (member_operand texts p k) (y ∷ ys)) in
    let inner = λ (at : Source). and_then (any_equal texts (part_at a s m) at pys codes.zero) (codes.by_polarity by) in
    let cell = value_cell texts (with whole (λ w. Ok (either (truth false) w))) in
    as_cell p made (and_then m inner) (then_cell (part_cell texts s (Ok v)) (λ u. then_cell cell (polarity_cell by))) (value_cell texts (with whole (λ v. Ok (by_polarity by v))))
    (ap (λ (c : Cell). then_cell c (λ u. then_cell cell (polarity_cell by))) (side_is texts s v) ∙ from_false texts by whole (among_of (operand_of a (Ok v)) (map (member_operand texts p k) (y ∷ ys))))
    (then_gives p made m inner (part_cell texts s (Ok v)) (λ u. then_cell cell (polarity_cell by)) (x.gives made begins)
    (λ l later at u is stands.
    let ready = begins_later p made l later begins in
    let here = subst (λ (t : Slot). Stands p l at t) (sym (slot_same (side_slot texts s v) u (sym (side_is texts s v) ∙ is))) stands in
    then_gives p l (any_equal texts (part_at a s m) at pys codes.zero) (codes.by_polarity by) cell (polarity_cell by) (any_gives texts p k s a v m x (y ∷ ys) few truthless l at codes.zero (truth false) ready refl here ready.zero)
    (λ j further y t was i. polarity_gives p j by y t i)))

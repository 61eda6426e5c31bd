-- Operands of one place: values that stand where code leaves them, and what the operators over one and two of them give.
use Rattle.std.proofs.Common.{◌≡◌, ℕ, ◌-◌, ◌^◌, ◌<◌, max, true, false, not, List, length, Option, Some, None, Ok, Err, IfOk, refl, sym, ap, ◌∙◌, subst}
use Rattle.control_vectors.specs.Slots.{Slot, Cell}
use Rattle.control_vectors.specs.declared.Over.{Over}
use Rattle.sql_values.specs.Values.{Value, text}
use Rattle.query_trees.specs.declared.expr.BinaryOp.{BinaryOp}
use Rattle.typed_trees.specs.declared.kinds.Kind.{Kind}
use Rattle.typed_trees.specs.Kinds.{is_truth}
use Rattle.table_load.specs.Databases.{coded}
use Rattle.typed_values.specs.Values.{Valued, Operand, with, with_both, comparison, rescaled, compared}
use Rattle.value_laws.specs.Laws.{is_of, IsOf}
use Rattle.expr_steps.specs.declared.steps.Source.{Source}
use Rattle.expr_steps.specs.Codes.{Code, and_then}
use Rattle.expr_steps.specs.Lowered.{Bytes, text_number, factors_of, compared_as}
use Rattle.expr_values.specs.Laws.{is_known, value_cell}
use Rattle.expr_values.specs.Places.{Place}
use Rattle.expr_values.specs.Written.{kind_scale}
use Rattle.expr_values.proofs.Codes.{Stands, Begins, Gives, begins_later, then_cell, then_gives, as_cell}
use Rattle.expr_values.proofs.Cells.{two_gives}
use Rattle.expr_values.proofs.Numbers.{one_cell, two_cells}
use Rattle.expr_values.proofs.Sides.{side_slot, IsTextOf, IsSide, compare_cell, compare_gives, sides_compare}

-- ---- operands

-- what an operand's code gives: its value, or the number of a text literal
abbrev pub part_cell : List Bytes → Option Bytes → Valued → Cell
part_cell texts (Some t) r = Ok (Some (text_number texts t))
part_cell texts None r = value_cell texts r

abbrev pub IsText : List Bytes → Option Bytes → Valued → Type 0
IsText texts (Some t) r = r ≡ Ok (text t)
IsText texts None r = IfOk r (λ v. is_known texts v ≡ true)

-- an operand of a kind, by its literal, its scale, its value and its code
pub record Ready (texts : List Bytes) (p : Place) (k : Kind) (literal : Option Bytes) (scale : ℕ) (r : Valued) (m : Code) : Type 0 where
  pub of : IsOf k r
  pub text : IsText texts literal r
  pub fits : kind_scale k scale ≡ true
  pub gives : (made : List Slot) → Begins p made → Gives p made m (part_cell texts literal r)

ok_same : (v w : Value) → (let r : Valued = Ok v in r ≡ Ok w) → v ≡ w
ok_same v w e = cc

pub not_err : (e : Over) (w : Value) → (let r : Valued = Err e in r ≡ Ok w) → false ≡ true
not_err e w h = absurd (cc)

-- the value of one, where it has one
pub side_of : (texts : List Bytes) (p : Place) (k : Kind) (literal : Option Bytes) (scale : ℕ) (r : Valued) (m : Code) (v : Value) → Ready texts p k literal scale r m → r ≡ Ok v → IsSide texts k literal scale v
side_of texts p k literal scale r m v h e = record {
  of = subst (λ (q : Valued). IsOf k q) e h.of;
  text = plain literal (subst (λ (q : Valued). IsText texts literal q) e h.text);
  fits = h.fits;
}
  where
    plain : (l : Option Bytes) → IsText texts l (Ok v) → IsTextOf texts l v
    plain (Some t) g = ok_same v (text t) g
    plain None g = g

pub side_is : (texts : List Bytes) (l : Option Bytes) (v : Value) → part_cell texts l (Ok v) ≡ Ok (side_slot texts l v)
side_is texts (Some t) v = refl
side_is texts None v = refl

-- ---- one operand

pub unary_gives : (texts : List Bytes) (p : Place) (k : Kind) (scale : ℕ) (r : Valued) (m : Code) (f : Source → Code) (g : Slot → Cell) (h : Value → Valued) → Ready texts p k None scale r m →
    ((l : List Slot) → Begins p l → (x : Source) (s : Slot) → Stands p l x s → Gives p l (f x) (g s)) → ((v : Value) → is_of k v ≡ true → g (coded texts v) ≡ value_cell texts (h v)) → (made : List Slot) → Begins p made → Gives p made (and_then m f) (value_cell texts (with r h))
unary_gives texts p k scale r m f g h x step same made b =
    as_cell p made (and_then m f) (then_cell (value_cell texts r) g) (value_cell texts (with r h)) (one_cell texts (λ v. is_of k v ≡ true) r g h x.of same)
    (then_gives p made m f (value_cell texts r) g (x.gives made b) (λ l later y s e i. step l (begins_later p made l later b) y s i))

-- ---- two operands

pub binary_gives : (texts : List Bytes) (p : Place) (j k : Kind) (s t : Option Bytes) (c d : ℕ) (q r : Valued) (m n : Code) (next : Source → Source → Code) (g : Slot → Slot → Cell) → Ready texts p j s c q m → Ready texts p k t d r n →
    ((l : List Slot) → Begins p l → (x y : Source) (u v : Slot) → Stands p l x u → Stands p l y v → Gives p l (next x y) (g u v)) → (made : List Slot) → Begins p made →
    Gives p made (and_then m (λ a. and_then n (λ b. next a b))) (then_cell (part_cell texts s q) (λ u. then_cell (part_cell texts t r) (g u)))
binary_gives texts p j k s t c d q r m n next g x y step made b =
    two_gives p made m n next (part_cell texts s q) (part_cell texts t r) g (x.gives made b) (λ l later. y.gives l (begins_later p made l later b)) (λ l later. step l (begins_later p made l later b))

-- two operands as they are
pub plain_gives : (texts : List Bytes) (p : Place) (j k : Kind) (c d : ℕ) (q r : Valued) (m n : Code) (next : Source → Source → Code) (g : Slot → Slot → Cell) (h : Value → Value → Valued) → Ready texts p j None c q m → Ready texts p k None d r n →
    ((l : List Slot) → Begins p l → (x y : Source) (u v : Slot) → Stands p l x u → Stands p l y v → Gives p l (next x y) (g u v)) → ((v w : Value) → is_of j v ≡ true → is_of k w ≡ true → g (coded texts v) (coded texts w) ≡ value_cell texts (h v w)) →
    (made : List Slot) → Begins p made → Gives p made (and_then m (λ a. and_then n (λ b. next a b))) (value_cell texts (with_both q r h))
plain_gives texts p j k c d q r m n next g h x y step same made b =
    as_cell p made (and_then m (λ a. and_then n (λ b. next a b))) (then_cell (value_cell texts q) (λ u. then_cell (value_cell texts r) (g u))) (value_cell texts (with_both q r h))
    (two_cells texts (λ v. is_of j v ≡ true) (λ v. is_of k v ≡ true) q r g h x.of y.of same) (binary_gives texts p j k None None c d q r m n next g x y step made b)

-- ---- two operands at one scale

pub err_after : (texts : List Bytes) (q : Valued) (e : Over) → value_cell texts (with q (λ v. Err e)) ≡ Err e
err_after texts (Ok v) e = refl
err_after texts (Err x) e = refl

pub scaled_cells : (texts : List Bytes) (s t : Option Bytes) (c d : ℕ) (q r : Valued) (g : Slot → Slot → Cell) (f : Value → Value → Valued) → IsText texts s q → IsText texts t r →
    ((v w : Value) → q ≡ Ok v → r ≡ Ok w → g (side_slot texts s v) (side_slot texts t w) ≡ value_cell texts (with_both (rescaled c v) (rescaled d w) f)) →
    then_cell (part_cell texts s q) (λ u. then_cell (part_cell texts t r) (g u)) ≡ value_cell texts (with_both (with q (rescaled c)) (with r (rescaled d)) f)
scaled_cells texts (Some s) t c d (Err e) r g f h k same = absurd (let no = not_err e (text s) h in cc)
scaled_cells texts None t c d (Err e) r g f h k same = refl
scaled_cells texts s (Some t) c d (Ok v) (Err e) g f h k same = absurd (let no = not_err e (text t) k in cc)
scaled_cells texts s None c d (Ok v) (Err e) g f h k same = ap (λ (x : Cell). then_cell x (λ u. Err e)) (side_is texts s v) ∙ sym (err_after texts (rescaled c v) e)
scaled_cells texts s t c d (Ok v) (Ok w) g f h k same = (λ i. then_cell (side_is texts s v i) (λ u. then_cell (side_is texts t w i) (g u))) ∙ same v w refl refl

-- ---- comparisons

abbrev pub operand_of : ℕ → Valued → Operand
operand_of scale r = record { scale = scale; value = r }

pub compared_cells : (texts : List Bytes) (p : Place) (k : Kind) (o : BinaryOp) (s t : Option Bytes) (c d : ℕ) (q r : Valued) (m n : Code) → length texts < 2 ^ 32 → not (is_truth k) ≡ true → Ready texts p k s c q m → Ready texts p k t d r n →
    then_cell (part_cell texts s q) (λ u. then_cell (part_cell texts t r) (compare_cell texts o s t c d u)) ≡ value_cell texts (compared o (operand_of c q) (operand_of d r))
compared_cells texts p k o s t c d q r m n few h x y =
    scaled_cells texts s t (max c d - c) (max c d - d) q r (compare_cell texts o s t c d) (λ v w. Ok (comparison o v w)) x.text y.text
    (λ v w e f. sides_compare texts o k s t c d v w few h (side_of texts p k s c q m v x e) (side_of texts p k t d r n w y f))

pub compared_gives : (texts : List Bytes) (p : Place) (k : Kind) (o : BinaryOp) (s t : Option Bytes) (c d : ℕ) (q r : Valued) (m n : Code) → length texts < 2 ^ 32 → not (is_truth k) ≡ true → Ready texts p k s c q m → Ready texts p k t d r n → (made : List Slot) → Begins p made →
    Gives p made (and_then m (λ a. and_then n (λ b. compared_as o s t (factors_of texts s t c d) a b))) (value_cell texts (compared o (operand_of c q) (operand_of d r)))
compared_gives texts p k o s t c d q r m n few h x y made b =
    let code = and_then m (λ a. and_then n (λ b. compared_as o s t (factors_of texts s t c d) a b)) in
    as_cell p made code (then_cell (part_cell texts s q) (λ u. then_cell (part_cell texts t r) (compare_cell texts o s t c d u))) (value_cell texts (compared o (operand_of c q) (operand_of d r))) (compared_cells texts p k o s t c d q r m n few h x y)
    (binary_gives texts p k k s t c d q r m n (compared_as o s t (factors_of texts s t c d)) (compare_cell texts o s t c d) x y (λ l g a e u v i j. compare_gives texts p l o s t c d a e u v g i j) made b)

-- What an operator makes depends on the vectors that it mentions alone.
use Rattle.std.proofs.Common.{◌≡◌, ℕ, ℤ, min, List, [], ◌∷◌, ◌++◌, map, refl, ap, ◌∙◌, Option, Some, Result, Ok}
use Rattle.std.specs.List.{range_with_len}
use Rattle.control_vectors.specs.Slots.{Slot, Cell, all_slots}
use Rattle.control_vectors.specs.declared.Over.{Over}
use Rattle.control_vectors.specs.declared.PairKind.{PairKind}
use Rattle.slot_wise.specs.Pairs.{pair_slot, bit_shift_slot}
use Rattle.programs.specs.declared.op.Size.{Size}
use Rattle.programs.specs.declared.op.Size.TheVariants.{Number, Of}
use Rattle.programs.specs.declared.op.Operand.{Operand}
use Rattle.programs.specs.declared.op.Operand.TheVariants as operand
use Rattle.programs.specs.Families.{Family, Load, Persist, Range, Cross, Zip, Project, Upsert, Gather, Scatter, Rank, Materialize, Break, Fold, Order, Pair, BitShift}
use Rattle.programs.specs.Mentions.{Label, mentioned_by, operand_names, size_names}
use Rattle.programs.specs.Vectors.{Vector, Env, Named, known, slot_at, column_of}
use Rattle.voodoo_ops.specs.Attributes.{zipped, projected, upserted}
use Rattle.voodoo_ops.specs.Folds.{folded_by}
use Rattle.voodoo_ops.specs.Meaning.{at_name, size_of, effect_by, result_of}
use Rattle.voodoo_ops.specs.Moves.{gather, scatter, ranked, order}
use Rattle.voodoo_ops.specs.Ranges.{ranged, crossed}
use Rattle.voodoo_ops.specs.Slotwise.{operand_at, pair_len, pair_cells, shift_cells}

abbrev pub AreSame : Env → Env → List Label → Type 0
AreSame V W [] = Unit {0}
AreSame V W (a ∷ names) = (V a ≡ W a) × AreSame V W names

same_parts : (V W : Env) (xs ys : List Label) → AreSame V W (xs ++ ys) → AreSame V W xs × AreSame V W ys
same_parts V W [] ys h = (tt, h)
same_parts V W (a ∷ xs) ys h = let r = same_parts V W xs ys h.1 in ((h.0, r.0), r.1)

size_same : (V W : Env) (size : Size) → AreSame V W (size_names size) → size_of V size ≡ size_of W size
size_same V W (Number n) h = refl
size_same V W (Of a) h = ap (λ (o : Option Vector). (known o).len) h.0

-- ---- operands
operand_same : (V W : Env) (x : Operand) (i : ℕ) → AreSame V W (operand_names x) → operand_at V x i ≡ operand_at W x i
operand_same V W (operand.Column a p) i h = ap (λ (o : Option Vector). slot_at (known o) p i) h.0
operand_same V W (operand.Number z) i h = refl

pair_len_same : (V W : Env) (x y : Operand) → AreSame V W (operand_names x) → AreSame V W (operand_names y) → pair_len V x y ≡ pair_len W x y
pair_len_same V W (operand.Column a p) (operand.Column b q) h k = ap (λ (o : Option Vector). min (known o).len (known (V b)).len) h.0 ∙ ap (λ (o : Option Vector). min (known (W a)).len (known o).len) k.0
pair_len_same V W (operand.Column a p) (operand.Number z) h k = ap (λ (o : Option Vector). (known o).len) h.0
pair_len_same V W (operand.Number z) (operand.Column b q) h k = ap (λ (o : Option Vector). (known o).len) k.0
pair_len_same V W (operand.Number z) (operand.Number w) h k = refl

map_same : {A B : Type 0} (f g : A → B) (xs : List A) → ((x : A) → f x ≡ g x) → map f xs ≡ map g xs
map_same f g [] h = refl
map_same f g (x ∷ xs) h = rw (h x) (ap (λ l. g x ∷ l) (map_same f g xs h))

cells_same : (kind : PairKind) (V W : Env) (x y : Operand) → AreSame V W (operand_names x) → AreSame V W (operand_names y) → pair_cells kind V x y ≡ pair_cells kind W x y
cells_same kind V W x y h k =
    map_same (λ i. pair_slot kind (operand_at V x i) (operand_at V y i)) (λ i. pair_slot kind (operand_at W x i) (operand_at W y i)) (range_with_len 0 (pair_len V x y))
    (λ i. ap (λ (s : Slot). pair_slot kind s (operand_at V y i)) (operand_same V W x i h) ∙ ap (pair_slot kind (operand_at W x i)) (operand_same V W y i k))
    ∙ ap (λ (n : ℕ). map (λ i. pair_slot kind (operand_at W x i) (operand_at W y i)) (range_with_len 0 n)) (pair_len_same V W x y h k)

shifts_same : (V W : Env) (x : Operand) (by : ℤ) → AreSame V W (operand_names x) → shift_cells V x by ≡ shift_cells W x by
shifts_same V W x by h =
    map_same (λ i. bit_shift_slot by (operand_at V x i)) (λ i. bit_shift_slot by (operand_at W x i)) (range_with_len 0 (pair_len V x x)) (λ i. ap (bit_shift_slot by) (operand_same V W x i h))
    ∙ ap (λ (n : ℕ). map (λ i. bit_shift_slot by (operand_at W x i)) (range_with_len 0 n)) (pair_len_same V W x x h h)

-- ---- operators
abbrev made : Vector → Option (Result Vector Over)
made v = Some (Ok v)

abbrev columned : Result Vector Over → Option (Result Vector Over)
columned r = Some r

pub effect_same : (store V W : Env) (f : Family) → AreSame V W (mentioned_by f) → effect_by store V f ≡ effect_by store W f
effect_same store V W (Load t) h = refl
effect_same store V W (Persist a) h = refl
effect_same store V W (Range size p control) h = ap (λ (n : ℕ). made (ranged n p control)) (size_same V W size h)
effect_same store V W (Cross a p b q) h = ap (λ (o : Option Vector). made (crossed (known o).len p (at_name V b).len q)) h.0 ∙ ap (λ (o : Option Vector). made (crossed (at_name W a).len p (known o).len q)) h.1.0
effect_same store V W (Zip a b) h = ap (λ (o : Option Vector). made (zipped (known o) (at_name V b))) h.0 ∙ ap (λ (o : Option Vector). made (zipped (at_name W a) (known o))) h.1.0
effect_same store V W (Project a p q) h = ap (λ (o : Option Vector). made (projected (known o) p q)) h.0
effect_same store V W (Upsert a p b q) h = ap (λ (o : Option Vector). made (upserted (known o) p (at_name V b) q)) h.0 ∙ ap (λ (o : Option Vector). made (upserted (at_name W a) p (known o) q)) h.1.0
effect_same store V W (Gather a b pos) h = ap (λ (o : Option Vector). made (gather (known o) (at_name V b) pos)) h.0 ∙ ap (λ (o : Option Vector). made (gather (at_name W a) (known o) pos)) h.1.0
effect_same store V W (Scatter a size b pos) h =
    let parts = same_parts V W (size_names size) (b ∷ []) h.1 in
    ap (λ (o : Option Vector). made (scatter (known o) (size_of V size) (at_name V b) pos)) h.0
    ∙ ap (λ (n : ℕ). made (scatter (at_name W a) n (at_name V b) pos)) (size_same V W size parts.0)
    ∙ ap (λ (o : Option Vector). made (scatter (at_name W a) (size_of W size) (known o) pos)) parts.1.0
effect_same store V W (Rank kind r) h = ap (λ (o : Option Vector). made (ranked kind (known o) (at_name V r.b) r)) h.0 ∙ ap (λ (o : Option Vector). made (ranked kind (at_name W r.a) (known o) r)) h.1.0
effect_same store V W (Materialize a) h = ap (λ (o : Option Vector). made (known o)) h.0
effect_same store V W (Break a) h = ap (λ (o : Option Vector). made (known o)) h.0
effect_same store V W (Fold kind f) h = ap (λ (o : Option Vector). let r : Option (Result Vector Over) = Some (folded_by kind (known o) f) in r) h.0
effect_same store V W (Order a mark out keys) h = ap (λ (o : Option Vector). made (order (known o) mark out keys)) h.0
effect_same store V W (Pair kind p) h =
    let both = same_parts V W (operand_names p.x) (operand_names p.y) h in
    ap (λ (n : ℕ). columned (column_of p.out n (all_slots (pair_cells kind V p.x p.y)))) (pair_len_same V W p.x p.y both.0 both.1)
    ∙ ap (λ (cells : List Cell). columned (column_of p.out (pair_len W p.x p.y) (all_slots cells))) (cells_same kind V W p.x p.y both.0 both.1)
effect_same store V W (BitShift x by out) h =
    ap (λ (n : ℕ). columned (column_of out n (all_slots (shift_cells V x by)))) (pair_len_same V W x x h h)
    ∙ ap (λ (cells : List Cell). columned (column_of out (pair_len W x x) (all_slots cells))) (shifts_same V W x by h)

pub result_same : (V W : Env) (n : Label) (f : Family) (rest : Named) → AreSame V W (mentioned_by f) → result_of V n f rest ≡ result_of W n f rest
result_same V W n (Persist a) rest h = ap (λ (o : Option Vector). (n, known o) ∷ rest) h.0
result_same V W n _ rest h = refl

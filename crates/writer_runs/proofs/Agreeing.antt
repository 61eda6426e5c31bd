-- What an operator makes depends on the vectors that it mentions alone.
use Rattle.std.proofs.Common.{◌≡◌, ℕ, ℤ, true, Bool, ◌||◌, List, [], ◌∷◌, ◌++◌, map, refl, ap, ◌∙◌, Option, Some, Result, Ok}
use Rattle.std.specs.List.{range_with_len}
use Rattle.std.specs.Str.{bytes_eq}
use Rattle.control_vectors.specs.Slots.{all_slots}
use Rattle.control_vectors.specs.declared.Over.{Over}
use Rattle.control_vectors.specs.declared.PairKind.{PairKind}
use Rattle.slot_wise.specs.Pairs.{pair_slot}
use Rattle.programs.specs.declared.op.Operand.{Operand}
use Rattle.programs.specs.declared.op.Operand.TheVariants as operand
use Rattle.programs.specs.declared.op.PairArgs.{PairArgs}
use Rattle.programs.specs.declared.op.Size.{Size}
use Rattle.programs.specs.declared.op.Size.TheVariants.{Number, Of}
use Rattle.programs.specs.Families.{Family, Load, Persist, Range, Cross, Zip, Project, Upsert, Gather, Scatter, Rank, Materialize, Break, Fold, Order, Pair, BitShift}
use Rattle.programs.specs.Mentions.{Label, mentioned_by, operand_names, size_names, has_name}
use Rattle.programs.specs.Vectors.{Vector, Env, known, slot_at, column_of}
use Rattle.programs.proofs.ReachLemmas.{or_true}
use Rattle.voodoo_ops.specs.Attributes.{zipped, projected, upserted}
use Rattle.voodoo_ops.specs.Folds.{folded_by}
use Rattle.voodoo_ops.specs.Meaning.{at_name, size_of, effect_by}
use Rattle.voodoo_ops.specs.Moves.{gather, scatter, ranked, order}
use Rattle.voodoo_ops.specs.Ranges.{ranged, crossed}
use Rattle.voodoo_ops.specs.Slotwise.{pair_len, pair_cells, paired, shifted}
use Rattle.writer_runs.proofs.Names.{name_same}

-- two sets of vectors are the same at these names
abbrev pub Agree : Env → Env → List Label → Type 0
Agree V W names = (name : Label) → has_name names name ≡ true → V name ≡ W name

abbrev pub AgreeAll : Env → Env → List Label → Type 0
AgreeAll V W [] = Unit {0}
AgreeAll V W (a ∷ names) = (V a ≡ W a) × AgreeAll V W names

pub has_first : (a : Label) (names : List Label) → has_name (a ∷ names) a ≡ true
has_first a names = ap (λ (b : Bool). b || has_name names a) (name_same a)

pub has_later : (a : Label) (names : List Label) (n : Label) → has_name names n ≡ true → has_name (a ∷ names) n ≡ true
has_later a names n h = ap (λ (b : Bool). bytes_eq a n || b) h ∙ or_true (bytes_eq a n)

pub agree_all : (V W : Env) (names : List Label) → Agree V W names → AgreeAll V W names
agree_all V W [] h = tt
agree_all V W (a ∷ names) h = (h a (has_first a names), agree_all V W names (λ n m. h n (has_later a names n m)))

parts : (V W : Env) (xs ys : List Label) → AgreeAll V W (xs ++ ys) → AgreeAll V W xs × AgreeAll V W ys
parts V W [] ys h = (tt, h)
parts V W (a ∷ xs) ys h = let r = parts V W xs ys h.1 in ((h.0, r.0), r.1)

size_same : (V W : Env) (size : Size) → AgreeAll V W (size_names size) → size_of V size ≡ size_of W size
size_same V W (Number n) h = refl
size_same V W (Of a) h = ap (λ (o : Option Vector). (known o).len) h.0

-- ---- slot by slot

pair_same : (kind : PairKind) (V W : Env) (x y : Operand) (out : Label) → AgreeAll V W (operand_names x) → AgreeAll V W (operand_names y)
    → column_of out (pair_len V x y) (all_slots (pair_cells kind V x y)) ≡ column_of out (pair_len W x y) (all_slots (pair_cells kind W x y))
pair_same kind V W (operand.Column a p) (operand.Column b q) out h k = rw (h.0, k.0) refl
pair_same kind V W (operand.Column a p) (operand.Number z) out h k =
    ap (λ (o : Option Vector). column_of out (known o).len (all_slots (map (λ i. pair_slot kind (slot_at (known o) p i) (Some z)) (range_with_len 0 (known o).len)))) h.0
pair_same kind V W (operand.Number z) (operand.Column b q) out h k =
    ap (λ (o : Option Vector). column_of out (known o).len (all_slots (map (λ i. pair_slot kind (Some z) (slot_at (known o) q i)) (range_with_len 0 (known o).len)))) k.0
pair_same kind V W (operand.Number z) (operand.Number w) out h k = refl

paired_same : (kind : PairKind) (V W : Env) (p : PairArgs) → AgreeAll V W (operand_names p.x ++ operand_names p.y) → paired kind V p ≡ paired kind W p
paired_same kind V W p h = let both = parts V W (operand_names p.x) (operand_names p.y) h in pair_same kind V W p.x p.y p.out both.0 both.1

shifted_same : (V W : Env) (x : Operand) (by : ℤ) (out : Label) → AgreeAll V W (operand_names x) → shifted V x by out ≡ shifted W x by out
shifted_same V W (operand.Column a p) by out h = rw h.0 refl
shifted_same V W (operand.Number z) by out h = refl

-- ---- operators

pub effect_same : (store V W : Env) (f : Family) → AgreeAll V W (mentioned_by f) → effect_by store V f ≡ effect_by store W f
effect_same store V W (Load t) h = refl
effect_same store V W (Persist a) h = refl
effect_same store V W (Range size p control) h = ap (λ (n : ℕ). Some (Ok (ranged n p control))) (size_same V W size h)
effect_same store V W (Cross a p b q) h =
    ap (λ (o : Option Vector). Some (Ok (crossed (known o).len p (at_name V b).len q))) h.0
    ∙ ap (λ (o : Option Vector). Some (Ok (crossed (at_name W a).len p (known o).len q))) h.1.0
effect_same store V W (Zip a b) h =
    ap (λ (o : Option Vector). Some (Ok (zipped (known o) (at_name V b)))) h.0
    ∙ ap (λ (o : Option Vector). Some (Ok (zipped (at_name W a) (known o)))) h.1.0
effect_same store V W (Project a p q) h = ap (λ (o : Option Vector). Some (Ok (projected (known o) p q))) h.0
effect_same store V W (Upsert a p b q) h =
    ap (λ (o : Option Vector). Some (Ok (upserted (known o) p (at_name V b) q))) h.0
    ∙ ap (λ (o : Option Vector). Some (Ok (upserted (at_name W a) p (known o) q))) h.1.0
effect_same store V W (Gather a b pos) h =
    ap (λ (o : Option Vector). Some (Ok (gather (known o) (at_name V b) pos))) h.0
    ∙ ap (λ (o : Option Vector). Some (Ok (gather (at_name W a) (known o) pos))) h.1.0
effect_same store V W (Scatter a size b pos) h =
    let rest = parts V W (size_names size) (b ∷ []) h.1 in
    ap (λ (o : Option Vector). Some (Ok (scatter (known o) (size_of V size) (at_name V b) pos))) h.0
    ∙ ap (λ (n : ℕ). Some (Ok (scatter (at_name W a) n (at_name V b) pos))) (size_same V W size rest.0)
    ∙ ap (λ (o : Option Vector). Some (Ok (scatter (at_name W a) (size_of W size) (known o) pos))) rest.1.0
effect_same store V W (Rank kind r) h =
    ap (λ (o : Option Vector). Some (Ok (ranked kind (known o) (at_name V r.b) r))) h.0
    ∙ ap (λ (o : Option Vector). Some (Ok (ranked kind (at_name W r.a) (known o) r))) h.1.0
effect_same store V W (Materialize a) h = ap (λ (o : Option Vector). Some (Ok (known o))) h.0
effect_same store V W (Break a) h = ap (λ (o : Option Vector). Some (Ok (known o))) h.0
effect_same store V W (Fold kind f) h = ap (λ (o : Option Vector). Some (folded_by kind (known o) f)) h.0
effect_same store V W (Order a mark out keys) h = ap (λ (o : Option Vector). Some (Ok (order (known o) mark out keys))) h.0
effect_same store V W (Pair kind p) h = ap (λ (r : Result Vector Over). Some r) (paired_same kind V W p h)
effect_same store V W (BitShift x by out) h = ap (λ (r : Result Vector Over). Some r) (shifted_same V W x by out h)

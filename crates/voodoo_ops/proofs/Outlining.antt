-- The vectors that are made have the outlines that a check gives.
use Rattle.std.proofs.Common.{◌≡◌, ℕ, ◌*◌, ◌^◌, ◌≤◌, min, Bool, true, false, not, List, [], ◌∷◌, map, filter, refl, sym, ap, ◌∙◌, arith, Option, Some, None, Result, Ok, Err, if◌then◌else◌}
use Rattle.std.specs.Option.{option_map}
use Rattle.std.specs.Str.{bytes_eq}
use Rattle.control_vectors.specs.Slots.{Slot, all_slots}
use Rattle.control_vectors.specs.declared.FoldKind.{FoldKind}
use Rattle.control_vectors.specs.declared.FoldKind.TheVariants as number
use Rattle.control_vectors.specs.declared.Over.{Over}
use Rattle.key_paths.specs.Substructures.{is_before, is_at_or_below}
use Rattle.control_vectors.specs.declared.PairKind.{PairKind}
use Rattle.slot_folds.specs.Folds.{folded, scanned}
use Rattle.slot_moves.specs.Crosses.{left_places, right_places}
use Rattle.slot_moves.specs.Moves.{writers}
use Rattle.programs.specs.declared.op.Size.{Size}
use Rattle.programs.specs.declared.op.Size.TheVariants.{Number, Of}
use Rattle.programs.specs.declared.op.Operand.{Operand}
use Rattle.programs.specs.declared.op.Operand.TheVariants as operand
use Rattle.programs.specs.declared.op.PairArgs.{PairArgs}
use Rattle.programs.specs.declared.op.FoldArgs.{FoldArgs}
use Rattle.programs.specs.declared.op.RankArgs.{RankArgs}
use Rattle.programs.specs.declared.family.FoldOperator.{FoldOperator}
use Rattle.programs.specs.declared.family.FoldOperator.TheVariants as of
use Rattle.programs.specs.declared.family.RankOperator.{RankOperator}
use Rattle.programs.specs.declared.family.RankOperator.TheVariants as by
use Rattle.programs.specs.Families.{Family, Load, Persist, Range, Cross, Zip, Project, Upsert, Gather, Scatter, Rank, Materialize, Break, Fold, Order, Pair, BitShift}
use Rattle.programs.specs.Mentions.{Label}
use Rattle.programs.specs.Vectors.{Attribute, Vector, Env, known, cut_to, column, column_of, slots_of, put}
use Rattle.programs.specs.Merges.{merged}
use Rattle.programs.specs.Moves as paths
use Rattle.programs.specs.Moves.{moved, others}
use Rattle.programs.specs.Outlines.{Outline, outlined, outlines, outline_of, known_outline, add_shape, len_in, paths_in}
use Rattle.programs.specs.MadeOutlines.{size_in, capped, operand_len_in, pair_len_in, pair_outline, fold_outline, rank_outline, zipped_outline, made_by}
use Rattle.programs.proofs.Merging.{merged-map}
use Rattle.voodoo_ops.specs.Attributes.{comes_before, below, beside, zipped, projected, resized, upserted}
use Rattle.voodoo_ops.specs.Ranges.{ranged, crossed}
use Rattle.voodoo_ops.specs.Slotwise.{pair_len, paired, pair_cells, shifted, shift_cells}
use Rattle.voodoo_ops.specs.Folds.{fold, fold_select, folded_by}
use Rattle.voodoo_ops.specs.Runs.{run_marks}
use Rattle.voodoo_ops.specs.Moves.{moved_to, gather, scatter, ranked, order}
use Rattle.voodoo_ops.specs.Meaning.{effect_by, size_of}

-- ---- what is known of names
pub outline_known : (o : Option Vector) → known_outline (option_map outline_of o) ≡ outline_of (known o)
outline_known None = refl
outline_known (Some v) = refl

pub len_known : (env : Env) (a : Label) → len_in (outlines env) a ≡ (known (env a)).len
len_known env a = ap (λ (p : Outline). p.len) (outline_known (env a))

pub paths_known : (env : Env) (a : Label) → paths_in (outlines env) a ≡ map (λ t. t.0) (known (env a)).attributes
paths_known env a = ap (λ (p : Outline). p.paths) (outline_known (env a))

pub size_same : (env : Env) (size : Size) → size_in (outlines env) size ≡ size_of env size
size_same env (Number n) = refl
size_same env (Of a) = len_known env a

pub pair_same : (env : Env) (x y : Operand) → pair_len_in (outlines env) x y ≡ pair_len env x y
pair_same env (operand.Column a p) (operand.Column b q) = rw (len_known env a, len_known env b) refl
pair_same env (operand.Column a p) (operand.Number z) = len_known env a
pair_same env (operand.Number z) (operand.Column b q) = len_known env b
pair_same env (operand.Number z) (operand.Number w) = refl

min_self : (n : ℕ) → min n n ≡ n
min_self n = omega arith

pub operand_same : (env : Env) (x : Operand) → operand_len_in (outlines env) x ≡ pair_len env x x
operand_same env (operand.Column a p) = len_known env a ∙ sym (min_self (known (env a)).len)
operand_same env (operand.Number z) = refl

-- ---- the paths of attributes that are handed on
paths-cut : (n : ℕ) (ts : List Attribute) → map (λ t. t.0) (cut_to n ts) ≡ map (λ t. t.0) ts
paths-cut n [] = refl
paths-cut n (t ∷ ts) = ap (λ (l : List Label). t.0 ∷ l) (paths-cut n ts)

pub outline_zipped : (a b : Vector) → outline_of (zipped a b) ≡ zipped_outline (outline_of a) (outline_of b)
outline_zipped a b =
    let n = min a.len b.len in
    ap (outlined n)
    (merged-map (λ (t : Attribute). t.0) comes_before is_before (λ t u. refl) (cut_to n a.attributes) (cut_to n b.attributes)
    ∙ ap (λ (l : List Label). merged is_before l (map (λ t. t.0) (cut_to n b.attributes))) (paths-cut n a.attributes)
    ∙ ap (merged is_before (map (λ t. t.0) a.attributes)) (paths-cut n b.attributes))

pub outline_crossed : (n m : ℕ) (p q : Label) → outline_of (crossed n p m q) ≡ outlined (n * m) (merged is_before (p ∷ []) (q ∷ []))
outline_crossed n m p q =
    outline_zipped (column p (n * m) (left_places n m)) (column q (n * m) (right_places n m))
    ∙ ap (λ (k : ℕ). outlined k (merged is_before (p ∷ []) (q ∷ []))) (min_self (n * m))

abbrev renamed : Label → Label → Attribute → Attribute
renamed p q t = (moved p q t.0, t.1)

abbrev under : Label → Label → List Attribute → List Attribute
under p q ts = map (renamed p q) (below p ts)

paths-below : (p q : Label) (ts : List Attribute) → map (λ t. t.0) (under p q ts) ≡ paths.projected p q (map (λ t. t.0) ts)
paths-below p q [] = refl
paths-below p q (t ∷ ts) = by (is_at_or_below t.0 p) (paths-below p q ts)
  where
    by : (b : Bool) → map (λ u. u.0) (under p q ts) ≡ paths.projected p q (map (λ u. u.0) ts) → map (λ u. u.0) (map (renamed p q) (if b then t ∷ below p ts else below p ts)) ≡ map (moved p q) (if b then t.0 ∷ filter (λ x. is_at_or_below x p) (map (λ u. u.0) ts) else filter (λ x. is_at_or_below x p) (map (λ u. u.0) ts))
    by true e = ap (λ (l : List Label). moved p q t.0 ∷ l) e
    by false e = e

pub outline_projected : (a : Vector) (p q : Label) → outline_of (projected a p q) ≡ outlined a.len (paths.projected p q (map (λ t. t.0) a.attributes))
outline_projected a p q = ap (outlined a.len) (paths-below p q a.attributes)

paths-beside : (p : Label) (ts : List Attribute) → map (λ t. t.0) (beside p ts) ≡ others p (map (λ t. t.0) ts)
paths-beside p [] = refl
paths-beside p (t ∷ ts) = by (not (is_at_or_below t.0 p)) (paths-beside p ts)
  where
    by : (b : Bool) → map (λ u. u.0) (beside p ts) ≡ others p (map (λ u. u.0) ts) → map (λ u. u.0) (if b then t ∷ beside p ts else beside p ts) ≡ (if b then t.0 ∷ others p (map (λ u. u.0) ts) else others p (map (λ u. u.0) ts))
    by true e = ap (λ (l : List Label). t.0 ∷ l) e
    by false e = e

pub outline_upserted : (a b : Vector) (p q : Label) → outline_of (upserted a p b q) ≡ outlined a.len (paths.upserted p (map (λ t. t.0) a.attributes))
outline_upserted a b p q =
    ap (outlined a.len)
    (merged-map (λ (t : Attribute). t.0) comes_before is_before (λ t u. refl) ((p, resized a.len (slots_of b.attributes q)) ∷ []) (beside p a.attributes)
    ∙ ap (merged is_before (p ∷ [])) (paths-beside p a.attributes))

paths-moved : (places : List Slot) (ts : List Attribute) → map (λ t. t.0) (moved_to places ts) ≡ map (λ t. t.0) ts
paths-moved places [] = refl
paths-moved places (t ∷ ts) = ap (λ (l : List Label). t.0 ∷ l) (paths-moved places ts)

-- ---- vectors of one attribute
column_outline : (out : Label) (n m : ℕ) (xs : Result (List Slot) Over) (v : Vector) → m ≡ n → column_of out n xs ≡ Ok v → outline_of v ≡ outlined m (out ∷ [])
column_outline out n m (Err e) v same h = absurd cc
column_outline out n m (Ok xs) v same h =
    let is : column out n xs ≡ v = cc in
    ap outline_of (sym is) ∙ ap (λ (k : ℕ). outlined k (out ∷ [])) (sym same)

pair_outlined : (k : PairKind) (env : Env) (p : PairArgs) (v : Vector) → paired k env p ≡ Ok v → outline_of v ≡ pair_outline (outlines env) p
pair_outlined k env p v e = column_outline p.out (pair_len env p.x p.y) (pair_len_in (outlines env) p.x p.y) (all_slots (pair_cells k env p.x p.y)) v (pair_same env p.x p.y) e

number_outlined : (k : FoldKind) (env : Env) (f : FoldArgs) (v : Vector) → fold k (known (env f.a)) f ≡ Ok v → outline_of v ≡ fold_outline (outlines env) f
number_outlined k env f v e =
    let w = known (env f.a) in
    column_outline f.out w.len (len_in (outlines env) f.a) (all_slots (folded k (run_marks w f.run) (slots_of w.attributes f.val))) v (len_known env f.a) e

fold_outlined : (k : FoldOperator) (env : Env) (f : FoldArgs) (v : Vector) → folded_by k (known (env f.a)) f ≡ Ok v → outline_of v ≡ fold_outline (outlines env) f
fold_outlined of.Sum env f v e = number_outlined number.Sum env f v e
fold_outlined of.Min env f v e = number_outlined number.Min env f v e
fold_outlined of.Max env f v e = number_outlined number.Max env f v e
fold_outlined of.Select env f v e =
    let is : fold_select (known (env f.a)) f ≡ v = cc in
    ap outline_of (sym is) ∙ ap (λ (k : ℕ). outlined k (f.out ∷ [])) (sym (len_known env f.a))
fold_outlined of.Scan env f v e =
    let w = known (env f.a) in
    column_outline f.out w.len (len_in (outlines env) f.a) (all_slots (scanned (run_marks w f.run) (slots_of w.attributes f.val))) v (len_known env f.a) e

rank_outlined : (k : RankOperator) (env : Env) (b : RankArgs) (v : Vector) → ranked k (known (env b.a)) (known (env b.b)) b ≡ v → outline_of v ≡ rank_outline (outlines env) b
rank_outlined by.Bucket env b v e = ap outline_of (sym e) ∙ ap (λ (k : ℕ). outlined k (b.out ∷ [])) (sym (len_known env b.a))
rank_outlined by.Partition env b v e = ap outline_of (sym e) ∙ ap (λ (k : ℕ). outlined k (b.out ∷ [])) (sym (len_known env b.a))

-- ---- each operator
is_some_of : (w : Vector) (r : Result Vector Over) (v : Vector) → (let o : Option (Result Vector Over) = Some (Ok w) in o) ≡ Some r → r ≡ Ok v → w ≡ v
is_some_of w r v e f = cc

of_some : (x r : Result Vector Over) (v : Vector) → Some x ≡ Some r → r ≡ Ok v → x ≡ Ok v
of_some x r v e f = cc

capped_is : (n : ℕ) → capped n ≤ 2 ^ 22 → capped n ≡ n
capped_is n h = omega (arith, h)

-- what an operator makes has the outline that is foretold, where that is no limit
pub outline_made : (store env : Env) (g : Family) (r : Result Vector Over) (v : Vector) → (made_by (outlines store) (outlines env) g).len ≤ 2 ^ 22 → effect_by store env g ≡ Some r → r ≡ Ok v → outline_of v ≡ made_by (outlines store) (outlines env) g
outline_made store env (Load t) r v s e f = ap outline_of (sym (is_some_of (known (store t)) r v e f)) ∙ sym (outline_known (store t))
outline_made store env (Persist a) r v s e f = absurd cc
outline_made store env (Range size p control) r v s e f =
    ap outline_of (sym (is_some_of (ranged (size_of env size) p control) r v e f)) ∙ ap (λ (k : ℕ). outlined k (p ∷ [])) (sym (size_same env size))
outline_made store env (Cross a p b q) r v s e f =
    ap outline_of (sym (is_some_of (crossed (known (env a)).len p (known (env b)).len q) r v e f))
    ∙ outline_crossed (known (env a)).len (known (env b)).len p q
    ∙ ap (λ (k : ℕ). outlined (k * (known (env b)).len) (merged is_before (p ∷ []) (q ∷ []))) (sym (len_known env a))
    ∙ ap (λ (k : ℕ). outlined (len_in (outlines env) a * k) (merged is_before (p ∷ []) (q ∷ []))) (sym (len_known env b))
    ∙ ap (λ (k : ℕ). outlined k (merged is_before (p ∷ []) (q ∷ []))) (sym (capped_is (len_in (outlines env) a * len_in (outlines env) b) s))
outline_made store env (Zip a b) r v s e f =
    ap outline_of (sym (is_some_of (zipped (known (env a)) (known (env b))) r v e f)) ∙ outline_zipped (known (env a)) (known (env b))
    ∙ ap (λ (o : Outline). zipped_outline o (outline_of (known (env b)))) (sym (outline_known (env a))) ∙ ap (zipped_outline (known_outline (outlines env a))) (sym (outline_known (env b)))
outline_made store env (Project a p q) r v s e f =
    ap outline_of (sym (is_some_of (projected (known (env a)) p q) r v e f)) ∙ outline_projected (known (env a)) p q
    ∙ ap (λ (o : Outline). outlined o.len (paths.projected p q o.paths)) (sym (outline_known (env a)))
outline_made store env (Upsert a p b q) r v s e f =
    ap outline_of (sym (is_some_of (upserted (known (env a)) p (known (env b)) q) r v e f)) ∙ outline_upserted (known (env a)) (known (env b)) p q
    ∙ ap (λ (o : Outline). outlined o.len (paths.upserted p o.paths)) (sym (outline_known (env a)))
outline_made store env (Gather a b pos) r v s e f =
    let w = known (env b) in
    ap outline_of (sym (is_some_of (gather (known (env a)) w pos) r v e f))
    ∙ ap (outlined w.len) (paths-moved (slots_of w.attributes pos) (known (env a)).attributes ∙ sym (paths_known env a))
    ∙ ap (λ (k : ℕ). outlined k (paths_in (outlines env) a)) (sym (len_known env b))
outline_made store env (Scatter a size b pos) r v s e f =
    let u = known (env a) in
    let w = known (env b) in
    let n = size_of env size in
    ap outline_of (sym (is_some_of (scatter u n w pos) r v e f))
    ∙ ap (outlined n) (paths-moved (writers n u.len (slots_of w.attributes pos)) u.attributes ∙ sym (paths_known env a))
    ∙ ap (λ (k : ℕ). outlined k (paths_in (outlines env) a)) (sym (size_same env size))
outline_made store env (Rank kind b) r v s e f = rank_outlined kind env b v (is_some_of (ranked kind (known (env b.a)) (known (env b.b)) b) r v e f)
outline_made store env (Materialize a) r v s e f = ap outline_of (sym (is_some_of (known (env a)) r v e f)) ∙ sym (outline_known (env a))
outline_made store env (Break a) r v s e f = ap outline_of (sym (is_some_of (known (env a)) r v e f)) ∙ sym (outline_known (env a))
outline_made store env (Fold kind g) r v s e f = fold_outlined kind env g v (of_some (folded_by kind (known (env g.a)) g) r v e f)
outline_made store env (Order a mark out keys) r v s e f =
    ap outline_of (sym (is_some_of (order (known (env a)) mark out keys) r v e f)) ∙ ap (λ (k : ℕ). outlined k (out ∷ [])) (sym (len_known env a))
outline_made store env (Pair kind p) r v s e f = pair_outlined kind env p v (of_some (paired kind env p) r v e f)
outline_made store env (BitShift x by out) r v s e f =
    column_outline out (pair_len env x x) (operand_len_in (outlines env) x) (all_slots (shift_cells env x by)) v (operand_same env x) (of_some (shifted env x by out) r v e f)

-- one more vector has one more outline
pub outlines-put : (env : Env) (n : Label) (v : Vector) (m : Label) → outlines (put env n v) m ≡ add_shape (outlines env) n (outline_of v) m
outlines-put env n v m = by (bytes_eq n m)
  where
    by : (b : Bool) → option_map outline_of (if b then Some v else env m) ≡ (if b then Some (outline_of v) else option_map outline_of (env m))
    by true = refl
    by false = refl

-- The vectors that Project and Upsert make.
use Rattle.std.proofs.Common.{◌≡◌, ℕ, suc, ◌+◌, ◌<◌, Bool, true, false, ◌||◌, not, cond, List, [], ◌∷◌, map, filter, length, refl, sym, ap, ◌∙◌, arith, subst, if◌then◌else◌}
use Rattle.std.specs.Prelude.{All}
use Rattle.std.specs.List.{list_any, prefix_len, insert}
use Rattle.std.proofs.lemmas.List.{length-map}
use Rattle.std.proofs.lemmas.List.Elements.{All-nil, All-cons, All-head, All-tail, All-map, All-filter}
use Rattle.control_vectors.specs.Slots.{Slot}
use Rattle.key_paths.specs.Paths.{IsPath}
use Rattle.key_paths.specs.Substructures.{is_root, is_at_or_below, is_before}
use Rattle.struct_vectors.specs.Columns.{ColumnValue}
use Rattle.struct_vectors.specs.Vectors.{VectorValue, vector_of, paths_of, IsShaped, HaveLength, IsBelowRoot}
use Rattle.programs.specs.Mentions.{Label}
use Rattle.programs.specs.Vectors.{Attribute, Vector, slots_of, seen, seen_attributes}
use Rattle.programs.specs.Merges.{entered, merged}
use Rattle.programs.specs.Moves as paths
use Rattle.programs.specs.Moves.{moved, others, is_deep}
use Rattle.programs.specs.Orders.{Rises}
use Rattle.programs.specs.Outlines.{outlined, outline_of}
use Rattle.programs.specs.Faults.{path_clash, too_deep, all_apart, IsClear}
use Rattle.programs.proofs.Merging.{merged-map, merged-all, rises_merged, rises_ascending}
use Rattle.programs.proofs.Nesting.{apart_in_order}
use Rattle.programs.proofs.Projections.{rises_filter, rises_projected, rises_some}
use Rattle.voodoo_ops.specs.Attributes.{comes_before, projected, resized, upserted}
use Rattle.voodoo_ops.specs.Columns.{Attributes, earlier, moved_columns, others_of}
use Rattle.voodoo_ops.proofs.Listed.{seen_moved, seen_others, length-resized}
use Rattle.voodoo_ops.proofs.Seen.{paths-seen}
use Rattle.voodoo_ops.proofs.Shapes.{shaped_by}

-- ---- the outline of a vector
no_root : (paths : List Label) → All IsBelowRoot paths → list_any is_root paths ≡ false
no_root [] h = refl
no_root (p ∷ paths) h = ap (λ (b : Bool). b || list_any is_root paths) (All-head IsBelowRoot p paths h) ∙ no_root paths (All-tail IsBelowRoot p paths h)

clear_shaped : (v : VectorValue) → IsShaped v → IsClear (outlined v.length (paths_of v.attributes))
clear_shaped v s = record {
  rises = rises_ascending (paths_of v.attributes) s.ascending;
  paths = s.paths;
  clear = ap (λ (b : Bool). b || not (all_apart (paths_of v.attributes))) (no_root (paths_of v.attributes) s.below_root) ∙ ap not (apart_in_order (paths_of v.attributes) s.ascending s.apart s.paths);
}

-- ---- Project
paths-moved : (p q : Label) (attributes : Attributes) → paths_of (moved_columns p q attributes) ≡ paths.projected p q (paths_of attributes)
paths-moved p q [] = refl
paths-moved p q (a ∷ attributes) = by (is_at_or_below a.0 p) (paths-moved p q attributes)
  where
    by : (b : Bool) → paths_of (moved_columns p q attributes) ≡ paths.projected p q (paths_of attributes) → paths_of (map (λ t. (moved p q t.0, t.1)) (if b then a ∷ filter (λ t. is_at_or_below t.0 p) attributes else filter (λ t. is_at_or_below t.0 p) attributes)) ≡ map (moved p q) (if b then a.0 ∷ filter (λ x. is_at_or_below x p) (paths_of attributes) else filter (λ x. is_at_or_below x p) (paths_of attributes))
    by true e = ap (λ (l : List Label). moved p q a.0 ∷ l) e
    by false e = e

pub project_seen : (n : ℕ) (p q : Label) (v : VectorValue) (w : Vector) (items : Attributes) → n ≡ v.length → items ≡ moved_columns p q v.attributes → seen v ≡ w → seen (vector_of n items) ≡ projected w p q
project_seen n p q v w items e is same =
    ap (λ (l : Attributes). seen (vector_of n l)) is
    ∙ ap (λ (l : List Attribute). let u : Vector = record { len = n; attributes = l } in u) (seen_moved p q v.attributes)
    ∙ ap (λ (k : ℕ). let u : Vector = record { len = k; attributes = (projected (seen v) p q).attributes } in u) e
    ∙ ap (λ (u : Vector). projected u p q) same

pub project_shaped : (n : ℕ) (p q : Label) (v : VectorValue) (w : Vector) (items : Attributes) → n ≡ v.length → items ≡ moved_columns p q v.attributes → seen v ≡ w → IsShaped v → (0 < length items → IsPath p × IsPath q) → All IsPath (paths_of items) → path_clash (outline_of (projected w p q)) ≡ false → IsShaped (vector_of n items)
project_shaped n p q v w items e is same s ends each clear =
    let names : paths_of items ≡ paths.projected p q (paths_of v.attributes) = ap (λ (l : Attributes). paths_of l) is ∙ paths-moved p q v.attributes in
    shaped_by n items
    (omega (arith, e, s.short))
    (subst (HaveLength n) (sym is) (All-map (λ a. length a.1.slots ≡ n) (λ t. (moved p q t.0, t.1)) (filter (λ t. is_at_or_below t.0 p) v.attributes) (All-filter (λ t. is_at_or_below t.0 p) (λ a. length a.1.slots ≡ n) v.attributes (subst (λ (k : ℕ). HaveLength k v.attributes) (sym e) s.lengths))))
    each
    (rises_some (paths_of items) (λ h. let both = ends (omega (arith, h, length-map items (λ (a : Label × ColumnValue). a.0))) in subst Rises (sym names) (rises_projected p q (outlined v.length (paths_of v.attributes)) both.0 both.1 (clear_shaped v s))))
    (ap (λ (u : Vector). path_clash (outline_of u)) (project_seen n p q v w items e is same) ∙ clear)

-- ---- the attributes that Project moves
pub all_below : (p : Label) (attributes : Attributes) → All (λ t. is_at_or_below t.0 p ≡ true) (filter (λ t. is_at_or_below t.0 p) attributes)
all_below p [] = All-nil (λ t. is_at_or_below t.0 p ≡ true)
all_below p (a ∷ attributes) = by (all_below p attributes) (is_at_or_below a.0 p) refl
  where
    by : All (λ t. is_at_or_below t.0 p ≡ true) (filter (λ t. is_at_or_below t.0 p) attributes) → (b : Bool) → is_at_or_below a.0 p ≡ b → All (λ t. is_at_or_below t.0 p ≡ true) (if b then a ∷ filter (λ t. is_at_or_below t.0 p) attributes else filter (λ t. is_at_or_below t.0 p) attributes)
    by rest true e = All-cons (λ t. is_at_or_below t.0 p ≡ true) a (filter (λ t. is_at_or_below t.0 p) attributes) e rest
    by rest false e = rest

pub below_shallow : (p q : Label) (v : VectorValue) (w : Vector) → seen v ≡ w → too_deep (outline_of (projected w p q)) ≡ false → list_any is_deep (paths_of (moved_columns p q v.attributes)) ≡ false
below_shallow p q v w same shallow =
    ap (list_any is_deep) (sym (paths-seen (moved_columns p q v.attributes)))
    ∙ ap (λ (l : List Attribute). list_any is_deep (map (λ t. t.0) l)) (seen_moved p q v.attributes)
    ∙ ap (λ (u : Vector). too_deep (outline_of (projected u p q))) same ∙ shallow

-- ---- Upsert
insert_later : {A : Type 0} (y : A) (ys : List A) (k : ℕ) (x : A) → insert (y ∷ ys) (1 + k) x ≡ y ∷ insert ys k x
insert_later y ys k x = let next : 1 + k ≡ suc k = omega arith in rw next refl

entered_next : {A : Type 0} (before : A → A → Bool) (x y : A) (ys : List A) (b : Bool) → entered before x (λ zs. zs) ys ≡ insert ys (prefix_len (λ z. before z x) ys) x → (if b then y ∷ entered before x (λ zs. zs) ys else x ∷ y ∷ ys) ≡ insert (y ∷ ys) (cond b (1 + prefix_len (λ z. before z x) ys) 0) x
entered_next before x y ys true e = ap (λ l. y ∷ l) e ∙ sym (insert_later y ys (prefix_len (λ z. before z x) ys) x)
entered_next before x y ys false e = refl

pub entered_one : {A : Type 0} (before : A → A → Bool) (x : A) (ys : List A) → entered before x (λ zs. zs) ys ≡ insert ys (prefix_len (λ y. before y x) ys) x
entered_one before x [] = refl
entered_one before x (y ∷ ys) = entered_next before x y ys (before y x) (entered_one before x ys)

pub upsert_seen : (n : ℕ) (p q : Label) (c : ColumnValue) (v : VectorValue) (a b : Vector) (items : Attributes) → n ≡ v.length → items ≡ merged earlier ((p, c) ∷ []) (others_of p v.attributes) → c.slots ≡ resized n (slots_of b.attributes q) → seen v ≡ a → seen (vector_of n items) ≡ upserted a p b q
upsert_seen n p q c v a b items e is slots same =
    ap (λ (l : Attributes). seen (vector_of n l)) is
    ∙ ap (λ (l : List Attribute). let u : Vector = record { len = n; attributes = l } in u)
    (merged-map (λ (t : Label × ColumnValue). (t.0, t.1.slots)) earlier comes_before (λ t u. refl) ((p, c) ∷ []) (others_of p v.attributes)
    ∙ ap (merged comes_before ((p, c.slots) ∷ [])) (seen_others p v.attributes)
    ∙ ap (λ (xs : List Slot). merged comes_before ((p, xs) ∷ []) (beside_of v)) slots)
    ∙ ap (λ (k : ℕ). let u : Vector = record { len = k; attributes = merged comes_before ((p, resized k (slots_of b.attributes q)) ∷ []) (beside_of v) } in u) e
    ∙ ap (λ (u : Vector). upserted u p b q) same
  where
    beside_of : VectorValue → List Attribute
    beside_of u = filter (λ t. not (is_at_or_below t.0 p)) (seen_attributes u.attributes)

paths-others : (p : Label) (attributes : Attributes) → paths_of (others_of p attributes) ≡ others p (paths_of attributes)
paths-others p [] = refl
paths-others p (a ∷ attributes) = by (not (is_at_or_below a.0 p)) (paths-others p attributes)
  where
    by : (b : Bool) → paths_of (others_of p attributes) ≡ others p (paths_of attributes) → paths_of (if b then a ∷ others_of p attributes else others_of p attributes) ≡ (if b then a.0 ∷ others p (paths_of attributes) else others p (paths_of attributes))
    by true e = ap (λ (l : List Label). a.0 ∷ l) e
    by false e = e

paths-upserted : (p : Label) (c : ColumnValue) (attributes : Attributes) → paths_of (merged earlier ((p, c) ∷ []) (others_of p attributes)) ≡ merged is_before (p ∷ []) (others p (paths_of attributes))
paths-upserted p c attributes =
    merged-map (λ (t : Label × ColumnValue). t.0) earlier is_before (λ t u. refl) ((p, c) ∷ []) (others_of p attributes) ∙ ap (merged is_before (p ∷ [])) (paths-others p attributes)

pub upsert_shaped : (n : ℕ) (p q : Label) (c : ColumnValue) (v : VectorValue) (a b : Vector) (items : Attributes) → n ≡ v.length → items ≡ merged earlier ((p, c) ∷ []) (others_of p v.attributes) → c.slots ≡ resized n (slots_of b.attributes q) → seen v ≡ a → IsShaped v → IsPath p → path_clash (outline_of (upserted a p b q)) ≡ false → IsShaped (vector_of n items)
upsert_shaped n p q c v a b items e is slots same s hp clear =
    let names : paths_of items ≡ merged is_before (p ∷ []) (others p (paths_of v.attributes)) = ap (λ (l : Attributes). paths_of l) is ∙ paths-upserted p c v.attributes in
    let one : All IsPath (p ∷ []) = All-cons IsPath p [] hp (All-nil IsPath) in
    let rest : All IsPath (others p (paths_of v.attributes)) = All-filter (λ x. not (is_at_or_below x p)) IsPath (paths_of v.attributes) s.paths in
    let first : HaveLength n ((p, c) ∷ []) = All-cons (λ t. length t.1.slots ≡ n) (p, c) [] (ap (λ (xs : List Slot). length xs) slots ∙ length-resized n (slots_of b.attributes q)) (All-nil (λ t. length t.1.slots ≡ n)) in
    let others_long : HaveLength n (others_of p v.attributes) = All-filter (λ t. not (is_at_or_below t.0 p)) (λ t. length t.1.slots ≡ n) v.attributes (subst (λ (k : ℕ). HaveLength k v.attributes) (sym e) s.lengths) in
    shaped_by n items
    (omega (arith, e, s.short))
    (subst (HaveLength n) (sym is) (merged-all (λ t. length t.1.slots ≡ n) earlier ((p, c) ∷ []) (others_of p v.attributes) first others_long))
    (subst (All IsPath) (sym names) (merged-all IsPath is_before (p ∷ []) (others p (paths_of v.attributes)) one rest))
    (subst Rises (sym names) (rises_merged (p ∷ []) (others p (paths_of v.attributes)) tt (rises_filter (λ x. not (is_at_or_below x p)) (outlined v.length (paths_of v.attributes)) (clear_shaped v s))))
    (ap (λ (u : Vector). path_clash (outline_of u)) (upsert_seen n p q c v a b items e is slots same) ∙ clear)

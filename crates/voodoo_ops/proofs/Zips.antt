-- The attributes of two vectors as those of one.
use Rattle.std.proofs.Common.{◌≡◌, ℕ, ◌≤◌, min, false, List, [], ◌∷◌, length, refl, sym, ap, ◌∙◌, arith}
use Rattle.std.specs.Prelude.{All}
use Rattle.std.proofs.lemmas.List.{length-take}
use Rattle.std.proofs.lemmas.List.Elements.{All-nil, All-cons, All-head, All-tail}
use Rattle.key_paths.specs.Paths.{IsPath}
use Rattle.key_paths.specs.Substructures.{is_before}
use Rattle.struct_vectors.specs.Columns.{ColumnValue}
use Rattle.struct_vectors.specs.Vectors.{VectorValue, vector_of, paths_of, IsShaped, HaveLength}
use Rattle.programs.specs.Mentions.{Label}
use Rattle.programs.specs.Vectors.{Attribute, Vector, cut_to, seen, seen_attributes}
use Rattle.programs.specs.Merges.{merged}
use Rattle.programs.specs.Outlines.{outline_of}
use Rattle.programs.specs.Faults.{path_clash}
use Rattle.programs.proofs.Merging.{merged-map, merged-all, rises_merged, rises_ascending}
use Rattle.voodoo_ops.specs.Attributes.{comes_before, zipped}
use Rattle.voodoo_ops.specs.Columns.{Attributes, earlier, fronts, front_column}
use Rattle.voodoo_ops.specs.Handing.{HandsOn}
use Rattle.voodoo_ops.proofs.Shapes.{shaped_by}
use Rattle.voodoo_ops.proofs.Seen.{seen-fronts, paths-fronts}

-- ---- the vector of both
abbrev pub both : ℕ → VectorValue → VectorValue → List (Label × ColumnValue)
both n a b = merged earlier (fronts n a.attributes) (fronts n b.attributes)

pub seen-both : (n : ℕ) (a b : VectorValue) → n ≡ min a.length b.length → seen (vector_of n (both n a b)) ≡ zipped (seen a) (seen b)
seen-both n a b e =
    let parts : seen_attributes (both n a b) ≡ merged comes_before (cut_to n (seen a).attributes) (cut_to n (seen b).attributes) = merged-map (λ (t : Label × ColumnValue). (t.0, t.1.slots)) earlier comes_before (λ t u. refl) (fronts n a.attributes) (fronts n b.attributes)
    ∙ ap (λ (l : List Attribute). merged comes_before l (seen_attributes (fronts n b.attributes))) (seen-fronts n a.attributes)
    ∙ ap (merged comes_before (cut_to n (seen a).attributes)) (seen-fronts n b.attributes) in
    ap (λ (l : List Attribute). let v : Vector = record { len = n; attributes = l } in v) parts ∙ ap (λ (k : ℕ). let v : Vector = record { len = k; attributes = merged comes_before (cut_to k (seen a).attributes) (cut_to k (seen b).attributes) } in v) e

pub paths-both : (n : ℕ) (a b : VectorValue) → paths_of (both n a b) ≡ merged is_before (paths_of a.attributes) (paths_of b.attributes)
paths-both n a b =
    merged-map (λ (t : Label × ColumnValue). t.0) earlier is_before (λ t u. refl) (fronts n a.attributes) (fronts n b.attributes)
    ∙ ap (λ (l : List Label). merged is_before l (paths_of (fronts n b.attributes))) (paths-fronts n a.attributes)
    ∙ ap (merged is_before (paths_of a.attributes)) (paths-fronts n b.attributes)

fronts_long : (n m : ℕ) (attributes : List (Label × ColumnValue)) → n ≤ m → HaveLength m attributes → HaveLength n (fronts n attributes)
fronts_long n m [] h each = All-nil (λ a. length a.1.slots ≡ n)
fronts_long n m (a ∷ attributes) h each =
    All-cons (λ b. length b.1.slots ≡ n) (a.0, front_column n a.1) (fronts n attributes) (omega (arith, length-take n a.1.slots, All-head (λ b. length b.1.slots ≡ m) a attributes each)) (fronts_long n m attributes h (All-tail (λ b. length b.1.slots ≡ m) a attributes each))

pub both_shaped : (n : ℕ) (a b : VectorValue) → n ≡ min a.length b.length → IsShaped a → IsShaped b → path_clash (outline_of (zipped (seen a) (seen b))) ≡ false → IsShaped (vector_of n (both n a b))
both_shaped n a b e sa sb clear =
    let is = paths-both n a b in
    let paths : All IsPath (merged is_before (paths_of a.attributes) (paths_of b.attributes)) = merged-all IsPath is_before (paths_of a.attributes) (paths_of b.attributes) sa.paths sb.paths in
    let rises = rises_merged (paths_of a.attributes) (paths_of b.attributes) (rises_ascending (paths_of a.attributes) sa.ascending) (rises_ascending (paths_of b.attributes) sb.ascending) in
    shaped_by n (both n a b)
    (omega (arith, e, sa.short))
    (merged-all (λ t. length t.1.slots ≡ n) earlier (fronts n a.attributes) (fronts n b.attributes) (fronts_long n a.length a.attributes (omega (arith, e)) sa.lengths) (fronts_long n b.length b.attributes (omega (arith, e)) sb.lengths))
    (rw is paths)
    (rw is rises)
    (ap (λ (v : Vector). path_clash (outline_of v)) (seen-both n a b e) ∙ clear)

-- ---- of two vectors that hand their fronts on
hands_both : (n : ℕ) (a b : Vector) (xs ys items : Attributes) (f : HandsOn a (fronts n) xs) (g : HandsOn b (fronts n) ys) → items ≡ merged earlier xs ys → items ≡ both n f.from g.from
hands_both n a b xs ys items f g is = is ∙ ap (λ (l : Attributes). merged earlier l ys) f.is ∙ ap (merged earlier (fronts n f.from.attributes)) g.is

shorter : (n : ℕ) (a b : Vector) (v w : VectorValue) → n ≡ min a.len b.len → seen v ≡ a → seen w ≡ b → n ≡ min v.length w.length
shorter n a b v w e h k = e ∙ ap (λ (u : Vector). min u.len b.len) (sym h) ∙ ap (λ (u : Vector). min v.length u.len) (sym k)

pub hands_seen : (n : ℕ) (a b : Vector) (xs ys items : Attributes) → HandsOn a (fronts n) xs → HandsOn b (fronts n) ys → n ≡ min a.len b.len → items ≡ merged earlier xs ys → seen (vector_of n items) ≡ zipped a b
hands_seen n a b xs ys items f g e is =
    ap (λ (l : Attributes). seen (vector_of n l)) (hands_both n a b xs ys items f g is)
    ∙ seen-both n f.from g.from (shorter n a b f.from g.from e f.slots g.slots)
    ∙ ap (λ (u : Vector). zipped u (seen g.from)) f.slots ∙ ap (zipped a) g.slots

pub hands_shaped : (n : ℕ) (a b : Vector) (xs ys items : Attributes) → HandsOn a (fronts n) xs → HandsOn b (fronts n) ys → n ≡ min a.len b.len → items ≡ merged earlier xs ys → path_clash (outline_of (zipped a b)) ≡ false → IsShaped (vector_of n items)
hands_shaped n a b xs ys items f g e is clear =
    rw (hands_both n a b xs ys items f g is)
    (both_shaped n f.from g.from (shorter n a b f.from g.from e f.slots g.slots) f.shaped g.shaped
    (ap (λ (u : Vector). path_clash (outline_of (zipped u (seen g.from)))) f.slots ∙ ap (λ (u : Vector). path_clash (outline_of (zipped a u))) g.slots ∙ clear))

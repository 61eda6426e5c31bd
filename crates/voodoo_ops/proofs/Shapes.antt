-- When attributes make a vector.
use Rattle.std.proofs.Common.{◌≡◌, ℕ, ◌^◌, ◌≤◌, Bool, true, false, ◌||◌, not, List, [], ◌∷◌, length, map, refl, sym, ap, ◌∙◌, subst}
use Rattle.std.specs.Prelude.{All}
use Rattle.std.specs.List.{list_any, AllPairs}
use Rattle.std.proofs.lemmas.List.Elements.{All-nil, All-cons}
use Rattle.key_paths.specs.Paths.{IsPath}
use Rattle.key_paths.specs.Substructures.{is_root, is_at_or_below, IsAscending}
use Rattle.control_vectors.specs.Slots.{Slot}
use Rattle.slot_moves.specs.Moves.{gathered}
use Rattle.struct_vectors.specs.Columns.{ColumnValue}
use Rattle.struct_vectors.specs.Vectors.{VectorValue, vector_of, paths_of, IsShaped, IsBelowRoot, HaveLength}
use Rattle.struct_vectors.proofs.ArrangeLaws.{chain_ascending, chain_pairs_apart}
use Rattle.programs.specs.Mentions.{Label}
use Rattle.programs.specs.Vectors.{Attribute, seen, seen_attributes}
use Rattle.programs.specs.Orders.{Rises}
use Rattle.programs.specs.Outlines.{outlined, outline_of}
use Rattle.programs.specs.Faults.{path_clash, all_apart}
use Rattle.programs.proofs.Nesting.{chain_without_clash}
use Rattle.voodoo_ops.specs.Moves.{moved_to}
use Rattle.voodoo_ops.proofs.Lengths.{gathered_long}
use Rattle.voodoo_ops.proofs.Seen.{paths-seen}

or_false : (a b : Bool) → (a || b) ≡ false → a ≡ false
or_false true b e = absurd cc
or_false false b e = refl

or_later : (a b : Bool) → (a || b) ≡ false → b ≡ false
or_later true b e = absurd cc
or_later false b e = e

below_root : (paths : List Label) → list_any is_root paths ≡ false → All IsBelowRoot paths
below_root [] e = All-nil IsBelowRoot
below_root (p ∷ paths) e = All-cons IsBelowRoot p paths (or_false (is_root p) (list_any is_root paths) e) (below_root paths (or_later (is_root p) (list_any is_root paths) e))

-- attributes in order, none of which is at the root or in another's way
pub shaped_by : (n : ℕ) (attributes : List (Label × ColumnValue)) → n ≤ 2 ^ 22 → HaveLength n attributes → All IsPath (paths_of attributes) → Rises (paths_of attributes) → path_clash (outline_of (seen (vector_of n attributes))) ≡ false → IsShaped (vector_of n attributes)
shaped_by n attributes short long paths rises clear =
    let clear_of : path_clash (outlined n (paths_of attributes)) ≡ false = ap (λ (l : List Label). path_clash (outlined n l)) (sym (paths-seen attributes)) ∙ clear in
    let chain = chain_without_clash (outlined n (paths_of attributes)) rises paths clear_of in
    record {
      short = short;
      lengths = long;
      paths = paths;
      below_root = below_root (paths_of attributes) (or_false (list_any is_root (paths_of attributes)) (not (all_apart (paths_of attributes))) clear_of);
      ascending = chain_ascending _ chain;
      apart = chain_pairs_apart _ chain paths;
    }

-- ---- the attributes of a vector at some places
long_moved : (places : List Slot) (items : List (Label × ColumnValue)) (ts : List Attribute) → seen_attributes items ≡ moved_to places ts → HaveLength (length places) items
long_moved places [] ts e = All-nil (λ a. length a.1.slots ≡ length places)
long_moved places (a ∷ items) [] e = absurd cc
long_moved places (a ∷ items) (t ∷ ts) e =
    let head : (let u : Attribute = (a.0, a.1.slots) in u) ≡ (t.0, gathered t.1 places) = cc in
    let first : a.1.slots ≡ gathered t.1 places = ap (λ (u : Attribute). u.1) head in
    let rest : seen_attributes items ≡ moved_to places ts = cc in
    All-cons (λ b. length b.1.slots ≡ length places) a items (ap (λ (xs : List Slot). length xs) first ∙ gathered_long t.1 places) (long_moved places items ts rest)

paths-moved : (places : List Slot) (ts : List Attribute) → map (λ t. t.0) (moved_to places ts) ≡ map (λ t. t.0) ts
paths-moved places [] = refl
paths-moved places (t ∷ ts) = ap (λ (l : List Label). t.0 ∷ l) (paths-moved places ts)

pub shaped_at : (n : ℕ) (places : List Slot) (v : VectorValue) (items : List (Label × ColumnValue)) → n ≡ length places → n ≤ 2 ^ 22 → seen_attributes items ≡ moved_to places (seen_attributes v.attributes) → IsShaped v → IsShaped (vector_of n items)
shaped_at n places v items e short is shaped =
    let same : paths_of items ≡ paths_of v.attributes = sym (paths-seen items) ∙ ap (λ (l : List Attribute). map (λ t. t.0) l) is ∙ paths-moved places (seen_attributes v.attributes) ∙ paths-seen v.attributes in
    record {
      short = short;
      lengths = subst (λ (k : ℕ). HaveLength k items) (sym e) (long_moved places items (seen_attributes v.attributes) is);
      paths = subst (All IsPath) (sym same) shaped.paths;
      below_root = subst (All IsBelowRoot) (sym same) shaped.below_root;
      ascending = subst IsAscending (sym same) shaped.ascending;
      apart = subst (AllPairs (λ p q. is_at_or_below q p ≡ false)) (sym same) shaped.apart;
    }

-- The places of Order, whose slots are never Over.
use Rattle.std.specs.Prelude.{slice_index_or}
use Rattle.std.proofs.lemmas.List.{length-map}
use Rattle.std.proofs.lemmas.List.Elements.{All-head, All-tail}
use Rattle.std.proofs.Common.{◌≡◌, ℕ, zero, suc, ◌<◌, All, arith, Bool, false, ◌||◌, List, [], ◌∷◌, map, length, refl, sym, ap, ◌∙◌, Result, Ok, Err, if◌then◌else◌}
use Rattle.std.specs.List.{list_any}
use Rattle.control_vectors.specs.Slots.{Slot, over, cells_of, has_over, slots_in}
use Rattle.control_vectors.specs.declared.Over.{Over}
use Rattle.sort_order.specs.declared.OrderRefusal.{OrderRefusal}
use Rattle.sort_order.specs.declared.OrderRefusal.TheVariants as refusal
use Rattle.sort_order.specs.Answers.{RefusesAt}
use Rattle.sort_order.specs.Keys.{KeyCells, SortKey, key_of, no_key}
use Rattle.sort_order.specs.Orders.{any_over, ordered, ordered_cells}
use Rattle.programs.specs.declared.order_keys.OrderPath.{OrderPath}
use Rattle.programs.specs.Mentions.{Label}
use Rattle.programs.specs.Vectors.{Vector, column, slots_of}
use Rattle.voodoo_ops.specs.Moves.{order, sort_key}
use Rattle.voodoo_ops.specs.declared.sorting.OrderKey.{OrderKey}
use Rattle.voodoo_ops.specs.Sorting.{cells_of_key, cells_of_keys}
use Rattle.voodoo_ops.proofs.Lengths.{ordered_long}

none_over : (xs : List Slot) → has_over (cells_of xs) ≡ false
none_over [] = refl
none_over (x ∷ xs) = none_over xs

slots_back : (xs : List Slot) → slots_in (cells_of xs) ≡ xs
slots_back [] = refl
slots_back (x ∷ xs) = ap (λ (l : List Slot). x ∷ l) (slots_back xs)

no_key_over : (keys : List SortKey) → list_any (λ key. has_over key.cells) (map cells_of_key keys) ≡ false
no_key_over [] = refl
no_key_over (k ∷ keys) = ap (λ (b : Bool). b || list_any (λ key. has_over key.cells) (map cells_of_key keys)) (none_over k.slots) ∙ no_key_over keys

keys_back : (keys : List SortKey) → map key_of (map cells_of_key keys) ≡ keys
keys_back [] = refl
keys_back (k ∷ keys) =
    ap (λ (xs : List Slot). record { descending = k.descending; slots = xs } ∷ map key_of (map cells_of_key keys)) (slots_back k.slots) ∙ ap (λ (l : List SortKey). k ∷ l) (keys_back keys)

meant : (marks : List Slot) (keys : List SortKey) (ks : List KeyCells) → ks ≡ map cells_of_key keys → ordered_cells (cells_of marks) ks ≡ Ok (ordered marks keys)
meant marks keys ks e =
    let calm : any_over (cells_of marks) (map cells_of_key keys) ≡ false = ap (λ (b : Bool). b || list_any (λ key. has_over key.cells) (map cells_of_key keys)) (none_over marks) ∙ no_key_over keys in
    ap (ordered_cells (cells_of marks)) e
    ∙ ap (λ (b : Bool). if b then Err over else given (ordered (slots_in (cells_of marks)) (map key_of (map cells_of_key keys)))) calm
    ∙ ap (λ (xs : List Slot). given (ordered xs (map key_of (map cells_of_key keys)))) (slots_back marks)
    ∙ ap (λ (l : List SortKey). given (ordered marks l)) (keys_back keys)
  where
    given : List Slot → Result (List Slot) Over
    given xs = Ok xs

pub places_are : (marks places : List Slot) (keys : List SortKey) (ks : List KeyCells) → ks ≡ map cells_of_key keys → ordered_cells (cells_of marks) ks ≡ Ok places → places ≡ ordered marks keys
places_are marks places keys ks e h = let both = meant marks keys ks e in cc

pub never_over : (marks : List Slot) (keys : List SortKey) (ks : List KeyCells) (r : OrderRefusal) → ks ≡ map cells_of_key keys → r ≡ refusal.Over → RefusesAt r (ordered_cells (cells_of marks) ks) → ⊥
never_over marks keys ks refusal.Over e is h = let both = meant marks keys ks e in absurd cc
never_over marks keys ks refusal.NoMemory e is h = absurd cc

pub order_is : (a : Vector) (mark out : Label) (keys : List OrderPath) (v : Vector) (slots marks : List Slot) → v ≡ column out (length slots) slots → slots ≡ ordered marks (map (sort_key a) keys) → marks ≡ slots_of a.attributes mark → length marks ≡ a.len → order a mark out keys ≡ v
order_is a mark out keys v slots marks e s m long =
    let many : length slots ≡ a.len = ap (λ (l : List Slot). length l) s ∙ ordered_long marks (map (sort_key a) keys) ∙ long in
    sym (e ∙ ap (λ (n : ℕ). column out n slots) many ∙ ap (column out a.len) s ∙ ap (λ (l : List Slot). column out a.len (ordered l (map (sort_key a) keys))) m)

-- the keys of one vector are of one length
pub even_keys : (n : ℕ) (keys : List OrderKey) → All (λ k. length k.column.now.slots ≡ n) keys → (k : ℕ) → k < length (cells_of_keys keys) → length (slice_index_or (cells_of_keys keys) k no_key).cells ≡ n
even_keys n [] all k within = absurd (omega (arith, within))
even_keys n (x ∷ keys) all zero within = length-map x.column.now.slots (λ s. Ok s) ∙ All-head (λ k. length k.column.now.slots ≡ n) x keys all
even_keys n (x ∷ keys) all (suc k) within = even_keys n keys (All-tail (λ k. length k.column.now.slots ≡ n) x keys all) k (omega (arith, within))

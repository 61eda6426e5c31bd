-- Places that are sorted beside what their first key has there.
use Rattle.std.proofs.Common.{◌≡◌, ℕ, ◌<◌, Bool, true, false, cond, List, [], ◌∷◌, ◌++◌, length, map, take, drop, get_or, refl, ap, sym, ◌∙◌, ◌+◌, arith}
use Rattle.std.specs.Cmp.{IsStrictWeakOrder}
use Rattle.std.specs.Ordering.{is_lt, ordering_then}
use Rattle.std.specs.declared.cmp.Ordering.{Ordering}
use Rattle.std.proofs.lemmas.Cmp.{on_total, then_total}
use Rattle.std.proofs.lemmas.List.{map-append, take_more}
use Rattle.std.proofs.lemmas.List.Sorted.{ranks_by}
use Rattle.control_vectors.specs.Slots.{Slot, slots_in}
use Rattle.sort_order.specs.Keys.{KeyCells, SortKey, key_of, no_key}
use Rattle.sort_order.specs.Keyed.{first_slot, keyed_cmp, places_of, HaveFirst}
use Rattle.sort_order.specs.declared.keyed.Keyed.{Keyed}
use Rattle.sort_order.specs.Orders.{comes_before, directed, inserted, keys_cmp, slot_at, sorted_by}
use Rattle.sort_order.proofs.KeyOrders.{directed_total, keys_cmp_total}

abbrev pub keyed_before : Bool → List SortKey → Keyed → Keyed → Bool
keyed_before descending others p q = is_lt (keyed_cmp descending others p q)

pub keyed_order : (descending : Bool) (others : List SortKey) → IsStrictWeakOrder (keyed_before descending others)
keyed_order descending others = ranks_by (then_total (on_total first_slot (directed_total descending)) (on_total (λ (p : Keyed). p.place) (keys_cmp_total others))) (λ (p : Keyed). p)

-- one place more
pub have_more : (slots : List Slot) (keyed : List Keyed) (p : Keyed) → HaveFirst slots keyed → first_slot p ≡ slot_at slots p.place → HaveFirst slots (keyed ++ p ∷ [])
have_more slots [] p h e = (e, tt)
have_more slots (q ∷ keyed) p h e = (h.0, have_more slots keyed p h.1 e)

pub places_more : (keyed more : List Keyed) (p : Keyed) (places : List ℕ) (k d : ℕ) → more ≡ keyed ++ p ∷ [] → p.place ≡ get_or places k d → k < length places → places_of keyed ≡ take k places → places_of more ≡ take (k + 1) places
places_more keyed more p places k d m e h so_far =
    ap places_of m ∙ map-append (λ (q : Keyed). q.place) keyed (p ∷ []) ∙ ap (λ (l : List ℕ). l ++ p.place ∷ []) so_far ∙ ap (λ (n : ℕ). take k places ++ n ∷ []) e ∙ sym (take_more places k d h)

module _ (key : SortKey) (others : List SortKey) where
  abbrev lt : Keyed → Keyed → Bool
  lt = keyed_before key.descending others

  abbrev before : ℕ → ℕ → Bool
  before = comes_before (key ∷ others)

  abbrev Has : Keyed → Type 0
  Has p = first_slot p ≡ slot_at key.slots p.place

  same_order : (p q : Keyed) → Has p → Has q → lt p q ≡ before p.place q.place
  same_order p q h k = ap (λ (s : Slot). is_lt (ordering_then (directed key.descending s (first_slot q)) (keys_cmp others p.place q.place))) h ∙ ap (λ (s : Slot). is_lt (ordering_then (directed key.descending (slot_at key.slots p.place) s) (keys_cmp others p.place q.place))) k

  have_inserted : (p : Keyed) (keyed : List Keyed) → Has p → HaveFirst key.slots keyed → HaveFirst key.slots (inserted lt p keyed)
  have_inserted p [] h a = (h, tt)
  have_inserted p (q ∷ keyed) h a = by (lt q p) (have_inserted p keyed h a.1)
    where
      by : (b : Bool) → HaveFirst key.slots (inserted lt p keyed) → HaveFirst key.slots (cond b (q ∷ inserted lt p keyed) (p ∷ q ∷ keyed))
      by true further = (a.0, further)
      by false further = (h, a)

  have_sorted : (keyed : List Keyed) → HaveFirst key.slots keyed → HaveFirst key.slots (sorted_by lt keyed)
  have_sorted [] a = tt
  have_sorted (p ∷ keyed) a = have_inserted p (sorted_by lt keyed) a.0 (have_sorted keyed a.1)

  places_inserted : (p : Keyed) (keyed : List Keyed) → Has p → HaveFirst key.slots keyed → places_of (inserted lt p keyed) ≡ inserted before p.place (places_of keyed)
  places_inserted p [] h a = refl
  places_inserted p (q ∷ keyed) h a = by (lt q p) (before q.place p.place) (same_order q p a.0 h) (places_inserted p keyed h a.1)
    where
      by : (b c : Bool) → b ≡ c → places_of (inserted lt p keyed) ≡ inserted before p.place (places_of keyed)
          → places_of (cond b (q ∷ inserted lt p keyed) (p ∷ q ∷ keyed)) ≡ cond c (q.place ∷ inserted before p.place (places_of keyed)) (p.place ∷ q.place ∷ places_of keyed)
      by true true e further = ap (λ (l : List ℕ). q.place ∷ l) further
      by false false e further = refl
      by true false e further = absurd cc
      by false true e further = absurd cc

  places_sorted : (keyed : List Keyed) → HaveFirst key.slots keyed → places_of (sorted_by lt keyed) ≡ sorted_by before (places_of keyed)
  places_sorted [] a = refl
  places_sorted (p ∷ keyed) a = places_inserted p (sorted_by lt keyed) a.0 (have_sorted keyed a.1) ∙ ap (inserted before p.place) (places_sorted keyed a.1)

-- the same for keys that are cells
pub places_by_keys : (keys : List KeyCells) (keyed : List Keyed) → 0 < length keys → HaveFirst (slots_in (get_or keys 0 no_key).cells) keyed
    → places_of (sorted_by (keyed_before (get_or keys 0 no_key).descending (drop 1 (map key_of keys))) keyed) ≡ sorted_by (comes_before (map key_of keys)) (places_of keyed)
places_by_keys [] keyed l a = absurd (omega arith)
places_by_keys (key ∷ keys) keyed l a = places_sorted (key_of key) (map key_of keys) keyed a

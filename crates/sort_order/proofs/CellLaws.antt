-- Cells of which none is Over, place by place.
use Rattle.std.proofs.Common.{◌≡◌, ℕ, zero, suc, pos, ◌+◌, ◌-◌, ◌<◌, ◌≤◌, Bool, true, false, ◌||◌, List, [], ◌∷◌, ◌++◌, length, map, take, drop, get_or, replicate, refl, sym, ap, ◌∙◌, append_assoc, arith, Some, None, Ok, Err, Less, Equal, Greater, not, ◌==◌}
use Rattle.std.specs.Prelude.{slice_get, filter, is_some}
use Rattle.std.specs.List.{range_with_len, list_any}
use Rattle.std.specs.Ordering.{ordering_then, ordering_index}
use Rattle.std.specs.declared.cmp.Ordering.{Ordering}
use Rattle.std.proofs.lemmas.List.{take_all, drop_more, get_or_past, get_or-map, length-map, map-id, replicate_more}
use Rattle.std.proofs.lemmas.List.Elements.{filter-append}
use Rattle.std.proofs.lemmas.List.FromFn.{map-range_with_len_more}
use Rattle.control_vectors.specs.Slots.{Slot, Cell, has_over, slots_in}
use Rattle.control_vectors.specs.declared.Over.{Over}
use Rattle.control_vectors.proofs.SlotLaws.{length-slots_in}
use Rattle.sort_order.specs.Keys.{KeyCells, SortKey, key_of, no_key}
use Rattle.sort_order.specs.Orders.{directed, slot_at, keys_cmp, comes_before, marked, one_place, ordered_cells, padded, sorted_by}

pub over_at : (cells : List Cell) (i : ℕ) (e : Over) → slice_get cells i ≡ Some (Err e) → has_over cells ≡ true
over_at [] i e at = absurd cc
over_at (Err o ∷ cells) i e at = refl
over_at (Ok s ∷ cells) zero e at = absurd cc
over_at (Ok s ∷ cells) (suc i) e at = over_at cells i e at

no_over_take : (cells : List Cell) (i : ℕ) → has_over cells ≡ false → has_over (take i cells) ≡ false
no_over_take cells zero h = refl
no_over_take [] (suc i) h = refl
no_over_take (Err e ∷ cells) (suc i) h = absurd cc
no_over_take (Ok s ∷ cells) (suc i) h = no_over_take cells i h

pub slot_after : (cells : List Cell) (i : ℕ) (s : Slot) → has_over (take i cells) ≡ false → slice_get cells i ≡ Some (Ok s) → slot_at (slots_in cells) i ≡ s
slot_after [] i s h at = absurd cc
slot_after (Err e ∷ cells) zero s h at = absurd cc
slot_after (Err e ∷ cells) (suc i) s h at = absurd cc
slot_after (Ok t ∷ cells) zero s h at = cc
slot_after (Ok t ∷ cells) (suc i) s h at = slot_after cells i s h at

pub slot_there : (cells : List Cell) (i : ℕ) (s : Slot) → has_over cells ≡ false → slice_get cells i ≡ Some (Ok s) → slot_at (slots_in cells) i ≡ s
slot_there cells i s h at = slot_after cells i s (no_over_take cells i h) at

pub slot_past : (cells : List Cell) (i : ℕ) → length cells ≤ i → slot_at (slots_in cells) i ≡ None
slot_past cells i h = get_or_past (slots_in cells) i None (omega (arith, length-slots_in cells))

pub length_slots : (cells : List Cell) → has_over cells ≡ false → length (slots_in cells) ≡ length cells
length_slots [] h = refl
length_slots (Err e ∷ cells) h = absurd cc
length_slots (Ok s ∷ cells) h = ap suc (length_slots cells h)

pub clear_more : (cells : List Cell) (i : ℕ) (s : Slot) → has_over (take i cells) ≡ false → slice_get cells i ≡ Some (Ok s) → has_over (take (i + 1) cells) ≡ false
clear_more [] i s h at = absurd cc
clear_more (Err e ∷ cells) zero s h at = absurd cc
clear_more (Err e ∷ cells) (suc i) s h at = absurd cc
clear_more (Ok t ∷ cells) zero s h at = refl
clear_more (Ok t ∷ cells) (suc i) s h at = let next : suc i + 1 ≡ suc (i + 1) = omega arith in rw next (clear_more cells i s h at)

pub clear_all : (cells : List Cell) (i : ℕ) → length cells ≤ i → has_over (take i cells) ≡ false → has_over cells ≡ false
clear_all cells i h e = ap has_over (sym (take_all i cells h)) ∙ e

-- ---- several keys

or_false : (a b : Bool) → (a || b) ≡ false → (a ≡ false) × (b ≡ false)
or_false true b e = absurd cc
or_false false b e = (refl, e)

pub key_clear : (keys : List KeyCells) (k : ℕ) → list_any (λ key. has_over key.cells) keys ≡ false → has_over (get_or keys k no_key).cells ≡ false
key_clear [] k h = refl
key_clear (key ∷ keys) zero h = (or_false (has_over key.cells) (list_any (λ q. has_over q.cells) keys) h).0
key_clear (key ∷ keys) (suc k) h = key_clear keys k (or_false (has_over key.cells) (list_any (λ q. has_over q.cells) keys) h).1

pub any_more : (keys : List KeyCells) (k : ℕ) → k < length keys → list_any (λ key. has_over key.cells) (take k keys) ≡ false → has_over (get_or keys k no_key).cells ≡ false → list_any (λ key. has_over key.cells) (take (k + 1) keys) ≡ false
any_more [] k l h e = absurd (omega arith)
any_more (key ∷ keys) zero l h e = rw e refl
any_more (key ∷ keys) (suc k) l h e =
    let both = or_false (has_over key.cells) (list_any (λ q. has_over q.cells) (take k keys)) h in
    let next : suc k + 1 ≡ suc (k + 1) = omega arith in
    rw (next, both.0) (any_more keys k (omega arith) both.1 e)

pub any_at : (keys : List KeyCells) (k : ℕ) → k < length keys → has_over (get_or keys k no_key).cells ≡ true → list_any (λ key. has_over key.cells) keys ≡ true
any_at [] k l e = absurd (omega arith)
any_at (key ∷ keys) zero l e = rw e refl
any_at (key ∷ keys) (suc k) l e = or_true (has_over key.cells) (any_at keys k (omega arith) e)
  where
    or_true : (a : Bool) {b : Bool} → b ≡ true → (a || b) ≡ true
    or_true true e = refl
    or_true false e = e

pub any_all : (keys : List KeyCells) (k : ℕ) → length keys ≤ k → list_any (λ key. has_over key.cells) (take k keys) ≡ false → list_any (λ key. has_over key.cells) keys ≡ false
any_all keys k l e = ap (list_any (λ key. has_over key.cells)) (sym (take_all k keys l)) ∙ e

-- the keys from one on
pub keys_from : (keys : List KeyCells) (k i j : ℕ) → k < length keys → keys_cmp (drop k (map key_of keys)) i j ≡ ordering_then (directed (get_or keys k no_key).descending (slot_at (slots_in (get_or keys k no_key).cells) i) (slot_at (slots_in (get_or keys k no_key).cells) j)) (keys_cmp (drop (k + 1) (map key_of keys)) i j)
keys_from keys k i j l =
    ap (λ (q : List SortKey). keys_cmp q i j)
    (drop_more (map key_of keys) k (key_of no_key) (omega (arith, length-map keys key_of)) ∙ ap (λ (q : SortKey). q ∷ drop (k + 1) (map key_of keys)) (get_or-map key_of keys k no_key (key_of no_key) l))

-- ---- marked places

range_more : (k : ℕ) → range_with_len 0 (k + 1) ≡ range_with_len 0 k ++ k ∷ []
range_more k = sym (map-id (range_with_len 0 (k + 1))) ∙ map-range_with_len_more (λ (i : ℕ). i) 0 k k (omega arith) ∙ ap (λ (l : List ℕ). l ++ k ∷ []) (map-id (range_with_len 0 k))

abbrev pub marked_below : List Slot → ℕ → List ℕ
marked_below mark n = filter (λ i. is_some (slot_at mark i)) (range_with_len 0 n)

pub marked_more : (mark : List Slot) (i : ℕ) (s : Slot) (places more : List ℕ) → slot_at mark i ≡ s → more ≡ places ++ one_place s i → places ≡ marked_below mark i → more ≡ marked_below mark (i + 1)
marked_more mark i s places more at m e =
    m ∙ ap (λ (l : List ℕ). l ++ one_place s i) e
    ∙ ap (λ (t : Slot). marked_below mark i ++ one_place t i) (sym at)
    ∙ sym (ap (filter (λ j. is_some (slot_at mark j))) (range_more i) ∙ filter-append (λ j. is_some (slot_at mark j)) (range_with_len 0 i) (i ∷ []))

-- ---- places as slots

pub padded_more : (start now more : List Slot) (k n : ℕ) → k ≤ n → more ≡ now ++ None ∷ [] → now ≡ start ++ replicate (n - k) None → more ≡ start ++ replicate (n + 1 - k) None
padded_more start now more k n h m e =
    let count : n + 1 - k ≡ n - k + 1 = omega arith in
    m ∙ ap (λ (l : List Slot). l ++ None ∷ []) e ∙ append_assoc start (replicate (n - k) None) (None ∷ []) ∙ ap (λ (l : List Slot). start ++ l) (replicate_more (n - k) None)
    ∙ ap (λ c. start ++ replicate c None) (sym count)

abbrev pub places_as_slots : List ℕ → List Slot
places_as_slots places = map (λ i. Some (pos i)) places

-- an answer that tells two apart decides; one that doesn't leaves it to the rest
pub then_tells : (o rest : Ordering) → (o ≡ Equal → ⊥) → ordering_then o rest ≡ o
then_tells Less rest h = refl
then_tells Equal rest h = absurd (h refl)
then_tells Greater rest h = refl

pub then_equal : (o rest : Ordering) → o ≡ Equal → ordering_then o rest ≡ rest
then_equal o rest e = ap (λ (p : Ordering). ordering_then p rest) e

pub tells : (o : Ordering) → not (ordering_index o == 1) ≡ true → o ≡ Equal → ⊥
tells Less e same = absurd cc
tells Equal e same = absurd cc
tells Greater e same = absurd cc

pub tells_not : (o : Ordering) → not (ordering_index o == 1) ≡ false → o ≡ Equal
tells_not Less e = absurd cc
tells_not Equal e = refl
tells_not Greater e = absurd cc

pub ordered_is : (mark : List Cell) (keys : List KeyCells) (places : List ℕ) (n : ℕ) (slots : List Slot) → has_over mark ≡ false → list_any (λ key. has_over key.cells) keys ≡ false → places ≡ marked (slots_in mark) → n ≡ length mark → slots ≡ padded n (sorted_by (comes_before (map key_of keys)) places) → ordered_cells mark keys ≡ Ok slots
ordered_is mark keys places n slots a b p m e =
    let same : slots ≡ padded (length (slots_in mark)) (sorted_by (comes_before (map key_of keys)) (marked (slots_in mark))) =
    e ∙ ap (λ k. padded k (sorted_by (comes_before (map key_of keys)) places)) (m ∙ sym (length_slots mark a))
    ∙ ap (λ (l : List ℕ). padded (length (slots_in mark)) (sorted_by (comes_before (map key_of keys)) l)) p in
    rw (a, b) (ap (λ (l : List Slot). Ok l) (sym same))

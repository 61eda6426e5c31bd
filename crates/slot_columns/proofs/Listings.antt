-- Slots that are listed place by place.
use Rattle.std.proofs.Common.{◌≡◌, ℕ, ℤ, zero, suc, ◌+◌, ◌<◌, ◌≤◌, Bool, true, false, not, List, [], ◌∷◌, ◌++◌, length, set, take, map, get_or, refl, sym, ap, ◌∙◌, append_assoc, arith, Some, None, Result, Ok, Err, if◌then◌else◌}
use Rattle.std.specs.Prelude.{slice_get}
use Rattle.std.specs.List.{range_with_len}
use Rattle.std.proofs.lemmas.List.{take_all, take_more_set, map-append, length-map, length-take-le, get_or-map}
use Rattle.std.proofs.lemmas.List.FromFn.{get_or-map-range_with_len, length-map-range_with_len, map-range_with_len_more, fill_by_all}
use Rattle.std.proofs.lemmas.Option.{slice_get-get_or}
use Rattle.control_vectors.specs.Slots.{Slot, Cell, over, cells_of, has_over, slots_in, all_slots}
use Rattle.control_vectors.specs.declared.Over.{Over}
use Rattle.control_vectors.proofs.SlotLaws.{all_slots-cells_of}
use Rattle.struct_vectors.specs.Columns.{marked_slot, marked_slots}
use Rattle.struct_vectors.proofs.MakerLaws.{marked_slots_more}
use Rattle.slot_columns.specs.Cells.{CellAt}

pub take_get : {A : Type 0} (xs : List A) (i : ℕ) (x : A) → slice_get xs i ≡ Some x → take (i + 1) xs ≡ take i xs ++ x ∷ []
take_get [] i x e = absurd cc
take_get (y ∷ xs) zero x e = let same : y ≡ x = cc in ap (λ z. z ∷ []) same
take_get (y ∷ xs) (suc i) x e =
    let next : suc i + 1 ≡ suc (i + 1) = omega arith in rw next (ap (λ l. y ∷ l) (take_get xs i x e))

pub listed_more : (cells : List Cell) (slots : List Slot) (i : ℕ) (s : Slot) → cells_of slots ≡ take i cells → CellAt cells i (Ok s) → cells_of (slots ++ s ∷ []) ≡ take (i + 1) cells
listed_more cells slots i s e at =
    map-append (λ t. Ok t) slots (s ∷ []) ∙ ap (λ (l : List Cell). l ++ Ok s ∷ []) e ∙ sym (take_get cells i (Ok s) at)

pub over_at : (cells : List Cell) (i : ℕ) (e : Over) → CellAt cells i (Err e) → has_over cells ≡ true
over_at [] i e at = absurd cc
over_at (Err o ∷ cells) i e at = refl
over_at (Ok s ∷ cells) zero e at = absurd cc
over_at (Ok s ∷ cells) (suc i) e at = over_at cells i e at

pub listed_over : (cells : List Cell) (i : ℕ) (e : Over) → CellAt cells i (Err e) → all_slots cells ≡ Err over
listed_over cells i e at = ap (λ (b : Bool). if b then Err over else Ok (slots_in cells)) (over_at cells i e at)

pub listed_all : (cells : List Cell) (slots : List Slot) (i : ℕ) → length cells ≤ i → cells_of slots ≡ take i cells → all_slots cells ≡ Ok slots
listed_all cells slots i h e = ap all_slots (sym (e ∙ take_all i cells h)) ∙ all_slots-cells_of slots

-- the cells of a function of the place
pub cell_at : (f : ℕ → Cell) (n i : ℕ) → i < n → CellAt (map f (range_with_len 0 n)) i (f i)
cell_at f n i h =
    slice_get-get_or (map f (range_with_len 0 n)) i (Ok None) (omega (arith, length-map-range_with_len f 0 n))
    ∙ ap (λ (c : Cell). Some c) (get_or-map-range_with_len f 0 n i i (Ok None) h (omega arith))

length_slots_in : (cells : List Cell) → has_over cells ≡ false → length (slots_in cells) ≡ length cells
length_slots_in [] e = refl
length_slots_in (Err o ∷ cells) e = absurd cc
length_slots_in (Ok s ∷ cells) e = ap suc (length_slots_in cells e)

pub length_listed : (cells : List Cell) (slots : List Slot) → all_slots cells ≡ Ok slots → length slots ≡ length cells
length_listed cells slots e = by (has_over cells) refl e
  where
    ok : List Slot → Result (List Slot) Over
    ok xs = Ok xs

    by : (b : Bool) → has_over cells ≡ b → (if b then Err over else ok (slots_in cells)) ≡ Ok slots → length slots ≡ length cells
    by true h q = absurd cc
    by false h q = let same : slots_in cells ≡ slots = cc in ap (λ (l : List Slot). length l) (sym same) ∙ length_slots_in cells h

pub length_pushed : (slots : List Slot) (s : Slot) → length (slots ++ s ∷ []) ≡ length slots + 1
length_pushed [] s = refl
length_pushed (t ∷ slots) s = omega (arith, length_pushed slots s)

-- one slot more, where the slots so far are the first of a list
pub pushed_more : {A : Type 0} (start out more xs : List A) (i : ℕ) (x : A) → more ≡ out ++ x ∷ [] → out ≡ start ++ take i xs → slice_get xs i ≡ Some x → more ≡ start ++ take (i + 1) xs
pushed_more start out more xs i x m o e =
    m ∙ ap (λ (l : List _). l ++ x ∷ []) o ∙ append_assoc start (take i xs) (x ∷ []) ∙ ap (λ (l : List _). start ++ l) (sym (take_get xs i x e))

-- ---- slots that are listed by a function of the place

pub mapped_more : (cell : ℕ → Cell) (slots more : List Slot) (i : ℕ) (s : Slot) → more ≡ slots ++ s ∷ [] → cells_of slots ≡ map cell (range_with_len 0 i) → Ok s ≡ cell i → cells_of more ≡ map cell (range_with_len 0 (i + 1))
mapped_more cell slots more i s m e at =
    ap cells_of m ∙ map-append (λ t. Ok t) slots (s ∷ []) ∙ ap (λ (l : List Cell). l ++ Ok s ∷ []) e ∙ ap (λ (c : Cell). map cell (range_with_len 0 i) ++ c ∷ []) at ∙ sym (map-range_with_len_more cell 0 i i (omega arith))

pub mapped_over : (cell : ℕ → Cell) (n i : ℕ) (e : Over) → i < n → Err e ≡ cell i → all_slots (map cell (range_with_len 0 n)) ≡ Err over
mapped_over cell n i e h at = listed_over (map cell (range_with_len 0 n)) i e (cell_at cell n i h ∙ ap (λ (c : Cell). Some c) (sym at))

pub mapped_all : (cell : ℕ → Cell) (slots : List Slot) (n i : ℕ) → i ≡ n → cells_of slots ≡ map cell (range_with_len 0 i) → all_slots (map cell (range_with_len 0 n)) ≡ Ok slots
mapped_all cell slots n i same e = ap (λ k. all_slots (map cell (range_with_len 0 k))) (sym same) ∙ ap all_slots (sym e) ∙ all_slots-cells_of slots

listed_cells : (slot : ℕ → Slot) (places : List ℕ) → map (λ i. Ok (slot i)) places ≡ cells_of (map slot places)
listed_cells slot [] = refl
listed_cells slot (i ∷ places) = ap (λ (l : List Cell). Ok (slot i) ∷ l) (listed_cells slot places)

-- where no cell is Over, the column's slots are those listed
pub listed_slots : (slot : ℕ → Slot) (slots : List Slot) (n : ℕ) → all_slots (map (λ i. Ok (slot i)) (range_with_len 0 n)) ≡ Ok slots → slots ≡ map slot (range_with_len 0 n)
listed_slots slot slots n e =
    let both : ◌≡◌ {A = Result (List Slot) Over} (Ok (map slot (range_with_len 0 n))) (Ok slots) = sym (all_slots-cells_of (map slot (range_with_len 0 n))) ∙ ap all_slots (sym (listed_cells slot (range_with_len 0 n))) ∙ e in cc

-- a function of each element, place by place
pub map_by_place : {A B : Type 0} (f : A → B) (xs : List A) (d : A) → map f xs ≡ map (λ i. f (get_or xs i d)) (range_with_len 0 (length xs))
map_by_place f xs d =
    fill_by_all (λ i. f (get_or xs i d)) (map f xs) (length xs) (f d) (length-map xs f) (λ k h. get_or-map f xs k d (f d) h)

-- ---- slots that are filled in place

marked_set : (numbers : List ℤ) (marks : List Bool) (i : ℕ) (x : ℤ) (m : Bool) → length marks ≡ length numbers → i < length numbers → marked_slots (take (i + 1) (set numbers i x)) (take (i + 1) (set marks i m)) ≡ marked_slots (take i numbers) (take i marks) ++ marked_slot x m ∷ []
marked_set numbers marks i x m e h =
    let lengths : length (take i marks) ≡ length (take i numbers) = length-take-le i marks (omega (arith, e, h)) ∙ sym (length-take-le i numbers (omega (arith, h))) in
    rw (take_more_set numbers i x h, take_more_set marks i m (omega (arith, e, h))) (marked_slots_more (take i numbers) (take i marks) x m lengths)

pub filled_more : (cell : ℕ → Cell) (numbers : List ℤ) (marks : List Bool) (i : ℕ) (x : ℤ) (m : Bool) (s : Slot) → length marks ≡ length numbers → i < length numbers → marked_slot x m ≡ s
    → cells_of (marked_slots (take i numbers) (take i marks)) ≡ map cell (range_with_len 0 i) → Ok s ≡ cell i
    → cells_of (marked_slots (take (i + 1) (set numbers i x)) (take (i + 1) (set marks i m))) ≡ map cell (range_with_len 0 (i + 1))
filled_more cell numbers marks i x m s e h is so_far at =
    mapped_more cell (marked_slots (take i numbers) (take i marks)) _ i s (marked_set numbers marks i x m e h ∙ ap (λ (t : Slot). marked_slots (take i numbers) (take i marks) ++ t ∷ []) is) so_far at

pub filled_all : (cell : ℕ → Cell) (numbers : List ℤ) (marks : List Bool) (n i : ℕ) → length marks ≡ length numbers → length numbers ≤ i → i ≡ n
    → cells_of (marked_slots (take i numbers) (take i marks)) ≡ map cell (range_with_len 0 i) → all_slots (map cell (range_with_len 0 n)) ≡ Ok (marked_slots numbers marks)
filled_all cell numbers marks n i e h same so_far =
    mapped_all cell (marked_slots numbers marks) n i same
    (ap (λ (xs : List ℤ). cells_of (marked_slots xs marks)) (sym (take_all i numbers h)) ∙ ap (λ (ms : List Bool). cells_of (marked_slots (take i numbers) ms)) (sym (take_all i marks (omega (arith, e, h)))) ∙ so_far)

-- a number and its mark where they stand
pub marked_read : (xs : List ℤ) (marks : List Bool) (i : ℕ) (d : ℤ) (e : Bool) → i < length xs → length marks ≡ length xs → get_or (marked_slots xs marks) i None ≡ marked_slot (get_or xs i d) (get_or marks i e)
marked_read [] marks i d e h l = absurd (omega arith)
marked_read (x ∷ xs) [] i d e h l = absurd (omega arith)
marked_read (x ∷ xs) (m ∷ marks) zero d e h l = refl
marked_read (x ∷ xs) (m ∷ marks) (suc i) d e h l = marked_read xs marks i d e (omega arith) (omega arith)

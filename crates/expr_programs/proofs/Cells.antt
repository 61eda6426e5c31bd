-- Cells at the places of a vector: all slots, or Over at some place.
use Rattle.std.proofs.Common.{◌≡◌, ℕ, ◌<◌, Bool, true, false, if◌then◌else◌, List, [], ◌∷◌, length, map, get_or, refl, sym, ap, ◌∙◌, arith, None, Ok, Err}
use Rattle.std.specs.List.{range_with_len}
use Rattle.std.proofs.lemmas.List.{get_or-map, length-map}
use Rattle.std.proofs.lemmas.List.FromFn.{fill_by_all, length-map-range_with_len, get_or-map-range_with_len}
use Rattle.control_vectors.specs.Slots.{Slot, Cell, over, cells_of, has_over, slots_in, all_slots}
use Rattle.control_vectors.specs.declared.Over.{Over}

-- the slot of a list at a place
abbrev pub pick : List Slot → ℕ → Slot
pick xs i = get_or xs i None

-- ---- all slots

slots_are : (cells : List Cell) → has_over cells ≡ false → cells ≡ cells_of (slots_in cells)
slots_are [] h = refl
slots_are (Err e ∷ cells) h = absurd cc
slots_are (Ok s ∷ cells) h = ap (λ (l : List Cell). Ok s ∷ l) (slots_are cells h)

ok_slots : (b : Bool) (xs ys : List Slot) → (if b then Err over else Ok ys) ≡ Ok xs → (b ≡ false) × (ys ≡ xs)
ok_slots true xs ys e = absurd cc
ok_slots false xs ys e = (refl, cc)

pub all_are : (cells : List Cell) (xs : List Slot) → all_slots cells ≡ Ok xs → cells ≡ cells_of xs
all_are cells xs e = let h = ok_slots (has_over cells) xs (slots_in cells) e in slots_are cells h.0 ∙ ap cells_of h.1

err_over : (b : Bool) (ys : List Slot) (o : Over) → (if b then Err over else Ok ys) ≡ Err o → b ≡ true
err_over true ys o e = refl
err_over false ys o e = absurd cc

pub some_over : (cells : List Cell) (o : Over) → all_slots cells ≡ Err o → has_over cells ≡ true
some_over cells o e = err_over (has_over cells) (slots_in cells) o e

pub over_all : (cells : List Cell) → has_over cells ≡ true → all_slots cells ≡ Err over
over_all cells h = ap (λ (b : Bool). if b then Err over else Ok (slots_in cells)) h

-- what is Over there is Over here
pub over_more : (f g : ℕ → Cell) (places : List ℕ) → ((i : ℕ) (e : Over) → f i ≡ Err e → g i ≡ Err e) → has_over (map f places) ≡ true → has_over (map g places) ≡ true
over_more f g [] more h = h
over_more f g (i ∷ places) more h = by (f i) (g i) refl refl (over_more f g places more) h
  where
    here : (c : Cell) → g i ≡ c → has_over (map g places) ≡ true → has_over (c ∷ map g places) ≡ true
    here (Ok s) e r = r
    here (Err o) e r = refl

    by : (c d : Cell) → f i ≡ c → g i ≡ d → (has_over (map f places) ≡ true → has_over (map g places) ≡ true) → has_over (c ∷ map f places) ≡ true → has_over (d ∷ map g places) ≡ true
    by (Ok s) d e k rest r = here d k (rest r)
    by (Err o) d e k rest r = ap (λ (c : Cell). has_over (c ∷ map g places)) (sym k ∙ more i o e)

-- ---- by place

pub map_places : {X : Type 0} (f g : ℕ → X) (n : ℕ) (d : X) → ((i : ℕ) → i < n → f i ≡ g i) → map f (range_with_len 0 n) ≡ map g (range_with_len 0 n)
map_places f g n d h = fill_by_all g (map f (range_with_len 0 n)) n d (length-map-range_with_len f 0 n) (λ i l. get_or-map-range_with_len f 0 n i i d l (omega arith) ∙ h i l)

pub picked : (f : ℕ → Slot) (n i : ℕ) → i < n → pick (map f (range_with_len 0 n)) i ≡ f i
picked f n i h = get_or-map-range_with_len f 0 n i i None h (omega arith)

-- where all are slots, each place has its own
pub slots_long : (f : ℕ → Cell) (n : ℕ) (xs : List Slot) → all_slots (map f (range_with_len 0 n)) ≡ Ok xs → length xs ≡ n
slots_long f n xs e = sym (length-map xs (λ (s : Slot). Ok s)) ∙ sym (ap length (all_are (map f (range_with_len 0 n)) xs e)) ∙ length-map-range_with_len f 0 n

pub slot_there : (f : ℕ → Cell) (n i : ℕ) (xs : List Slot) → all_slots (map f (range_with_len 0 n)) ≡ Ok xs → i < n → f i ≡ Ok (pick xs i)
slot_there f n i xs e h =
    let l = slots_long f n xs e in
    sym (get_or-map-range_with_len f 0 n i i (Ok None) h (omega arith))
    ∙ ap (λ (cells : List Cell). get_or cells i (Ok None)) (all_are (map f (range_with_len 0 n)) xs e)
    ∙ get_or-map (λ (s : Slot). Ok s) xs i None (Ok None) (omega (arith, l, h))

pub slots_by_place : (f : ℕ → Cell) (n : ℕ) (xs : List Slot) → all_slots (map f (range_with_len 0 n)) ≡ Ok xs → xs ≡ map (pick xs) (range_with_len 0 n)
slots_by_place f n xs e = fill_by_all (pick xs) xs n None (slots_long f n xs e) (λ i h. refl)

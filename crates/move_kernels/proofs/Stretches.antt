-- Cells of a stretch, and slots that are written place by place.
use Rattle.std.proofs.Common.{◌≡◌, ℕ, zero, suc, ◌+◌, ◌-◌, ◌<◌, ◌≤◌, Bool, true, false, ◌||◌, List, [], ◌∷◌, ◌++◌, length, map, take, drop, set, refl, sym, ap, ◌∙◌, arith, if◌then◌else◌, Some, Result, Ok, Err}
use Rattle.std.specs.Prelude.{slice_get, IsErr}
use Rattle.std.specs.List.{range_with_len}
use Rattle.std.proofs.lemmas.List.FromFn.{map-range_with_len_more}
use Rattle.std.proofs.lemmas.List.{take_all, take_more_set, map-append, take-append-drop}
use Rattle.control_vectors.specs.Slots.{Slot, Cell, over, has_over, slots_in}
use Rattle.control_vectors.specs.declared.Over.{Over}
use Rattle.control_vectors.proofs.SlotLaws.{has_over-append, slots_in-append}
use Rattle.slot_columns.proofs.Listings.{take_get}
use Rattle.sort_order.proofs.CellLaws.{clear_more, clear_all}
use Rattle.sort_order.specs.Answers.{Clear}
use Rattle.move_kernels.specs.Kernels.{Writes, stretch}

-- ---- the element at a place
pub get_drop : {A : Type 0} (xs : List A) (from i : ℕ) (x : A) → from ≤ i → slice_get xs i ≡ Some x → slice_get (drop from xs) (i - from) ≡ Some x
get_drop xs zero i x h e = let same : i - 0 ≡ i = omega arith in rw same e
get_drop [] (suc from) i x h e = absurd cc
get_drop (y ∷ xs) (suc from) zero x h e = absurd (omega arith)
get_drop (y ∷ xs) (suc from) (suc i) x h e =
    let same : suc i - suc from ≡ i - from = omega arith in
    rw same (get_drop xs from i x (omega arith) e)

get_take : {A : Type 0} (xs : List A) (n k : ℕ) (x : A) → k < n → slice_get xs k ≡ Some x → slice_get (take n xs) k ≡ Some x
get_take xs zero k x h e = absurd (omega arith)
get_take [] (suc n) k x h e = absurd cc
get_take (y ∷ xs) (suc n) zero x h e = e
get_take (y ∷ xs) (suc n) (suc k) x h e = get_take xs n k x (omega arith) e

pub get_stretch : {A : Type 0} (xs : List A) (first n k i : ℕ) (x : A) → i ≡ first + k → k < n → slice_get xs i ≡ Some x → slice_get (stretch xs first n) k ≡ Some x
get_stretch xs first n k i x is h e =
    let same : i - first ≡ k = omega arith in
    get_take (drop first xs) n k x h (ap (λ j. slice_get (drop first xs) j) (sym same) ∙ get_drop xs first i x (omega arith) e)

-- ---- cells before a place, and those behind it
pub clear_both : (cells : List Cell) (n : ℕ) → has_over (take n cells) ≡ false → has_over (drop n cells) ≡ false → has_over cells ≡ false
clear_both cells n a b = ap has_over (sym (take-append-drop n cells)) ∙ (has_over-append (take n cells) (drop n cells) a ∙ b)

pub over_behind : (cells : List Cell) (n : ℕ) → has_over (take n cells) ≡ false → has_over (drop n cells) ≡ true → has_over cells ≡ true
over_behind cells n a b = ap has_over (sym (take-append-drop n cells)) ∙ (has_over-append (take n cells) (drop n cells) a ∙ b)

-- ---- slots that are those of so many cells, each with something done to it
pub record Filled (f : Slot → Slot) (cells : List Cell) (k : ℕ) (out : List Slot) : Type 0 where
  pub clear : has_over (take k cells) ≡ false
  pub slots : take k out ≡ map f (slots_in (take k cells))

pub filled_none : (f : Slot → Slot) (cells : List Cell) (out : List Slot) → Filled f cells 0 out
filled_none f cells out = record { clear = refl; slots = refl }

pub filled_more : (f : Slot → Slot) (cells : List Cell) (k : ℕ) (out more : List Slot) (s t : Slot) → k < length out → slice_get cells k ≡ Some (Ok s) → t ≡ f s → more ≡ set out k t → Filled f cells k out → Filled f cells (k + 1) more
filled_more f cells k out more s t h at is m e = record {
  clear = clear_more cells k s e.clear at;
  slots =
      ap (take (k + 1)) m ∙ take_more_set out k t h ∙ ap (λ (l : List Slot). l ++ t ∷ []) e.slots
      ∙ ap (λ (u : Slot). map f (slots_in (take k cells)) ++ u ∷ []) is
      ∙ sym (ap (λ (l : List Cell). map f (slots_in l)) (take_get cells k (Ok s) at) ∙ ap (map f) (slots_in-append (take k cells) (Ok s ∷ [])) ∙ map-append f (slots_in (take k cells)) (s ∷ []));
}

pub filled_all : (f : Slot → Slot) (cells : List Cell) (k : ℕ) (out : List Slot) → length cells ≤ k → length out ≤ k → Filled f cells k out → (has_over cells ≡ false) × (map f (slots_in cells) ≡ out)
filled_all f cells k out long wide e = (
  clear_all cells k long e.clear,
  sym (sym (take_all k out wide) ∙ e.slots ∙ ap (λ (l : List Cell). map f (slots_in l)) (take_all k cells long)),
)

pub same_ok : (s t : Slot) → ◌≡◌ {A = Cell} (Ok s) (Ok t) → s ≡ t
same_ok s t e = cc

-- ---- what is meant, where a cell is Over and where none is
pub meant_over : {A : Type 0} (a : Bool) (x : Result A Over) (y : Result A Over) → a ≡ true → (if a then x else y) ≡ x
meant_over true x y e = refl
meant_over false x y e = absurd cc

pub meant_slots : {A : Type 0} (a : Bool) (x : Result A Over) (y : Result A Over) → a ≡ false → (if a then x else y) ≡ y
meant_slots true x y e = absurd cc
meant_slots false x y e = refl

pub or_first : (a b : Bool) → a ≡ true → (a || b) ≡ true
or_first true b e = refl
or_first false b e = absurd cc

pub or_second : (a b : Bool) → b ≡ true → (a || b) ≡ true
or_second true b e = refl
or_second false b e = e

pub or_neither : (a b : Bool) → a ≡ false → b ≡ false → (a || b) ≡ false
or_neither true b e f = absurd cc
or_neither false b e f = f

pub writes_over : (r : Result (Unit {0}) Over) (meant : Result (List Slot) Over) (out : List Slot) → IsErr r → meant ≡ Err over → Writes r meant out
writes_over (Ok u) meant out e h = absurd cc
writes_over (Err v) meant out e h = h

pub clear_over : (r : Result (Unit {0}) Over) (test : Bool) → IsErr r → test ≡ true → Clear r test
clear_over (Ok u) test e h = absurd cc
clear_over (Err v) test e h = h

-- ---- something for each place from a first one on
pub listed_more : {A : Type 0} (f : ℕ → A) (first k : ℕ) (out : List A) (t : A) → k < length out → t ≡ f (first + k) → take k out ≡ map f (range_with_len first k) → take (k + 1) (set out k t) ≡ map f (range_with_len first (k + 1))
listed_more f first k out t h is e =
    take_more_set out k t h ∙ ap (λ l. l ++ t ∷ []) e ∙ ap (λ u. map f (range_with_len first k) ++ u ∷ []) is
    ∙ sym (map-range_with_len_more f first k (first + k) refl)

-- What is appended for each run.
use Rattle.std.proofs.Common.{◌≡◌, ℕ, zero, suc, ◌+◌, ◌-◌, ◌<◌, ◌≤◌, ℤ, pos, Bool, true, false, cond, List, [], ◌∷◌, ◌++◌, length, map, replicate, take, drop, get_or, refl, sym, ap, ◌∙◌, append_assoc, arith, Some, None, Ok, Err}
use Rattle.std.specs.Prelude.{slice_get, slice_range}
use Rattle.std.specs.List.{range_with_len}
use Rattle.std.proofs.lemmas.List.{take-take, get_or-take, get_or-drop, map-append, replicate_more}
use Rattle.std.proofs.lemmas.List.Elements.{filter-append}
use Rattle.std.proofs.lemmas.List.FromFn.{map-range_with_len_more, length-range_with_len, get_or-range_with_len}
use Rattle.std.proofs.lemmas.Option.{slice_get-get_or, get_or_from_slice_get, slice_get_within}
use Rattle.control_vectors.specs.Slots.{Slot, Cell, cells_of, has_over, fitted, numbers}
use Rattle.control_vectors.specs.Sums.{Sum}
use Rattle.control_vectors.specs.Folds.{total_of, fold_slots}
use Rattle.control_vectors.specs.declared.FoldKind.{FoldKind}
use Rattle.slot_columns.specs.Builders.{BuilderValue}
use Rattle.control_vectors.specs.declared.Over.{Over}
use Rattle.control_vectors.proofs.Stretches.{stretch_empty, stretch_more}
use Rattle.slot_columns.proofs.Listings.{cell_at, over_at}
use Rattle.slot_folds.specs.Folds.{holds, chosen, fold_run, select_run, scan_cell, scan_run}
use Rattle.slot_folds.specs.Jobs.{grown, picked, places_of, total_at}
use Rattle.slot_folds.proofs.StretchLaws.{Summed}

-- ---- empty slots

pub padded_more : (start now more : List Slot) (k : ℕ) → more ≡ now ++ None ∷ [] → now ≡ start ++ replicate k None → more ≡ start ++ replicate (k + 1) None
padded_more start now more k m e =
    m ∙ ap (λ (l : List Slot). l ++ None ∷ []) e ∙ append_assoc start (replicate k None) (None ∷ []) ∙ ap (λ (l : List Slot). start ++ l) (replicate_more k None)

-- ---- places

picks : (xs : List Slot) (i : ℕ) (s : Slot) → get_or xs i None ≡ s → chosen xs (i ∷ []) ≡ picked s i
picks xs i s e = ap (λ (t : Slot). cond (holds t) (i ∷ []) []) e

pub chosen_none : (xs : List Slot) (from : ℕ) → chosen xs (slice_range (range_with_len 0 (length xs)) from from) ≡ []
chosen_none xs from = ap (chosen xs) (stretch_empty (range_with_len 0 (length xs)) from)

pub chosen_more : (xs : List Slot) (from i : ℕ) (s : Slot) → from ≤ i → slice_get xs i ≡ Some s → chosen xs (slice_range (range_with_len 0 (length xs)) from (i + 1)) ≡ chosen xs (slice_range (range_with_len 0 (length xs)) from i) ++ picked s i
chosen_more xs from i s h at =
    let places = range_with_len 0 (length xs) in
    let inside : i < length xs = slice_get_within xs i s at in
    let here : slice_get places i ≡ Some i = slice_get-get_or places i 0 (omega (arith, length-range_with_len 0 (length xs))) ∙ ap (λ k. Some k) (get_or-range_with_len 0 (length xs) i 0 inside ∙ omega arith) in
    ap (chosen xs) (stretch_more places from i i h here)
    ∙ filter-append (λ k. holds (get_or xs k None)) (slice_range places from i) (i ∷ [])
    ∙ ap (λ (l : List ℕ). chosen xs (slice_range places from i) ++ l) (picks xs i s (get_or_from_slice_get xs i s None at))

pub places_more : (start now more : List Slot) (before after new : List ℕ) → more ≡ now ++ places_of new → now ≡ start ++ places_of before → after ≡ before ++ new → more ≡ start ++ places_of after
places_more start now more before after new m e a =
    m ∙ ap (λ (l : List Slot). l ++ places_of new) e ∙ append_assoc start (places_of before) (places_of new)
    ∙ ap (λ (l : List Slot). start ++ l) (sym (map-append (λ i. Some (pos i)) before new) ∙ ap places_of (sym a))

pub picked_few : (s : Slot) (i : ℕ) → length (picked s i) ≤ 1
picked_few s i = by (holds s)
  where
    by : (b : Bool) → length (cond b (i ∷ []) []) ≤ 1
    by true = omega arith
    by false = omega arith

-- ---- totals up to each place

abbrev pub scan_at : List Slot → ℕ → Cell
scan_at run k = scan_cell run k (get_or run k None)

abbrev pub scan_front : List Slot → ℕ → List Cell
scan_front run k = map (scan_at run) (range_with_len 0 k)

pub scan_all : (run : List Slot) (k : ℕ) → k ≡ length run → scan_front run k ≡ scan_run run
scan_all run k e = ap (scan_front run) e

scan_is : (run : List Slot) (k : ℕ) (s : Slot) (z : ℤ) → get_or run k None ≡ s → z ≡ total_of (numbers (take (k + 1) run)) → total_at z s ≡ scan_at run k
scan_is run k None z at e = ap (scan_cell run k) (sym at)
scan_is run k (Some x) z at e = ap fitted e ∙ ap (scan_cell run k) (sym at)

pub scanned_is : (xs : List Slot) (from to k : ℕ) (s : Slot) (total : Sum) → from + k < to → to ≤ length xs → slice_get xs (from + k) ≡ Some s → Summed (slice_range xs from (from + (k + 1))) total → total_at total.value s ≡ scan_at (slice_range xs from to) k
scanned_is xs from to k s total h l at t =
    let inside : k < to - from = omega arith in
    let here : get_or (slice_range xs from to) k None ≡ s = get_or-take (to - from) (drop from xs) k None inside ∙ get_or-drop from xs k None ∙ get_or_from_slice_get xs (from + k) s None at in
    let count : (from + (k + 1)) - from ≡ k + 1 = omega arith in
    let front : slice_range xs from (from + (k + 1)) ≡ take (k + 1) (slice_range xs from to) = ap (λ n. take n (drop from xs)) count ∙ sym (take-take (k + 1) (to - from) (drop from xs) (omega arith)) in
    scan_is (slice_range xs from to) k s total.value here (t.value ∙ ap (λ (r : List Slot). total_of (numbers r)) front)

pub scan_more : (run : List Slot) (start now more : List Slot) (k : ℕ) (s : Slot) → more ≡ now ++ s ∷ [] → cells_of now ≡ cells_of start ++ scan_front run k → Ok s ≡ scan_at run k → cells_of more ≡ cells_of start ++ scan_front run (k + 1)
scan_more run start now more k s m e at =
    ap cells_of m ∙ map-append (λ t. Ok t) now (s ∷ []) ∙ ap (λ (l : List Cell). l ++ Ok s ∷ []) e
    ∙ append_assoc (cells_of start) (scan_front run k) (Ok s ∷ []) ∙ ap (λ (c : Cell). cells_of start ++ (scan_front run k ++ c ∷ [])) at
    ∙ ap (λ (l : List Cell). cells_of start ++ l) (sym (map-range_with_len_more (scan_at run) 0 k k (omega arith)))

pub scan_over : (run : List Slot) (k : ℕ) (e : Over) → k < length run → Err e ≡ scan_at run k → has_over (scan_run run) ≡ true
scan_over run k e h at = over_at (scan_run run) k e (cell_at (scan_at run) (length run) k h ∙ ap (λ (c : Cell). Some c) (sym at))

-- ---- whole runs

empties : (n : ℕ) → cells_of (replicate n None) ≡ replicate n (Ok None)
empties zero = refl
empties (suc n) = ap (λ (l : List Cell). Ok None ∷ l) (empties n)

pub fold_pushed : (kind : FoldKind) (run : List Slot) (old new : BuilderValue) (s : Slot) (n : ℕ) → new ≡ grown old (s ∷ replicate n None) → Ok s ≡ fold_slots kind run → n ≡ length run - 1 → (new.room ≡ old.room) × (cells_of new.slots ≡ cells_of old.slots ++ fold_run kind run)
fold_pushed kind run old new s n e f m = (
  ap (λ (b : BuilderValue). b.room) e,
  ap (λ (b : BuilderValue). cells_of b.slots) e ∙ map-append (λ t. Ok t) old.slots (s ∷ replicate n None)
      ∙ ap (λ (l : List Cell). cells_of old.slots ++ Ok s ∷ l) (empties n)
      ∙ ap (λ (c : Cell). cells_of old.slots ++ c ∷ replicate n (Ok None)) f
      ∙ ap (λ k. cells_of old.slots ++ fold_slots kind run ∷ replicate k (Ok None)) m,
)

pub select_pushed : (xs : List Slot) (run : List ℕ) (old mid new : BuilderValue) (n : ℕ) → mid ≡ grown old (places_of (chosen xs run)) → new ≡ grown mid (replicate n None) → n ≡ length run - length (chosen xs run) → (new.room ≡ old.room) × (cells_of new.slots ≡ cells_of old.slots ++ cells_of (select_run xs run))
select_pushed xs run old mid new n e f m =
    let slots : new.slots ≡ old.slots ++ select_run xs run =
    ap (λ (b : BuilderValue). b.slots) f ∙ ap (λ (b : BuilderValue). b.slots ++ replicate n None) e
    ∙ append_assoc old.slots (places_of (chosen xs run)) (replicate n None)
    ∙ ap (λ k. old.slots ++ (places_of (chosen xs run) ++ replicate k None)) m in (
      ap (λ (b : BuilderValue). b.room) f ∙ ap (λ (b : BuilderValue). b.room) e,
      ap cells_of slots ∙ map-append (λ t. Ok t) old.slots (select_run xs run),
    )

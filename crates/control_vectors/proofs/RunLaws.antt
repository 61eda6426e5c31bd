-- Where runs begin in lists of slots that stand side by side.
use Rattle.std.proofs.Common.{◌≡◌, ℕ, ◌-◌, ◌<◌, Bool, true, false, ◌||◌, ◌&&◌, not, List, [], ◌∷◌, length, map, get_or, refl, sym, ap, ◌∙◌, arith, None}
use Rattle.std.specs.Prelude.{◌==◌}
use Rattle.std.specs.List.{list_any, range_with_len}
use Rattle.std.proofs.lemmas.List.FromFn.{fill_by_all, get_or-map-range_with_len, length-map-range_with_len}
use Rattle.control_vectors.specs.Slots.{Slot}
use Rattle.control_vectors.specs.Runs.{Tuple, slot_eq, tuple_eq, begins, run_marks, side_by_side, differs}

abbrev at_place : List (List Slot) → ℕ → Tuple
at_place columns i = map (λ xs. get_or xs i None) columns

-- tuples differ where one of their slots does
tuples_differ : (columns : List (List Slot)) (i j : ℕ) → not (tuple_eq (at_place columns i) (at_place columns j)) ≡ list_any (λ xs. not (slot_eq (get_or xs i None) (get_or xs j None))) columns
tuples_differ [] i j = refl
tuples_differ (xs ∷ columns) i j = by (slot_eq (get_or xs i None) (get_or xs j None)) (tuples_differ columns i j)
  where
    by : (b : Bool) → not (tuple_eq (at_place columns i) (at_place columns j)) ≡ list_any (λ ys. not (slot_eq (get_or ys i None) (get_or ys j None))) columns → not (b && tuple_eq (at_place columns i) (at_place columns j)) ≡ (not b || list_any (λ ys. not (slot_eq (get_or ys i None) (get_or ys j None))) columns)
    by true e = e
    by false e = refl

tuple_at : (n i : ℕ) (columns : List (List Slot)) → i < n → get_or (side_by_side n columns) i [] ≡ at_place columns i
tuple_at n i columns h = get_or-map-range_with_len (at_place columns) 0 n i i [] h (omega arith)

pub begins_side_by_side : (n i : ℕ) (columns : List (List Slot)) → i < n → begins (side_by_side n columns) i ≡ (i == 0 || list_any (λ xs. differs xs i) columns)
begins_side_by_side n i columns h =
    let before : i - 1 < n = omega (arith, h) in
    ap (λ (t : Tuple). i == 0 || not (tuple_eq t (get_or (side_by_side n columns) (i - 1) []))) (tuple_at n i columns h)
    ∙ ap (λ (t : Tuple). i == 0 || not (tuple_eq (at_place columns i) t)) (tuple_at n (i - 1) columns before)
    ∙ ap (λ (b : Bool). i == 0 || b) (tuples_differ columns i (i - 1))

pub length_side_by_side : (n : ℕ) (columns : List (List Slot)) → length (side_by_side n columns) ≡ n
length_side_by_side n columns = length-map-range_with_len (at_place columns) 0 n

pub length_run_marks : (tuples : List Tuple) → length (run_marks tuples) ≡ length tuples
length_run_marks tuples = length-map-range_with_len (begins tuples) 0 (length tuples)

-- marks that stand at the first place, and where one of the lists differs from the place before
pub marks_side_by_side : (n : ℕ) (columns : List (List Slot)) (marks : List Bool) → length marks ≡ n → ((k : ℕ) → k < n → get_or marks k false ≡ (k == 0 || list_any (λ xs. differs xs k) columns)) → marks ≡ run_marks (side_by_side n columns)
marks_side_by_side n columns marks each at =
    fill_by_all (begins (side_by_side n columns)) marks n false each (λ k h. at k h ∙ sym (begins_side_by_side n k columns h))
    ∙ ap (λ (m : ℕ). map (begins (side_by_side n columns)) (range_with_len 0 m)) (sym (length_side_by_side n columns))

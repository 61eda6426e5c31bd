-- Where the runs of columns that stand side by side begin.
use Rattle.std.proofs.Common.{◌≡◌, ℕ, ◌+◌, ◌-◌, ◌<◌, ◌≤◌, ◌^◌, Bool, true, false, ◌||◌, not, List, [], ◌∷◌, length, map, take, get_or, refl, sym, ap, ◌∙◌, arith, Some, None}
use Rattle.std.specs.Prelude.{slice_get}
use Rattle.std.specs.List.{All, list_any}
use Rattle.std.proofs.lemmas.Bool.{ne_eqb}
use Rattle.std.proofs.lemmas.List.Folds.{list_any_at, list_any_more}
use Rattle.std.proofs.lemmas.Option.{get_or_from_slice_get}
use Rattle.control_vectors.specs.Slots.{Slot}
use Rattle.control_vectors.specs.Runs.{differs, run_marks, side_by_side, slot_eq}
use Rattle.control_vectors.proofs.RunLaws.{begins_side_by_side, length_run_marks, length_side_by_side}
use Rattle.struct_vectors.specs.Columns.{ColumnValue}
use Rattle.run_infer.specs.Marks.{AreMarks}
use Rattle.run_infer.proofs.MarkLaws.{are_marks, mark_at}

-- ---- some column differs
pub differs_is : (xs : List Slot) (i : ℕ) (s t : Slot) → slice_get xs i ≡ Some s → slice_get xs (i - 1) ≡ Some t → differs xs i ≡ not (slot_eq s t)
differs_is xs i s t e f = rw (get_or_from_slice_get xs i s None e, get_or_from_slice_get xs (i - 1) t None f) refl

pub some_part : (parts : List ColumnValue) (i k : ℕ) (part : ColumnValue) → k < length parts → part ≡ get_or parts k part → differs part.slots i ≡ true → true ≡ list_any (λ p. differs p.slots i) parts
some_part parts i k part h at e = sym (list_any_at (λ p. differs p.slots i) parts k part h (ap (λ (p : ColumnValue). differs p.slots i) (sym at) ∙ e))

pub no_part_more : (parts : List ColumnValue) (i k : ℕ) (part : ColumnValue) → k < length parts → part ≡ get_or parts k part → list_any (λ p. differs p.slots i) (take k parts) ≡ false → differs part.slots i ≡ false → list_any (λ p. differs p.slots i) (take (k + 1) parts) ≡ false
no_part_more parts i k part h at before e =
    list_any_more (λ p. differs p.slots i) parts k part h
    ∙ ap (λ (b : Bool). b || differs (get_or parts k part).slots i) before
    ∙ ap (λ (p : ColumnValue). differs p.slots i) (sym at)
    ∙ e

-- ---- the marks of columns side by side
pub length_tuple_marks : (n : ℕ) (columns : List (List Slot)) → length (run_marks (side_by_side n columns)) ≡ n
length_tuple_marks n columns = length_run_marks (side_by_side n columns) ∙ length_side_by_side n columns

pub are_tuple_marks : (n : ℕ) (columns : List (List Slot)) → n ≤ 2 ^ 22 → AreMarks (run_marks (side_by_side n columns))
are_tuple_marks n columns few = are_marks (side_by_side n columns) (omega (arith, length_side_by_side n columns))

any_slots : (parts : List ColumnValue) (i : ℕ) → list_any (λ xs. differs xs i) (map (λ p. p.slots) parts) ≡ list_any (λ p. differs p.slots i) parts
any_slots [] i = refl
any_slots (p ∷ parts) i = ap (λ (b : Bool). differs p.slots i || b) (any_slots parts i)

pub tuple_mark : (n i : ℕ) (parts : List ColumnValue) (r : Bool) → i < length (run_marks (side_by_side n (map (λ p. p.slots) parts))) → (i ≡ 0 → ⊥) → r ≡ list_any (λ p. differs p.slots i) parts → slice_get (run_marks (side_by_side n (map (λ p. p.slots) parts))) i ≡ Some r
tuple_mark n i parts r h later e =
    let columns = map (λ p. p.slots) parts in
    let within : i < n = omega (arith, h, length_tuple_marks n columns) in
    mark_at (side_by_side n columns) i (omega (arith, length_side_by_side n columns))
    ∙ ap (λ (b : Bool). Some b) (begins_side_by_side n i columns within ∙ ap (λ (b : Bool). b || list_any (λ xs. differs xs i) columns) (ne_eqb i 0 later) ∙ any_slots parts i ∙ sym e)

-- each column has a slot at a place
pub each_within : (n i : ℕ) (parts : List ColumnValue) → All (λ p. length p.slots ≡ n) parts → i < n → All (λ p. i < length p.slots) parts
each_within n i parts each h k d l = let e = each k d l in omega arith

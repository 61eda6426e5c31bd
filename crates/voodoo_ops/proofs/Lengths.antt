-- How many slots the kernels give.
use Rattle.std.proofs.Common.{◌≡◌, ℕ, ℤ, suc, pos, ◌+◌, ◌-◌, ◌*◌, ◌≤◌, Bool, true, false, not, List, [], ◌∷◌, length, map, replicate, min, refl, sym, ap, ◌∙◌, arith, Some, None, if◌then◌else◌}
use Rattle.std.specs.Prelude.{is_some}
use Rattle.std.specs.List.{range_with_len, flat_map}
use Rattle.std.proofs.lemmas.List.{length-map, length-replicate, length-append}
use Rattle.std.proofs.lemmas.List.Filters.{length-filter_both}
use Rattle.std.proofs.lemmas.List.FromFn.{length-range_with_len, length-map-range_with_len}
use Rattle.control_vectors.specs.Slots.{Slot, numbers}
use Rattle.control_vectors.specs.declared.FoldKind.{FoldKind}
use Rattle.control_vectors.specs.Runs.{runs, runs_with_first}
use Rattle.slot_folds.specs.Folds.{folded, fold_run, selected, select_run, chosen, holds, scanned, scan_run, scan_cell}
use Rattle.slot_moves.specs.Moves.{slot_at, gathered, writer, writers, bucketed}
use Rattle.slot_moves.specs.Crosses.{left_places, right_places}
use Rattle.sort_order.specs.Buckets.{bucket, partition_place, partitioned}
use Rattle.sort_order.specs.Keys.{SortKey}
use Rattle.sort_order.specs.Orders as orders
use Rattle.sort_order.specs.Orders.{comes_before, inserted, sorted_by, marked, padded, ordered}

-- ---- runs
-- a run has a place, and what is made of it has as many
abbrev KeepsLength : {A B : Type 0} → (List A → List B) → Type 0
KeepsLength {A} f = (x : A) (run : List A) → length (f (x ∷ run)) ≡ suc (length run)

-- ---- kernels that go slot by slot
pub gathered_long : (xs places : List Slot) → length (gathered xs places) ≡ length places
gathered_long xs places = length-map places (slot_at xs)

pub writers_long : (n m : ℕ) (places : List Slot) → length (writers n m places) ≡ n
writers_long n m places = length-map-range_with_len (writer places (min m (length places))) 0 n

pub bucketed_long : (keys pivots : List Slot) → length (bucketed keys pivots) ≡ length keys
bucketed_long keys pivots = length-map keys (bucket (numbers pivots))

pub partitioned_long : (pivots : List ℤ) (keys : List Slot) → length (partitioned pivots keys) ≡ length keys
partitioned_long pivots keys =
    length-map-range_with_len (λ i. partition_place (map (bucket pivots) keys) i (orders.slot_at (map (bucket pivots) keys) i)) 0 (length (map (bucket pivots) keys)) ∙ length-map keys (bucket pivots)

pub left_long : (n m : ℕ) → length (left_places n m) ≡ n * m
left_long n m = length-map-range_with_len _ 0 (n * m)

pub right_long : (n m : ℕ) → length (right_places n m) ≡ n * m
right_long n m = length-map-range_with_len _ 0 (n * m)

-- ---- Order
inserted_long : {X : Type 0} (before : X → X → Bool) (x : X) (ys : List X) → length (inserted before x ys) ≡ suc (length ys)
inserted_long before x [] = refl
inserted_long before x (y ∷ ys) = by (before y x) (inserted_long before x ys)
  where
    by : (b : Bool) → length (inserted before x ys) ≡ suc (length ys) → length (if b then y ∷ inserted before x ys else x ∷ y ∷ ys) ≡ suc (suc (length ys))
    by true e = ap suc e
    by false e = refl

sorted_long : {X : Type 0} (before : X → X → Bool) (xs : List X) → length (sorted_by before xs) ≡ length xs
sorted_long before [] = refl
sorted_long before (x ∷ xs) = inserted_long before x (sorted_by before xs) ∙ ap suc (sorted_long before xs)

marked_short : (mark : List Slot) → length (marked mark) ≤ length mark
marked_short mark =
    omega (arith, length-filter_both (λ i. is_some (orders.slot_at mark i)) (λ i. not (is_some (orders.slot_at mark i))) (λ i. refl) (range_with_len 0 (length mark)), length-range_with_len 0 (length mark))

padded_long : (n : ℕ) (places : List ℕ) → length places ≤ n → length (padded n places) ≡ n
padded_long n places h =
    let front : List Slot = map (λ i. Some (pos i)) places in
    let back : List Slot = replicate (n - length places) None in
    let first : length front ≡ length places = length-map places (λ (i : ℕ). let s : Slot = Some (pos i) in s) in
    let second : length back ≡ n - length places = length-replicate (n - length places) _ in
    omega (arith, length-append front back)

pub ordered_long : (mark : List Slot) (keys : List SortKey) → length (ordered mark keys) ≡ length mark
ordered_long mark keys =
    padded_long (length mark) (sorted_by (comes_before keys) (marked mark)) (omega (arith, sorted_long (comes_before keys) (marked mark), marked_short mark))

-- ---- folds
-- the lengths of runs together
abbrev all_of : {A : Type 0} → List (List A) → ℕ
all_of [] = 0
all_of (run ∷ others) = length run + all_of others

runs_with_first_all : {A : Type 0} (marks : List Bool) (x : A) (others : List (List A)) → all_of (runs_with_first marks x others) ≡ suc (all_of others)
runs_with_first_all [] x others = omega arith
runs_with_first_all (true ∷ marks) x others = omega arith
runs_with_first_all (false ∷ marks) x [] = refl
runs_with_first_all (false ∷ marks) x (run ∷ others) = omega arith

runs_all : {A : Type 0} (marks : List Bool) (xs : List A) → length marks ≡ length xs → all_of (runs marks xs) ≡ length xs
runs_all [] [] e = refl
runs_all [] (x ∷ xs) e = absurd (omega arith)
runs_all (mark ∷ marks) [] e = refl
runs_all (mark ∷ marks) (x ∷ xs) e = runs_with_first_all marks x (runs marks xs) ∙ ap suc (runs_all marks xs (omega (arith, e)))

-- each run has a place
abbrev NoneEmpty : {A : Type 0} → List (List A) → Type 0
NoneEmpty [] = Unit {0}
NoneEmpty ([] ∷ others) = ⊥
NoneEmpty ((x ∷ run) ∷ others) = NoneEmpty others

runs_with_first_none : {A : Type 0} (marks : List Bool) (x : A) (others : List (List A)) → NoneEmpty others → NoneEmpty (runs_with_first marks x others)
runs_with_first_none [] x others h = h
runs_with_first_none (true ∷ marks) x others h = h
runs_with_first_none (false ∷ marks) x [] h = tt
runs_with_first_none (false ∷ marks) x ([] ∷ others) h = absurd h
runs_with_first_none (false ∷ marks) x ((y ∷ run) ∷ others) h = h

runs_none : {A : Type 0} (marks : List Bool) (xs : List A) → NoneEmpty (runs marks xs)
runs_none [] xs = tt
runs_none (mark ∷ marks) [] = tt
runs_none (mark ∷ marks) (x ∷ xs) = runs_with_first_none marks x (runs marks xs) (runs_none marks xs)

flat_long : {A B : Type 0} (f : List A → List B) → KeepsLength f → (rs : List (List A)) → NoneEmpty rs → length (flat_map f rs) ≡ all_of rs
flat_long f keeps [] h = refl
flat_long f keeps ([] ∷ others) h = absurd h
flat_long f keeps ((x ∷ run) ∷ others) h = length-append (f (x ∷ run)) (flat_map f others) ∙ ap (λ (k : ℕ). k + length (flat_map f others)) (keeps x run) ∙ ap (λ (k : ℕ). suc (length run) + k) (flat_long f keeps others h)

over_runs_long : {A B : Type 0} (f : List A → List B) → KeepsLength f → (marks : List Bool) (xs : List A) → length marks ≡ length xs → length (flat_map f (runs marks xs)) ≡ length xs
over_runs_long f keeps marks xs e = flat_long f keeps (runs marks xs) (runs_none marks xs) ∙ runs_all marks xs e

pub folded_long : (kind : FoldKind) (marks : List Bool) (xs : List Slot) → length marks ≡ length xs → length (folded kind marks xs) ≡ length xs
folded_long kind marks xs e =
    over_runs_long (fold_run kind) (λ x run. ap suc (length-replicate (suc (length run) - 1) _ ∙ (let one : suc (length run) - 1 ≡ length run = omega arith in one))) marks xs e

pub scanned_long : (marks : List Bool) (xs : List Slot) → length marks ≡ length xs → length (scanned marks xs) ≡ length xs
scanned_long marks xs e =
    over_runs_long scan_run (λ x run. length-map-range_with_len (λ i. scan_cell (x ∷ run) i (orders.slot_at (x ∷ run) i)) 0 (suc (length run))) marks xs e

chosen_short : (xs : List Slot) (run : List ℕ) → length (chosen xs run) ≤ length run
chosen_short xs run = omega (arith, length-filter_both (λ i. holds (orders.slot_at xs i)) (λ i. not (holds (orders.slot_at xs i))) (λ i. refl) run)

select_long : (xs : List Slot) (run : List ℕ) → length (select_run xs run) ≡ length run
select_long xs run = padded_long (length run) (chosen xs run) (chosen_short xs run)

pub selected_long : (marks : List Bool) (xs : List Slot) → length marks ≡ length xs → length (selected marks xs) ≡ length xs
selected_long marks xs e =
    over_runs_long (select_run xs) (λ i run. select_long xs (i ∷ run)) marks (range_with_len 0 (length xs)) (e ∙ sym (length-range_with_len 0 (length xs)))
    ∙ length-range_with_len 0 (length xs)

-- Runs from a place on.
use Rattle.std.proofs.Common.{◌≡◌, ℕ, suc, ◌+◌, ◌-◌, ◌<◌, ◌≤◌, Bool, true, false, List, [], ◌∷◌, ◌++◌, length, replicate, take, drop, get_or, refl, sym, ap, ◌∙◌, append-nil, append_assoc, arith, pos, Some, None, Ok, Err}
use Rattle.std.specs.Prelude.{slice_range}
use Rattle.std.specs.List.{range_with_len, flat_map}
use Rattle.std.proofs.lemmas.List.{drop-drop, drop_more, drop_all, length-take, length-drop, length-append, length-map, length-replicate, map-append}
use Rattle.std.proofs.lemmas.List.Sums.{length-filter, count_by-le-length}
use Rattle.std.proofs.lemmas.List.FromFn.{length-range_with_len, length-map-range_with_len}
use Rattle.control_vectors.specs.Slots.{Slot, Cell, over, cells_of, has_over, all_slots}
use Rattle.control_vectors.specs.declared.FoldKind.{FoldKind}
use Rattle.control_vectors.proofs.SlotLaws.{has_over-append, has_over-cells_of, all_slots-cells_of}
use Rattle.slot_columns.specs.declared.stop.Stop.{Stop}
use Rattle.slot_columns.specs.declared.stop.Stop.TheVariants.{NoMemory, Overflow}
use Rattle.slot_columns.specs.Builders.{BuilderValue}
use Rattle.slot_columns.specs.Stops.{StopsAt}
use Rattle.slot_folds.specs.declared.folding.Job.{Job}
use Rattle.slot_folds.specs.declared.folding.Job.TheVariants.{Fold, Select, Scan}
use Rattle.control_vectors.specs.Runs.{runs_with_first, runs}
use Rattle.slot_folds.specs.Jobs.{unmarked}
use Rattle.slot_folds.specs.Folds.{holds, chosen, fold_run, select_run, scan_cell, scan_run}
use Rattle.slot_folds.specs.Jobs.{job_from, job_run, places_of, Extends}

-- ---- where a run ends

pub unmarked_more : (marks : List Bool) (i : ℕ) → i < length marks → get_or marks i false ≡ false → unmarked (drop i marks) ≡ suc (unmarked (drop (i + 1) marks))
unmarked_more marks i h off = ap unmarked (drop_more marks i false h ∙ ap (λ (b : Bool). b ∷ drop (i + 1) marks) off)

pub unmarked_mark : (marks : List Bool) (i : ℕ) → i < length marks → get_or marks i false ≡ true → unmarked (drop i marks) ≡ 0
unmarked_mark marks i h on = ap unmarked (drop_more marks i false h ∙ ap (λ (b : Bool). b ∷ drop (i + 1) marks) on)

pub unmarked_past : (marks : List Bool) (i : ℕ) → length marks ≤ i → unmarked (drop i marks) ≡ 0
unmarked_past marks i h = ap unmarked (drop_all i marks h)

-- ---- the first run, and those behind it

runs_front : {A : Type 0} (mark : Bool) (marks : List Bool) (x : A) (xs : List A) → length marks ≡ length xs → runs (mark ∷ marks) (x ∷ xs) ≡ (x ∷ take (unmarked marks) xs) ∷ runs (drop (unmarked marks) marks) (drop (unmarked marks) xs)
runs_front mark [] x [] e = refl
runs_front mark [] x (y ∷ ys) e = absurd (omega (arith, e))
runs_front mark (true ∷ marks) x xs e = refl
runs_front mark (false ∷ marks) x [] e = absurd (omega (arith, e))
runs_front mark (false ∷ marks) x (y ∷ ys) e = ap (runs_with_first (false ∷ marks) x) (runs_front false marks y ys (omega (arith, e)))

pub run_split : {A : Type 0} (marks : List Bool) (ys : List A) (from to : ℕ) → length marks ≡ length ys → from < length marks → to ≡ from + 1 + unmarked (drop (from + 1) marks) → runs (drop from marks) (drop from ys) ≡ slice_range ys from to ∷ runs (drop to marks) (drop to ys)
run_split marks [] from to e h t = absurd (omega (arith, e))
run_split {A} marks (d ∷ zs) from to e h t =
    let ys : List A = d ∷ zs in
    let many : length marks ≡ length ys = e in
    let u = unmarked (drop (from + 1) marks) in
    let ms = drop (from + 1) marks in
    let rest : List A = drop (from + 1) ys in
    let mark : drop from marks ≡ get_or marks from false ∷ ms = drop_more marks from false h in
    let here : drop from ys ≡ get_or ys from d ∷ rest = drop_more ys from d (omega (arith, many)) in
    let count : to - from ≡ suc u = omega arith in
    let lengths : length ms ≡ length rest = omega (arith, length-drop (from + 1) marks, length-drop (from + 1) ys, many) in
    let first : slice_range ys from to ≡ get_or ys from d ∷ take u rest = ap (λ k. take k (drop from ys)) count ∙ ap (take (suc u)) here in
    let marks_left : drop u ms ≡ drop to marks = drop-drop u (from + 1) marks ∙ ap (λ k. drop k marks) (sym t) in
    let left : drop u rest ≡ drop to ys = drop-drop u (from + 1) ys ∙ ap (λ k. drop k ys) (sym t) in
    ap (λ (l : List Bool). runs l (drop from ys)) mark
    ∙ ap (λ (l : List A). runs (get_or marks from false ∷ ms) l) here
    ∙ runs_front (get_or marks from false) ms (get_or ys from d) rest lengths
    ∙ ap (λ (r : List A). r ∷ runs (drop u ms) (drop u rest)) (sym first)
    ∙ ap (λ (l : List Bool). slice_range ys from to ∷ runs l (drop u rest)) marks_left
    ∙ ap (λ (l : List A). slice_range ys from to ∷ runs (drop to marks) l) left

pub job_split : (job : Job) (marks : List Bool) (xs : List Slot) (from to : ℕ) → length marks ≡ length xs → from < length marks → to ≡ from + 1 + unmarked (drop (from + 1) marks) → job_from job marks xs from ≡ job_run job xs from to ++ job_from job marks xs to
job_split (Fold kind) marks xs from to e h t = ap (flat_map (fold_run kind)) (run_split marks xs from to e h t)
job_split Select marks xs from to e h t =
    let places = range_with_len 0 (length xs) in
    let many : length marks ≡ length places = e ∙ sym (length-range_with_len 0 (length xs)) in
    ap (λ (l : List (List ℕ)). cells_of (flat_map (select_run xs) l)) (run_split marks places from to many h t)
    ∙ map-append (λ s. Ok s) (select_run xs (slice_range places from to)) (flat_map (select_run xs) (runs (drop to marks) (drop to places)))
job_split Scan marks xs from to e h t = ap (flat_map scan_run) (run_split marks xs from to e h t)

pub job_end : (job : Job) (marks : List Bool) (xs : List Slot) (i : ℕ) → length marks ≤ i → job_from job marks xs i ≡ []
job_end (Fold kind) marks xs i h = rw (drop_all i marks h) refl
job_end Select marks xs i h = rw (drop_all i marks h) refl
job_end Scan marks xs i h = rw (drop_all i marks h) refl

-- ---- the whole, run by run

pub job_done : (job : Job) (marks : List Bool) (xs slots : List Slot) (i : ℕ) (whole : List Cell) → length marks ≤ i → cells_of slots ++ job_from job marks xs i ≡ whole → all_slots whole ≡ Ok slots
job_done job marks xs slots i whole h e =
    ap all_slots (sym e ∙ ap (λ (l : List Cell). cells_of slots ++ l) (job_end job marks xs i h) ∙ append-nil (cells_of slots)) ∙ all_slots-cells_of slots

over_front : (xs ys : List Cell) → has_over xs ≡ true → has_over (xs ++ ys) ≡ true
over_front [] ys e = absurd cc
over_front (Err o ∷ xs) ys e = refl
over_front (Ok s ∷ xs) ys e = over_front xs ys e

all_over : (cells : List Cell) → has_over cells ≡ true → all_slots cells ≡ Err over
all_over cells e = rw e refl

pub job_stops : (stop : Stop) (old new : BuilderValue) (run rest whole : List Cell) → Extends (Err stop) old new run → cells_of old.slots ++ (run ++ rest) ≡ whole → StopsAt stop (all_slots whole)
job_stops NoMemory old new run rest whole x e = tt
job_stops Overflow old new run rest whole x e =
    ap all_slots (sym e) ∙ all_over (cells_of old.slots ++ (run ++ rest)) (has_over-append (cells_of old.slots) (run ++ rest) (has_over-cells_of old.slots) ∙ over_front run rest x)

pub job_more : (now more : List Slot) (run rest before whole : List Cell) → cells_of more ≡ cells_of now ++ run → before ≡ run ++ rest → cells_of now ++ before ≡ whole → cells_of more ++ rest ≡ whole
job_more now more run rest before whole m b e =
    ap (λ (l : List Cell). l ++ rest) m ∙ append_assoc (cells_of now) run rest ∙ ap (λ (l : List Cell). cells_of now ++ l) (sym b) ∙ e

-- ---- how long what is made of a run is

pub length_range : {A : Type 0} (xs : List A) (from to : ℕ) → to ≤ length xs → length (slice_range xs from to) ≡ to - from
length_range xs from to h = omega (arith, length-take (to - from) (drop from xs), length-drop from xs)

length_fold_run : (kind : FoldKind) (run : List Slot) → 0 < length run → length (fold_run kind run) ≡ length run
length_fold_run kind run h = omega (arith, length-replicate {A = Cell} (length run - 1) (Ok None))

length_select_run : (xs : List Slot) (run : List ℕ) → length (cells_of (select_run xs run)) ≡ length run
length_select_run xs run =
    let few : length (chosen xs run) ≤ length run = omega (arith, length-filter (λ i. holds (get_or xs i None)) run, count_by-le-length (λ i. holds (get_or xs i None)) run) in
    let cells : length (cells_of (select_run xs run)) ≡ length (select_run xs run) = length-map (select_run xs run) (λ (s : Slot). Ok s) in
    let parts : length (select_run xs run) ≡ length (places_of (chosen xs run)) + length (replicate {A = Slot} (length run - length (chosen xs run)) None) = length-append (places_of (chosen xs run)) (replicate (length run - length (chosen xs run)) None) in
    let front : length (places_of (chosen xs run)) ≡ length (chosen xs run) = length-map (chosen xs run) (λ i. Some (pos i)) in
    let back : length (replicate {A = Slot} (length run - length (chosen xs run)) None) ≡ length run - length (chosen xs run) = length-replicate {A = Slot} (length run - length (chosen xs run)) None in
    omega arith

length_job_run : (job : Job) (xs : List Slot) (from to : ℕ) → from < to → to ≤ length xs → length (job_run job xs from to) ≡ to - from
length_job_run (Fold kind) xs from to l h =
    let run : length (slice_range xs from to) ≡ to - from = length_range xs from to h in
    length_fold_run kind (slice_range xs from to) (omega arith) ∙ run
length_job_run Select xs from to l h =
    length_select_run xs (slice_range (range_with_len 0 (length xs)) from to) ∙ length_range (range_with_len 0 (length xs)) from to (omega (arith, length-range_with_len 0 (length xs)))
length_job_run Scan xs from to l h =
    length-map-range_with_len (λ i. scan_cell (slice_range xs from to) i (get_or (slice_range xs from to) i None)) 0 (length (slice_range xs from to)) ∙ length_range xs from to h

pub job_grows : (job : Job) (xs now more : List Slot) (from to : ℕ) → from < to → to ≤ length xs → cells_of more ≡ cells_of now ++ job_run job xs from to → length now ≡ from → length more ≡ to
job_grows job xs now more from to l h e n =
    let run : length (job_run job xs from to) ≡ to - from = length_job_run job xs from to l h in
    let grown : length (cells_of more) ≡ length (cells_of now) + length (job_run job xs from to) = ap (λ (k : List Cell). length k) e ∙ length-append (cells_of now) (job_run job xs from to) in
    let after : length (cells_of more) ≡ length more = length-map more (λ (s : Slot). Ok s) in
    let before : length (cells_of now) ≡ length now = length-map now (λ (s : Slot). Ok s) in
    omega arith

-- Numbers that stand beside the runs of rows: those of each run's first row, where the run begins.
use Rattle.std.proofs.Common.{◌≡◌, ◌∙◌, ℕ, zero, suc, ◌-◌, ◌<◌, pos, ◌+ℤ◌, Bool, true, if◌then◌else◌, List, [], ◌∷◌, ◌++◌, length, map, replicate, get_or, Some, None, Ok, refl, sym, ap, append_assoc, arith}
use Rattle.std.specs.List.{AllByRecursion, flat_map, range_with_len}
use Rattle.std.proofs.lemmas.Int.{ints}
use Rattle.std.proofs.lemmas.List.{length-map, map-append}
use Rattle.std.proofs.lemmas.List.FromFn.{fill_by_all}
use Rattle.control_vectors.specs.Slots.{Slot, Cell, fitted, or_over}
use Rattle.control_vectors.specs.declared.PairKind.TheVariants.{Add}
use Rattle.slot_wise.specs.Pairs.{pair_slot}
use Rattle.held_rows.specs.Held.{at, column}
use Rattle.held_runs.specs.Laws.{run_places, cell_at}
use Rattle.held_runs.proofs.Heads.{map-replicate}
use Rattle.held_runs.proofs.Stretches.{NoneEmpty}
use Rattle.held_groups.specs.Heads.{fits}

-- ---- sums, place by place

abbrev pub sums : List Slot → List Slot → List Cell
sums [] ys = []
sums (x ∷ xs) [] = []
sums (x ∷ xs) (y ∷ ys) = pair_slot Add x y ∷ sums xs ys

length_sums : (xs ys : List Slot) → length xs ≡ length ys → length (sums xs ys) ≡ length xs
length_sums [] ys e = refl
length_sums (x ∷ xs) [] e = absurd (omega (arith, e))
length_sums (x ∷ xs) (y ∷ ys) e = ap suc (length_sums xs ys (omega (arith, e)))

sum_at : (xs ys : List Slot) (i : ℕ) → length xs ≡ length ys → i < length xs → get_or (sums xs ys) i (Ok None) ≡ pair_slot Add (get_or xs i None) (get_or ys i None)
sum_at [] ys i e h = absurd (omega arith)
sum_at (x ∷ xs) [] i e h = absurd (omega (arith, e))
sum_at (x ∷ xs) (y ∷ ys) zero e h = refl
sum_at (x ∷ xs) (y ∷ ys) (suc i) e h = sum_at xs ys i (omega (arith, e)) (omega arith)

pub sums_are : (n : ℕ) (xs ys : List Slot) → length xs ≡ n → length ys ≡ n → map (λ i. pair_slot Add (get_or xs i None) (get_or ys i None)) (range_with_len 0 n) ≡ sums xs ys
sums_are n xs ys e h =
    let same : length xs ≡ length ys = e ∙ sym h in
    sym (fill_by_all (λ i. pair_slot Add (get_or xs i None) (get_or ys i None)) (sums xs ys) n (Ok None) (length_sums xs ys same ∙ e) (λ i l. sum_at xs ys i same (omega (arith, e, l))))

-- beside nothing there is nothing
nothing_beside : (ys xs zs : List Slot) → sums (replicate (length ys) None ++ xs) (ys ++ zs) ≡ replicate (length ys) (Ok None) ++ sums xs zs
nothing_beside [] xs zs = refl
nothing_beside (y ∷ ys) xs zs = ap (λ (l : List Cell). Ok None ∷ l) (nothing_beside ys xs zs)

nothing_at_all : (n : ℕ) (ys : List Slot) → length ys ≡ n → sums (replicate n None) ys ≡ replicate n (Ok None)
nothing_at_all zero ys h = refl
nothing_at_all (suc n) [] h = absurd (omega (arith, h))
nothing_at_all (suc n) (y ∷ ys) h = ap (λ (l : List Cell). Ok None ∷ l) (nothing_at_all n ys (omega (arith, h)))

-- 0 and a slot that fits is that slot
pub plus_zero : (s : Slot) → fits s ≡ true → pair_slot Add (Some (pos 0)) s ≡ Ok s
plus_zero None h = refl
plus_zero (Some z) h = let same : pos 0 +ℤ z ≡ z = omega (arith, ints) in ap fitted same ∙ ap (λ (b : Bool). or_over (if b then Some z else None)) h

-- ---- of runs

module _ {A : Type 0} where
  -- what is asked of a run's first row
  abbrev pub first_of : (A → Slot) → List A → Slot
  first_of f [] = None
  first_of f (a ∷ run) = f a

  abbrev pub zero_run : List A → Slot
  zero_run run = Some (pos 0)

  all_right : (P : A → Type 0) (xs ys : List A) → AllByRecursion P (xs ++ ys) → AllByRecursion P ys
  all_right P [] ys a = a
  all_right P (x ∷ xs) ys a = all_right P xs ys a.1

  -- a run, with what stands behind it
  run_sums : (f : A → Slot) (a : A) (run : List A) (xs zs : List Slot) → fits (f a) ≡ true → sums (Some (pos 0) ∷ (replicate (length run) None ++ xs)) (f a ∷ (map f run ++ zs)) ≡ Ok (f a) ∷ (replicate (length run) (Ok None) ++ sums xs zs)
  run_sums f a run xs zs h =
      let long : length run ≡ length (map f run) = sym (length-map run f) in
      λ i. plus_zero (f a) h i ∷ (ap (λ k. sums (replicate k None ++ xs) (map f run ++ zs)) long ∙ (nothing_beside (map f run) xs zs ∙ ap (λ k. replicate k (Ok None) ++ sums xs zs) (sym long))) i

  place_column : (run : List A) → column zero_run (run_places run) ≡ Some (pos 0) ∷ replicate (length run - 1) None
  place_column run = ap (λ (l : List Slot). Some (pos 0) ∷ l) (map-replicate (at zero_run) (length run - 1) None)

  place_cells : (f : A → Slot) (run : List A) → map (cell_at (λ r. Ok (first_of f r))) (run_places run) ≡ Ok (first_of f run) ∷ replicate (length run - 1) (Ok None)
  place_cells f run = ap (λ (l : List Cell). Ok (first_of f run) ∷ l) (map-replicate (cell_at (λ r. Ok (first_of f r))) (length run - 1) None)

  pub runs_sums : (f : A → Slot) (rs : List (List A)) (zs : List Slot) (n : ℕ) → length zs ≡ n → NoneEmpty rs → AllByRecursion (λ a. fits (f a) ≡ true) (flat_map (λ r. r) rs)
      → sums (column zero_run (flat_map run_places rs) ++ replicate n None) (map f (flat_map (λ r. r) rs) ++ zs) ≡ map (cell_at (λ r. Ok (first_of f r))) (flat_map run_places rs) ++ replicate n (Ok None)
  runs_sums f [] zs n e ne h = nothing_at_all n zs e
  runs_sums f ([] ∷ rs) zs n e ne h = absurd (omega (arith, ne.0))
  runs_sums f ((a ∷ run) ∷ rs) zs n e ne h =
      let cell = cell_at (λ r. Ok (first_of f r)) in
      let few : length (a ∷ run) - 1 ≡ length run = omega arith in
      let left : column zero_run (flat_map run_places ((a ∷ run) ∷ rs)) ++ replicate n None ≡ Some (pos 0) ∷ (replicate (length run) None ++ (column zero_run (flat_map run_places rs) ++ replicate n None)) =
      ap (λ (l : List Slot). l ++ replicate n None) (map-append (at zero_run) (run_places (a ∷ run)) (flat_map run_places rs))
      ∙ (append_assoc (column zero_run (run_places (a ∷ run))) (column zero_run (flat_map run_places rs)) (replicate n None)
      ∙ ap (λ (l : List Slot). l ++ (column zero_run (flat_map run_places rs) ++ replicate n None)) (place_column (a ∷ run) ∙ ap (λ k. Some (pos 0) ∷ replicate k None) few)) in
      let right : map f (flat_map (λ r. r) ((a ∷ run) ∷ rs)) ++ zs ≡ f a ∷ (map f run ++ (map f (flat_map (λ r. r) rs) ++ zs)) =
      ap (λ (l : List Slot). l ++ zs) (map-append f (a ∷ run) (flat_map (λ r. r) rs)) ∙ append_assoc (map f (a ∷ run)) (map f (flat_map (λ r. r) rs)) zs in
      let rest = runs_sums f rs zs n e ne.1 (all_right (λ b. fits (f b) ≡ true) (a ∷ run) (flat_map (λ r. r) rs) h) in
      let whole : map cell (flat_map run_places ((a ∷ run) ∷ rs)) ++ replicate n (Ok None) ≡ Ok (f a) ∷ (replicate (length run) (Ok None) ++ (map cell (flat_map run_places rs) ++ replicate n (Ok None))) =
      ap (λ (l : List Cell). l ++ replicate n (Ok None)) (map-append cell (run_places (a ∷ run)) (flat_map run_places rs))
      ∙ (append_assoc (map cell (run_places (a ∷ run))) (map cell (flat_map run_places rs)) (replicate n (Ok None))
      ∙ ap (λ (l : List Cell). l ++ (map cell (flat_map run_places rs) ++ replicate n (Ok None))) (place_cells f (a ∷ run) ∙ ap (λ k. Ok (f a) ∷ replicate k (Ok None)) few)) in
      (λ i. sums (left i) (right i))
      ∙ (run_sums f a run (column zero_run (flat_map run_places rs) ++ replicate n None) (map f (flat_map (λ r. r) rs) ++ zs) h.0
      ∙ (ap (λ (l : List Cell). Ok (f a) ∷ (replicate (length run) (Ok None) ++ l)) rest ∙ sym whole))

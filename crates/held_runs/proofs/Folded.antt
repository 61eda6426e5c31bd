-- A fold over columns of rows that stand at the first places: a run begins where they end, of places where no row stands, whose fold is empty.
use Rattle.std.proofs.Common.{◌≡◌, ◌∙◌, ℕ, zero, suc, ◌-◌, ◌≤◌, Bool, true, false, not, ◌&&◌, List, [], ◌∷◌, ◌++◌, length, map, replicate, Option, Some, None, Ok, refl, sym, ap, append-nil, arith}
use Rattle.std.specs.List.{flat_map}
use Rattle.std.proofs.lemmas.Grind.{flat_map-append}
use Rattle.std.proofs.lemmas.List.{length-append, length-map, length-replicate, map-append}
use Rattle.std.proofs.lemmas.Simd.{map-map}
use Rattle.control_vectors.specs.Slots.{Slot, Cell, numbers}
use Rattle.control_vectors.specs.Folds.{fold_slots}
use Rattle.control_vectors.specs.Runs.{Tuple, slot_eq, tuple_eq, run_marks, runs, side_by_side}
use Rattle.control_vectors.specs.declared.FoldKind.{FoldKind}
use Rattle.control_vectors.specs.declared.FoldKind.TheVariants.{Sum, Min, Max}
use Rattle.control_vectors.proofs.RunLaws.{length_run_marks}
use Rattle.slot_folds.specs.Folds.{fold_run, folded}
use Rattle.held_rows.specs.Held.{Held, at, column, one, packed}
use Rattle.held_runs.specs.Laws.{tuple_by, row_runs, run_places, run_heads, cell_at, FoldLaw}
use Rattle.held_runs.proofs.Marks.{changes, marks, marks_are, same_changes, tuple_of, tuples_are}
use Rattle.held_runs.proofs.Stretches.{BeginsRun, runs_append, runs_map, one_run}
use Rattle.held_runs.proofs.Heads.{map-replicate, length_heads, fold_places, rows_again, none_empty}

-- ---- nothing folded

no_numbers : (n : ℕ) → numbers (replicate n None) ≡ []
no_numbers zero = refl
no_numbers (suc n) = no_numbers n

nothing_folded : (kind : FoldKind) (n : ℕ) → fold_slots kind (replicate n None) ≡ Ok None
nothing_folded Sum n = rw no_numbers refl
nothing_folded Min n = rw no_numbers refl
nothing_folded Max n = rw no_numbers refl

-- places without a row are one run
blanks : (kind : FoldKind) (n : ℕ) (t : Tuple) → flat_map (fold_run kind) (runs (marks (replicate n t)) (replicate n None)) ≡ replicate n (Ok None)
blanks kind zero t = refl
blanks kind (suc n) t =
    let long : length (replicate {A = Slot} n None) ≡ n = length-replicate {A = Slot} n None in
    let few : length (None ∷ replicate {A = Slot} n None) - 1 ≡ n = omega (arith, long) in
    let marked : changes t (replicate n t) ≡ replicate (length (replicate {A = Slot} n None)) false = same_changes n t ∙ ap (λ k. replicate k false) (sym long) in
    ap (λ (ms : List Bool). flat_map (fold_run kind) (runs (true ∷ ms) (None ∷ replicate n None))) marked
    ∙ (ap (flat_map (fold_run kind)) (one_run {A = Slot} None (replicate n None))
    ∙ (append-nil (fold_run kind (None ∷ replicate n None)) ∙ (λ i. nothing_folded kind (suc n) i ∷ replicate (few i) (Ok None))))

-- ---- where the rows end

module _ {A : Type 0} (front behind : List (A → Slot)) where
  abbrev pub fs : List (A → Slot)
  fs = front ++ one ∷ behind

  no_and : (b c : Bool) → c ≡ false → (b && c) ≡ false
  no_and true c e = e
  no_and false c e = refl

  -- the mark tells a row from none
  apart : (gs : List (A → Slot)) (a : A) → tuple_eq (tuple_of (gs ++ one ∷ behind) None) (tuple_of (gs ++ one ∷ behind) (Some a)) ≡ false
  apart [] a = refl
  apart (g ∷ gs) a = no_and (slot_eq None (g a)) (tuple_eq (tuple_of (gs ++ one ∷ behind) None) (tuple_of (gs ++ one ∷ behind) (Some a))) (apart gs a)

  abbrev pub stand : List A → Held A
  stand rows = map (λ a. Some a) rows

  change_behind : (a : A) (rows : List A) (n : ℕ) → changes (tuple_of fs (Some a)) (map (tuple_of fs) (stand rows) ++ replicate n (tuple_of fs None)) ≡ changes (tuple_of fs (Some a)) (map (tuple_of fs) (stand rows)) ++ marks (replicate n (tuple_of fs None))
  change_behind a [] zero = refl
  change_behind a [] (suc n) = ap (λ b. not b ∷ changes (tuple_of fs None) (replicate n (tuple_of fs None))) (apart front a)
  change_behind a (b ∷ rows) n = ap (λ (l : List Bool). not (tuple_eq (tuple_of fs (Some b)) (tuple_of fs (Some a))) ∷ l) (change_behind b rows n)

  marks_behind : (rows : List A) (n : ℕ) → marks (map (tuple_of fs) (stand rows) ++ replicate n (tuple_of fs None)) ≡ marks (map (tuple_of fs) (stand rows)) ++ marks (replicate n (tuple_of fs None))
  marks_behind [] n = refl
  marks_behind (a ∷ rows) n = ap (λ (l : List Bool). true ∷ l) (change_behind a rows n)

  abbrev pub row_marks : List A → List Bool
  row_marks rows = run_marks (map (tuple_by fs) rows)

  marks_of_rows : (rows : List A) → marks (map (tuple_of fs) (stand rows)) ≡ row_marks rows
  marks_of_rows rows = ap marks (map-map (tuple_of fs) (λ a. Some a) rows) ∙ sym (marks_are (map (tuple_by fs) rows))

  abbrev pub blank_marks : ℕ → List Bool
  blank_marks k = marks (replicate k (tuple_of fs None))

  begin_blank : (k : ℕ) → BeginsRun (blank_marks k)
  begin_blank zero = tt
  begin_blank (suc k) = refl

  length_packed : (n : ℕ) (rows : List A) → length rows ≤ n → length (packed n rows) ≡ n
  length_packed n rows h =
      let front_part : length (stand rows) ≡ length rows = length-map rows (λ a. Some a) in
      let back : length (replicate {A = Option A} (n - length rows) None) ≡ n - length rows = length-replicate {A = Option A} (n - length rows) None in
      length-append (stand rows) (replicate (n - length rows) None) ∙ omega arith

  packed_marks : (n : ℕ) (rows : List A) → length rows ≤ n → run_marks (side_by_side n (map (λ g. column g (packed n rows)) fs)) ≡ row_marks rows ++ blank_marks (n - length rows)
  packed_marks n rows h =
      ap (λ m. run_marks (side_by_side m (map (λ g. column g (packed n rows)) fs))) (sym (length_packed n rows h))
      ∙ (ap run_marks (tuples_are fs (packed n rows))
      ∙ (marks_are (map (tuple_of fs) (packed n rows))
      ∙ (ap marks (map-append (tuple_of fs) (stand rows) (replicate (n - length rows) None) ∙ ap (λ (l : List Tuple). map (tuple_of fs) (stand rows) ++ l) (map-replicate (tuple_of fs) (n - length rows) None))
      ∙ (marks_behind rows (n - length rows) ∙ ap (λ (l : List Bool). l ++ marks (replicate (n - length rows) (tuple_of fs None))) (marks_of_rows rows)))))

  packed_column : (f : A → Slot) (n : ℕ) (rows : List A) → column f (packed n rows) ≡ map f rows ++ replicate (n - length rows) None
  packed_column f n rows =
      map-append (at f) (stand rows) (replicate (n - length rows) None) ∙ (λ i. map-map (at f) (λ a. Some a) rows i ++ map-replicate (at f) (n - length rows) None i)

  -- ---- the law

  folded_parts : (kind : FoldKind) (f : A → Slot) (rows : List A) (k : ℕ)
      → folded kind (row_marks rows ++ blank_marks k) (map f rows ++ replicate k None) ≡ map (cell_at (λ run. fold_slots kind (map f run))) (flat_map run_places (row_runs fs rows)) ++ replicate k (Ok None)
  folded_parts kind f rows k =
      let long : length (row_marks rows) ≡ length (map f rows) = length_run_marks (map (tuple_by fs) rows) ∙ (length-map rows (tuple_by fs) ∙ sym (length-map rows f)) in
      ap (flat_map (fold_run kind)) (runs_append (row_marks rows) (blank_marks k) (map f rows) (replicate k None) long (begin_blank k))
      ∙ (flat_map-append (fold_run kind) (runs (row_marks rows) (map f rows)) (runs (blank_marks k) (replicate k None))
      ∙ (λ i. (ap (flat_map (fold_run kind)) (runs_map f (row_marks rows) rows) ∙ fold_places kind f (row_runs fs rows)) i ++ blanks kind k (tuple_of fs None) i))

  heads_are : (cell : List A → Cell) (n : ℕ) (rows : List A) → map (cell_at cell) (run_heads n (row_runs fs rows)) ≡ map (cell_at cell) (flat_map run_places (row_runs fs rows)) ++ replicate (n - length rows) (Ok None)
  heads_are cell n rows =
      let rs = row_runs fs rows in
      let long : length (flat_map run_places rs) ≡ length rows = length_heads rs (none_empty fs rows) ∙ ap (λ (l : List A). length l) (rows_again fs rows) in
      map-append (cell_at cell) (flat_map run_places rs) (replicate (n - length (flat_map run_places rs)) None)
      ∙ ap (λ (l : List Cell). map (cell_at cell) (flat_map run_places rs) ++ l)
      (map-replicate (cell_at cell) (n - length (flat_map run_places rs)) None ∙ ap (λ m. replicate (n - m) (Ok None)) long)

pub fold_law : (A : Type 0) → FoldLaw A
fold_law A kind front behind f n rows h =
    (λ i. folded kind (packed_marks front behind n rows h i) (packed_column front behind f n rows i))
    ∙ (folded_parts front behind kind f rows (n - length rows) ∙ sym (heads_are front behind (λ run. fold_slots kind (map f run)) n rows))

-- Groups at the places where their runs begin.
use Rattle.std.proofs.Common.{◌≡◌, ◌∙◌, ℕ, suc, ◌-◌, ◌≤◌, ◌||◌, ℤ, pos, Bool, true, false, cond, ◌&&◌, List, [], ◌∷◌, ◌++◌, length, map, replicate, get_or, Option, Some, None, Ok, refl, sym, ap, subst, ⊎_elim, arith}
use Rattle.std.specs.Int.{int_max}
use Rattle.std.specs.List.{AllByRecursion, Contains, flat_map, fold, list_any, range_with_len}
use Rattle.std.specs.Option.{option_map}
use Rattle.std.proofs.lemmas.Bool.Decides.{Decides-eqb}
use Rattle.std.proofs.lemmas.List.{length-append, length-map, length-replicate, map-append}
use Rattle.std.proofs.lemmas.Simd.{map-map}
use Rattle.control_vectors.specs.Folds.{fold_slots}
use Rattle.control_vectors.specs.Slots.{Slot, Cell, cells_of, numbers}
use Rattle.control_vectors.specs.declared.FoldKind.{FoldKind}
use Rattle.control_vectors.specs.declared.FoldKind.TheVariants.{Max}
use Rattle.control_vectors.specs.declared.PairKind.TheVariants.{Add}
use Rattle.slot_wise.specs.Pairs.{pair_slot}
use Rattle.sort_order.specs.Orders.{inserted, sorted_by}
use Rattle.dict_codes.proofs.Members.{first_or_later, nothing_in}
use Rattle.table_load.specs.Databases.{coded}
use Rattle.typed_trees.specs.declared.typed.ColumnRef.{ColumnRef}
use Rattle.typed_trees.specs.Names.{same_column}
use Rattle.query_answers.specs.Answers.{FromRow}
use Rattle.query_answers.specs.Runs.{run_group}
use Rattle.query_answers.proofs.Groups.{run_laws as group_laws}
use Rattle.held_rows.specs.Held.{Held, present, at, column, one, packed}
use Rattle.held_rows.specs.Laws.{row_before}
use Rattle.held_runs.specs.Laws.{row_runs, run_places, run_heads, cell_at}
use Rattle.held_runs.proofs.Folded.{fold_law}
use Rattle.held_runs.proofs.Heads.{run_laws, length_heads, none_empty, rows_again, map-replicate}
use Rattle.held_runs.proofs.Stretches.{NoneEmpty}
use Rattle.held_groups.specs.Groups.{column_slot, column_key, sorted_rows, run_slots}
use Rattle.held_groups.specs.Heads.{group_places, sorted_column, run_fold, fits, zero_of, key_slot, HeadLaws}
use Rattle.held_groups.proofs.Firsts.{first_of, zero_run, sums, sums_are, runs_sums}
use Rattle.held_groups.proofs.Groups.{group_law}
use Rattle.held_groups.proofs.Sorted.{all_from, all_sorted}

-- ---- places of one list as those of another

module _ {X Y : Type 0} (g : X → Y) where
  present_map : (held : Held X) → present (map (option_map g) held) ≡ map g (present held)
  present_map [] = refl
  present_map (None ∷ held) = present_map held
  present_map (Some x ∷ held) = ap (λ (l : List Y). g x ∷ l) (present_map held)

  cells_map : (cell : Y → Cell) (held : Held X) → map (cell_at cell) (map (option_map g) held) ≡ map (cell_at (λ x. cell (g x))) held
  cells_map cell [] = refl
  cells_map cell (None ∷ held) = ap (λ (l : List Cell). Ok None ∷ l) (cells_map cell held)
  cells_map cell (Some x ∷ held) = ap (λ (l : List Cell). cell (g x) ∷ l) (cells_map cell held)

  column_map : (f : Y → Slot) (held : Held X) → column f (map (option_map g) held) ≡ column (λ x. f (g x)) held
  column_map f [] = refl
  column_map f (None ∷ held) = ap (λ (l : List Slot). None ∷ l) (column_map f held)
  column_map f (Some x ∷ held) = ap (λ (l : List Slot). f (g x) ∷ l) (column_map f held)

-- slots as cells
column_cells : {X : Type 0} (f : X → Slot) (held : Held X) → map (cell_at (λ x. Ok (f x))) held ≡ cells_of (column f held)
column_cells f [] = refl
column_cells f (None ∷ held) = ap (λ (l : List Cell). Ok None ∷ l) (column_cells f held)
column_cells f (Some x ∷ held) = ap (λ (l : List Cell). Ok (f x) ∷ l) (column_cells f held)

-- cells that agree on what stands at places
module _ {X : Type 0} (P : X → Type 0) (f g : X → Cell) (agree : (x : X) → P x → f x ≡ g x) where
  cells_agree : (held : Held X) → AllByRecursion P (present held) → map (cell_at f) held ≡ map (cell_at g) held
  cells_agree [] a = refl
  cells_agree (None ∷ held) a = ap (λ (l : List Cell). Ok None ∷ l) (cells_agree held a)
  cells_agree (Some x ∷ held) a = λ i. agree x a.0 i ∷ cells_agree held a.1 i

-- ---- a sort has as many elements

length_inserted : {X : Type 0} (lt : X → X → Bool) (x : X) (ys : List X) → length (inserted lt x ys) ≡ suc (length ys)
length_inserted lt x [] = refl
length_inserted lt x (y ∷ ys) = by (lt y x) (length_inserted lt x ys)
  where
    by : (b : Bool) → length (inserted lt x ys) ≡ suc (length ys) → length (cond b (y ∷ inserted lt x ys) (x ∷ y ∷ ys)) ≡ suc (suc (length ys))
    by true e = ap suc e
    by false e = refl

length_sorted : {X : Type 0} (lt : X → X → Bool) (xs : List X) → length (sorted_by lt xs) ≡ length xs
length_sorted lt [] = refl
length_sorted lt (x ∷ xs) = length_inserted lt x (sorted_by lt xs) ∙ ap suc (length_sorted lt xs)

-- ---- the rows of a run's group are the run

group_rows : (columns : List ColumnRef) (run : List FromRow) → (run_group columns run).rows ≡ run
group_rows columns [] = refl
group_rows columns (r ∷ rs) = refl

-- ---- marks

greatest_ones : (rows : List FromRow) → fold int_max (pos 1) (numbers (map one rows)) ≡ pos 1
greatest_ones [] = refl
greatest_ones (r ∷ rs) = greatest_ones rs

greatest_mark : (run : List FromRow) → 1 ≤ length run → fold_slots Max (map one run) ≡ Ok (Some (pos 1))
greatest_mark [] h = absurd (omega (arith, h))
greatest_mark (r ∷ rs) h = ap (λ (z : ℤ). Ok (Some z)) (greatest_ones rs)

-- ---- keys

same_itself : (c : ColumnRef) → same_column c c ≡ true
same_itself c = λ i. (Decides-eqb c.source c.source).1 refl i && (Decides-eqb c.column c.column).1 refl i

among : (columns : List ColumnRef) (c : ColumnRef) → Contains columns c → list_any (same_column c) columns ≡ true
among [] c h = absurd (nothing_in c h)
among (d ∷ ds) c h = ⊎_elim (λ (e : d ≡ c). here_found e) (λ (k : Contains ds c). ap (λ (b : Bool). same_column c d || b) (among ds c k) ∙ or_true (same_column c d)) (first_or_later d c ds h)
  where
    or_true : (b : Bool) → (b || true) ≡ true
    or_true true = refl
    or_true false = refl

    here_found : d ≡ c → (same_column c d || list_any (same_column c) ds) ≡ true
    here_found e = ap (λ (b : Bool). b || list_any (same_column c) ds) (ap (same_column c) e ∙ same_itself c)

first_key : (texts : List (List ℕ)) (columns : List ColumnRef) (c : ColumnRef) (run : List FromRow) → Contains columns c → 1 ≤ length run → first_of (column_slot texts c) run ≡ key_slot texts columns c (run_group columns run)
first_key texts columns c [] m h = absurd (omega (arith, h))
first_key texts columns c (r ∷ rs) m h = ap (coded texts) (sym (group_laws.key_column columns r c (among columns c m)))

module _ (texts : List (List ℕ)) (columns front behind : List ColumnRef) (n : ℕ) (rows : List FromRow) (few : length rows ≤ n) where
  abbrev pub sorted : List FromRow
  sorted = sorted_rows texts columns rows

  abbrev pub found : List (List FromRow)
  found = row_runs (run_slots texts front behind) sorted

  abbrev pub heads : Held (List FromRow)
  heads = run_heads n found

  abbrev pub nonempty : NoneEmpty found
  nonempty = none_empty (run_slots texts front behind) sorted

  flat : flat_map (λ r. r) found ≡ sorted
  flat = rows_again (run_slots texts front behind) sorted

  sorted_long : length sorted ≡ length rows
  sorted_long = length_sorted (row_before (map (column_key texts) columns)) rows

  places_long : length (flat_map run_places found) ≡ length rows
  places_long = length_heads found nonempty ∙ (ap (λ (l : List FromRow). length l) flat ∙ sorted_long)

  heads_long : length heads ≡ n
  heads_long =
      length-append (flat_map run_places found) (replicate (n - length (flat_map run_places found)) None)
      ∙ omega (arith, places_long, few, length-replicate {A = Option (List FromRow)} (n - length (flat_map run_places found)) None)

  heads_nonempty : AllByRecursion (λ r. 1 ≤ length r) (present heads)
  heads_nonempty = subst (λ (l : List (List FromRow)). AllByRecursion (λ r. 1 ≤ length r) l) (sym ((run_laws FromRow).heads n found)) nonempty

  folds : (kind : FoldKind) (f : FromRow → Slot) → run_fold texts columns front behind n rows kind f ≡ map (cell_at (λ g. fold_slots kind (map f g.rows))) (group_places texts columns front behind n rows)
  folds kind f =
      fold_law FromRow kind (map (column_slot texts) front) (map (column_slot texts) behind) f n sorted (omega (arith, sorted_long, few))
      ∙ sym (cells_map (run_group columns) (λ g. fold_slots kind (map f g.rows)) heads ∙ cells_agree (λ r. 1 ≤ length r) (λ r. fold_slots kind (map f (run_group columns r).rows)) (λ r. fold_slots kind (map f r)) (λ r h. ap (λ (l : List FromRow). fold_slots kind (map f l)) (group_rows columns r)) heads heads_nonempty)

  marks : run_fold texts columns front behind n rows Max one ≡ cells_of (column one (group_places texts columns front behind n rows))
  marks =
      fold_law FromRow Max (map (column_slot texts) front) (map (column_slot texts) behind) one n sorted (omega (arith, sorted_long, few))
      ∙ (cells_agree (λ r. 1 ≤ length r) (λ r. fold_slots Max (map one r)) (λ r. Ok (one (run_group columns r))) greatest_mark heads heads_nonempty
      ∙ (column_cells (λ r. one (run_group columns r)) heads ∙ ap cells_of (sym (column_map (run_group columns) one heads))))

  -- the rows' slots in two parts, and the zeros of the runs
  sorted_parts : (f : FromRow → Slot) → sorted_column texts columns n rows f ≡ map f (flat_map (λ r. r) found) ++ replicate (n - length rows) None
  sorted_parts f =
      map-append (at f) (map (λ a. Some a) sorted) (replicate (n - length sorted) None)
      ∙ (λ i. (map-map (at f) (λ a. Some a) sorted ∙ ap (map f) (sym flat)) i ++ (map-replicate (at f) (n - length sorted) None ∙ ap (λ m. replicate (n - m) None) sorted_long) i)

  zero_parts : column zero_of (group_places texts columns front behind n rows) ≡ column zero_run (flat_map run_places found) ++ replicate (n - length rows) None
  zero_parts =
      column_map (run_group columns) zero_of heads
      ∙ (map-append (at zero_run) (flat_map run_places found) (replicate (n - length (flat_map run_places found)) None)
      ∙ ap (λ (l : List Slot). column zero_run (flat_map run_places found) ++ l) (map-replicate (at zero_run) (n - length (flat_map run_places found)) None ∙ ap (λ m. replicate (n - m) None) places_long))

  first_cells : (f : FromRow → Slot) → map (cell_at (λ r. Ok (first_of f r))) (flat_map run_places found) ++ replicate (n - length rows) (Ok None) ≡ map (cell_at (λ r. Ok (first_of f r))) heads
  first_cells f =
      let cell = cell_at (λ r. Ok (first_of f r)) in
      sym (map-append cell (flat_map run_places found) (replicate (n - length (flat_map run_places found)) None)
      ∙ ap (λ (l : List Cell). map cell (flat_map run_places found) ++ l) (map-replicate cell (n - length (flat_map run_places found)) None ∙ ap (λ m. replicate (n - m) (Ok None)) places_long))

  keys : (c : ColumnRef) → Contains columns c → ((row : FromRow) → Contains rows row → fits (column_slot texts c row) ≡ true)
      → map (λ i. pair_slot Add (get_or (column zero_of (group_places texts columns front behind n rows)) i None) (get_or (sorted_column texts columns n rows (column_slot texts c)) i None)) (range_with_len 0 n)
      ≡ cells_of (column (key_slot texts columns c) (group_places texts columns front behind n rows))
  keys c m h =
      let f = column_slot texts c in
      let xs = column zero_of (group_places texts columns front behind n rows) in
      let ys = sorted_column texts columns n rows f in
      let zeros : length xs ≡ n = length-map (group_places texts columns front behind n rows) (at zero_of) ∙ (length-map heads (option_map (run_group columns)) ∙ heads_long) in
      let slots : length ys ≡ n = length-map (packed n sorted) (at f) ∙ packed_long in
      let all = all_sorted (λ r. fits (f r) ≡ true) (row_before (map (column_key texts) columns)) rows (all_from (λ r. fits (f r) ≡ true) rows h) in
      let inside : AllByRecursion (λ r. fits (f r) ≡ true) (flat_map (λ r. r) found) = subst (λ (l : List FromRow). AllByRecursion (λ r. fits (f r) ≡ true) l) (sym flat) all in
      let blank : length (replicate {A = Slot} (n - length rows) None) ≡ n - length rows = length-replicate {A = Slot} (n - length rows) None in
      sums_are n xs ys zeros slots
      ∙ ((λ i. sums (zero_parts i) (sorted_parts f i))
      ∙ (runs_sums f found (replicate (n - length rows) None) (n - length rows) blank nonempty inside
      ∙ (first_cells f
      ∙ (cells_agree (λ r. 1 ≤ length r) (λ r. Ok (first_of f r)) (λ r. Ok (key_slot texts columns c (run_group columns r))) (λ r l. ap (λ (s : Slot). Ok s) (first_key texts columns c r m l)) heads heads_nonempty
      ∙ (column_cells (λ r. key_slot texts columns c (run_group columns r)) heads ∙ ap cells_of (sym (column_map (run_group columns) (key_slot texts columns c) heads)))))))
    where
      packed_long : length (packed n sorted) ≡ n
      packed_long =
          length-append (map (λ a. Some a) sorted) (replicate (n - length sorted) None)
          ∙ omega (arith, sorted_long, few, length-map sorted (λ a. Some a), length-replicate {A = Option FromRow} (n - length sorted) None)

pub head_laws : HeadLaws
head_laws = record {
  groups = λ texts c cs front behind n rows can same.
      present_map (run_group (c ∷ cs)) (run_heads n (row_runs (run_slots texts front behind) (sorted_rows texts (c ∷ cs) rows)))
      ∙ (ap (map (run_group (c ∷ cs))) ((run_laws FromRow).heads n (row_runs (run_slots texts front behind) (sorted_rows texts (c ∷ cs) rows))) ∙ group_law texts c cs front behind rows can same);
  long = λ texts columns front behind n rows few. length-map (run_heads n (row_runs (run_slots texts front behind) (sorted_rows texts columns rows))) (option_map (run_group columns)) ∙ heads_long texts columns front behind n rows few;
  folds = λ texts columns front behind n rows kind f few. folds texts columns front behind n rows few kind f;
  marks = λ texts columns front behind n rows few. marks texts columns front behind n rows few;
  keys = λ texts columns front behind n rows c m few h. keys texts columns front behind n rows few c m h;
}

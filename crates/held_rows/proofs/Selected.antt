-- Rows that are selected by a truth, run by run.
use Rattle.std.proofs.Common.{◌≡◌, ◌∙◌, ℕ, ◌-◌, Bool, true, false, cond, List, [], ◌∷◌, ◌++◌, length, map, filter, refl, sym, ap, arith, Option, Some, None}
use Rattle.std.specs.Prelude.{slice_index_or}
use Rattle.std.specs.List.{range_with_len, flat_map}
use Rattle.std.proofs.lemmas.List.{map-append, length-map}
use Rattle.std.proofs.lemmas.List.Elements.{filter-append}
use Rattle.std.proofs.lemmas.List.FromFn.{length-range_with_len}
use Rattle.control_vectors.specs.Slots.{Slot}
use Rattle.control_vectors.specs.Runs.{runs, runs_with_first}
use Rattle.slot_folds.specs.Folds.{holds, chosen, select_run, selected}
use Rattle.voodoo_ops.proofs.Lengths.{selected_long}
use Rattle.held_rows.specs.Held.{Held, present, at, column}
use Rattle.held_rows.specs.Laws.{SelectLaw}
use Rattle.held_rows.proofs.RowPlaces.{row_at, asked, moved, present-append, rows_in, all_rows, padded_rows, present_padded}

-- the runs of a list are the list again
joined_first : {A : Type 0} (marks : List Bool) (x : A) (others : List (List A)) → flat_map (λ run. run) (runs_with_first marks x others) ≡ x ∷ flat_map (λ run. run) others
joined_first [] x others = refl
joined_first (true ∷ marks) x others = refl
joined_first (false ∷ marks) x [] = refl
joined_first (false ∷ marks) x (run ∷ others) = refl

pub runs_joined : {A : Type 0} (marks : List Bool) (xs : List A) → length marks ≡ length xs → flat_map (λ run. run) (runs marks xs) ≡ xs
runs_joined [] [] e = refl
runs_joined [] (x ∷ xs) e = absurd (omega (arith, e))
runs_joined (m ∷ marks) [] e = refl
runs_joined {A} (m ∷ marks) (x ∷ xs) e = joined_first marks x (runs marks xs) ∙ ap (λ (l : List A). x ∷ l) (runs_joined marks xs (omega (arith, e)))

module _ {A : Type 0} (c : A → Slot) (held : Held A) where
  abbrev keeps : A → Bool
  keeps a = holds (c a)

  -- ---- the places of a run whose slot holds are those of the rows for which the truth holds

  one_chosen : (i : ℕ) (is run : List ℕ) (a : A) → slice_index_or held i None ≡ Some a → present (rows_in held is) ≡ filter keeps (present (rows_in held run)) → (b : Bool)
      → present (rows_in held (cond b (i ∷ is) is)) ≡ cond b (a ∷ filter keeps (present (rows_in held run))) (filter keeps (present (rows_in held run)))
  one_chosen i is run a e h true = ap (λ (o : Option A). present (o ∷ rows_in held is)) e ∙ ap (λ (l : List A). a ∷ l) h
  one_chosen i is run a e h false = h

  chosen_rows : (run : List ℕ) → present (rows_in held (chosen (column c held) run)) ≡ filter keeps (present (rows_in held run))
  chosen_rows [] = refl
  chosen_rows (i ∷ run) =
      ap (λ (x : Slot). present (rows_in held (cond (holds x) (i ∷ chosen (column c held) run) (chosen (column c held) run)))) (asked c held i)
      ∙ by (slice_index_or held i None) refl (chosen_rows run)
    where
      by : (o : Option A) → slice_index_or held i None ≡ o → present (rows_in held (chosen (column c held) run)) ≡ filter keeps (present (rows_in held run))
          → present (rows_in held (cond (holds (at c (slice_index_or held i None))) (i ∷ chosen (column c held) run) (chosen (column c held) run))) ≡ filter keeps (present (slice_index_or held i None ∷ rows_in held run))
      by None e h =
          ap (λ (o : Option A). present (rows_in held (cond (holds (at c o)) (i ∷ chosen (column c held) run) (chosen (column c held) run)))) e
          ∙ h ∙ ap (λ (o : Option A). filter keeps (present (o ∷ rows_in held run))) (sym e)
      by (Some a) e h =
          ap (λ (o : Option A). present (rows_in held (cond (holds (at c o)) (i ∷ chosen (column c held) run) (chosen (column c held) run)))) e
          ∙ one_chosen i (chosen (column c held) run) run a e h (holds (c a)) ∙ ap (λ (o : Option A). filter keeps (present (o ∷ rows_in held run))) (sym e)

  -- ---- run by run

  one_run : (run : List ℕ) → present (map (row_at held) (select_run (column c held) run)) ≡ filter keeps (present (rows_in held run))
  one_run run =
      let picked = chosen (column c held) run in
      ap (λ (l : Held A). present l) (padded_rows held picked (length run - length picked)) ∙ present_padded (rows_in held picked) (length run - length picked) ∙ chosen_rows run

  each_run : (rs : List (List ℕ)) → present (map (row_at held) (flat_map (select_run (column c held)) rs)) ≡ filter keeps (present (rows_in held (flat_map (λ run. run) rs)))
  each_run [] = refl
  each_run (run ∷ rs) =
      let others = flat_map (select_run (column c held)) rs in
      let places = flat_map (λ run. run) rs in
      ap (λ (l : Held A). present l) (map-append (row_at held) (select_run (column c held) run) others)
      ∙ present-append (map (row_at held) (select_run (column c held) run)) (map (row_at held) others)
      ∙ ap (λ (l : List A). l ++ present (map (row_at held) others)) (one_run run)
      ∙ ap (λ (l : List A). filter keeps (present (rows_in held run)) ++ l) (each_run rs)
      ∙ sym (filter-append keeps (present (rows_in held run)) (present (rows_in held places)))
      ∙ ap (filter keeps) (sym (present-append (rows_in held run) (rows_in held places)) ∙ ap (λ (l : Held A). present l) (sym (map-append (λ i. slice_index_or held i None) run places)))

  all_runs : (marks : List Bool) → length marks ≡ length held → present (map (row_at held) (selected marks (column c held))) ≡ filter keeps (present held)
  all_runs marks e =
      let many : length (column c held) ≡ length held = length-map held (at c) in
      let places = range_with_len 0 (length (column c held)) in
      each_run (runs marks places)
      ∙ ap (λ (is : List ℕ). filter keeps (present (rows_in held is))) (runs_joined marks places (e ∙ sym many ∙ sym (length-range_with_len 0 (length (column c held)))))
      ∙ ap (λ (n : ℕ). filter keeps (present (rows_in held (range_with_len 0 n)))) many
      ∙ ap (λ (l : Held A). filter keeps (present l)) (all_rows held)

pub select_law : {A : Type 0} → SelectLaw A
select_law c held marks e =
    let places = selected marks (column c held) in
    let many : length (column c held) ≡ length held = length-map held (at c) in
    record {
      kept = map (row_at held) places;
      is = record {
        len = length-map places (row_at held) ∙ selected_long marks (column c held) (e ∙ sym many) ∙ many;
        rows = all_runs c held marks e;
        moves = λ f. moved f held places;
      };
    }

-- All statements of some steps: they make what the last step makes, or are Over where some step is at some place.
use Rattle.std.proofs.Common.{◌≡◌, ℕ, ◌+◌, ◌-◌, ◌<◌, ◌≤◌, ◌^◌, true, List, [], ◌∷◌, length, map, refl, sym, ap, ◌∙◌, subst, arith, Some, None, Result, Ok, Err}
use Rattle.std.specs.List.{range_with_len}
use Rattle.control_vectors.specs.Slots.{Slot, Cell, over, cells_of, has_over, all_slots}
use Rattle.control_vectors.specs.declared.Over.{Over}
use Rattle.control_vectors.proofs.SlotLaws.{all_slots-cells_of}
use Rattle.programs.specs.declared.op.Statement.{Statement}
use Rattle.programs.specs.Mentions.{Label}
use Rattle.programs.specs.Vectors.{Vector, Env, column, column_of, put}
use Rattle.voodoo_ops.specs.Meaning.{Run, after_effect, then_run, run_from}
use Rattle.voodoo_ops.proofs.Compositions.{put_other}
use Rattle.expr_steps.specs.declared.steps.Step.{Step}
use Rattle.expr_lower.specs.Statements.{out, name_of, statements_from}
use Rattle.expr_values.specs.Places.{step_cell, with_cell, made_by, last_cell}
use Rattle.expr_scopes.specs.Scopes.{Names, AreScoped}
use Rattle.program_writers.specs.Names.{is_word, IsBelow}
use Rattle.program_writers.specs.Writers.{numbered as part_name}
use Rattle.expr_programs.specs.Values.{Base, site_of, place_of}
use Rattle.expr_programs.proofs.Naming.{name_has, not_below}
use Rattle.expr_programs.proofs.Cells.{pick, map_places, some_over, over_all, over_more, slot_there}
use Rattle.expr_programs.proofs.Running.{AreMade, cells_at, step_effect, with_slots, next_made}

-- ---- where statements land

-- the last vector has these slots, and what is below was left
pub record Landed (b : Base) (stem : Label) (k last : ℕ) (v : Vector) (env : Env) (slots : List Slot) (run : Run) : Type 0 where
  pub after : Env
  pub ran : run ≡ Ok after
  pub value : after (name_of stem last last) ≡ Some (column out v.len slots)
  pub kept : (name : Label) → IsBelow k name → after name ≡ env name

abbrev pub Lands : Base → Label → ℕ → ℕ → Vector → Env → Result (List Slot) Over → Run → Type 0
Lands b stem k last v env (Ok slots) run = Landed b stem k last v env slots run
Lands b stem k last v env (Err e) run = run ≡ Err over

carried : (b : Base) (stem : Label) (k last : ℕ) (v : Vector) (before env : Env) (r : Result (List Slot) Over) (first run : Run) → first ≡ run → ((name : Label) → IsBelow k name → env name ≡ before name) → Lands b stem k last v env r run → Lands b stem k last v before r first
carried b stem k last v before env (Ok slots) first run e kept h = record { after = h.after; ran = e ∙ h.ran; value = h.value; kept = λ name below. h.kept name below ∙ kept name below }
carried b stem k last v before env (Err o) first run e kept h = e ∙ h

-- ---- the last cells

-- what the last of some more steps makes, behind those made
abbrev pub rest_cell : Base → Vector → List Step → (ℕ → List Slot) → ℕ → Cell
rest_cell b v steps made i = last_cell (made_by (place_of b v i) steps (made i))

abbrev pub rest_cells : Base → Vector → List Step → (ℕ → List Slot) → Result (List Slot) Over
rest_cells b v steps made = all_slots (map (rest_cell b v steps made) (range_with_len 0 v.len))

cells_map : (f : ℕ → Slot) (places : List ℕ) → map (λ i. Ok (f i)) places ≡ cells_of (map f places)
cells_map f [] = refl
cells_map f (i ∷ places) = ap (λ (cells : List Cell). Ok (f i) ∷ cells) (cells_map f places)

none_left : (b : Base) (v : Vector) (made : ℕ → List Slot) (last : ℕ) → ((i : ℕ) → length (made i) ≡ last + 1) → rest_cells b v [] made ≡ Ok (map (λ i. pick (made i) last) (range_with_len 0 v.len))
none_left b v made last long =
    let slots = map (λ i. pick (made i) last) (range_with_len 0 v.len) in
    let each : (i : ℕ) → i < v.len → rest_cell b v [] made i ≡ Ok (pick (made i) last) = λ i h. let n = long i in let at : length (made i) - 1 ≡ last = omega (arith, n) in ap (λ (m : ℕ). Ok (pick (made i) m)) at in
    ap all_slots (map_places (rest_cell b v [] made) (λ i. Ok (pick (made i) last)) v.len (Ok None) each ∙ cells_map (λ i. pick (made i) last) (range_with_len 0 v.len))
    ∙ all_slots-cells_of slots

one_more : (b : Base) (v : Vector) (step : Step) (steps : List Step) (made : ℕ → List Slot) (xs : List Slot) → all_slots (cells_at b v made step) ≡ Ok xs → rest_cells b v (step ∷ steps) made ≡ rest_cells b v steps (with_slots made xs)
one_more b v step steps made xs e =
    ap all_slots
    (map_places (rest_cell b v (step ∷ steps) made) (rest_cell b v steps (with_slots made xs)) v.len (Ok None)
    (λ i h. ap (λ (c : Cell). last_cell (with_cell (made i) c (made_by (place_of b v i) steps))) (slot_there (λ q. step_cell (place_of b v q) (made q) step) v.len i xs e h)))

over_here : (b : Base) (v : Vector) (step : Step) (steps : List Step) (made : ℕ → List Slot) → has_over (cells_at b v made step) ≡ true → rest_cells b v (step ∷ steps) made ≡ Err over
over_here b v step steps made h =
    over_all (map (rest_cell b v (step ∷ steps) made) (range_with_len 0 v.len))
    (over_more (λ i. step_cell (place_of b v i) (made i) step) (rest_cell b v (step ∷ steps) made) (range_with_len 0 v.len) (λ i e is. ap (λ (c : Cell). last_cell (with_cell (made i) c (made_by (place_of b v i) steps))) is) h)

-- ---- all of them

pub all_run : (store : Env) (names : Names) (b : Base) (word : Label) (k last : ℕ) (v : Vector) (steps : List Step) (j : ℕ) (made : ℕ → List Slot) (env : Env) → is_word word ≡ true → IsBelow k b.vector → last < 2 ^ 64 → j + length steps ≡ last + 1 → AreScoped names j steps → AreMade b (part_name word k) last j v made env
    → Lands b (part_name word k) k last v env (rest_cells b v steps made) (run_from store (statements_from (site_of b (part_name word k)) last j steps) env)
all_run store names b word k last v [] j made env w low few n scoped r =
    let stem = part_name word k in
    let e : j ≡ last + 1 = omega (arith, n) in
    subst (λ (q : Result (List Slot) Over). Lands b stem k last v env q (Ok env)) (sym (none_left b v made last (λ i. r.long i ∙ e)))
    (record { after = env; ran = refl; value = r.each last (omega (arith, e)); kept = λ name below. refl })
all_run store names b word k last v (step ∷ steps) j made env w low few n scoped r = by (all_slots (cells_at b v made step)) refl (λ made next h. all_run store names b word k last v steps (j + 1) made next w low few (omega (arith, n)) scoped.1 h)
  where
    stem : Label
    stem = part_name word k

    name : Label
    name = name_of stem last j

    more : List Statement
    more = statements_from (site_of b stem) last (j + 1) steps

    l : j ≤ last
    l = omega (arith, n)

    runs : (q : Result (List Slot) Over) → all_slots (cells_at b v made step) ≡ q → run_from store (statements_from (site_of b stem) last j (step ∷ steps)) env ≡ then_run (after_effect env name (Some (column_of out v.len q))) (run_from store more)
    runs q e = ap (λ o. then_run (after_effect env name o) (run_from store more)) (step_effect store env names b stem last j v made step r l scoped.0 ∙ ap (λ (c : Result (List Slot) Over). Some (column_of out v.len c)) e)

    by : (q : Result (List Slot) Over) → all_slots (cells_at b v made step) ≡ q → ((made : ℕ → List Slot) (next : Env) → AreMade b stem last (j + 1) v made next → Lands b stem k last v next (rest_cells b v steps made) (run_from store more next))
        → Lands b stem k last v env (rest_cells b v (step ∷ steps) made) (run_from store (statements_from (site_of b stem) last j (step ∷ steps)) env)
    by (Err o) e rest =
        let some = some_over (cells_at b v made step) o e in
        subst (λ (q : Result (List Slot) Over). Lands b stem k last v env q (run_from store (statements_from (site_of b stem) last j (step ∷ steps)) env)) (sym (over_here b v step steps made some)) (runs (Err over) (over_all (cells_at b v made step) some))
    by (Ok xs) e rest =
        let next = put env name (column out v.len xs) in
        subst (λ (q : Result (List Slot) Over). Lands b stem k last v env q (run_from store (statements_from (site_of b stem) last j (step ∷ steps)) env)) (sym (one_more b v step steps made xs e))
        (carried b stem k last v env next (rest_cells b v steps (with_slots made xs)) (run_from store (statements_from (site_of b stem) last j (step ∷ steps)) env) (run_from store more next) (runs (Ok xs) e)
        (λ m below. put_other env name m (column out v.len xs) (not_below k name m (name_has word k last j w) below))
        (rest (with_slots made xs) next (next_made b word k last j v made env (λ i. step_cell (place_of b v i) (made i) step) xs w low l few e r)))

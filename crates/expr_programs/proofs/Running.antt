-- Statements of steps run one by one: each makes, at each place, what its step makes there.
use Rattle.std.proofs.Common.{◌≡◌, ℕ, ◌+◌, ◌<◌, ◌≤◌, ◌^◌, ◌⊎◌, inl, inr, true, false, List, [], ◌∷◌, ◌++◌, length, length-append, map, refl, sym, ap, ◌∙◌, subst, arith, Option, Some, None, Ok}
use Rattle.std.specs.List.{range_with_len}
use Rattle.std.specs.Str.{bytes_eq}
use Rattle.std.proofs.Math.ListN.{get_or-append}
use Rattle.std.proofs.lemmas.Bool.{cases_lt}
use Rattle.std.proofs.Math.Seq.{get_or-append_seam}
use Rattle.control_vectors.specs.Slots.{Slot, Cell, all_slots}
use Rattle.programs.specs.declared.op.Operand.{Operand}
use Rattle.programs.specs.declared.op.Operand.TheVariants as operand
use Rattle.programs.specs.Families.{pair_of}
use Rattle.programs.specs.Mentions.{Label}
use Rattle.programs.specs.Vectors.{Vector, Env, column, column_of, known, put, slot_at}
use Rattle.slot_wise.specs.Pairs.{pair_slot}
use Rattle.voodoo_ops.specs.Slotwise.{operand_at, pair_len}
use Rattle.voodoo_ops.specs.Meaning.{effect_by, effect, step}
use Rattle.voodoo_ops.proofs.Compositions.{put_other, put_same}
use Rattle.expr_steps.specs.declared.steps.Source.{Source}
use Rattle.expr_steps.specs.declared.steps.Source.TheVariants as at
use Rattle.expr_steps.specs.declared.steps.Step.{Step}
use Rattle.expr_lower.specs.Statements.{out, numbered, column_path, aggregate_path, name_of, operand_of, args_of}
use Rattle.expr_values.specs.Places.{slot_from, step_cell}
use Rattle.expr_scopes.specs.Scopes.{Names, IsBefore, IsScoped}
use Rattle.writer_checks.proofs.Operators.{pair_family}
use Rattle.writer_checks.proofs.Outlined.{same_name}
use Rattle.expr_programs.specs.Values.{Base, site_of, place_of}
use Rattle.expr_programs.proofs.Cells.{pick, map_places, picked, slots_by_place}
use Rattle.expr_programs.proofs.Naming.{name_has, not_below, named_step, later_differs}
use Rattle.expr_programs.proofs.Checked.{operands_long}
use Rattle.program_writers.specs.Names.{is_word, IsBelow}
use Rattle.program_writers.specs.Statements.{mark}
use Rattle.program_writers.specs.Writers.{numbered as part_name}
use Rattle.writer_checks.specs.Laws.{HasLength}

-- what the steps before number j made, at each place: their slots, which the vectors hold
pub record AreMade (b : Base) (stem : Label) (last j : ℕ) (v : Vector) (made : ℕ → List Slot) (env : Env) : Type 0 where
  pub base : env b.vector ≡ Some v
  pub long : (i : ℕ) → length (made i) ≡ j
  pub each : (m : ℕ) → m < j → env (name_of stem last m) ≡ Some (column out v.len (map (λ i. pick (made i) m) (range_with_len 0 v.len)))

-- ---- operands

seen_slot : (o : Option Vector) (v : Vector) (p : Label) (i : ℕ) → o ≡ Some v → slot_at (known o) p i ≡ slot_at v p i
seen_slot o v p i e = ap (λ (w : Option Vector). slot_at (known w) p i) e

seen_len : (o : Option Vector) (v : Vector) → o ≡ Some v → (known o).len ≡ v.len
seen_len o v e = ap (λ (w : Option Vector). (known w).len) e

made_vector : (b : Base) (stem : Label) (last j : ℕ) (v : Vector) (made : ℕ → List Slot) (env : Env) → AreMade b stem last j v made env → j ≤ last → (m : ℕ) → m < j → env (numbered stem m) ≡ Some (column out v.len (map (λ i. pick (made i) m) (range_with_len 0 v.len)))
made_vector b stem last j v made env r l m h = subst (λ (n : Label). env n ≡ Some (column out v.len (map (λ i. pick (made i) m) (range_with_len 0 v.len)))) (named_step stem last m (omega (arith, h, l))) (r.each m h)

-- the slot of a vector of one attribute
column_slot : (n : ℕ) (xs : List Slot) (i : ℕ) → slot_at (column out n xs) out i ≡ pick xs i
column_slot n xs i = refl

operand_slot : (names : Names) (b : Base) (stem : Label) (last j : ℕ) (v : Vector) (made : ℕ → List Slot) (env : Env) (x : Source) (i : ℕ) → AreMade b stem last j v made env → j ≤ last → IsBefore names j x → i < v.len → operand_at env (operand_of (site_of b stem) x) i ≡ slot_from (place_of b v i) (made i) x
operand_slot names b stem last j v made env at.Mark i r l h n = seen_slot (env b.vector) v mark i r.base
operand_slot names b stem last j v made env (at.Column c) i r l h n = seen_slot (env b.vector) v (column_path b.columns c) i r.base
operand_slot names b stem last j v made env (at.Aggregate a) i r l h n = seen_slot (env b.vector) v (aggregate_path b.aggregates a) i r.base
operand_slot names b stem last j v made env (at.Made m) i r l h n =
    let xs = map (λ q. pick (made q) m) (range_with_len 0 v.len) in
    seen_slot (env (numbered stem m)) (column out v.len xs) out i (made_vector b stem last j v made env r l m h)
    ∙ column_slot v.len xs i ∙ picked (λ q. pick (made q) m) v.len i n
operand_slot names b stem last j v made env (at.Number z) i r l h n = refl

-- ---- lengths

-- the vector of an operand, where it has one, is this long
abbrev pub IsLong : Env → ℕ → Operand → Type 0
IsLong env n (operand.Column a p) = (known (env a)).len ≡ n
IsLong env n (operand.Number z) = Unit {0}

pair_long : (env : Env) (n : ℕ) (x y : Operand) → IsLong env n x → IsLong env n y → HasLength x y → pair_len env x y ≡ n
pair_long env n (operand.Column a p) (operand.Column c q) h g l = omega (arith, h, g)
pair_long env n (operand.Column a p) (operand.Number z) h g l = h
pair_long env n (operand.Number z) (operand.Column c q) h g l = g
pair_long env n (operand.Number z) (operand.Number w) h g l = absurd l

operand_long : (names : Names) (b : Base) (stem : Label) (last j : ℕ) (v : Vector) (made : ℕ → List Slot) (env : Env) (x : Source) → AreMade b stem last j v made env → j ≤ last → IsBefore names j x → IsLong env v.len (operand_of (site_of b stem) x)
operand_long names b stem last j v made env at.Mark r l h = seen_len (env b.vector) v r.base
operand_long names b stem last j v made env (at.Column c) r l h = seen_len (env b.vector) v r.base
operand_long names b stem last j v made env (at.Aggregate a) r l h = seen_len (env b.vector) v r.base
operand_long names b stem last j v made env (at.Made m) r l h = seen_len (env (numbered stem m)) (column out v.len (map (λ q. pick (made q) m) (range_with_len 0 v.len))) (made_vector b stem last j v made env r l m h)
operand_long names b stem last j v made env (at.Number z) r l h = tt

-- ---- one step

-- what a step makes at each place
abbrev pub cells_at : Base → Vector → (ℕ → List Slot) → Step → List Cell
cells_at b v made step = map (λ i. step_cell (place_of b v i) (made i) step) (range_with_len 0 v.len)

pub step_effect : (store env : Env) (names : Names) (b : Base) (stem : Label) (last j : ℕ) (v : Vector) (made : ℕ → List Slot) (step : Step) → AreMade b stem last j v made env → j ≤ last → IsScoped names j step → effect store env (pair_of step.kind (args_of (site_of b stem) step)) ≡ Some (column_of out v.len (all_slots (cells_at b v made step)))
step_effect store env names b stem last j v made step r l h =
    let s = site_of b stem in
    let x = operand_of s step.x in
    let y = operand_of s step.y in
    let long : pair_len env x y ≡ v.len = pair_long env v.len x y (operand_long names b stem last j v made env step.x r l h.x) (operand_long names b stem last j v made env step.y r l h.y) (operands_long s step.x step.y h.source) in
    let cells : map (λ i. pair_slot step.kind (operand_at env x i) (operand_at env y i)) (range_with_len 0 v.len) ≡ cells_at b v made step =
    map_places (λ i. pair_slot step.kind (operand_at env x i) (operand_at env y i)) (λ i. step_cell (place_of b v i) (made i) step) v.len (Ok None)
    (λ i n. ap (λ (c : Slot). pair_slot step.kind c (operand_at env y i)) (operand_slot names b stem last j v made env step.x i r l h.x n) ∙ ap (λ (c : Slot). pair_slot step.kind (slot_from (place_of b v i) (made i) step.x) c) (operand_slot names b stem last j v made env step.y i r l h.y n)) in
    ap (effect_by store env) (pair_family step.kind (args_of s step))
    ∙ ap (λ (n : ℕ). Some (column_of out n (all_slots (map (λ i. pair_slot step.kind (operand_at env x i) (operand_at env y i)) (range_with_len 0 n))))) long
    ∙ ap (λ (c : List Cell). Some (column_of out v.len (all_slots c))) cells

-- ---- one step more

abbrev pub with_slots : (ℕ → List Slot) → List Slot → ℕ → List Slot
with_slots made xs i = made i ++ pick xs i ∷ []

pub next_made : (b : Base) (word : Label) (k last j : ℕ) (v : Vector) (made : ℕ → List Slot) (env : Env) (f : ℕ → Cell) (xs : List Slot) → is_word word ≡ true → IsBelow k b.vector → j ≤ last → last < 2 ^ 64 → all_slots (map f (range_with_len 0 v.len)) ≡ Ok xs → AreMade b (part_name word k) last j v made env
    → AreMade b (part_name word k) last (j + 1) v (with_slots made xs) (put env (name_of (part_name word k) last j) (column out v.len xs))
next_made b word k last j v made env f xs w low l few all r = record {
  base = put_other env name b.vector (column out v.len xs) (not_below k name b.vector (name_has word k last j w) low) ∙ r.base;
  long = λ i. length-append (made i) (pick xs i ∷ []) ∙ ap (λ (n : ℕ). n + 1) (r.long i);
  each = λ m h. by m (cases_lt m j) h;
}
  where
    stem : Label
    stem = part_name word k

    name : Label
    name = name_of stem last j

    earlier : (m i : ℕ) → m < j → pick (made i) m ≡ pick (with_slots made xs i) m
    earlier m i h = let n = r.long i in sym (get_or-append (made i) (pick xs i ∷ []) None m (omega (arith, h, n)))

    newest : (i : ℕ) → pick xs i ≡ pick (with_slots made xs i) j
    newest i = sym (get_or-append_seam (made i) (pick xs i) [] None) ∙ ap (λ (n : ℕ). pick (with_slots made xs i) n) (r.long i)

    by : (m : ℕ) → (m < j) ⊎ (j ≤ m) → m < j + 1 → put env name (column out v.len xs) (name_of stem last m) ≡ Some (column out v.len (map (λ i. pick (with_slots made xs i) m) (range_with_len 0 v.len)))
    by m (inl less) h =
        put_other env name (name_of stem last m) (column out v.len xs) (subst (λ (n : Label). bytes_eq name n ≡ false) (sym (named_step stem last m (omega (arith, less, l)))) (later_differs stem last m j less l few))
        ∙ r.each m less
        ∙ ap (λ (c : List Slot). Some (column out v.len c)) (map_places (λ i. pick (made i) m) (λ i. pick (with_slots made xs i) m) v.len None (λ i n. earlier m i less))
    by m (inr more) h =
        let same : j ≡ m = omega (arith, more, h) in
        subst (λ (q : ℕ). put env name (column out v.len xs) (name_of stem last q) ≡ Some (column out v.len (map (λ i. pick (with_slots made xs i) q) (range_with_len 0 v.len)))) same
        (put_same env name name (column out v.len xs) (same_name name)
        ∙ ap (λ (c : List Slot). Some (column out v.len c)) (slots_by_place f v.len xs all ∙ map_places (pick xs) (λ i. pick (with_slots made xs i) j) v.len None (λ i n. newest i)))

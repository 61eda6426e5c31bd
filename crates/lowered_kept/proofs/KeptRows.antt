-- The rows for which each of some conditions is true stand at a base, or both are Over.
use Rattle.std.proofs.Common.{◌≡◌, ℕ, true, List, [], ◌∷◌, length, refl, sym, ap, subst, filter, Option, Result, Ok}
use Rattle.std.specs.Prelude.{slice_index_or}
use Rattle.std.specs.List.{All}
use Rattle.control_vectors.specs.Controls.{Control}
use Rattle.control_vectors.specs.declared.Over.{Over}
use Rattle.programs.specs.Vectors.{Env}
use Rattle.slot_folds.specs.Folds.{holds}
use Rattle.typed_trees.specs.declared.kinds.Kind.{Kind}
use Rattle.typed_trees.specs.declared.kinds.Kind.TheVariants.{Number, Date, Text, Truth}
use Rattle.typed_trees.specs.declared.typed.TypedExpr.{TypedExpr}
use Rattle.typed_trees.specs.Kinds.{is_truth}
use Rattle.typed_trees.specs.Typed.{IsCondition}
use Rattle.typed_trees.specs.Types.{DataType}
use Rattle.typed_values.specs.Values.{On, value}
use Rattle.value_laws.specs.Laws.{IsOf, KindLaw}
use Rattle.query_answers.specs.Answers.{condition}
use Rattle.query_answers.specs.Overs.{kept}
use Rattle.expr_steps.specs.Lowered.{Bytes}
use Rattle.held_rows.specs.Held.{Held, present}
use Rattle.held_values.specs.Truths.{truths_told, AreTruths, all_evaluated}
use Rattle.held_values.proofs.Truths.{truth_laws}
use Rattle.program_writers.specs.Names.{IsBelow}
use Rattle.program_writers.specs.Writers.{◌>>=◌, tell, through}
use Rattle.program_writers.proofs.Numbers.{below_more}
use Rattle.plan_programs.specs.Sites.{Base}
use Rattle.plan_programs.specs.Rows.{everywhere, and_true, selected}
use Rattle.plan_programs.specs.Rows as lowered
use Rattle.writer_runs.specs.Runs.{Delivers}
use Rattle.writer_runs.proofs.Composed.{makes_tell}
use Rattle.lowered_stages.specs.Stages.{StandsAt, Stands}
use Rattle.lowered_stages.specs.Parts.{CanValue, CanValueAll, SamePlaces}
use Rattle.lowered_kept.specs.Values.{ValueRuns}
use Rattle.lowered_kept.specs.Kept.{ConditionsRun}
use Rattle.lowered_kept.proofs.Bound.{bound}
use Rattle.lowered_kept.proofs.Delivering.{makes_delivers, delivers_bind}
use Rattle.lowered_kept.proofs.Truths.{IsTruth, stands_still, everywhere_makes, truths_deliver}
use Rattle.lowered_kept.proofs.Selected.{selected_makes}

-- ---- conditions have truths

truth_alone : (k : Kind) → is_truth k ≡ true → k ≡ Truth
truth_alone Truth h = refl
truth_alone Number h = absurd cc
truth_alone Date h = absurd cc
truth_alone Text h = absurd cc

are_truths : {A : Type 0} → KindLaw → (texts : List Bytes) (at : ℕ → Option DataType) (on : A → On) (rows : List A) (es : List TypedExpr) → All (IsCondition at) es → All (CanValueAll texts at on rows) es → All (λ a. AreTruths es (on a)) rows
are_truths kinds texts at on rows es conditions stand i a here j e there =
    let x = slice_index_or es j e in
    let o = on (slice_index_or rows i a) in
    let c = conditions j e there in
    subst (λ (k : Kind). IsOf k (value o x)) (truth_alone c.type.kind c.kind) (kinds at o x c.type c.is (stand j e there i a here).types)

-- ---- no condition keeps all rows

all_hold : {A : Type 0} (texts : List Bytes) (on : A → On) (rows : List A) → filter (λ a. holds (truths_told texts on [] a)) rows ≡ rows
all_hold texts on [] = refl
all_hold {A} texts on (a ∷ rows) = ap (λ (l : List A). a ∷ l) (all_hold texts on rows)

module _ {A : Type 0} (texts : List Bytes) (at : ℕ → Option DataType) (on : A → On) (held : Held A) (b : Base) (values : ValueRuns) (store env : Env) (select : Control) (k len : ℕ) (many : length held ≡ len) (below : IsBelow k b.vector) (st : StandsAt texts env b on held) where
  -- the rows that are left, at another base
  abbrev StandLeft : List A → Base → ℕ → Env → Type 0
  StandLeft left c next after = Stands texts c on len left after × (IsBelow next c.vector × SamePlaces b c)

  abbrev left_by : List TypedExpr → Result (List A) Over
  left_by es = bound (all_evaluated on es (present held)) (λ u. Ok (filter (λ a. holds (truths_told texts on es a)) (present held)))

  all_left : Delivers store (tell b) k env (left_by []) StandLeft
  all_left =
      subst (λ (l : List A). Delivers store (tell b) k env (Ok l) StandLeft) (sym (all_hold texts on (present held)))
      (makes_tell Base store b k env (StandLeft (present held)) (record { held = held; places = many; rows_are = refl; at = st }, (below, record { columns = refl; aggregates = refl })))

  some_left : (e : TypedExpr) (es : List TypedExpr) → All (CanValue at b) (e ∷ es) → All (CanValueAll texts at on (present held)) (e ∷ es) → Delivers store (lowered.kept select texts b (e ∷ es)) k env (left_by (e ∷ es)) StandLeft
  some_left e es cans stand =
      let parts = e ∷ es in
      let f = truths_told texts on parts in
      let rows = filter (λ a. holds (f a)) (present held) in
      makes_delivers store (everywhere b) (λ all. through (and_true texts b) all parts >>= λ truth. selected select b truth) k env (IsTruth texts on held b []) (left_by parts) StandLeft
      (everywhere_makes texts on held b store env k st)
      (λ all n between up none kept.
      delivers_bind store (through (and_true texts b) all parts) (selected select b) n between (all_evaluated on parts (present held)) (λ u. Ok rows) (λ u. IsTruth texts on held b parts) StandLeft
      (truths_deliver texts on held b values at store parts [] all n between cans stand (below_more k n b.vector up below) (stands_still texts on held b k env between kept below st) none)
      (λ u truth m after more made still.
      let here = below_more k n b.vector up below in
      selected_makes texts on held b f store select truth m after len many (below_more n m b.vector more here)
      (stands_still texts on held b n between after still here (stands_still texts on held b k env between kept below st)) made.0 made.1))

  by_parts : (es : List TypedExpr) → All (CanValue at b) es → All (CanValueAll texts at on (present held)) es → Delivers store (lowered.kept select texts b es) k env (left_by es) StandLeft
  by_parts [] cans stand = all_left
  by_parts (e ∷ es) cans stand = some_left e es cans stand

  pub held_left : KindLaw → (es : List TypedExpr) → All (IsCondition at) es → All (CanValue at b) es → All (CanValueAll texts at on (present held)) es
      → Delivers store (lowered.kept select texts b es) k env (kept (λ a. condition es (on a)) (present held)) StandLeft
  held_left kinds es conditions cans stand =
      subst (λ (r : Result (List A) Over). Delivers store (lowered.kept select texts b es) k env r StandLeft)
      (sym (truth_laws.kept_rows texts on es (present held) (are_truths kinds texts at on (present held) es conditions stand))) (by_parts es cans stand)

pub conditions_run : KindLaw → ValueRuns → ConditionsRun
conditions_run kinds values A select texts at on len rows b es k store env conditions cans stand below st =
    subst (λ (l : List A). Delivers store (lowered.kept select texts b es) k env (kept (λ a. condition es (on a)) l) (λ left c next after. Stands texts c on len left after × (IsBelow next c.vector × SamePlaces b c))) st.rows_are
    (held_left texts at on st.held b values store env select k len st.places below st.at kinds es conditions cans (subst (λ (l : List A). All (CanValueAll texts at on l) es) (sym st.rows_are) stand))

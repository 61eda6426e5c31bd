-- One group of all rows.
use Rattle.std.proofs.Common.{◌≡◌, ◌∙◌, ℕ, zero, suc, ◌*◌, ◌+◌, ◌≤◌, pos, true, List, [], ◌∷◌, length, map, replicate, refl, sym, ap, subst, arith, Option, Some, None, Ok, codes}
use Rattle.std.specs.List.{All, range_with_len}
use Rattle.std.proofs.lemmas.List.{nil_from_length}
use Rattle.std.proofs.lemmas.List.Elements.{All-nil, All-head}
use Rattle.control_vectors.specs.Controls.{control_at}
use Rattle.control_vectors.specs.Runs as tuples
use Rattle.control_vectors.specs.Runs.{side_by_side}
use Rattle.control_vectors.specs.Slots.{Slot}
use Rattle.control_vectors.specs.declared.PairKind.TheVariants as pair
use Rattle.slot_folds.specs.Folds.{folded}
use Rattle.programs.specs.Mentions.{Label}
use Rattle.programs.specs.Vectors.{Vector, Env, slots_of}
use Rattle.programs.specs.Vectors as vectors
use Rattle.voodoo_ops.specs.Ranges.{ranged}
use Rattle.voodoo_ops.specs.Runs.{run_marks}
use Rattle.typed_trees.specs.Names.{same_column}
use Rattle.std.specs.List.{list_any}
use Rattle.query_answers.specs.Answers.{FromRow, Group, on_row}
use Rattle.query_answers.specs.Clauses.{Clauses}
use Rattle.expr_lower.specs.declared.places.ColumnPlace.{ColumnPlace}
use Rattle.expr_steps.specs.Lowered.{Bytes}
use Rattle.held_groups.specs.Heads.{zero_of}
use Rattle.held_rows.specs.Held.{Held, Holds, present, at, column, one}
use Rattle.held_rows.specs.Laws.{both_at}
use Rattle.held_rows.specs.Vectors.{Tells}
use Rattle.held_rows.proofs.Upserted.{range_holds}
use Rattle.held_runs.proofs.Whole.{whole_fold_law}
use Rattle.program_writers.specs.Names.{IsBelow}
use Rattle.program_writers.specs.Statements.{out, mark, run, zeros, ones}
use Rattle.program_writers.specs.Writers.{tell, ◌>>=◌}
use Rattle.program_writers.proofs.Numbers.{below_more}
use Rattle.plan_programs.specs.Groups.{Folding, nought_at, one_place, one_run, as_one}
use Rattle.plan_programs.specs.Sites.{Base, marked_alone}
use Rattle.writer_runs.specs.Runs.{Makes}
use Rattle.writer_runs.proofs.Composed.{makes_tell, makes_bind}
use Rattle.lowered_stages.specs.Stages.{StandsAt}
use Rattle.lowered_stages.specs.Parts.{SamePlaces}
use Rattle.lowered_groups.proofs.Bases.{IsGroups}
use Rattle.lowered_groups.proofs.Columns.{mark_slots}
use Rattle.lowered_groups.proofs.Folds.{Gives, gives_column, gives_later, tells_of, pair_makes, zero_row, IsFolding, stands_later}
use Rattle.lowered_groups.proofs.Parts.{Has, Kept, NowHas, has_later, makes_range, makes_range_of}
use Rattle.lowered_groups.proofs.Values.{Regroups}

-- ---- 0 where something stands

pub nought_makes : {A : Type 0} (store : Env) (k : ℕ) (env : Env) (name : Label) (v : Vector) (held : Held A) → Has k env name v → v.len ≡ length held → slots_of v.attributes mark ≡ column one held
    → Makes store (nought_at name) k env (NowHas (vectors.column out (length held) (column (λ a. Some (pos 0)) held)))
nought_makes {A} store k env name v held h len slots =
    pair_makes store (codes "nought") k env pair.Greater name mark name mark held one one (λ a. Some (pos 0)) refl tells tells none
  where
    tells : Tells env name mark one held
    tells = tells_of k env held name mark v one h len slots

    none : (r : Option A) → both_at pair.Greater one one r ≡ Ok (at (λ a. Some (pos 0)) r)
    none None = refl
    none (Some a) = refl

-- what a folding promises: its rows and groups, and that the rows stand at the base's places
pub record Folds (texts : List Bytes) (q : Clauses) (b : Base) (rows : Held FromRow) (gs : Held Group) (f : Folding) (next : ℕ) (after : Env) : Type 0 where
  pub folding : IsFolding texts next after f rows gs
  pub groups : IsGroups texts q next after gs f.groups 0
  pub places : SamePlaces b f.rows

-- ---- one run

zero_at : (i : ℕ) → control_at zeros i ≡ pos 0
zero_at i = let none : i * 0 ≡ 0 = omega arith in rw none refl

zeros_are : (a k : ℕ) → map (λ x. Some x) (map (control_at zeros) (range_with_len a k)) ≡ replicate k (Some (pos 0))
zeros_are a zero = refl
zeros_are a (suc k) =
    let first = zero_at a in
    let others = zeros_are (a + 1) k in
    λ t. Some (first t) ∷ others t

whole_marks : (n : ℕ) → run_marks (ranged n run zeros) run ≡ tuples.run_marks (side_by_side n (replicate n (Some (pos 0)) ∷ []))
whole_marks n = ap (λ (l : List Slot). tuples.run_marks (side_by_side n (l ∷ []))) (zeros_are 0 n)

-- ---- the parts

module _ (store : Env) (texts : List Bytes) (q : Clauses) (b : Base) (held : Held FromRow) (no_columns : q.groups ≡ []) where
  abbrev pub one_group : Held Group
  one_group = Some (record { key = []; rows = present held }) ∷ []

  pub one_regroups : Regroups [] (present held) held one_group
  one_regroups = record { groups = refl; within = λ row m. m; covers = λ row m. m; overs = λ f. refl }

  empty_rows : length held ≡ 0 → present held ≡ []
  empty_rows n = ap present (nil_from_length held n)

  one_is : (next : ℕ) (after : Env) (nought runs first groups zero : Label) → StandsAt texts after b on_row held → IsBelow next b.vector
      → Gives next after held nought zero_row → Has next after runs (ranged (length held) run zeros) → Has next after first (ranged 1 out zeros) → Has next after groups (ranged 1 mark ones) → Gives next after one_group zero zero_of
      → Folds texts q b held one_group (record { rows = b; nought = nought; runs = runs; first = Some first; groups = marked_alone groups; zero = zero }) next after
  one_is next after nought runs first groups naught stands below none runs_has first_has groups_has zero_gives = record {
    folding = record {
      stands = stands;
      rows_below = below;
      nought = none;
      runs = ranged (length held) run zeros;
      runs_has = runs_has;
      runs_len = refl;
      zero = zero_gives;
      folds = record {
        group = record { key = []; rows = present held };
        alone = refl;
        none = empty_rows;
        first_is = first_has;
        cells_are = λ kind g. ap (λ marks. folded kind marks (column g held)) (whole_marks (length held)) ∙ whole_fold_law FromRow kind g (Some (pos 0)) held;
      };
    };
    groups = record {
      stands = record { vector = ranged 1 mark ones; sees = groups_has.sees; holds = range_holds (record { key = []; rows = present held } ∷ []) mark };
      below = groups_has.below;
      keys = All-nil _;
      numbers = All-nil _;
      found = λ m less. absurd (omega (arith, less));
      columns = subst (All (λ g. list_any {X = ColumnPlace} (λ p. same_column p.column g) [] ≡ true)) (sym no_columns) (All-nil _);
    };
    places = record { columns = refl; aggregates = refl };
  }

  abbrev FoldsNow : Folding → ℕ → Env → Type 0
  FoldsNow f next after = Folds texts q b held one_group f next after

  -- the groups' vector is there, and all before it
  behind_groups : (k : ℕ) (env : Env) (nought runs first groups : Label) → StandsAt texts env b on_row held → IsBelow k b.vector
      → Gives k env held nought zero_row → Has k env runs (ranged (length held) run zeros) → Has k env first (ranged 1 out zeros) → Has k env groups (ranged 1 mark ones)
      → Makes store (nought_at groups >>= λ zero. tell (record { rows = b; nought = nought; runs = runs; first = Some first; groups = marked_alone groups; zero = zero })) k env FoldsNow
  behind_groups k env nought runs first groups stands below none r f g =
      let holds = range_holds (record { key = []; rows = present held } ∷ []) mark in
      makes_bind Label Folding store (nought_at groups) (λ zero. tell (record { rows = b; nought = nought; runs = runs; first = Some first; groups = marked_alone groups; zero = zero })) k env
      (NowHas (vectors.column out 1 (column zero_of one_group))) FoldsNow
      (nought_makes store k env groups (ranged 1 mark ones) one_group g refl (holds_mark holds))
      (λ zero next between more has kept.
      makes_tell Folding store (record { rows = b; nought = nought; runs = runs; first = Some first; groups = marked_alone groups; zero = zero }) next between FoldsNow
      (one_is next between nought runs first groups zero (stands_later texts on_row k env between b held below kept stands) (below_more k next b.vector more below)
      (gives_later k next env between held nought zero_row more kept none) (has_later k next env between runs (ranged (length held) run zeros) more kept r)
      (has_later k next env between first (ranged 1 out zeros) more kept f) (has_later k next env between groups (ranged 1 mark ones) more kept g) (gives_column next between one_group zero zero_of has)))
    where
      holds_mark : Holds (ranged 1 mark ones) one_group ((mark, one) ∷ []) → slots_of (ranged 1 mark ones).attributes mark ≡ column one one_group
      holds_mark h = All-head (λ t. slots_of (ranged 1 mark ones).attributes t.0 ≡ column t.1 one_group) (mark, one) [] h.each

  behind_runs : (k : ℕ) (env : Env) (nought runs : Label) → StandsAt texts env b on_row held → IsBelow k b.vector → Gives k env held nought zero_row → Has k env runs (ranged (length held) run zeros)
      → Makes store (one_place (codes "first") out zeros >>= λ first. one_place (codes "groups") mark ones >>= λ groups. nought_at groups >>= λ zero. tell (record { rows = b; nought = nought; runs = runs; first = Some first; groups = marked_alone groups; zero = zero })) k env FoldsNow
  behind_runs k env nought runs stands below none r =
      makes_bind Label Folding store (one_place (codes "first") out zeros)
      (λ first. one_place (codes "groups") mark ones >>= λ groups. nought_at groups >>= λ zero. tell (record { rows = b; nought = nought; runs = runs; first = Some first; groups = marked_alone groups; zero = zero })) k env
      (NowHas (ranged 1 out zeros)) FoldsNow (makes_range store (codes "first") k env refl 1 out zeros)
      (λ first next between more has kept.
      makes_bind Label Folding store (one_place (codes "groups") mark ones)
      (λ groups. nought_at groups >>= λ zero. tell (record { rows = b; nought = nought; runs = runs; first = Some first; groups = marked_alone groups; zero = zero })) next between
      (NowHas (ranged 1 mark ones)) FoldsNow (makes_range store (codes "groups") next between refl 1 mark ones)
      (λ groups later after on has_groups left.
      let through : Kept k env after = λ name low. left name (below_more k next name more low) ∙ kept name low in
      let far : k ≤ later = omega (arith, more, on) in
      behind_groups later after nought runs first groups (stands_later texts on_row k env after b held below through stands) (below_more k later b.vector far below)
      (gives_later k later env after held nought zero_row far through none) (has_later k later env after runs (ranged (length held) run zeros) far through r)
      (has_later next later between after first (ranged 1 out zeros) on left has) has_groups))

  pub as_one_makes : (k : ℕ) (env : Env) → StandsAt texts env b on_row held → IsBelow k b.vector → Makes store (as_one b) k env FoldsNow
  as_one_makes k env stands below =
      makes_bind Label Folding store (nought_at b.vector)
      (λ nought. one_run b.vector >>= λ runs. one_place (codes "first") out zeros >>= λ first. one_place (codes "groups") mark ones >>= λ groups. nought_at groups >>= λ zero. tell (record { rows = b; nought = nought; runs = runs; first = Some first; groups = marked_alone groups; zero = zero })) k env
      (NowHas (vectors.column out (length held) (column zero_row held))) FoldsNow
      (nought_makes store k env b.vector stands.vector held (record { sees = stands.sees; below = below }) stands.holds.len (mark_slots texts on_row env b held stands))
      (λ nought next between more has kept.
      let there = stands_later texts on_row k env between b held below kept stands in
      let low = below_more k next b.vector more below in
      makes_bind Label Folding store (one_run b.vector)
      (λ runs. one_place (codes "first") out zeros >>= λ first. one_place (codes "groups") mark ones >>= λ groups. nought_at groups >>= λ zero. tell (record { rows = b; nought = nought; runs = runs; first = Some first; groups = marked_alone groups; zero = zero })) next between
      (NowHas (ranged stands.vector.len run zeros)) FoldsNow
      (makes_range_of store (codes "runs") next between refl b.vector run zeros stands.vector (record { sees = there.sees; below = low }))
      (λ runs later after on has_runs left.
      behind_runs later after nought runs (stands_later texts on_row next between after b held low left there) (below_more next later b.vector on low)
      (gives_later next later between after held nought zero_row on left (gives_column next between held nought zero_row has))
      (subst (λ (n : ℕ). Has later after runs (ranged n run zeros)) stands.holds.len has_runs)))

-- The groups of rows, with the values of their aggregates.
use Rattle.std.proofs.Common.{◌≡◌, ◌∙◌, ℕ, ◌≤◌, true, List, [], ◌∷◌, ◌++◌, length, map, refl, sym, ap, subst, arith, None}
use Rattle.std.specs.Prelude.{is_err}
use Rattle.std.specs.List.{All, Contains, enumerate_from, list_any}
use Rattle.std.proofs.lemmas.List.Elements.{All-nil, All-head}
use Rattle.control_vectors.specs.Runs as tuples
use Rattle.control_vectors.specs.Runs.{side_by_side}
use Rattle.programs.specs.Mentions.{Label}
use Rattle.programs.specs.Vectors.{Vector, Env, slots_of}
use Rattle.programs.specs.Vectors as vectors
use Rattle.voodoo_ops.specs.Runs.{run_marks}
use Rattle.typed_trees.specs.declared.typed.ColumnRef.{ColumnRef}
use Rattle.typed_trees.specs.Names.{same_column}
use Rattle.query_answers.specs.Answers.{FromRow, Group, groups_of, on_row}
use Rattle.query_answers.specs.Clauses.{Clauses}
use Rattle.query_answers.specs.Overs.{each}
use Rattle.expr_steps.specs.Lowered.{Bytes}
use Rattle.held_groups.specs.Groups.{AreSame, column_slot, run_slots, sorted_rows}
use Rattle.held_groups.specs.Heads.{group_places, fits, zero_of}
use Rattle.held_groups.proofs.Members.{group_rows}
use Rattle.held_rows.specs.Held.{Held, present, column, one, packed}
use Rattle.program_writers.specs.Names.{IsBelow}
use Rattle.program_writers.specs.Statements.{out, mark, run}
use Rattle.program_writers.specs.Writers.{tell, ◌>>=◌, through}
use Rattle.program_writers.proofs.Numbers.{below_more}
use Rattle.plan_programs.specs.Groups.{Folding, nought_at, sorted, runs_of, run_groups, key_of, by_columns, folding}
use Rattle.plan_programs.specs.Sites.{Base, marked_alone}
use Rattle.writer_runs.specs.Runs.{Makes}
use Rattle.writer_runs.proofs.Composed.{makes_tell, makes_bind}
use Rattle.lowered_stages.specs.Stages.{StandsAt}
use Rattle.lowered_stages.specs.Parts.{SamePlaces}
use Rattle.lowered_groups.proofs.AsOne.{Folds, nought_makes, one_group, one_regroups, as_one_makes}
use Rattle.lowered_groups.proofs.Bases.{IsAggregateBelow, IsKeyBelow, IsKeyPath, all_weaker}
use Rattle.lowered_groups.proofs.ByColumns.{HasPlace, RunsAt, runs_make, groups_long, cells_of_groups, GroupsMarked, run_groups_make, KeysAt, keys_make}
use Rattle.lowered_groups.proofs.Columns.{mark_slots}
use Rattle.lowered_groups.proofs.Folds.{Gives, gives_column, gives_later, zero_row, stands_later}
use Rattle.lowered_groups.proofs.Parts.{Has, NowHas, has_later}
use Rattle.lowered_groups.proofs.RunSlots.{marks_are}
use Rattle.lowered_groups.proofs.SortedRows.{IsClear, SortedAt, sorted_makes, sorted_length, present_few, present_packed}
use Rattle.lowered_groups.proofs.Values.{Regroups}

-- groups at some places, and what folds give there
pub record Regrouped (texts : List Bytes) (q : Clauses) (b : Base) (all : List FromRow) (f : Folding) (next : ℕ) (after : Env) : Type 0 where
  pub rows : Held FromRow
  pub gs : Held Group
  pub folds : Folds texts q b rows gs f next after
  pub regroups : Regroups q.groups all rows gs

-- ---- by group columns

module _ (store : Env) (texts : List Bytes) (q : Clauses) (b : Base) (held : Held FromRow) where
  abbrev all_rows : List FromRow
  all_rows = present held

  abbrev n : ℕ
  n = length held

  abbrev kept_rows : Held FromRow
  kept_rows = packed n (sorted_rows texts q.groups all_rows)

  abbrev Grouped : Folding → ℕ → Env → Type 0
  Grouped f next after = Regrouped texts q b all_rows f next after

  -- what is asked of the group columns
  pub record CanSort : Type 0 where
    pub places : All (HasPlace b) q.groups
    pub few : length q.groups ≤ 4
    pub fit : (c : ColumnRef) → Contains q.groups c → (row : FromRow) → Contains all_rows row → fits (column_slot texts c row) ≡ true
    pub groups : (front behind : List ColumnRef) → AreSame q.groups (front ++ behind) → present (group_places texts q.groups front behind n all_rows) ≡ groups_of q.groups all_rows

  regroups : (front behind : List ColumnRef) → present (group_places texts q.groups front behind n all_rows) ≡ groups_of q.groups all_rows → Regroups q.groups all_rows kept_rows (group_places texts q.groups front behind n all_rows)
  regroups front behind is =
      let same : present kept_rows ≡ sorted_rows texts q.groups all_rows = present_packed n (sorted_rows texts q.groups all_rows) in
      record {
        groups = is;
        within = λ row m. group_rows.sorted_within texts q.groups all_rows row (subst (λ (l : List FromRow). Contains l row) same m);
        covers = λ row m. subst (λ (l : List FromRow). Contains l row) (sym same) (group_rows.within_sorted texts q.groups all_rows row m);
        overs = λ f. ap (λ (l : List FromRow). is_err (each f l)) same ∙ group_rows.sorted_over texts q.groups all_rows f;
      }

  -- everything but the groups' columns stands
  module _ (can : CanSort) (rows : Base) (same : SamePlaces b rows) where
    has_places : All (HasPlace rows) q.groups
    has_places = subst (λ l. All (λ g. list_any (λ p. same_column p.column g) l ≡ true) q.groups) (sym same.columns) can.places

    long : length kept_rows ≡ n
    long = sorted_length store texts b held q.groups

    behind_keys : (nought runs : Label) (zero : Label) (front behind : List ColumnRef) → AreSame q.groups (front ++ behind) → (v : Vector) → v.len ≡ length kept_rows
        → run_marks v run ≡ tuples.run_marks (side_by_side (length kept_rows) (map (λ f. column f kept_rows) (run_slots texts front behind)))
        → (k : ℕ) (env : Env) → StandsAt texts env rows on_row kept_rows → IsBelow k rows.vector → Gives k env kept_rows nought zero_row → Has k env runs v → Gives k env (group_places texts q.groups front behind n all_rows) zero zero_of
        → (groups : Base) → KeysAt store texts q.groups front behind n all_rows (present_few held) q refl long can.fit (length q.groups) q.groups groups k env
        → Grouped (record { rows = rows; nought = nought; runs = runs; first = None; groups = groups; zero = zero }) k env
    behind_keys nought runs naught front behind are v len marks k env at below none has gives groups s = record {
      rows = kept_rows;
      gs = group_places texts q.groups front behind n all_rows;
      folds = record {
        folding = record {
          stands = at;
          rows_below = below;
          nought = none;
          runs = v;
          runs_has = has;
          runs_len = len;
          zero = gives;
          folds = record {
            len = groups_long store texts q.groups front behind n all_rows (present_few held) ∙ sym long;
            cells_are = cells_of_groups store texts q.groups front behind n all_rows (present_few held) v long marks;
          };
        };
        groups = record {
          stands = s.stands;
          below = s.below;
          keys = all_weaker (λ p. IsKeyBelow (length q.groups) p.path) (λ p. IsKeyPath p.path) groups.columns (λ p i. (i.0, omega (arith, i.1, can.few), i.2)) s.numbers;
          numbers = subst (λ l. All (λ p. IsAggregateBelow 0 p.path) l) (sym s.none) (All-nil _);
          found = λ m less. absurd (omega (arith, less));
          columns = s.found;
        };
        places = same;
      };
      regroups = regroups front behind (can.groups front behind are);
    }

    -- the groups' vector is there
    behind_groups : (nought runs vector : Label) (k : ℕ) (env : Env) → StandsAt texts env rows on_row kept_rows → IsBelow k rows.vector → Gives k env kept_rows nought zero_row → (r : RunsAt store texts kept_rows (length q.groups) q.groups runs k env)
        → GroupsMarked store texts q.groups (map (λ e. e.1) r.runs.front) (map (λ e. e.1) r.runs.behind) n all_rows (present_few held) r.vector long (marks_are texts kept_rows (length q.groups) q.groups r.vector r.runs) vector k env
        → Makes store (nought_at vector >>= λ zero. through (key_of rows zero) (marked_alone vector) (enumerate_from 0 q.groups) >>= λ groups. tell (record { rows = rows; nought = nought; runs = runs; first = None; groups = groups; zero = zero })) k env Grouped
    behind_groups nought runs vector k env at below none r m =
        let front = map (λ e. e.1) r.runs.front in
        let behind = map (λ e. e.1) r.runs.behind in
        let gs = group_places texts q.groups front behind n all_rows in
        let few = present_few held in
        makes_bind Label Folding store (nought_at vector) (λ zero. through (key_of rows zero) (marked_alone vector) (enumerate_from 0 q.groups) >>= λ groups. tell (record { rows = rows; nought = nought; runs = runs; first = None; groups = groups; zero = zero })) k env
        (NowHas (vectors.column out (length gs) (column zero_of gs))) Grouped
        (nought_makes store k env vector m.vector gs m.has m.holds.len (All-head (λ t. slots_of m.vector.attributes t.0 ≡ column t.1 gs) (mark, one) [] m.holds.each))
        (λ zero next between more has left.
        let there = stands_later texts on_row k env between rows kept_rows below left at in
        let low = below_more k next rows.vector more below in
        let gives = gives_column next between gs zero zero_of has in
        let start : KeysAt store texts q.groups front behind n all_rows few q refl long can.fit 0 [] (marked_alone vector) next between = record {
          stands = record { vector = m.vector; sees = left vector m.has.below ∙ m.has.sees; holds = m.holds };
          below = below_more k next vector more m.has.below;
          numbers = All-nil _;
          none = refl;
          found = All-nil _;
        } in
        makes_bind Base Folding store (through (key_of rows zero) (marked_alone vector) (enumerate_from 0 q.groups)) (λ groups. tell (record { rows = rows; nought = nought; runs = runs; first = None; groups = groups; zero = zero })) next between
        (λ d l after. KeysAt store texts q.groups front behind n all_rows few q refl long can.fit (length q.groups) q.groups d l after) Grouped
        (subst (λ (j : ℕ). Makes store (through (key_of rows zero) (marked_alone vector) (enumerate_from 0 q.groups)) next between (λ d l after. KeysAt store texts q.groups front behind n all_rows few q refl long can.fit j q.groups d l after)) (omega arith)
        (keys_make store texts q.groups front behind n all_rows few q refl long can.fit rows zero q.groups [] 0 (marked_alone vector) next between (omega (arith, can.few)) (λ c h. h) has_places there low gives start))
        (λ groups later after on s gone.
        let naught_now = gives_later next later between after kept_rows nought zero_row on gone (gives_later k next env between kept_rows nought zero_row more left none) in
        let runs_now = has_later next later between after runs r.vector on gone (has_later k next env between runs r.vector more left r.has) in
        makes_tell Folding store (record { rows = rows; nought = nought; runs = runs; first = None; groups = groups; zero = zero }) later after Grouped
        (behind_keys nought runs zero front behind r.runs.same r.vector r.runs.len (marks_are texts kept_rows (length q.groups) q.groups r.vector r.runs) later after
        (stands_later texts on_row next between after rows kept_rows low gone there) (below_more next later rows.vector on low) naught_now runs_now (gives_later next later between after gs zero zero_of on gone gives) groups s)))

    behind_runs : (nought runs : Label) (k : ℕ) (env : Env) → StandsAt texts env rows on_row kept_rows → IsBelow k rows.vector → Gives k env kept_rows nought zero_row → RunsAt store texts kept_rows (length q.groups) q.groups runs k env
        → Makes store (run_groups rows runs >>= λ vector. nought_at vector >>= λ zero. through (key_of rows zero) (marked_alone vector) (enumerate_from 0 q.groups) >>= λ groups. tell (record { rows = rows; nought = nought; runs = runs; first = None; groups = groups; zero = zero })) k env Grouped
    behind_runs nought runs k env at below none r =
        let front = map (λ e. e.1) r.runs.front in
        let behind = map (λ e. e.1) r.runs.behind in
        let marks = marks_are texts kept_rows (length q.groups) q.groups r.vector r.runs in
        makes_bind Label Folding store (run_groups rows runs) (λ vector. nought_at vector >>= λ zero. through (key_of rows zero) (marked_alone vector) (enumerate_from 0 q.groups) >>= λ groups. tell (record { rows = rows; nought = nought; runs = runs; first = None; groups = groups; zero = zero })) k env
        (GroupsMarked store texts q.groups front behind n all_rows (present_few held) r.vector long marks) Grouped
        (run_groups_make store texts q.groups front behind n all_rows (present_few held) r.vector long marks rows runs k env at below r.has (r.runs.len ∙ long))
        (λ vector next between more m left.
        behind_groups nought runs vector next between (stands_later texts on_row k env between rows kept_rows below left at) (below_more k next rows.vector more below) (gives_later k next env between kept_rows nought zero_row more left none)
        (record { vector = r.vector; has = has_later k next env between runs r.vector more left r.has; runs = r.runs }) m)

    behind_sorted : (k : ℕ) (env : Env) (at : StandsAt texts env rows on_row kept_rows) → IsBelow k rows.vector → IsClear at.vector
        → Makes store (nought_at rows.vector >>= λ nought. runs_of rows q.groups >>= λ runs. run_groups rows runs >>= λ vector. nought_at vector >>= λ zero. through (key_of rows zero) (marked_alone vector) (enumerate_from 0 q.groups) >>= λ groups. tell (record { rows = rows; nought = nought; runs = runs; first = None; groups = groups; zero = zero })) k env Grouped
    behind_sorted k env at below clear =
        makes_bind Label Folding store (nought_at rows.vector) (λ nought. runs_of rows q.groups >>= λ runs. run_groups rows runs >>= λ vector. nought_at vector >>= λ zero. through (key_of rows zero) (marked_alone vector) (enumerate_from 0 q.groups) >>= λ groups. tell (record { rows = rows; nought = nought; runs = runs; first = None; groups = groups; zero = zero })) k env
        (NowHas (vectors.column out (length kept_rows) (column zero_row kept_rows))) Grouped
        (nought_makes store k env rows.vector at.vector kept_rows (record { sees = at.sees; below = below }) at.holds.len (mark_slots texts on_row env rows kept_rows at))
        (λ nought next between more has left.
        let there = stands_later texts on_row k env between rows kept_rows below left at in
        let low = below_more k next rows.vector more below in
        makes_bind Label Folding store (runs_of rows q.groups) (λ runs. run_groups rows runs >>= λ vector. nought_at vector >>= λ zero. through (key_of rows zero) (marked_alone vector) (enumerate_from 0 q.groups) >>= λ groups. tell (record { rows = rows; nought = nought; runs = runs; first = None; groups = groups; zero = zero })) next between
        (RunsAt store texts kept_rows (length q.groups) q.groups) Grouped
        (runs_make store texts kept_rows rows q.groups next between there low clear has_places can.few)
        (λ runs later after on r gone.
        behind_runs nought runs later after (stands_later texts on_row next between after rows kept_rows low gone there) (below_more next later rows.vector on low)
        (gives_later next later between after kept_rows nought zero_row on gone (gives_column next between kept_rows nought zero_row has)) r))

  by_columns_make : CanSort → (k : ℕ) (env : Env) (at : StandsAt texts env b on_row held) → IsBelow k b.vector → IsClear at.vector → Makes store (by_columns b q.groups) k env Grouped
  by_columns_make can k env at below clear =
      makes_bind Base Folding store (sorted b q.groups)
      (λ rows. nought_at rows.vector >>= λ nought. runs_of rows q.groups >>= λ runs. run_groups rows runs >>= λ vector. nought_at vector >>= λ zero. through (key_of rows zero) (marked_alone vector) (enumerate_from 0 q.groups) >>= λ groups. tell (record { rows = rows; nought = nought; runs = runs; first = None; groups = groups; zero = zero })) k env
      (SortedAt store texts b held q.groups) Grouped
      (sorted_makes store texts b held q.groups k env at below clear can.places)
      (λ rows next between more s left. behind_sorted can rows s.same next between s.stands s.below s.clear)

  -- ---- with or without group columns

  pub folding_make : (columns : List ColumnRef) → q.groups ≡ columns → ((c : ColumnRef) (cs : List ColumnRef) → q.groups ≡ c ∷ cs → CanSort) → (k : ℕ) (env : Env) (at : StandsAt texts env b on_row held) → IsBelow k b.vector → IsClear at.vector → Makes store (folding b columns) k env Grouped
  folding_make [] is can k env at below clear =
      let made = as_one_makes store texts q b held is k env at below in
      record {
        after = made.after;
        ran = made.ran;
        holds = record { rows = held; gs = one_group store texts q b held is; folds = made.holds; regroups = subst (λ (l : List ColumnRef). Regroups l (present held) held (one_group store texts q b held is)) (sym is) (one_regroups store texts q b held is) };
        kept = made.kept;
        ascends = made.ascends;
      }
  folding_make (c ∷ cs) is can k env at below clear =
      subst (λ (l : List ColumnRef). Makes store (by_columns b l) k env Grouped) is (by_columns_make (can c cs is) k env at below clear)

-- The groups of rows pass the check, with the values of their aggregates.
use Rattle.std.proofs.Common.{◌≡◌, ℕ, ◌≤◌, ◌^◌, true, List, [], ◌∷◌, length, refl, sym, subst, arith, codes, Some, None}
use Rattle.std.specs.Prelude.{All, ◌==◌}
use Rattle.std.specs.List.{enumerate_from, list_any}
use Rattle.std.proofs.lemmas.List.Elements.{All-nil}
use Rattle.programs.specs.declared.op.Size.TheVariants as size
use Rattle.programs.specs.Check.{Known}
use Rattle.programs.specs.Mentions.{Label}
use Rattle.programs.specs.Outlines.{Shapes}
use Rattle.typed_trees.specs.declared.typed.ColumnRef.{ColumnRef}
use Rattle.typed_trees.specs.declared.typed.TypedExpr.{TypedExpr}
use Rattle.typed_trees.specs.Names.{same_column}
use Rattle.typed_trees.specs.Types.{no_aggregate}
use Rattle.program_writers.specs.Statements.{out, mark, run, zeros, ones}
use Rattle.program_writers.specs.Writers.{tell, ◌>>=◌, through}
use Rattle.plan_programs.specs.Groups.{nought_at, sorted, runs_of, key_of, run_groups, by_columns, one_place, one_run, as_one, folding, aggregate_of}
use Rattle.plan_programs.specs.Sites.{Base, marked_alone}
use Rattle.writer_checks.specs.Checks.{IsFresh, HasShape, Passes}
use Rattle.writer_checks.specs.Laws.{Shaped}
use Rattle.writer_checks.proofs.Going.{weaker}
use Rattle.writer_checks.proofs.Passing.{operator_laws}
use Rattle.lowered_stages.specs.Stages.{paths_of, IsShaped}
use Rattle.lowered_stages.specs.Parts.{CanValue, SamePlaces}
use Rattle.lowered_group_checks.specs.Laws.{ValuePasses, GroupsPass}
use Rattle.lowered_group_checks.proofs.FoldsPass.{IsColumn}
use Rattle.lowered_group_checks.proofs.FoldingsPass.{HasPlace, run_mark, FoldingDone, SortedShaped, sorted_passes, runs_pass, run_groups_pass, KeysShaped, keys_pass}
use Rattle.lowered_group_checks.proofs.GroupsPass.{mark_attribute, out_attribute, run_attribute, nought_passes, Both, aggregates_pass}
use Rattle.lowered_group_checks.proofs.Shaped.{still, then_passes, tells, no_path, mark_path}

module _ (tables : Shapes) (len : ℕ) (small : len ≤ 2 ^ 22) (b : Base) where
  -- ---- by group columns

  module _ (columns : List ColumnRef) (few : length columns ≤ 4) (rows : Base) (same : SamePlaces b rows) (can : All (HasPlace rows) columns) where
    behind_groups : (nought runs vector : Label) (k : ℕ) (known : Known) → IsFresh k known.vectors → IsShaped len rows known.vectors → IsColumn len nought known.vectors → HasShape known.vectors runs len (run_mark ∷ []) → HasShape known.vectors vector len (mark ∷ [])
        → Passes tables (nought_at vector >>= λ zero. through (key_of rows zero) (marked_alone vector) (enumerate_from 0 columns) >>= λ groups. tell (record { rows = rows; nought = nought; runs = runs; first = None; groups = groups; zero = zero })) k known (FoldingDone len b)
    behind_groups nought runs vector k known fresh h z r g =
        then_passes tables (nought_at vector) (λ zero. through (key_of rows zero) (marked_alone vector) (enumerate_from 0 columns) >>= λ groups. tell (record { rows = rows; nought = nought; runs = runs; first = None; groups = groups; zero = zero })) k known (IsColumn len) (FoldingDone len b)
        (nought_passes tables vector len k known fresh small g)
        (λ zero next between new shape stays.
        let rows_now = still k known.vectors between.vectors rows.vector len (paths_of rows) fresh stays h in
        let start : KeysShaped tables len small rows 0 (marked_alone vector) between.vectors = record {
          groups = record { shape = still k known.vectors between.vectors vector len (mark ∷ []) fresh stays g; keys = All-nil _; numbers = All-nil _ };
          none = refl;
        } in
        then_passes tables (through (key_of rows zero) (marked_alone vector) (enumerate_from 0 columns)) (λ groups. tell (record { rows = rows; nought = nought; runs = runs; first = None; groups = groups; zero = zero })) next between
        (λ c shapes. (m : ℕ) × KeysShaped tables len small rows m c shapes) (FoldingDone len b)
        (keys_pass tables len small rows zero columns 0 (marked_alone vector) (omega (arith, few)) can next between new rows_now shape start)
        (λ groups last after fresher s stay.
        tells tables (record { rows = rows; nought = nought; runs = runs; first = None; groups = groups; zero = zero }) last after (FoldingDone len b) fresher
        (record {
          count = len;
          keys = s.0;
          folding = record {
            rows = still next between.vectors after.vectors rows.vector len (paths_of rows) new stay rows_now;
            nought = still next between.vectors after.vectors nought len (out ∷ []) new stay (still k known.vectors between.vectors nought len (out ∷ []) fresh stays z);
            path = codes "run.mark";
            below = refl;
            beside = refl;
            runs = still next between.vectors after.vectors runs len (run_mark ∷ []) new stay (still k known.vectors between.vectors runs len (run_mark ∷ []) fresh stays r);
            first = refl;
            zero = still next between.vectors after.vectors zero len (out ∷ []) new stay shape;
            few = small;
            small = small;
          };
          groups = s.1.groups;
          places = same;
        })))

    behind_sorted : (k : ℕ) (known : Known) → IsFresh k known.vectors → IsShaped len rows known.vectors
        → Passes tables (nought_at rows.vector >>= λ nought. runs_of rows columns >>= λ runs. run_groups rows runs >>= λ vector. nought_at vector >>= λ zero. through (key_of rows zero) (marked_alone vector) (enumerate_from 0 columns) >>= λ groups. tell (record { rows = rows; nought = nought; runs = runs; first = None; groups = groups; zero = zero })) k known (FoldingDone len b)
    behind_sorted k known fresh h =
        then_passes tables (nought_at rows.vector) (λ nought. runs_of rows columns >>= λ runs. run_groups rows runs >>= λ vector. nought_at vector >>= λ zero. through (key_of rows zero) (marked_alone vector) (enumerate_from 0 columns) >>= λ groups. tell (record { rows = rows; nought = nought; runs = runs; first = None; groups = groups; zero = zero })) k known (IsColumn len) (FoldingDone len b)
        (nought_passes tables rows.vector len k known fresh small (mark_path known.vectors rows len h))
        (λ nought next between new z stays.
        let h2 = still k known.vectors between.vectors rows.vector len (paths_of rows) fresh stays h in
        then_passes tables (runs_of rows columns) (λ runs. run_groups rows runs >>= λ vector. nought_at vector >>= λ zero. through (key_of rows zero) (marked_alone vector) (enumerate_from 0 columns) >>= λ groups. tell (record { rows = rows; nought = nought; runs = runs; first = None; groups = groups; zero = zero })) next between
        (λ name shapes. HasShape shapes name len (run_mark ∷ [])) (FoldingDone len b)
        (runs_pass tables len small rows columns can few next between new h2)
        (λ runs last after fresher r stay.
        let h3 = still next between.vectors after.vectors rows.vector len (paths_of rows) new stay h2 in
        let z3 = still next between.vectors after.vectors nought len (out ∷ []) new stay z in
        then_passes tables (run_groups rows runs) (λ vector. nought_at vector >>= λ zero. through (key_of rows zero) (marked_alone vector) (enumerate_from 0 columns) >>= λ groups. tell (record { rows = rows; nought = nought; runs = runs; first = None; groups = groups; zero = zero })) last after
        (λ name shapes. HasShape shapes name len (mark ∷ [])) (FoldingDone len b)
        (run_groups_pass tables len small rows runs last after fresher h3 r)
        (λ vector final done freshest g stood.
        behind_groups nought runs vector final done freshest (still last after.vectors done.vectors rows.vector len (paths_of rows) fresher stood h3)
        (still last after.vectors done.vectors nought len (out ∷ []) fresher stood z3) (still last after.vectors done.vectors runs len (run_mark ∷ []) fresher stood r) g)))

  by_columns_pass : (columns : List ColumnRef) → length columns ≤ 4 → All (HasPlace b) columns → (k : ℕ) (known : Known) → IsFresh k known.vectors → IsShaped len b known.vectors → Passes tables (by_columns b columns) k known (FoldingDone len b)
  by_columns_pass columns few can k known fresh h =
      then_passes tables (sorted b columns)
      (λ rows. nought_at rows.vector >>= λ nought. runs_of rows columns >>= λ runs. run_groups rows runs >>= λ vector. nought_at vector >>= λ zero. through (key_of rows zero) (marked_alone vector) (enumerate_from 0 columns) >>= λ groups. tell (record { rows = rows; nought = nought; runs = runs; first = None; groups = groups; zero = zero })) k known
      (SortedShaped tables len small b) (FoldingDone len b) (sorted_passes tables len small b columns can few k known fresh h)
      (λ rows next between new s stays. behind_sorted columns few rows s.same (subst (λ l. All (λ c. list_any (λ p. same_column p.column c) l ≡ true) columns) (sym s.same.columns) can) next between new s.shape)

  -- ---- as one group

  behind_first : (nought runs : Label) (k : ℕ) (known : Known) → IsFresh k known.vectors → IsShaped len b known.vectors → IsColumn len nought known.vectors → HasShape known.vectors runs len (run ∷ [])
      → Passes tables (one_place (codes "first") out zeros >>= λ first. one_place (codes "groups") mark ones >>= λ groups. nought_at groups >>= λ zero. tell (record { rows = b; nought = nought; runs = runs; first = Some first; groups = marked_alone groups; zero = zero })) k known (FoldingDone len b)
  behind_first nought runs k known fresh h z r =
      let one : 1 ≤ 2 ^ 22 = omega arith in
      then_passes tables (one_place (codes "first") out zeros) (λ first. one_place (codes "groups") mark ones >>= λ groups. nought_at groups >>= λ zero. tell (record { rows = b; nought = nought; runs = runs; first = Some first; groups = marked_alone groups; zero = zero })) k known (IsColumn 1) (FoldingDone len b)
      (operator_laws.range tables (codes "first") (size.Number 1) out zeros 1 k known refl fresh out_attribute refl one)
      (λ first next between new f stays.
      then_passes tables (one_place (codes "groups") mark ones) (λ groups. nought_at groups >>= λ zero. tell (record { rows = b; nought = nought; runs = runs; first = Some first; groups = marked_alone groups; zero = zero })) next between (Shaped 1 (mark ∷ [])) (FoldingDone len b)
      (operator_laws.range tables (codes "groups") (size.Number 1) mark ones 1 next between refl new mark_attribute refl one)
      (λ groups last after fresher g stay.
      then_passes tables (nought_at groups) (λ zero. tell (record { rows = b; nought = nought; runs = runs; first = Some first; groups = marked_alone groups; zero = zero })) last after (IsColumn 1) (FoldingDone len b)
      (nought_passes tables groups 1 last after fresher one g)
      (λ zero final done freshest shape stood.
      let on : (name : Label) (n : ℕ) (paths : List Label) → HasShape known.vectors name n paths → HasShape done.vectors name n paths = λ name n paths s. still last after.vectors done.vectors name n paths fresher stood (still next between.vectors after.vectors name n paths new stay (still k known.vectors between.vectors name n paths fresh stays s)) in
      tells tables (record { rows = b; nought = nought; runs = runs; first = Some first; groups = marked_alone groups; zero = zero }) final done (FoldingDone len b) freshest
      (record {
        count = 1;
        keys = 0;
        folding = record {
          rows = on b.vector len (paths_of b) h;
          nought = on nought len (out ∷ []) z;
          path = codes "run";
          below = refl;
          beside = refl;
          runs = on runs len (run ∷ []) r;
          first = still last after.vectors done.vectors first 1 (out ∷ []) fresher stood (still next between.vectors after.vectors first 1 (out ∷ []) new stay f);
          zero = shape;
          few = small;
          small = one;
        };
        groups = record { shape = still last after.vectors done.vectors groups 1 (mark ∷ []) fresher stood g; keys = All-nil _; numbers = All-nil _ };
        places = record { columns = refl; aggregates = refl };
      }))))

  as_one_pass : (k : ℕ) (known : Known) → IsFresh k known.vectors → IsShaped len b known.vectors → Passes tables (as_one b) k known (FoldingDone len b)
  as_one_pass k known fresh h =
      then_passes tables (nought_at b.vector) (λ nought. one_run b.vector >>= λ runs. one_place (codes "first") out zeros >>= λ first. one_place (codes "groups") mark ones >>= λ groups. nought_at groups >>= λ zero. tell (record { rows = b; nought = nought; runs = runs; first = Some first; groups = marked_alone groups; zero = zero })) k known (IsColumn len) (FoldingDone len b)
      (nought_passes tables b.vector len k known fresh small (mark_path known.vectors b len h))
      (λ nought next between new z stays.
      let h2 = still k known.vectors between.vectors b.vector len (paths_of b) fresh stays h in
      then_passes tables (one_run b.vector) (λ runs. one_place (codes "first") out zeros >>= λ first. one_place (codes "groups") mark ones >>= λ groups. nought_at groups >>= λ zero. tell (record { rows = b; nought = nought; runs = runs; first = Some first; groups = marked_alone groups; zero = zero })) next between (Shaped len (run ∷ [])) (FoldingDone len b)
      (operator_laws.range tables (codes "runs") (size.Of b.vector) run zeros len next between refl new run_attribute (no_path between.vectors b.vector len (paths_of b) h2) small)
      (λ runs last after fresher r stay.
      behind_first nought runs last after fresher (still next between.vectors after.vectors b.vector len (paths_of b) new stay h2) (still next between.vectors after.vectors nought len (out ∷ []) new stay z) r))

  folding_pass : (columns : List ColumnRef) → length columns ≤ 4 → All (HasPlace b) columns → (k : ℕ) (known : Known) → IsFresh k known.vectors → IsShaped len b known.vectors → Passes tables (folding b columns) k known (FoldingDone len b)
  folding_pass [] few can k known fresh h = as_one_pass k known fresh h
  folding_pass (c ∷ cs) few can k known fresh h = by_columns_pass (c ∷ cs) few can k known fresh h

-- ---- the whole

value_moved : (b c : Base) (e : TypedExpr) → SamePlaces b c → CanValue no_aggregate b e → CanValue no_aggregate c e
value_moved b c e same can = record {
  lowerable = can.lowerable;
  covers = record {
    columns = λ d n. subst (λ l. list_any (λ p. same_column p.column d) l ≡ true) (sym same.columns) (can.covers.columns d n);
    aggregates = λ m n. subst (λ l. list_any (λ p. p.aggregate == m) l ≡ true) (sym same.aggregates) (can.covers.aggregates m n);
  };
  few = can.few;
}

pub groups_pass : ValuePasses → GroupsPass
groups_pass values tables texts len b columns aggregates small can few k known fresh h =
    then_passes tables (folding b columns) (λ f. through (aggregate_of texts f) f.groups (enumerate_from 0 aggregates)) k known (FoldingDone len b) (λ c shapes. (count : ℕ) × ((count ≤ 2 ^ 22) × IsShaped count c shapes))
    (folding_pass tables len small b columns can.few can.places k known fresh h)
    (λ f next between new d stays.
    weaker tables (through (aggregate_of texts f) f.groups (enumerate_from 0 aggregates)) next between (λ c shapes. (l : ℕ) × Both values tables texts len d.count f d.keys l c shapes) (λ c shapes. (count : ℕ) × ((count ≤ 2 ^ 22) × IsShaped count c shapes))
    (λ c shapes same both. (d.count, (both.1.folding.small, both.1.groups.shape)))
    (aggregates_pass values tables texts len d.count f d.keys aggregates 0 f.groups (omega (arith, few)) (λ i a l x e. value_moved b f.rows x d.places (can.arguments i a l x e)) next between new (record { folding = d.folding; groups = d.groups })))

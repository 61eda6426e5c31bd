-- The groups' vector reaches the rows'.
use Rattle.std.proofs.Common.{◌≡◌, ℕ, ◌+◌, true, false, List, [], ◌∷◌, refl, Option, Some, None, map, codes}
use Rattle.std.specs.List.{enumerate_from}
use Rattle.control_vectors.specs.declared.PairKind.TheVariants as pair
use Rattle.programs.specs.declared.family.FoldOperator.TheVariants as fold
use Rattle.programs.specs.declared.op.Op.TheVariants as op
use Rattle.programs.specs.declared.op.Size.TheVariants as size
use Rattle.programs.specs.Mentions.{Label}
use Rattle.typed_trees.specs.declared.typed.Aggregate.{Aggregate}
use Rattle.typed_trees.specs.declared.typed.ColumnRef.{ColumnRef}
use Rattle.typed_trees.specs.declared.typed.TypedExpr.{TypedExpr}
use Rattle.expr_steps.specs.Lowered.{Bytes}
use Rattle.program_writers.specs.Statements.{out, mark, val, run, zeros, ones, attribute, with_attribute, fold_args, fold_of, at_places}
use Rattle.program_writers.specs.Statements as statements
use Rattle.program_writers.specs.Writers.{Writer, tell, ◌>>=◌, through, make, numbered}
use Rattle.writer_runs.proofs.Used.{beside}
use Rattle.plan_programs.specs.Sites.{Base, marked_alone, moved_to, path_in, with_column, with_aggregate}
use Rattle.plan_programs.specs.Groups.{Folding, nought_at, ascending, sorted, run_path, run_by, runs_of, key_path, key_of, run_groups, by_columns, one_place, one_run, as_one, aggregated, argument, aggregate_path, aggregate_of}
use Rattle.lowered_group_checks.specs.Laws.{ValueUses, GroupsUsed}
use Rattle.lowered_group_checks.proofs.Used.{UsesAt, here, there, includes_one, includes_more, nothing_used, fewer, then_used, last_used, used_then, idle_then, through_used, through_idle}
use Rattle.lowered_group_checks.proofs.FoldsUsed.{aggregated_used}

-- ---- by group columns

sorted_used : (b : Base) (columns : List ColumnRef) (k : ℕ) → UsesAt ((sorted b columns k).told.vector ∷ []) (b.vector ∷ []) (sorted b columns) k
sorted_used b columns k =
    let order = numbered (codes "order") k in
    let name = numbered (codes "sorted") (k + 1) in
    idle_then (codes "order") (op.Order b.vector mark out (map (λ c. ascending (path_in b c)) columns)) (λ order. make (codes "sorted") (at_places b.vector order) >>= λ rows. tell (moved_to rows b)) k
    (name ∷ []) (b.vector ∷ []) refl
    (used_then (codes "sorted") (at_places b.vector order) (λ rows. tell (moved_to rows b)) (k + 1) (name ∷ []) (name ∷ []) (b.vector ∷ []) (here name [])
    (includes_one (b.vector ∷ order ∷ name ∷ []) b.vector (here b.vector (order ∷ name ∷ []))) (nothing_used (name ∷ [])))

run_idle : (rows : Base) (wanted : List Label) (runs : Label) (c : ℕ × ColumnRef) (k : ℕ) → UsesAt wanted wanted (run_by rows runs c) k
run_idle rows wanted runs (j, c) k =
    idle_then (codes "runs") (with_attribute runs (run_path j) rows.vector (path_in rows c)) tell k wanted wanted refl (nothing_used wanted)

runs_idle : (rows : Base) (columns : List ColumnRef) (wanted : List Label) (k : ℕ) → UsesAt wanted wanted (runs_of rows columns) k
runs_idle rows columns wanted k =
    idle_then (codes "runs") (op.Project rows.vector mark (codes ".run.mark")) (λ runs. through (run_by rows) runs (enumerate_from 0 columns)) k wanted wanted refl
    (through_idle (run_by rows) wanted (run_idle rows wanted) (enumerate_from 0 columns) (numbered (codes "runs") k) (k + 1))

run_groups_used : (rows : Base) (runs : Label) (k : ℕ) → UsesAt ((run_groups rows runs k).told ∷ []) (rows.vector ∷ []) (run_groups rows runs) k
run_groups_used rows runs k =
    let marks = numbered (codes "marks") k in
    let firsts = numbered (codes "firsts") (k + 1) in
    let name = numbered (codes "groups") (k + 1 + 1) in
    used_then (codes "marks") (with_attribute runs val rows.vector mark) (λ marks. make (codes "firsts") (fold_of fold.Max (fold_args marks)) >>= λ firsts. make (codes "groups") (op.Project firsts out mark)) k
    (name ∷ []) (marks ∷ []) (rows.vector ∷ []) (here marks []) (includes_one (runs ∷ rows.vector ∷ marks ∷ []) rows.vector (there runs rows.vector (rows.vector ∷ marks ∷ []) (here rows.vector (marks ∷ []))))
    (used_then (codes "firsts") (fold_of fold.Max (fold_args marks)) (λ firsts. make (codes "groups") (op.Project firsts out mark)) (k + 1) (name ∷ []) (firsts ∷ []) (marks ∷ []) (here firsts [])
    (includes_one (marks ∷ firsts ∷ []) marks (here marks (firsts ∷ [])))
    (last_used (codes "groups") (op.Project firsts out mark) (k + 1 + 1) (name ∷ []) (firsts ∷ []) (here name []) (includes_one (firsts ∷ name ∷ []) firsts (here firsts (name ∷ [])))))

key_used : (rows : Base) (zero : Label) (groups : Base) (c : ℕ × ColumnRef) (k : ℕ) → UsesAt ((key_of rows zero groups c k).told.vector ∷ []) (groups.vector ∷ []) (key_of rows zero groups c) k
key_used rows zero groups (j, c) k =
    let key = numbered (codes "key") k in
    let name = numbered (codes "groups") (k + 1) in
    used_then (codes "key") (statements.pair pair.Add (attribute zero out) (attribute rows.vector (path_in rows c)))
    (λ key. make (codes "groups") (with_attribute groups.vector (key_path j) key out) >>= λ vector. tell (with_column vector c (key_path j) groups)) k
    (name ∷ []) (key ∷ groups.vector ∷ []) (groups.vector ∷ []) (here key (groups.vector ∷ []))
    (includes_one (zero ∷ rows.vector ∷ key ∷ groups.vector ∷ []) groups.vector
    (there zero groups.vector (rows.vector ∷ key ∷ groups.vector ∷ []) (there rows.vector groups.vector (key ∷ groups.vector ∷ []) (there key groups.vector (groups.vector ∷ []) (here groups.vector [])))))
    (used_then (codes "groups") (with_attribute groups.vector (key_path j) key out) (λ vector. tell (with_column vector c (key_path j) groups)) (k + 1) (name ∷ []) (name ∷ []) (key ∷ groups.vector ∷ []) (here name [])
    (includes_more (groups.vector ∷ key ∷ name ∷ []) key (groups.vector ∷ []) (there groups.vector key (key ∷ name ∷ []) (here key (name ∷ []))) (includes_one (groups.vector ∷ key ∷ name ∷ []) groups.vector (here groups.vector (key ∷ name ∷ []))))
    (nothing_used (name ∷ [])))

-- the folding behind the sorted rows
abbrev behind_sorted : List ColumnRef → Base → Writer Folding
behind_sorted columns rows = do
  nought ← nought_at rows.vector
  runs ← runs_of rows columns
  vector ← run_groups rows runs
  zero ← nought_at vector
  groups ← through (key_of rows zero) (marked_alone vector) (enumerate_from 0 columns)
  tell (record { rows = rows; nought = nought; runs = runs; first = None; groups = groups; zero = zero })

abbrev behind_runs : List ColumnRef → Base → Label → Label → Writer Folding
behind_runs columns rows nought runs = do
  vector ← run_groups rows runs
  zero ← nought_at vector
  groups ← through (key_of rows zero) (marked_alone vector) (enumerate_from 0 columns)
  tell (record { rows = rows; nought = nought; runs = runs; first = None; groups = groups; zero = zero })

behind_runs_used : (columns : List ColumnRef) (rows : Base) (nought runs : Label) (k : ℕ) → UsesAt ((behind_runs columns rows nought runs k).told.groups.vector ∷ []) (rows.vector ∷ []) (behind_runs columns rows nought runs) k
behind_runs_used columns rows nought runs k =
    let g = run_groups rows runs k in
    let zero = numbered (codes "nought") g.next in
    let keys = through (key_of rows zero) (marked_alone g.told) (enumerate_from 0 columns) in
    let w = keys (g.next + 1) in
    let end : Base → Writer Folding = λ groups. tell (record { rows = rows; nought = nought; runs = runs; first = None; groups = groups; zero = zero }) in
    let behind_zero : Label → Writer Folding = λ zero. through (key_of rows zero) (marked_alone g.told) (enumerate_from 0 columns) >>= λ groups. tell (record { rows = rows; nought = nought; runs = runs; first = None; groups = groups; zero = zero }) in
    let behind_groups : Label → Writer Folding = λ vector. nought_at vector >>= λ zero. through (key_of rows zero) (marked_alone vector) (enumerate_from 0 columns) >>= λ groups. tell (record { rows = rows; nought = nought; runs = runs; first = None; groups = groups; zero = zero }) in
    then_used behind_groups
    (w.told.vector ∷ []) (g.told ∷ []) (rows.vector ∷ []) (run_groups rows runs) k (run_groups_used rows runs k)
    (idle_then (codes "nought") (statements.pair pair.Greater (attribute g.told mark) (attribute g.told mark))
    behind_zero g.next
    (w.told.vector ∷ []) (g.told ∷ []) refl
    (then_used end (w.told.vector ∷ []) (w.told.vector ∷ []) (g.told ∷ []) keys (g.next + 1)
    (through_used (λ (b : Base). b.vector) (key_of rows zero) (key_used rows zero) (enumerate_from 0 columns) (marked_alone g.told) (g.next + 1))
    (nothing_used (w.told.vector ∷ []))))

behind_sorted_used : (columns : List ColumnRef) (rows : Base) (k : ℕ) → UsesAt ((behind_sorted columns rows k).told.groups.vector ∷ []) (rows.vector ∷ []) (behind_sorted columns rows) k
behind_sorted_used columns rows k =
    let nought = numbered (codes "nought") k in
    let u = runs_of rows columns (k + 1) in
    let wanted = (behind_runs columns rows nought u.told u.next).told.groups.vector ∷ [] in
    idle_then (codes "nought") (statements.pair pair.Greater (attribute rows.vector mark) (attribute rows.vector mark)) (λ nought. runs_of rows columns >>= behind_runs columns rows nought) k wanted (rows.vector ∷ []) refl
    (then_used (behind_runs columns rows nought) wanted (rows.vector ∷ []) (rows.vector ∷ []) (runs_of rows columns) (k + 1) (runs_idle rows columns (rows.vector ∷ []) (k + 1))
    (behind_runs_used columns rows nought u.told u.next))

by_columns_used : (b : Base) (columns : List ColumnRef) (k : ℕ) → UsesAt ((by_columns b columns k).told.groups.vector ∷ []) (b.vector ∷ []) (by_columns b columns) k
by_columns_used b columns k =
    let r = sorted b columns k in
    then_used (behind_sorted columns) ((behind_sorted columns r.told r.next).told.groups.vector ∷ []) (r.told.vector ∷ []) (b.vector ∷ []) (sorted b columns) k (sorted_used b columns k)
    (behind_sorted_used columns r.told r.next)

-- ---- as one group

abbrev one_folding : Base → Label → Label → Label → Label → Label → Folding
one_folding b nought runs first groups zero = record { rows = b; nought = nought; runs = runs; first = Some first; groups = marked_alone groups; zero = zero }

as_one_idle : (b : Base) (wanted : List Label) (k : ℕ) → UsesAt wanted wanted (as_one b) k
as_one_idle b wanted k =
    let nought = numbered (codes "nought") k in
    let runs = numbered (codes "runs") (k + 1) in
    let first = numbered (codes "first") (k + 1 + 1) in
    let groups = numbered (codes "groups") (k + 1 + 1 + 1) in
    idle_then (codes "nought") (statements.pair pair.Greater (attribute b.vector mark) (attribute b.vector mark))
    (λ nought. one_run b.vector >>= λ runs. one_place (codes "first") out zeros >>= λ first. one_place (codes "groups") mark ones >>= λ groups. nought_at groups >>= λ zero. tell (one_folding b nought runs first groups zero)) k wanted wanted refl
    (idle_then (codes "runs") (op.Range (size.Of b.vector) run zeros)
    (λ runs. one_place (codes "first") out zeros >>= λ first. one_place (codes "groups") mark ones >>= λ groups. nought_at groups >>= λ zero. tell (one_folding b nought runs first groups zero)) (k + 1) wanted wanted refl
    (idle_then (codes "first") (op.Range (size.Number 1) out zeros)
    (λ first. one_place (codes "groups") mark ones >>= λ groups. nought_at groups >>= λ zero. tell (one_folding b nought runs first groups zero)) (k + 1 + 1) wanted wanted refl
    (idle_then (codes "groups") (op.Range (size.Number 1) mark ones)
    (λ groups. nought_at groups >>= λ zero. tell (one_folding b nought runs first groups zero)) (k + 1 + 1 + 1) wanted wanted refl
    (idle_then (codes "nought") (statements.pair pair.Greater (attribute groups mark) (attribute groups mark))
    (λ zero. tell (one_folding b nought runs first groups zero)) (k + 1 + 1 + 1 + 1) wanted wanted refl (nothing_used wanted)))))

-- ---- aggregates

module _ (values : ValueUses) (texts : List Bytes) (f : Folding) where
  argument_used : (o : Option TypedExpr) (k : ℕ) → UsesAt ((argument texts f o k).told ∷ []) (f.rows.vector ∷ []) (argument texts f o) k
  argument_used None k =
      let name = numbered (codes "all") k in
      last_used (codes "all") (statements.pair pair.Equals (attribute f.rows.vector mark) (attribute f.rows.vector mark)) k (name ∷ []) (f.rows.vector ∷ []) (here name [])
      (includes_one (f.rows.vector ∷ f.rows.vector ∷ name ∷ []) f.rows.vector (here f.rows.vector (f.rows.vector ∷ name ∷ [])))
  argument_used (Some e) k = values texts (codes "argument") f.rows e k

  aggregate_used : (groups : Base) (a : ℕ × Aggregate) (k : ℕ) → UsesAt ((aggregate_of texts f groups a k).told.vector ∷ []) (f.rows.vector ∷ groups.vector ∷ []) (aggregate_of texts f groups a) k
  aggregate_used groups (n, a) k =
      let v = argument texts f a.argument k in
      let x = aggregated f a.kind v.told v.next in
      let name = numbered (codes "groups") x.next in
      let end = λ (vector : Label). tell (with_aggregate vector n (aggregate_path n) groups) in
      let put = λ (x : Label). make (codes "groups") (with_attribute groups.vector (aggregate_path n) x out) >>= end in
      then_used (λ value. aggregated f a.kind value >>= put) (name ∷ []) (v.told ∷ groups.vector ∷ []) (f.rows.vector ∷ groups.vector ∷ []) (argument texts f a.argument) k
      (beside (v.told ∷ []) (f.rows.vector ∷ []) (groups.vector ∷ []) v.statements (argument_used a.argument k))
      (then_used put (name ∷ []) (x.told ∷ groups.vector ∷ []) (v.told ∷ groups.vector ∷ []) (aggregated f a.kind v.told) v.next
      (beside (x.told ∷ []) (v.told ∷ []) (groups.vector ∷ []) x.statements (aggregated_used f a.kind v.told v.next))
      (used_then (codes "groups") (with_attribute groups.vector (aggregate_path n) x.told out) end x.next (name ∷ []) (name ∷ []) (x.told ∷ groups.vector ∷ []) (here name [])
      (includes_more (groups.vector ∷ x.told ∷ name ∷ []) x.told (groups.vector ∷ []) (there groups.vector x.told (x.told ∷ name ∷ []) (here x.told (name ∷ [])))
      (includes_one (groups.vector ∷ x.told ∷ name ∷ []) groups.vector (here groups.vector (x.told ∷ name ∷ []))))
      (nothing_used (name ∷ []))))

  -- an aggregate reaches the groups, and the rows
  to_groups : (groups : Base) (a : ℕ × Aggregate) (k : ℕ) → UsesAt ((aggregate_of texts f groups a k).told.vector ∷ []) (groups.vector ∷ []) (aggregate_of texts f groups a) k
  to_groups groups a k =
      fewer ((aggregate_of texts f groups a k).told.vector ∷ []) (f.rows.vector ∷ groups.vector ∷ []) (groups.vector ∷ []) (aggregate_of texts f groups a) k
      (includes_one (f.rows.vector ∷ groups.vector ∷ []) groups.vector (there f.rows.vector groups.vector (groups.vector ∷ []) (here groups.vector []))) (aggregate_used groups a k)

  to_rows : (groups : Base) (a : ℕ × Aggregate) (k : ℕ) → UsesAt ((aggregate_of texts f groups a k).told.vector ∷ []) (f.rows.vector ∷ []) (aggregate_of texts f groups a) k
  to_rows groups a k =
      fewer ((aggregate_of texts f groups a k).told.vector ∷ []) (f.rows.vector ∷ groups.vector ∷ []) (f.rows.vector ∷ []) (aggregate_of texts f groups a) k
      (includes_one (f.rows.vector ∷ groups.vector ∷ []) f.rows.vector (here f.rows.vector (groups.vector ∷ []))) (aggregate_used groups a k)

  aggregates_used : (more_of : List (ℕ × Aggregate)) (groups : Base) (k : ℕ) → UsesAt ((through (aggregate_of texts f) groups more_of k).told.vector ∷ []) (groups.vector ∷ []) (through (aggregate_of texts f) groups more_of) k
  aggregates_used more_of groups k = through_used (λ (b : Base). b.vector) (aggregate_of texts f) to_groups more_of groups k

  some_used : (a : ℕ × Aggregate) (more_of : List (ℕ × Aggregate)) (groups : Base) (k : ℕ) → UsesAt ((through (aggregate_of texts f) groups (a ∷ more_of) k).told.vector ∷ []) (f.rows.vector ∷ []) (through (aggregate_of texts f) groups (a ∷ more_of)) k
  some_used a more_of groups k =
      let w = aggregate_of texts f groups a k in
      then_used (λ next. through (aggregate_of texts f) next more_of) ((through (aggregate_of texts f) w.told more_of w.next).told.vector ∷ []) (w.told.vector ∷ []) (f.rows.vector ∷ []) (aggregate_of texts f groups a) k (to_rows groups a k)
      (aggregates_used more_of w.told w.next)

abbrev with_all : List Bytes → List Aggregate → Folding → Writer Base
with_all texts aggregates f = through (aggregate_of texts f) f.groups (enumerate_from 0 aggregates)

pub groups_used : ValueUses → GroupsUsed
groups_used values texts b [] [] k h = absurd (let never : false ≡ true = h in cc)
groups_used values texts b [] (a ∷ aggregates) k h =
    let w = as_one b k in
    let wanted = ((with_all texts (a ∷ aggregates) w.told w.next).told.vector ∷ []) in
    then_used (with_all texts (a ∷ aggregates)) wanted (b.vector ∷ []) (b.vector ∷ []) (as_one b) k (as_one_idle b (b.vector ∷ []) k)
    (some_used values texts w.told (0, a) (enumerate_from 1 aggregates) w.told.groups w.next)
groups_used values texts b (c ∷ columns) aggregates k h =
    let w = by_columns b (c ∷ columns) k in
    let wanted = ((with_all texts aggregates w.told w.next).told.vector ∷ []) in
    then_used (with_all texts aggregates) wanted (w.told.groups.vector ∷ []) (b.vector ∷ []) (by_columns b (c ∷ columns)) k (by_columns_used b (c ∷ columns) k)
    (aggregates_used values texts w.told (enumerate_from 0 aggregates) w.told.groups w.next)

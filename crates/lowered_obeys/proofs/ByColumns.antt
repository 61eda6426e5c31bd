-- Groups by columns: the rows are sorted by them, and groups are found by one fold of the mark in their runs.
use Rattle.std.proofs.Common.{◌≡◌, ℕ, ◌<◌, ◌≤◌, true, List, [], ◌∷◌, ◌++◌, map, length, get_or, append_assoc, refl, sym, ap, ◌∙◌, subst, arith, codes, Some, None}
use Rattle.std.specs.Prelude.{All}
use Rattle.std.specs.List.{list_any, enumerate_from}
use Rattle.std.proofs.lemmas.Bool.{and_from}
use Rattle.std.proofs.lemmas.List.Elements.{All-nil, All-append}
use Rattle.control_vectors.specs.Controls.{Control}
use Rattle.control_vectors.specs.declared.PairKind.TheVariants as pair
use Rattle.programs.specs.declared.family.FoldOperator.TheVariants as fold
use Rattle.programs.specs.declared.op.Op.TheVariants as op
use Rattle.programs.specs.declared.op.Statement.{Statement}
use Rattle.programs.specs.Families.{Fold}
use Rattle.programs.specs.Mentions.{Label}
use Rattle.programs.specs.Outlines.{Shapes}
use Rattle.typed_trees.specs.declared.typed.ColumnRef.{ColumnRef}
use Rattle.typed_trees.specs.Names.{same_column}
use Rattle.expr_lower.specs.declared.places.ColumnPlace.{ColumnPlace}
use Rattle.program_writers.specs.Names.{IsBelow}
use Rattle.program_writers.specs.Statements.{out, mark, val, attribute, fold_args, with_attribute, at_places}
use Rattle.program_writers.specs.Statements as statements
use Rattle.program_writers.specs.Writers.{tell, ◌>>=◌, through, make, numbered, statement}
use Rattle.plan_programs.specs.Groups.{nought_at, sorted, runs_of, key_path, key_of, first_marks, run_groups, keyed, keyed_groups, by_columns}
use Rattle.plan_programs.specs.Sites.{Base, marked_alone, moved_to, path_in, with_column}
use Rattle.lowered_stages.specs.Parts.{SamePlaces}
use Rattle.attribute_origins.specs.Traces.{Origin, origin, Trace, Traced, Traces, upserted}
use Rattle.attribute_origins.specs.Origins.{traced}
use Rattle.plan_obeyed.specs.Columns.{same_origin, carry_none}
use Rattle.plan_obeyed.specs.Runs.{fold_by, is_one, are_groups}
use Rattle.plan_obeyed.specs.Chains.{is_fold, folds_mark}
use Rattle.lowered_obeys.proofs.Traced.{Knows, made_as, moved, paths_of, upsert_traced}
use Rattle.lowered_obeys.proofs.Leaving.{Agrees, Leaves, knows_still, agrees_then, then_leaves, less_leaves, Each, tells, then_each, through_leaves, make_leaves, MakesIt}
use Rattle.lowered_obeys.proofs.Calm.{Calm, HasOut, plain_leaves, pair_leaves}
use Rattle.lowered_obeys.proofs.Standing.{HasPlace, StandsIn, stands_still, alone_there}
use Rattle.lowered_obeys.proofs.Kept.{IsMoved, moved_leaves}
use Rattle.lowered_obeys.proofs.Folding.{HasRuns, runs_still, read_of, read_beside, finds, marks, Brought}
use Rattle.lowered_obeys.proofs.Sorting.{BeginsSorted, order_then, origin_same}
use Rattle.lowered_obeys.proofs.Running.{IsOwn, AreSorted, sorted_still, moved_own, mark_own, HasMarkedRuns, runs_leave}

-- ---- one fold of the mark among calm statements

pub record OneMark (select : Control) (groups : List Origin) (final : Traces) (l : List Statement) : Type 0 where
  pub before : List Statement
  pub one : Statement
  pub after : List Statement
  pub is : l ≡ before ++ one ∷ after
  pub calm_before : All (Calm select groups final) before
  pub calm_after : All (Calm select groups final) after
  pub brought : Brought select groups final one
  pub found : finds final groups one ≡ true

mark_behind : (select : Control) (groups : List Origin) (final : Traces) (a l : List Statement) → All (Calm select groups final) a → OneMark select groups final l → OneMark select groups final (a ++ l)
mark_behind select groups final a l h g = record {
  before = a ++ g.before;
  one = g.one;
  after = g.after;
  is = ap (λ (t : List Statement). a ++ t) g.is ∙ sym (append_assoc a g.before (g.one ∷ g.after));
  calm_before = All-append (Calm select groups final) a g.before h g.calm_before;
  calm_after = g.calm_after;
  brought = g.brought;
  found = g.found;
}

mark_before : (select : Control) (groups : List Origin) (final : Traces) (l a : List Statement) → OneMark select groups final l → All (Calm select groups final) a → OneMark select groups final (l ++ a)
mark_before select groups final l a g h = record {
  before = g.before;
  one = g.one;
  after = g.after ++ a;
  is = ap (λ (t : List Statement). t ++ a) g.is ∙ append_assoc g.before (g.one ∷ g.after) a;
  calm_before = g.calm_before;
  calm_after = All-append (Calm select groups final) g.after a g.calm_after h;
  brought = g.brought;
  found = g.found;
}

module _ (T : Shapes) (select : Control) (groups : List Origin) (m : ℕ) (place : ColumnRef → Origin) where
  -- ---- the rows sorted

  sorted_leaves : (b : Base) (columns : List ColumnRef) (k : ℕ) (made : Traces) → All (HasPlace b) columns → groups ≡ map place columns → 0 < length groups → StandsIn m place b k made
      → Leaves T (sorted b columns) k made (λ rows next after. AreSorted m place rows next after × SamePlaces b rows) (BeginsSorted select groups (Each (Calm select groups)))
  sorted_leaves b columns k made can are some h =
      order_then T select groups m place b columns (λ order. make (codes "sorted") (at_places b.vector order) >>= λ rows. tell (moved_to rows b)) k made (λ rows next after. AreSorted m place rows next after × SamePlaces b rows) (Each (Calm select groups)) h can are some
      (λ order next between u le e len same.
      let again = stands_still m place b k next made between le same h in
      less_leaves T (make (codes "sorted") (at_places b.vector order) >>= λ rows. tell (moved_to rows b)) next between (IsMoved m place b again.vector.traces u.len) (λ rows l after. AreSorted m place rows l after × SamePlaces b rows) (Each (Calm select groups)) (Each (Calm select groups))
      (λ rows l after le2 same2 x. (record { stands = x.same.stands; own = subst (λ (ts : List Trace). All (IsOwn rows.vector x.same.stands.vector.len) ts) (sym x.traces_are) (subst (λ (n : ℕ). All (IsOwn rows.vector n) (map (moved rows.vector again.vector.traces u.len) (paths_of again.vector.traces))) (sym x.len_is) (moved_own rows.vector again.vector.traces u.len (paths_of again.vector.traces))) }, x.same.same)) (λ final l x. x)
      (moved_leaves T select groups m place (codes "sorted") order b next between u refl again e))

  -- ---- where groups are

  fold_finds : (final : Traces) (rows : Base) (runs values name : Label) (o : _) (k j : ℕ) (made made2 : Traces) (h : AreSorted m place rows k made) (g : HasMarkedRuns T select groups m place rows runs j made2) → Agrees j made2 final
      → Knows final values (made_as o g.runs_are.vector.len (upserted g.runs_are.vector.len val g.runs_are.vector.traces (Some h.stands.marks.one))) → finds final groups (statement name (op.FoldMax (fold_args values))) ≡ true
  fold_finds final rows runs values name o k j made made2 h g same e =
      let v = g.runs_are.vector in
      let t = h.stands.marks.one in
      let own = mark_own m place rows k made h in
      let here : t.origin ≡ origin rows.vector mark = own.here ∙ ap (origin rows.vector) h.stands.marks.path in
      let is : fold_by final (Fold fold.Max (fold_args values)) ≡ Some (read_of fold.Max v.len t v.traces) = read_beside final fold.Max values o v.len t v.traces g.runs_are.inside g.runs_are.beside g.runs_are.whole e in
      let mine : is_one (λ (u : Trace). same_origin u.origin t.origin) (carry_none groups v.traces) ≡ true =
      ap (is_one (λ (u : Trace). same_origin u.origin t.origin)) g.marks ∙ ap (λ (x : Origin). same_origin x t.origin) g.from ∙ ap (same_origin (origin rows.vector mark)) here ∙ origin_same (origin rows.vector mark) in
      ap (is_fold (folds_mark final groups)) is ∙ and_from (are_groups final groups v.len v.traces) _ (g.runs_are.are final same) mine

  marked_leaves : (rows : Base) (runs : Label) (k : ℕ) (made : Traces) → AreSorted m place rows k made → HasMarkedRuns T select groups m place rows runs k made → Leaves T (run_groups rows runs) k made (λ vector next after. HasRuns groups runs next after) (OneMark select groups)
  marked_leaves rows runs k made h g =
      let upsert = with_attribute runs val rows.vector mark in
      let there = alone_there h.stands.vector.traces mark h.stands.marks.one h.stands.marks.alone h.stands.marks.path in
      then_leaves T (make (codes "marks") upsert) first_marks k made (MakesIt k (λ n. traced T made n upsert)) (λ vector next after. HasRuns groups runs next after) (OneMark select groups) (Each (Calm select groups)) (OneMark select groups)
      (mark_behind select groups)
      (plain_leaves T select groups (codes "marks") upsert k made refl refl refl)
      (λ values next between le p same.
      let known : Knows between values (made_as upsert g.runs_are.vector.len (upserted g.runs_are.vector.len val g.runs_are.vector.traces (Some h.stands.marks.one))) =
      p.known ∙ ap (λ (v : Traced). Some v) (upsert_traced T made values runs val rows.vector mark g.runs_are.vector h.stands.vector h.stands.marks.one g.runs_are.known h.stands.known there) in
      let o = op.FoldMax (fold_args values) in
      then_leaves T (make (codes "firsts") o) (λ firsts. make (codes "groups") (op.Project firsts out mark)) next between (MakesIt next (λ n. traced T between n o)) (λ vector last after. HasRuns groups runs last after) (OneMark select groups) (OneMark select groups) (Each (Calm select groups))
      (mark_before select groups)
      (make_leaves T (codes "firsts") o next between (OneMark select groups) refl refl
      (λ final same2 there2.
      let s = statement (numbered (codes "firsts") next) o in
      let found = fold_finds final rows runs values (numbered (codes "firsts") next) upsert k k made made h g (agrees_then k next made between final le same same2) (knows_still next between final values _ same2 p.below known) in
      record { before = []; one = s; after = []; is = refl; calm_before = All-nil (Calm select groups final); calm_after = All-nil (Calm select groups final); brought = record { selects = refl; orders = refl; folds = λ x. marks refl found }; found = found }))
      (λ firsts last after le2 q same2.
      let o2 = op.Project firsts out mark in
      less_leaves T (make (codes "groups") o2) last after (MakesIt last (λ n. traced T after n o2)) (λ vector l now. HasRuns groups runs l now) (Each (Calm select groups)) (Each (Calm select groups))
      (λ vector l now le3 same3 x. runs_still groups runs last l after now le3 same3 (runs_still groups runs next last between after le2 same2 (runs_still groups runs k next made between le same g.runs_are))) (λ final l x. x)
      (plain_leaves T select groups (codes "groups") o2 last after refl refl refl)))

  -- ---- the values of the group columns

  key_leaves : (rows : Base) (zero : Label) (b : Base) (j : ℕ) (c : ColumnRef) (runs : Label) (k : ℕ) (made : Traces) → HasRuns groups runs k made → Leaves T (key_of rows zero b (j, c)) k made (λ d next after. HasRuns groups runs next after) (Each (Calm select groups))
  key_leaves rows zero b j c runs k made h =
      then_each T (Calm select groups) (make (codes "key") (statements.pair pair.Add (attribute zero out) (attribute rows.vector (path_in rows c)))) (λ key. make (codes "groups") (with_attribute b.vector (key_path j) key out) >>= λ vector. tell (with_column vector c (key_path j) b)) k made
      HasOut (λ d next after. HasRuns groups runs next after) (pair_leaves T select groups (codes "key") pair.Add (attribute zero out) (attribute rows.vector (path_in rows c)) k made refl)
      (λ key next between le x same.
      let o = with_attribute b.vector (key_path j) key out in
      then_each T (Calm select groups) (make (codes "groups") o) (λ vector. tell (with_column vector c (key_path j) b)) next between (MakesIt next (λ n. traced T between n o)) (λ d l after. HasRuns groups runs l after)
      (plain_leaves T select groups (codes "groups") o next between refl refl refl)
      (λ vector last after le2 y same2. tells T (Calm select groups) (with_column vector c (key_path j) b) last after (λ d l now. HasRuns groups runs l now) (runs_still groups runs next last between after le2 same2 (runs_still groups runs k next made between le same h))))

  keyed_leaves : (rows : Base) (columns : List ColumnRef) (nought runs vector : Label) (k : ℕ) (made : Traces) → HasRuns groups runs k made → Leaves T (keyed rows columns nought runs vector) k made (λ f next after. HasRuns groups f.runs next after) (Each (Calm select groups))
  keyed_leaves rows columns nought runs vector k made h =
      then_each T (Calm select groups) (nought_at vector) (λ zero. through (key_of rows zero) (marked_alone vector) (enumerate_from 0 columns) >>= λ groups. tell (record { rows = rows; nought = nought; runs = runs; first = None; groups = groups; zero = zero })) k made
      HasOut (λ f next after. HasRuns groups f.runs next after) (pair_leaves T select groups (codes "nought") pair.Greater (attribute vector mark) (attribute vector mark) k made refl)
      (λ zero next between le x same.
      let g = runs_still groups runs k next made between le same h in
      then_each T (Calm select groups) (through (key_of rows zero) (marked_alone vector) (enumerate_from 0 columns)) (λ groups. tell (record { rows = rows; nought = nought; runs = runs; first = None; groups = groups; zero = zero })) next between
      (λ b l after. HasRuns groups runs l after) (λ f l after. HasRuns groups f.runs l after)
      (through_leaves T (Calm select groups) (key_of rows zero) (λ rest b l after. HasRuns groups runs l after) (λ e rest b l after y. key_leaves rows zero b e.0 e.1 runs l after y) (enumerate_from 0 columns) (marked_alone vector) next between g)
      (λ b last after le2 y same2. tells T (Calm select groups) _ last after (λ f l now. HasRuns groups f.runs l now) y))

  -- ---- all of it

  pub columns_leave : (b : Base) (c : ColumnRef) (columns : List ColumnRef) (k : ℕ) (made : Traces) → m ≤ k → All (λ o. IsBelow m o.vector) groups → groups ≡ map place (c ∷ columns) → length (c ∷ columns) ≤ 4 → All (HasPlace b) (c ∷ columns) → StandsIn m place b k made
      → Leaves T (by_columns b (c ∷ columns)) k made (λ f next after. HasRuns groups f.runs next after) (BeginsSorted select groups (OneMark select groups))
  columns_leave b c columns k made above below are few can h =
      let cs = c ∷ columns in
      let some : 0 < length groups = let e = ap length are in omega (arith, e) in
      then_leaves T (sorted b cs) (λ rows. nought_at rows.vector >>= λ nought. runs_of rows cs >>= λ runs. keyed_groups rows cs nought runs) k made (λ rows next after. AreSorted m place rows next after × SamePlaces b rows) (λ f next after. HasRuns groups f.runs next after)
      (BeginsSorted select groups (OneMark select groups)) (BeginsSorted select groups (Each (Calm select groups))) (OneMark select groups)
      (λ final a l x y. record { order = x.order; rest = x.rest ++ l; is = ap (λ (t : List Statement). t ++ l) x.is; sorts = x.sorts; behind = mark_behind select groups final x.rest l x.behind y })
      (sorted_leaves b cs k made can are some h)
      (λ rows next between le (sorted_rows, places) same.
      let there : All (HasPlace rows) cs = λ i d less. subst (λ (ps : List ColumnPlace). list_any (λ p. same_column p.column (get_or cs i d)) ps ≡ true) (sym places.columns) (can i d less) in
      then_leaves T (nought_at rows.vector) (λ nought. runs_of rows cs >>= λ runs. keyed_groups rows cs nought runs) next between HasOut (λ f l after. HasRuns groups f.runs l after) (OneMark select groups) (Each (Calm select groups)) (OneMark select groups) (mark_behind select groups)
      (pair_leaves T select groups (codes "nought") pair.Greater (attribute rows.vector mark) (attribute rows.vector mark) next between refl)
      (λ nought last after le2 x same2.
      let again = sorted_still m place rows next last between after le2 same2 sorted_rows in
      then_leaves T (runs_of rows cs) (keyed_groups rows cs nought) last after (HasMarkedRuns T select groups m place rows) (λ f l now. HasRuns groups f.runs l now) (OneMark select groups) (Each (Calm select groups)) (OneMark select groups) (mark_behind select groups)
      (runs_leave T select groups m place rows c columns last after below are few there again)
      (λ runs end now le3 y same3.
      then_leaves T (run_groups rows runs) (keyed rows cs nought runs) end now (λ vector l here. HasRuns groups runs l here) (λ f l here. HasRuns groups f.runs l here) (OneMark select groups) (OneMark select groups) (Each (Calm select groups)) (mark_before select groups)
      (marked_leaves rows runs end now (sorted_still m place rows last end after now le3 same3 again) y)
      (λ vector stop here le4 z same4. keyed_leaves rows cs nought runs vector stop here z))))

-- The runs of groups: those of the mark and of the group columns, of rows that are sorted.
use Rattle.std.proofs.Common.{◌≡◌, ℕ, ◌+◌, ◌<◌, ◌≤◌, ◌^◌, ◌==◌, Bool, true, false, not, ◌&&◌, ◌||◌, List, [], ◌∷◌, ◌++◌, map, length, get_or, append_assoc, append-nil, refl, sym, ap, ◌∙◌, subst, arith, if◌then◌else◌, codes, decimal, Option, Some, None, is_none}
use Rattle.std.specs.Prelude.{All, min}
use Rattle.std.specs.List.{list_any, enumerate_from}
use Rattle.std.specs.Str.{bytes_eq}
use Rattle.std.proofs.lemmas.Bool.{or_right}
use Rattle.std.proofs.lemmas.List.Elements.{All-nil, All-cons, All-head, All-tail, All-append, All-filter}
use Rattle.std.proofs.lemmas.List.Folds.{list_any_at, list_all-map}
use Rattle.std.proofs.lemmas.List.Sums.{list_all-from_AllPass}
use Rattle.control_vectors.specs.Controls.{Control}
use Rattle.key_paths.specs.Substructures.{is_at_or_below}
use Rattle.programs.specs.declared.op.Op.TheVariants as op
use Rattle.programs.specs.Mentions.{Label}
use Rattle.programs.specs.Moves.{moved as moved_path}
use Rattle.programs.specs.Outlines.{Shapes}
use Rattle.typed_trees.specs.declared.typed.ColumnRef.{ColumnRef}
use Rattle.program_writers.specs.Names.{IsBelow, IsFrom}
use Rattle.program_writers.specs.Statements.{mark, val, run, with_attribute}
use Rattle.program_writers.specs.Writers.{through, make}
use Rattle.program_writers.proofs.Numbers.{from_differs, below_more}
use Rattle.writer_checks.proofs.Routes.{path_laws}
use Rattle.plan_programs.specs.Groups.{run_path, run_by, runs_of}
use Rattle.plan_programs.specs.Sites.{Base, path_in}
use Rattle.attribute_origins.specs.Traces.{Origin, origin, Trace, Traced, Traces, trace_at, traces_below, handed, all_handed, comes_before, projected, upserted}
use Rattle.attribute_origins.specs.Origins.{traced}
use Rattle.attribute_origins.proofs.Listed.{merged_all}
use Rattle.plan_obeyed.specs.Columns.{same_origin, carries, carries_some, carry_all, carry_none}
use Rattle.plan_obeyed.specs.Runs.{is_one, is_mark, are_groups}
use Rattle.programs.specs.Merges.{merged}
use Rattle.lowered_obeys.proofs.Traced.{Knows, made_as, moved, project_traced, upsert_traced}
use Rattle.lowered_obeys.proofs.Leaving.{Agrees, Leaves, knows_still, less_leaves, Each, tells, then_each, MakesIt}
use Rattle.lowered_obeys.proofs.Calm.{Calm, plain_leaves}
use Rattle.lowered_obeys.proofs.Standing.{HasPlace, StandsIn}
use Rattle.lowered_obeys.proofs.Upserted.{entered_filter, entered_any}
use Rattle.lowered_obeys.proofs.Folding.{HasRuns, filter_all, all_handed_same, all_not}
use Rattle.lowered_obeys.proofs.Sorting.{origin_same, any_map}

-- ---- rows whose attributes are a Gather's own

pub record IsOwn (n : Label) (len : ℕ) (t : Trace) : Type 0 where
  pub reach : t.reach ≡ len
  pub control : t.control ≡ None
  pub here : t.origin ≡ origin n t.path

pub record AreSorted (m : ℕ) (place : ColumnRef → Origin) (rows : Base) (next : ℕ) (made : Traces) : Type 0 where
  pub stands : StandsIn m place rows next made
  pub own : All (IsOwn rows.vector stands.vector.len) stands.vector.traces

abbrev pub sorted_still : (m : ℕ) (place : ColumnRef → Origin) (rows : Base) (k l : ℕ) (made after : Traces) → k ≤ l → Agrees k made after → AreSorted m place rows k made → AreSorted m place rows l after
sorted_still m place rows k l made after le same h = record {
  stands = record { vector = h.stands.vector; known = knows_still k made after rows.vector h.stands.vector same h.stands.below h.stands.known; marks = h.stands.marks; columns = h.stands.columns; below = below_more k l rows.vector le h.stands.below };
  own = h.own;
}

pub moved_own : (n : Label) (traces : List Trace) (len : ℕ) (paths : List Label) → All (IsOwn n len) (map (moved n traces len) paths)
moved_own n traces len [] = All-nil (IsOwn n len)
moved_own n traces len (p ∷ paths) = All-cons (IsOwn n len) (moved n traces len p) (map (moved n traces len) paths) (record { reach = refl; control = refl; here = refl }) (moved_own n traces len paths)

-- an attribute that is found is one of them
pub at_found : (P : Trace → Type 0) (traces : List Trace) (p : Label) (t : Trace) → All P traces → trace_at traces p ≡ Some t → P t
at_found P [] p t h e = absurd cc
at_found P (u ∷ traces) p t h e = by (bytes_eq u.path p) e (λ g. at_found P traces p t (All-tail P u traces h) g)
  where
    by : (b : Bool) → (if b then Some u else trace_at traces p) ≡ Some t → (trace_at traces p ≡ Some t → P t) → P t
    by true g more = let same : u ≡ t = cc in subst P same (All-head P u traces h)
    by false g more = more g

one_found : (P : Trace → Type 0) (traces : List Trace) (p : Label) (t : Trace) → All P traces → traces_below traces p ≡ t ∷ [] → P t
one_found P traces p t h e = All-head P t [] (subst (All P) e (All-filter (λ (u : Trace). is_at_or_below u.path p) P traces h))

-- the mark of such rows
pub mark_own : (m : ℕ) (place : ColumnRef → Origin) (rows : Base) (k : ℕ) (made : Traces) (h : AreSorted m place rows k made) → IsOwn rows.vector h.stands.vector.len h.stands.marks.one
mark_own m place rows k made h = one_found (IsOwn rows.vector h.stands.vector.len) h.stands.vector.traces mark h.stands.marks.one h.own h.stands.marks.alone

-- ---- the runs, column by column

abbrev pub run_mark : Label
run_mark = codes ".run.mark"

pub record Running (groups : List Origin) (place : ColumnRef → Origin) (rows : Label) (len : ℕ) (done : ℕ) (columns : List ColumnRef) (runs : Label) (next : ℕ) (made : Traces) : Type 0 where
  pub vector : Traced
  pub known : Knows made runs vector
  pub below : IsBelow next runs
  pub len_is : vector.len ≡ len
  pub inside : All (λ t. is_at_or_below t.path run ≡ true) vector.traces
  pub beside : All (λ t. is_at_or_below t.path val ≡ false) vector.traces
  pub whole : All (λ t. t.reach ≡ len) vector.traces
  pub apart : All (λ t. (i : ℕ) → done ≤ i → i < 2 ^ 64 → is_at_or_below t.path (run_path i) ≡ false) vector.traces
  -- the mark alone carries no group column
  pub one : Trace
  pub marks : carry_none groups vector.traces ≡ one ∷ []
  pub plain : one.control ≡ None
  pub from : one.origin ≡ origin rows mark
  -- the columns so far are carried
  pub carried : All (λ c. list_any (carries (place c)) vector.traces ≡ true) columns

-- it carries none of the group columns, whose Loads have lesser numbers
none_carried : (m last : ℕ) (groups : List Origin) (t : Trace) → All (λ o. IsBelow m o.vector) groups → IsFrom m last t.root.vector → carries_some groups t ≡ false
none_carried m last [] t below from = refl
none_carried m last (o ∷ groups) t below from =
    ap (λ (b : Bool). (b && bytes_eq t.root.path o.path) || carries_some groups t) (from_differs m last o.vector t.root.vector (All-head (λ o. IsBelow m o.vector) o groups below) from)
    ∙ none_carried m last groups t (All-tail (λ o. IsBelow m o.vector) o groups below) from

module _ (T : Shapes) (select : Control) (groups : List Origin) (m : ℕ) (place : ColumnRef → Origin) (rows : Base) where
  first_leaves : (k : ℕ) (made : Traces) → All (λ o. IsBelow m o.vector) groups → (h : AreSorted m place rows k made) → Leaves T (make (codes "runs") (op.Project rows.vector mark run_mark)) k made (Running groups place rows.vector h.stands.vector.len 0 []) (Each (Calm select groups))
  first_leaves k made below h =
      let o = op.Project rows.vector mark run_mark in
      let v = h.stands.vector in
      let one = h.stands.marks.one in
      let own = mark_own m place rows k made h in
      let x : Trace = record one { path = run_mark; reach = min one.reach v.len } in
      let traces : projected v.len mark run_mark v.traces ≡ x ∷ [] =
      ap (map (λ (t : Trace). handed v.len (moved_path mark run_mark t.path) t)) h.stands.marks.alone ∙ ap (λ (p : Label). handed v.len (moved_path mark run_mark p) one ∷ []) h.stands.marks.path in
      less_leaves T (make (codes "runs") o) k made (MakesIt k (λ n. traced T made n o)) (Running groups place rows.vector v.len 0 []) (Each (Calm select groups)) (Each (Calm select groups))
      (λ name next after le same p. record {
        vector = made_as o v.len (x ∷ []);
        known = p.known ∙ ap (λ (u : Traced). Some u) (project_traced T made name rows.vector mark run_mark v h.stands.known) ∙ ap (λ (l : List Trace). Some (made_as o v.len l)) traces;
        below = p.below;
        len_is = refl;
        inside = All-cons (λ t. is_at_or_below t.path run ≡ true) x [] refl (All-nil (λ t. is_at_or_below t.path run ≡ true));
        beside = All-cons (λ t. is_at_or_below t.path val ≡ false) x [] refl (All-nil (λ t. is_at_or_below t.path val ≡ false));
        whole = All-cons (λ t. t.reach ≡ v.len) x [] (let r = own.reach in omega (arith, r)) (All-nil (λ t. t.reach ≡ v.len));
        apart = All-cons (λ t. (i : ℕ) → 0 ≤ i → i < 2 ^ 64 → is_at_or_below t.path (run_path i) ≡ false) x [] (λ i l s. refl) (All-nil (λ t. (i : ℕ) → 0 ≤ i → i < 2 ^ 64 → is_at_or_below t.path (run_path i) ≡ false));
        one = x;
        marks = ap (λ (b : Bool). if not b then x ∷ [] else []) (none_carried m h.stands.marks.last groups x below h.stands.marks.root);
        plain = own.control;
        from = own.here ∙ ap (origin rows.vector) h.stands.marks.path;
        carried = All-nil (λ c. list_any (carries (place c)) (x ∷ []) ≡ true);
      }) (λ final l z. z)
      (plain_leaves T select groups (codes "runs") o k made refl refl refl)

  -- ---- a column more

  beside_run : (j i : ℕ) → j < i → i < 2 ^ 64 → is_at_or_below (run_path j) (run_path i) ≡ false
  beside_run j i less small =
      path_laws.twos_apart (codes "run") (codes "g" ++ decimal j) (codes "g" ++ decimal i) refl (path_laws.numbered_flat (codes "g") j refl (omega (arith, less, small)))
      (path_laws.numbers_differ (codes "g") j i (omega (arith, less, small)) small (λ e. omega (arith, e, less)))

  run_leaves : (j : ℕ) (c : ColumnRef) (done : List ColumnRef) (runs : Label) (k : ℕ) (made : Traces) → j < 2 ^ 64 → HasPlace rows c → list_any (λ o. same_origin (place c) o) groups ≡ true → (h : AreSorted m place rows k made) → Running groups place rows.vector h.stands.vector.len j done runs k made
      → Leaves T (run_by rows runs (j, c)) k made (Running groups place rows.vector h.stands.vector.len (j + 1) (done ++ c ∷ [])) (Each (Calm select groups))
  run_leaves j c done runs k made small can member h g =
      let o = with_attribute runs (run_path j) rows.vector (path_in rows c) in
      let len = h.stands.vector.len in
      let at = h.stands.columns c can in
      let own = at_found (IsOwn rows.vector len) h.stands.vector.traces (path_in rows c) at.one h.own at.there in
      let v = g.vector in
      let x : Trace = handed v.len (run_path j) at.one in
      let now = merged comes_before (x ∷ []) v.traces in
      let kept : upserted v.len (run_path j) v.traces (Some at.one) ≡ now =
      ap (λ (l : List Trace). merged comes_before (x ∷ []) (all_handed v.len l)) (filter_all (λ (t : Trace). not (is_at_or_below t.path (run_path j))) v.traces (all_not (λ (t : Trace). is_at_or_below t.path (run_path j)) v.traces (λ i d l. g.apart i d l j (omega arith) small)))
      ∙ ap (merged comes_before (x ∷ [])) (all_handed_same v.len v.traces (λ i d l. g.whole i d l ∙ sym g.len_is)) in
      let reach : x.reach ≡ len = let r = own.reach in let n = g.len_is in omega (arith, r, n) in
      less_leaves T (make (codes "runs") o) k made (MakesIt k (λ n. traced T made n o)) (Running groups place rows.vector len (j + 1) (done ++ c ∷ [])) (Each (Calm select groups)) (Each (Calm select groups))
      (λ name next after le same p. record {
        vector = made_as o v.len now;
        known = p.known ∙ ap (λ (u : Traced). Some u) (upsert_traced T made name runs (run_path j) rows.vector (path_in rows c) v h.stands.vector at.one g.known h.stands.known at.there) ∙ ap (λ (l : List Trace). Some (made_as o v.len l)) kept;
        below = p.below;
        len_is = g.len_is;
        inside = more (λ t. is_at_or_below t.path run ≡ true) x v.traces refl g.inside;
        beside = more (λ t. is_at_or_below t.path val ≡ false) x v.traces refl g.beside;
        whole = more (λ t. t.reach ≡ len) x v.traces reach g.whole;
        apart = more (λ t. (i : ℕ) → j + 1 ≤ i → i < 2 ^ 64 → is_at_or_below t.path (run_path i) ≡ false) x v.traces (λ i l s. beside_run j i (omega (arith, l)) s) (λ a d less i l s. g.apart a d less i (omega (arith, l)) s);
        one = g.one;
        marks = entered_filter (λ t. not (carries_some groups t)) comes_before x v.traces (ap not (ap (λ (r : Origin). list_any (λ o. same_origin r o) groups) at.root ∙ member)) ∙ g.marks;
        plain = g.plain;
        from = g.from;
        carried = All-append (λ d. list_any (carries (place d)) now ≡ true) done (c ∷ [])
            (λ i d less. entered_any (carries (place (get_or done i d))) comes_before x v.traces ∙ or_right (carries (place (get_or done i d)) x) (list_any (carries (place (get_or done i d))) v.traces) (g.carried i d less))
            (All-cons (λ d. list_any (carries (place d)) now ≡ true) c [] (entered_any (carries (place c)) comes_before x v.traces ∙ ap (λ (b : Bool). b || list_any (carries (place c)) v.traces) (ap (λ (r : Origin). same_origin r (place c)) at.root ∙ origin_same (place c))) (All-nil (λ d. list_any (carries (place d)) now ≡ true)));
      }) (λ final l z. z)
      (plain_leaves T select groups (codes "runs") o k made refl refl refl)
    where
      more : (P : Trace → Type 0) (x : Trace) (traces : List Trace) → P x → All P traces → All P (merged comes_before (x ∷ []) traces)
      more P x traces h g = merged_all P comes_before (x ∷ []) traces (All-cons P x [] h (All-nil P)) g

  runs_loop : (columns : List ColumnRef) (j : ℕ) (done : List ColumnRef) (runs : Label) (k : ℕ) (made : Traces) → j + length columns ≤ 2 ^ 63 → All (HasPlace rows) columns → All (λ c. list_any (λ o. same_origin (place c) o) groups ≡ true) columns → (h : AreSorted m place rows k made)
      → Running groups place rows.vector h.stands.vector.len j done runs k made → Leaves T (through (run_by rows) runs (enumerate_from j columns)) k made (λ name next after. Running groups place rows.vector h.stands.vector.len (j + length columns) (done ++ columns) name next after) (Each (Calm select groups))
  runs_loop [] j done runs k made small can members h g =
      let len = h.stands.vector.len in
      let none : done ++ [] ≡ done = append-nil done in
      let same : j + 0 ≡ j = omega arith in
      tells T (Calm select groups) runs k made (λ name next after. Running groups place rows.vector len (j + 0) (done ++ []) name next after) (subst (λ (n : ℕ). Running groups place rows.vector len n (done ++ []) runs k made) (sym same) (subst (λ (l : List ColumnRef). Running groups place rows.vector len j l runs k made) (sym none) g))
  runs_loop (c ∷ columns) j done runs k made small can members h g =
      let len = h.stands.vector.len in
      let same : (j + 1) + length columns ≡ j + length (c ∷ columns) = omega arith in
      then_each T (Calm select groups) (run_by rows runs (j, c)) (λ next. through (run_by rows) next (enumerate_from (j + 1) columns)) k made (Running groups place rows.vector len (j + 1) (done ++ c ∷ [])) (λ name next after. Running groups place rows.vector len (j + length (c ∷ columns)) (done ++ c ∷ columns) name next after)
      (run_leaves j c done runs k made (omega (arith, small)) (All-head (HasPlace rows) c columns can) (All-head (λ d. list_any (λ o. same_origin (place d) o) groups ≡ true) c columns members) h g)
      (λ name next between le r still.
      less_leaves T (through (run_by rows) name (enumerate_from (j + 1) columns)) next between (λ n l a. Running groups place rows.vector len ((j + 1) + length columns) ((done ++ c ∷ []) ++ columns) n l a) (λ n l a. Running groups place rows.vector len (j + length (c ∷ columns)) (done ++ c ∷ columns) n l a)
      (Each (Calm select groups)) (Each (Calm select groups))
      (λ n l a le2 same2 x. subst (λ (i : ℕ). Running groups place rows.vector len i (done ++ c ∷ columns) n l a) same (subst (λ (d : List ColumnRef). Running groups place rows.vector len ((j + 1) + length columns) d n l a) (append_assoc done (c ∷ []) columns) x)) (λ final l x. x)
      (runs_loop columns (j + 1) (done ++ c ∷ []) name next between (omega (arith, small)) (All-tail (HasPlace rows) c columns can) (All-tail (λ d. list_any (λ o. same_origin (place d) o) groups ≡ true) c columns members) (sorted_still m place rows k next made between le still h) r))

  -- ---- all of them: the runs of groups

  -- the runs, with the mark among them
  pub record HasMarkedRuns (runs : Label) (next : ℕ) (made : Traces) : Type 0 where
    pub runs_are : HasRuns groups runs next made
    pub one : Trace
    pub marks : carry_none groups runs_are.vector.traces ≡ one ∷ []
    pub from : one.origin ≡ origin rows.vector mark

  are_marked : (final : Traces) (len : ℕ) (traces : List Trace) (one : Trace) (c : ColumnRef) (columns : List ColumnRef) → groups ≡ map place (c ∷ columns) → All (λ d. list_any (carries (place d)) traces ≡ true) (c ∷ columns) → carry_none groups traces ≡ one ∷ [] → one.control ≡ None → are_groups final groups len traces ≡ true
  are_marked final len traces one c columns are carried marks plain =
      let all : carry_all groups traces ≡ true = ap (λ (os : List Origin). carry_all os traces) are ∙ list_all-map (λ o. list_any (carries o) traces) place (c ∷ columns) ∙ list_all-from_AllPass (λ d. list_any (carries (place d)) traces) (c ∷ columns) carried in
      let alone : is_one (is_mark len) (carry_none groups traces) ≡ true = ap (is_one (is_mark len)) marks ∙ no_control (one.reach == len) one.control plain in
      by groups are all alone
    where
      no_control : (b : Bool) (o : Option Control) → o ≡ None → is_none (if b then o else None) ≡ true
      no_control true o e = ap is_none e
      no_control false o e = refl

      by : (os : List Origin) → os ≡ map place (c ∷ columns) → carry_all os traces ≡ true → is_one (is_mark len) (carry_none os traces) ≡ true → are_groups final os len traces ≡ true
      by [] e all alone = absurd cc
      by (o ∷ os) e all alone = rw (all, alone) refl

  pub runs_leave : (c : ColumnRef) (columns : List ColumnRef) (k : ℕ) (made : Traces) → All (λ o. IsBelow m o.vector) groups → groups ≡ map place (c ∷ columns) → length (c ∷ columns) ≤ 4 → All (HasPlace rows) (c ∷ columns) → AreSorted m place rows k made
      → Leaves T (runs_of rows (c ∷ columns)) k made HasMarkedRuns (Each (Calm select groups))
  runs_leave c columns k made below are few can h =
      let len = h.stands.vector.len in
      then_each T (Calm select groups) (make (codes "runs") (op.Project rows.vector mark run_mark)) (λ runs. through (run_by rows) runs (enumerate_from 0 (c ∷ columns))) k made (Running groups place rows.vector len 0 []) HasMarkedRuns (first_leaves k made below h)
      (λ runs next between le g same.
      less_leaves T (through (run_by rows) runs (enumerate_from 0 (c ∷ columns))) next between (λ name l after. Running groups place rows.vector len (0 + length (c ∷ columns)) (c ∷ columns) name l after) HasMarkedRuns (Each (Calm select groups)) (Each (Calm select groups))
      (λ name l after le2 same2 r. record {
        runs_are = record { vector = r.vector; known = r.known; below = r.below; inside = r.inside; beside = r.beside; whole = λ i d less. r.whole i d less ∙ sym r.len_is; are = λ final again. are_marked final r.vector.len r.vector.traces r.one c columns are r.carried r.marks r.plain };
        one = r.one;
        marks = r.marks;
        from = r.from;
      }) (λ final l x. x)
      (runs_loop (c ∷ columns) 0 [] runs next between (omega (arith, few)) can members (sorted_still m place rows k next made between le same h) g))
    where
      members : All (λ d. list_any (λ o. same_origin (place d) o) groups ≡ true) (c ∷ columns)
      members = λ i d less.
          let x = get_or (c ∷ columns) i d in
          ap (list_any (same_origin (place x))) are ∙ any_map (same_origin (place x)) place (c ∷ columns) ∙ list_any_at (λ e. same_origin (place x) (place e)) (c ∷ columns) i d less (origin_same (place x))

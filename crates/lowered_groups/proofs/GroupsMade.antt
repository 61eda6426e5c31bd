-- The groups of rows that stand at a base, with the values of their aggregates: what the part that writes them makes.
use Rattle.std.proofs.Common.{◌≡◌, ◌∙◌, ℕ, ◌+◌, ◌<◌, ◌≤◌, Bool, true, false, List, [], ◌∷◌, ◌++◌, length, map, refl, sym, ap, subst, arith, Option, Some, None, Result, Ok, Err}
use Rattle.std.specs.Prelude.{◌==◌, if◌then◌else◌}
use Rattle.std.specs.Option.{option_map}
use Rattle.std.specs.List.{All, Contains, enumerate_from, list_any}
use Rattle.std.proofs.lemmas.List.{length-map}
use Rattle.std.proofs.lemmas.List.Elements.{All-nil, All-head, All-tail, All-cons, All-append, All-map, All-contains}
use Rattle.control_vectors.specs.Slots.{Slot, over}
use Rattle.control_vectors.specs.declared.Over.{Over}
use Rattle.programs.specs.Faults.{path_clash}
use Rattle.programs.specs.Mentions.{has_name}
use Rattle.programs.specs.Outlines.{Outline, outlines, outline_of}
use Rattle.programs.specs.Vectors.{Vector, Env, slots_of}
use Rattle.programs.proofs.Projections.{apart_clear}
use Rattle.table_load.specs.Databases.{coded}
use Rattle.typed_trees.specs.declared.typed.ColumnRef.{ColumnRef}
use Rattle.typed_trees.specs.declared.typed.TypedExpr.{TypedExpr}
use Rattle.typed_trees.specs.Names.{same_column}
use Rattle.typed_trees.specs.Types.{no_aggregate}
use Rattle.typed_values.specs.Values.{On}
use Rattle.value_laws.specs.Laws.{is_of, KindLaw}
use Rattle.query_answers.specs.Answers.{FromRow, Group, groups_of, on_group, on_row}
use Rattle.query_answers.specs.Clauses.{Clauses}
use Rattle.query_answers.specs.Overs.{each}
use Rattle.expr_steps.specs.Lowered.{Bytes}
use Rattle.expr_values.specs.Laws.{is_known, KnownLaw}
use Rattle.held_groups.specs.Groups.{AreSame, column_slot, RowsCanCode}
use Rattle.held_groups.specs.Heads.{group_places, fits}
use Rattle.held_groups.specs.Overs.{group_on, some_over}
use Rattle.held_groups.proofs.Heads.{head_laws}
use Rattle.held_groups.proofs.Overs.{groups_on_law}
use Rattle.held_rows.specs.Held.{Held, Told, present, column, one}
use Rattle.program_writers.specs.Names.{IsBelow}
use Rattle.program_writers.specs.Statements.{mark}
use Rattle.program_writers.specs.Writers.{Writer, through}
use Rattle.plan_programs.specs.Groups.{Folding, folding, aggregate_of, grouped}
use Rattle.plan_programs.specs.Sites.{Base}
use Rattle.writer_checks.specs.Checks.{HasShape}
use Rattle.writer_runs.specs.Runs.{Delivers}
use Rattle.lowered_stages.specs.Stages.{StandsAt, Stands, told_of, column_told, aggregate_told}
use Rattle.lowered_stages.specs.Parts.{CanGroup, CanGroupRows, CanValue, SamePlaces, AreAlike, fits_slot, itself}
use Rattle.lowered_groups.specs.Laws.{ValueOfRows, GroupsRun}
use Rattle.lowered_groups.proofs.Aggregates.{CanAggregate, made_if, aggregates_make}
use Rattle.lowered_groups.proofs.Bases.{IsGroups, SlotsAt, all_left, all_right, all_weaker}
use Rattle.lowered_groups.proofs.Grouped.{Regrouped, CanSort, folding_make}
use Rattle.lowered_groups.proofs.Parts.{delivers_after}
use Rattle.lowered_groups.proofs.SortedRows.{IsClear}

-- ---- what the columns of rows are

all_unmapped : {X Y : Type 0} (P : Y → Type 0) (f : X → Y) (xs : List X) → All P (map f xs) → All (λ x. P (f x)) xs
all_unmapped P f [] h = All-nil (λ x. P (f x))
all_unmapped P f (x ∷ xs) h = All-cons (λ x. P (f x)) x xs (All-head P (f x) (map f xs) h) (all_unmapped P f xs (All-tail P (f x) (map f xs) h))

columns_can : (texts : List Bytes) (columns : List ColumnRef) (rows : List FromRow) → All (λ c. AreAlike texts (map (λ r. (on_row r).column c) rows)) columns → RowsCanCode texts columns rows
columns_can texts columns rows h c m =
    let alike : AreAlike texts (map (λ r. (on_row r).column c) rows) = All-contains (λ c. AreAlike texts (map (λ r. (on_row r).column c) rows)) columns c h m in (
      alike.kind,
      λ row k. record {
        is = All-contains (λ r. is_of alike.kind ((on_row r).column c) ≡ true) rows row (all_unmapped (λ v. is_of alike.kind v ≡ true) (λ r. (on_row r).column c) rows alike.each_is) k;
        known = All-contains (λ r. is_known texts ((on_row r).column c) ≡ true) rows row (all_unmapped (λ v. is_known texts v ≡ true) (λ r. (on_row r).column c) rows alike.known) k;
      },
    )

same_fits : (s : Slot) → fits_slot s ≡ true → fits s ≡ true
same_fits None h = refl
same_fits (Some z) h = h

columns_fit : (texts : List Bytes) (columns : List ColumnRef) (rows : List FromRow) → All (λ c. All (λ r. fits_slot (coded texts ((on_row r).column c)) ≡ true) rows) columns
    → (c : ColumnRef) → Contains columns c → (row : FromRow) → Contains rows row → fits (column_slot texts c row) ≡ true
columns_fit texts columns rows h c m row k =
    same_fits (coded texts ((on_row row).column c))
    (All-contains (λ r. fits_slot (coded texts ((on_row r).column c)) ≡ true) rows row (All-contains (λ c. All (λ r. fits_slot (coded texts ((on_row r).column c)) ≡ true) rows) columns c h m) k)

-- ---- a base whose places are another's

value_moved : (b c : Base) (e : TypedExpr) → SamePlaces b c → CanValue no_aggregate b e → CanValue no_aggregate c e
value_moved b c e same can = record {
  lowerable = can.lowerable;
  covers = record {
    columns = λ d n. subst (λ l. list_any (λ p. same_column p.column d) l ≡ true) (sym same.columns) (can.covers.columns d n);
    aggregates = λ m n. subst (λ l. list_any (λ p. p.aggregate == m) l ≡ true) (sym same.aggregates) (can.covers.aggregates m n);
  };
  few = can.few;
}

clear_of : (env : Env) (b : Base) (len : ℕ) (v : Vector) → env b.vector ≡ Some v → HasShape (outlines env) b.vector len (mark ∷ []) → IsClear v
clear_of env b len v sees h =
    let known : outlines env b.vector ≡ Some h.outline = h.known in
    let seen : outlines env b.vector ≡ Some (outline_of v) = ap (λ (o : Option Vector). option_map outline_of o) sees in
    let both : Some h.outline ≡ Some (outline_of v) = sym known ∙ seen in
    let is : h.outline ≡ outline_of v = cc in
    record {
      apart = apart_clear (outline_of v) (subst (λ (o : Outline). path_clash o ≡ false) is h.clear);
      has_mark = All-head (λ p. has_name (outline_of v).paths p ≡ true) mark [] (subst (λ (o : Outline). All (λ p. has_name o.paths p ≡ true) (mark ∷ [])) is h.each);
    }

-- ---- groups as what expressions are evaluated on

module _ {X Y : Type 0} (g : X → Y) where
  present_map : (held : Held X) → present (map (option_map g) held) ≡ map g (present held)
  present_map [] = refl
  present_map (None ∷ held) = present_map held
  present_map (Some x ∷ held) = ap (λ (l : List Y). g x ∷ l) (present_map held)

  column_map : (f : Y → Slot) (held : Held X) → column f (map (option_map g) held) ≡ column (λ x. f (g x)) held
  column_map f [] = refl
  column_map f (None ∷ held) = ap (λ (l : List Slot). None ∷ l) (column_map f held)
  column_map f (Some x ∷ held) = ap (λ (l : List Slot). f (g x) ∷ l) (column_map f held)

module _ (texts : List Bytes) (q : Clauses) (env : Env) (b : Base) (gs : Held Group) (at : StandsAt texts env b (group_on q) gs) where
  abbrev ons : Held On
  ons = map (option_map (group_on q)) gs

  abbrev OnSlots : Told On → Type 0
  OnSlots t = slots_of at.vector.attributes t.0 ≡ column t.1 ons

  told_itself : All OnSlots (told_of texts itself b)
  told_itself =
      let on = group_on q in
      let here = All-head (SlotsAt at.vector gs) (mark, one) (map (column_told texts on) b.columns ++ map (aggregate_told texts on) b.aggregates) at.holds.each in
      let rest = All-tail (SlotsAt at.vector gs) (mark, one) (map (column_told texts on) b.columns ++ map (aggregate_told texts on) b.aggregates) at.holds.each in
      All-cons OnSlots (mark, one) (map (column_told texts itself) b.columns ++ map (aggregate_told texts itself) b.aggregates) (here ∙ sym (column_map on one gs))
      (All-append OnSlots (map (column_told texts itself) b.columns) (map (aggregate_told texts itself) b.aggregates)
      (All-map OnSlots (column_told texts itself) b.columns
      (all_weaker (λ p. SlotsAt at.vector gs (column_told texts on p)) (λ p. OnSlots (column_told texts itself p)) b.columns (λ p e. e ∙ sym (column_map on (column_told texts itself p).1 gs))
      (all_unmapped (SlotsAt at.vector gs) (column_told texts on) b.columns (all_left (SlotsAt at.vector gs) (map (column_told texts on) b.columns) (map (aggregate_told texts on) b.aggregates) rest))))
      (All-map OnSlots (aggregate_told texts itself) b.aggregates
      (all_weaker (λ p. SlotsAt at.vector gs (aggregate_told texts on p)) (λ p. OnSlots (aggregate_told texts itself p)) b.aggregates (λ p e. e ∙ sym (column_map on (aggregate_told texts itself p).1 gs))
      (all_unmapped (SlotsAt at.vector gs) (aggregate_told texts on) b.aggregates (all_right (SlotsAt at.vector gs) (map (column_told texts on) b.columns) (map (aggregate_told texts on) b.aggregates) rest)))))

  pub stand_as_ons : (groups : List Group) → present gs ≡ groups → Stands texts b itself (length gs) (map (group_on q) groups) env
  stand_as_ons groups is = record {
    held = ons;
    places = length-map gs (option_map (group_on q));
    rows_are = present_map (group_on q) gs ∙ ap (map (group_on q)) is;
    at = record { vector = at.vector; sees = at.sees; holds = record { len = at.holds.len ∙ sym (length-map gs (option_map (group_on q))); each = told_itself } };
  }

-- ---- the whole

-- what is told of groups
abbrev pub GroupsSo : List Bytes → Clauses → List On → Base → ℕ → Env → Type 0
GroupsSo texts q groups c next after = (count : ℕ) × (Stands texts c itself count groups after × (IsBelow next c.vector × (All (λ g. list_any (λ p. same_column p.column g) c.columns ≡ true) q.groups × ((n : ℕ) → n < length q.aggregates → list_any (λ p. p.aggregate == n) c.aggregates ≡ true))))

made_or_over : {A D : Type 0} (store : Env) (m : Writer A) (k : ℕ) (env : Env) (t : Bool) (d : D) (P : A → ℕ → Env → Type 0) (Q : D → A → ℕ → Env → Type 0) → ((a : A) (next : ℕ) (after : Env) → P a next after → Q d a next after)
    → Delivers store m k env (made_if t) (λ u. P) → Delivers store m k env (if t then Err over else Ok d) Q
made_or_over store m k env true d P Q f g = g
made_or_over store m k env false d P Q f g = record { after = g.after; ran = g.ran; holds = f (m k).told (m k).next g.after g.holds; kept = g.kept; ascends = g.ascends }

module _ (kinds : KindLaw) (knows : KnownLaw) (values : ValueOfRows) (store : Env) (texts : List Bytes) (q : Clauses) (b : Base) (held : Held FromRow) (can : CanGroup b q.groups q.aggregates) (can_rows : CanGroupRows texts q.groups q.aggregates (present held)) (small : length q.aggregates ≤ 512) where
  sorts : (c : ColumnRef) (cs : List ColumnRef) → q.groups ≡ c ∷ cs → CanSort store texts q b held
  sorts c cs is = record {
    places = can.places;
    few = can.few;
    fit = columns_fit texts q.groups (present held) can_rows.columns_fit;
    groups = λ front behind same.
        subst (λ (l : List ColumnRef). present (group_places texts l front behind (length held) (present held)) ≡ groups_of l (present held)) (sym is)
        (head_laws.groups texts c cs front behind (length held) (present held) (subst (λ (l : List ColumnRef). RowsCanCode texts l (present held)) is (columns_can texts q.groups (present held) can_rows.columns_alike)) (subst (λ (l : List ColumnRef). AreSame l (front ++ behind)) is same));
  }

  aggregates_can : (c : Base) → SamePlaces b c → All (CanAggregate texts c (present held)) q.aggregates
  aggregates_can c same = λ k d l. record {
    typed = can.typed k d l;
    can = λ x e. value_moved b c x same (can.arguments k d l x e);
    stands = λ x e. can_rows.arguments k d l x e;
  }

  behind_folding : (f : Folding) (k : ℕ) (env : Env) → Regrouped texts q b (present held) f k env
      → Delivers store (through (aggregate_of texts f) f.groups (enumerate_from 0 q.aggregates)) k env (each (on_group q) (groups_of q.groups (present held))) (GroupsSo texts q)
  behind_folding f k env r =
      let parts = through (aggregate_of texts f) f.groups (enumerate_from 0 q.aggregates) in
      let all = groups_of q.groups (present held) in
      let Now = λ (c : Base) (next : ℕ) (after : Env). IsGroups texts q next after r.gs c (0 + length q.aggregates) in
      subst (λ (t : Result (List On) Over). Delivers store parts k env t (GroupsSo texts q)) (sym (groups_on_law q all))
      (made_or_over store parts k env (some_over q.aggregates all) (map (group_on q) all) Now (GroupsSo texts q)
      (λ c next after g. (length r.gs, (stand_as_ons texts q after c r.gs g.stands all r.regroups.groups, (g.below, (g.columns, λ n less. g.found n (omega (arith, less)))))))
      (subst (λ (l : List Group). Delivers store parts k env (made_if (some_over q.aggregates l)) (λ u. Now)) r.regroups.groups
      (aggregates_make kinds knows values store texts f r.rows r.gs q.groups (present held) r.regroups can_rows.few q [] q.aggregates refl 0 refl (omega (arith, small)) (aggregates_can f.rows r.folds.places) f.groups k env r.folds.folding r.folds.groups)))

  held_groups : (k : ℕ) (env : Env) (len : ℕ) (at : StandsAt texts env b on_row held) → IsBelow k b.vector → HasShape (outlines env) b.vector len (mark ∷ [])
      → Delivers store (grouped texts b q.groups q.aggregates) k env (each (on_group q) (groups_of q.groups (present held))) (GroupsSo texts q)
  held_groups k env len at below shape =
      delivers_after store (folding b q.groups) (λ f. through (aggregate_of texts f) f.groups (enumerate_from 0 q.aggregates)) k env (Regrouped texts q b (present held)) (each (on_group q) (groups_of q.groups (present held))) (GroupsSo texts q)
      (folding_make store texts q b held q.groups refl sorts k env at below (clear_of env b len at.vector at.sees shape))
      (λ f next between more r left. behind_folding f next between r)

pub groups_run : KindLaw → KnownLaw → ValueOfRows → GroupsRun
groups_run kinds knows values texts q len rows b k store env can can_rows small below stands shape =
    subst (λ (l : List FromRow). Delivers store (grouped texts b q.groups q.aggregates) k env (each (on_group q) (groups_of q.groups l)) (GroupsSo texts q)) stands.rows_are
    (held_groups kinds knows values store texts q b stands.held can (subst (CanGroupRows texts q.groups q.aggregates) (sym stands.rows_are) can_rows) small k env len stands.at below shape)

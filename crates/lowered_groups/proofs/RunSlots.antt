-- The attributes by which rows run: the mark, and a group column more.
use Rattle.std.proofs.Common.{◌≡◌, ◌∙◌, ℕ, ◌+◌, ◌<◌, ◌^◌, Bool, true, false, cond, not, List, [], ◌∷◌, ◌++◌, ⊎_elim, length, map, refl, sym, ap, subst, arith, codes, decimal}
use Rattle.std.specs.List.{All, Contains}
use Rattle.std.proofs.lemmas.List.{map-append}
use Rattle.std.proofs.lemmas.List.Elements.{All-nil, All-cons, All-head, All-tail, All-append, All-map, Contains-append_left, Contains-append_right, Contains-append_cases}
use Rattle.control_vectors.specs.Runs as tuples
use Rattle.control_vectors.specs.Runs.{side_by_side}
use Rattle.control_vectors.specs.Slots.{Slot}
use Rattle.dict_codes.proofs.Members.{here, there, first_or_later, nothing_in}
use Rattle.key_paths.specs.Substructures.{is_at_or_below}
use Rattle.programs.specs.Merges.{entered, merged}
use Rattle.programs.specs.Mentions.{Label}
use Rattle.programs.specs.Outlines.{Outline}
use Rattle.programs.specs.Vectors.{Attribute, Vector, slots_of}
use Rattle.voodoo_ops.specs.Attributes.{comes_before, below, beside, projected, resized, upserted}
use Rattle.voodoo_ops.specs.Runs.{run_marks}
use Rattle.voodoo_ops.proofs.Outlining.{outline_projected}
use Rattle.typed_trees.specs.declared.typed.ColumnRef.{ColumnRef}
use Rattle.query_answers.specs.Answers.{FromRow}
use Rattle.expr_steps.specs.Lowered.{Bytes}
use Rattle.held_groups.specs.Groups.{column_slot, AreSame, run_slots}
use Rattle.held_rows.specs.Held.{Held, Holds, column, one}
use Rattle.held_rows.proofs.Projected.{project_holds}
use Rattle.held_rows.proofs.Upserted.{resized_same, first_slots}
use Rattle.program_writers.specs.Statements.{mark, run}
use Rattle.plan_programs.specs.Groups.{run_path}
use Rattle.writer_checks.proofs.Attributes.{projected_alone}
use Rattle.writer_checks.proofs.Routes.{path_laws}
use Rattle.lowered_groups.proofs.Bases.{all_left, all_right, all_weaker}
use Rattle.lowered_groups.proofs.SortedRows.{IsClear, names_of}

-- ---- an attribute in its place

-- the path of the mark among runs
abbrev pub run_mark : Label
run_mark = codes ".run.mark"

-- the path of a group column whose number is below j
abbrev pub IsRunBelow : ℕ → Label × ColumnRef → Type 0
IsRunBelow j e = (i : ℕ) × (i < j) × (e.0 ≡ run_path i)

all_beside : (p : Label) (attributes : List Attribute) → All (λ t. is_at_or_below t.0 p ≡ false) attributes → beside p attributes ≡ attributes
all_beside p [] h = refl
all_beside p (t ∷ attributes) h =
    ap (λ (b : Bool). cond (not b) (t ∷ beside p attributes) (beside p attributes)) (All-head (λ (u : Attribute). is_at_or_below u.0 p ≡ false) t attributes h)
    ∙ ap (λ (l : List Attribute). t ∷ l) (all_beside p attributes (All-tail (λ (u : Attribute). is_at_or_below u.0 p ≡ false) t attributes h))

all_below : (p : Label) (attributes : List Attribute) → All (λ t. is_at_or_below t.0 p ≡ true) attributes → below p attributes ≡ attributes
all_below p [] h = refl
all_below p (t ∷ attributes) h =
    ap (λ (b : Bool). cond b (t ∷ below p attributes) (below p attributes)) (All-head (λ (u : Attribute). is_at_or_below u.0 p ≡ true) t attributes h)
    ∙ ap (λ (l : List Attribute). t ∷ l) (all_below p attributes (All-tail (λ (u : Attribute). is_at_or_below u.0 p ≡ true) t attributes h))

module _ (texts : List Bytes) (kept : Held FromRow) where
  abbrev pub run_at : Label × ColumnRef → Attribute
  run_at e = (e.0, column (column_slot texts e.1) kept)

  -- those of some columns, the mark's, and those of others
  abbrev pub run_attributes : List (Label × ColumnRef) → List (Label × ColumnRef) → List Attribute
  run_attributes front behind = map run_at front ++ ((run_mark, column one kept) ∷ map run_at behind)

  -- one list with an item more
  pub record IsWith (e : Label × ColumnRef) (xs ys : List (Label × ColumnRef)) : Type 0 where
    pub before : List (Label × ColumnRef)
    pub after : List (Label × ColumnRef)
    pub old : xs ≡ before ++ after
    pub new : ys ≡ before ++ e ∷ after

  with_more : (e y : Label × ColumnRef) (xs ys : List (Label × ColumnRef)) → IsWith e xs ys → IsWith e (y ∷ xs) (y ∷ ys)
  with_more e y xs ys w = record { before = y ∷ w.before; after = w.after; old = ap (λ (l : List (Label × ColumnRef)). y ∷ l) w.old; new = ap (λ (l : List (Label × ColumnRef)). y ∷ l) w.new }

  with_first : (e : Label × ColumnRef) (xs : List (Label × ColumnRef)) → IsWith e xs (e ∷ xs)
  with_first e xs = record { before = []; after = xs; old = refl; new = refl }

  abbrev enter : Label × ColumnRef → List Attribute → List Attribute
  enter e l = entered comes_before (run_at e) (merged comes_before []) l

  pub record Entered (e : Label × ColumnRef) (behind : List (Label × ColumnRef)) : Type 0 where
    pub others : List (Label × ColumnRef)
    pub is : enter e (map run_at behind) ≡ map run_at others
    pub more : IsWith e behind others

  enters : (e : Label × ColumnRef) (behind : List (Label × ColumnRef)) → Entered e behind
  enters e [] = record { others = e ∷ []; is = refl; more = with_first e [] }
  enters e (y ∷ behind) = by (comes_before (run_at y) (run_at e)) refl (enters e behind)
    where
      by : (c : Bool) → comes_before (run_at y) (run_at e) ≡ c → Entered e behind → Entered e (y ∷ behind)
      by true h r = record {
        others = y ∷ r.others;
        is = ap (λ (c : Bool). cond c (run_at y ∷ enter e (map run_at behind)) (run_at e ∷ run_at y ∷ map run_at behind)) h ∙ ap (λ (l : List Attribute). run_at y ∷ l) r.is;
        more = with_more e y behind r.others r.more;
      }
      by false h r = record {
        others = e ∷ y ∷ behind;
        is = ap (λ (c : Bool). cond c (run_at y ∷ enter e (map run_at behind)) (run_at e ∷ run_at y ∷ map run_at behind)) h;
        more = with_first e (y ∷ behind);
      }

  pub record Splits (e : Label × ColumnRef) (front behind : List (Label × ColumnRef)) : Type 0 where
    pub first : List (Label × ColumnRef)
    pub second : List (Label × ColumnRef)
    pub is : enter e (run_attributes front behind) ≡ run_attributes first second
    pub more : IsWith e (front ++ behind) (first ++ second)

  splits : (e : Label × ColumnRef) (front behind : List (Label × ColumnRef)) → Splits e front behind
  splits e [] behind = by (comes_before (run_mark, column one kept) (run_at e)) refl (enters e behind)
    where
      by : (c : Bool) → comes_before (run_mark, column one kept) (run_at e) ≡ c → Entered e behind → Splits e [] behind
      by true h r = record {
        first = [];
        second = r.others;
        is = ap (λ (c : Bool). cond c ((run_mark, column one kept) ∷ enter e (map run_at behind)) (run_at e ∷ (run_mark, column one kept) ∷ map run_at behind)) h ∙ ap (λ (l : List Attribute). (run_mark, column one kept) ∷ l) r.is;
        more = r.more;
      }
      by false h r = record {
        first = e ∷ [];
        second = behind;
        is = ap (λ (c : Bool). cond c ((run_mark, column one kept) ∷ enter e (map run_at behind)) (run_at e ∷ (run_mark, column one kept) ∷ map run_at behind)) h;
        more = with_first e behind;
      }
  splits e (y ∷ front) behind = by (comes_before (run_at y) (run_at e)) refl (splits e front behind)
    where
      by : (c : Bool) → comes_before (run_at y) (run_at e) ≡ c → Splits e front behind → Splits e (y ∷ front) behind
      by true h r = record {
        first = y ∷ r.first;
        second = r.second;
        is = ap (λ (c : Bool). cond c (run_at y ∷ enter e (run_attributes front behind)) (run_at e ∷ run_at y ∷ run_attributes front behind)) h ∙ ap (λ (l : List Attribute). run_at y ∷ l) r.is;
        more = with_more e y (front ++ behind) (r.first ++ r.second) r.more;
      }
      by false h r = record {
        first = e ∷ y ∷ front;
        second = behind;
        is = ap (λ (c : Bool). cond c (run_at y ∷ enter e (run_attributes front behind)) (run_at e ∷ run_at y ∷ run_attributes front behind)) h;
        more = with_first e (y ∷ front ++ behind);
      }

  -- ---- the same columns

  columns_of : List (Label × ColumnRef) → List ColumnRef
  columns_of l = map (λ e. e.1) l

  same_more : (done a b : List ColumnRef) (c : ColumnRef) → AreSame done (a ++ b) → AreSame (done ++ c ∷ []) (a ++ c ∷ b)
  same_more done a b c h x = (to, from)
    where
      to : Contains (done ++ c ∷ []) x → Contains (a ++ c ∷ b) x
      to m = ⊎_elim
          (λ d. ⊎_elim (λ l. Contains-append_left a (c ∷ b) x l) (λ r. Contains-append_right a (c ∷ b) x (there c x b r)) (Contains-append_cases a b x ((h x).0 d)))
          (λ d. ⊎_elim (λ e. Contains-append_right a (c ∷ b) x (subst (λ (z : ColumnRef). Contains (c ∷ b) z) e (here c b))) (λ n. absurd (nothing_in x n)) (first_or_later c x [] d))
          (Contains-append_cases done (c ∷ []) x m)

      from : Contains (a ++ c ∷ b) x → Contains (done ++ c ∷ []) x
      from m = ⊎_elim
          (λ l. Contains-append_left done (c ∷ []) x ((h x).1 (Contains-append_left a b x l)))
          (λ r. ⊎_elim (λ e. Contains-append_right done (c ∷ []) x (subst (λ (z : ColumnRef). Contains (c ∷ []) z) e (here c []))) (λ n. Contains-append_left done (c ∷ []) x ((h x).1 (Contains-append_right a b x n))) (first_or_later c x b r))
          (Contains-append_cases a (c ∷ b) x m)

  same_with : (done : List ColumnRef) (e : Label × ColumnRef) (xs ys : List (Label × ColumnRef)) → IsWith e xs ys → AreSame done (columns_of xs) → AreSame (done ++ e.1 ∷ []) (columns_of ys)
  unfolding columns_of
  same_with done e xs ys w h =
      subst (AreSame (done ++ e.1 ∷ [])) (sym (ap columns_of w.new ∙ map-append (λ (t : Label × ColumnRef). t.1) w.before (e ∷ w.after)))
      (same_more done (map (λ (t : Label × ColumnRef). t.1) w.before) (map (λ (t : Label × ColumnRef). t.1) w.after) e.1
      (subst (AreSame done) (ap columns_of w.old ∙ map-append (λ (t : Label × ColumnRef). t.1) w.before w.after) h))

  all_with : (P : Label × ColumnRef → Type 0) (e : Label × ColumnRef) (xs ys : List (Label × ColumnRef)) → IsWith e xs ys → P e → All P xs → All P ys
  all_with P e xs ys w p h =
      let parts : All P (w.before ++ w.after) = subst (All P) w.old h in
      subst (All P) (sym w.new) (All-append P w.before (e ∷ w.after) (all_left P w.before w.after parts) (All-cons P e w.after p (all_right P w.before w.after parts)))

  -- ---- the vector of runs

  pub record AreRuns (j : ℕ) (done : List ColumnRef) (v : Vector) : Type 0 where
    pub front : List (Label × ColumnRef)
    pub behind : List (Label × ColumnRef)
    pub len : v.len ≡ length kept
    pub are : v.attributes ≡ run_attributes front behind
    pub numbers : All (IsRunBelow j) (front ++ behind)
    pub same : AreSame done (map (λ e. e.1) front ++ map (λ e. e.1) behind)

  mark_beside : (j : ℕ) → is_at_or_below run_mark (run_path j) ≡ false
  mark_beside j = refl

  runs_beside : (i j : ℕ) → i < j → j < 2 ^ 64 → is_at_or_below (run_path i) (run_path j) ≡ false
  runs_beside i j less small =
      path_laws.twos_apart (codes "run") (codes "g" ++ decimal i) (codes "g" ++ decimal j) refl (path_laws.numbered_flat (codes "g") i refl (omega arith)) (path_laws.numbers_differ (codes "g") i j (omega arith) small (omega arith))

  path_beside : (j : ℕ) → j < 2 ^ 64 → (e : Label × ColumnRef) → IsRunBelow j e → is_at_or_below (run_at e).0 (run_path j) ≡ false
  path_beside j small e i = subst (λ (l : Label). is_at_or_below l (run_path j) ≡ false) (sym i.2) (runs_beside i.0 j i.1 small)

  path_below : (j : ℕ) (e : Label × ColumnRef) → IsRunBelow j e → is_at_or_below (run_at e).0 run ≡ true
  path_below j e i = subst (λ (l : Label). is_at_or_below l run ≡ true) (sym i.2) refl

  -- what is so of the mark and of the numbered paths
  all_attributes : (P : Attribute → Type 0) (j : ℕ) (front behind : List (Label × ColumnRef)) → All (IsRunBelow j) (front ++ behind) → P (run_mark, column one kept) → ((e : Label × ColumnRef) → IsRunBelow j e → P (run_at e)) → All P (run_attributes front behind)
  all_attributes P j front behind h m each =
      All-append P (map run_at front) ((run_mark, column one kept) ∷ map run_at behind)
      (All-map P run_at front (all_weaker (IsRunBelow j) (λ e. P (run_at e)) front each (all_left (IsRunBelow j) front behind h)))
      (All-cons P (run_mark, column one kept) (map run_at behind) m (All-map P run_at behind (all_weaker (IsRunBelow j) (λ e. P (run_at e)) behind each (all_right (IsRunBelow j) front behind h))))

  map_parts : (front behind : List (Label × ColumnRef)) → columns_of (front ++ behind) ≡ map (λ e. e.1) front ++ map (λ e. e.1) behind
  unfolding columns_of
  map_parts front behind = map-append (λ (t : Label × ColumnRef). t.1) front behind

  pub more_runs : (j : ℕ) (done : List ColumnRef) (v u : Vector) (q : Label) (c : ColumnRef) → j < 2 ^ 64 → AreRuns j done v → slots_of u.attributes q ≡ column (column_slot texts c) kept → length (column (column_slot texts c) kept) ≡ length kept
      → AreRuns (j + 1) (done ++ c ∷ []) (upserted v (run_path j) u q)
  more_runs j done v u q c small r slots long =
      let e : Label × ColumnRef = (run_path j, c) in
      let s = splits e r.front r.behind in
      let off : beside (run_path j) v.attributes ≡ run_attributes r.front r.behind =
      ap (beside (run_path j)) r.are
      ∙ all_beside (run_path j) (run_attributes r.front r.behind) (all_attributes (λ t. is_at_or_below t.0 (run_path j) ≡ false) j r.front r.behind r.numbers (mark_beside j) (path_beside j small)) in
      let values : resized v.len (slots_of u.attributes q) ≡ column (column_slot texts c) kept = ap (resized v.len) slots ∙ resized_same (column (column_slot texts c) kept) v.len (long ∙ sym r.len) in
      record {
        front = s.first;
        behind = s.second;
        len = r.len;
        are = ap (λ (l : List Slot). merged comes_before ((run_path j, l) ∷ []) (beside (run_path j) v.attributes)) values ∙ ap (enter e) off ∙ s.is;
        numbers = all_with (IsRunBelow (j + 1)) e (r.front ++ r.behind) (s.first ++ s.second) s.more (j, omega arith, refl)
            (all_weaker (IsRunBelow j) (IsRunBelow (j + 1)) (r.front ++ r.behind) (λ t i. (i.0, omega (arith, i.1), i.2)) r.numbers);
        same = subst (AreSame (done ++ c ∷ [])) (map_parts s.first s.second)
            (same_with done e (r.front ++ r.behind) (s.first ++ s.second) s.more (subst (AreSame done) (sym (map_parts r.front r.behind)) r.same));
      }

  -- ---- the marks of the runs

  behind_slots : (behind : List (Label × ColumnRef)) → map (λ t. t.1) (map run_at behind) ≡ map (λ f. column f kept) (map (column_slot texts) (map (λ e. e.1) behind))
  behind_slots [] = refl
  behind_slots (e ∷ behind) = ap (λ (l : List (List Slot)). column (column_slot texts e.1) kept ∷ l) (behind_slots behind)

  all_slots_are : (front behind : List (Label × ColumnRef)) → map (λ t. t.1) (run_attributes front behind) ≡ map (λ f. column f kept) (run_slots texts (map (λ e. e.1) front) (map (λ e. e.1) behind))
  all_slots_are [] behind = ap (λ (l : List (List Slot)). column one kept ∷ l) (behind_slots behind)
  all_slots_are (e ∷ front) behind = ap (λ (l : List (List Slot)). column (column_slot texts e.1) kept ∷ l) (all_slots_are front behind)

  pub marks_are : (j : ℕ) (done : List ColumnRef) (v : Vector) (r : AreRuns j done v) → run_marks v run ≡ tuples.run_marks (side_by_side (length kept) (map (λ f. column f kept) (run_slots texts (map (λ e. e.1) r.front) (map (λ e. e.1) r.behind))))
  marks_are j done v r =
      let all : below run v.attributes ≡ run_attributes r.front r.behind =
      ap (below run) r.are ∙ all_below run (run_attributes r.front r.behind) (all_attributes (λ t. is_at_or_below t.0 run ≡ true) j r.front r.behind r.numbers refl (path_below j)) in
      ap (λ (n : ℕ). tuples.run_marks (side_by_side n (map (λ t. t.1) (below run v.attributes)))) r.len
      ∙ ap (λ (l : List Attribute). tuples.run_marks (side_by_side (length kept) (map (λ t. t.1) l))) all
      ∙ ap (λ (l : List (List Slot)). tuples.run_marks (side_by_side (length kept) l)) (all_slots_are r.front r.behind)

  -- ---- the mark alone

  one_attribute : (p : Label) (xs : List Slot) (attributes : List Attribute) → names_of attributes ≡ p ∷ [] → slots_of attributes p ≡ xs → attributes ≡ (p, xs) ∷ []
  one_attribute p xs [] h e = absurd cc
  one_attribute p xs (t ∷ u ∷ attributes) h e = absurd cc
  one_attribute p xs (t ∷ []) h e =
      let same : t.0 ≡ p = let f : names_of (t ∷ []) ≡ p ∷ [] = h in cc in
      let slots : t.1 ≡ xs = sym (first_slots t.0 t.1 []) ∙ ap (slots_of (t ∷ [])) same ∙ e in
      λ i. (same i, slots i) ∷ []

  pub first_runs : (v : Vector) → v.len ≡ length kept → slots_of v.attributes mark ≡ column one kept → IsClear v → AreRuns 0 [] (projected v mark run_mark)
  first_runs v len slots clear =
      let names : names_of (projected v mark run_mark).attributes ≡ run_mark ∷ [] =
      ap (λ (o : Outline). o.paths) (outline_projected v mark run_mark) ∙ projected_alone mark run_mark (names_of v.attributes) clear.apart clear.has_mark refl refl (omega arith) in
      let holds : Holds (projected v mark run_mark) kept ((run_mark, one) ∷ []) = project_holds v mark run_mark kept one (omega arith) (omega arith) len slots in
      record {
        front = [];
        behind = [];
        len = len;
        are = one_attribute run_mark (column one kept) (projected v mark run_mark).attributes names (All-head (λ t. slots_of (projected v mark run_mark).attributes t.0 ≡ column t.1 kept) (run_mark, one) [] holds.each);
        numbers = All-nil (IsRunBelow 0);
        same = λ x. (λ m. m, λ m. m);
      }

-- Groups by group columns: the runs of the sorted rows.
use Rattle.std.proofs.Common.{◌≡◌, ◌∙◌, ℕ, min, ◌+◌, ◌<◌, ◌≤◌, ◌^◌, true, false, ◌&&◌, List, [], ◌∷◌, ◌++◌, length, map, refl, sym, ap, subst, arith, append-nil, append_assoc, None, Result, Ok, codes}
use Rattle.std.specs.Prelude.{slice_index_or}
use Rattle.std.specs.List.{All, Contains, enumerate_from, list_any, range_with_len}
use Rattle.std.proofs.lemmas.Bool.Decides.{Decides-eqb}
use Rattle.std.proofs.lemmas.List.{length-map, map-append}
use Rattle.std.proofs.lemmas.List.Elements.{All-nil, All-cons, All-head, All-tail, All-append, All-map}
use Rattle.control_vectors.specs.Runs as tuples
use Rattle.control_vectors.specs.Runs.{side_by_side}
use Rattle.control_vectors.specs.Slots.{Slot, Cell, all_slots}
use Rattle.control_vectors.specs.declared.FoldKind.{FoldKind}
use Rattle.control_vectors.specs.declared.FoldKind.TheVariants as number
use Rattle.control_vectors.specs.declared.Over.{Over}
use Rattle.control_vectors.specs.declared.PairKind.TheVariants as pair
use Rattle.control_vectors.proofs.SlotLaws.{all_slots-cells_of}
use Rattle.slot_folds.specs.Folds.{folded}
use Rattle.slot_wise.specs.Pairs.{pair_slot}
use Rattle.dict_codes.proofs.Members.{here, there}
use Rattle.key_paths.specs.Substructures.{is_at_or_below}
use Rattle.programs.specs.declared.family.FoldOperator.TheVariants as fold
use Rattle.programs.specs.declared.op.Op.TheVariants as op
use Rattle.programs.specs.declared.op.Operand.TheVariants.{Column}
use Rattle.programs.specs.Mentions.{Label}
use Rattle.programs.specs.Vectors.{Vector, Env, slots_of, known, column_of}
use Rattle.programs.specs.Vectors as vectors
use Rattle.voodoo_ops.specs.Attributes.{projected, upserted}
use Rattle.voodoo_ops.specs.Runs.{run_marks}
use Rattle.voodoo_ops.specs.Slotwise.{paired}
use Rattle.typed_trees.specs.declared.typed.ColumnRef.{ColumnRef}
use Rattle.typed_trees.specs.Names.{same_column}
use Rattle.query_answers.specs.Answers.{FromRow, Group, on_row}
use Rattle.query_answers.specs.Clauses.{Clauses}
use Rattle.expr_lower.specs.declared.places.ColumnPlace.{ColumnPlace}
use Rattle.expr_steps.specs.Lowered.{Bytes}
use Rattle.held_groups.specs.Groups.{column_slot, sorted_rows, run_slots}
use Rattle.held_groups.specs.Heads.{group_places, run_fold, fits, zero_of, key_slot}
use Rattle.held_groups.specs.Overs.{group_on}
use Rattle.held_groups.proofs.Heads.{head_laws}
use Rattle.held_rows.specs.Held.{Held, Holds, Told, at as at_row, column, one, packed}
use Rattle.held_rows.specs.Vectors.{IsBeside}
use Rattle.held_rows.proofs.Projected.{project_holds}
use Rattle.held_rows.proofs.Upserted.{first_slots, upsert_holds}
use Rattle.program_writers.specs.Names.{IsBelow}
use Rattle.program_writers.specs.Statements.{out, mark, val, run, attribute, with_attribute, fold_args, fold_of}
use Rattle.program_writers.specs.Statements as statements
use Rattle.program_writers.specs.Writers.{Writer, tell, ◌>>=◌, through, make}
use Rattle.program_writers.proofs.Numbers.{below_more}
use Rattle.plan_programs.specs.Groups.{run_path, run_by, runs_of, key_path, key_of, run_groups}
use Rattle.plan_programs.specs.Sites.{Base, path_in, with_column}
use Rattle.writer_runs.specs.Runs.{Makes, Delivers}
use Rattle.writer_runs.proofs.Composed.{makes_tell, makes_bind}
use Rattle.lowered_stages.specs.Stages.{StandsAt, told_of, column_told, aggregate_told}
use Rattle.lowered_groups.proofs.Bases.{IsKeyBelow, all_last, all_weaker, into_second, keys_beside, mark_beside_key, SlotsAt, with_last, still_any}
use Rattle.lowered_groups.proofs.Cells.{cells}
use Rattle.lowered_groups.proofs.Columns.{mark_slots, column_slots}
use Rattle.lowered_groups.proofs.Folds.{Gives, fold_cell, stands_later}
use Rattle.lowered_groups.proofs.Marks.{marks_stay}
use Rattle.lowered_groups.proofs.Parts.{Has, Kept, NowHas, has_later, is_known, makes_upsert, makes_project, delivers_fold, delivers_pair}
use Rattle.lowered_groups.proofs.RunSlots.{run_mark, AreRuns, first_runs, more_runs}
use Rattle.lowered_groups.proofs.SortedRows.{IsClear}

-- a column of the base has a place
abbrev pub HasPlace : Base → ColumnRef → Type 0
HasPlace b g = list_any (λ p. same_column p.column g) b.columns ≡ true

module _ (store : Env) (texts : List Bytes) (kept : Held FromRow) where
  -- a vector of runs, by these columns
  pub record RunsAt (j : ℕ) (done : List ColumnRef) (name : Label) (next : ℕ) (after : Env) : Type 0 where
    pub vector : Vector
    pub has : Has next after name vector
    pub runs : AreRuns texts kept j done vector

  module _ (rows : Base) where
    runs_loop : (cs done : List ColumnRef) (j : ℕ) (name : Label) (k : ℕ) (env : Env) → StandsAt texts env rows on_row kept → IsBelow k rows.vector → All (HasPlace rows) cs → j + length cs ≤ 4 → RunsAt j done name k env
        → Makes store (through (run_by rows) name (enumerate_from j cs)) k env (RunsAt (j + length cs) (done ++ cs))
    runs_loop [] done j name k env at below can few r =
        makes_tell Label store name k env (RunsAt (j + 0) (done ++ []))
        (subst (λ (m : ℕ). RunsAt m (done ++ []) name k env) (omega arith) (subst (λ (l : List ColumnRef). RunsAt j l name k env) (sym (append-nil done)) r))
    runs_loop (c ∷ cs) done j name k env at below can few r =
        let slots = column_slots texts on_row env rows kept at c (All-head (HasPlace rows) c cs can) in
        let v = upserted r.vector (run_path j) at.vector (path_in rows c) in
        let grown : AreRuns texts kept (j + 1) (done ++ c ∷ []) v = more_runs texts kept j done r.vector at.vector (path_in rows c) c (omega (arith, few)) r.runs slots (length-map kept (at_row (column_slot texts c))) in
        makes_bind Label Label store (make (codes "runs") (with_attribute name (run_path j) rows.vector (path_in rows c))) (λ next. through (run_by rows) next (enumerate_from (j + 1) cs)) k env
        (NowHas v) (RunsAt (j + length (c ∷ cs)) (done ++ c ∷ cs))
        (makes_upsert store (codes "runs") k env refl name (run_path j) rows.vector (path_in rows c) r.vector at.vector r.has (record { sees = at.sees; below = below }))
        (λ runs next between more has left.
        subst (λ (m : ℕ). Makes store (through (run_by rows) runs (enumerate_from (j + 1) cs)) next between (RunsAt m (done ++ c ∷ cs))) (omega arith)
        (subst (λ (l : List ColumnRef). Makes store (through (run_by rows) runs (enumerate_from (j + 1) cs)) next between (RunsAt (j + 1 + length cs) l)) (append_assoc done (c ∷ []) cs)
        (runs_loop cs (done ++ c ∷ []) (j + 1) runs next between (stands_later texts on_row k env between rows kept below left at) (below_more k next rows.vector more below)
        (All-tail (HasPlace rows) c cs can) (omega (arith, few)) (record { vector = v; has = has; runs = grown }))))

    pub runs_make : (columns : List ColumnRef) (k : ℕ) (env : Env) (at : StandsAt texts env rows on_row kept) → IsBelow k rows.vector → IsClear at.vector → All (HasPlace rows) columns → length columns ≤ 4
        → Makes store (runs_of rows columns) k env (RunsAt (length columns) columns)
    runs_make columns k env at below clear can few =
        let v = projected at.vector mark run_mark in
        let start : AreRuns texts kept 0 [] v = first_runs texts kept at.vector at.holds.len (mark_slots texts on_row env rows kept at) clear in
        makes_bind Label Label store (make (codes "runs") (op.Project rows.vector mark (codes ".run.mark"))) (λ runs. through (run_by rows) runs (enumerate_from 0 columns)) k env
        (NowHas v) (RunsAt (length columns) columns)
        (makes_project store (codes "runs") k env refl rows.vector mark (codes ".run.mark") at.vector (record { sees = at.sees; below = below }))
        (λ runs next between more has left.
        subst (λ (m : ℕ). Makes store (through (run_by rows) runs (enumerate_from 0 columns)) next between (RunsAt m columns)) (omega arith)
        (runs_loop columns [] 0 runs next between (stands_later texts on_row k env between rows kept below left at) (below_more k next rows.vector more below) can (omega (arith, few)) (record { vector = v; has = has; runs = start })))

-- ---- the groups of the runs

module _ (store : Env) (texts : List Bytes) (columns front behind : List ColumnRef) (n : ℕ) (all : List FromRow) (few : length all ≤ n) where
  abbrev pub sorted_kept : Held FromRow
  sorted_kept = packed n (sorted_rows texts columns all)

  abbrev pub groups_at : Held Group
  groups_at = group_places texts columns front behind n all

  pub groups_long : length groups_at ≡ n
  groups_long = head_laws.long texts columns front behind n all few

  module _ (v : Vector) (long : length sorted_kept ≡ n) (marks : run_marks v run ≡ tuples.run_marks (side_by_side (length sorted_kept) (map (λ f. column f sorted_kept) (run_slots texts front behind)))) where
    fold_is : (kind : FoldKind) (f : FromRow → Slot) → folded kind (run_marks v run) (column f sorted_kept) ≡ run_fold texts columns front behind n all kind f
    fold_is kind f =
        ap (λ l. folded kind l (column f sorted_kept)) marks
        ∙ ap (λ (m : ℕ). folded kind (tuples.run_marks (side_by_side m (map (λ f. column f sorted_kept) (run_slots texts front behind)))) (column f sorted_kept)) long

    pub cells_of_groups : (kind : FoldKind) (f : FromRow → Slot) → folded kind (run_marks v run) (column f sorted_kept) ≡ cells (fold_cell kind f) groups_at
    cells_of_groups kind f = fold_is kind f ∙ head_laws.folds texts columns front behind n all kind f few

    marks_of_groups : all_slots (folded number.Max (run_marks v run) (column one sorted_kept)) ≡ Ok (column one groups_at)
    marks_of_groups = ap all_slots (fold_is number.Max one ∙ head_laws.marks texts columns front behind n all few) ∙ all_slots-cells_of (column one groups_at)

    -- a vector that marks the groups
    pub record GroupsMarked (name : Label) (next : ℕ) (after : Env) : Type 0 where
      pub vector : Vector
      pub has : Has next after name vector
      pub holds : Holds vector groups_at ((mark, one) ∷ [])

    firsts_are : (u : Vector) → u.len ≡ n → run_marks u run ≡ run_marks v run → slots_of u.attributes val ≡ column one sorted_kept
        → column_of out u.len (all_slots (folded number.Max (run_marks u run) (slots_of u.attributes val))) ≡ Ok (vectors.column out n (column one groups_at))
    firsts_are u len same slots =
        ap (λ (m : ℕ). column_of out m (all_slots (folded number.Max (run_marks u run) (slots_of u.attributes val)))) len
        ∙ ap (λ l. column_of out n (all_slots (folded number.Max l (slots_of u.attributes val)))) same
        ∙ ap (λ (l : List Slot). column_of out n (all_slots (folded number.Max (run_marks v run) l))) slots
        ∙ ap (column_of out n) marks_of_groups

    pub run_groups_make : (rows : Base) (runs : Label) (k : ℕ) (env : Env) (at : StandsAt texts env rows on_row sorted_kept) → IsBelow k rows.vector → Has k env runs v → v.len ≡ n → Makes store (run_groups rows runs) k env GroupsMarked
    run_groups_make rows runs k env at below has_runs len =
        let u = upserted v val at.vector mark in
        let holds : Holds u sorted_kept ((val, one) ∷ []) = upsert_holds v at.vector val mark sorted_kept one [] (record { len = len ∙ sym long; each = All-nil (λ t. slots_of v.attributes t.0 ≡ column t.1 sorted_kept) }) (mark_slots texts on_row env rows sorted_kept at) (All-nil _) in
        let w = vectors.column out n (column one groups_at) in
        let marked = projected w out mark in
        makes_bind Label Label store (make (codes "marks") (with_attribute runs val rows.vector mark)) (λ marks. make (codes "firsts") (fold_of fold.Max (fold_args marks)) >>= λ firsts. make (codes "groups") (op.Project firsts out mark)) k env
        (NowHas u) GroupsMarked
        (makes_upsert store (codes "marks") k env refl runs val rows.vector mark v at.vector has_runs (record { sees = at.sees; below = below }))
        (λ marks next between more has left.
        makes_bind Label Label store (make (codes "firsts") (fold_of fold.Max (fold_args marks))) (λ firsts. make (codes "groups") (op.Project firsts out mark)) next between
        (NowHas w) GroupsMarked
        (subst (λ (r : Result Vector Over). Delivers store (make (codes "firsts") (fold_of fold.Max (fold_args marks))) next between r NowHas)
        (firsts_are u len (marks_stay v at.vector mark) (All-head (λ t. slots_of u.attributes t.0 ≡ column t.1 sorted_kept) (val, one) [] holds.each))
        (delivers_fold store (codes "firsts") next between refl fold.Max (fold_args marks) u has))
        (λ firsts later after on done gone.
        now_marked later after
        (makes_project store (codes "groups") later after refl firsts out mark w done)))
      where
        now_marked : (l : ℕ) (e : Env) {m : Writer Label} → Makes store m l e (NowHas (projected (vectors.column out n (column one groups_at)) out mark)) → Makes store m l e GroupsMarked
        now_marked l e {m} g = record {
          after = g.after;
          ran = g.ran;
          holds = record {
            vector = projected (vectors.column out n (column one groups_at)) out mark;
            has = g.holds;
            holds = project_holds (vectors.column out n (column one groups_at)) out mark groups_at one (omega arith) (omega arith) (sym groups_long) (first_slots out (column one groups_at) []);
          };
          kept = g.kept;
          ascends = g.ascends;
        }

  -- ---- their group columns

  module _ (q : Clauses) (same : q.groups ≡ columns) (long : length sorted_kept ≡ n) (fit : (c : ColumnRef) → Contains columns c → (row : FromRow) → Contains all row → fits (column_slot texts c row) ≡ true) where
    pub record KeysAt (j : ℕ) (done : List ColumnRef) (b : Base) (next : ℕ) (after : Env) : Type 0 where
      pub stands : StandsAt texts after b (group_on q) groups_at
      pub below : IsBelow next b.vector
      pub numbers : All (λ p. IsKeyBelow j p.path) b.columns
      pub none : b.aggregates ≡ []
      pub found : All (HasPlace b) done

    same_min : (a b : ℕ) → a ≡ n → b ≡ n → min a b ≡ n
    same_min a b e f = omega (arith, e, f)

    key_cells : (env : Env) (zero name p : Label) (c : ColumnRef) (u v : Vector) → Contains columns c → known (env zero) ≡ u → known (env name) ≡ v → u.len ≡ n → v.len ≡ n → slots_of u.attributes out ≡ column zero_of groups_at → slots_of v.attributes p ≡ column (column_slot texts c) sorted_kept
        → paired pair.Add env (record { x = Column zero out; y = Column name p; out = out }) ≡ Ok (vectors.column out n (column (key_slot texts columns c) groups_at))
    key_cells env naught name p c u v among is_u is_v len_u len_v slots_u slots_v =
        let at_u = ap (λ (x : Vector). slots_of x.attributes out) is_u ∙ slots_u in
        let at_v = ap (λ (x : Vector). slots_of x.attributes p) is_v ∙ slots_v in
        let both = same_min (known (env naught)).len (known (env name)).len (ap (λ (x : Vector). x.len) is_u ∙ len_u) (ap (λ (x : Vector). x.len) is_v ∙ len_v) in
        let sums : (l m : List Slot) → List Cell = λ l m. map (λ i. pair_slot pair.Add (slice_index_or l i None) (slice_index_or m i None)) (range_with_len 0 n) in
        ap (λ (m : ℕ). column_of out m (all_slots (map (λ i. pair_slot pair.Add (slice_index_or (slots_of (known (env naught)).attributes out) i None) (slice_index_or (slots_of (known (env name)).attributes p) i None)) (range_with_len 0 m)))) both
        ∙ ap (λ (l : List Slot). column_of out n (all_slots (sums l (slots_of (known (env name)).attributes p)))) at_u
        ∙ ap (λ (l : List Slot). column_of out n (all_slots (sums (column zero_of groups_at) l))) at_v
        ∙ ap (λ (l : List Cell). column_of out n (all_slots l)) (head_laws.keys texts columns front behind n all c among few (fit c among))
        ∙ ap (column_of out n) (all_slots-cells_of (column (key_slot texts columns c) groups_at))

    beside_key : (j : ℕ) (b : Base) → j < 2 ^ 64 → All (λ p. IsKeyBelow j p.path) b.columns → b.aggregates ≡ [] → All (IsBeside (key_path j)) (told_of texts (group_on q) b)
    beside_key j b small numbers none =
        let P = IsBeside {A = Group} (key_path j) in
        All-cons P (mark, one) (map (column_told texts (group_on q)) b.columns ++ map (aggregate_told texts (group_on q)) b.aggregates) (mark_beside_key j)
        (All-append P (map (column_told texts (group_on q)) b.columns) (map (aggregate_told texts (group_on q)) b.aggregates)
        (All-map P (column_told texts (group_on q)) b.columns
        (all_weaker (λ p. IsKeyBelow j p.path) (λ p. P (column_told texts (group_on q) p)) b.columns
        (λ p i. subst (λ (l : Label). is_at_or_below l (key_path j) ≡ false) (sym i.2) (keys_beside i.0 j i.1 small)) numbers))
        (subst (λ l. All P (map (aggregate_told texts (group_on q)) l)) (sym none) (All-nil P)))

    key_put : (j : ℕ) (done : List ColumnRef) (c : ColumnRef) (k next : ℕ) (before after : Env) (b : Base) (name : Label) → j < 2 ^ 64 → (s : KeysAt j done b k before)
        → Has next after name (upserted s.stands.vector (key_path j) (vectors.column out (length groups_at) (column (key_slot texts columns c) groups_at)) out)
        → KeysAt (j + 1) (done ++ c ∷ []) (with_column name c (key_path j) b) next after
    key_put j done c k next before after b name small s has =
        let on = group_on q in
        let told : Told Group = column_told texts on (record { column = c; path = key_path j }) in
        let u = vectors.column out (length groups_at) (column (key_slot texts columns c) groups_at) in
        let v = upserted s.stands.vector (key_path j) u out in
        let slots : slots_of u.attributes out ≡ column told.1 groups_at = first_slots out (column (key_slot texts columns c) groups_at) [] ∙ ap (λ (l : List ColumnRef). column (key_slot texts l c) groups_at) (sym same) in
        let holds : Holds v groups_at (told ∷ told_of texts on b) = upsert_holds s.stands.vector u (key_path j) out groups_at told.1 (told_of texts on b) s.stands.holds slots (beside_key j b small s.numbers s.none) in
        let place : ColumnPlace = record { column = c; path = key_path j } in
        record {
          stands = record {
            vector = v;
            sees = has.sees;
            holds = record {
              len = holds.len;
              each = subst (λ (l : List (Told Group)). All (SlotsAt v groups_at) ((mark, one) ∷ (l ++ map (aggregate_told texts on) b.aggregates))) (sym (map-append (column_told texts on) b.columns (place ∷ [])))
                  (into_second (SlotsAt v groups_at) told (mark, one) (map (column_told texts on) b.columns) (map (aggregate_told texts on) b.aggregates) holds.each);
            };
          };
          below = has.below;
          numbers = all_last (λ p. IsKeyBelow (j + 1) p.path) b.columns place (all_weaker (λ p. IsKeyBelow j p.path) (λ p. IsKeyBelow (j + 1) p.path) b.columns (λ p i. (i.0, omega (arith, i.1), i.2)) s.numbers) (j, omega arith, refl);
          none = s.none;
          found = all_last (HasPlace (with_column name c (key_path j) b)) done c
              (all_weaker (HasPlace b) (HasPlace (with_column name c (key_path j) b)) done (λ g h. still_any (λ p. same_column p.column g) b.columns place h) s.found)
              (with_last (λ p. same_column p.column c) b.columns place (same_itself c));
        }
      where
        same_itself : (c : ColumnRef) → same_column c c ≡ true
        same_itself c = λ i. (Decides-eqb c.source c.source).1 refl i && (Decides-eqb c.column c.column).1 refl i

    keys_later : (j : ℕ) (done : List ColumnRef) (b : Base) (k next : ℕ) (before after : Env) → k ≤ next → Kept k before after → KeysAt j done b k before → KeysAt j done b next after
    keys_later j done b k next before after more left s = record {
      stands = stands_later texts (group_on q) k before after b groups_at s.below left s.stands;
      below = below_more k next b.vector more s.below;
      numbers = s.numbers;
      none = s.none;
      found = s.found;
    }

    module _ (rows : Base) (zero : Label) where
      key_make : (j : ℕ) (done : List ColumnRef) (c : ColumnRef) (b : Base) (k : ℕ) (env : Env) → j < 2 ^ 64 → Contains columns c → HasPlace rows c → (at : StandsAt texts env rows on_row sorted_kept) → IsBelow k rows.vector → Gives k env groups_at zero zero_of → KeysAt j done b k env
          → Makes store (key_of rows zero b (j, c)) k env (λ d next after. KeysAt (j + 1) (done ++ c ∷ []) d next after)
      key_make j done c b k env small among has_place at below gives s =
          let u = vectors.column out (length groups_at) (column (key_slot texts columns c) groups_at) in
          let same_u : vectors.column out n (column (key_slot texts columns c) groups_at) ≡ u = ap (λ (m : ℕ). vectors.column out m (column (key_slot texts columns c) groups_at)) (sym groups_long) in
          let made = key_cells env zero rows.vector (path_in rows c) c gives.vector at.vector among (is_known k env zero gives.vector gives.has) (ap known at.sees) (gives.len ∙ groups_long) (at.holds.len ∙ long) gives.slots (column_slots texts on_row env rows sorted_kept at c has_place) in
          makes_bind Label Base store (make (codes "key") (statements.pair pair.Add (attribute zero out) (attribute rows.vector (path_in rows c))))
          (λ key. make (codes "groups") (with_attribute b.vector (key_path j) key out) >>= λ vector. tell (with_column vector c (key_path j) b)) k env
          (NowHas u) (λ d next after. KeysAt (j + 1) (done ++ c ∷ []) d next after)
          (subst (λ (r : Result Vector Over). Delivers store (make (codes "key") (statements.pair pair.Add (attribute zero out) (attribute rows.vector (path_in rows c)))) k env r NowHas)
          (made ∙ ap (λ (x : Vector). Ok x) same_u)
          (delivers_pair store (codes "key") k env refl pair.Add (record { x = Column zero out; y = Column rows.vector (path_in rows c); out = out })))
          (λ key next between more has left.
          let t = keys_later j done b k next env between more left s in
          makes_bind Label Base store (make (codes "groups") (with_attribute b.vector (key_path j) key out)) (λ vector. tell (with_column vector c (key_path j) b)) next between
          (NowHas (upserted s.stands.vector (key_path j) u out)) (λ d next after. KeysAt (j + 1) (done ++ c ∷ []) d next after)
          (makes_upsert store (codes "groups") next between refl b.vector (key_path j) key out s.stands.vector u (record { sees = left b.vector s.below ∙ s.stands.sees; below = below_more k next b.vector more s.below }) has)
          (λ vector later after on done_has gone.
          makes_tell Base store (with_column vector c (key_path j) b) later after (λ d next after. KeysAt (j + 1) (done ++ c ∷ []) d next after)
          (key_put j done c k later env after b vector small s done_has)))

      pub keys_make : (cs done : List ColumnRef) (j : ℕ) (b : Base) (k : ℕ) (env : Env) → j + length cs ≤ 4 → ((c : ColumnRef) → Contains cs c → Contains columns c) → All (HasPlace rows) cs → StandsAt texts env rows on_row sorted_kept → IsBelow k rows.vector → Gives k env groups_at zero zero_of → KeysAt j done b k env
          → Makes store (through (key_of rows zero) b (enumerate_from j cs)) k env (λ d next after. KeysAt (j + length cs) (done ++ cs) d next after)
      keys_make [] done j b k env few among can at below gives s =
          makes_tell Base store b k env (λ d next after. KeysAt (j + 0) (done ++ []) d next after)
          (subst (λ (m : ℕ). KeysAt m (done ++ []) b k env) (omega arith) (subst (λ (l : List ColumnRef). KeysAt j l b k env) (sym (append-nil done)) s))
      keys_make (c ∷ cs) done j b k env few among can at below gives s =
          makes_bind Base Base store (key_of rows zero b (j, c)) (λ next. through (key_of rows zero) next (enumerate_from (j + 1) cs)) k env
          (λ d next after. KeysAt (j + 1) (done ++ c ∷ []) d next after) (λ d next after. KeysAt (j + length (c ∷ cs)) (done ++ c ∷ cs) d next after)
          (key_make j done c b k env (omega (arith, few)) (among c (here c cs)) (All-head (HasPlace rows) c cs can) at below gives s)
          (λ d next between more t left.
          subst (λ (m : ℕ). Makes store (through (key_of rows zero) d (enumerate_from (j + 1) cs)) next between (λ e l after. KeysAt m (done ++ c ∷ cs) e l after)) (omega arith)
          (subst (λ (l : List ColumnRef). Makes store (through (key_of rows zero) d (enumerate_from (j + 1) cs)) next between (λ e m after. KeysAt (j + 1 + length cs) l e m after)) (append_assoc done (c ∷ []) cs)
          (keys_make cs (done ++ c ∷ []) (j + 1) d next between (omega (arith, few)) (λ x h. among x (there c x cs h)) (All-tail (HasPlace rows) c cs can)
          (stands_later texts on_row k env between rows sorted_kept below left at) (below_more k next rows.vector more below)
          (record { vector = gives.vector; has = has_later k next env between zero gives.vector more left gives.has; len = gives.len; slots = gives.slots }) t)))

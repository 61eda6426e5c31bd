-- What aggregates are folded over passes the check, and so do the groups as a whole.
use Rattle.std.proofs.Common.{◌≡◌, ℕ, ◌+◌, ◌<◌, ◌≤◌, ◌^◌, true, false, List, [], ◌∷◌, ◌++◌, length, map, get_or, refl, arith, codes, decimal, Some}
use Rattle.std.specs.Prelude.{All}
use Rattle.std.specs.List.{enumerate_from, list_any}
use Rattle.std.proofs.lemmas.List.{length-map}
use Rattle.std.proofs.lemmas.List.Elements.{All-nil, All-cons, All-head, All-tail, All-map}
use Rattle.control_vectors.specs.declared.PairKind.TheVariants as pair
use Rattle.key_paths.specs.Substructures.{is_at_or_below}
use Rattle.programs.specs.declared.family.FoldOperator.TheVariants as fold
use Rattle.programs.specs.declared.op.Op.TheVariants as op
use Rattle.programs.specs.declared.order_keys.OrderPath.{OrderPath}
use Rattle.programs.specs.Check.{Known}
use Rattle.programs.specs.Mentions.{Label, has_name}
use Rattle.programs.specs.Outlines.{Shapes, outlined}
use Rattle.typed_trees.specs.declared.typed.ColumnRef.{ColumnRef}
use Rattle.typed_trees.specs.Names.{same_column}
use Rattle.program_writers.specs.Statements.{out, mark, val, run, zeros, ones, attribute, with_attribute, fold_args, fold_of, at_places}
use Rattle.program_writers.specs.Statements as statements
use Rattle.program_writers.specs.Writers.{tell, ◌>>=◌, through, make}
use Rattle.plan_programs.specs.Groups.{Folding, ascending, sorted, run_path, run_by, runs_of, key_path, key_of, run_groups}
use Rattle.plan_programs.specs.Sites.{Base, moved_to, path_in, with_column}
use Rattle.writer_checks.specs.Checks.{IsFresh, HasShape, Passes}
use Rattle.writer_checks.specs.Laws.{IsAttribute, Shaped}
use Rattle.writer_checks.proofs.Going.{weaker}
use Rattle.writer_checks.proofs.Outlined.{one_clear, one_shallow}
use Rattle.writer_checks.proofs.Passing.{operator_laws}
use Rattle.writer_checks.proofs.Routes.{path_laws}
use Rattle.lowered_stages.specs.Stages.{paths_of, IsShaped}
use Rattle.lowered_stages.specs.Parts.{SamePlaces}
use Rattle.lowered_group_checks.proofs.FoldsPass.{IsColumn, FoldingShaped}
use Rattle.lowered_group_checks.proofs.GroupsPass.{mark_attribute, out_attribute, val_attribute, run_mark_attribute, run_path_attribute, key_flat, some_more, GroupsShaped, groups_still, beside_key, with_new_key}
use Rattle.lowered_group_checks.proofs.Shaped.{still, then_passes, tells, pair_passes, one_path, mark_path, column_named, column_in}
use Rattle.lowered_group_checks.proofs.Used.{here, there}

-- a column of the base has a place
abbrev pub HasPlace : Base → ColumnRef → Type 0
HasPlace b c = list_any (λ p. same_column p.column c) b.columns ≡ true

-- the path of the mark among runs
abbrev pub run_mark : Label
run_mark = codes ".run.mark"

-- a vector of one attribute, known exactly
alone_shape : (shapes : Shapes) (name p : Label) (len : ℕ) → IsAttribute p → shapes name ≡ Some (record { len = len; paths = p ∷ [] }) → HasShape shapes name len (p ∷ [])
alone_shape shapes name p len at e = record {
  outline = outlined len (p ∷ []);
  known = e;
  len_is = refl;
  clear = one_clear len p at.below_root;
  shallow = one_shallow len p at.shallow;
  each = All-cons (λ q. has_name (p ∷ []) q ≡ true) p [] (here p []) (All-nil (λ q. has_name (p ∷ []) q ≡ true));
}

-- what a folding leaves
pub record FoldingDone (len : ℕ) (b : Base) (f : Folding) (shapes : Shapes) : Type 0 where
  pub count : ℕ
  pub keys : ℕ
  pub folding : FoldingShaped len count f shapes
  pub groups : GroupsShaped count keys 0 f.groups shapes
  pub places : SamePlaces b f.rows

module _ (tables : Shapes) (len : ℕ) (small : len ≤ 2 ^ 22) where
  -- ---- the rows sorted

  pub record SortedShaped (b rows : Base) (shapes : Shapes) : Type 0 where
    pub shape : IsShaped len rows shapes
    pub same : SamePlaces b rows

  pub sorted_passes : (b : Base) (columns : List ColumnRef) → All (HasPlace b) columns → length columns ≤ 4 → (k : ℕ) (known : Known) → IsFresh k known.vectors → IsShaped len b known.vectors → Passes tables (sorted b columns) k known (SortedShaped b)
  sorted_passes b columns can few k known fresh h =
      let paths = map (λ p. p.path) b.columns ++ map (λ p. p.path) b.aggregates in
      let Named : OrderPath → Type 0 = λ key. has_name paths key.path ≡ true in
      let long : length (map (λ c. ascending (path_in b c)) columns) ≡ length columns = length-map columns (λ c. ascending (path_in b c)) in
      then_passes tables (make (codes "order") (op.Order b.vector mark out (map (λ c. ascending (path_in b c)) columns))) (λ order. make (codes "sorted") (at_places b.vector order) >>= λ rows. tell (moved_to rows b)) k known (IsColumn len) (SortedShaped b)
      (operator_laws.order tables (codes "order") b.vector mark (map (λ c. ascending (path_in b c)) columns) len paths k known refl fresh small h
      (All-map Named (λ c. ascending (path_in b c)) columns (λ i d l. column_named b (get_or columns i d) (can i d l))) (omega (arith, long, few)))
      (λ order next between new shape stays.
      then_passes tables (make (codes "sorted") (at_places b.vector order)) (λ rows. tell (moved_to rows b)) next between (Shaped len (paths_of b)) (SortedShaped b)
      (operator_laws.gather tables (codes "sorted") b.vector order out len len (paths_of b) next between refl new small (still k known.vectors between.vectors b.vector len (paths_of b) fresh stays h) shape)
      (λ rows last after fresher shaped stay. tells tables (moved_to rows b) last after (SortedShaped b) fresher (record { shape = shaped; same = record { columns = refl; aggregates = refl } })))

  -- ---- their runs

  module _ (rows : Base) where
    runs_loop : (columns : List ColumnRef) (j : ℕ) (runs : Label) → All (HasPlace rows) columns → j + length columns ≤ 4 → (k : ℕ) (known : Known) → IsFresh k known.vectors → IsShaped len rows known.vectors → HasShape known.vectors runs len (run_mark ∷ [])
        → Passes tables (through (run_by rows) runs (enumerate_from j columns)) k known (λ name shapes. HasShape shapes name len (run_mark ∷ []))
    runs_loop [] j runs can few k known fresh h r = tells tables runs k known (λ name shapes. HasShape shapes name len (run_mark ∷ [])) fresh r
    runs_loop (c ∷ columns) j runs can few k known fresh h r =
        then_passes tables (make (codes "runs") (with_attribute runs (run_path j) rows.vector (path_in rows c))) (λ next. through (run_by rows) next (enumerate_from (j + 1) columns)) k known
        (Shaped len (run_path j ∷ run_mark ∷ [])) (λ name shapes. HasShape shapes name len (run_mark ∷ []))
        (operator_laws.upsert tables (codes "runs") runs (run_path j) rows.vector (path_in rows c) len (run_mark ∷ []) len k known refl fresh (run_path_attribute j (omega (arith, few))) small r
        (column_in known.vectors rows len c (All-head (HasPlace rows) c columns can) h)
        (path_laws.none_above_two known.vectors runs (codes "run") (codes "g" ++ decimal j) (codes "mark") len [] refl (path_laws.numbered_flat (codes "g") j refl (omega (arith, few))) r)
        (All-cons (λ p. is_at_or_below p (run_path j) ≡ false) run_mark [] refl (All-nil (λ p. is_at_or_below p (run_path j) ≡ false))))
        (λ name next between new shape stays.
        runs_loop columns (j + 1) name (All-tail (HasPlace rows) c columns can) (omega (arith, few)) next between new (still k known.vectors between.vectors rows.vector len (paths_of rows) fresh stays h)
        (one_path between.vectors name len (run_path j ∷ run_mark ∷ []) run_mark shape (there (run_path j) run_mark (run_mark ∷ []) (here run_mark []))))

    pub runs_pass : (columns : List ColumnRef) → All (HasPlace rows) columns → length columns ≤ 4 → (k : ℕ) (known : Known) → IsFresh k known.vectors → IsShaped len rows known.vectors → Passes tables (runs_of rows columns) k known (λ name shapes. HasShape shapes name len (run_mark ∷ []))
    runs_pass columns can few k known fresh h =
        then_passes tables (make (codes "runs") (op.Project rows.vector mark (codes ".run.mark"))) (λ runs. through (run_by rows) runs (enumerate_from 0 columns)) k known
        (λ name shapes. shapes name ≡ Some (record { len = len; paths = run_mark ∷ [] })) (λ name shapes. HasShape shapes name len (run_mark ∷ []))
        (operator_laws.project tables (codes "runs") rows.vector mark run_mark len k known refl fresh mark_attribute run_mark_attribute small (mark_path known.vectors rows len h))
        (λ runs next between new exact stays.
        runs_loop columns 0 runs can (omega (arith, few)) next between new (still k known.vectors between.vectors rows.vector len (paths_of rows) fresh stays h) (alone_shape between.vectors runs run_mark len run_mark_attribute exact))

    pub run_groups_pass : (runs : Label) (k : ℕ) (known : Known) → IsFresh k known.vectors → IsShaped len rows known.vectors → HasShape known.vectors runs len (run_mark ∷ []) → Passes tables (run_groups rows runs) k known (λ name shapes. HasShape shapes name len (mark ∷ []))
    run_groups_pass runs k known fresh h r =
        then_passes tables (make (codes "marks") (with_attribute runs val rows.vector mark)) (λ marks. make (codes "firsts") (fold_of fold.Max (fold_args marks)) >>= λ firsts. make (codes "groups") (op.Project firsts out mark)) k known
        (Shaped len (val ∷ run_mark ∷ [])) (λ name shapes. HasShape shapes name len (mark ∷ []))
        (operator_laws.upsert tables (codes "marks") runs val rows.vector mark len (run_mark ∷ []) len k known refl fresh val_attribute small r (mark_path known.vectors rows len h)
        (path_laws.none_above_one known.vectors runs (codes "val") (codes "run.mark") len [] refl r)
        (All-cons (λ p. is_at_or_below p val ≡ false) run_mark [] refl (All-nil (λ p. is_at_or_below p val ≡ false))))
        (λ marks next between new shape stays.
        then_passes tables (make (codes "firsts") (fold_of fold.Max (fold_args marks))) (λ firsts. make (codes "groups") (op.Project firsts out mark)) next between (IsColumn len) (λ name shapes. HasShape shapes name len (mark ∷ []))
        (operator_laws.fold tables (codes "firsts") marks fold.Max run_mark len next between refl new small refl shape)
        (λ firsts last after fresher column stay.
        weaker tables (make (codes "groups") (op.Project firsts out mark)) last after (λ name shapes. shapes name ≡ Some (record { len = len; paths = mark ∷ [] })) (λ name shapes. HasShape shapes name len (mark ∷ []))
        (λ name shapes same exact. alone_shape shapes name mark len mark_attribute exact)
        (operator_laws.project tables (codes "groups") firsts out mark len last after refl fresher out_attribute mark_attribute small column)))

    -- ---- their group columns

    pub record KeysShaped (m : ℕ) (b : Base) (shapes : Shapes) : Type 0 where
      pub groups : GroupsShaped len m 0 b shapes
      pub none : b.aggregates ≡ []

    key_passes : (zero : Label) (j : ℕ) (c : ColumnRef) (b : Base) → j < 2 ^ 64 → HasPlace rows c → (k : ℕ) (known : Known) → IsFresh k known.vectors → IsShaped len rows known.vectors → IsColumn len zero known.vectors → KeysShaped j b known.vectors
        → Passes tables (key_of rows zero b (j, c)) k known (KeysShaped (j + 1))
    key_passes naught j c b few can k known fresh h z s =
        then_passes tables (make (codes "key") (statements.pair pair.Add (attribute naught out) (attribute rows.vector (path_in rows c))))
        (λ key. make (codes "groups") (with_attribute b.vector (key_path j) key out) >>= λ vector. tell (with_column vector c (key_path j) b)) k known (IsColumn len) (KeysShaped (j + 1))
        (pair_passes tables (codes "key") pair.Add naught out rows.vector (path_in rows c) len k known refl fresh small z (column_in known.vectors rows len c can h))
        (λ key next between new shape stays.
        let g = groups_still len j 0 b k known.vectors between.vectors fresh stays s.groups in
        then_passes tables (make (codes "groups") (with_attribute b.vector (key_path j) key out)) (λ vector. tell (with_column vector c (key_path j) b)) next between (Shaped len (key_path j ∷ paths_of b)) (KeysShaped (j + 1))
        (operator_laws.upsert tables (codes "groups") b.vector (key_path j) key out len (paths_of b) len next between refl new
        (path_laws.attribute_one (codes "k" ++ decimal j) (key_flat j few) (some_more (codes "k") j (omega arith))) small g.shape shape
        (path_laws.none_above_one between.vectors b.vector (codes "k" ++ decimal j) (codes "mark") len (map (λ p. p.path) b.columns ++ map (λ p. p.path) b.aggregates) (key_flat j few) g.shape)
        (beside_key len j b between.vectors few s.none g))
        (λ vector last after fresher shaped stay.
        tells tables (with_column vector c (key_path j) b) last after (KeysShaped (j + 1)) fresher (record { groups = with_new_key len j b c vector after.vectors between.vectors g shaped; none = s.none })))

    pub keys_pass : (zero : Label) (columns : List ColumnRef) (j : ℕ) (b : Base) → j + length columns ≤ 4 → All (HasPlace rows) columns → (k : ℕ) (known : Known) → IsFresh k known.vectors → IsShaped len rows known.vectors → IsColumn len zero known.vectors → KeysShaped j b known.vectors
        → Passes tables (through (key_of rows zero) b (enumerate_from j columns)) k known (λ c shapes. (m : ℕ) × KeysShaped m c shapes)
    keys_pass naught [] j b few can k known fresh h z s = tells tables b k known (λ c shapes. (m : ℕ) × KeysShaped m c shapes) fresh (j, s)
    keys_pass naught (c ∷ columns) j b few can k known fresh h z s =
        then_passes tables (key_of rows naught b (j, c)) (λ next. through (key_of rows naught) next (enumerate_from (j + 1) columns)) k known (KeysShaped (j + 1)) (λ c shapes. (m : ℕ) × KeysShaped m c shapes)
        (key_passes naught j c b (omega (arith, few)) (All-head (HasPlace rows) c columns can) k known fresh h z s)
        (λ d next between new t stays.
        keys_pass naught columns (j + 1) d (omega (arith, few)) (All-tail (HasPlace rows) c columns can) next between new (still k known.vectors between.vectors rows.vector len (paths_of rows) fresh stays h)
        (still k known.vectors between.vectors naught len (out ∷ []) fresh stays z) t)

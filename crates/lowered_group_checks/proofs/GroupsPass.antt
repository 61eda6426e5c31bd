-- The part that writes groups passes the check.
use Rattle.std.proofs.Common.{◌≡◌, ℕ, ◌+◌, ◌<◌, ◌≤◌, ◌^◌, true, false, List, [], ◌∷◌, ◌++◌, length, map, get_or, refl, sym, subst, arith, codes, decimal, Option, Some, None}
use Rattle.std.specs.Prelude.{All}
use Rattle.std.specs.Option.{ForSome}
use Rattle.std.specs.List.{enumerate_from}
use Rattle.std.proofs.lemmas.List.{map-append}
use Rattle.std.proofs.lemmas.List.Elements.{All-nil, All-cons, All-head, All-tail, All-append, All-map, All-contains, All-contains_itself, Contains-append_left, Contains-append_right}
use Rattle.control_vectors.specs.declared.PairKind.TheVariants as pair
use Rattle.key_paths.specs.Substructures.{is_at_or_below}
use Rattle.programs.specs.Check.{Known}
use Rattle.programs.specs.Mentions.{Label, has_name}
use Rattle.programs.specs.Outlines.{Shapes}
use Rattle.typed_trees.specs.declared.typed.Aggregate.{Aggregate}
use Rattle.typed_trees.specs.declared.typed.ColumnRef.{ColumnRef}
use Rattle.typed_trees.specs.declared.typed.TypedExpr.{TypedExpr}
use Rattle.typed_trees.specs.Types.{no_aggregate}
use Rattle.expr_lower.specs.declared.places.AggregatePlace.{AggregatePlace}
use Rattle.expr_lower.specs.declared.places.ColumnPlace.{ColumnPlace}
use Rattle.expr_steps.specs.Lowered.{Bytes}
use Rattle.program_writers.specs.Statements.{out, mark, val, run, with_attribute}
use Rattle.program_writers.specs.Writers.{tell, ◌>>=◌, through, make}
use Rattle.plan_programs.specs.Groups.{Folding, nought_at, run_path, key_path, aggregated, argument, aggregate_path, aggregate_of}
use Rattle.plan_programs.specs.Sites.{Base, with_column, with_aggregate}
use Rattle.writer_checks.specs.Checks.{IsFresh, HasShape, Passes}
use Rattle.writer_checks.specs.Laws.{IsAttribute, Shaped}
use Rattle.writer_checks.specs.Paths.{is_flat}
use Rattle.writer_checks.proofs.Passing.{operator_laws}
use Rattle.writer_checks.proofs.Routes.{path_laws}
use Rattle.lowered_stages.specs.Stages.{paths_of, IsShaped}
use Rattle.lowered_stages.specs.Parts.{CanValue}
use Rattle.lowered_group_checks.specs.Laws.{ValuePasses}
use Rattle.lowered_group_checks.proofs.FoldsPass.{IsColumn, FoldingShaped, folding_still, aggregated_passes}
use Rattle.lowered_group_checks.proofs.Shaped.{Stays, still, then_passes, tells, pair_passes, with_paths, mark_path}

-- ---- attributes

pub mark_attribute : IsAttribute mark
mark_attribute = path_laws.attribute_one (codes "mark") refl (omega arith)

pub out_attribute : IsAttribute out
out_attribute = path_laws.attribute_one (codes "out") refl (omega arith)

pub run_attribute : IsAttribute run
run_attribute = path_laws.attribute_one (codes "run") refl (omega arith)

pub val_attribute : IsAttribute val
val_attribute = path_laws.attribute_one (codes "val") refl (omega arith)

pub run_mark_attribute : IsAttribute (codes ".run.mark")
run_mark_attribute = path_laws.attribute_two (codes "run") (codes "mark") refl refl

pub run_path_attribute : (j : ℕ) → j < 2 ^ 64 → IsAttribute (run_path j)
run_path_attribute j small = path_laws.attribute_two (codes "run") (codes "g" ++ decimal j) refl (path_laws.numbered_flat (codes "g") j refl small)

pub key_flat : (j : ℕ) → j < 2 ^ 64 → is_flat (codes "k" ++ decimal j) ≡ true
key_flat j small = path_laws.numbered_flat (codes "k") j refl small

aggregate_flat : (j : ℕ) → j < 2 ^ 64 → is_flat (codes "a" ++ decimal j) ≡ true
aggregate_flat j small = path_laws.numbered_flat (codes "a") j refl small

pub some_more : (word : Label) (n : ℕ) → 0 < length word → 0 < length (word ++ decimal n)
some_more [] n h = absurd (omega arith)
some_more (x ∷ word) n h = omega arith

keys_beside : (j n : ℕ) → j < n → n < 2 ^ 64 → is_at_or_below (key_path j) (key_path n) ≡ false
keys_beside j n less small = path_laws.ones_apart (codes "k" ++ decimal j) (codes "k" ++ decimal n) (key_flat j (omega arith)) (some_more (codes "k") n (omega arith)) (path_laws.numbers_differ (codes "k") j n (omega arith) small (omega arith))

aggregates_beside : (j n : ℕ) → j < n → n < 2 ^ 64 → is_at_or_below (aggregate_path j) (aggregate_path n) ≡ false
aggregates_beside j n less small = path_laws.ones_apart (codes "a" ++ decimal j) (codes "a" ++ decimal n) (aggregate_flat j (omega arith)) (some_more (codes "a") n (omega arith)) (path_laws.numbers_differ (codes "a") j n (omega arith) small (omega arith))

-- ---- lists of paths

module _ {X : Type 0} (P : X → Type 0) where
  all_left : (xs ys : List X) → All P (xs ++ ys) → All P xs
  all_left xs ys h = λ k d l. All-contains P (xs ++ ys) (get_or xs k d) h (Contains-append_left xs ys (get_or xs k d) (All-contains_itself xs k d l))

  all_right : (xs ys : List X) → All P (xs ++ ys) → All P ys
  all_right xs ys h = λ k d l. All-contains P (xs ++ ys) (get_or ys k d) h (Contains-append_right xs ys (get_or ys k d) (All-contains_itself ys k d l))

  all_last : (xs : List X) (x : X) → All P xs → P x → All P (xs ++ x ∷ [])
  all_last xs x h p = All-append P xs (x ∷ []) h (All-cons P x [] p (All-nil P))

  -- the first goes to the end of the second part, or of the third
  pub into_second : (x m : X) (xs ys : List X) → All P (x ∷ m ∷ (xs ++ ys)) → All P (m ∷ ((xs ++ x ∷ []) ++ ys))
  into_second x m xs ys h =
      let others = All-tail P x (m ∷ (xs ++ ys)) h in
      let rest = All-tail P m (xs ++ ys) others in
      All-cons P m ((xs ++ x ∷ []) ++ ys) (All-head P m (xs ++ ys) others)
      (All-append P (xs ++ x ∷ []) ys (all_last xs x (all_left xs ys rest) (All-head P x (m ∷ (xs ++ ys)) h)) (all_right xs ys rest))

  into_third : (x m : X) (xs ys : List X) → All P (x ∷ m ∷ (xs ++ ys)) → All P (m ∷ (xs ++ (ys ++ x ∷ [])))
  into_third x m xs ys h =
      let others = All-tail P x (m ∷ (xs ++ ys)) h in
      let rest = All-tail P m (xs ++ ys) others in
      All-cons P m (xs ++ (ys ++ x ∷ [])) (All-head P m (xs ++ ys) others)
      (All-append P xs (ys ++ x ∷ []) (all_left xs ys rest) (all_last ys x (all_right xs ys rest) (All-head P x (m ∷ (xs ++ ys)) h)))

all_weaker : {X : Type 0} (P Q : X → Type 0) (xs : List X) → ((x : X) → P x → Q x) → All P xs → All Q xs
all_weaker P Q xs f h = λ k d l. f (get_or xs k d) (h k d l)

-- ---- a groups' base

abbrev pub IsKeyBelow : ℕ → Label → Type 0
IsKeyBelow n p = (j : ℕ) × (j < n) × (p ≡ key_path j)

abbrev pub IsAggregateBelow : ℕ → Label → Type 0
IsAggregateBelow n p = (j : ℕ) × (j < n) × (p ≡ aggregate_path j)

-- it is known, with the paths of group columns and of aggregates
pub record GroupsShaped (count m n : ℕ) (b : Base) (shapes : Shapes) : Type 0 where
  pub shape : IsShaped count b shapes
  pub keys : All (λ p. IsKeyBelow m p.path) b.columns
  pub numbers : All (λ p. IsAggregateBelow n p.path) b.aggregates

pub groups_still : (count m n : ℕ) (b : Base) (k : ℕ) (before after : Shapes) → IsFresh k before → Stays k before after → GroupsShaped count m n b before → GroupsShaped count m n b after
groups_still count m n b k before after fresh stays g = record { shape = still k before after b.vector count (paths_of b) fresh stays g.shape; keys = g.keys; numbers = g.numbers }

-- none of its paths is at or below the next
beside_aggregate : (count m n : ℕ) (b : Base) (shapes : Shapes) → n < 2 ^ 64 → GroupsShaped count m n b shapes → All (λ r. is_at_or_below r (aggregate_path n) ≡ false) (paths_of b)
beside_aggregate count m n b shapes small g =
    let P : Label → Type 0 = λ r. is_at_or_below r (aggregate_path n) ≡ false in
    All-cons P mark (map (λ p. p.path) b.columns ++ map (λ p. p.path) b.aggregates) refl
    (All-append P (map (λ p. p.path) b.columns) (map (λ p. p.path) b.aggregates)
    (All-map P (λ (p : ColumnPlace). p.path) b.columns (all_weaker (λ p. IsKeyBelow m p.path) (λ p. P p.path) b.columns (λ p i. subst P (sym i.2) refl) g.keys))
    (All-map P (λ (p : AggregatePlace). p.path) b.aggregates (all_weaker (λ p. IsAggregateBelow n p.path) (λ p. P p.path) b.aggregates (λ p i. subst P (sym i.2) (aggregates_beside i.0 n i.1 small)) g.numbers)))

pub beside_key : (count m : ℕ) (b : Base) (shapes : Shapes) → m < 2 ^ 64 → b.aggregates ≡ [] → GroupsShaped count m 0 b shapes → All (λ r. is_at_or_below r (key_path m) ≡ false) (paths_of b)
beside_key count m b shapes small none g =
    let P : Label → Type 0 = λ r. is_at_or_below r (key_path m) ≡ false in
    All-cons P mark (map (λ p. p.path) b.columns ++ map (λ p. p.path) b.aggregates) refl
    (All-append P (map (λ p. p.path) b.columns) (map (λ p. p.path) b.aggregates)
    (All-map P (λ (p : ColumnPlace). p.path) b.columns (all_weaker (λ p. IsKeyBelow m p.path) (λ p. P p.path) b.columns (λ p i. subst P (sym i.2) (keys_beside i.0 m i.1 small)) g.keys))
    (subst (λ (l : List AggregatePlace). All P (map (λ p. p.path) l)) (sym none) (All-nil P)))

with_new_aggregate : (count m n : ℕ) (b : Base) (name : Label) (shapes before : Shapes) → GroupsShaped count m n b before → HasShape shapes name count (aggregate_path n ∷ paths_of b) → GroupsShaped count m (n + 1) (with_aggregate name n (aggregate_path n) b) shapes
with_new_aggregate count m n b name shapes before g h =
    let P : Label → Type 0 = λ p. has_name h.outline.paths p ≡ true in
    let place : AggregatePlace = record { aggregate = n; path = aggregate_path n } in
    record {
      shape = with_paths shapes name count (aggregate_path n ∷ paths_of b) (paths_of (with_aggregate name n (aggregate_path n) b)) h
          (subst (λ (l : List Label). All P (mark ∷ (map (λ p. p.path) b.columns ++ l))) (sym (map-append (λ (p : AggregatePlace). p.path) b.aggregates (place ∷ [])))
          (into_third P (aggregate_path n) mark (map (λ p. p.path) b.columns) (map (λ p. p.path) b.aggregates) h.each));
      keys = g.keys;
      numbers = all_last (λ p. IsAggregateBelow (n + 1) p.path) b.aggregates place (all_weaker (λ p. IsAggregateBelow n p.path) (λ p. IsAggregateBelow (n + 1) p.path) b.aggregates (λ p i. (i.0, omega (arith, i.1), i.2)) g.numbers) (n, omega arith, refl);
    }

pub with_new_key : (count m : ℕ) (b : Base) (c : ColumnRef) (name : Label) (shapes before : Shapes) → GroupsShaped count m 0 b before → HasShape shapes name count (key_path m ∷ paths_of b) → GroupsShaped count (m + 1) 0 (with_column name c (key_path m) b) shapes
with_new_key count m b c name shapes before g h =
    let P : Label → Type 0 = λ p. has_name h.outline.paths p ≡ true in
    let place : ColumnPlace = record { column = c; path = key_path m } in
    record {
      shape = with_paths shapes name count (key_path m ∷ paths_of b) (paths_of (with_column name c (key_path m) b)) h
          (subst (λ (l : List Label). All P (mark ∷ (l ++ map (λ p. p.path) b.aggregates))) (sym (map-append (λ (p : ColumnPlace). p.path) b.columns (place ∷ [])))
          (into_second P (key_path m) mark (map (λ p. p.path) b.columns) (map (λ p. p.path) b.aggregates) h.each));
      keys = all_last (λ p. IsKeyBelow (m + 1) p.path) b.columns place (all_weaker (λ p. IsKeyBelow m p.path) (λ p. IsKeyBelow (m + 1) p.path) b.columns (λ p i. (i.0, omega (arith, i.1), i.2)) g.keys) (m, omega arith, refl);
      numbers = g.numbers;
    }

-- ---- 0 where something stands

pub nought_passes : (tables : Shapes) (name : Label) (len : ℕ) (k : ℕ) (known : Known) → IsFresh k known.vectors → len ≤ 2 ^ 22 → HasShape known.vectors name len (mark ∷ []) → Passes tables (nought_at name) k known (IsColumn len)
nought_passes tables name len k known fresh small h = pair_passes tables (codes "nought") pair.Greater name mark name mark len k known refl fresh small h h

-- ---- aggregates

module _ (values : ValuePasses) (tables : Shapes) (texts : List Bytes) (len count : ℕ) (f : Folding) where
  argument_passes : (o : Option TypedExpr) → ForSome o (CanValue no_aggregate f.rows) → (k : ℕ) (known : Known) → IsFresh k known.vectors → FoldingShaped len count f known.vectors → Passes tables (argument texts f o) k known (IsColumn len)
  argument_passes None can k known fresh h = pair_passes tables (codes "all") pair.Equals f.rows.vector mark f.rows.vector mark len k known refl fresh h.few (mark_path known.vectors f.rows len h.rows) (mark_path known.vectors f.rows len h.rows)
  argument_passes (Some e) can k known fresh h = values tables texts no_aggregate (codes "argument") len f.rows e refl h.few (can e refl) k known fresh h.rows

  -- the folding, and the groups so far
  pub record Both (m n : ℕ) (b : Base) (shapes : Shapes) : Type 0 where
    pub folding : FoldingShaped len count f shapes
    pub groups : GroupsShaped count m n b shapes

  aggregate_passes : (m n : ℕ) (a : Aggregate) (b : Base) → n < 2 ^ 64 → ForSome a.argument (CanValue no_aggregate f.rows) → (k : ℕ) (known : Known) → IsFresh k known.vectors → Both m n b known.vectors → Passes tables (aggregate_of texts f b (n, a)) k known (Both m (n + 1))
  aggregate_passes m n a b small can k known fresh h =
      let end = λ (vector : Label). tell (with_aggregate vector n (aggregate_path n) b) in
      let put = λ (x : Label). make (codes "groups") (with_attribute b.vector (aggregate_path n) x out) >>= end in
      then_passes tables (argument texts f a.argument) (λ value. aggregated f a.kind value >>= put) k known (IsColumn len) (Both m (n + 1)) (argument_passes a.argument can k known fresh h.folding)
      (λ value next between new shape stays.
      let g = groups_still count m n b k known.vectors between.vectors fresh stays h.groups in
      let i = folding_still len count f k known.vectors between.vectors fresh stays h.folding in
      then_passes tables (aggregated f a.kind value) put next between (IsColumn count) (Both m (n + 1)) (aggregated_passes tables len count f a.kind value next between new i shape)
      (λ x last after fresher column stay.
      let g2 = groups_still count m n b next between.vectors after.vectors new stay g in
      let i2 = folding_still len count f next between.vectors after.vectors new stay i in
      then_passes tables (make (codes "groups") (with_attribute b.vector (aggregate_path n) x out)) end last after (Shaped count (aggregate_path n ∷ paths_of b)) (Both m (n + 1))
      (operator_laws.upsert tables (codes "groups") b.vector (aggregate_path n) x out count (paths_of b) count last after refl fresher
      (path_laws.attribute_one (codes "a" ++ decimal n) (aggregate_flat n small) (some_more (codes "a") n (omega arith))) i2.small g2.shape column
      (path_laws.none_above_one after.vectors b.vector (codes "a" ++ decimal n) (codes "mark") count (map (λ p. p.path) b.columns ++ map (λ p. p.path) b.aggregates) (aggregate_flat n small) g2.shape)
      (beside_aggregate count m n b after.vectors small g2))
      (λ vector final done freshest shaped stood.
      tells tables (with_aggregate vector n (aggregate_path n) b) final done (Both m (n + 1)) freshest
      (record { folding = folding_still len count f last after.vectors done.vectors fresher stood i2; groups = with_new_aggregate count m n b vector done.vectors after.vectors g2 shaped }))))

  pub aggregates_pass : (m : ℕ) (others : List Aggregate) (n : ℕ) (b : Base) → n + length others < 2 ^ 64 → All (λ a. ForSome a.argument (CanValue no_aggregate f.rows)) others → (k : ℕ) (known : Known) → IsFresh k known.vectors → Both m n b known.vectors
      → Passes tables (through (aggregate_of texts f) b (enumerate_from n others)) k known (λ c shapes. (l : ℕ) × Both m l c shapes)
  aggregates_pass m [] n b small can k known fresh h = tells tables b k known (λ c shapes. (l : ℕ) × Both m l c shapes) fresh (n, h)
  aggregates_pass m (a ∷ others) n b small can k known fresh h =
      then_passes tables (aggregate_of texts f b (n, a)) (λ c. through (aggregate_of texts f) c (enumerate_from (n + 1) others)) k known (Both m (n + 1)) (λ c shapes. (l : ℕ) × Both m l c shapes)
      (aggregate_passes m n a b (omega (arith, small)) (All-head (λ a. ForSome a.argument (CanValue no_aggregate f.rows)) a others can) k known fresh h)
      (λ c next between new both stays. aggregates_pass m others (n + 1) c (omega (arith, small)) (All-tail (λ a. ForSome a.argument (CanValue no_aggregate f.rows)) a others can) next between new both)

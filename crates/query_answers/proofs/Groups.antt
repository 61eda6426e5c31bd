-- Groups are the runs of the rows in a stable order of the group columns, and their marks those of the columns' tuples.
use Rattle.std.proofs.Common.{◌≡◌, ◌∙◌, ℕ, zero, suc, ◌-◌, ◌<◌, Bool, true, false, not, ◌||◌, List, [], ◌∷◌, length, map, get_or, cond, Some, unwrap_or, refl, sym, ap, arith}
use Rattle.std.specs.Prelude.{◌==◌}
use Rattle.std.specs.Ordering.{is_eq, ordering_reverse}
use Rattle.std.specs.declared.cmp.Ordering.{Ordering}
use Rattle.std.specs.declared.cmp.Ordering.TheVariants.{Less, Equal, Greater}
use Rattle.std.specs.Cmp.{first_so, second_so}
use Rattle.std.specs.List.{Contains, range_with_len, list_any, zip}
use Rattle.std.specs.Map.{lookup}
use Rattle.std.proofs.lemmas.Bool.{false≢true}
use Rattle.typed_trees.specs.Names.{same_column}
use Rattle.std.specs.List.Sorted.{IsSortedBy, IsStableBy}
use Rattle.std.proofs.lemmas.Bool.Decides.{nat_tests, Decides-eqb}
use Rattle.std.proofs.lemmas.List.{length-map}
use Rattle.std.proofs.lemmas.List.FromFn.{fill_by_all}
use Rattle.std.proofs.lemmas.Simd.{map-map}
use Rattle.dict_codes.specs.Ascending.{ascending}
use Rattle.control_vectors.specs.Runs.{Tuple, tuple_eq, begins, run_marks}
use Rattle.sql_values.specs.Values.{Value, null}
use Rattle.typed_trees.specs.declared.typed.ColumnRef.{ColumnRef}
use Rattle.query_answers.specs.Answers.{FromRow, Group, group_key, by_key, groups_of, group_value, column_value}
use Rattle.query_answers.specs.Laws.{RunLaws}
use Rattle.query_answers.specs.Runs.{key_before, changes, key_marks, key_runs, run_group}
use Rattle.query_answers.proofs.KeyOrders.{keys_total}
use Rattle.query_answers.proofs.Runs.{having_key, keyed, whole, pieces, runs_are, each_with_its_rows}

abbrev as_group : List Value × List FromRow → Group
as_group p = record { key = p.0; rows = p.1 }

pub groups_are : (c : ColumnRef) (cs : List ColumnRef) (rows sorted : List FromRow) → IsSortedBy (key_before (c ∷ cs)) sorted → IsStableBy (key_before (c ∷ cs)) rows sorted → groups_of (c ∷ cs) rows ≡ map (run_group (c ∷ cs)) (key_runs (c ∷ cs) sorted)
groups_are c cs rows sorted up stable =
    let key = group_key (c ∷ cs) in
    sym (map-map as_group (having_key key rows) (ascending by_key (map key rows)))
    ∙ (ap (map as_group) (each_with_its_rows key rows sorted up stable)
    ∙ (map-map as_group (keyed key) (pieces key sorted)
    ∙ (sym (map-map (run_group (c ∷ cs)) (whole key) (pieces key sorted)) ∙ ap (map (run_group (c ∷ cs))) (sym (runs_are key sorted)))))

-- ---- marks

length_changes : (k : List Value) (ks : List (List Value)) → length (changes k ks) ≡ length ks
length_changes k [] = refl
length_changes k (l ∷ ls) = ap suc (length_changes l ls)

length_marks : (ks : List (List Value)) → length (key_marks ks) ≡ length ks
length_marks [] = refl
length_marks (k ∷ ks) = ap suc (length_changes k ks)

equal_back : (a b : List Value) → is_eq (by_key a b) ≡ is_eq (by_key b a)
equal_back a b = ap is_eq (keys_total.antisymm a b) ∙ by (by_key b a)
  where
    by : (c : Ordering) → is_eq (ordering_reverse c) ≡ is_eq c
    by Less = refl
    by Equal = refl
    by Greater = refl

module _ {A : Type 0} (key : A → List Value) (tuple : A → Tuple) where
  -- tuples that are equal where keys are
  abbrev Agree : List A → Type 0
  Agree xs = (x y : A) → Contains xs x → Contains xs y → tuple_eq (tuple x) (tuple y) ≡ is_eq (by_key (key x) (key y))

  change_at : (x : A) (xs : List A) → Agree (x ∷ xs) → (i : ℕ) → i < length xs
      → get_or (changes (key x) (map key xs)) i false ≡ not (tuple_eq (get_or (map tuple xs) i []) (get_or (map tuple (x ∷ xs)) i []))
  change_at x [] agree i h = absurd (omega arith)
  change_at x (y ∷ ys) agree zero h = ap not (equal_back (key x) (key y) ∙ sym (agree y x (1, omega arith, refl) (0, omega arith, refl)))
  change_at x (y ∷ ys) agree (suc i) h = change_at y ys (λ a b c d. agree a b (suc c.0, omega arith, c.2) (suc d.0, omega arith, d.2)) i (omega arith)

  mark_at : (xs : List A) → Agree xs → (i : ℕ) → i < length xs → get_or (key_marks (map key xs)) i false ≡ begins (map tuple xs) i
  mark_at [] agree i h = absurd (omega arith)
  mark_at (x ∷ xs) agree zero h = refl
  mark_at (x ∷ xs) agree (suc i) h =
      let here : suc i - 1 ≡ i = omega arith in
      let later : (suc i == 0) ≡ false = grind (arith, nat_tests) in
      change_at x xs agree i (omega arith)
      ∙ (ap (λ (j : ℕ). not (tuple_eq (get_or (map tuple xs) i []) (get_or (map tuple (x ∷ xs)) j []))) (sym here)
      ∙ ap (λ (b : Bool). b || not (tuple_eq (get_or (map tuple xs) i []) (get_or (map tuple (x ∷ xs)) (suc i - 1) []))) (sym later))

  pub marks_are : (xs : List A) → Agree xs → run_marks (map tuple xs) ≡ key_marks (map key xs)
  marks_are xs agree =
      let many : length (map tuple xs) ≡ length xs = length-map xs tuple in
      let count : length (key_marks (map key xs)) ≡ length xs = length_marks (map key xs) ∙ length-map xs key in
      ap (λ (n : ℕ). map (begins (map tuple xs)) (range_with_len 0 n)) many ∙ sym (fill_by_all (begins (map tuple xs)) (key_marks (map key xs)) (length xs) false count (λ i h. mark_at xs agree i h))

-- ---- the columns of a group's key

same_is : (a b : ColumnRef) → same_column a b ≡ true → a ≡ b
same_is a b e =
    let p : a.source ≡ b.source = (Decides-eqb a.source b.source).0 (first_so (a.source == b.source) (a.column == b.column) e) in
    let q : a.column ≡ b.column = (Decides-eqb a.column b.column).0 (second_so (a.source == b.source) (a.column == b.column) e) in
    λ i. record { source = p i; column = q i }

key_column : (columns : List ColumnRef) (row : FromRow) (c : ColumnRef) → list_any (same_column c) columns ≡ true → group_value columns (group_key columns row) c ≡ column_value row c
key_column [] row c h = absurd (false≢true h)
key_column (b ∷ bs) row c h = by (same_column c b) refl h (λ g. key_column bs row c g)
  where
    by : (t : Bool) → same_column c b ≡ t → (t || list_any (same_column c) bs) ≡ true → (list_any (same_column c) bs ≡ true → group_value bs (group_key bs row) c ≡ column_value row c)
        → unwrap_or (cond t (Some (column_value row b)) (lookup (same_column c) (zip bs (group_key bs row)))) null ≡ column_value row c
    by true e g further = ap (column_value row) (sym (same_is c b e))
    by false e g further = further g

pub run_laws : RunLaws
run_laws = record { groups_are = groups_are; key_column = key_column; marks_are = λ columns tuple rows agree. marks_are (group_key columns) tuple rows agree }

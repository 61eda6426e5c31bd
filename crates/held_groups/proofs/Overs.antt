-- Aggregates and groups that are Over.
use Rattle.std.proofs.Common.{◌≡◌, ◌∙◌, suc, Bool, true, false, cond, ◌||◌, List, [], ◌∷◌, ◌++◌, length, map, Some, Result, Ok, Err, is_err, refl, sym, ap, get_or, ◌⊎◌, ⊎_elim}
use Rattle.std.specs.List.{Contains, flat_map, list_any}
use Rattle.std.proofs.lemmas.Bool.{false≢true}
use Rattle.std.proofs.lemmas.List.{length-map}
use Rattle.control_vectors.specs.Slots.{over}
use Rattle.control_vectors.specs.declared.Over.{Over}
use Rattle.dict_codes.proofs.Members.{first_or_later, nothing_in}
use Rattle.sort_order.specs.Orders.{inserted, sorted_by}
use Rattle.sort_order.proofs.StableSorts.{insertion_sorts, insertion_is_stable}
use Rattle.sql_values.specs.Values.{Value, null}
use Rattle.typed_trees.specs.declared.typed.AggregateKind.{AggregateKind}
use Rattle.typed_trees.specs.declared.typed.ColumnRef.{ColumnRef}
use Rattle.typed_trees.specs.declared.typed.TypedExpr.{TypedExpr}
use Rattle.typed_values.specs.Aggregates.{aggregate_over, argument_over}
use Rattle.typed_values.specs.Values.{Valued, On, value}
use Rattle.query_answers.specs.Answers.{FromRow, Group, column_value, group_key, groups_of, on_group, on_row}
use Rattle.query_answers.specs.Clauses.{Clauses}
use Rattle.query_answers.specs.Overs.{◌>>=◌, each}
use Rattle.query_answers.specs.Runs.{changes, key_before, key_marks, key_runs, run_group}
use Rattle.query_answers.proofs.Folds.{argument_laws}
use Rattle.query_answers.proofs.Groups.{groups_are}
use Rattle.query_answers.proofs.Strict.{each_over, one_over}
use Rattle.held_runs.proofs.Stretches.{flat_runs}
use Rattle.held_groups.specs.Overs.{ok_value, over_group, group_on, EachRowLaw, SomeRowLaw, GroupsOnLaw}
use Rattle.held_groups.proofs.Groups.{key_order}

-- ---- each of some

module _ {A B : Type 0} (f : A → Result B Over) where
  found_at : (xs : List A) (ys : List B) → each f xs ≡ Ok ys → (x : A) → Contains xs x → (y : B) × (f x ≡ Ok y)
  found_at [] ys e x h = absurd (nothing_in x h)
  found_at (z ∷ zs) ys e x h = by (f z) refl (each f zs) refl e (λ ws g. found_at zs ws g x) (first_or_later z x zs h)
    where
      by : (r : Result B Over) → f z ≡ r → (s : Result (List B) Over) → each f zs ≡ s → (r >>= λ w. s >>= λ ws. Ok (w ∷ ws)) ≡ Ok ys
          → ((ws : List B) → each f zs ≡ Ok ws → Contains zs x → (y : B) × (f x ≡ Ok y)) → (z ≡ x) ⊎ Contains zs x → (y : B) × (f x ≡ Ok y)
      by (Err e) q s p g further m = absurd cc
      by (Ok w) q (Err e) p g further m = absurd cc
      by (Ok w) q (Ok ws) p g further m = ⊎_elim (λ (same : z ≡ x). (w, ap f (sym same) ∙ q)) (λ (k : Contains zs x). further ws p k) m

  -- Over where one is, and else what they are
  module _ (ok : A → B) (is : (x : A) → is_err (f x) ≡ false → f x ≡ Ok (ok x)) where
    each_is : (xs : List A) → each f xs ≡ cond (list_any (λ x. is_err (f x)) xs) (Err over) (Ok (map ok xs))
    each_is [] = refl
    each_is (x ∷ xs) = by (f x) refl (each_is xs)
      where
        all : Bool → Result (List B) Over
        all b = cond b (Err over) (Ok (map ok xs))

        more : (b : Bool) → (all b >>= λ ys. Ok (ok x ∷ ys)) ≡ cond b (Err over) (Ok (ok x ∷ map ok xs))
        more true = refl
        more false = refl

        by : (r : Result B Over) → f x ≡ r → each f xs ≡ all (list_any (λ y. is_err (f y)) xs)
            → (r >>= λ y. each f xs >>= λ ys. Ok (y ∷ ys)) ≡ cond (is_err r || list_any (λ y. is_err (f y)) xs) (Err over) (Ok (ok x ∷ map ok xs))
        by (Err e) q g = ap (λ (o : Over). Err o) (one_over e)
        by (Ok y) q g =
            let same : Ok y ≡ Ok (ok x) = sym q ∙ is x (ap is_err q) in
            ap (λ (r : Result B Over). r >>= λ w. each f xs >>= λ ys. Ok (w ∷ ys)) same
            ∙ (ap (λ (l : Result (List B) Over). l >>= λ ys. Ok (ok x ∷ ys)) g ∙ more (list_any (λ y. is_err (f y)) xs))

pub each_row_law : EachRowLaw
each_row_law x rows values e row h = found_at (λ r. value (on_row r) x) rows values e row h

-- ---- some of a list in another order, and in parts

or_swap : (a b c : Bool) → (a || (b || c)) ≡ (b || (a || c))
or_swap true true c = refl
or_swap true false c = refl
or_swap false true c = refl
or_swap false false c = refl

or_assoc : (a b c : Bool) → ((a || b) || c) ≡ (a || (b || c))
or_assoc true b c = refl
or_assoc false b c = refl

or_none : (a : Bool) → (a || false) ≡ a
or_none true = refl
or_none false = refl

module _ {A : Type 0} (p : A → Bool) where
  any_inserted : (lt : A → A → Bool) (x : A) (ys : List A) → list_any p (inserted lt x ys) ≡ (p x || list_any p ys)
  any_inserted lt x [] = refl
  any_inserted lt x (y ∷ ys) = by (lt y x) (any_inserted lt x ys)
    where
      by : (b : Bool) → list_any p (inserted lt x ys) ≡ (p x || list_any p ys) → list_any p (cond b (y ∷ inserted lt x ys) (x ∷ y ∷ ys)) ≡ (p x || (p y || list_any p ys))
      by true e = ap (λ (b : Bool). p y || b) e ∙ or_swap (p y) (p x) (list_any p ys)
      by false e = refl

  pub any_sorted : (lt : A → A → Bool) (xs : List A) → list_any p (sorted_by lt xs) ≡ list_any p xs
  any_sorted lt [] = refl
  any_sorted lt (x ∷ xs) = any_inserted lt x (sorted_by lt xs) ∙ ap (λ (b : Bool). p x || b) (any_sorted lt xs)

  any_append : (xs ys : List A) → list_any p (xs ++ ys) ≡ (list_any p xs || list_any p ys)
  any_append [] ys = refl
  any_append (x ∷ xs) ys = ap (λ (b : Bool). p x || b) (any_append xs ys) ∙ sym (or_assoc (p x) (list_any p xs) (list_any p ys))

  any_flat : (parts : List (List A)) → list_any p (flat_map (λ xs. xs) parts) ≡ list_any (list_any p) parts
  any_flat [] = refl
  any_flat (xs ∷ parts) = any_append xs (flat_map (λ ys. ys) parts) ∙ ap (λ (b : Bool). list_any p xs || b) (any_flat parts)

-- a test that another implies
module _ {A B : Type 0} (p : A → Bool) (g : A → B) (q : B → Bool) (implies : (x : A) → p x ≡ true → q (g x) ≡ true) where
  any_implies : (xs : List A) → list_any p xs ≡ true → list_any q (map g xs) ≡ true
  any_implies [] e = absurd (false≢true e)
  any_implies (x ∷ xs) e = by (p x) refl e (any_implies xs)
    where
      true_or : (b c : Bool) → c ≡ true → (b || c) ≡ true
      true_or true c h = refl
      true_or false c h = h

      by : (b : Bool) → p x ≡ b → (b || list_any p xs) ≡ true → (list_any p xs ≡ true → list_any q (map g xs) ≡ true) → (q (g x) || list_any q (map g xs)) ≡ true
      by true h k further = ap (λ (b : Bool). b || list_any q (map g xs)) (implies x h)
      by false h k further = true_or (q (g x)) (list_any q (map g xs)) (further k)

-- ---- arguments

length_changes : (k : List Value) (ks : List (List Value)) → length (changes k ks) ≡ length ks
length_changes k [] = refl
length_changes k (l ∷ ls) = ap suc (length_changes l ls)

length_marks : (ks : List (List Value)) → length (key_marks ks) ≡ length ks
length_marks [] = refl
length_marks (k ∷ ks) = ap suc (length_changes k ks)

module _ (kind : AggregateKind) (x : TypedExpr) where
  abbrev pub valued : FromRow → Valued
  valued row = value (on_row row) x

  abbrev pub row_over : FromRow → Bool
  row_over row = is_err (valued row)

  abbrev pub group_over : Group → Bool
  group_over g = is_err (argument_over kind (Some x) (map column_value g.rows))

  bound_over : {A B : Type 0} (r : Result A Over) (f : A → Result B Over) → is_err r ≡ true → is_err (r >>= f) ≡ true
  bound_over (Ok a) f h = absurd (false≢true h)
  bound_over (Err e) f h = refl

  rows_over : (rows : List FromRow) → list_any row_over rows ≡ true → is_err (argument_over kind (Some x) (map column_value rows)) ≡ true
  rows_over rows h = ap is_err (argument_laws.over_rows kind x rows) ∙ bound_over (each valued rows) (aggregate_over kind) (each_over valued rows ∙ h)

  run_over : (columns : List ColumnRef) (run : List FromRow) → list_any row_over run ≡ true → group_over (run_group columns run) ≡ true
  run_over columns [] h = absurd (false≢true h)
  run_over columns (r ∷ rs) h = rows_over (r ∷ rs) h

  in_groups : (columns : List ColumnRef) (rows : List FromRow) → list_any row_over rows ≡ true → list_any group_over (groups_of columns rows) ≡ true
  in_groups [] rows h = ap (λ (b : Bool). b || false) (rows_over rows h)
  in_groups (c ∷ cs) rows h =
      let columns = c ∷ cs in
      let sorted = sorted_by (key_before columns) rows in
      let order = key_order columns in
      let long : length (key_marks (map (group_key columns) sorted)) ≡ length sorted = length_marks (map (group_key columns) sorted) ∙ length-map sorted (group_key columns) in
      let flat : flat_map (λ r. r) (key_runs columns sorted) ≡ sorted = flat_runs (key_marks (map (group_key columns) sorted)) sorted long in
      let some : list_any (list_any row_over) (key_runs columns sorted) ≡ true = sym (any_flat row_over (key_runs columns sorted)) ∙ (ap (list_any row_over) flat ∙ (any_sorted row_over (key_before columns) rows ∙ h)) in
      ap (list_any group_over) (groups_are c cs rows sorted (insertion_sorts (key_before columns) order rows) (insertion_is_stable (key_before columns) order rows))
      ∙ any_implies (list_any row_over) (run_group columns) group_over (run_over columns) (key_runs columns sorted) some

pub some_row_law : SomeRowLaw
some_row_law columns kind x rows h = in_groups kind x columns rows (sym (each_over (λ row. value (on_row row) x) rows) ∙ h)

-- ---- groups with the values of their aggregates

is_ok_value : (r : Valued) → is_err r ≡ false → r ≡ Ok (ok_value r)
is_ok_value (Ok v) h = refl
is_ok_value (Err e) h = absurd (false≢true (sym h))

module _ (q : Clauses) where
  abbrev pub values_of : Group → List Value
  values_of g = map (λ a. ok_value (over_group a g)) q.aggregates

  abbrev pub is_over : Group → Bool
  is_over g = list_any (λ a. is_err (over_group a g)) q.aggregates

  abbrev pub with_values : Group → Result (List Value) Over → Result On Over
  with_values g r = r >>= λ values. Ok (record (group_on q g) { aggregate = λ n. Ok (get_or values n null) })

  on_is : (g : Group) → on_group q g ≡ cond (is_over g) (Err over) (Ok (group_on q g))
  on_is g =
      ap (with_values g) (each_is (λ a. over_group a g) (λ a. ok_value (over_group a g)) (λ a h. is_ok_value (over_group a g) h) q.aggregates) ∙ by (is_over g)
    where
      by : (b : Bool) → with_values g (cond b (Err over) (Ok (values_of g))) ≡ cond b (Err over) (Ok (group_on q g))
      by true = refl
      by false = refl

  is_err_on : (g : Group) → is_err (on_group q g) ≡ is_over g
  is_err_on g = ap is_err (on_is g) ∙ by (is_over g)
    where
      by : (b : Bool) → is_err {T = On} (cond b (Err over) (Ok (group_on q g))) ≡ b
      by true = refl
      by false = refl

  ok_on : (g : Group) → is_err (on_group q g) ≡ false → on_group q g ≡ Ok (group_on q g)
  ok_on g h = on_is g ∙ ap (λ (b : Bool). cond b (Err over) (Ok (group_on q g))) (sym (is_err_on g) ∙ h)

-- group by group, or aggregate by aggregate
module _ {A B : Type 0} (t : A → B → Bool) where
  any_none : (ys : List B) → list_any (λ y. false) ys ≡ false
  any_none [] = refl
  any_none (y ∷ ys) = any_none ys

  any_or : (p r : B → Bool) (ys : List B) → list_any (λ y. p y || r y) ys ≡ (list_any p ys || list_any r ys)
  any_or p r [] = refl
  any_or p r (y ∷ ys) =
      ap (λ (b : Bool). (p y || r y) || b) (any_or p r ys)
      ∙ (or_assoc (p y) (r y) (list_any p ys || list_any r ys)
      ∙ (ap (λ (b : Bool). p y || b) (or_swap (r y) (list_any p ys) (list_any r ys)) ∙ sym (or_assoc (p y) (list_any p ys) (r y || list_any r ys))))

  any_swap : (xs : List A) (ys : List B) → list_any (λ y. list_any (λ x. t x y) xs) ys ≡ list_any (λ x. list_any (t x) ys) xs
  any_swap [] ys = any_none ys
  any_swap (x ∷ xs) ys = any_or (t x) (λ y. list_any (λ z. t z y) xs) ys ∙ ap (λ (b : Bool). list_any (t x) ys || b) (any_swap xs ys)

any_same : {A : Type 0} (p r : A → Bool) → ((x : A) → p x ≡ r x) → (xs : List A) → list_any p xs ≡ list_any r xs
any_same p r same [] = refl
any_same p r same (x ∷ xs) = λ i. same x i || any_same p r same xs i

pub groups_on_law : GroupsOnLaw
groups_on_law q groups =
    each_is (on_group q) (group_on q) (ok_on q) groups
    ∙ ap (λ (b : Bool). cond b (Err over) (Ok (map (group_on q) groups)))
    (any_same (λ g. is_err (on_group q g)) (is_over q) (is_err_on q) groups ∙ any_swap (λ a g. is_err (over_group a g)) q.aggregates groups)

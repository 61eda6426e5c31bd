-- What a typed expression names: a column that it is made of, or an aggregate that has a type.
use Rattle.std.proofs.Common.{◌≡◌, ◌∙◌, ℕ, ◌==◌, Bool, true, false, ◌||◌, List, [], ◌∷◌, ◌++◌, map, Option, Some, refl, sym, ap, subst, ◌⊎◌, inl, inr, ⊎_elim}
use Rattle.std.specs.Prelude.{flat_map}
use Rattle.std.specs.List.{Contains, list_any}
use Rattle.std.specs.Option.{option_and_then}
use Rattle.std.proofs.lemmas.Bool.{false≢true, and_parts, eqb-true, or_cases}
use Rattle.std.proofs.lemmas.List.Folds.{Any-from_list_any, list_any-append}
use Rattle.typed_trees.specs.declared.typed.ColumnRef.{ColumnRef}
use Rattle.typed_trees.specs.declared.typed.ColumnType.{ColumnType}
use Rattle.typed_trees.specs.declared.typed.TypedExpr.{TypedExpr, roll-TypedExpr}
use Rattle.typed_trees.specs.declared.typed.TypedExpr.TheOpen.{TypedExpr-F}
use Rattle.typed_trees.specs.declared.typed.TypedExpr.TheFolds.{map-TypedExpr, ind-TypedExpr}
use Rattle.typed_trees.specs.Columns.{Columns, form_columns, columns_in}
use Rattle.typed_trees.specs.Names.{same_column, form_names, names_any, names_column, names_aggregate}
use Rattle.typed_trees.specs.Types.{DataType, form_type, type_of, all_types, with_types}
use Rattle.typed_trees.proofs.ColumnForms.{columns_roll}
use Rattle.typed_trees.proofs.Inversions.{chosen, first_typed}
use Rattle.typed_trees.proofs.NameForms.{names_roll}
use Rattle.typed_trees.proofs.TypeForms.{type_roll}

or_left : (a b : Bool) → a ≡ true → (a || b) ≡ true
or_left a b h = ap (λ x. x || b) h

or_right : (a b : Bool) → b ≡ true → (a || b) ≡ true
or_right true b h = refl
or_right false b h = h

module _ (at : ℕ → Option DataType) (column : ColumnRef → Bool) (aggregate : ℕ → Bool) where
  abbrev among : Columns → Bool
  among cs = list_any (λ c. column c.0) cs

  abbrev pub Found : Columns → Type 0
  Found cs = (among cs ≡ true) ⊎ ((n : ℕ) × (u : DataType) × (aggregate n ≡ true) × (at n ≡ Some u))

  abbrev pub IsFound : TypedExpr → Type 0
  IsFound e = (t : DataType) → type_of at e ≡ Some t → names_any column aggregate e ≡ true → Found (columns_in e)

  abbrev Elements : Type 0
  Elements = List ((e : TypedExpr) × IsFound e)

  abbrev exprs : Elements → List TypedExpr
  exprs ys = map (λ y. y.0) ys

  before : (cs ds : Columns) → Found cs → Found (cs ++ ds)
  before cs ds h = ⊎_elim (λ a. inl (list_any-append (λ (c : ColumnRef × ColumnType). column c.0) cs ds ∙ or_left (among cs) (among ds) a)) (λ b. inr b) h

  behind : (cs ds : Columns) → Found ds → Found (cs ++ ds)
  behind cs ds h = ⊎_elim (λ a. inl (list_any-append (λ (c : ColumnRef × ColumnType). column c.0) cs ds ∙ or_right (among cs) (among ds) a)) (λ b. inr b) h

  either : (a b : Bool) (cs ds : Columns) → (a || b) ≡ true → (a ≡ true → Found cs) → (b ≡ true → Found ds) → Found (cs ++ ds)
  either a b cs ds h f g = ⊎_elim (λ x. before cs ds (f x)) (λ x. behind cs ds (g x)) (or_cases a b h)

  by_parts : (d : TypedExpr-F TypedExpr)
      → ((t : DataType) → form_type at (map-TypedExpr TypedExpr (Option DataType) (type_of at) d) ≡ Some t → form_names column aggregate (map-TypedExpr TypedExpr Bool (names_any column aggregate) d) ≡ true → Found (form_columns (map-TypedExpr TypedExpr Columns columns_in d)))
      → IsFound (roll-TypedExpr d)
  by_parts d h t e n = subst Found (sym (columns_roll d)) (h t (sym (type_roll at d) ∙ e) (sym (names_roll column aggregate d) ∙ n))

  -- the operand of a form that has one
  whole : (x : (e : TypedExpr) × IsFound e) (f : DataType → Option DataType) (t : DataType) → option_and_then f (type_of at x.0) ≡ Some t → names_any column aggregate x.0 ≡ true → Found (columns_in x.0)
  whole x f t e n = let c = chosen (type_of at x.0) f t e in x.1 c.0 c.1 n

  of_list : (ys : Elements) (ts : List DataType) → all_types (map (type_of at) (exprs ys)) ≡ Some ts → list_any (λ (b : Bool). b) (map (names_any column aggregate) (exprs ys)) ≡ true → Found (flat_map (λ (cs : Columns). cs) (map columns_in (exprs ys)))
  of_list [] ts e n = absurd (false≢true n)
  of_list (y ∷ ys) ts e n =
      let first = first_typed (type_of at y.0) (map (type_of at) (exprs ys)) ts e in
      either (names_any column aggregate y.0) (list_any (λ (b : Bool). b) (map (names_any column aggregate) (exprs ys))) (columns_in y.0) (flat_map (λ (cs : Columns). cs) (map columns_in (exprs ys))) n
      (λ a. y.1 first.0 first.2 a) (λ b. of_list ys first.1 first.3 b)

  -- an operand before a list of them
  tested : (x : (e : TypedExpr) × IsFound e) (ys : Elements) (f : DataType → List DataType → Option DataType) (t : DataType)
      → option_and_then (λ u. with_types (map (type_of at) (exprs ys)) (f u)) (type_of at x.0) ≡ Some t
      → (names_any column aggregate x.0 || list_any (λ (b : Bool). b) (map (names_any column aggregate) (exprs ys))) ≡ true
      → Found (columns_in x.0 ++ flat_map (λ (cs : Columns). cs) (map columns_in (exprs ys)))
  tested x ys f t e n =
      let first = chosen (type_of at x.0) (λ u. with_types (map (type_of at) (exprs ys)) (f u)) t e in
      let others = chosen (all_types (map (type_of at) (exprs ys))) (f first.0) t first.2 in
      either (names_any column aggregate x.0) (list_any (λ (b : Bool). b) (map (names_any column aggregate) (exprs ys))) (columns_in x.0) (flat_map (λ (cs : Columns). cs) (map columns_in (exprs ys))) n
      (λ a. x.1 first.0 first.1 a) (λ b. of_list ys others.0 others.1 b)

  by_layer : (y : TypedExpr-F ((e : TypedExpr) × IsFound e)) → IsFound (roll-TypedExpr (map-TypedExpr ((e : TypedExpr) × IsFound e) TypedExpr (λ x. x.0) y))
  by_layer (TypedExpr-F.Number n scale) = by_parts (TypedExpr-F.Number n scale) (λ t e h. absurd (false≢true h))
  by_layer (TypedExpr-F.Text x) = by_parts (TypedExpr-F.Text x) (λ t e h. absurd (false≢true h))
  by_layer (TypedExpr-F.Date day) = by_parts (TypedExpr-F.Date day) (λ t e h. absurd (false≢true h))
  by_layer (TypedExpr-F.Column c type) = by_parts (TypedExpr-F.Column c type) (λ t e h. inl (or_left (column c) false h))
  by_layer (TypedExpr-F.Aggregate n scale) = by_parts (TypedExpr-F.Aggregate n scale) (λ t e h. let x = chosen (at n) _ t e in inr (n, x.0, h, x.1))
  by_layer (TypedExpr-F.Signed s x) = by_parts (TypedExpr-F.Signed s x.0) (λ t e h. whole x _ t e h)
  by_layer (TypedExpr-F.Not x) = by_parts (TypedExpr-F.Not x.0) (λ t e h. whole x _ t e h)
  by_layer (TypedExpr-F.Binary o x y) =
      by_parts (TypedExpr-F.Binary o x.0 y.0)
      (λ t e h.
      let first = chosen (type_of at x.0) _ t e in
      let second = chosen (type_of at y.0) _ t first.2 in
      either (names_any column aggregate x.0) (names_any column aggregate y.0) (columns_in x.0) (columns_in y.0) h (λ a. x.1 first.0 first.1 a) (λ b. y.1 second.0 second.1 b))
  by_layer (TypedExpr-F.Divide x s n) = by_parts (TypedExpr-F.Divide x.0 s n) (λ t e h. whole x _ t e h)
  by_layer (TypedExpr-F.Between p x y z) =
      by_parts (TypedExpr-F.Between p x.0 y.0 z.0)
      (λ t e h.
      let first = chosen (type_of at x.0) _ t e in
      let others = chosen (all_types (type_of at y.0 ∷ type_of at z.0 ∷ [])) _ t first.2 in
      let second = first_typed (type_of at y.0) (type_of at z.0 ∷ []) others.0 others.1 in
      let third = first_typed (type_of at z.0) [] second.1 second.3 in
      either (names_any column aggregate x.0) (names_any column aggregate y.0 || names_any column aggregate z.0) (columns_in x.0) (columns_in y.0 ++ columns_in z.0) h (λ a. x.1 first.0 first.1 a)
      (λ b. either (names_any column aggregate y.0) (names_any column aggregate z.0) (columns_in y.0) (columns_in z.0) b (λ c. y.1 second.0 second.2 c) (λ c. z.1 third.0 third.2 c)))
  by_layer (TypedExpr-F.In p x ys) = by_parts (TypedExpr-F.In p x.0 (exprs ys)) (λ t e h. tested x ys _ t e h)
  by_layer (TypedExpr-F.IsNull p x) = by_parts (TypedExpr-F.IsNull p x.0) (λ t e h. whole x _ t e h)
  by_layer (TypedExpr-F.Coalesce x ys) = by_parts (TypedExpr-F.Coalesce x.0 (exprs ys)) (λ t e h. tested x ys _ t e h)

  pub is_found : (e : TypedExpr) → IsFound e
  is_found = ind-TypedExpr IsFound (λ x y is. subst (λ z. IsFound (roll-TypedExpr z)) is (by_layer y))

-- ---- columns and aggregates

pub same_is : (c d : ColumnRef) → same_column c d ≡ true → d ≡ c
same_is c d h =
    let both = and_parts (c.source == d.source) (c.column == d.column) h in
    (λ i. record { source = sym (eqb-true c.source d.source both.0) i; column = sym (eqb-true c.column d.column both.1) i })

-- a column that an expression names is one that it is made of
pub column_found : (at : ℕ → Option DataType) (e : TypedExpr) (t : DataType) (c : ColumnRef) → type_of at e ≡ Some t → names_column c e ≡ true → (x : ColumnRef × ColumnType) × Contains (columns_in e) x × (x.0 ≡ c)
column_found at e t c is named = ⊎_elim found (λ x. absurd (false≢true x.2)) (is_found at (same_column c) (λ n. false) e t is named)
  where
    found : list_any (λ (x : ColumnRef × ColumnType). same_column c x.0) (columns_in e) ≡ true → (x : ColumnRef × ColumnType) × Contains (columns_in e) x × (x.0 ≡ c)
    found h = let a = Any-from_list_any (λ (x : ColumnRef × ColumnType). same_column c x.0) (columns_in e) h in (a.1, (a.0, a.2, a.3), same_is c a.1.0 a.4)

none_of : (cs : Columns) → list_any (λ (c : ColumnRef × ColumnType). false) cs ≡ false
none_of [] = refl
none_of (c ∷ cs) = none_of cs

-- an aggregate that a typed expression names has a type
pub aggregate_found : (at : ℕ → Option DataType) (e : TypedExpr) (t : DataType) (n : ℕ) → type_of at e ≡ Some t → names_aggregate n e ≡ true → (u : DataType) × (at n ≡ Some u)
aggregate_found at e t n is named = ⊎_elim (λ h. absurd (false≢true (sym (none_of (columns_in e)) ∙ h))) found (is_found at (λ c. false) (λ m. n == m) e t is named)
  where
    found : (m : ℕ) × (u : DataType) × ((n == m) ≡ true) × (at m ≡ Some u) → (u : DataType) × (at n ≡ Some u)
    found x = (x.1, ap at (eqb-true n x.0 x.2) ∙ x.3)

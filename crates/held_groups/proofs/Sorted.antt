-- A stable sort by the slots of columns is one by group key.
use Rattle.std.proofs.Common.{◌≡◌, ◌∙◌, ℕ, Bool, true, false, cond, List, [], ◌∷◌, map, refl, ap, subst, ⊎_elim}
use Rattle.std.specs.Ordering.{is_lt, ordering_then}
use Rattle.std.specs.List.{AllByRecursion, Contains}
use Rattle.dict_codes.proofs.Members.{first_or_later, here, nothing_in, there}
use Rattle.sort_order.specs.Orders.{inserted, sorted_by}
use Rattle.typed_trees.specs.declared.kinds.Kind.{Kind}
use Rattle.typed_trees.specs.declared.typed.ColumnRef.{ColumnRef}
use Rattle.query_answers.specs.Answers.{FromRow, column_value, group_key, by_key}
use Rattle.query_answers.specs.Runs.{key_before}
use Rattle.held_rows.specs.Laws.{rows_cmp, row_before}
use Rattle.held_groups.specs.Groups.{CanCode, column_key, RowsCanCode, SortLaw}
use Rattle.held_groups.proofs.Codes.{code_law}

-- ---- what holds of all elements

module _ {X : Type 0} (P : X → Type 0) where
  pub all_from : (xs : List X) → ((x : X) → Contains xs x → P x) → AllByRecursion P xs
  all_from [] h = tt
  all_from (x ∷ xs) h = (h x (here x xs), all_from xs (λ y g. h y (there x y xs g)))

  pub all_at : (xs : List X) → AllByRecursion P xs → (x : X) → Contains xs x → P x
  all_at [] a x h = absurd (nothing_in x h)
  all_at (y ∷ ys) a x h = ⊎_elim (λ e. subst P e a.0) (λ g. all_at ys a.1 x g) (first_or_later y x ys h)

  -- ---- a sort has the same elements, and depends on the order of these alone

  module _ (lt : X → X → Bool) where
    all_inserted : (x : X) (ys : List X) → P x → AllByRecursion P ys → AllByRecursion P (inserted lt x ys)
    all_inserted x [] p a = (p, tt)
    all_inserted x (y ∷ ys) p a = by (lt y x) (all_inserted x ys p a.1)
      where
        by : (b : Bool) → AllByRecursion P (inserted lt x ys) → AllByRecursion P (cond b (y ∷ inserted lt x ys) (x ∷ y ∷ ys))
        by true g = (a.0, g)
        by false g = (p, a)

    pub all_sorted : (xs : List X) → AllByRecursion P xs → AllByRecursion P (sorted_by lt xs)
    all_sorted [] a = tt
    all_sorted (x ∷ xs) a = all_inserted x (sorted_by lt xs) a.0 (all_sorted xs a.1)

    module _ (lu : X → X → Bool) (agree : (x y : X) → P x → P y → lt x y ≡ lu x y) where
      inserted_agree : (x : X) (ys : List X) → P x → AllByRecursion P ys → inserted lt x ys ≡ inserted lu x ys
      inserted_agree x [] p a = refl
      inserted_agree x (y ∷ ys) p a = λ i. cond (agree y x a.0 p i) (y ∷ inserted_agree x ys p a.1 i) (x ∷ y ∷ ys)

      pub sorted_agree : (xs : List X) → AllByRecursion P xs → sorted_by lt xs ≡ sorted_by lu xs
      sorted_agree [] a = refl
      sorted_agree (x ∷ xs) a = inserted_agree x (sorted_by lt xs) a.0 (all_sorted xs a.1) ∙ ap (inserted lu x) (sorted_agree xs a.1)

-- ---- rows compare as their keys do

-- for each of some columns a kind, of which a row's value there is
abbrev pub Kinds : List ColumnRef → Type 0
Kinds columns = (c : ColumnRef) → Contains columns c → Kind

abbrev pub RowCanCode : List (List ℕ) → (columns : List ColumnRef) → Kinds columns → FromRow → Type 0
RowCanCode texts columns kinds row = (c : ColumnRef) (h : Contains columns c) → CanCode texts (kinds c h) (column_value row c)

module _ (texts : List (List ℕ)) where
  key_cmp : (columns : List ColumnRef) (kinds : Kinds columns) (r s : FromRow) → RowCanCode texts columns kinds r → RowCanCode texts columns kinds s → rows_cmp (map (column_key texts) columns) r s ≡ by_key (group_key columns r) (group_key columns s)
  key_cmp [] kinds r s h g = refl
  key_cmp (c ∷ cs) kinds r s h g =
      let first = code_law texts (kinds c (here c cs)) (column_value r c) (column_value s c) (h c (here c cs)) (g c (here c cs)) in
      let others = key_cmp cs (λ d k. kinds d (there c d cs k)) r s (λ d k. h d (there c d cs k)) (λ d k. g d (there c d cs k)) in
      λ i. ordering_then (first i) (others i)

  -- the rows of a list
  module _ (columns : List ColumnRef) (rows : List FromRow) (can : RowsCanCode texts columns rows) where
    abbrev pub kinds_of : Kinds columns
    kinds_of c h = (can c h).0

    pub each_can : AllByRecursion (RowCanCode texts columns kinds_of) rows
    each_can = all_from (RowCanCode texts columns kinds_of) rows (λ row k c h. (can c h).1 row k)

pub sort_law : SortLaw
sort_law texts columns rows can =
    let kinds = kinds_of texts columns rows can in
    sorted_agree (RowCanCode texts columns kinds) (row_before (map (column_key texts) columns)) (key_before columns) (λ r s p q. ap is_lt (key_cmp texts columns kinds r s p q)) rows
    (each_can texts columns rows can)

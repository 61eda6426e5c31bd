-- From-rows of tables whose rows are of a kind: in each place stands a row of that place's kind.
use Rattle.std.proofs.Common.{◌≡◌, ◌∙◌, ℕ, suc, ◌+◌, ◌<◌, ◌≤◌, ◌==◌, Bool, true, false, if◌then◌else◌, List, [], ◌∷◌, ◌++◌, length, map, get_or, Some, refl, sym, ap, subst, arith, ⊎_elim}
use Rattle.std.specs.Prelude.{All, filter, fold, slice_get}
use Rattle.std.specs.List.{AllByRecursion, Contains, list_all}
use Rattle.std.proofs.lemmas.Bool.{cases_order, cond_both, eq-eqb}
use Rattle.std.proofs.lemmas.List.{get_or_append_left, get_or_push, get_or_past, length_push}
use Rattle.std.proofs.lemmas.List.Elements.{All-contains, All-from_recursion, recursion_from_All}
use Rattle.std.proofs.lemmas.List.Sums.{AllPass-from_list_all, list_all-from_AllPass}
use Rattle.sql_values.specs.Values.{null}
use Rattle.table_load.specs.Values.{Table, value_at}
use Rattle.typed_trees.specs.declared.typed.ColumnRef.{ColumnRef}
use Rattle.typed_trees.specs.declared.typed.ColumnType.{ColumnType}
use Rattle.typed_trees.specs.declared.typed.PlanSource.{PlanSource}
use Rattle.typed_trees.specs.declared.typed.TypedExpr.{TypedExpr}
use Rattle.typed_trees.specs.Columns.{columns_in}
use Rattle.typed_values.specs.Intervals.{of_type}
use Rattle.value_bounds.specs.Laws.{holds, fits}
use Rattle.query_answers.specs.Answers.{Row, FromRow, column_value, pairs_with, joined, meets, source_rows, from_rows}
use Rattle.query_answers.specs.Laws.{with_parts}
use Rattle.query_answers.proofs.Lists.{all_flat_map, all_weaker}
use Rattle.plan_laws.specs.Laws.{row_at, table_rows, RowsFit}

-- ---- lists

mapped : {A B : Type 0} (Q : A → Type 0) (R : B → Type 0) (f : A → B) → ((x : A) → Q x → R (f x)) → (xs : List A) → AllByRecursion Q xs → AllByRecursion R (map f xs)
mapped Q R f each [] h = tt
mapped Q R f each (x ∷ xs) h = (each x h.0, mapped Q R f each xs h.1)

filtered : {A : Type 0} (Q : A → Type 0) (p : A → Bool) (xs : List A) → AllByRecursion Q xs → AllByRecursion Q (filter p xs)
filtered Q p [] h = tt
filtered Q p (x ∷ xs) h = cond_both (p x) (x ∷ filter p xs) (filter p xs) (AllByRecursion Q) (λ e. (h.0, filtered Q p xs h.1)) (λ e. filtered Q p xs h.1)

all_true : {A : Type 0} (p : A → Bool) → ((x : A) → p x ≡ true) → (xs : List A) → list_all p xs ≡ true
all_true p each xs = list_all-from_AllPass p xs (λ k d l. each (get_or xs k d))

-- ---- rows in their places

module _ (tables : List Table) (P : ℕ → Row → Type 0) where
  -- the rows of each source's table, the first of which stands in this place
  abbrev pub AllOf : ℕ → List PlanSource → Type 0
  AllOf k [] = Unit {0}
  AllOf k (s ∷ sources) = AllByRecursion (P k) (table_rows tables s) × AllOf (k + 1) sources

  abbrev IsOf : ℕ → FromRow → Type 0
  IsOf k row = (length row ≡ k) × ((n : ℕ) → P n (get_or row n []))

  pub all_of : (k : ℕ) (sources : List PlanSource) → ((n : ℕ) (s : PlanSource) → slice_get sources n ≡ Some s → AllByRecursion (P (k + n)) (table_rows tables s)) → AllOf k sources
  all_of k [] h = tt
  all_of k (s ∷ sources) h =
      let here : k + 0 ≡ k = omega arith in
      (subst (λ (m : ℕ). AllByRecursion (P m) (table_rows tables s)) here (h 0 s refl), all_of (k + 1) sources (λ n t e. later n t (h (suc n) t e)))
    where
      later : (n : ℕ) (t : PlanSource) → AllByRecursion (P (k + suc n)) (table_rows tables t) → AllByRecursion (P (k + 1 + n)) (table_rows tables t)
      later n t g = let e : k + suc n ≡ k + 1 + n = omega arith in subst (λ (m : ℕ). AllByRecursion (P m) (table_rows tables t)) e g

  -- a source's conditions are no matter
  pub all_with : (k : ℕ) (front : List PlanSource) (s : PlanSource) (others : List PlanSource) (parts : List TypedExpr) → AllOf k (front ++ s ∷ others) → AllOf k (front ++ with_parts parts s ∷ others)
  all_with k [] s others parts h = h
  all_with k (f ∷ front) s others parts h = (h.0, all_with (k + 1) front s others parts h.1)

  module _ (nothing : (n : ℕ) → P n []) where
    extended : (k : ℕ) (row : FromRow) (r : Row) → IsOf k row → P k r → IsOf (k + 1) (row ++ r ∷ [])
    extended k row r h p = (length_push row r ∙ ap (λ (n : ℕ). n + 1) h.0, (λ n. ⊎_elim (here n) (⊎_elim (before n) (after n)) (cases_order n k)))
      where
        here : (n : ℕ) → n ≡ k → P n (get_or (row ++ r ∷ []) n [])
        here n e = subst (P n) (sym (get_or_push row r [] n (h.0 ∙ sym e))) (subst (λ (m : ℕ). P m r) (sym e) p)

        before : (n : ℕ) → n < k → P n (get_or (row ++ r ∷ []) n [])
        before n l = let inside : n < length row = omega (arith, h.0) in subst (P n) (sym (get_or_append_left row (r ∷ []) [] n inside)) (h.1 n)

        after : (n : ℕ) → k < n → P n (get_or (row ++ r ∷ []) n [])
        after n l = let outside : length (row ++ r ∷ []) ≤ n = omega (arith, h.0, length_push row r) in subst (P n) (sym (get_or_past (row ++ r ∷ []) n [] outside)) (nothing n)

    joined_of : (pairs : FromRow → Row → Bool) (k : ℕ) (rows : List FromRow) (added : List Row) → AllByRecursion (IsOf k) rows → AllByRecursion (P k) added → AllByRecursion (IsOf (k + 1)) (joined pairs rows added)
    joined_of pairs k rows added h g = all_flat_map (IsOf k) (IsOf (k + 1)) (λ row. map (λ r. row ++ r ∷ []) (filter (pairs row) added)) each rows h
      where
        each : (row : FromRow) → IsOf k row → AllByRecursion (IsOf (k + 1)) (map (λ r. row ++ r ∷ []) (filter (pairs row) added))
        each row is = mapped (P k) (IsOf (k + 1)) (λ r. row ++ r ∷ []) (λ r p. extended k row r is p) (filter (pairs row) added) (filtered (P k) (pairs row) added g)

    rows_of : (k : ℕ) (rows : List FromRow) (sources : List PlanSource) → AllOf k sources → AllByRecursion (IsOf k) rows
        → AllByRecursion (λ row. (n : ℕ) → P n (get_or row n [])) (fold (λ l s. joined (pairs_with s.join) l (source_rows tables s)) rows sources)
    rows_of k rows [] f h = all_weaker (IsOf k) (λ row. (n : ℕ) → P n (get_or row n [])) (λ row is. is.1) rows h
    rows_of k rows (s ∷ sources) f h =
        rows_of (k + 1) (joined (pairs_with s.join) rows (source_rows tables s)) sources f.1
        (joined_of (pairs_with s.join) k rows (source_rows tables s) h (filtered (P k) (meets s.filter) (table_rows tables s) f.0))

    pub in_places : (sources : List PlanSource) → AllOf 0 sources → (row : FromRow) → Contains (from_rows tables sources) row → (n : ℕ) → P n (get_or row n [])
    in_places sources f row h =
        let all = rows_of 0 ([] ∷ []) sources f ((refl, nothing), tt) in
        All-contains (λ (r : FromRow). (n : ℕ) → P n (get_or r n [])) (from_rows tables sources) row (All-from_recursion (λ (r : FromRow). (n : ℕ) → P n (get_or r n [])) (from_rows tables sources) all) h

-- ---- rows that fit

-- a row fits expressions at the columns of the source in a place
abbrev pub FitsAt : List TypedExpr → ℕ → Row → Type 0
FitsAt parts n r = All (λ e. fits (row_at n r) e ≡ true) parts

-- no row has null in each column
pub no_row_fits : (parts : List TypedExpr) (n : ℕ) → FitsAt parts n []
no_row_fits parts n = λ k d l. all_true (λ c. holds (of_type c.1) (row_at n [] c.0)) (λ c. null_held c (c.0.source == n)) (columns_in (get_or parts k d))
  where
    null_held : (c : ColumnRef × ColumnType) (b : Bool) → holds (of_type c.1) (if b then value_at c.0.column [] else null) ≡ true
    null_held c true = refl
    null_held c false = refl

pub tables_fit : (tables : List Table) (sources : List PlanSource) (parts : List TypedExpr) → RowsFit tables sources parts → AllOf tables (FitsAt parts) 0 sources
tables_fit tables sources parts h = all_of tables (FitsAt parts) 0 sources (λ n s e. at n s (recursion_from_All (FitsAt parts n) (table_rows tables s) (h n s e)))
  where
    at : (n : ℕ) (s : PlanSource) → AllByRecursion (FitsAt parts n) (table_rows tables s) → AllByRecursion (FitsAt parts (0 + n)) (table_rows tables s)
    at n s g = let e : n ≡ 0 + n = omega arith in subst (λ (m : ℕ). AllByRecursion (FitsAt parts m) (table_rows tables s)) e g

-- a row of a place holds a column's number in the interval of its type
abbrev held_at : FromRow → ℕ → ColumnRef × ColumnType → Bool
held_at row n c = holds (of_type c.1) (row_at n (get_or row n []) c.0)

-- a from-row fits where the row in each place does
pub from_row_fits : (row : FromRow) (e : TypedExpr) → ((n : ℕ) → fits (row_at n (get_or row n [])) e ≡ true) → fits (column_value row) e ≡ true
from_row_fits row e h = list_all-from_AllPass (λ c. holds (of_type c.1) (column_value row c.0)) (columns_in e) (λ k d l. at (get_or (columns_in e) k d) (found k d l))
  where
    found : (k : ℕ) (d : ColumnRef × ColumnType) → k < length (columns_in e) → held_at row (get_or (columns_in e) k d).0.source (get_or (columns_in e) k d) ≡ true
    found k d l = let n = (get_or (columns_in e) k d).0.source in AllPass-from_list_all (held_at row n) (columns_in e) (h n) k d l

    at : (c : ColumnRef × ColumnType) → held_at row c.0.source c ≡ true → holds (of_type c.1) (column_value row c.0) ≡ true
    at c g = subst (λ (b : Bool). holds (of_type c.1) (if b then column_value row c.0 else null) ≡ true) (eq-eqb c.0.source c.0.source refl) g

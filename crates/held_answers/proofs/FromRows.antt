-- The values in from-rows can be shown: each row of one is a row of a table.
use Rattle.std.proofs.Common.{◌≡◌, ℕ, zero, suc, Bool, List, [], ◌∷◌, ◌++◌, map, get_or, Option, Some, true, None, refl, sym, subst, ⊎_elim}
use Rattle.std.specs.Prelude.{filter, flat_map, fold, slice_get}
use Rattle.std.specs.List.{Contains}
use Rattle.std.specs.Option.{option_map, option_and_then}
use Rattle.std.proofs.lemmas.List.{append-nil, append_assoc}
use Rattle.std.proofs.lemmas.List.Elements.{Contains-append_cases}
use Rattle.dict_codes.specs.Dictionaries.{dictionary_of}
use Rattle.dict_codes.proofs.Members.{first_or_later, here, nothing_in, there}
use Rattle.sql_read.specs.declared.definition.TableDef.{TableDef}
use Rattle.table_load.specs.ColumnTypes.{ColumnsFit}
use Rattle.table_load.specs.Databases.{tables_texts}
use Rattle.table_load.specs.Values.{Table}
use Rattle.typed_trees.specs.declared.typed.ColumnRef.{ColumnRef}
use Rattle.typed_trees.specs.declared.typed.ColumnType.{ColumnType}
use Rattle.typed_trees.specs.declared.typed.PlanSource.{PlanSource}
use Rattle.typed_trees.specs.Kinds.{kind_of}
use Rattle.typed_trees.proofs.Inversions.{chosen, some_same}
use Rattle.query_types.specs.Names.{columns_of, type_of_column}
use Rattle.query_answers.specs.Answers.{Row, FromRow, column_value, from_rows, joined, meets, pairs_with, source_rows}
use Rattle.query_answers.proofs.Lists.{kept_within}
use Rattle.typing_laws.specs.Laws.{column_at}
use Rattle.loaded_plans.specs.Laws.{AreLoaded}
use Rattle.held_answers.specs.Shown.{is_shown}
use Rattle.held_answers.proofs.Rows.{rows_at, table_shown}

-- ---- elements of lists that are made of lists

pub mapped_from : {A B : Type 0} (f : A → B) (xs : List A) (y : B) → Contains (map f xs) y → (x : A) × Contains xs x × (f x ≡ y)
mapped_from f [] y h = absurd (nothing_in y h)
mapped_from f (x ∷ xs) y h =
    ⊎_elim (λ e. (x, here x xs, e)) (λ m. let g = mapped_from f xs y m in (g.0, there x g.0 xs g.1, g.2)) (first_or_later (f x) y (map f xs) h)

joined_from : {A B : Type 0} (f : A → List B) (xs : List A) (y : B) → Contains (flat_map f xs) y → (x : A) × Contains xs x × Contains (f x) y
joined_from f [] y h = absurd (nothing_in y h)
joined_from f (x ∷ xs) y h =
    ⊎_elim (λ m. (x, here x xs, m)) (λ m. let g = joined_from f xs y m in (g.0, there x g.0 xs g.1, g.2)) (Contains-append_cases (f x) (flat_map f xs) y h)

module _ (ts : List Table) where
  -- a row of each of some tables, in order
  abbrev IsOf : List ℕ → FromRow → Type 0
  IsOf [] [] = Unit {0}
  IsOf (n ∷ ns) (r ∷ row) = Contains (rows_at ts n) r × IsOf ns row
  IsOf ns row = ⊥

  pushed : (ns : List ℕ) (row : FromRow) (n : ℕ) (r : Row) → IsOf ns row → Contains (rows_at ts n) r → IsOf (ns ++ n ∷ []) (row ++ r ∷ [])
  pushed [] [] n r h m = (m, tt)
  pushed [] (q ∷ row) n r h m = absurd h
  pushed (k ∷ ns) [] n r h m = absurd h
  pushed (k ∷ ns) (q ∷ row) n r h m = (h.0, pushed ns row n r h.1 m)

  abbrev AreOf : List ℕ → List FromRow → Type 0
  AreOf ns rows = (row : FromRow) → Contains rows row → IsOf ns row

  joined_of : (ns : List ℕ) (pairs : FromRow → Row → Bool) (rows : List FromRow) (s : PlanSource) → AreOf ns rows → AreOf (ns ++ s.table ∷ []) (joined pairs rows (source_rows ts s))
  joined_of ns pairs rows s h row m =
      let first = joined_from (λ q. map (λ r. q ++ r ∷ []) (filter (pairs q) (source_rows ts s))) rows row m in
      let added = mapped_from (λ r. first.0 ++ r ∷ []) (filter (pairs first.0) (source_rows ts s)) row first.2 in
      let stored = kept_within (meets s.filter) added.0 (rows_at ts s.table) (kept_within (pairs first.0) added.0 (source_rows ts s) added.1) in
      subst (IsOf (ns ++ s.table ∷ [])) added.2 (pushed ns first.0 s.table added.0 (h first.0 first.1) stored)

  all_of : (ns : List ℕ) (sources : List PlanSource) (rows : List FromRow) → AreOf ns rows → AreOf (ns ++ map (λ s. s.table) sources) (fold (λ l s. joined (pairs_with s.join) l (source_rows ts s)) rows sources)
  all_of ns [] rows h = subst (λ (l : List ℕ). AreOf l rows) (sym (append-nil ns)) h
  all_of ns (s ∷ sources) rows h =
      let next = joined (pairs_with s.join) rows (source_rows ts s) in
      let places = map (λ (x : PlanSource). x.table) sources in
      subst (λ (l : List ℕ). AreOf l (fold (λ l s. joined (pairs_with s.join) l (source_rows ts s)) next sources)) (append_assoc ns (s.table ∷ []) places) (all_of (ns ++ s.table ∷ []) sources next (joined_of ns (pairs_with s.join) rows s h))

  from_of : (sources : List PlanSource) → AreOf (map (λ s. s.table) sources) (from_rows ts sources)
  from_of sources = all_of [] sources ([] ∷ []) (λ row m. ⊎_elim (λ e. subst (IsOf []) e tt) (λ n. absurd (nothing_in row n)) (first_or_later [] row [] m))

  row_at : (ns : List ℕ) (row : FromRow) (k n : ℕ) → IsOf ns row → slice_get ns k ≡ Some n → Contains (rows_at ts n) (get_or row k [])
  row_at [] row k n h at = absurd cc
  row_at (m ∷ ns) [] k n h at = absurd h
  row_at (m ∷ ns) (r ∷ row) zero n h at = let same : m ≡ n = cc in subst (λ (x : ℕ). Contains (rows_at ts x) r) same h.0
  row_at (m ∷ ns) (r ∷ row) (suc k) n h at = row_at ns row k n h.1 at

  -- a column's definition, and its table's place
  found : {A B : Type 0} (f : A → B) (o : Option A) (b : B) → option_map f o ≡ Some b → (a : A) × (o ≡ Some a) × (f a ≡ b)
  found f (Some a) b e = (a, refl, some_same (f a) b e)
  found f None b e = absurd cc

  pub column_shown : ColumnsFit → (defs : List TableDef) → AreLoaded defs ts → (sources : List PlanSource) (row : FromRow) → Contains (from_rows ts sources) row → (c : ColumnRef) (type : ColumnType) → column_at defs (map (λ s. s.table) sources) c ≡ Some type
      → is_shown (dictionary_of (tables_texts ts)) (kind_of type.kind) (column_value row c) ≡ true
  column_shown fit defs loaded sources row m c type e =
      let places = map (λ (s : PlanSource). s.table) sources in
      let x = found type_of_column (option_and_then (λ table. slice_get (columns_of defs table) c.column) (slice_get places c.source)) type e in
      let y = chosen (slice_get places c.source) (λ table. slice_get (columns_of defs table) c.column) x.0 x.1 in
      subst (λ (u : ColumnType). is_shown (dictionary_of (tables_texts ts)) (kind_of u.kind) (column_value row c) ≡ true) x.2
      (table_shown fit defs ts y.0 c.column x.0 (get_or row c.source []) loaded y.2 (row_at places row c.source y.0 (from_of sources row m) y.1))

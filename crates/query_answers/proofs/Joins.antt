-- Joins: the order of pairs, the one row of an equal key, and conditions on one source's rows alone.
use Rattle.std.proofs.Common.{Ordering, ◌≡◌, ◌∙◌, ℕ, zero, suc, ◌+◌, ◌*◌, ◌/◌, ◌%◌, ◌<◌, Bool, true, false, cond, ◌&&◌, List, [], ◌∷◌, ◌++◌, length, map, take, get_or, Option, Some, None, option_map, option_to_list, refl, sym, ap, subst, arith, length-append}
use Rattle.std.specs.Prelude.{filter, flat_map, fold}
use Rattle.std.specs.List.{AllByRecursion, find, filter_map as filtered_map, cons_option, range_with_len}
use Rattle.std.specs.declared.cmp.Ordering.TheVariants.{Less, Equal, Greater}
use Rattle.std.specs.Ordering.{is_eq}
use Rattle.std.proofs.Math.Nat.{div-add-mod, mod-lt, div-lt_iff_lt-mul}
use Rattle.std.proofs.lemmas.Bool.{false≢true}
use Rattle.std.proofs.lemmas.List.{length-map, get_or-map, get_or_append_left, get_or_push, length-take-le}
use Rattle.std.proofs.lemmas.List.Concat.{get_or-flat_map}
use Rattle.std.proofs.lemmas.List.Folds.{list_all-append}
use Rattle.std.proofs.lemmas.List.FromFn.{fill_by_all}
use Rattle.std.proofs.lemmas.List.Sums.{fold-append}
use Rattle.std.proofs.lemmas.List.Elements.{filter_agree, recursion_from_All}
use Rattle.sql_values.specs.Values.{Value, number, text, truth, null, by_value}
use Rattle.sql_values.proofs.Orders.{value_order}
use Rattle.table_load.specs.Values.{Table, same_value, value_at}
use Rattle.typed_trees.specs.declared.typed.ColumnRef.{ColumnRef}
use Rattle.typed_trees.specs.declared.typed.PlanSource.{PlanSource}
use Rattle.typed_trees.specs.declared.typed.TypedExpr.{TypedExpr}
use Rattle.typed_values.specs.Values.{value_on_row}
use Rattle.query_answers.specs.Overs.{is_met}
use Rattle.query_answers.specs.Answers.{Row, FromRow, column_value, pairs_with, joined, meets, source_rows, from_rows}
use Rattle.query_answers.specs.Laws.{IsKey, with_parts, with_columns, JoinLaws}
use Rattle.query_answers.proofs.Lists.{filter_map, filter_both, filter_swap, filter_all, filter_none, filter_flat_map, flat_map_agree, flat_map_filter, all_flat_map, all_map, all_weaker}

-- ---- conditions on one source's rows

abbrev extend : FromRow → Row → FromRow
extend row r = row ++ r ∷ []

-- whether the row of the source in a place passes a test
abbrev at_source : ℕ → (Row → Bool) → FromRow → Bool
at_source n q row = q (get_or row n [])

length_extended : (row : FromRow) (r : Row) → length (extend row r) ≡ length row + 1
length_extended row r = length-append row (r ∷ [])

module _ (P : FromRow → Row → Bool) (n : ℕ) where
  -- each extended row is longer by one
  longer : (rows : List FromRow) (added : List Row) → AllByRecursion (λ row. length row ≡ n) rows → AllByRecursion (λ row. length row ≡ n + 1) (joined P rows added)
  longer rows added h = all_flat_map (λ row. length row ≡ n) (λ row. length row ≡ n + 1) (λ row. map (extend row) (filter (P row) added)) (λ row e. each row e (filter (P row) added)) rows h
    where
      each : (row : FromRow) → length row ≡ n → (ys : List Row) → AllByRecursion (λ (x : FromRow). length x ≡ n + 1) (map (extend row) ys)
      each row e ys = all_map (λ (x : FromRow). length x ≡ n + 1) (extend row) (λ r. omega (arith, length_extended row r, e)) ys

  still_longer : (rows : List FromRow) (added : List Row) → AllByRecursion (λ row. n < length row) rows → AllByRecursion (λ row. n < length row) (joined P rows added)
  still_longer rows added h = all_flat_map (λ row. n < length row) (λ row. n < length row) (λ row. map (extend row) (filter (P row) added)) (λ row e. each row e (filter (P row) added)) rows h
    where
      each : (row : FromRow) → n < length row → (ys : List Row) → AllByRecursion (λ (x : FromRow). n < length x) (map (extend row) ys)
      each row e ys = all_map (λ (x : FromRow). n < length x) (extend row) (λ r. omega (arith, length_extended row r, e)) ys

  -- a test of the added row, before the join or after it
  added_filter : (q : Row → Bool) (rows : List FromRow) (added : List Row) → AllByRecursion (λ row. length row ≡ n) rows → joined P rows (filter q added) ≡ filter (at_source n q) (joined P rows added)
  added_filter q rows added h =
      flat_map_agree (λ row. length row ≡ n) (λ row. map (extend row) (filter (P row) (filter q added))) (λ row. filter (at_source n q) (map (extend row) (filter (P row) added))) piece rows h
      ∙ sym (filter_flat_map (at_source n q) (λ row. map (extend row) (filter (P row) added)) rows)
    where
      piece : (row : FromRow) → length row ≡ n → map (extend row) (filter (P row) (filter q added)) ≡ filter (at_source n q) (map (extend row) (filter (P row) added))
      piece row e =
          let here : (r : Row) → q r ≡ at_source n q (extend row r) = λ r. sym (ap q (get_or_push row r [] n e)) in
          ap (map (extend row)) (filter_swap (P row) q added ∙ filter_agree q (λ r. at_source n q (extend row r)) here (filter (P row) added))
          ∙ sym (filter_map (at_source n q) (extend row) (filter (P row) added))

  -- a test of an earlier row, before the join or after it
  earlier_filter : (q : Row → Bool) (rows : List FromRow) (added : List Row) → AllByRecursion (λ row. n < length row) rows → joined P (filter (at_source n q) rows) added ≡ filter (at_source n q) (joined P rows added)
  earlier_filter q rows added h =
      flat_map_filter (at_source n q) (λ row. map (extend row) (filter (P row) added)) rows
      ∙ (flat_map_agree (λ row. n < length row) (λ row. cond (at_source n q row) (map (extend row) (filter (P row) added)) []) (λ row. filter (at_source n q) (map (extend row) (filter (P row) added))) piece rows h
      ∙ sym (filter_flat_map (at_source n q) (λ row. map (extend row) (filter (P row) added)) rows))
    where
      kept : (row : FromRow) → n < length row → (b : Bool) → at_source n q row ≡ b → (ys : List Row) → AllByRecursion (λ x. at_source n q x ≡ b) (map (extend row) ys)
      kept row e b is ys = all_map (λ x. at_source n q x ≡ b) (extend row) (λ r. ap q (get_or_append_left row (r ∷ []) [] n e) ∙ is) ys

      by : (row : FromRow) → n < length row → (b : Bool) → at_source n q row ≡ b → (ys : List Row) → cond b (map (extend row) ys) [] ≡ filter (at_source n q) (map (extend row) ys)
      by row e true is ys = sym (filter_all (at_source n q) (map (extend row) ys) (kept row e true is ys))
      by row e false is ys = sym (filter_none (at_source n q) (map (extend row) ys) (kept row e false is ys))

      piece : (row : FromRow) → n < length row → cond (at_source n q row) (map (extend row) (filter (P row) added)) [] ≡ filter (at_source n q) (map (extend row) (filter (P row) added))
      piece row e = by row e (at_source n q row) refl (filter (P row) added)

-- ---- over all sources

module _ (tables : List Table) where
  abbrev step : List FromRow → PlanSource → List FromRow
  step rows s = joined (pairs_with s.join) rows (source_rows tables s)

  -- a from-row has a row of each source
  lengths : (n : ℕ) (rows : List FromRow) (sources : List PlanSource) → AllByRecursion (λ row. length row ≡ n) rows → AllByRecursion (λ row. length row ≡ n + length sources) (fold step rows sources)
  lengths n rows [] h = let e : n ≡ n + 0 = omega arith in subst (λ (m : ℕ). AllByRecursion (λ row. length row ≡ m) rows) e h
  lengths n rows (s ∷ sources) h =
      let e : n + 1 + length sources ≡ n + length (s ∷ sources) = omega arith in
      subst (λ (m : ℕ). AllByRecursion (λ row. length row ≡ m) (fold step rows (s ∷ sources))) e (lengths (n + 1) (step rows s) sources (longer (pairs_with s.join) n rows (source_rows tables s) h))

  later : (n : ℕ) (q : Row → Bool) (rows : List FromRow) (sources : List PlanSource) → AllByRecursion (λ row. n < length row) rows → fold step (filter (at_source n q) rows) sources ≡ filter (at_source n q) (fold step rows sources)
  later n q rows [] h = refl
  later n q rows (s ∷ sources) h =
      ap (λ (l : List FromRow). fold step l sources) (earlier_filter (pairs_with s.join) n q rows (source_rows tables s) h)
      ∙ later n q (step rows s) sources (still_longer (pairs_with s.join) n rows (source_rows tables s) h)

  more_parts : (parts : List TypedExpr) (s : PlanSource) → source_rows tables (with_parts parts s) ≡ filter (meets parts) (source_rows tables s)
  more_parts parts s =
      let rows = get_or (map (λ (t : Table). t.rows) tables) s.table [] in
      filter_agree (meets (s.filter ++ parts)) (λ r. meets s.filter r && meets parts r) (λ r. list_all-append (λ e. is_met (value_on_row (λ c. value_at c.column r) e)) s.filter parts) rows
      ∙ filter_both (meets s.filter) (meets parts) rows

  -- a source's own conditions drop the from-rows whose row of it they drop
  pub pushed : (front : List PlanSource) (s : PlanSource) (others : List PlanSource) (parts : List TypedExpr)
      → from_rows tables (front ++ with_parts parts s ∷ others) ≡ filter (λ row. meets parts (get_or row (length front) [])) (from_rows tables (front ++ s ∷ others))
  pushed front s others parts =
      let n = length front in
      let so_far = from_rows tables front in
      let one : 0 + n ≡ n = omega arith in
      let long : AllByRecursion (λ (row : FromRow). length row ≡ n) so_far = subst (λ (m : ℕ). AllByRecursion (λ (row : FromRow). length row ≡ m) so_far) one (lengths 0 ([] ∷ []) front (refl, tt)) in
      let longer_by_one = longer (pairs_with s.join) n so_far (source_rows tables s) long in
      let enough : AllByRecursion (λ (row : FromRow). n < length row) (step so_far s) = all_weaker (λ (row : FromRow). length row ≡ n + 1) (λ (row : FromRow). n < length row) (λ row e. omega arith) (step so_far s) longer_by_one in
      fold-append step ([] ∷ []) front (with_parts parts s ∷ others)
      ∙ (ap (λ (added : List Row). fold step (joined (pairs_with s.join) so_far added) others) (more_parts parts s)
      ∙ (ap (λ (rows : List FromRow). fold step rows others) (added_filter (pairs_with s.join) n (meets parts) so_far (source_rows tables s) long)
      ∙ (later n (meets parts) (step so_far s) others enough
      ∙ ap (filter (at_source n (meets parts))) (sym (fold-append step ([] ∷ []) front (s ∷ others))))))

  pub narrowed : (columns : PlanSource → List ℕ) (rows : List FromRow) (sources : List PlanSource) → fold step rows (map (λ s. with_columns (columns s) s) sources) ≡ fold step rows sources
  narrowed columns rows [] = refl
  narrowed columns rows (s ∷ sources) = narrowed columns (step rows s) sources

-- ---- the pairs of a cross join

module _ {A B C : Type 0} (f : A → B → C) (ys : List B) where
  length_pairs : (xs : List A) → length (flat_map (λ x. map (f x) ys) xs) ≡ length xs * length ys
  length_pairs [] = omega arith
  length_pairs (x ∷ xs) = omega (arith, length-append (map (f x) ys) (flat_map (λ z. map (f z) ys) xs), length-map ys (f x), length_pairs xs)

  positive : (i n m : ℕ) → i < n * m → 0 < m
  positive i n zero h = absurd (omega arith)
  positive i n (suc m) h = omega arith

  one_pair : (xs : List A) (a : A) (b : B) (i : ℕ) → i < length xs * length ys → get_or (flat_map (λ x. map (f x) ys) xs) i (f a b) ≡ f (get_or xs (i / length ys) a) (get_or ys (i % length ys) b)
  one_pair xs a b i h =
      let m = length ys in
      let some : 0 < m = positive i (length xs) m h in
      let q : i / m < length xs = (div-lt_iff_lt-mul some).1 h in
      let r : i % m < m = mod-lt i some in
      let x = get_or xs (i / m) a in
      let inside : i % m < length (map (f x) ys) = omega (arith, length-map ys (f x)) in
      let place : length (flat_map (λ z. map (f z) ys) (take (i / m) xs)) + i % m ≡ i = omega (arith, length_pairs (take (i / m) xs), taken xs (i / m) q, div-add-mod i m) in
      ap (λ (k : ℕ). get_or (flat_map (λ z. map (f z) ys) xs) k (f a b)) (sym place)
      ∙ (get_or-flat_map (λ z. map (f z) ys) xs (i / m) (i % m) a (f a b) q inside ∙ get_or-map (f x) ys (i % m) b (f a b) r)
    where
      taken : (zs : List A) (k : ℕ) → k < length zs → length (take k zs) * length ys ≡ k * length ys
      taken zs k g = ap (λ (n : ℕ). n * length ys) (length-take-le k zs (omega arith))

  -- the i-th of n times m pairs is that of the places i / m and i % m
  pub pairs_are : (xs : List A) (a : A) (b : B) → flat_map (λ x. map (f x) ys) xs ≡ map (λ i. f (get_or xs (i / length ys) a) (get_or ys (i % length ys) b)) (range_with_len 0 (length xs * length ys))
  pairs_are xs a b = fill_by_all (λ i. f (get_or xs (i / length ys) a) (get_or ys (i % length ys) b)) (flat_map (λ x. map (f x) ys) xs) (length xs * length ys) (f a b) (length_pairs xs) (λ i h. one_pair xs a b i h)

-- ---- the one row of an equal key

-- of some elements of which at most one passes, what a test keeps is the first that passes
module _ {A : Type 0} (p : A → Bool) where
  abbrev AtMostOne : List A → Type 0
  AtMostOne [] = Unit {0}
  AtMostOne (x ∷ xs) = (p x ≡ true → AllByRecursion (λ y. p y ≡ false) xs) × AtMostOne xs

  first_kept : (xs : List A) → AtMostOne xs → filter p xs ≡ option_to_list (find p xs)
  first_kept [] h = refl
  first_kept (x ∷ xs) h = by (p x) h.0 (first_kept xs h.1)
    where
      by : (b : Bool) → (b ≡ true → AllByRecursion (λ y. p y ≡ false) xs) → filter p xs ≡ option_to_list (find p xs) → cond b (x ∷ filter p xs) (filter p xs) ≡ option_to_list (cond b (Some x) (find p xs))
      by true none further = ap (λ (l : List A). x ∷ l) (filter_none p xs (none refl))
      by false none further = further

module _ {A B C : Type 0} (f : A → B → C) (p : A → B → Bool) (ys : List B) where
  pub found_pairs : (xs : List A) → ((x : A) → filter (p x) ys ≡ option_to_list (find (p x) ys)) → flat_map (λ x. map (f x) (filter (p x) ys)) xs ≡ filtered_map (λ x. option_map (f x) (find (p x) ys)) xs
  found_pairs [] one = refl
  found_pairs (x ∷ xs) one = ap (λ (l : List B). map (f x) l ++ flat_map (λ z. map (f z) (filter (p z) ys)) xs) (one x) ∙ by (find (p x) ys) (found_pairs xs one)
    where
      by : (o : Option B) → flat_map (λ z. map (f z) (filter (p z) ys)) xs ≡ filtered_map (λ z. option_map (f z) (find (p z) ys)) xs
          → map (f x) (option_to_list o) ++ flat_map (λ z. map (f z) (filter (p z) ys)) xs ≡ cons_option (option_map (f x) o) (filtered_map (λ z. option_map (f z) (find (p z) ys)) xs)
      by None h = h
      by (Some y) h = ap (λ (l : List C). f x y ∷ l) h

eq_is : (c : Ordering) → is_eq c ≡ true → c ≡ Equal
eq_is Less e = absurd cc
eq_is Equal e = refl
eq_is Greater e = absurd cc

-- values that are equal are one
pub same_is : (v w : Value) → same_value v w ≡ true → v ≡ w
same_is null w e = absurd cc
same_is (number x) w e = value_order.alike (number x) w (eq_is (by_value (number x) w) e)
same_is (text x) w e = value_order.alike (text x) w (eq_is (by_value (text x) w) e)
same_is (truth x) w e = value_order.alike (truth x) w (eq_is (by_value (truth x) w) e)

module _ (on : ColumnRef × ℕ) (row : FromRow) where
  others_differ : (r : Row) (added : List Row) → IsKey on.1 (r ∷ added) → pairs_with (Some on) row r ≡ true → AllByRecursion (λ s. pairs_with (Some on) row s ≡ false) added
  others_differ r added key e = recursion_from_All (λ s. pairs_with (Some on) row s ≡ false) added (λ k d h. differs (get_or added k d) (key 0 (suc k) d (omega arith) (omega arith)))
    where
      differs : (s : Row) → same_value (value_at on.1 r) (value_at on.1 s) ≡ false → pairs_with (Some on) row s ≡ false
      differs s h = by (pairs_with (Some on) row s) refl
        where
          by : (b : Bool) → pairs_with (Some on) row s ≡ b → pairs_with (Some on) row s ≡ false
          by false q = q
          by true q =
              let one : column_value row on.0 ≡ value_at on.1 r = same_is (column_value row on.0) (value_at on.1 r) e in
              absurd (false≢true (sym h ∙ subst (λ (v : Value). same_value v (value_at on.1 s) ≡ true) one q))

  one_at_most : (added : List Row) → IsKey on.1 added → AtMostOne (pairs_with (Some on) row) added
  one_at_most [] key = tt
  one_at_most (r ∷ added) key = (others_differ r added key, one_at_most added (λ i j d h g. key (suc i) (suc j) d (omega arith) (omega arith)))

pub join_laws : JoinLaws
join_laws = record {
  cross = λ rows added. same_pairs rows added ∙ pairs_are (λ row r. row ++ r ∷ []) added rows [] [];
  one_key = λ on rows added key. found_pairs (λ row r. row ++ r ∷ []) (pairs_with (Some on)) added rows (λ row. first_kept (pairs_with (Some on) row) added (one_at_most on row added key));
  pushed = pushed;
}
  where
    all_pass : (added : List Row) → AllByRecursion (λ r. true ≡ true) added
    all_pass [] = tt
    all_pass (r ∷ added) = (refl, all_pass added)

    same_pairs : (rows : List FromRow) (added : List Row) → joined (λ row r. true) rows added ≡ flat_map (λ row. map (λ r. row ++ r ∷ []) added) rows
    same_pairs rows added = ap (λ (l : List Row). flat_map (λ row. map (λ r. row ++ r ∷ []) l) rows) (filter_all (λ r. true) added (all_pass added))

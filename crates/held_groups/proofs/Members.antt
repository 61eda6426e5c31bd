-- The rows of groups, and of sorted lists, are rows of the list.
use Rattle.std.proofs.Common.{◌≡◌, ◌∙◌, ℕ, ◌≤◌, ◌⊎◌, inl, inr, ⊎_elim, Bool, true, false, cond, List, [], ◌∷◌, length, map, is_err, sym, subst, arith}
use Rattle.std.specs.List.{Contains, filter}
use Rattle.std.specs.Ordering.{is_eq}
use Rattle.std.proofs.lemmas.List.Sums.{length-filter, count_by-le-length}
use Rattle.dict_codes.specs.Ascending.{ascending}
use Rattle.dict_codes.proofs.Members.{first_or_later, here, nothing_in, there}
use Rattle.sort_order.specs.Orders.{inserted, sorted_by}
use Rattle.typed_trees.specs.declared.typed.ColumnRef.{ColumnRef}
use Rattle.typed_values.specs.Values.{Valued}
use Rattle.query_answers.specs.Answers.{FromRow, Group, by_key, group_at, group_key, groups_of}
use Rattle.query_answers.specs.Overs.{each}
use Rattle.query_answers.proofs.Lists.{kept_within}
use Rattle.query_answers.proofs.Strict.{each_over}
use Rattle.held_rows.specs.Laws.{row_before}
use Rattle.held_groups.specs.Groups.{column_key, sorted_rows}
use Rattle.held_groups.specs.Members.{GroupRows, GroupCellLaw}
use Rattle.held_groups.proofs.Aggregates.{rows_law}
use Rattle.held_groups.proofs.Overs.{any_sorted}
use Rattle.held_groups.proofs.Sorted.{all_from, all_at, all_sorted}

-- what is mapped is made of an element
module _ {A B : Type 0} (f : A → B) (P : B → Type 0) (each_has : (x : A) → P (f x)) where
  all_made : (xs : List A) (y : B) → Contains (map f xs) y → P y
  all_made [] y h = absurd (nothing_in y h)
  all_made (x ∷ xs) y h = ⊎_elim (λ (e : f x ≡ y). subst P e (each_has x)) (λ (k : Contains (map f xs) y). all_made xs y k) (first_or_later (f x) y (map f xs) h)

-- of each group of rows
module _ (rows : List FromRow) (P : List FromRow → Type 0) (whole : P rows) (part : (p : FromRow → Bool) → P (filter p rows)) where
  all_groups : (columns : List ColumnRef) (g : Group) → Contains (groups_of columns rows) g → P g.rows
  all_groups [] g h = ⊎_elim (λ (e : record { key = []; rows = rows } ≡ g). subst (λ (k : Group). P k.rows) e whole) (λ (k : Contains {X = Group} [] g). absurd (nothing_in g k)) (first_or_later (record { key = []; rows = rows }) g [] h)
  all_groups (c ∷ cs) g h =
      all_made (group_at (c ∷ cs) rows) (λ k. P k.rows) (λ key. part (λ row. is_eq (by_key key (group_key (c ∷ cs) row)))) (ascending by_key (map (group_key (c ∷ cs)) rows)) g h

pub within : (columns : List ColumnRef) (rows : List FromRow) (g : Group) (row : FromRow) → Contains (groups_of columns rows) g → Contains g.rows row → Contains rows row
within columns rows g row h = all_groups rows (λ l. Contains l row → Contains rows row) (λ k. k) (λ p k. kept_within p row rows k) columns g h

few : (columns : List ColumnRef) (rows : List FromRow) (g : Group) → Contains (groups_of columns rows) g → length g.rows ≤ length rows
few columns rows g h = all_groups rows (λ l. length l ≤ length rows) (omega arith) (λ p. omega (arith, length-filter p rows, count_by-le-length p rows)) columns g h

-- ---- sorted lists

module _ {A : Type 0} (lt : A → A → Bool) where
  pub sorted_within : (xs : List A) (x : A) → Contains (sorted_by lt xs) x → Contains xs x
  sorted_within xs x h = all_at (Contains xs) (sorted_by lt xs) (all_sorted (Contains xs) lt xs (all_from (Contains xs) xs (λ y k. k))) x h

  in_inserted : (x z : A) (ys : List A) → (x ≡ z) ⊎ Contains ys z → Contains (inserted lt x ys) z
  in_inserted x z [] h = ⊎_elim (λ (e : x ≡ z). subst (Contains (x ∷ [])) e (here x [])) (λ (k : Contains [] z). absurd (nothing_in z k)) h
  in_inserted x z (y ∷ ys) h = by (lt y x) (in_inserted x z ys)
    where
      before : (x ≡ z) ⊎ Contains (y ∷ ys) z → Contains (x ∷ y ∷ ys) z
      before g = ⊎_elim (λ (e : x ≡ z). subst (Contains (x ∷ y ∷ ys)) e (here x (y ∷ ys))) (λ (k : Contains (y ∷ ys) z). there x z (y ∷ ys) k) g

      behind : ((x ≡ z) ⊎ Contains ys z → Contains (inserted lt x ys) z) → (x ≡ z) ⊎ Contains (y ∷ ys) z → Contains (y ∷ inserted lt x ys) z
      behind further g =
          ⊎_elim (λ (e : x ≡ z). there y z (inserted lt x ys) (further (inl e)))
          (λ (k : Contains (y ∷ ys) z). ⊎_elim (λ (e : y ≡ z). subst (Contains (y ∷ inserted lt x ys)) e (here y (inserted lt x ys))) (λ (l : Contains ys z). there y z (inserted lt x ys) (further (inr l))) (first_or_later y z ys k)) g

      by : (b : Bool) → ((x ≡ z) ⊎ Contains ys z → Contains (inserted lt x ys) z) → Contains (cond b (y ∷ inserted lt x ys) (x ∷ y ∷ ys)) z
      by true further = behind further h
      by false further = before h

  pub within_sorted : (xs : List A) (x : A) → Contains xs x → Contains (sorted_by lt xs) x
  within_sorted [] x h = h
  within_sorted (y ∷ ys) x h = in_inserted y x (sorted_by lt ys) (⊎_elim (λ (e : y ≡ x). inl e) (λ (k : Contains ys x). inr (within_sorted ys x k)) (first_or_later y x ys h))

sorted_over : (texts : List (List ℕ)) (columns : List ColumnRef) (rows : List FromRow) (f : FromRow → Valued) → is_err (each f (sorted_rows texts columns rows)) ≡ is_err (each f rows)
sorted_over texts columns rows f =
    each_over f (sorted_rows texts columns rows) ∙ (any_sorted (λ r. is_err (f r)) (row_before (map (column_key texts) columns)) rows ∙ sym (each_over f rows))

pub group_rows : GroupRows
group_rows = record {
  within = within;
  few = few;
  sorted_within = λ texts columns rows row h. sorted_within (row_before (map (column_key texts) columns)) rows row h;
  within_sorted = λ texts columns rows row h. within_sorted (row_before (map (column_key texts) columns)) rows row h;
  sorted_over = sorted_over;
}

pub group_cell_law : GroupCellLaw
group_cell_law texts columns rows g kind t u x e can h m = rows_law texts kind t u x g.rows e (λ row k. can row (within columns rows g row m k)) (omega (arith, few columns rows g m, h))

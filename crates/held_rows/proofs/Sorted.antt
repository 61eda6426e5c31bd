-- Rows that are sorted by their places.
use Rattle.std.proofs.Common.{◌≡◌, ◌∙◌, ℕ, suc, ◌-◌, Bool, true, false, cond, List, [], ◌∷◌, ◌++◌, length, map, replicate, filter, refl, sym, ap, subst, Option, Some, None}
use Rattle.std.specs.Prelude.{slice_index_or, is_some}
use Rattle.std.specs.List.{range_with_len}
use Rattle.std.specs.Ordering.{is_lt, ordering_then}
use Rattle.std.proofs.lemmas.List.{length-map}
use Rattle.control_vectors.specs.Slots.{Slot}
use Rattle.sort_order.specs.Orders as orders
use Rattle.sort_order.specs.Orders.{directed, keys_cmp, comes_before, inserted, sorted_by, marked, ordered}
use Rattle.held_rows.specs.Held.{Held, present, at, column, one, packed}
use Rattle.held_rows.specs.Laws.{Key, rows_cmp, row_before, sort_key, OrderLaw}
use Rattle.held_rows.proofs.RowPlaces.{row_at, asked, moved, rows_in, all_rows, padded_rows}

module _ {A : Type 0} (held : Held A) where
  -- rows stand at places, one by one
  abbrev Stand : List ℕ → List A → Type 0
  Stand [] [] = Unit {0}
  Stand [] (a ∷ rows) = ⊥
  Stand (i ∷ is) [] = ⊥
  Stand (i ∷ is) (a ∷ rows) = (slice_index_or held i None ≡ Some a) × Stand is rows

  stand_rows : (is : List ℕ) (rows : List A) → Stand is rows → rows_in held is ≡ map (λ a. Some a) rows
  stand_rows [] [] s = refl
  stand_rows [] (a ∷ rows) s = absurd s
  stand_rows (i ∷ is) [] s = absurd s
  stand_rows (i ∷ is) (a ∷ rows) s =
      let first : slice_index_or held i None ≡ Some a = s.0 in
      let others = stand_rows is rows s.1 in
      λ t. first t ∷ others t

  stand_long : (is : List ℕ) (rows : List A) → Stand is rows → length is ≡ length rows
  stand_long [] [] s = refl
  stand_long [] (a ∷ rows) s = absurd s
  stand_long (i ∷ is) [] s = absurd s
  stand_long (i ∷ is) (a ∷ rows) s = ap suc (stand_long is rows s.1)

  -- ---- the marked places are those of the rows that are present

  marks : (is : List ℕ) → Stand (filter (λ i. is_some (orders.slot_at (column one held) i)) is) (present (rows_in held is))
  marks [] = tt
  marks (i ∷ is) =
      subst (λ (x : Slot). Stand (cond (is_some x) (i ∷ rest) rest) (present (slice_index_or held i None ∷ rows_in held is))) (sym (asked one held i))
      (by (slice_index_or held i None) refl (marks is))
    where
      rest : List ℕ
      rest = filter (λ j. is_some (orders.slot_at (column one held) j)) is

      by : (o : Option A) → slice_index_or held i None ≡ o → Stand rest (present (rows_in held is))
          → Stand (cond (is_some (at one (slice_index_or held i None))) (i ∷ rest) rest) (present (slice_index_or held i None ∷ rows_in held is))
      by None e h = subst (λ (o : Option A). Stand (cond (is_some (at one o)) (i ∷ rest) rest) (present (o ∷ rows_in held is))) (sym e) h
      by (Some a) e h = subst (λ (o : Option A). Stand (cond (is_some (at one o)) (i ∷ rest) rest) (present (o ∷ rows_in held is))) (sym e) (e, h)

  marked_stand : Stand (marked (column one held)) (present held)
  marked_stand =
      subst (λ (n : ℕ). Stand (filter (λ i. is_some (orders.slot_at (column one held) i)) (range_with_len 0 n)) (present held)) (sym (length-map held (at one)))
      (subst (λ (l : Held A). Stand (filter (λ i. is_some (orders.slot_at (column one held) i)) (range_with_len 0 (length held))) (present l)) (all_rows held) (marks (range_with_len 0 (length held))))

  -- ---- two places compare as their rows do

  cmp_is : (keys : List (Key A)) (i j : ℕ) (a b : A) → slice_index_or held i None ≡ Some a → slice_index_or held j None ≡ Some b → keys_cmp (map (sort_key held) keys) i j ≡ rows_cmp keys a b
  cmp_is [] i j a b e h = refl
  cmp_is (k ∷ keys) i j a b e h =
      let x : slice_index_or (column k.1 held) i None ≡ k.1 a = asked k.1 held i ∙ ap (at k.1) e in
      let y : slice_index_or (column k.1 held) j None ≡ k.1 b = asked k.1 held j ∙ ap (at k.1) h in
      let others = cmp_is keys i j a b e h in
      λ t. ordering_then (directed k.0 (x t) (y t)) (others t)

  module _ (keys : List (Key A)) where
    inserted_stand : (i : ℕ) (a : A) (is : List ℕ) (rows : List A) → slice_index_or held i None ≡ Some a → Stand is rows
        → Stand (inserted (comes_before (map (sort_key held) keys)) i is) (inserted (row_before keys) a rows)
    inserted_stand i a [] [] e s = (e, tt)
    inserted_stand i a [] (b ∷ rows) e s = absurd s
    inserted_stand i a (j ∷ is) [] e s = absurd s
    inserted_stand i a (j ∷ is) (b ∷ rows) e s =
        subst (λ (t : Bool). Stand (cond t (j ∷ more) (i ∷ j ∷ is)) (cond (row_before keys b a) (b ∷ inserted (row_before keys) a rows) (a ∷ b ∷ rows)))
        (sym (ap is_lt (cmp_is keys j i b a s.0 e))) (by (row_before keys b a) (inserted_stand i a is rows e s.1))
      where
        more : List ℕ
        more = inserted (comes_before (map (sort_key held) keys)) i is

        by : (t : Bool) → Stand more (inserted (row_before keys) a rows) → Stand (cond t (j ∷ more) (i ∷ j ∷ is)) (cond t (b ∷ inserted (row_before keys) a rows) (a ∷ b ∷ rows))
        by true h = (s.0, h)
        by false h = (e, s)

    sorted_stand : (is : List ℕ) (rows : List A) → Stand is rows → Stand (sorted_by (comes_before (map (sort_key held) keys)) is) (sorted_by (row_before keys) rows)
    sorted_stand [] [] s = tt
    sorted_stand [] (a ∷ rows) s = absurd s
    sorted_stand (i ∷ is) [] s = absurd s
    sorted_stand (i ∷ is) (a ∷ rows) s =
        inserted_stand i a (sorted_by (comes_before (map (sort_key held) keys)) is) (sorted_by (row_before keys) rows) s.0 (sorted_stand is rows s.1)

    rows_ordered : map (row_at held) (ordered (column one held) (map (sort_key held) keys)) ≡ packed (length held) (sorted_by (row_before keys) (present held))
    rows_ordered =
        let places = sorted_by (comes_before (map (sort_key held) keys)) (marked (column one held)) in
        let rows = sorted_by (row_before keys) (present held) in
        let stand : Stand places rows = sorted_stand (marked (column one held)) (present held) marked_stand in
        padded_rows held places (length (column one held) - length places)
        ∙ ap (λ (l : Held A). l ++ replicate (length (column one held) - length places) None) (stand_rows places rows stand)
        ∙ ap (λ (n : ℕ). map (λ a. Some a) rows ++ replicate (n - length places) None) (length-map held (at one))
        ∙ ap (λ (n : ℕ). map (λ a. Some a) rows ++ replicate (length held - n) None) (stand_long places rows stand)

pub order_law : {A : Type 0} → OrderLaw A
order_law held keys f =
    moved f held (ordered (column one held) (map (sort_key held) keys)) ∙ ap (column f) (rows_ordered held keys)

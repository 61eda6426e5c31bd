-- Rows at places, and what is asked of them.
use Rattle.std.proofs.Common.{◌≡◌, ◌∙◌, ℕ, zero, suc, pos, negsuc, List, [], ◌∷◌, ◌++◌, length, map, replicate, refl, sym, ap, append-nil, Option, Some, None}
use Rattle.std.specs.Prelude.{slice_index_or}
use Rattle.std.specs.List.{range_with_len}
use Rattle.std.proofs.lemmas.List.{map-append}
use Rattle.std.proofs.lemmas.List.FromFn.{fill_by_all}
use Rattle.control_vectors.specs.Slots.{Slot}
use Rattle.slot_moves.specs.Moves.{slot_at, gathered}
use Rattle.held_rows.specs.Held.{Held, present, at, column}

module _ {A : Type 0} where
  -- the row at a place
  abbrev pub row_at : Held A → Slot → Option A
  row_at held None = None
  row_at held (Some (pos i)) = slice_index_or held i None
  row_at held (Some (negsuc i)) = None

  pub asked : (f : A → Slot) (held : Held A) (i : ℕ) → slice_index_or (column f held) i None ≡ at f (slice_index_or held i None)
  asked f [] i = refl
  asked f (r ∷ held) zero = refl
  asked f (r ∷ held) (suc i) = asked f held i

  slot_is : (f : A → Slot) (held : Held A) (p : Slot) → slot_at (column f held) p ≡ at f (row_at held p)
  slot_is f held None = refl
  slot_is f held (Some (pos i)) = asked f held i
  slot_is f held (Some (negsuc i)) = refl

  -- a column at places is the column of the rows there
  pub moved : (f : A → Slot) (held : Held A) (places : List Slot) → gathered (column f held) places ≡ column f (map (row_at held) places)
  moved f held [] = refl
  moved f held (p ∷ places) =
      let one = slot_is f held p in
      let others = moved f held places in
      λ i. one i ∷ others i

  -- ---- rows that are present

  pub present-append : (a b : Held A) → present (a ++ b) ≡ present a ++ present b
  present-append [] b = refl
  present-append (None ∷ a) b = present-append a b
  present-append (Some x ∷ a) b = ap (λ (l : List A). x ∷ l) (present-append a b)

  pub present_nothing : (n : ℕ) → present {A = A} (replicate n None) ≡ []
  present_nothing zero = refl
  present_nothing (suc n) = present_nothing n

  -- the rows at some places, each of which may have one
  abbrev pub rows_in : Held A → List ℕ → Held A
  rows_in held is = map (λ i. slice_index_or held i None) is

  pub all_rows : (held : Held A) → rows_in held (range_with_len 0 (length held)) ≡ held
  all_rows held = sym (fill_by_all (λ i. slice_index_or held i None) held (length held) None refl (λ i h. refl))

  at_places : (held : Held A) (is : List ℕ) → map (row_at held) (map (λ i. Some (pos i)) is) ≡ rows_in held is
  at_places held [] = refl
  at_places held (i ∷ is) = ap (λ (l : Held A). slice_index_or held i None ∷ l) (at_places held is)

  at_none : (held : Held A) (n : ℕ) → map (row_at held) (replicate n None) ≡ replicate n None
  at_none held zero = refl
  at_none held (suc n) = ap (λ (l : Held A). None ∷ l) (at_none held n)

  -- at some places, and then at none
  pub padded_rows : (held : Held A) (is : List ℕ) (n : ℕ) → map (row_at held) (map (λ i. Some (pos i)) is ++ replicate n None) ≡ rows_in held is ++ replicate n None
  padded_rows held is n =
      map-append (row_at held) (map (λ i. Some (pos i)) is) (replicate n None)
      ∙ ap (λ (l : Held A). l ++ map (row_at held) (replicate n None)) (at_places held is)
      ∙ ap (λ (l : Held A). rows_in held is ++ l) (at_none held n)

  pub present_padded : (held : Held A) (n : ℕ) → present (held ++ replicate n None) ≡ present held
  present_padded held n = present-append held (replicate n None) ∙ ap (λ (l : List A). present held ++ l) (present_nothing n) ∙ append-nil (present held)

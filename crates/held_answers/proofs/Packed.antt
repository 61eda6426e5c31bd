-- Rows at the first places of a vector: their slots, and the places that are marked.
use Rattle.std.proofs.Common.{◌≡◌, ◌∙◌, ℕ, zero, suc, ◌+◌, ◌-◌, ◌<◌, ◌≤◌, Bool, true, false, cond, List, [], ◌∷◌, ◌++◌, length, map, get_or, Some, None, is_some, refl, sym, ap, arith}
use Rattle.std.specs.Prelude.{filter, replicate}
use Rattle.std.specs.List.{range_with_len}
use Rattle.std.proofs.lemmas.List.{get_or_past}
use Rattle.control_vectors.specs.Slots.{Slot}
use Rattle.held_rows.specs.Held.{at, column, one, packed}
use Rattle.answer_print.specs.Held.{is_marked, marked_places}

-- ---- slots

-- slots followed by empty ones
abbrev pub padded : ℕ → List Slot → List Slot
padded m slots = slots ++ replicate m None

module _ {A : Type 0} (f : A → Slot) where
  blanks : (m : ℕ) → map (at f) (replicate m None) ≡ replicate m None
  blanks zero = refl
  blanks (suc m) = ap (λ (l : List Slot). None ∷ l) (blanks m)

  rows_then : (m : ℕ) (rows : List A) → map (at f) (map (λ a. Some a) rows ++ replicate m None) ≡ padded m (map f rows)
  rows_then m [] = blanks m
  rows_then m (r ∷ rows) = ap (λ (l : List Slot). f r ∷ l) (rows_then m rows)

  pub packed_slots : (n : ℕ) (rows : List A) → column f (packed n rows) ≡ padded (n - length rows) (map f rows)
  packed_slots n rows = rows_then (n - length rows) rows

  -- the slot of a row's place
  pub slot_in : (m : ℕ) (rows : List A) (i : ℕ) (d : A) → i < length rows → get_or (padded m (map f rows)) i None ≡ f (get_or rows i d)
  slot_in m [] i d l = absurd (omega (arith, l))
  slot_in m (r ∷ rows) zero d l = refl
  slot_in m (r ∷ rows) (suc i) d l = slot_in m rows i d (omega (arith, l))

-- ---- marks

-- the first of some numbers pass, and no other
none_pass : (p : ℕ → Bool) (a m : ℕ) → ((i : ℕ) → p (a + i) ≡ false) → filter p (range_with_len a m) ≡ []
none_pass p a zero h = refl
none_pass p a (suc m) h =
    let here : a + 0 ≡ a = omega arith in
    ap (λ (b : Bool). cond b (a ∷ filter p (range_with_len (a + 1) m)) (filter p (range_with_len (a + 1) m))) (ap p (sym here) ∙ h 0)
    ∙ none_pass p (a + 1) m (λ i. let next : a + 1 + i ≡ a + suc i = omega arith in ap p next ∙ h (suc i))

first_pass : (p : ℕ → Bool) (a k n : ℕ) → k ≤ n → ((i : ℕ) → i < k → p (a + i) ≡ true) → ((i : ℕ) → k ≤ i → p (a + i) ≡ false) → filter p (range_with_len a n) ≡ range_with_len a k
first_pass p a zero n l h g = none_pass p a n (λ i. g i (omega arith))
first_pass p a (suc k) zero l h g = absurd (omega (arith, l))
first_pass p a (suc k) (suc n) l h g =
    let here : a + 0 ≡ a = omega arith in
    ap (λ (b : Bool). cond b (a ∷ filter p (range_with_len (a + 1) n)) (filter p (range_with_len (a + 1) n))) (ap p (sym here) ∙ h 0 (omega arith))
    ∙ ap (λ (r : List ℕ). a ∷ r)
    (first_pass p (a + 1) k n (omega (arith, l)) (λ i m. let next : a + 1 + i ≡ a + suc i = omega arith in ap p next ∙ h (suc i) (omega (arith, m))) (λ i m. let next : a + 1 + i ≡ a + suc i = omega arith in ap p next ∙ g (suc i) (omega (arith, m))))

long : (m : ℕ) → length (padded m []) ≡ m
long zero = refl
long (suc m) = ap suc (long m)

empty : (m i : ℕ) → is_some (get_or (padded m []) i None) ≡ false
empty zero i = ap is_some (get_or_past (padded 0 []) i None (omega arith))
empty (suc m) zero = refl
empty (suc m) (suc i) = empty m i

pub from_none : (i : ℕ) → 0 + i ≡ i
from_none i = omega arith

module _ {A : Type 0} where
  many : (m : ℕ) (rows : List A) → length (padded m (map one rows)) ≡ length rows + m
  many m [] = omega (arith, long m)
  many m (r ∷ rows) = omega (arith, many m rows)

  marked : (m : ℕ) (rows : List A) (i : ℕ) → i < length rows → is_marked (padded m (map one rows)) i ≡ true
  marked m [] i l = absurd (omega (arith, l))
  marked m (r ∷ rows) zero l = refl
  marked m (r ∷ rows) (suc i) l = marked m rows i (omega (arith, l))

  unmarked : (m : ℕ) (rows : List A) (i : ℕ) → length rows ≤ i → is_marked (padded m (map one rows)) i ≡ false
  unmarked m [] i l = empty m i
  unmarked m (r ∷ rows) zero l = absurd (omega (arith, l))
  unmarked m (r ∷ rows) (suc i) l = unmarked m rows i (omega (arith, l))

  -- the first places are marked
  pub first_marked : (m : ℕ) (rows : List A) → marked_places (padded m (map one rows)) ≡ range_with_len 0 (length rows)
  first_marked m rows = ap (λ n. filter (is_marked (padded m (map one rows))) (range_with_len 0 n)) (many m rows) ∙ first_pass (is_marked (padded m (map one rows))) 0 (length rows) (length rows + m) (omega arith) (λ i l. ap (is_marked (padded m (map one rows))) (from_none i) ∙ marked m rows i l) (λ i l. ap (is_marked (padded m (map one rows))) (from_none i) ∙ unmarked m rows i l)

-- what is made of the places of a list is the list
pub by_places : {X : Type 0} (f : ℕ → X) (a : ℕ) (xs : List X) → ((i : ℕ) (d : X) → i < length xs → f (a + i) ≡ get_or xs i d) → map f (range_with_len a (length xs)) ≡ xs
by_places f a [] h = refl
by_places {X} f a (x ∷ xs) h =
    let here : a + 0 ≡ a = omega arith in
    let first : f a ≡ x = ap f (sym here) ∙ h 0 x (omega arith) in
    let others = by_places f (a + 1) xs (λ i d l. let next : a + 1 + i ≡ a + suc i = omega arith in ap f next ∙ h (suc i) d (omega (arith, l))) in
    ap (λ (y : X). y ∷ map f (range_with_len (a + 1) (length xs))) first ∙ ap (λ (l : List X). x ∷ l) others

-- Where runs begin among tuples: at the first, and at each that differs from the one before.
use Rattle.std.proofs.Common.{◌≡◌, ◌∙◌, ℕ, zero, suc, ◌-◌, ◌<◌, Bool, true, false, not, ◌||◌, ◌&&◌, List, [], ◌∷◌, length, map, replicate, get_or, Option, Some, None, refl, sym, ap, arith}
use Rattle.std.specs.Prelude.{◌==◌}
use Rattle.std.proofs.lemmas.Bool.Decides.{nat_tests}
use Rattle.std.proofs.lemmas.List.{length-map, get_or-map}
use Rattle.std.proofs.lemmas.List.FromFn.{fill_by_all}
use Rattle.std.proofs.lemmas.Cmp.{int_cmp_total, tied_itself}
use Rattle.std.specs.Ordering.{is_eq}
use Rattle.control_vectors.specs.Slots.{Slot}
use Rattle.control_vectors.specs.Runs.{Tuple, slot_eq, tuple_eq, begins, run_marks, side_by_side}
use Rattle.held_rows.specs.Held.{Held, at, column}

-- for each tuple behind another, whether it differs from the one before
abbrev pub changes : Tuple → List Tuple → List Bool
changes t [] = []
changes t (u ∷ us) = not (tuple_eq u t) ∷ changes u us

abbrev pub marks : List Tuple → List Bool
marks [] = []
marks (t ∷ ts) = true ∷ changes t ts

length_changes : (t : Tuple) (ts : List Tuple) → length (changes t ts) ≡ length ts
length_changes t [] = refl
length_changes t (u ∷ us) = ap suc (length_changes u us)

pub length_marks : (ts : List Tuple) → length (marks ts) ≡ length ts
length_marks [] = refl
length_marks (t ∷ ts) = ap suc (length_changes t ts)

change_at : (t : Tuple) (ts : List Tuple) (i : ℕ) → i < length ts → get_or (changes t ts) i false ≡ not (tuple_eq (get_or ts i []) (get_or (t ∷ ts) i []))
change_at t [] i h = absurd (omega arith)
change_at t (u ∷ us) zero h = refl
change_at t (u ∷ us) (suc i) h = change_at u us i (omega arith)

mark_at : (ts : List Tuple) (i : ℕ) → i < length ts → get_or (marks ts) i false ≡ begins ts i
mark_at [] i h = absurd (omega arith)
mark_at (t ∷ ts) zero h = refl
mark_at (t ∷ ts) (suc i) h =
    let here : suc i - 1 ≡ i = omega arith in
    let later : (suc i == 0) ≡ false = grind (arith, nat_tests) in
    change_at t ts i (omega arith)
    ∙ (ap (λ (j : ℕ). not (tuple_eq (get_or ts i []) (get_or (t ∷ ts) j []))) (sym here)
    ∙ ap (λ (b : Bool). b || not (tuple_eq (get_or ts i []) (get_or (t ∷ ts) (suc i - 1) []))) (sym later))

pub marks_are : (ts : List Tuple) → run_marks ts ≡ marks ts
marks_are ts = sym (fill_by_all (begins ts) (marks ts) (length ts) false (length_marks ts) (λ i h. mark_at ts i h))

-- ---- a tuple equals itself

slot_itself : (s : Slot) → slot_eq s s ≡ true
slot_itself None = refl
slot_itself (Some z) = ap is_eq (tied_itself int_cmp_total z)

pub tuple_itself : (t : Tuple) → tuple_eq t t ≡ true
tuple_itself [] = refl
tuple_itself (s ∷ t) = (λ i. slot_itself s i && tuple_eq t t) ∙ tuple_itself t

pub same_changes : (n : ℕ) (t : Tuple) → changes t (replicate n t) ≡ replicate n false
same_changes zero t = refl
same_changes (suc n) t = λ i. not (tuple_itself t i) ∷ same_changes n t i

-- ---- columns of rows, side by side

module _ {A : Type 0} where
  -- the tuple of a place, where a row stands or none
  abbrev pub tuple_of : List (A → Slot) → Option A → Tuple
  tuple_of fs o = map (λ f. at f o) fs

  slots_at : (fs : List (A → Slot)) (held : Held A) (k : ℕ) → k < length held → map (λ xs. get_or xs k None) (map (λ g. column g held) fs) ≡ tuple_of fs (get_or held k None)
  slots_at [] held k h = refl
  slots_at (f ∷ fs) held k h = λ i. get_or-map (at f) held k None None h i ∷ slots_at fs held k h i

  pub tuples_are : (fs : List (A → Slot)) (held : Held A) → side_by_side (length held) (map (λ g. column g held) fs) ≡ map (tuple_of fs) held
  tuples_are fs held =
      sym (fill_by_all (λ i. map (λ xs. get_or xs i None) (map (λ g. column g held) fs)) (map (tuple_of fs) held) (length held) [] (length-map held (tuple_of fs))
      (λ k h. get_or-map (tuple_of fs) held k None [] h ∙ sym (slots_at fs held k h)))

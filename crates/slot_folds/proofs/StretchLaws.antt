-- Totals and bests that grow along a stretch.
use Rattle.std.proofs.Common.{◌≡◌, ℕ, ◌+◌, ◌-◌, ◌<◌, ◌≤◌, ℤ, pos, ◌+ℤ◌, false, List, [], ◌∷◌, ◌++◌, length, drop, refl, sym, ap, ◌∙◌, append-nil, arith, Some, None, Ok}
use Rattle.std.specs.Prelude.{slice_get, slice_range}
use Rattle.std.proofs.lemmas.List.{length-take, length_push}
use Rattle.control_vectors.specs.Slots.{Slot, Cell, numbers}
use Rattle.control_vectors.specs.Sums.{Sum}
use Rattle.control_vectors.specs.Folds.{total_of, sum_of, least_of, greatest_of, fold_numbers, fold_slots}
use Rattle.control_vectors.specs.declared.FoldKind.{FoldKind}
use Rattle.control_vectors.specs.declared.FoldKind.TheVariants as kind
use Rattle.control_vectors.proofs.SlotLaws.{numbers-append, length-numbers}
use Rattle.control_vectors.proofs.FoldLaws.{total_of_more, least_of_more, greatest_of_more, lesser, greater}
use Rattle.control_vectors.proofs.Stretches.{stretch_empty, stretch_more}
use Rattle.slot_folds.specs.Jobs.{plus_slot, sum_slot, is_sum, best_with}

-- ---- totals

pub record Summed (xs : List Slot) (total : Sum) : Type 0 where
  pub value : total.value ≡ total_of (numbers xs)
  pub terms : total.terms ≡ length (numbers xs)

pub summed_none : (xs : List Slot) (from : ℕ) (total : Sum) → total ≡ record { value = pos 0; terms = 0 } → Summed (slice_range xs from from) total
summed_none xs from total e = rw stretch_empty (record { value = ap (λ (s : Sum). s.value) e; terms = ap (λ (s : Sum). s.terms) e })

numbers_more : (xs : List Slot) (from i : ℕ) (s : Slot) → from ≤ i → slice_get xs i ≡ Some s → numbers (slice_range xs from (i + 1)) ≡ numbers (slice_range xs from i) ++ numbers (s ∷ [])
numbers_more xs from i s h at = ap numbers (stretch_more xs from i s h at) ∙ numbers-append (slice_range xs from i) (s ∷ [])

grows : (s : Slot) (total more : Sum) (ns ms : List ℤ) → more ≡ plus_slot total s → ms ≡ ns ++ numbers (s ∷ []) → total.value ≡ total_of ns → total.terms ≡ length ns → (more.value ≡ total_of ms) × (more.terms ≡ length ms)
grows None total more ns ms m e v t =
    let same : ms ≡ ns = e ∙ append-nil ns in
    (ap (λ (u : Sum). u.value) m ∙ v ∙ ap total_of (sym same), ap (λ (u : Sum). u.terms) m ∙ t ∙ ap (λ (l : List ℤ). length l) (sym same))
grows (Some x) total more ns ms m e v t =
    (ap (λ (u : Sum). u.value) m ∙ ap (λ (z : ℤ). z +ℤ x) v ∙ sym (total_of_more ns x) ∙ ap total_of (sym e), ap (λ (u : Sum). u.terms) m ∙ ap (λ n. n + 1) t ∙ sym (length_push ns x) ∙ ap (λ (l : List ℤ). length l) (sym e))

pub summed_more : (xs : List Slot) (from i : ℕ) (s : Slot) (total more : Sum) → from ≤ i → slice_get xs i ≡ Some s → more ≡ plus_slot total s → Summed (slice_range xs from i) total → Summed (slice_range xs from (i + 1)) more
summed_more xs from i s total more h at m t =
    let both = grows s total more (numbers (slice_range xs from i)) (numbers (slice_range xs from (i + 1))) m (numbers_more xs from i s h at) t.value t.terms in
    record { value = both.0; terms = both.1 }

pub summed_few : (xs : List Slot) (from i n : ℕ) (total : Sum) → i < length xs → length xs ≤ n → Summed (slice_range xs from i) total → total.terms < n
summed_few xs from i n total h few t = omega (arith, t.terms, length-numbers (slice_range xs from i), length-take (i - from) (drop from xs))

sum_of_all : (s : Sum) (ns : List ℤ) → s.value ≡ total_of ns → s.terms ≡ length ns → sum_slot s ≡ sum_of ns
sum_of_all s [] v t = rw t refl
sum_of_all s (x ∷ ns) v t = rw (t, v) refl

pub summed_end : (xs : List Slot) (total : Sum) → Summed xs total → sum_slot total ≡ fold_slots kind.Sum xs
summed_end xs total t = sum_of_all total (numbers xs) t.value t.terms

-- ---- the least and the greatest

abbrev pub ok : Slot → Cell
ok s = Ok s

same_ok : (a b : Slot) → ok a ≡ ok b → a ≡ b
same_ok a b e = cc

best_step : (k : FoldKind) (ns : List ℤ) (best s : Slot) → is_sum k ≡ false → ok best ≡ fold_numbers k ns → ok (best_with k best s) ≡ fold_numbers k (ns ++ numbers (s ∷ []))
best_step kind.Sum ns best s h e = absurd cc
best_step kind.Min ns None None h e = e ∙ ap (fold_numbers kind.Min) (sym (append-nil ns))
best_step kind.Min ns (Some a) None h e = e ∙ ap (fold_numbers kind.Min) (sym (append-nil ns))
best_step kind.Min ns None (Some x) h e = ap (λ (b : Slot). ok (Some (lesser b x))) (same_ok None (least_of ns) e) ∙ ap ok (sym (least_of_more ns x))
best_step kind.Min ns (Some a) (Some x) h e = ap (λ (b : Slot). ok (Some (lesser b x))) (same_ok (Some a) (least_of ns) e) ∙ ap ok (sym (least_of_more ns x))
best_step kind.Max ns None None h e = e ∙ ap (fold_numbers kind.Max) (sym (append-nil ns))
best_step kind.Max ns (Some a) None h e = e ∙ ap (fold_numbers kind.Max) (sym (append-nil ns))
best_step kind.Max ns None (Some x) h e = ap (λ (b : Slot). ok (Some (greater b x))) (same_ok None (greatest_of ns) e) ∙ ap ok (sym (greatest_of_more ns x))
best_step kind.Max ns (Some a) (Some x) h e = ap (λ (b : Slot). ok (Some (greater b x))) (same_ok (Some a) (greatest_of ns) e) ∙ ap ok (sym (greatest_of_more ns x))

pub best_none : (k : FoldKind) (xs : List Slot) (from : ℕ) → is_sum k ≡ false → ok None ≡ fold_slots k (slice_range xs from from)
best_none kind.Sum xs from h = absurd cc
best_none kind.Min xs from h = rw stretch_empty refl
best_none kind.Max xs from h = rw stretch_empty refl

pub best_more : (k : FoldKind) (xs : List Slot) (from i : ℕ) (best more s : Slot) → is_sum k ≡ false → from ≤ i → slice_get xs i ≡ Some s → more ≡ best_with k best s → ok best ≡ fold_slots k (slice_range xs from i) → ok more ≡ fold_slots k (slice_range xs from (i + 1))
best_more k xs from i best more s h l at m e =
    ap ok m ∙ best_step k (numbers (slice_range xs from i)) best s h e ∙ ap (fold_numbers k) (sym (numbers_more xs from i s l at))

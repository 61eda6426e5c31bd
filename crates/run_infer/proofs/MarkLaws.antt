-- The marks of runs, and the places at which they stand.
use Rattle.std.proofs.Common.{◌≡◌, ℕ, zero, suc, ◌+◌, ◌<◌, ◌≤◌, ◌^◌, Bool, true, false, if◌then◌else◌, List, [], ◌∷◌, ◌++◌, length, get_or, refl, sym, ap, ◌∙◌, arith, append-nil, Some, inl, inr}
use Rattle.std.specs.Prelude.{slice_get, filter}
use Rattle.std.specs.List.{range_with_len}
use Rattle.std.specs.Option.{option_map}
use Rattle.std.proofs.lemmas.Bool.{cases_order, true≢false}
use Rattle.std.proofs.lemmas.List.{map-id}
use Rattle.std.proofs.lemmas.List.Elements.{filter-append}
use Rattle.std.proofs.lemmas.List.FromFn.{get_or-range_with_len, length-range_with_len, map-range_with_len_more}
use Rattle.std.proofs.lemmas.Option.{slice_get-map, slice_get-get_or, get_or_from_slice_get}
use Rattle.control_vectors.specs.Runs.{Tuple, begins, run_marks, run_starts}
use Rattle.control_vectors.proofs.RunLaws.{length_run_marks}
use Rattle.run_infer.specs.Marks.{AreMarks, IsNextStart, starts_of}

-- ---- the marks of tuples
pub mark_at : (tuples : List Tuple) (i : ℕ) → i < length tuples → slice_get (run_marks tuples) i ≡ Some (begins tuples i)
mark_at tuples i h =
    let n = length tuples in
    let at : slice_get (range_with_len 0 n) i ≡ Some i = slice_get-get_or (range_with_len 0 n) i 0 (omega (arith, length-range_with_len 0 n)) ∙ ap (λ k. Some k) (get_or-range_with_len 0 n i 0 h ∙ omega arith) in
    slice_get-map (begins tuples) (range_with_len 0 n) i ∙ ap (option_map (begins tuples)) at

pub are_marks : (tuples : List Tuple) → length tuples ≤ 2 ^ 22 → AreMarks (run_marks tuples)
are_marks tuples few = record {
  few = omega (arith, length_run_marks tuples);
  first = λ h. mark_at tuples 0 (omega (arith, length_run_marks tuples));
}

-- ---- the places of marks, and one place more
counting : (i : ℕ) → range_with_len 0 (i + 1) ≡ range_with_len 0 i ++ i ∷ []
counting i = sym (map-id (range_with_len 0 (i + 1))) ∙ map-range_with_len_more (λ (n : ℕ). n) 0 i i (omega arith) ∙ ap (λ l. l ++ i ∷ []) (map-id (range_with_len 0 i))

-- the places below another that pass a test
abbrev below : (ℕ → Bool) → ℕ → List ℕ
below p i = filter p (range_with_len 0 i)

below_more : (p : ℕ → Bool) (i : ℕ) → below p (i + 1) ≡ below p i ++ (if p i then i ∷ [] else [])
below_more p i = ap (filter p) (counting i) ∙ filter-append p (range_with_len 0 i) (i ∷ [])

below_alike : (p q : ℕ → Bool) (n : ℕ) → ((k : ℕ) → k < n → p k ≡ q k) → below p n ≡ below q n
below_alike p q zero e = refl
below_alike p q (suc n) e =
    let more : suc n ≡ n + 1 = omega arith in
    ap (below p) more
    ∙ below_more p n
    ∙ ap (λ l. l ++ (if p n then n ∷ [] else [])) (below_alike p q n (λ k h. e k (omega arith)))
    ∙ ap (λ (b : Bool). below q n ++ (if b then n ∷ [] else [])) (e n (omega arith))
    ∙ sym (below_more q n)
    ∙ ap (below q) (sym more)

abbrev pub starts_below : List Bool → ℕ → List ℕ
starts_below marks i = filter (λ k. get_or marks k false) (range_with_len 0 i)

pub start_more : (marks : List Bool) (i : ℕ) → slice_get marks i ≡ Some true → starts_below marks (i + 1) ≡ starts_below marks i ++ i ∷ []
start_more marks i at = below_more (λ k. get_or marks k false) i ∙ ap (λ (b : Bool). starts_below marks i ++ (if b then i ∷ [] else [])) (get_or_from_slice_get marks i true false at)

pub rest_more : (marks : List Bool) (i : ℕ) → slice_get marks i ≡ Some false → starts_below marks (i + 1) ≡ starts_below marks i
rest_more marks i at = below_more (λ k. get_or marks k false) i ∙ ap (λ (b : Bool). starts_below marks i ++ (if b then i ∷ [] else [])) (get_or_from_slice_get marks i false false at) ∙ append-nil (starts_below marks i)

-- the places of the marks of tuples are where their runs begin
pub starts_of_tuples : (tuples : List Tuple) → starts_of (run_marks tuples) ≡ run_starts tuples
starts_of_tuples tuples =
    ap (starts_below (run_marks tuples)) (length_run_marks tuples)
    ∙ below_alike (λ k. get_or (run_marks tuples) k false) (begins tuples) (length tuples) (λ k h. get_or_from_slice_get (run_marks tuples) k (begins tuples k) false (mark_at tuples k h))

-- ---- there is one next start
no_nearer : (marks : List Bool) (after m n : ℕ) → IsNextStart marks after m → IsNextStart marks after n → m < n → ⊥
no_nearer marks after m n a b h =
    let start = a.start (omega (arith, h, b.within)) in
    let none = b.between m a.above h in
    true≢false (Some-injective (sym start ∙ none))
  where
    Some-injective : {x y : Bool} → Some x ≡ Some y → x ≡ y
    Some-injective e = cc

pub one_next : (marks : List Bool) (after m n : ℕ) → IsNextStart marks after m → IsNextStart marks after n → m ≡ n
one_next marks after m n a b = elim (cases_order m n) [
  | inl same ↦ same
  | inr (inl less) ↦ absurd (no_nearer marks after m n a b less)
  | inr (inr more) ↦ absurd (no_nearer marks after n m b a more)
]

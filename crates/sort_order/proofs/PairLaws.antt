-- How many pairs of a bucket and its place are lower than another.
use Rattle.std.proofs.Common.{◌≡◌, ℕ, zero, suc, ◌+◌, ◌-◌, ◌<◌, ◌≤◌, ℤ, pos, Bool, true, false, cond, List, [], ◌∷◌, ◌++◌, length, map, take, drop, get_or, refl, sym, ap, ◌∙◌, append-nil, append_assoc, arith, Some, None, Ok, Less, Equal, Greater, ◌==◌}
use Rattle.std.specs.Prelude.{count_by, nat_lt, slice_get}
use Rattle.std.specs.List.{range_with_len}
use Rattle.std.specs.List.Sorted.{IsPermutation, IsSorted, IsPartitionedBy}
use Rattle.std.specs.Ordering.{is_lt, is_eq, int_eq, int_cmp, nat_cmp, ordering_then}
use Rattle.std.specs.declared.cmp.Ordering.{Ordering}
use Rattle.std.specs.Cmp.{IsStrictWeakOrder}
use Rattle.std.proofs.lemmas.Bool.{false≢true}
use Rattle.std.proofs.lemmas.Bool.Decides.{nat_tests}
use Rattle.std.proofs.lemmas.Cmp.{int_cmp_total, nat_cmp_total, on_total, then_total}
use Rattle.std.proofs.lemmas.List.{take_all, drop_more, drop_all, map-append, length-map}
use Rattle.std.proofs.Math.Path.{fun_ext}
use Rattle.std.proofs.lemmas.List.FromFn.{map-range_with_len_more}
use Rattle.std.proofs.lemmas.List.Sorted.{ranks_by, sorted_far, sum_by-IsPermutation}
use Rattle.control_vectors.specs.Slots.{Slot, Cell, slots_in}
use Rattle.control_vectors.proofs.SlotLaws.{slots_in-append, length-slots_in}
use Rattle.sort_order.specs.Buckets.{bucket, is_lower, is_same, partition_place, partition_slots}
use Rattle.sort_order.specs.Pairs.{pair_cmp, one_pair, pairs_from, lower_pairs, rank_slot}
use Rattle.sort_order.proofs.BucketLaws.{int_cmp_lt}
use Rattle.sort_order.proofs.Counts.{count_yes, count_no}

-- ---- the order of pairs

pair_order : IsStrictWeakOrder (λ (p q : ℤ × ℕ). is_lt (pair_cmp p q))
pair_order = ranks_by (then_total (on_total (λ (p : ℤ × ℕ). p.0) int_cmp_total) (on_total (λ (p : ℤ × ℕ). p.1) nat_cmp_total)) (λ (p : ℤ × ℕ). p)

pub lower_first : (pairs : List (ℤ × ℕ)) (q : ℤ × ℕ) → IsSorted pair_cmp pairs → IsPartitionedBy (λ p. is_lt (pair_cmp p q)) pairs
lower_first pairs q up i j d l h t = by (is_lt (pair_cmp (get_or pairs i d) q)) refl
  where
    by : (b : Bool) → is_lt (pair_cmp (get_or pairs i d) q) ≡ b → is_lt (pair_cmp (get_or pairs i d) q) ≡ true
    by true e = e
    by false e =
        let far = sorted_far (λ (p r : ℤ × ℕ). is_lt (pair_cmp p r)) pair_order pairs up i j d l h in
        absurd (false≢true (sym (pair_order.chain (get_or pairs j d) (get_or pairs i d) q far e) ∙ t))

-- ---- pairs of buckets

pub pairs_more : (buckets : List Slot) (pairs more whole : List (ℤ × ℕ)) (i : ℕ) (b : Slot) → i < length buckets → get_or buckets i None ≡ b → more ≡ pairs ++ one_pair b i → pairs ++ pairs_from i (drop i buckets) ≡ whole → more ++ pairs_from (i + 1) (drop (i + 1) buckets) ≡ whole
pairs_more buckets pairs more whole i b h at m e =
    ap (λ (l : List (ℤ × ℕ)). l ++ pairs_from (i + 1) (drop (i + 1) buckets)) m ∙ append_assoc pairs (one_pair b i) (pairs_from (i + 1) (drop (i + 1) buckets))
    ∙ ap (λ (l : List (ℤ × ℕ)). pairs ++ l) (sym (ap (pairs_from i) (drop_more buckets i None h ∙ ap (λ (s : Slot). s ∷ drop (i + 1) buckets) at) ∙ front b)) ∙ e
  where
    front : (s : Slot) → pairs_from i (s ∷ drop (i + 1) buckets) ≡ one_pair s i ++ pairs_from (i + 1) (drop (i + 1) buckets)
    front None = refl
    front (Some c) = refl

pub pairs_all : (buckets : List Slot) (pairs : List (ℤ × ℕ)) (i : ℕ) → length buckets ≤ i → pairs ++ pairs_from i (drop i buckets) ≡ pairs_from 0 buckets → pairs ≡ pairs_from 0 buckets
pairs_all buckets pairs i h e = sym (append-nil pairs) ∙ sym (ap (λ (l : List Slot). pairs ++ pairs_from i l) (drop_all i buckets h)) ∙ e

-- ---- how many are lower

-- one pair more: lower by its bucket, or of the same bucket and earlier
counted : (o p : Ordering) (t : Bool) (lower same : ℕ) → is_lt p ≡ t → cond (is_lt (ordering_then o p)) 1 0 + (lower + same) ≡ (cond (is_lt o) 1 0 + lower) + (cond t (cond (is_eq o) 1 0) 0 + same)
counted Less p true lower same e = omega arith
counted Less p false lower same e = omega arith
counted Equal p true lower same e = ap (λ (b : Bool). cond b 1 0 + (lower + same)) e ∙ omega arith
counted Equal p false lower same e = ap (λ (b : Bool). cond b 1 0 + (lower + same)) e ∙ omega arith
counted Greater p true lower same e = omega arith
counted Greater p false lower same e = omega arith

count_cons : {X : Type 0} (p : X → Bool) (x : X) (xs : List X) → count_by p (x ∷ xs) ≡ cond (p x) 1 0 + count_by p xs
count_cons p x xs = by (p x) refl
  where
    by : (b : Bool) → p x ≡ b → count_by p (x ∷ xs) ≡ cond b 1 0 + count_by p xs
    by true e = count_yes p x xs e ∙ omega arith
    by false e = count_no p x xs e ∙ omega arith

nat_cmp_lt : (j i : ℕ) → is_lt (nat_cmp j i) ≡ nat_lt j i
nat_cmp_lt j i = by (nat_lt j i) (j == i)
  where
    by : (s t : Bool) → is_lt (cond s Less (cond t Equal Greater)) ≡ s
    by true t = refl
    by false true = refl
    by false false = refl

-- the same part of a list that has one element before it
same_part : (p : Slot → Bool) (i j : ℕ) (s : Slot) (bs : List Slot) → count_by p (take (i - j) (s ∷ bs)) ≡ cond (nat_lt j i) (cond (p s) 1 0) 0 + count_by p (take (i - (j + 1)) bs)
same_part p i j s bs = by (i - j) refl
  where
    by : (k : ℕ) → i - j ≡ k → count_by p (take k (s ∷ bs)) ≡ cond (nat_lt j i) (cond (p s) 1 0) 0 + count_by p (take (i - (j + 1)) bs)
    by zero e =
        let late : nat_lt j i ≡ false = grind (arith, nat_tests) in
        let none : i - (j + 1) ≡ 0 = omega arith in
        rw (late, none) refl
    by (suc m) e =
        let early : nat_lt j i ≡ true = grind (arith, nat_tests) in
        let one : i - (j + 1) ≡ m = omega arith in
        rw (early, one) (count_cons p s (take m bs))

nothing_more : (p : Slot → Bool) (i j : ℕ) (bs : List Slot) → p None ≡ false → count_by p (take (i - j) (None ∷ bs)) ≡ count_by p (take (i - (j + 1)) bs)
nothing_more p i j bs e = same_part p i j None bs ∙ by (nat_lt j i)
  where
    by : (t : Bool) → cond t (cond (p None) 1 0) 0 + count_by p (take (i - (j + 1)) bs) ≡ count_by p (take (i - (j + 1)) bs)
    by true = ap (λ (u : Bool). cond u 1 0 + count_by p (take (i - (j + 1)) bs)) e ∙ omega arith
    by false = omega arith

counted_from : (b : ℤ) (i j : ℕ) (bs : List Slot) → lower_pairs (pairs_from j bs) b i ≡ count_by (is_lower b) bs + count_by (is_same b) (take (i - j) bs)
counted_from b i j [] = let none : take {A = Slot} (i - j) [] ≡ [] = take_all (i - j) [] (omega arith) in rw none refl
counted_from b i j (None ∷ bs) =
    counted_from b i (j + 1) bs
    ∙ ap (λ n. n + count_by (is_same b) (take (i - (j + 1)) bs)) (sym (count_no (is_lower b) None bs refl))
    ∙ ap (λ n. count_by (is_lower b) (None ∷ bs) + n) (sym (nothing_more (is_same b) i j bs refl))
counted_from b i j (Some c ∷ bs) =
    let lower = count_by (is_lower b) bs in
    let same = count_by (is_same b) (take (i - (j + 1)) bs) in
    count_cons (λ (p : ℤ × ℕ). is_lt (pair_cmp p (b, i))) (c, j) (pairs_from (j + 1) bs)
    ∙ ap (λ n. cond (is_lt (pair_cmp (c, j) (b, i))) 1 0 + n) (counted_from b i (j + 1) bs)
    ∙ counted (int_cmp c b) (nat_cmp j i) (nat_lt j i) lower same (nat_cmp_lt j i)
    ∙ ap (λ (t : Bool). (cond t 1 0 + lower) + (cond (nat_lt j i) (cond (int_eq c b) 1 0) 0 + same)) (int_cmp_lt c b)
    ∙ ap (λ n. n + (cond (nat_lt j i) (cond (int_eq c b) 1 0) 0 + same)) (sym (count_cons (is_lower b) (Some c) bs))
    ∙ ap (λ n. count_by (is_lower b) (Some c ∷ bs) + n) (sym (same_part (is_same b) i j (Some c) bs))

-- ---- ranks are the places of Partition

rank_is : (buckets : List Slot) (pairs : List (ℤ × ℕ)) (i : ℕ) (s : Slot) → IsPermutation (pairs_from 0 buckets) pairs → rank_slot pairs s i ≡ partition_place buckets i s
rank_is buckets pairs i None h = refl
rank_is buckets pairs i (Some b) h =
    let first : i - 0 ≡ i = omega arith in
    ap (λ n. Some (pos n))
    (sum_by-IsPermutation (λ (p : ℤ × ℕ). cond (is_lt (pair_cmp p (b, i))) 1 0) (pairs_from 0 buckets) pairs h ∙ counted_from b i 0 buckets ∙ ap (λ n. count_by (is_lower b) buckets + count_by (is_same b) (take n buckets)) first)

pub ranks_are : (buckets : List Slot) (pairs : List (ℤ × ℕ)) (slots : List Slot) (n : ℕ) → IsPermutation (pairs_from 0 buckets) pairs → n ≡ length buckets → slots ≡ map (λ i. rank_slot pairs (get_or buckets i None) i) (range_with_len 0 n) → slots ≡ partition_slots buckets
ranks_are buckets pairs slots n h m e =
    e ∙ ap (λ (f : ℕ → Slot). map f (range_with_len 0 n)) (fun_ext (λ i. rank_is buckets pairs i (get_or buckets i None) h))
    ∙ ap (λ k. map (λ i. partition_place buckets i (get_or buckets i None)) (range_with_len 0 k)) m

pub slots_more : (f : ℕ → Slot) (slots more : List Slot) (i : ℕ) (s : Slot) → more ≡ slots ++ s ∷ [] → slots ≡ map f (range_with_len 0 i) → s ≡ f i → more ≡ map f (range_with_len 0 (i + 1))
slots_more f slots more i s m e at =
    m ∙ ap (λ (l : List Slot). l ++ s ∷ []) e ∙ ap (λ (t : Slot). map f (range_with_len 0 i) ++ t ∷ []) at ∙ sym (map-range_with_len_more f 0 i i (omega arith))

-- ---- the buckets of keys

take_get : {A : Type 0} (xs : List A) (i : ℕ) (x : A) → slice_get xs i ≡ Some x → take (i + 1) xs ≡ take i xs ++ x ∷ []
take_get [] i x e = absurd cc
take_get (y ∷ xs) zero x e = let same : y ≡ x = cc in ap (λ z. z ∷ []) same
take_get (y ∷ xs) (suc i) x e =
    let next : suc i + 1 ≡ suc (i + 1) = omega arith in rw next (ap (λ l. y ∷ l) (take_get xs i x e))

pub buckets_more : (pivots : List ℤ) (cells : List Cell) (buckets more : List Slot) (i : ℕ) (s b : Slot) → more ≡ buckets ++ b ∷ [] → b ≡ bucket pivots s → slice_get cells i ≡ Some (Ok s) → buckets ≡ map (bucket pivots) (slots_in (take i cells)) → more ≡ map (bucket pivots) (slots_in (take (i + 1) cells))
buckets_more pivots cells buckets more i s b m is at e =
    m ∙ ap (λ (l : List Slot). l ++ b ∷ []) e ∙ ap (λ (t : Slot). map (bucket pivots) (slots_in (take i cells)) ++ t ∷ []) is
    ∙ sym (ap (λ (l : List Cell). map (bucket pivots) (slots_in l)) (take_get cells i (Ok s) at) ∙ ap (map (bucket pivots)) (slots_in-append (take i cells) (Ok s ∷ [])) ∙ map-append (bucket pivots) (slots_in (take i cells)) (s ∷ []))

pub buckets_all : (pivots : List ℤ) (cells : List Cell) (buckets : List Slot) (i : ℕ) → length cells ≤ i → buckets ≡ map (bucket pivots) (slots_in (take i cells)) → buckets ≡ map (bucket pivots) (slots_in cells)
buckets_all pivots cells buckets i h e = e ∙ ap (λ (l : List Cell). map (bucket pivots) (slots_in l)) (take_all i cells h)

pub buckets_few : (pivots : List ℤ) (cells : List Cell) (buckets : List Slot) (n : ℕ) → length cells ≤ n → buckets ≡ map (bucket pivots) (slots_in cells) → length buckets ≤ n
buckets_few pivots cells buckets n h e = omega (arith, ap (λ (l : List Slot). length l) e, length-map (slots_in cells) (bucket pivots), length-slots_in cells)

-- Dictionaries: their order, the codes of their texts, and what a search among them finds.
use Rattle.std.proofs.Common.{Ordering, ◌≡◌, ◌∙◌, ℕ, zero, suc, ◌+◌, ◌-◌, ◌<◌, ◌≤◌, Bool, true, false, List, [], length, take, get_or, refl, sym, ap, Ok, Err, ◌⊎◌, inl, inr, arith, add-one}
use Rattle.std.specs.declared.cmp.Ordering.TheVariants.{Less, Equal, Greater}
use Rattle.std.specs.Ordering.{is_lt, is_eq, ordering_reverse, ordering_index}
use Rattle.std.specs.List.{count_by}
use Rattle.std.specs.List.Sorted.{IsBinarySearchResult, IsNonDecreasingBy, IsStrictlySortedBy}
use Rattle.std.specs.Str.{bytes_eq}
use Rattle.std.proofs.lemmas.Bool.{cases_lt}
use Rattle.std.proofs.lemmas.Cmp.{nat_list_cmp_total, alike_right}
use Rattle.std.proofs.lemmas.List.{take_all}
use Rattle.std.proofs.lemmas.List.Sums.{count_by_more_no, count_by_more_yes}
use Rattle.std.proofs.lemmas.List.Folds.{list_any_at, list_any_none}
use Rattle.std.proofs.lemmas.List.Sorted.{searchable_from_sorted}
use Rattle.std.proofs.lemmas.Map.Keys.{Less-from_sorted, sorted_from_all_adjacent}
use Rattle.std.proofs.lemmas.Map.Text.{is_eq-slice_cmp}
use Rattle.sql_values.specs.Texts.{by_bytes, is_below}
use Rattle.dict_codes.specs.Dictionaries.{is_among, IsAscending, rank_in}

pub lt_less : (c : Ordering) → is_lt c ≡ true → c ≡ Less
lt_less Less h = refl
lt_less Equal h = absurd (cc)
lt_less Greater h = absurd (cc)

eq_equal : (c : Ordering) → is_eq c ≡ true → c ≡ Equal
eq_equal Less h = absurd (cc)
eq_equal Equal h = refl
eq_equal Greater h = absurd (cc)

pub sorted_from_ascending : (texts : List (List ℕ)) → IsAscending texts → IsStrictlySortedBy by_bytes texts
sorted_from_ascending texts h = sorted_from_all_adjacent nat_list_cmp_total texts [] (λ k l. lt_less _ (h k (k + 1) [] (omega arith) l))

pub ascending_from_sorted : (texts : List (List ℕ)) → IsStrictlySortedBy by_bytes texts → IsAscending texts
ascending_from_sorted texts s i j d a b = ap is_lt (Less-from_sorted by_bytes texts i j d s a b)

-- ---- how many are below

counted_to : {X : Type 0} (p : X → Bool) (xs : List X) (d : X) (i k : ℕ) → i ≤ length xs → ((j : ℕ) → j < i → p (get_or xs j d) ≡ true) → k ≤ i → count_by p (take k xs) ≡ k
counted_to p xs d i zero h f l = refl
counted_to p xs d i (suc k) h f l =
    let step = count_by_more_yes p xs k d (omega arith) (f k (omega arith)) in
    let rest = counted_to p xs d i k h f (omega arith) in
    rw (← add-one k, step, rest) refl

counted_past : {X : Type 0} (p : X → Bool) (xs : List X) (d : X) (i m : ℕ) → i + m ≤ length xs → ((j : ℕ) → j < i → p (get_or xs j d) ≡ true) → ((j : ℕ) → i ≤ j → j < length xs → p (get_or xs j d) ≡ false)
    → count_by p (take (i + m) xs) ≡ i
counted_past p xs d i zero h f g = ap (λ n. count_by p (take n xs)) (omega arith) ∙ counted_to p xs d i i (omega arith) f (omega arith)
counted_past p xs d i (suc m) h f g =
    let more : i + suc m ≡ (i + m) + 1 = omega arith in
    let step = count_by_more_no p xs (i + m) d (omega arith) (g (i + m) (omega arith) (omega arith)) in
    rw more (step ∙ counted_past p xs d i m (omega arith) f g)

-- where the first i elements pass a test and the others fail it, i pass
pub count_at : {X : Type 0} (p : X → Bool) (xs : List X) (d : X) (i : ℕ) → i ≤ length xs → ((j : ℕ) → j < i → p (get_or xs j d) ≡ true) → ((j : ℕ) → i ≤ j → j < length xs → p (get_or xs j d) ≡ false) → count_by p xs ≡ i
count_at p xs d i h f g =
    let all : i + (length xs - i) ≡ length xs = omega arith in
    ap (count_by p) (sym (take_all (length xs) xs (omega arith))) ∙ ap (λ n. count_by p (take n xs)) (sym all) ∙ counted_past p xs d i (length xs - i) (omega arith) f g

-- ---- a search

found_before : (a b t : List ℕ) → by_bytes a b ≡ Less → by_bytes b t ≡ Equal → is_lt (by_bytes a t) ≡ true
found_before a b t l e = ap is_lt (sym (alike_right nat_list_cmp_total b t a e) ∙ l)

found_behind : (a b t : List ℕ) → by_bytes b a ≡ Less → by_bytes b t ≡ Equal → is_lt (by_bytes a t) ≡ false
found_behind a b t l e = ap is_lt (sym (alike_right nat_list_cmp_total b t a e) ∙ (nat_list_cmp_total.antisymm a b ∙ ap ordering_reverse l))

pub rank_at : (texts : List (List ℕ)) (t : List ℕ) (i : ℕ) → IsStrictlySortedBy by_bytes texts → i < length texts → by_bytes (get_or texts i []) t ≡ Equal → rank_in texts t ≡ i
rank_at texts t i s h e =
    count_at (λ x. is_below x t) texts [] i (omega arith)
    (λ j l. found_before (get_or texts j []) (get_or texts i []) t (Less-from_sorted by_bytes texts j i [] s l h) e)
    (λ j l m. by_place j l m (cases_lt i j))
  where
    by_place : (j : ℕ) → i ≤ j → j < length texts → (i < j) ⊎ (j ≤ i) → is_lt (by_bytes (get_or texts j []) t) ≡ false
    by_place j l m (inl after) = found_behind (get_or texts j []) (get_or texts i []) t (Less-from_sorted by_bytes texts i j [] s after m) e
    by_place j l m (inr same) = let same : j ≡ i = omega arith in rw same (ap is_lt e)

equal_texts : (a t : List ℕ) → by_bytes a t ≡ Equal → bytes_eq t a ≡ true
equal_texts a t e = sym (is_eq-slice_cmp t a) ∙ ap is_eq (nat_list_cmp_total.antisymm t a ∙ ap ordering_reverse e)

other_texts : (a t : List ℕ) (c : Ordering) → by_bytes a t ≡ c → is_eq c ≡ false → bytes_eq t a ≡ false
other_texts a t Less e n = sym (is_eq-slice_cmp t a) ∙ ap is_eq (nat_list_cmp_total.antisymm t a ∙ ap ordering_reverse e)
other_texts a t Equal e n = absurd (cc)
other_texts a t Greater e n = sym (is_eq-slice_cmp t a) ∙ ap is_eq (nat_list_cmp_total.antisymm t a ∙ ap ordering_reverse e)

pub among_at : (texts : List (List ℕ)) (t : List ℕ) (i : ℕ) → i < length texts → by_bytes (get_or texts i []) t ≡ Equal → is_among texts t ≡ true
among_at texts t i h e = list_any_at (bytes_eq t) texts i [] h (equal_texts (get_or texts i []) t e)

searchable : (texts : List (List ℕ)) (t : List ℕ) → IsStrictlySortedBy by_bytes texts → IsNonDecreasingBy (λ y. ordering_index (by_bytes y t)) texts
searchable texts t s = searchable_from_sorted nat_list_cmp_total (λ x. x) texts t (λ k d l h. not_less (get_or texts k d) (get_or texts (k + 1) d) (Less-from_sorted by_bytes texts k (k + 1) d s (omega arith) h))
  where
    not_less : (a b : List ℕ) → by_bytes a b ≡ Less → is_lt (by_bytes b a) ≡ false
    not_less a b e = ap is_lt (nat_list_cmp_total.antisymm b a ∙ ap ordering_reverse e)

-- what a search says of the place that it found, and of the place where it found none
pub found_at : (texts : List (List ℕ)) (t : List ℕ) (i : ℕ) → IsStrictlySortedBy by_bytes texts → i < length texts → IsBinarySearchResult (λ y. by_bytes y t) texts (Ok i) → (i ≡ rank_in texts t) × (true ≡ is_among texts t)
found_at texts t i s h r = (sym (rank_at texts t i s h (r [])), sym (among_at texts t i h (r [])))

pub missing_at : (texts : List (List ℕ)) (t : List ℕ) (i : ℕ) → IsStrictlySortedBy by_bytes texts → i ≤ length texts → IsBinarySearchResult (λ y. by_bytes y t) texts (Err i) → (i ≡ rank_in texts t) × (false ≡ is_among texts t)
missing_at texts t i s h r =
    let parts = r (searchable texts t s) in (
      sym (count_at (λ x. is_below x t) texts [] i h (λ j l. ap is_lt (parts.0 j [] (omega arith) l)) (λ j l m. ap is_lt (parts.1 j [] l m))),
      sym (list_any_none (bytes_eq t) texts (λ j d m. by_place j d m (cases_lt j i))),
    )
  where
    by_place : (j : ℕ) (d : List ℕ) → j < length texts → (j < i) ⊎ (i ≤ j) → bytes_eq t (get_or texts j d) ≡ false
    by_place j d m (inl before) = other_texts (get_or texts j d) t Less ((r (searchable texts t s)).0 j d (omega arith) before) refl
    by_place j d m (inr behind) = other_texts (get_or texts j d) t Greater ((r (searchable texts t s)).1 j d behind m) refl

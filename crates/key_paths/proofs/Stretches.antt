-- The paths at or below a path are one stretch of an ascending list of paths.
use Rattle.std.proofs.Common.{◌≡◌, ℕ, suc, ◌+◌, ◌-◌, ◌≤◌, ◌<◌, Bool, true, false, List, [], ◌∷◌, ◌++◌, length, take, drop, get_or, refl, ap, sym, ◌∙◌, arith}
use Rattle.std.specs.Prelude.{slice_range}
use Rattle.std.specs.List.{All, AllPairs, filter, count_by}
use Rattle.std.proofs.lemmas.List.Sums.{sum_by-cons, sum_by_push}
use Rattle.std.proofs.lemmas.List.{length_push, take_all, take_more}
use Rattle.std.specs.Prelude.{if◌then◌else◌}
use Rattle.std.proofs.lemmas.List.Elements.{All-cons, All-push}
use Rattle.key_paths.specs.Paths.{IsPath}
use Rattle.key_paths.specs.Substructures.{is_at_or_below, is_before, IsAscending}
use Rattle.key_paths.proofs.Bools.{no_true}
use Rattle.key_paths.proofs.Orders.{below_not_before, below_between, before_trans}

-- ---- counts and filters of a list with one element more

count_yes : {X : Type 0} (p : X → Bool) (x : X) (xs : List X) → p x ≡ true → count_by p (x ∷ xs) ≡ suc (count_by p xs)
count_yes p x xs h = sum_by-cons (λ y. if p y then 1 else 0) x xs ∙ rw h (omega arith)

count_no : {X : Type 0} (p : X → Bool) (x : X) (xs : List X) → p x ≡ false → count_by p (x ∷ xs) ≡ count_by p xs
count_no p x xs h = sum_by-cons (λ y. if p y then 1 else 0) x xs ∙ rw h (omega arith)

filter_yes : {X : Type 0} (p : X → Bool) (x : X) (xs : List X) → p x ≡ true → filter p (x ∷ xs) ≡ x ∷ filter p xs
filter_yes p x xs h = rw h refl

filter_no : {X : Type 0} (p : X → Bool) (x : X) (xs : List X) → p x ≡ false → filter p (x ∷ xs) ≡ filter p xs
filter_no p x xs h = rw h refl

pub all_head : {X : Type 0} (P : X → Type 0) (x : X) (xs : List X) → All P (x ∷ xs) → P x
all_head P x xs h = h 0 x (omega arith)

pub all_tail : {X : Type 0} (P : X → Type 0) (x : X) (xs : List X) → All P (x ∷ xs) → All P xs
all_tail P x xs h = λ k d l. h (suc k) d (omega arith)

pub pairs_head : {X : Type 0} (R : X → X → Type 0) (x : X) (xs : List X) → AllPairs R (x ∷ xs) → All (R x) xs
pairs_head R x xs h = λ k d l. h 0 (suc k) d (omega arith) (omega arith)

pub pairs_tail : {X : Type 0} (R : X → X → Type 0) (x : X) (xs : List X) → AllPairs R (x ∷ xs) → AllPairs R xs
pairs_tail R x xs h = λ i j d l m. h (suc i) (suc j) d (omega arith) (omega arith)

none_counted : {X : Type 0} (p : X → Bool) (xs : List X) → All (λ x. p x ≡ false) xs → count_by p xs ≡ 0
none_counted p [] h = refl
none_counted p (x ∷ xs) h = count_no p x xs (all_head (λ y. p y ≡ false) x xs h) ∙ none_counted p xs (all_tail (λ y. p y ≡ false) x xs h)

none_kept : {X : Type 0} (p : X → Bool) (xs : List X) → All (λ x. p x ≡ false) xs → filter p xs ≡ []
none_kept p [] h = refl
none_kept p (x ∷ xs) h = filter_no p x xs (all_head (λ y. p y ≡ false) x xs h) ∙ none_kept p xs (all_tail (λ y. p y ≡ false) x xs h)

not_true : (b : Bool) → (b ≡ true → ⊥) → b ≡ false
not_true true h = absurd (h refl)
not_true false h = refl

-- ---- the stretch

pub ascending_head : (x : List ℕ) (xs : List (List ℕ)) → IsAscending (x ∷ xs) → All (λ y. is_before x y ≡ true) xs
ascending_head x xs up = pairs_head (λ p q. is_before p q ≡ true) x xs up

pub ascending_tail : (x : List ℕ) (xs : List (List ℕ)) → IsAscending (x ∷ xs) → IsAscending xs
ascending_tail x xs up = pairs_tail (λ p q. is_before p q ≡ true) x xs up

-- where no path comes before the prefix, those at or below it come first
front_part : (above : List ℕ) (xs : List (List ℕ)) → IsAscending xs → All IsPath xs → All (λ x. is_before x above ≡ false) xs → take (count_by (λ p. is_at_or_below p above) xs) xs ≡ filter (λ p. is_at_or_below p above) xs
front_part above [] up paths past = refl
front_part above (x ∷ xs) up paths past = front_case above x xs (is_at_or_below x above) refl up paths past (front_part above xs (ascending_tail x xs up) (all_tail IsPath x xs paths) (all_tail (λ y. is_before y above ≡ false) x xs past))
  where
    front_case : (above x : List ℕ) (xs : List (List ℕ)) (m : Bool) → is_at_or_below x above ≡ m → IsAscending (x ∷ xs) → All IsPath (x ∷ xs) → All (λ y. is_before y above ≡ false) (x ∷ xs) → take (count_by (λ p. is_at_or_below p above) xs) xs ≡ filter (λ p. is_at_or_below p above) xs → take (count_by (λ p. is_at_or_below p above) (x ∷ xs)) (x ∷ xs) ≡ filter (λ p. is_at_or_below p above) (x ∷ xs)
    front_case above x xs true e up paths past ih = rw (count_yes (λ p. is_at_or_below p above) x xs e, filter_yes (λ p. is_at_or_below p above) x xs e) (ap (λ (l : List (List ℕ)). x ∷ l) ih)
    front_case above x xs false e up paths past ih =
        let later : All (λ y. is_at_or_below y above ≡ false) xs = λ k d l.
        not_true _ (λ t. no_true e (below_between above x (get_or xs k d) (all_head IsPath x xs paths) (all_head (λ y. is_before y above ≡ false) x xs past) (ascending_head x xs up k d l) t)) in
        rw (count_no (λ p. is_at_or_below p above) x xs e, filter_no (λ p. is_at_or_below p above) x xs e, none_counted (λ p. is_at_or_below p above) xs later, none_kept (λ p. is_at_or_below p above) xs later) refl

pub stretch : (above : List ℕ) (xs : List (List ℕ)) → IsAscending xs → All IsPath xs → take (count_by (λ p. is_at_or_below p above) xs) (drop (count_by (λ p. is_before p above) xs) xs) ≡ filter (λ p. is_at_or_below p above) xs
stretch above [] up paths = refl
stretch above (x ∷ xs) up paths = stretch_case above x xs (is_before x above) refl up paths (stretch above xs (ascending_tail x xs up) (all_tail IsPath x xs paths))
  where
    stretch_case : (above x : List ℕ) (xs : List (List ℕ)) (b : Bool) → is_before x above ≡ b → IsAscending (x ∷ xs) → All IsPath (x ∷ xs) → take (count_by (λ p. is_at_or_below p above) xs) (drop (count_by (λ p. is_before p above) xs) xs) ≡ filter (λ p. is_at_or_below p above) xs → take (count_by (λ p. is_at_or_below p above) (x ∷ xs)) (drop (count_by (λ p. is_before p above) (x ∷ xs)) (x ∷ xs)) ≡ filter (λ p. is_at_or_below p above) (x ∷ xs)
    stretch_case above x xs true e up paths ih =
        let out : is_at_or_below x above ≡ false = not_true _ (λ t. no_true (below_not_before x above (all_head IsPath x xs paths) t) e) in
        rw (count_yes (λ p. is_before p above) x xs e, count_no (λ p. is_at_or_below p above) x xs out, filter_no (λ p. is_at_or_below p above) x xs out) ih
    stretch_case above x xs false e up paths ih =
        let later : All (λ y. is_before y above ≡ false) xs = λ k d l.
        not_true _ (λ t. no_true e (before_trans x (get_or xs k d) above (ascending_head x xs up k d l) t)) in
        let none = All-cons (λ y. is_before y above ≡ false) x xs e later in
        rw (none_counted (λ p. is_before p above) (x ∷ xs) none) (front_part above (x ∷ xs) up paths none)

pub range_is : (above : List ℕ) (xs : List (List ℕ)) (from count : ℕ) → IsAscending xs → All IsPath xs → from ≡ count_by (λ p. is_before p above) xs → count ≡ count_by (λ p. is_at_or_below p above) xs → slice_range xs from (from + count) ≡ filter (λ p. is_at_or_below p above) xs
range_is above xs from count up paths f c =
    let width : from + count - from ≡ count = omega arith in
    ap (λ n. take n (drop from xs)) width ∙ (ap (λ n. take n (drop from xs)) c ∙ (ap (λ n. take (count_by (λ p. is_at_or_below p above) xs) (drop n xs)) f ∙ stretch above xs up paths))

-- ---- counting them one by one

-- what is known of the paths that were seen
pub record Counted (above : List ℕ) (seen : List (List ℕ)) (from count : ℕ) : Type 0 where
  pub from_is : from ≡ count_by (λ p. is_before p above) seen
  pub count_is : count ≡ count_by (λ p. is_at_or_below p above) seen
  pub both : from + count ≤ length seen
  pub are_paths : All IsPath seen

push_yes : (p : List ℕ → Bool) (xs : List (List ℕ)) (x : List ℕ) → p x ≡ true → count_by p (xs ++ x ∷ []) ≡ count_by p xs + 1
push_yes p xs x h = sum_by_push (λ y. if p y then 1 else 0) xs x ∙ rw h refl

push_no : (p : List ℕ → Bool) (xs : List (List ℕ)) (x : List ℕ) → p x ≡ false → count_by p (xs ++ x ∷ []) ≡ count_by p xs
push_no p xs x h = sum_by_push (λ y. if p y then 1 else 0) xs x ∙ rw h (omega arith)

pub counted_below : (above x : List ℕ) (seen : List (List ℕ)) (from count : ℕ) → Counted above seen from count → IsPath x → is_at_or_below x above ≡ true → Counted above (seen ++ x ∷ []) from (count + 1)
counted_below above x seen from count h path b = record {
  from_is = h.from_is ∙ sym (push_no (λ p. is_before p above) seen x (below_not_before x above path b));
  count_is = ap (λ n. n + 1) h.count_is ∙ sym (push_yes (λ p. is_at_or_below p above) seen x b);
  both = let both = h.both in omega (arith, length_push seen x);
  are_paths = All-push IsPath seen x h.are_paths path;
}

pub counted_before : (above x : List ℕ) (seen : List (List ℕ)) (from count : ℕ) → Counted above seen from count → IsPath x → is_at_or_below x above ≡ false → is_before x above ≡ true → Counted above (seen ++ x ∷ []) (from + 1) count
counted_before above x seen from count h path b l = record {
  from_is = ap (λ n. n + 1) h.from_is ∙ sym (push_yes (λ p. is_before p above) seen x l);
  count_is = h.count_is ∙ sym (push_no (λ p. is_at_or_below p above) seen x b);
  both = let both = h.both in omega (arith, length_push seen x);
  are_paths = All-push IsPath seen x h.are_paths path;
}

pub counted_after : (above x : List ℕ) (seen : List (List ℕ)) (from count : ℕ) → Counted above seen from count → IsPath x → is_at_or_below x above ≡ false → is_before x above ≡ false → Counted above (seen ++ x ∷ []) from count
counted_after above x seen from count h path b l = record {
  from_is = h.from_is ∙ sym (push_no (λ p. is_before p above) seen x l);
  count_is = h.count_is ∙ sym (push_no (λ p. is_at_or_below p above) seen x b);
  both = let both = h.both in omega (arith, length_push seen x);
  are_paths = All-push IsPath seen x h.are_paths path;
}

-- one path more is seen
pub seen_more : (xs : List (List ℕ)) (i : ℕ) (x : List ℕ) → i < length xs → x ≡ get_or xs i x → take (i + 1) xs ≡ take i xs ++ x ∷ []
seen_more xs i x h e = take_more xs i x h ∙ ap (λ (y : List ℕ). take i xs ++ y ∷ []) (sym e)

pub all_seen : (above : List ℕ) (xs : List (List ℕ)) (i from count : ℕ) → length xs ≤ i → i ≤ length xs → Counted above (take i xs) from count → Counted above xs from count
all_seen above xs i from count h k c = let same : i ≡ length xs = omega arith in rw (same, take_all (length xs) xs (omega arith)) at c

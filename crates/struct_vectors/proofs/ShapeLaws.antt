-- Attributes that may make a vector: their lengths, and neighbours that clash.
use Rattle.std.proofs.Common.{◌≡◌, ◌≢◌, ℕ, ◌+◌, ◌<◌, ◌≤◌, true, false, List, [], ◌∷◌, ◌++◌, length, get_or, take, refl, ap, sym, ◌∙◌, arith, inl, inr}
use Rattle.std.specs.Prelude.{Some, slice_get}
use Rattle.std.specs.Option.{option_map}
use Rattle.std.specs.List.{remove}
use Rattle.std.proofs.lemmas.Bool.{cases_lt, false≢true}
use Rattle.std.proofs.lemmas.List.{take_more, length-map, length-take-le, get_or-take, get_or_default}
use Rattle.std.proofs.lemmas.List.Edits.{get_or-remove_below}
use Rattle.std.proofs.lemmas.List.Elements.{All-push}
use Rattle.std.proofs.lemmas.Option.{slice_get-map, slice_get_read, slice_get_within, same_Some, get_or_from_slice_get}
use Rattle.std.specs.Str.{bytes_eq}
use Rattle.std.proofs.lemmas.Slice.Eq.{bytes_eq-Decides}
use Rattle.key_paths.specs.Substructures.{is_at_or_below}
use Rattle.struct_vectors.specs.Columns.{ColumnValue}
use Rattle.struct_vectors.specs.Vectors.{paths_of, HaveLength, IsFirstOther, ClashAt, HasNoClash, IsClashAt}

take_all : {X : Type 0} (xs : List X) → take (length xs) xs ≡ xs
take_all [] = refl
take_all (x ∷ xs) = ap (λ (l : List _). x ∷ l) (take_all xs)

-- the path at a place
pub path_at : (xs : List (List ℕ × ColumnValue)) (i : ℕ) (a : List ℕ × ColumnValue) → i < length xs → a ≡ get_or xs i a → slice_get (paths_of xs) i ≡ Some a.0
path_at xs i a h e = slice_get-map (λ (b : List ℕ × ColumnValue). b.0) xs i ∙ ap (option_map (λ (b : List ℕ × ColumnValue). b.0)) (slice_get_read xs (length xs) i a refl h e)

pub path_of_at : (xs : List (List ℕ × ColumnValue)) (i : ℕ) (d : List ℕ × ColumnValue) → i < length xs → slice_get (paths_of xs) i ≡ Some (get_or xs i d).0
path_of_at xs i d h = path_at xs i (get_or xs i d) h (get_or_default xs i d (get_or xs i d) h)

pub length-paths_of : (xs : List (List ℕ × ColumnValue)) → length (paths_of xs) ≡ length xs
length-paths_of xs = length-map xs (λ (b : List ℕ × ColumnValue). b.0)

-- ---- attributes of one length

pub long_more : (n : ℕ) (xs : List (List ℕ × ColumnValue)) (i : ℕ) (a : List ℕ × ColumnValue) → i < length xs → a ≡ get_or xs i a → HaveLength n (take i xs) → length a.1.slots ≡ n → HaveLength n (take (i + 1) xs)
long_more n xs i a h e u l =
    let more : take (i + 1) xs ≡ take i xs ++ a ∷ [] = take_more xs i a h ∙ ap (λ (b : List ℕ × ColumnValue). take i xs ++ b ∷ []) (sym e) in
    rw more (All-push (λ (b : List ℕ × ColumnValue). length b.1.slots ≡ n) (take i xs) a u l)

pub first_other : (n : ℕ) (xs : List (List ℕ × ColumnValue)) (i : ℕ) (a : List ℕ × ColumnValue) → i < length xs → a ≡ get_or xs i a → HaveLength n (take i xs) → length a.1.slots ≢ n → IsFirstOther n xs i
first_other n xs i a h e u other = record {
  before = λ k b l at. rw (sym (get_or-take i xs k b l ∙ get_or_from_slice_get xs k b b at)) (u k b (omega (arith, length-take-le i xs (omega arith))));
  attribute = a;
  at = slice_get_read xs (length xs) i a refl h e;
  other = other;
}

-- ---- neighbours that clash

pub clash_absent : (xs : List (List ℕ × ColumnValue)) (i j : ℕ) (a b : List ℕ × ColumnValue) → j + 1 ≡ i → i < length xs → false ≡ is_at_or_below (get_or xs i a).0 (get_or xs j b).0 → ¬ ClashAt (paths_of xs) j
clash_absent xs i j a b e h apart c =
    let former : c.former ≡ (get_or xs j b).0 = same_Some _ _ (sym c.former_is ∙ path_of_at xs j b (omega arith)) in
    let latter : c.latter ≡ (get_or xs i a).0 = same_Some _ _ (sym c.latter_is ∙ (ap (slice_get (paths_of xs)) e ∙ path_of_at xs i a h)) in
    false≢true (apart ∙ (ap (λ (p : List ℕ). is_at_or_below p (get_or xs j b).0) (sym latter) ∙ (ap (is_at_or_below c.latter) (sym former) ∙ c.below)))

pub clash_here : (xs : List (List ℕ × ColumnValue)) (i j : ℕ) (a b : List ℕ × ColumnValue) → j + 1 ≡ i → i < length xs → true ≡ is_at_or_below (get_or xs i a).0 (get_or xs j b).0 → ClashAt (paths_of xs) j
clash_here xs i j a b e h below = record {
  former = (get_or xs j b).0;
  latter = (get_or xs i a).0;
  former_is = path_of_at xs j b (omega arith);
  latter_is = ap (slice_get (paths_of xs)) e ∙ path_of_at xs i a h;
  below = sym below;
}

pub first_clash_at : (xs : List (List ℕ × ColumnValue)) (i j : ℕ) (a b : List ℕ × ColumnValue) → j + 1 ≡ i → i < length xs → true ≡ is_at_or_below (get_or xs i a).0 (get_or xs j b).0 → ((k : ℕ) → k + 1 < i → ¬ ClashAt (paths_of xs) k) → IsClashAt (paths_of xs) j
first_clash_at xs i j a b e h below before = record { before = λ k l. before k (omega arith); clash = clash_here xs i j a b e h below }

pub no_clash_more : (paths : List (List ℕ)) (i j : ℕ) → j + 1 ≡ i → ((k : ℕ) → k + 1 < i → ¬ ClashAt paths k) → ¬ ClashAt paths j → (k : ℕ) → k + 1 < i + 1 → ¬ ClashAt paths k
no_clash_more paths i j e before here k h =
    elim (cases_lt (k + 1) i) [ inl l ↦ before k l | inr l ↦ let same : k ≡ j = omega arith in rw same here ]

pub no_clash_all : (xs : List (List ℕ × ColumnValue)) (i : ℕ) → length xs ≤ i → ((k : ℕ) → k + 1 < i → ¬ ClashAt (paths_of xs) k) → HasNoClash (paths_of xs)
no_clash_all xs i h before k c =
    let within : k + 1 < length (paths_of xs) = slice_get_within (paths_of xs) (k + 1) c.latter c.latter_is in
    before k (omega (arith, length-paths_of xs)) c

-- ---- the neighbours at a place, taken out

pub path_before_removed : (xs ys : List (List ℕ × ColumnValue)) (i : ℕ) (a : List ℕ × ColumnValue) → i + 1 < length xs → ys ≡ remove xs (i + 1) → a ≡ get_or ys i a → slice_get (paths_of xs) i ≡ Some a.0
path_before_removed xs ys i a h e ea = path_at xs i a (omega arith) (ea ∙ (ap (λ (l : List (List ℕ × ColumnValue)). get_or l i a) e ∙ get_or-remove_below xs (i + 1) a i (omega arith) h))

-- two paths that a test tells apart
pub apart_from_test : (p q : List ℕ) → false ≡ bytes_eq p q → q ≢ p
apart_from_test p q e same = false≢true (e ∙ (bytes_eq-Decides p q).1 (sym same))

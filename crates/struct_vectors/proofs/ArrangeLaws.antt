-- Attributes in the order of their paths, without neighbours that clash, make a vector.
use Rattle.std.proofs.Common.{◌≡◌, ℕ, zero, suc, ◌+◌, ◌<◌, ◌≤◌, ◌^◌, Bool, true, false, List, [], ◌∷◌, length, get_or, refl, ap, sym, ◌∙◌, subst, arith, inl, inr}
use Rattle.std.specs.Prelude.{Some, slice_get}
use Rattle.std.specs.List.{All, AllPairs, zip}
use Rattle.std.specs.List.Sorted.{IsPermutation, IsSorted, IsSortedByKey}
use Rattle.std.specs.Ordering.{nat_cmp}
use Rattle.std.specs.Cmp.Lexicographic.{slice_cmp}
use Rattle.std.proofs.lemmas.Bool.{false≢true}
use Rattle.std.proofs.lemmas.List.Sorted.{IsPermutation-map, All-permutation}
use Rattle.std.proofs.lemmas.List.Elements.{All-cons, All-head, All-tail}
use Rattle.std.proofs.lemmas.Option.{slice_get_within, slice_get-get_or, same_Some}
use Rattle.key_paths.specs.Paths.{IsPath}
use Rattle.key_paths.specs.Substructures.{is_at_or_below, is_before, IsAscending}
use Rattle.key_paths.proofs.Orders.{below_between, before_trans, at_or_below_itself, not_before_back, before_or_equal}
use Rattle.struct_vectors.specs.Columns.{ColumnValue, narrow}
use Rattle.struct_vectors.specs.Vectors.{vector_of, paths_of, columns_of, IsBelowRoot, HaveLength, IsShaped, IsArranged, HasNoClash, IsClashAt}
use Rattle.struct_vectors.specs.Refusals.{IsFirstClash, Refuses, NamesNeighbours}
use Rattle.struct_vectors.specs.declared.shapes.ShapeRefusal.{ShapeRefusal}
use Rattle.struct_vectors.specs.declared.shapes.ShapeRefusal.TheVariants.{LengthDiffers, PathRepeated, PathNested, NoMemory}
use Rattle.std.proofs.lemmas.List.{length-map}
use Rattle.struct_vectors.proofs.ShapeLaws.{path_of_at, length-paths_of}
use Rattle.struct_vectors.proofs.VectorLaws.{zip-parts}

-- ---- paths of which each two neighbours ascend and are apart

abbrev pub Chain : List (List ℕ) → Type 0
Chain [] = Unit {0}
Chain (p ∷ []) = Unit {0}
Chain (p ∷ q ∷ paths) = (is_before p q ≡ true) × (is_at_or_below q p ≡ false) × Chain (q ∷ paths)

-- the first ascends to each later one, and none of them lies below it
chain_before : (p : List ℕ) (paths : List (List ℕ)) → Chain (p ∷ paths) → All (λ q. is_before p q ≡ true) paths
chain_before p [] c = λ k d h. absurd (omega arith)
chain_before p (q ∷ paths) c =
    All-cons (λ r. is_before p r ≡ true) q paths c.0 (λ k d h. before_trans p q (get_or paths k d) c.0 (chain_before q paths c.2 k d h))

not_true : (b : Bool) → (b ≡ true → ⊥) → b ≡ false
not_true true h = absurd (h refl)
not_true false h = refl

chain_apart : (p : List ℕ) (paths : List (List ℕ)) → Chain (p ∷ paths) → All IsPath paths → All (λ q. is_at_or_below q p ≡ false) paths
chain_apart p [] c each = λ k d h. absurd (omega arith)
chain_apart p (q ∷ paths) c each =
    All-cons (λ r. is_at_or_below r p ≡ false) q paths c.1
    (λ k d h. not_true (is_at_or_below (get_or paths k d) p) (λ t. false≢true (sym c.1 ∙ below_between p q (get_or paths k d) (All-head IsPath q paths each) (not_before_back p q c.0) (chain_before q paths c.2 k d h) t)))

pairs_cons : (R : List ℕ → List ℕ → Type 0) (p : List ℕ) (paths : List (List ℕ)) → All (R p) paths → AllPairs R paths → AllPairs R (p ∷ paths)
pairs_cons R p paths first others zero zero d h l = absurd (omega arith)
pairs_cons R p paths first others zero (suc j) d h l = first j d (omega arith)
pairs_cons R p paths first others (suc i) zero d h l = absurd (omega arith)
pairs_cons R p paths first others (suc i) (suc j) d h l = others i j d (omega arith) (omega arith)

chain_tail : (p : List ℕ) (paths : List (List ℕ)) → Chain (p ∷ paths) → Chain paths
chain_tail p [] c = tt
chain_tail p (q ∷ paths) c = c.2

pub chain_ascending : (paths : List (List ℕ)) → Chain paths → IsAscending paths
chain_ascending [] c = λ i j d h l. absurd (omega arith)
chain_ascending (p ∷ paths) c = pairs_cons (λ q r. is_before q r ≡ true) p paths (chain_before p paths c) (chain_ascending paths (chain_tail p paths c))

pub chain_pairs_apart : (paths : List (List ℕ)) → Chain paths → All IsPath paths → AllPairs (λ p q. is_at_or_below q p ≡ false) paths
chain_pairs_apart [] c each = λ i j d h l. absurd (omega arith)
chain_pairs_apart (p ∷ paths) c each =
    pairs_cons (λ q r. is_at_or_below r q ≡ false) p paths (chain_apart p paths c (All-tail IsPath p paths each)) (chain_pairs_apart paths (chain_tail p paths c) (All-tail IsPath p paths each))

-- ---- sorted paths without neighbours that clash are such

-- no path comes before its former neighbour
abbrev pub NeighboursRise : List (List ℕ) → Type 0
NeighboursRise paths = (k : ℕ) (p q : List ℕ) → slice_get paths k ≡ Some p → slice_get paths (k + 1) ≡ Some q → is_before q p ≡ false

rise_tail : (p : List ℕ) (paths : List (List ℕ)) → NeighboursRise (p ∷ paths) → NeighboursRise paths
rise_tail p paths h k q r e f = h (suc k) q r e (ap (slice_get (p ∷ paths)) (let n : suc k + 1 ≡ suc (k + 1) = omega arith in n) ∙ f)

clash_tail : (p : List ℕ) (paths : List (List ℕ)) → HasNoClash (p ∷ paths) → HasNoClash paths
clash_tail p paths h k c = h (suc k) (record {
  former = c.former;
  latter = c.latter;
  former_is = c.former_is;
  latter_is = ap (slice_get (p ∷ paths)) (let n : suc k + 1 ≡ suc (k + 1) = omega arith in n) ∙ c.latter_is;
  below = c.below;
})

-- a path that does not come before its former neighbour, and does not clash with it, comes after it
after_former : (p q : List ℕ) → is_before q p ≡ false → (is_at_or_below q p ≡ true → ⊥) → is_before p q ≡ true
after_former p q h apart = elim (before_or_equal p q h) [ inl b ↦ b | inr e ↦ absurd (apart (subst (λ (r : List ℕ). is_at_or_below r p ≡ true) e (at_or_below_itself p))) ]

pub chain_of : (paths : List (List ℕ)) → NeighboursRise paths → HasNoClash paths → Chain paths
chain_of [] rise apart = tt
chain_of (p ∷ []) rise apart = tt
chain_of (p ∷ q ∷ paths) rise apart =
    let clash : is_at_or_below q p ≡ true → ⊥ = λ t. apart 0 (record { former = p; latter = q; former_is = refl; latter_is = refl; below = t }) in
    (after_former p q (rise 0 p q refl refl) clash, not_true (is_at_or_below q p) clash, chain_of (q ∷ paths) (rise_tail p (q ∷ paths) rise) (clash_tail p (q ∷ paths) apart))

-- ---- what a sort gives

some_column : ColumnValue
some_column = record { slots = []; form = narrow }

pub rise_of_sorted : (xs : List (List ℕ × ColumnValue)) → IsSortedByKey (λ a. a.0) (slice_cmp nat_cmp) xs → NeighboursRise (paths_of xs)
rise_of_sorted xs h k p q e f =
    let d : List ℕ × ColumnValue = (p, some_column) in
    let within : k + 1 < length (paths_of xs) = slice_get_within (paths_of xs) (k + 1) q f in
    let count = length-paths_of xs in
    let p_is : (get_or xs k d).0 ≡ p = same_Some _ _ (sym (path_of_at xs k d (omega arith)) ∙ e) in
    let q_is : (get_or xs (k + 1) d).0 ≡ q = same_Some _ _ (sym (path_of_at xs (k + 1) d (omega arith)) ∙ f) in
    ap (λ (r : List ℕ). is_before r p) (sym q_is) ∙ (ap (is_before (get_or xs (k + 1) d).0) (sym p_is) ∙ h k d (omega arith) (omega arith))

pub sorted_of_rise : (paths : List (List ℕ)) → NeighboursRise paths → IsSorted (slice_cmp nat_cmp) paths
sorted_of_rise paths h k d l m = h k (get_or paths k d) (get_or paths (k + 1) d) (slice_get-get_or paths k d (omega arith)) (slice_get-get_or paths (k + 1) d (omega arith))

-- ---- vectors, and refusals

pub same_paths : (given xs : List (List ℕ × ColumnValue)) → IsPermutation given xs → IsPermutation (paths_of given) (paths_of xs)
same_paths given xs h = IsPermutation-map (λ (a : List ℕ × ColumnValue). a.0) given xs h

all_paths_of : (P : List ℕ → Type 0) (xs : List (List ℕ × ColumnValue)) → All (λ a. P a.0) xs → All P (paths_of xs)
all_paths_of P xs h k d l =
    let e : (get_or xs k (d, some_column)).0 ≡ get_or (paths_of xs) k d = same_Some _ _ (sym (path_of_at xs k (d, some_column) (omega (arith, length-paths_of xs))) ∙ slice_get-get_or (paths_of xs) k d l) in
    subst P e (h k (d, some_column) (omega (arith, length-paths_of xs)))

pub shaped_of : (n : ℕ) (given xs : List (List ℕ × ColumnValue)) → n ≤ 2 ^ 22 → All (λ a. IsPath a.0) given → All (λ a. IsBelowRoot a.0) given → HaveLength n given → IsPermutation given xs → IsSortedByKey (λ a. a.0) (slice_cmp nat_cmp) xs → HasNoClash (paths_of xs) → IsShaped (vector_of n xs)
shaped_of n given xs short each named long same sorted apart =
    let paths : All IsPath (paths_of xs) = all_paths_of IsPath xs (All-permutation (λ (a : List ℕ × ColumnValue). IsPath a.0) given xs same each) in
    let chain = chain_of (paths_of xs) (rise_of_sorted xs sorted) apart in
    record {
      short = short;
      lengths = All-permutation (λ (a : List ℕ × ColumnValue). length a.1.slots ≡ n) given xs same long;
      paths = paths;
      below_root = all_paths_of IsBelowRoot xs (All-permutation (λ (a : List ℕ × ColumnValue). IsBelowRoot a.0) given xs same named);
      ascending = chain_ascending (paths_of xs) chain;
      apart = chain_pairs_apart (paths_of xs) chain paths;
    }

pub arranged_of : (given xs : List (List ℕ × ColumnValue)) → IsPermutation given xs → IsSortedByKey (λ a. a.0) (slice_cmp nat_cmp) xs → HasNoClash (paths_of xs) → IsArranged given xs
arranged_of given xs same sorted apart = record { same = same; ascending = chain_ascending (paths_of xs) (chain_of (paths_of xs) (rise_of_sorted xs sorted) apart) }

first_clash_of : (given xs : List (List ℕ × ColumnValue)) (place : ℕ) (former latter : List ℕ) → IsPermutation given xs → IsSortedByKey (λ a. a.0) (slice_cmp nat_cmp) xs → IsClashAt (paths_of xs) place → slice_get (paths_of xs) place ≡ Some former → slice_get (paths_of xs) (place + 1) ≡ Some latter → IsFirstClash given former latter
first_clash_of given xs place former latter same sorted clash e f = record {
  paths = paths_of xs;
  same = same_paths given xs same;
  ascending = sorted_of_rise (paths_of xs) (rise_of_sorted xs sorted);
  place = place;
  first = clash;
  former_is = e;
  latter_is = f;
}

pub refuses_clash : (n : ℕ) (given xs : List (List ℕ × ColumnValue)) (place : ℕ) (refusal : ShapeRefusal) → HaveLength n given → IsPermutation given xs → IsSortedByKey (λ a. a.0) (slice_cmp nat_cmp) xs → IsClashAt (paths_of xs) place → NamesNeighbours (paths_of xs) place refusal → Refuses n given refusal
refuses_clash n given xs place (LengthDiffers k) u same sorted clash h = absurd h
refuses_clash n given xs place (PathRepeated p) u same sorted clash h = (u, first_clash_of given xs place p p same sorted clash h.0 h.1)
refuses_clash n given xs place (PathNested a p) u same sorted clash h = (u, h.0, first_clash_of given xs place a p same sorted clash h.1 h.2)
refuses_clash n given xs place NoMemory u same sorted clash h = absurd h

-- ---- paths and columns that are kept apart

pub kept_apart : (xs : List (List ℕ × ColumnValue)) (paths : List (List ℕ)) (columns : List ColumnValue) → paths ≡ paths_of xs → columns ≡ columns_of xs → zip paths columns ≡ xs
kept_apart xs paths columns e f = rw (e, f) (zip-parts xs)

pub kept_lengths : (xs : List (List ℕ × ColumnValue)) (paths : List (List ℕ)) (columns : List ColumnValue) → paths ≡ paths_of xs → columns ≡ columns_of xs → length columns ≡ length paths
kept_lengths xs paths columns e f = rw (e, f) (length-map xs (λ (a : List ℕ × ColumnValue). a.1) ∙ sym (length-paths_of xs))

-- Paths that ascend are apart where each two neighbours are.
use Rattle.std.proofs.Common.{◌≡◌, ℕ, zero, suc, ◌+◌, ◌-◌, ◌<◌, ◌≤◌, Bool, true, false, ◌||◌, ◌&&◌, not, List, [], ◌∷◌, length, get_or, drop, refl, sym, ap, ◌∙◌, arith, subst, inl, inr}
use Rattle.std.specs.Prelude.{All}
use Rattle.std.specs.List.{AllPairs, list_all, list_any}
use Rattle.std.proofs.lemmas.Bool.{false≢true}
use Rattle.std.proofs.lemmas.List.{drop_more}
use Rattle.std.proofs.lemmas.List.Elements.{All-head, All-tail}
use Rattle.key_paths.specs.Paths.{IsPath}
use Rattle.key_paths.specs.Substructures.{is_root, is_at_or_below, is_before, IsAscending}
use Rattle.key_paths.proofs.Orders.{below_not_before, before_or_equal, at_or_below_itself}
use Rattle.struct_vectors.proofs.ArrangeLaws.{Chain, chain_ascending, chain_pairs_apart}
use Rattle.programs.specs.Outlines.{Outline}
use Rattle.programs.specs.Faults.{apart, all_apart, path_clash}
use Rattle.programs.specs.Orders.{Rises}

-- some path is its former neighbour or stands below it
abbrev pub neighbours_nest : List (List ℕ) → Bool
neighbours_nest [] = false
neighbours_nest (p ∷ []) = false
neighbours_nest (p ∷ q ∷ rest) = is_at_or_below q p || neighbours_nest (q ∷ rest)

or_false : (a b : Bool) → (a || b) ≡ false → (a ≡ false) × (b ≡ false)
or_false true b e = absurd cc
or_false false b e = (refl, e)

after_former : (p q : List ℕ) → is_before q p ≡ false → (is_at_or_below q p ≡ true → ⊥) → is_before p q ≡ true
after_former p q h clear = elim (before_or_equal p q h) [ inl b ↦ b | inr e ↦ absurd (clear (subst (λ (r : List ℕ). is_at_or_below r p ≡ true) e (at_or_below_itself p))) ]

pub chain_of_apart : (paths : List (List ℕ)) → Rises paths → neighbours_nest paths ≡ false → Chain paths
chain_of_apart [] r e = tt
chain_of_apart (p ∷ []) r e = tt
chain_of_apart (p ∷ q ∷ rest) r e =
    let both = or_false (is_at_or_below q p) (neighbours_nest (q ∷ rest)) e in
    (after_former p q r.0 (λ t. false≢true (sym both.0 ∙ t)), both.0, chain_of_apart (q ∷ rest) r.1 both.1)

list_all_from : {A : Type 0} (f : A → Bool) (xs : List A) → All (λ x. f x ≡ true) xs → list_all f xs ≡ true
list_all_from f [] h = refl
list_all_from f (x ∷ xs) h = rw (All-head (λ y. f y ≡ true) x xs h, list_all_from f xs (All-tail (λ y. f y ≡ true) x xs h)) refl

apart_of : (p q : List ℕ) → IsPath p → is_before p q ≡ true → is_at_or_below q p ≡ false → apart p q ≡ true
apart_of p q path e below = by (is_at_or_below p q) refl
  where
    by : (b : Bool) → is_at_or_below p q ≡ b → not (b || is_at_or_below q p) ≡ true
    by true h = absurd (false≢true (sym (below_not_before p q path h) ∙ e))
    by false h = ap not below

pub apart_in_order : (paths : List (List ℕ)) → IsAscending paths → AllPairs (λ p q. is_at_or_below q p ≡ false) paths → All IsPath paths → all_apart paths ≡ true
apart_in_order [] a b each = refl
apart_in_order (p ∷ rest) a b each =
    let first : list_all (apart p) rest ≡ true = list_all_from (apart p) rest (λ k d h. apart_of p (get_or rest k d) (All-head IsPath p rest each) (a 0 (suc k) d (omega arith) (omega arith)) (b 0 (suc k) d (omega arith) (omega arith))) in
    let others : all_apart rest ≡ true = apart_in_order rest (λ i j d h l. a (suc i) (suc j) d (omega arith) (omega arith)) (λ i j d h l. b (suc i) (suc j) d (omega arith) (omega arith)) (All-tail IsPath p rest each) in
    rw (first, others) refl

and_false : (a b : Bool) → b ≡ false → (a && b) ≡ false
and_false true b e = e
and_false false b e = refl

nested_below : (p q : List ℕ) → is_at_or_below q p ≡ true → apart p q ≡ false
nested_below p q e = by (is_at_or_below p q)
  where
    by : (b : Bool) → not (b || is_at_or_below q p) ≡ false
    by true = refl
    by false = ap not e

pub nested_not_apart : (paths : List (List ℕ)) → neighbours_nest paths ≡ true → all_apart paths ≡ false
nested_not_apart [] e = absurd cc
nested_not_apart (p ∷ []) e = absurd cc
nested_not_apart (p ∷ q ∷ rest) e = by (is_at_or_below q p) refl e (nested_not_apart (q ∷ rest))
  where
    by : (b : Bool) → is_at_or_below q p ≡ b → (b || neighbours_nest (q ∷ rest)) ≡ true → (neighbours_nest (q ∷ rest) ≡ true → all_apart (q ∷ rest) ≡ false) → all_apart (p ∷ q ∷ rest) ≡ false
    by true h t later = let first : apart p q ≡ false = nested_below p q h in rw first refl
    by false h t later = and_false (list_all (apart p) (q ∷ rest)) (all_apart (q ∷ rest)) (later t)

pub nesting_is : (paths : List (List ℕ)) → Rises paths → All IsPath paths → neighbours_nest paths ≡ not (all_apart paths)
nesting_is paths r each = by (neighbours_nest paths) refl
  where
    by : (b : Bool) → neighbours_nest paths ≡ b → b ≡ not (all_apart paths)
    by true e = ap not (sym (nested_not_apart paths e))
    by false e = let c = chain_of_apart paths r e in ap not (sym (apart_in_order paths (chain_ascending paths c) (chain_pairs_apart paths c each) each))

-- ---- neighbours one by one

nest_step : (paths : List (List ℕ)) (i j : ℕ) (p q : List ℕ) → j ≡ i + 1 → j < length paths → p ≡ get_or paths i p → q ≡ get_or paths j q → neighbours_nest (drop i paths) ≡ (is_at_or_below q p || neighbours_nest (drop j paths))
nest_step paths i j p q e h ep eq =
    let first : drop i paths ≡ p ∷ drop j paths = drop_more paths i p (omega arith) ∙ ap (λ x. x ∷ drop (i + 1) paths) (sym ep) ∙ ap (λ k. p ∷ drop k paths) (sym e) in
    let second : drop j paths ≡ q ∷ drop (j + 1) paths = drop_more paths j q h ∙ ap (λ x. x ∷ drop (j + 1) paths) (sym eq) in
    rw (first, second) refl

pub nest_end : (paths : List (List ℕ)) (i : ℕ) → length paths ≤ i + 1 → neighbours_nest (drop i paths) ≡ false
nest_end [] zero h = refl
nest_end [] (suc i) h = refl
nest_end (p ∷ []) zero h = refl
nest_end (p ∷ q ∷ rest) zero h = absurd (omega arith)
nest_end (p ∷ rest) (suc i) h = nest_end rest i (omega arith)

pub nest_found : (paths : List (List ℕ)) (i : ℕ) (p q : List ℕ) → Rises paths → All IsPath paths → neighbours_nest paths ≡ neighbours_nest (drop (i - 1) paths) → 1 ≤ i → i < length paths → q ≡ get_or paths i q → p ≡ get_or paths (i - 1) p → true ≡ is_at_or_below q p → true ≡ not (all_apart paths)
nest_found paths i p q r each e low h eq ep below =
    sym (e ∙ nest_step paths (i - 1) i p q (omega arith) h ep eq ∙ ap (λ (b : Bool). b || neighbours_nest (drop i paths)) (sym below)) ∙ nesting_is paths r each

pub nest_none : (paths : List (List ℕ)) (i : ℕ) → Rises paths → All IsPath paths → neighbours_nest paths ≡ neighbours_nest (drop (i - 1) paths) → 1 ≤ i → length paths ≤ i → false ≡ not (all_apart paths)
nest_none paths i r each e low h = sym (e ∙ nest_end paths (i - 1) (omega arith)) ∙ nesting_is paths r each

-- ---- what a clash says

pub chain_without_clash : (outline : Outline) → Rises outline.paths → All IsPath outline.paths → path_clash outline ≡ false → Chain outline.paths
chain_without_clash outline r each e =
    let both = or_false (list_any is_root outline.paths) (not (all_apart outline.paths)) e in
    chain_of_apart outline.paths r (nesting_is outline.paths r each ∙ both.1)

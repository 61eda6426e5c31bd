-- The place of a text among distinct ones.
use Rattle.std.proofs.Common.{◌≡◌, ◌∙◌, ℕ, suc, ◌+◌, Bool, true, false, List, [], ◌∷◌, ◌++◌, length, map, Some, refl, sym, ap, inl, inr, ◌⊎◌, arith}
use Rattle.std.specs.Prelude.{slice_get, ◌||◌}
use Rattle.std.specs.List.{list_any, position, position_from}
use Rattle.std.specs.Str.{bytes_eq}
use Rattle.std.proofs.lemmas.Bool.{cases_Bool}
use Rattle.std.proofs.lemmas.Iterator.Adapters.{position_from-zero}
use Rattle.std.proofs.lemmas.List.{map-append}
use Rattle.std.proofs.lemmas.Slice.Eq.{bytes_eq-Decides}
use Rattle.table_load.specs.HeldColumns.{note}

pub any_map : {X Y : Type 0} (p : Y → Bool) (f : X → Y) (xs : List X) → list_any p (map f xs) ≡ list_any (λ x. p (f x)) xs
any_map p f [] = refl
any_map p f (x ∷ xs) = ap (λ b. p (f x) || b) (any_map p f xs)

found_from : {K : Type 0} (f : K → List ℕ) (t : List ℕ) (n i : ℕ) (keys : List K) → position_from (λ k. bytes_eq t (f k)) n keys ≡ Some i → (j : ℕ) × (i ≡ n + j) × (slice_get (map f keys) j ≡ Some t)
found_from f t n i [] e = absurd (cc)
found_from f t n i (k ∷ keys) e = by_test (cases_Bool (bytes_eq t (f k))) (λ o. found_from f t (n + 1) i keys o)
  where
    by_test : (bytes_eq t (f k) ≡ true) ⊎ (bytes_eq t (f k) ≡ false) → (position_from (λ k. bytes_eq t (f k)) (n + 1) keys ≡ Some i → (j : ℕ) × (i ≡ (n + 1) + j) × (slice_get (map f keys) j ≡ Some t)) → (j : ℕ) × (i ≡ n + j) × (slice_get (map f (k ∷ keys)) j ≡ Some t)
    by_test (inl is) later =
        let here = rw is at e in
        let same : n ≡ i = cc in
        (0, omega (arith, same), ap Some (sym ((bytes_eq-Decides t (f k)).0 is)))
    by_test (inr isnt) later =
        let (j, at, s) = later (rw isnt at e) in
        (suc j, omega (arith, at), s)

pub place_found : {K : Type 0} (f : K → List ℕ) (t : List ℕ) (keys : List K) (i : ℕ) → position (λ k. bytes_eq t (f k)) keys ≡ Some i → slice_get (map f keys) i ≡ Some t
place_found f t keys i e =
    let (j, at, s) = found_from f t 0 i keys (sym (position_from-zero (λ k. bytes_eq t (f k)) keys) ∙ e) in
    ap (slice_get (map f keys)) (omega (arith, at)) ∙ s

-- a text that is there is noted already, and one that is not comes last
pub noted_there : {K : Type 0} (f : K → List ℕ) (t : List ℕ) (keys : List K) → list_any (λ k. bytes_eq t (f k)) keys ≡ true → map f keys ≡ note (map f keys) t
noted_there f t keys e = rw (any_map (bytes_eq t) f keys, e) refl

pub noted_last : {K : Type 0} (f : K → List ℕ) (t : List ℕ) (keys new : List K) (k : K) → list_any (λ k. bytes_eq t (f k)) keys ≡ false → f k ≡ t → new ≡ keys ++ k ∷ [] → map f new ≡ note (map f keys) t
noted_last f t keys new k e s n = rw (any_map (bytes_eq t) f keys, e) (ap (map f) n ∙ map-append f keys (k ∷ []) ∙ ap (λ l. map f keys ++ l ∷ []) s)

behind : {K : Type 0} (f : K → List ℕ) (t : List ℕ) (keys : List K) (k : K) → f k ≡ t → slice_get (map f (keys ++ k ∷ [])) (length keys) ≡ Some t
behind f t [] k s = ap Some s
behind f t (y ∷ ys) k s = behind f t ys k s

pub last_place : {K : Type 0} (f : K → List ℕ) (t : List ℕ) (keys new : List K) (k : K) → f k ≡ t → new ≡ keys ++ k ∷ [] → slice_get (map f new) (length keys) ≡ Some t
last_place f t keys new k s n = rw n (behind f t keys k s)

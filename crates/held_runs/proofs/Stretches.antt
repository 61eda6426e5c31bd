-- Runs of lists in two parts, of lists that are mapped, and of lists without a mark behind the first.
use Rattle.std.proofs.Common.{◌≡◌, ◌∙◌, ◌≤◌, Bool, true, false, List, [], ◌∷◌, ◌++◌, length, map, replicate, refl, sym, ap, arith}
use Rattle.std.specs.List.{AllByRecursion, flat_map}
use Rattle.control_vectors.specs.Runs.{runs_with_first, runs}

-- a mark stands at the first place, if there is one
abbrev pub BeginsRun : List Bool → Type 0
BeginsRun [] = Unit {0}
BeginsRun (m ∷ ms) = m ≡ true

module _ {A : Type 0} where
  -- the first run begins with the first element
  abbrev IsFirst : A → List (List A) → Type 0
  IsFirst x rs = (r : List A) × (o : List (List A)) × (rs ≡ (x ∷ r) ∷ o)

  first_run : (m : Bool) (ms : List Bool) (x : A) (xs : List A) → IsFirst x (runs (m ∷ ms) (x ∷ xs))
  first_run m ms x xs = by ms (runs ms xs)
    where
      by : (ns : List Bool) (rs : List (List A)) → IsFirst x (runs_with_first ns x rs)
      by [] rs = ([], rs, refl)
      by (true ∷ ns) rs = ([], rs, refl)
      by (false ∷ ns) [] = ([], [], refl)
      by (false ∷ ns) (r ∷ rs) = (r, rs, refl)

  -- ---- in two parts

  alone : (ns : List Bool) (x : A) (rs : List (List A)) → BeginsRun ns → runs_with_first ns x rs ≡ (x ∷ []) ∷ rs
  alone [] x rs h = refl
  alone (true ∷ ns) x rs h = refl
  alone (false ∷ ns) x rs h = absurd cc

  pub runs_append : (ms ns : List Bool) (xs ys : List A) → length ms ≡ length xs → BeginsRun ns → runs (ms ++ ns) (xs ++ ys) ≡ runs ms xs ++ runs ns ys
  runs_append [] ns [] ys e h = refl
  runs_append [] ns (x ∷ xs) ys e h = absurd (omega (arith, e))
  runs_append (m ∷ ms) ns [] ys e h = absurd (omega (arith, e))
  runs_append (m ∷ []) ns (x ∷ []) ys e h = alone ns x (runs ns ys) h
  runs_append (m ∷ []) ns (x ∷ y ∷ xs) ys e h = absurd (omega (arith, e))
  runs_append (m ∷ l ∷ ms) ns (x ∷ []) ys e h = absurd (omega (arith, e))
  runs_append (m ∷ true ∷ ms) ns (x ∷ y ∷ xs) ys e h = ap (λ (rs : List (List A)). (x ∷ []) ∷ rs) (runs_append (true ∷ ms) ns (y ∷ xs) ys (omega (arith, e)) h)
  runs_append (m ∷ false ∷ ms) ns (x ∷ y ∷ xs) ys e h =
      let f = first_run false ms y xs in
      ap (runs_with_first (false ∷ (ms ++ ns)) x) (runs_append (false ∷ ms) ns (y ∷ xs) ys (omega (arith, e)) h ∙ ap (λ (rs : List (List A)). rs ++ runs ns ys) f.2)
      ∙ ap (λ (rs : List (List A)). runs_with_first (false ∷ ms) x rs ++ runs ns ys) (sym f.2)

  -- ---- they are the elements again, and none is empty

  flat_first : (ms : List Bool) (x : A) (rs : List (List A)) → flat_map (λ r. r) (runs_with_first ms x rs) ≡ x ∷ flat_map (λ r. r) rs
  flat_first [] x rs = refl
  flat_first (true ∷ ms) x rs = refl
  flat_first (false ∷ ms) x [] = refl
  flat_first (false ∷ ms) x (r ∷ rs) = refl

  pub flat_runs : (ms : List Bool) (xs : List A) → length ms ≡ length xs → flat_map (λ r. r) (runs ms xs) ≡ xs
  flat_runs [] [] e = refl
  flat_runs [] (x ∷ xs) e = absurd (omega (arith, e))
  flat_runs (m ∷ ms) [] e = absurd (omega (arith, e))
  flat_runs (m ∷ ms) (x ∷ xs) e = flat_first ms x (runs ms xs) ∙ ap (λ (l : List A). x ∷ l) (flat_runs ms xs (omega (arith, e)))

  abbrev pub NoneEmpty : List (List A) → Type 0
  NoneEmpty rs = AllByRecursion (λ r. 1 ≤ length r) rs

  nonempty_first : (ms : List Bool) (x : A) (rs : List (List A)) → NoneEmpty rs → NoneEmpty (runs_with_first ms x rs)
  nonempty_first [] x rs h = (omega arith, h)
  nonempty_first (true ∷ ms) x rs h = (omega arith, h)
  nonempty_first (false ∷ ms) x [] h = (omega arith, h)
  nonempty_first (false ∷ ms) x (r ∷ rs) h = (omega arith, h.1)

  pub nonempty_runs : (ms : List Bool) (xs : List A) → NoneEmpty (runs ms xs)
  nonempty_runs [] xs = tt
  nonempty_runs (m ∷ ms) [] = tt
  nonempty_runs (m ∷ ms) (x ∷ xs) = nonempty_first ms x (runs ms xs) (nonempty_runs ms xs)

  -- ---- one run of all

  pub one_run : (x : A) (xs : List A) → runs (true ∷ replicate (length xs) false) (x ∷ xs) ≡ (x ∷ xs) ∷ []
  one_run x [] = refl
  one_run x (y ∷ ys) = ap (runs_with_first (false ∷ replicate (length ys) false) x) (unmarked y ys)
    where
      unmarked : (z : A) (zs : List A) → runs (false ∷ replicate (length zs) false) (z ∷ zs) ≡ (z ∷ zs) ∷ []
      unmarked z [] = refl
      unmarked z (w ∷ ws) = ap (runs_with_first (false ∷ replicate (length ws) false) z) (unmarked w ws)

-- ---- mapped

module _ {A B : Type 0} (f : A → B) where
  map_first : (ms : List Bool) (x : A) (rs : List (List A)) → runs_with_first ms (f x) (map (map f) rs) ≡ map (map f) (runs_with_first ms x rs)
  map_first [] x rs = refl
  map_first (true ∷ ms) x rs = refl
  map_first (false ∷ ms) x [] = refl
  map_first (false ∷ ms) x (r ∷ rs) = refl

  pub runs_map : (ms : List Bool) (xs : List A) → runs ms (map f xs) ≡ map (map f) (runs ms xs)
  runs_map [] xs = refl
  runs_map (m ∷ ms) [] = refl
  runs_map (m ∷ ms) (x ∷ xs) = ap (runs_with_first ms (f x)) (runs_map ms xs) ∙ map_first ms x (runs ms xs)

-- Lists of paths, none of which comes before its former neighbour.
use Rattle.std.specs.Prelude.{◌≡◌, ℕ, false, List, [], ◌∷◌}
use Rattle.key_paths.specs.Substructures.{is_before}

abbrev pub Rises : List (List ℕ) → Type 0
Rises [] = Unit {0}
Rises (p ∷ []) = Unit {0}
Rises (p ∷ q ∷ rest) = (is_before q p ≡ false) × Rises (q ∷ rest)

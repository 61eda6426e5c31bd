-- Stores: vectors by name.
use Rattle.std.specs.Prelude.{◌≢◌, ℕ, List}
use Rattle.std.specs.List.{AllPairs}
use Rattle.struct_vectors.specs.Vectors.{VectorValue}

-- no two vectors have one name
abbrev pub HaveDistinctNames : List (List ℕ × VectorValue) → Type 0
HaveDistinctNames vectors = AllPairs (λ a b. a.0 ≢ b.0) vectors

-- What the refusals of a vector say of the attributes that were handed over.
use Rattle.std.specs.Prelude.{◌≡◌, ◌≢◌, ℕ, ◌+◌, List, Some, slice_get, ⊤}
use Rattle.std.specs.List.Sorted.{IsPermutation, IsSorted}
use Rattle.std.specs.Cmp.Lexicographic.{slice_cmp}
use Rattle.std.specs.Ordering.{nat_cmp}
use Rattle.struct_vectors.specs.Columns.{ColumnValue}
use Rattle.struct_vectors.specs.Vectors.{HaveLength, IsFirstOther, IsClashAt, paths_of}
use Rattle.struct_vectors.specs.declared.shapes.ShapeRefusal.{ShapeRefusal}
use Rattle.struct_vectors.specs.declared.shapes.ShapeRefusal.TheVariants.{LengthDiffers, PathRepeated, PathNested, NoMemory}

-- in the ascending list of the paths, the first two neighbours that are equal or nested are these
pub record IsFirstClash (given : List (List ℕ × ColumnValue)) (former latter : List ℕ) : Type 0 where
  pub paths : List (List ℕ)
  pub same : IsPermutation (paths_of given) paths
  pub ascending : IsSorted (slice_cmp nat_cmp) paths
  pub place : ℕ
  pub first : IsClashAt paths place
  pub former_is : slice_get paths place ≡ Some former
  pub latter_is : slice_get paths (place + 1) ≡ Some latter

-- what a refusal of two neighbours names
abbrev pub NamesNeighbours : List (List ℕ) → ℕ → ShapeRefusal → Type 0
NamesNeighbours paths place (PathRepeated path) = (slice_get paths place ≡ Some path) × (slice_get paths (place + 1) ≡ Some path)
NamesNeighbours paths place (PathNested above path) = (above ≢ path) × (slice_get paths place ≡ Some above) × (slice_get paths (place + 1) ≡ Some path)
NamesNeighbours paths place refusal = ⊥

-- why attributes make no vector of n slots
abbrev pub Refuses : ℕ → List (List ℕ × ColumnValue) → ShapeRefusal → Type 0
Refuses n given (LengthDiffers attribute) = IsFirstOther n given attribute
Refuses n given (PathRepeated path) = HaveLength n given × IsFirstClash given path path
Refuses n given (PathNested above path) = HaveLength n given × (above ≢ path) × IsFirstClash given above path
Refuses n given NoMemory = ⊤

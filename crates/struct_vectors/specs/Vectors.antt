-- Structured vectors: attributes of one length, ascending by path (the Voodoo paper, section 2).
use Rattle.std.specs.Prelude.{◌≡◌, ◌≢◌, ℕ, ◌+◌, ◌<◌, ◌≤◌, ◌^◌, true, false, List, map, length, Some, slice_get}
use Rattle.std.specs.List.{All, AllPairs}
use Rattle.std.specs.List.Sorted.{IsPermutation}
use Rattle.key_paths.specs.Paths.{IsPath}
use Rattle.key_paths.specs.Substructures.{is_root, is_at_or_below, IsAscending}
use Rattle.struct_vectors.specs.Columns.{ColumnValue}

-- a vector, as contracts see it: a length, and for each attribute its path and its column
pub record VectorValue : Type 0 where
  pub length : ℕ
  pub attributes : List (List ℕ × ColumnValue)

abbrev pub vector_of : ℕ → List (List ℕ × ColumnValue) → VectorValue
vector_of n attributes = record { length = n; attributes = attributes }

abbrev pub paths_of : List (List ℕ × ColumnValue) → List (List ℕ)
paths_of attributes = map (λ a. a.0) attributes

abbrev pub columns_of : List (List ℕ × ColumnValue) → List ColumnValue
columns_of attributes = map (λ a. a.1) attributes

-- each column has n slots
abbrev pub HaveLength : ℕ → List (List ℕ × ColumnValue) → Type 0
HaveLength n attributes = All (λ a. length a.1.slots ≡ n) attributes

-- a path other than the root
abbrev pub IsBelowRoot : List ℕ → Type 0
IsBelowRoot path = is_root path ≡ false

-- what holds of every vector
pub record IsShaped (v : VectorValue) : Type 0 where
  pub short : v.length ≤ 2 ^ 22
  pub lengths : HaveLength v.length v.attributes
  pub paths : All IsPath (paths_of v.attributes)
  pub below_root : All IsBelowRoot (paths_of v.attributes)
  pub ascending : IsAscending (paths_of v.attributes)
  pub apart : AllPairs (λ p q. is_at_or_below q p ≡ false) (paths_of v.attributes)

-- the same attributes, strictly ascending by path
pub record IsArranged (given attributes : List (List ℕ × ColumnValue)) : Type 0 where
  pub same : IsPermutation given attributes
  pub ascending : IsAscending (paths_of attributes)

-- the first attribute whose column has another length than n
pub record IsFirstOther (n : ℕ) (attributes : List (List ℕ × ColumnValue)) (place : ℕ) : Type 0 where
  pub before : (k : ℕ) (a : List ℕ × ColumnValue) → k < place → slice_get attributes k ≡ Some a → length a.1.slots ≡ n
  pub attribute : List ℕ × ColumnValue
  pub at : slice_get attributes place ≡ Some attribute
  pub other : length attribute.1.slots ≢ n

-- two neighbours clash: the latter is equal to the former, or lies below it
pub record ClashAt (paths : List (List ℕ)) (k : ℕ) : Type 0 where
  pub former : List ℕ
  pub latter : List ℕ
  pub former_is : slice_get paths k ≡ Some former
  pub latter_is : slice_get paths (k + 1) ≡ Some latter
  pub below : is_at_or_below latter former ≡ true

-- no two neighbours clash
abbrev pub HasNoClash : List (List ℕ) → Type 0
HasNoClash paths = (k : ℕ) → ¬ ClashAt paths k

-- the first two neighbours that clash
pub record IsClashAt (paths : List (List ℕ)) (place : ℕ) : Type 0 where
  pub before : (k : ℕ) → k < place → ¬ ClashAt paths k
  pub clash : ClashAt paths place

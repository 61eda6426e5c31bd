-- Rows in the places of a vector: at each place one row, or none. The rows stand in the order of their places.
-- After the structured vectors and empty slots of Voodoo, PVLDB 9(14), 2016, section 2.
use Rattle.std.specs.Prelude.{◌≡◌, ℕ, ◌-◌, pos, List, [], ◌∷◌, ◌++◌, length, map, replicate, Option, Some, None, Ok}
use Rattle.std.specs.List.{All}
use Rattle.control_vectors.specs.Slots.{Slot, Cell}
use Rattle.programs.specs.Mentions.{Label}
use Rattle.programs.specs.Vectors.{Vector, slots_of}

-- for each place the row that stands there
abbrev pub Held : Type 0 → Type 0
Held A = List (Option A)

-- the rows, in order
abbrev pub present : {A : Type 0} → Held A → List A
present [] = []
present (None ∷ held) = present held
present (Some a ∷ held) = a ∷ present held

-- what is asked of a row, as a slot: empty where no row stands
abbrev pub at : {A : Type 0} → (A → Slot) → Option A → Slot
at f None = None
at f (Some a) = f a

abbrev pub column : {A : Type 0} → (A → Slot) → Held A → List Slot
column f held = map (at f) held

-- what is made of a row, as a cell
abbrev pub cell_at : {A : Type 0} → (A → Cell) → Option A → Cell
cell_at f None = Ok None
cell_at f (Some a) = f a

-- the mark: 1 for each row
abbrev pub one : {A : Type 0} → A → Slot
one a = Some (pos 1)

-- rows at the first of n places
abbrev pub packed : {A : Type 0} → ℕ → List A → Held A
packed n rows = map (λ a. Some a) rows ++ replicate (n - length rows) None

-- an attribute: its path, and what it tells of a row
abbrev pub Told : Type 0 → Type 0
Told A = Label × (A → Slot)

-- a vector holds rows, and these attributes of theirs
pub record Holds {A : Type 0} (v : Vector) (held : Held A) (attributes : List (Told A)) : Type 0 where
  pub len : v.len ≡ length held
  pub each : All (λ t. slots_of v.attributes t.0 ≡ column t.1 held) attributes

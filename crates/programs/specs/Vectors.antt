-- Structured vectors as their slots, and vectors by name (Voodoo, PVLDB 9(14), 2016, section 2: structured vectors).
use Rattle.std.specs.Prelude.{ℕ, List, [], ◌∷◌, map, take, slice_index_or, Option, Some, None, unwrap_or, Result, Ok, Err, if◌then◌else◌}
use Rattle.std.specs.Option.{option_map}
use Rattle.std.specs.Map.{lookup}
use Rattle.std.specs.Str.{bytes_eq}
use Rattle.control_vectors.specs.Slots.{Slot}
use Rattle.control_vectors.specs.declared.Over.{Over}
use Rattle.struct_vectors.specs.Columns.{ColumnValue}
use Rattle.struct_vectors.specs.Vectors.{VectorValue}
use Rattle.programs.specs.Mentions.{Label}

-- an attribute: a path, and a slot for each place
abbrev pub Attribute : Type 0
Attribute = Label × List Slot

-- a length, and the attributes ascending by path
pub record Vector : Type 0 where
  pub len : ℕ
  pub attributes : List Attribute

-- the slots of the attribute at a path; none where there is no such attribute
abbrev pub slots_of : List Attribute → Label → List Slot
slots_of attributes p = unwrap_or (lookup (bytes_eq p) attributes) []

-- the slot of an attribute at a place; empty where there is none
abbrev pub slot_at : Vector → Label → ℕ → Slot
slot_at v p i = slice_index_or (slots_of v.attributes p) i None

-- the first n slots of each attribute
abbrev pub cut_to : ℕ → List Attribute → List Attribute
cut_to n attributes = map (λ t. (t.0, take n t.1)) attributes

-- a vector of one attribute
abbrev pub column : Label → ℕ → List Slot → Vector
column p n xs = record { len = n; attributes = (p, xs) ∷ [] }

abbrev pub column_of : Label → ℕ → Result (List Slot) Over → Result Vector Over
column_of p n (Err e) = Err e
column_of p n (Ok xs) = Ok (column p n xs)

-- ---- vectors by name
abbrev pub Env : Type 0
Env = Label → Option Vector

abbrev pub nothing : Env
nothing = λ m. None

-- one more vector
abbrev pub put : Env → Label → Vector → Env
put env n v = λ m. if bytes_eq n m then Some v else env m

-- a name that nobody made has a vector without places
abbrev pub no_vector : Vector
no_vector = record { len = 0; attributes = [] }

abbrev pub known : Option Vector → Vector
known None = no_vector
known (Some v) = v

-- the vectors of a list of names
abbrev pub Named : Type 0
Named = List (Label × Vector)

-- ---- vectors of columns, seen as their slots, however each column is kept
abbrev pub seen_attributes : List (Label × ColumnValue) → List Attribute
seen_attributes attributes = map (λ a. (a.0, a.1.slots)) attributes

abbrev pub seen : VectorValue → Vector
seen v = record { len = v.length; attributes = seen_attributes v.attributes }

abbrev pub seen_all : List (Label × VectorValue) → Named
seen_all named = map (λ e. (e.0, seen e.1)) named

-- the tables of a store
abbrev pub tables : List (Label × VectorValue) → Env
tables store = λ n. option_map seen (lookup (bytes_eq n) store)

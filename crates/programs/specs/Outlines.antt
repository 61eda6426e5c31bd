-- Outlines: the length and the paths of a vector, without its slots; and outlines by name.
use Rattle.std.specs.Prelude.{ℕ, List, [], map, if◌then◌else◌, Option, Some, None}
use Rattle.std.specs.Option.{option_map}
use Rattle.std.specs.Str.{bytes_eq}
use Rattle.programs.specs.Mentions.{Label}
use Rattle.programs.specs.Vectors.{Vector, Env}

-- a vector's length, and its paths in order
pub record Outline : Type 0 where
  pub len : ℕ
  pub paths : List Label

abbrev pub outlined : ℕ → List Label → Outline
outlined len paths = record { len = len; paths = paths }

-- no places and no paths
abbrev pub no_outline : Outline
no_outline = outlined 0 []

abbrev pub known_outline : Option Outline → Outline
known_outline None = no_outline
known_outline (Some outline) = outline

-- outlines by name; none for a name that nobody made
abbrev pub Shapes : Type 0
Shapes = Label → Option Outline

abbrev pub no_shapes : Shapes
no_shapes = λ m. None

abbrev pub add_shape : Shapes → Label → Outline → Shapes
add_shape shapes n outline = λ m. if bytes_eq n m then Some outline else shapes m

-- the length and the paths of the vector of a name
abbrev pub len_in : Shapes → Label → ℕ
len_in vectors a = (known_outline (vectors a)).len

abbrev pub paths_in : Shapes → Label → List Label
paths_in vectors a = (known_outline (vectors a)).paths

-- the outline of a vector, and of the vectors by name
abbrev pub outline_of : Vector → Outline
outline_of v = outlined v.len (map (λ t. t.0) v.attributes)

abbrev pub outlines : Env → Shapes
outlines env = λ n. option_map outline_of (env n)

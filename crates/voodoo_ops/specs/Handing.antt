-- Attributes that an operator hands on, as the vector keeps them.
use Rattle.std.specs.Prelude.{◌≡◌, ◌<◌, ◌-◌, Bool, true, false, not, filter, length, slice_index_or}
use Rattle.key_paths.specs.Substructures.{is_at_or_below}
use Rattle.struct_vectors.specs.Columns.{ColumnValue}
use Rattle.struct_vectors.specs.Vectors.{VectorValue, IsShaped}
use Rattle.programs.specs.Mentions.{Label}
use Rattle.programs.specs.Moves.{moved}
use Rattle.programs.specs.Vectors.{Vector, seen}
use Rattle.voodoo_ops.specs.Columns.{Attributes, earlier, no_attribute}
use Rattle.voodoo_ops.specs.declared.attributes.Side.{Side}
use Rattle.voodoo_ops.specs.declared.attributes.Side.TheVariants.{Below, Beside}

-- at a path or below it, or neither
abbrev pub is_on : Side → Label → Label → Bool
is_on Below x p = is_at_or_below x p
is_on Beside x p = not (is_at_or_below x p)

abbrev pub on_side : Side → Label → Attributes → Attributes
on_side side p attributes = filter (λ t. is_on side t.0 p) attributes

-- with q in place of p at the start of its path
abbrev pub under : Label → Label → Label × ColumnValue → Label × ColumnValue
under p q t = (moved p q t.0, t.1)

-- what a part of a vector gives, whatever columns keep the slots
pub record HandsOn (w : Vector) (part : Attributes → Attributes) (items : Attributes) : Type 0 where
  pub from : VectorValue
  pub shaped : IsShaped from
  pub slots : seen from ≡ w
  pub is : items ≡ part from.attributes

-- ---- two lists that are kept in reverse
abbrev pub last_of : Attributes → Label × ColumnValue
last_of l = slice_index_or l (length l - 1) no_attribute

-- the second has the first attribute that is left
abbrev pub TakesLast : Attributes → Attributes → Bool → Type 0
TakesLast left right true = (0 < length right) × (0 < length left → earlier (last_of right) (last_of left) ≡ true)
TakesLast left right false = 0 < length right → (0 < length left) × (earlier (last_of right) (last_of left) ≡ false)

-- What holds of every typed expression: the scale of its type is its own.
use Rattle.std.specs.Prelude.{◌≡◌, ℕ, Option, Some}
use Rattle.typed_trees.specs.declared.typed.TypedExpr.{TypedExpr}
use Rattle.typed_trees.specs.Scales.{scale_of}
use Rattle.typed_trees.specs.Types.{DataType, type_of}

abbrev pub ScaleLaw : Type 0
ScaleLaw = (at : ℕ → Option DataType) (e : TypedExpr) (t : DataType) → type_of at e ≡ Some t → scale_of e ≡ t.scale

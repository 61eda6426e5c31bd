-- The literals and the columns of an expression, as the grammar and the tables have them: numbers of 127 bits, days of 128 bits, scales of at most 36 digits, and texts without one.
-- After SQL-92 (ISO/IEC 9075:1992), 5.3 <literal>; the ranges are this project's own.
use Rattle.std.specs.Prelude.{◌≡◌, ℕ, ◌^◌, ◌==◌, Bool, true, nat_lt, nat_le, ◌&&◌, Option, Some}
use Rattle.std.specs.List.{list_all}
use Rattle.control_vectors.specs.Slots.{fits_128}
use Rattle.typed_trees.specs.declared.kinds.Kind.{Kind}
use Rattle.typed_trees.specs.declared.kinds.Kind.TheVariants.{Text}
use Rattle.typed_trees.specs.declared.typed.TypedExpr.{TypedExpr}
use Rattle.typed_trees.specs.declared.typed.TypedExpr.TheOpen.{TypedExpr-F}
use Rattle.typed_trees.specs.declared.typed.TypedExpr.TheFolds.{fold-TypedExpr}
use Rattle.typed_trees.specs.Kinds.{kind_of}
use Rattle.typed_trees.specs.Types.{DataType}

abbrev pub fits_127 : ℕ → Bool
fits_127 n = nat_lt n (2 ^ 127)

abbrev pub is_scale : ℕ → Bool
is_scale n = nat_le n 36

-- the scale of a kind: a text has none
abbrev pub kind_scale : Kind → ℕ → Bool
kind_scale Text n = n == 0
kind_scale kind n = is_scale n

-- the types of aggregates have such scales
abbrev pub AreScaled : (ℕ → Option DataType) → Type 0
AreScaled at = (n : ℕ) (t : DataType) → at n ≡ Some t → kind_scale t.kind t.scale ≡ true

abbrev pub form_written : TypedExpr-F Bool → Bool
form_written (TypedExpr-F.Number n scale) = fits_127 n && is_scale scale
form_written (TypedExpr-F.Text t) = true
form_written (TypedExpr-F.Date day) = fits_128 day
form_written (TypedExpr-F.Column c type) = kind_scale (kind_of type.kind) type.scale
form_written (TypedExpr-F.Aggregate n scale) = is_scale scale
form_written (TypedExpr-F.Signed s a) = a
form_written (TypedExpr-F.Not a) = a
form_written (TypedExpr-F.Binary o a b) = a && b
form_written (TypedExpr-F.Divide a s n) = fits_127 n && a
form_written (TypedExpr-F.Between p a b c) = a && (b && c)
form_written (TypedExpr-F.In p a bs) = a && list_all (λ b. b) bs
form_written (TypedExpr-F.IsNull p a) = a
form_written (TypedExpr-F.Coalesce a bs) = a && list_all (λ b. b) bs

unfoldable pub is_written : TypedExpr → Bool
is_written = fold-TypedExpr Bool form_written

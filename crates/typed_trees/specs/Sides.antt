-- Where text literals may stand: as sides of a comparison, of BETWEEN or of IN alone.
use Rattle.std.specs.Prelude.{Bool, true, false, ◌&&◌}
use Rattle.std.specs.List.{list_all}
use Rattle.typed_trees.specs.declared.kinds.Role.{Role}
use Rattle.typed_trees.specs.declared.kinds.Role.TheVariants.{Side, Alone}
use Rattle.typed_trees.specs.declared.typed.TypedExpr.{TypedExpr}
use Rattle.typed_trees.specs.declared.typed.TypedExpr.TheOpen.{TypedExpr-F}
use Rattle.typed_trees.specs.declared.typed.TypedExpr.TheFolds.{fold-TypedExpr}
use Rattle.typed_trees.specs.Kinds.{family_of, role_in}

abbrev pub is_side : Role → Bool
is_side Side = true
is_side Alone = false

abbrev pub form_stands : TypedExpr-F (Role → Bool) → Role → Bool
form_stands (TypedExpr-F.Number n scale) role = true
form_stands (TypedExpr-F.Text t) role = is_side role
form_stands (TypedExpr-F.Date day) role = true
form_stands (TypedExpr-F.Column c type) role = true
form_stands (TypedExpr-F.Aggregate n scale) role = true
form_stands (TypedExpr-F.Signed s a) role = a Alone
form_stands (TypedExpr-F.Not a) role = a Alone
form_stands (TypedExpr-F.Binary o a b) role = a (role_in (family_of o)) && b (role_in (family_of o))
form_stands (TypedExpr-F.Divide a s n) role = a Alone
form_stands (TypedExpr-F.Between p a b c) role = a Side && (b Side && c Side)
form_stands (TypedExpr-F.In p a bs) role = a Side && list_all (λ b. b Side) bs
form_stands (TypedExpr-F.IsNull p a) role = a Alone
form_stands (TypedExpr-F.Coalesce a bs) role = a Alone && list_all (λ b. b Alone) bs

-- whether the text literals of an expression, which stands so itself, stand where they may
unfoldable pub stands : TypedExpr → Role → Bool
stands = fold-TypedExpr (Role → Bool) form_stands

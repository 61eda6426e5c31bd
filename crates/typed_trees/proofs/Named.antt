-- What IN and COALESCE name, by what the elements of their lists name.
use Rattle.std.proofs.Common.{◌≡◌, ℕ, Bool, ◌||◌, List, [], ◌∷◌, map, refl, ap, ◌∙◌}
use Rattle.std.specs.List.{list_any}
use Rattle.query_trees.specs.declared.expr.Polarity.{Polarity}
use Rattle.typed_trees.specs.declared.typed.ColumnRef.{ColumnRef}
use Rattle.typed_trees.specs.declared.typed.TypedExpr.{TypedExpr}
use Rattle.typed_trees.specs.declared.typed.TypedExpr.TheVariants as e
use Rattle.typed_trees.specs.Names.{names_any}
use Rattle.typed_trees.proofs.NameForms.{names_In, names_Coalesce}

pub any_map : (g : TypedExpr → Bool) (ys : List TypedExpr) → list_any (λ b. b) (map g ys) ≡ list_any g ys
any_map g [] = refl
any_map g (y ∷ ys) = ap (λ b. g y || b) (any_map g ys)

pub in_names : (column : ColumnRef → Bool) (aggregate : ℕ → Bool) (c : TypedExpr) (p : Polarity) (x : TypedExpr) (ys : List TypedExpr) → c ≡ e.In p x ys → names_any column aggregate c ≡ names_any column aggregate x || list_any (names_any column aggregate) ys
in_names column aggregate c p x ys is = ap (names_any column aggregate) is ∙ (names_In column aggregate p x ys ∙ ap (λ b. names_any column aggregate x || b) (any_map (names_any column aggregate) ys))

pub choice_names : (column : ColumnRef → Bool) (aggregate : ℕ → Bool) (c x : TypedExpr) (ys : List TypedExpr) → c ≡ e.Coalesce x ys → names_any column aggregate c ≡ names_any column aggregate x || list_any (names_any column aggregate) ys
choice_names column aggregate c x ys is = ap (names_any column aggregate) is ∙ (names_Coalesce column aggregate x ys ∙ ap (λ b. names_any column aggregate x || b) (any_map (names_any column aggregate) ys))

-- Worked plans, by computation.
use Rattle.std.proofs.Common.{◌≡◌, true, false, ◌&&◌, List, [], ◌∷◌, is_some, refl, sym, ◌∙◌}
use Rattle.std.specs.List.{list_all}
use Rattle.typed_trees.specs.declared.typed.TypedExpr.{TypedExpr}
use Rattle.typed_trees.proofs.NameForms.{names_Number, names_Column, names_Binary, names_In, names_IsNull}
use Rattle.typed_values.specs.Bounds.{cannot_overflow}
use Rattle.typed_values.specs.Narrow.{bounds}
use Rattle.typed_values.proofs.FoundParts.{found_where_narrow}
use Rattle.typed_values.proofs.Ranges.{bounds_Number, bounds_Column, bounds_Binary, bounds_In, bounds_IsNull}
use Rattle.rel_plan.specs.declared.plans.RelPlan.{RelPlan}
use Rattle.rel_plan.specs.Pushes.{moved, pushed}
use Rattle.rel_plan.specs.Prunes.{pruned}
use Rattle.rel_plan.specs.Examples.{GroupTable, PruneTable, WorkedPushes, of_t, also_of_t, of_u, of_both, of_none, wide, bare, conditions}

pub grouped : GroupTable
grouped = refl

pub prunes : PruneTable
unfolding pruned
prunes = simp (names_Number, names_Column, names_Binary, names_In) refl

narrow : (es : List TypedExpr) → list_all cannot_overflow es ≡ list_all (λ e. is_some (bounds e)) es
narrow [] = refl
narrow (e ∷ es) = λ i. sym (found_where_narrow e) i && narrow es i

all_move : (p q : RelPlan) → list_all (λ e. is_some (bounds e)) p.filter ≡ true → moved p ≡ q → pushed p ≡ q
unfolding pushed
all_move p q e m = rw (narrow p.filter ∙ e) m

none_moves : (p : RelPlan) → list_all (λ e. is_some (bounds e)) p.filter ≡ false → pushed p ≡ p
unfolding pushed
none_moves p e = rw (narrow p.filter ∙ e) refl

ruleset bounded = (bounds_Number, bounds_Column, bounds_Binary, bounds_In, bounds_IsNull)

ruleset named = (names_Number, names_Column, names_Binary, names_In, names_IsNull)

pub pushes : WorkedPushes
pushes = (
  all_move (conditions [] [] (of_t ∷ of_both ∷ of_u ∷ of_none ∷ [])) _ (simp bounded refl) (simp named refl),
  all_move (conditions (of_t ∷ []) [] (of_u ∷ also_of_t ∷ of_t ∷ [])) _ (simp bounded refl) (simp named refl),
  none_moves (conditions [] [] (of_t ∷ wide ∷ of_u ∷ [])) (simp bounded refl),
  none_moves (conditions [] [] (wide ∷ [])) (simp bounded refl),
  all_move bare bare refl refl,
)

-- What a plan names, part by part.
use Rattle.std.proofs.Common.{◌≡◌, Bool, ◌||◌, List, [], ◌∷◌, flat_map, option_to_list, refl, ap, ◌∙◌}
use Rattle.std.specs.List.{list_any, enumerate_from}
use Rattle.std.proofs.lemmas.List.Folds.{list_any-append}
use Rattle.typed_trees.specs.declared.typed.ColumnRef.{ColumnRef}
use Rattle.typed_trees.specs.declared.typed.TypedExpr.{TypedExpr}
use Rattle.rel_plan.specs.declared.plans.RelPlan.{RelPlan}
use Rattle.rel_plan.specs.Plans.{expressions}
use Rattle.rel_plan.specs.Prunes.{join_columns, key_columns, columns_named}

any_joined : {X Y : Type 0} (p : Y → Bool) (f : X → List Y) (xs : List X) → list_any p (flat_map f xs) ≡ list_any (λ x. list_any p (f x)) xs
any_joined p f [] = refl
any_joined p f (x ∷ xs) = list_any-append p (f x) (flat_map f xs) ∙ ap (λ b. list_any p (f x) || b) (any_joined p f xs)

pub any_expression : (test : TypedExpr → Bool) (p : RelPlan) → list_any test (expressions p) ≡ (list_any test p.filter || (list_any (λ s. list_any test s.filter) p.sources || (list_any (λ a. list_any test (option_to_list a.argument)) p.aggregates || (list_any test (option_to_list p.having) || list_any test p.items))))
any_expression test p = simp (list_any-append, any_joined)

pub any_column : (test : ColumnRef → Bool) (p : RelPlan) → list_any test (columns_named p) ≡ (list_any (λ s. list_any test (join_columns s)) (enumerate_from 0 p.sources) || (list_any test p.groups || list_any (λ k. list_any test (key_columns k)) p.order))
any_column test p = simp (list_any-append, any_joined)

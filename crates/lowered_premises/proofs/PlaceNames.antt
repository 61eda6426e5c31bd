-- What the expressions, the groups and the keys of a plan name, the plan names.
use Rattle.std.proofs.Common.{◌≡◌, ℕ, ◌==◌, Bool, true, false, ◌&&◌, ◌||◌, List, [], ◌∷◌, ◌++◌, Option, Some, option_to_list, refl, sym, ap, subst, arith}
use Rattle.std.specs.List.{Contains, list_any}
use Rattle.std.proofs.lemmas.Bool.Decides.{nat_tests}
use Rattle.std.proofs.lemmas.List.Elements.{Contains-append_left, Contains-append_right}
use Rattle.std.proofs.lemmas.List.Folds.{list_any-from_Any}
use Rattle.typed_trees.specs.declared.naming.Wanted.TheVariants as wanted
use Rattle.typed_trees.specs.declared.typed.Aggregate.{Aggregate}
use Rattle.typed_trees.specs.declared.typed.ColumnRef.{ColumnRef}
use Rattle.typed_trees.specs.declared.typed.OrderKey.{OrderKey}
use Rattle.typed_trees.specs.declared.typed.PlanSource.{PlanSource}
use Rattle.typed_trees.specs.declared.typed.TypedExpr.{TypedExpr}
use Rattle.typed_trees.specs.Names.{names, same_column, names_column}
use Rattle.rel_plan.specs.declared.plans.RelPlan.{RelPlan}
use Rattle.rel_plan.specs.Plans.{conditions_of_sources, arguments_of, expressions}
use Rattle.rel_plan.specs.Prunes.{columns_of_joins, sorted_by, key_columns, columns_of_keys, columns_named, is_named}
use Rattle.lowered_premises.proofs.Dictionaries.{in_joined}

-- ---- lists

or_left : (a b : Bool) → a ≡ true → (a || b) ≡ true
or_left a b h = ap (λ x. x || b) h

or_right : (a b : Bool) → b ≡ true → (a || b) ≡ true
or_right true b h = refl
or_right false b h = h

-- an element that passes
any_of : {X : Type 0} (p : X → Bool) (xs : List X) (x : X) → Contains xs x → p x ≡ true → list_any p xs ≡ true
any_of p xs x h e = list_any-from_Any p xs (h.0, x, h.1, h.2, e)

same_number : (n : ℕ) → (n == n) ≡ true
same_number n = grind (arith, nat_tests)

same_itself : (c : ColumnRef) → same_column c c ≡ true
same_itself c = λ i. same_number c.source i && same_number c.column i

module _ (p : RelPlan) where
  -- an expression of the plan names what the plan names
  pub named_in : (e : TypedExpr) (c : ColumnRef) → Contains (expressions p) e → names_column c e ≡ true → is_named p c ≡ true
  named_in e c is n = or_left (list_any (names (wanted.Column c)) (expressions p)) (list_any (same_column c) (columns_named p)) (any_of (names (wanted.Column c)) (expressions p) e is n)

  named_apart : (c d : ColumnRef) → Contains (columns_named p) d → same_column c d ≡ true → is_named p c ≡ true
  named_apart c d is e = or_right (list_any (names (wanted.Column c)) (expressions p)) (list_any (same_column c) (columns_named p)) (any_of (same_column c) (columns_named p) d is e)

  abbrev rest : List TypedExpr
  rest = conditions_of_sources p.sources ++ (arguments_of p.aggregates ++ (option_to_list p.having ++ p.items))

  pub in_filter : (e : TypedExpr) → Contains p.filter e → Contains (expressions p) e
  in_filter e m = Contains-append_left p.filter rest e m

  pub in_sources : (s : PlanSource) (e : TypedExpr) → p.sources ≡ s ∷ [] → Contains s.filter e → Contains (expressions p) e
  in_sources s e only m =
      let here : Contains (conditions_of_sources p.sources) e = in_joined (λ (x : PlanSource). x.filter) p.sources s e (subst (λ (l : List PlanSource). Contains l s) (sym only) (0, omega arith, refl)) m in
      Contains-append_right p.filter rest e (Contains-append_left (conditions_of_sources p.sources) (arguments_of p.aggregates ++ (option_to_list p.having ++ p.items)) e here)

  behind : (e : TypedExpr) → Contains (arguments_of p.aggregates ++ (option_to_list p.having ++ p.items)) e → Contains (expressions p) e
  behind e m = Contains-append_right p.filter rest e (Contains-append_right (conditions_of_sources p.sources) (arguments_of p.aggregates ++ (option_to_list p.having ++ p.items)) e m)

  pub in_arguments : (a : Aggregate) (e : TypedExpr) → Contains p.aggregates a → a.argument ≡ Some e → Contains (expressions p) e
  in_arguments a e m is =
      let one : Contains (option_to_list a.argument) e = subst (λ (x : Option TypedExpr). Contains (option_to_list x) e) (sym is) (0, omega arith, refl) in
      behind e (Contains-append_left (arguments_of p.aggregates) (option_to_list p.having ++ p.items) e (in_joined (λ (x : Aggregate). option_to_list x.argument) p.aggregates a e m one))

  pub in_items : (e : TypedExpr) → Contains p.items e → Contains (expressions p) e
  in_items e m = behind e (Contains-append_right (arguments_of p.aggregates) (option_to_list p.having ++ p.items) e (Contains-append_right (option_to_list p.having) p.items e m))

  pub group_named : (c : ColumnRef) → Contains p.groups c → is_named p c ≡ true
  group_named c m = named_apart c c (Contains-append_right (columns_of_joins p.sources) (p.groups ++ columns_of_keys p.order) c (Contains-append_left p.groups (columns_of_keys p.order) c m)) (same_itself c)

  pub key_named : (k : OrderKey) (c : ColumnRef) → Contains p.order k → Contains (sorted_by k.key) c → is_named p c ≡ true
  key_named k c m is =
      let here = in_joined key_columns p.order k c m is in
      named_apart c c (Contains-append_right (columns_of_joins p.sources) (p.groups ++ columns_of_keys p.order) c (Contains-append_right p.groups (columns_of_keys p.order) c here)) (same_itself c)

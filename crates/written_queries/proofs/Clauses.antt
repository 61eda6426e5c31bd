-- The literals of the conditions and the items that typing accepts are as the grammar has them.
use Rattle.std.proofs.Common.{◌≡◌, ℕ, true, not, List, [], ◌∷◌, Option, Some, None, Ok, subst}
use Rattle.std.specs.Prelude.{All}
use Rattle.std.specs.List.{list_all}
use Rattle.std.specs.Option.{ForSome}
use Rattle.std.proofs.lemmas.Bool.{and_parts}
use Rattle.std.proofs.lemmas.List.Elements.{All-nil, All-head, All-tail, All-push}
use Rattle.query_trees.specs.declared.expr.Expr.{Expr}
use Rattle.query_trees.specs.declared.clauses.SelectItem.{SelectItem}
use Rattle.query_trees.specs.declared.clauses.SelectList.{SelectList}
use Rattle.query_trees.specs.declared.clauses.SelectList.TheVariants as select
use Rattle.typed_trees.specs.declared.kinds.Role.TheVariants.{Alone}
use Rattle.typed_trees.specs.declared.typed.TypedExpr.{TypedExpr}
use Rattle.typed_trees.specs.declared.typed.TypedExpr.TheVariants as e
use Rattle.typed_trees.specs.Kinds.{is_truth}
use Rattle.typed_trees.proofs.Inversions.{some_same}
use Rattle.query_types.specs.declared.items.Shown.{Shown}
use Rattle.query_types.specs.declared.refusal.TypeKind.TheVariants.{TypesDiffer, TooManyItems}
use Rattle.query_types.specs.declared.scope.Found.{Found}
use Rattle.query_types.specs.declared.stars.Starred.{Starred}
use Rattle.query_types.specs.declared.typing.Typed.{Typed}
use Rattle.query_types.specs.Expressions.{condition}
use Rattle.query_types.specs.Grouping.{every_column}
use Rattle.query_types.specs.Items as i
use Rattle.query_types.specs.Items.{is_full, with_item, nothing_shown, star_item, star_items, with_value, item, items, shown_of}
use Rattle.query_types.specs.Names.{Scope, standing}
use Rattle.query_types.specs.Typing.{having}
use Rattle.query_types.proofs.OutcomeLaws.{ok_same, then_ok, not_refused}
use Rattle.written_queries.specs.Bounds.{is_bounded, item_bounded, list_bounded, optional_bounded}
use Rattle.written_queries.specs.Laws.{IsAsWritten}
use Rattle.written_queries.specs.Scales.{HasScales}
use Rattle.written_queries.proofs.Columns.{IsScaledStar, stars_scaled}
use Rattle.written_queries.proofs.Forms.{Good, found_good}
use Rattle.written_queries.proofs.Steps.{Makes, makes_pure, makes_lift, makes_then}
use Rattle.written_queries.proofs.Trees.{typed_sound}

-- ---- conditions

pub condition_makes : (s : Scope) (x : Expr) → HasScales s.defs → is_bounded x ≡ true → Makes IsAsWritten (condition s x)
unfolding condition
condition_makes s x c h =
    makes_then ((typed_sound x h).makes s Alone c) (λ t g.
    makes_lift _ (λ v is.
    let y = not_refused (not (is_truth t.kind)) TypesDiffer x.at (Ok t.value) v is in
    subst IsAsWritten (ok_same t.value v y.1) g.written))

abbrev pub IsHaving : Option TypedExpr → Type 0
IsHaving o = ForSome o IsAsWritten

pub having_makes : (s : Scope) (x : Option Expr) → HasScales s.defs → optional_bounded x ≡ true → Makes IsHaving (having s x)
having_makes s None c h = makes_pure None (λ v none. absurd (cc))
having_makes s (Some x) c h = makes_then (condition_makes s x c h) (λ v g. makes_pure (Some v) (λ w same. subst IsAsWritten (some_same v w same) g))

-- ---- the select list

abbrev pub IsShown : Shown → Type 0
IsShown shown = All IsAsWritten shown.items

star_shown : (s : Scope) (at : ℕ) (shown more : Shown) (f : Starred) → IsScaledStar f → IsShown shown → star_item s at shown f ≡ Ok more → IsShown more
unfolding star_item
star_shown s at shown more f scaled h is =
    let free = not_refused (is_full shown) TooManyItems at _ more is in
    let y = then_ok (standing s at (i.found_starred f)) (λ (g : Found). Ok (with_item shown (e.Column f.column f.type_) f.name)) more free.1 in
    subst IsShown (ok_same (with_item shown (e.Column f.column f.type_) f.name) more y.2) (All-push IsAsWritten shown.items (e.Column f.column f.type_) h (found_good f.column f.type_ scaled).written)

stars_shown : (s : Scope) (at : ℕ) (fs : List Starred) (shown more : Shown) → All IsScaledStar fs → IsShown shown → star_items s at shown fs ≡ Ok more → IsShown more
stars_shown s at [] shown more all h is = subst IsShown (ok_same shown more is) h
stars_shown s at (f ∷ fs) shown more all h is =
    let x = then_ok (star_item s at shown f) (λ z. star_items s at z fs) more is in
    stars_shown s at fs x.0 more (All-tail IsScaledStar f fs all) (star_shown s at shown x.0 f (All-head IsScaledStar f fs all) h x.1) x.2

value_shown : (shown more : Shown) (x : SelectItem) (t : Typed) → IsShown shown → Good t → with_value shown x t ≡ Ok more → IsShown more
unfolding with_value
value_shown shown more x t h g is =
    let y = not_refused (is_truth t.kind) TypesDiffer x.value.at (Ok (with_item shown t.value (i.name_of shown x))) more is in
    subst IsShown (ok_same (with_item shown t.value (i.name_of shown x)) more y.1) (All-push IsAsWritten shown.items t.value h g.written)

item_makes : (s : Scope) (shown : Shown) (x : SelectItem) → HasScales s.defs → item_bounded x ≡ true → IsShown shown → Makes IsShown (item s shown x)
unfolding item
item_makes s shown x c bounded h = record {
  gives = λ l m more w is.
      let typed = makes_then ((typed_sound x.value bounded).makes s Alone c) (λ t g. makes_lift {P = IsShown} (with_value shown x t) (λ z done. value_shown shown z x t h g done)) in
      typed.gives l m more w (not_refused (is_full shown) TooManyItems x.value.at _ (more, m) is).1;
}

items_make : (s : Scope) (xs : List SelectItem) (shown : Shown) → HasScales s.defs → list_all item_bounded xs ≡ true → IsShown shown → Makes IsShown (items s shown xs)
items_make s [] shown c bounded h = makes_pure shown h
items_make s (x ∷ xs) shown c bounded h =
    let both = and_parts (item_bounded x) (list_all item_bounded xs) bounded in
    makes_then (item_makes s shown x c both.0 h) (λ more g. items_make s xs more c both.1 g)

pub list_makes : (s : Scope) (list : SelectList) → HasScales s.defs → list_bounded list ≡ true → Makes IsShown (shown_of s list)
list_makes s (select.All star) c bounded =
    makes_lift (star_items s star nothing_shown (every_column s.defs 0 s.tables)) (λ more is. stars_shown s star (every_column s.defs 0 s.tables) nothing_shown more (stars_scaled s.defs c 0 s.tables) (All-nil IsAsWritten) is)
list_makes s (select.Items xs) c bounded = items_make s xs nothing_shown c bounded (All-nil IsAsWritten)

-- Conditions and the select list: what typing gives is typed.
use Rattle.std.proofs.Common.{◌≡◌, ℕ, Bool, true, not, List, [], ◌∷◌, length, length-append, Option, Some, None, Ok, refl, ap, subst, arith}
use Rattle.std.specs.Prelude.{All}
use Rattle.std.specs.Option.{ForSome}
use Rattle.std.proofs.lemmas.List.Elements.{All-nil, All-head, All-tail, All-weaker, All-push}
use Rattle.query_trees.specs.declared.expr.Expr.{Expr}
use Rattle.query_trees.specs.declared.clauses.SelectItem.{SelectItem}
use Rattle.query_trees.specs.declared.clauses.SelectList.{SelectList}
use Rattle.query_trees.specs.declared.clauses.SelectList.TheVariants as select
use Rattle.sql_read.specs.declared.definition.ColumnKind.{ColumnKind}
use Rattle.sql_read.specs.declared.definition.ColumnKind.TheVariants as column
use Rattle.typed_trees.specs.declared.kinds.Kind.{Kind}
use Rattle.typed_trees.specs.declared.kinds.Role.TheVariants.{Alone}
use Rattle.typed_trees.specs.declared.typed.Aggregate.{Aggregate}
use Rattle.typed_trees.specs.declared.typed.TypedExpr.{TypedExpr}
use Rattle.typed_trees.specs.declared.typed.TypedExpr.TheVariants as e
use Rattle.typed_trees.specs.Columns.{columns_in}
use Rattle.typed_trees.specs.Kinds.{kind_of, is_truth}
use Rattle.typed_trees.specs.Sides.{stands}
use Rattle.typed_trees.specs.Typed.{HasType, is_value}
use Rattle.typed_trees.specs.Types.{DataType, typed_as, type_of}
use Rattle.typed_trees.proofs.Inversions.{some_same}
use Rattle.query_types.specs.declared.items.Shown.{Shown}
use Rattle.query_types.specs.declared.refusal.TypeKind.TheVariants.{TypesDiffer, TooManyItems}
use Rattle.query_types.specs.declared.scope.Found.{Found}
use Rattle.query_types.specs.declared.stars.Starred.{Starred}
use Rattle.query_types.specs.declared.typing.Typed.{Typed}
use Rattle.query_types.specs.Expressions.{is_row, condition}
use Rattle.query_types.specs.Grouping.{every_column}
use Rattle.query_types.specs.Items as i
use Rattle.query_types.specs.Items.{is_full, with_item, nothing_shown, star_item, star_items, with_value, item, items, shown_of}
use Rattle.query_types.specs.Names.{Scope, standing}
use Rattle.query_types.specs.Typing.{having}
use Rattle.query_types.proofs.OutcomeLaws.{ok_same, then_ok, not_refused}
use Rattle.typing_laws.proofs.Columns.{IsStanding, IsStarred, starred_found, found_stands}
use Rattle.typing_laws.proofs.Forms.{column_of, found_good}
use Rattle.typing_laws.proofs.Grown.{Grown, Sees, sees_grown, Good, From, from_pure, from_lift, from_then}
use Rattle.typing_laws.proofs.Lists.{not_false}
use Rattle.typing_laws.proofs.Typers.{typed_sound}

-- an expression of such a kind, over the aggregates so far and those to come
pub record Fits (s : Scope) (allowed : Kind → Bool) (l : List Aggregate) (x : TypedExpr) : Type 0 where
  pub type : DataType
  pub is : (at : ℕ → Option DataType) → Sees (is_row s.level) l at → type_of at x ≡ Some type
  pub kind : allowed type.kind ≡ true
  pub sides : stands x Alone ≡ true
  pub columns : All (IsStanding s) (columns_in x)

fits_of : (s : Scope) (allowed : Kind → Bool) (l : List Aggregate) (t : Typed) → Good s Alone l t → allowed t.kind ≡ true → Fits s allowed l t.value
fits_of s allowed l t g h = record { type = typed_as t.kind t.scale; is = g.type; kind = h; sides = g.sides; columns = g.columns }

pub fits_more : (s : Scope) (allowed : Kind → Bool) (l m : List Aggregate) (x : TypedExpr) → Grown s l m → Fits s allowed l x → Fits s allowed m x
fits_more s allowed l m x g h = record { type = h.type; is = λ at sees. h.is at (sees_grown (is_row s.level) at g sees); kind = h.kind; sides = h.sides; columns = h.columns }

pub has_type : (s : Scope) (allowed : Kind → Bool) (l : List Aggregate) (x : TypedExpr) (at : ℕ → Option DataType) → Sees (is_row s.level) l at → Fits s allowed l x → HasType at allowed x
has_type s allowed l x at sees h = record { type = h.type; is = h.is at sees; kind = h.kind; sides = h.sides }

-- ---- conditions

pub condition_fits : (s : Scope) (x : Expr) (l : List Aggregate) → From s l (Fits s is_truth) (condition s x)
unfolding condition
condition_fits s x l =
    from_then ((typed_sound x).from s Alone l) (λ t m grown g.
    from_lift _ (λ c is.
    let y = not_refused (not (is_truth t.kind)) TypesDiffer x.at (Ok t.value) c is in
    subst (λ z. Fits s is_truth m z) (ok_same t.value c y.1) (fits_of s is_truth m t g (not_false (is_truth t.kind) y.0))))

abbrev pub IsHaving : Scope → List Aggregate → Option TypedExpr → Type 0
IsHaving s l o = ForSome o (Fits s is_truth l)

pub having_fits : (s : Scope) (x : Option Expr) (l : List Aggregate) → From s l (IsHaving s) (having s x)
having_fits s None l = from_pure None (λ c none. absurd (cc))
having_fits s (Some x) l =
    from_then (condition_fits s x l) (λ c m grown g.
    from_pure (Some c) (λ d same. subst (λ z. Fits s is_truth m z) (some_same c d same) g))

-- ---- the select list

pub record IsShown (s : Scope) (l : List Aggregate) (shown : Shown) : Type 0 where
  pub items : All (Fits s is_value l) shown.items
  pub names : length shown.names ≡ length shown.items

pub shown_more : (s : Scope) (l m : List Aggregate) (shown : Shown) → Grown s l m → IsShown s l shown → IsShown s m shown
shown_more s l m shown g h = record { items = All-weaker (Fits s is_value l) (Fits s is_value m) (λ x k. fits_more s is_value l m x g k) shown.items h.items; names = h.names }

nothing : (s : Scope) (l : List Aggregate) → IsShown s l nothing_shown
nothing s l = record { items = All-nil (Fits s is_value l); names = refl }

with_one : (s : Scope) (l : List Aggregate) (shown : Shown) (x : TypedExpr) (name : List ℕ) → IsShown s l shown → Fits s is_value l x → IsShown s l (with_item shown x name)
with_one s l shown x name h g = record {
  items = All-push (Fits s is_value l) shown.items x h.items g;
  names =
      let same = h.names in
      omega (arith, same, length-append shown.names (name ∷ []), length-append shown.items (x ∷ []));
}

-- no column is a truth
column_value : (k : ColumnKind) → is_value (kind_of k) ≡ true
column_value column.Integer = refl
column_value column.Date = refl
column_value column.Text = refl
column_value column.Decimal = refl

star_shown : (s : Scope) (l : List Aggregate) (at : ℕ) (shown more : Shown) (f : Starred) → IsStarred s.defs s.tables f → IsShown s l shown → star_item s at shown f ≡ Ok more → IsShown s l more
unfolding star_item
star_shown s l at shown more f found h is =
    let free = not_refused (is_full shown) TooManyItems at _ more is in
    let y = then_ok (standing s at (i.found_starred f)) (λ (g : Found). Ok (with_item shown (e.Column f.column f.type_) f.name)) more free.1 in
    subst (λ z. IsShown s l z) (ok_same (with_item shown (e.Column f.column f.type_) f.name) more y.2)
    (with_one s l shown (e.Column f.column f.type_) f.name h (fits_of s is_value l (column_of f.column f.type_) (found_good s Alone l f.column f.type_ (found_stands s at (i.found_starred f) y.0 found y.1)) (column_value f.type_.kind)))

stars_shown : (s : Scope) (l : List Aggregate) (at : ℕ) (fs : List Starred) (shown more : Shown) → All (IsStarred s.defs s.tables) fs → IsShown s l shown → star_items s at shown fs ≡ Ok more → IsShown s l more
stars_shown s l at [] shown more all h is = subst (λ z. IsShown s l z) (ok_same shown more is) h
stars_shown s l at (f ∷ fs) shown more all h is =
    let x = then_ok (star_item s at shown f) (λ z. star_items s at z fs) more is in
    stars_shown s l at fs x.0 more (All-tail (IsStarred s.defs s.tables) f fs all) (star_shown s l at shown x.0 f (All-head (IsStarred s.defs s.tables) f fs all) h x.1) x.2

value_shown : (s : Scope) (l : List Aggregate) (shown more : Shown) (x : SelectItem) (t : Typed) → IsShown s l shown → Good s Alone l t → with_value shown x t ≡ Ok more → IsShown s l more
unfolding with_value
value_shown s l shown more x t h g is =
    let y = not_refused (is_truth t.kind) TypesDiffer x.value.at (Ok (with_item shown t.value (i.name_of shown x))) more is in
    subst (λ z. IsShown s l z) (ok_same (with_item shown t.value (i.name_of shown x)) more y.1)
    (with_one s l shown t.value (i.name_of shown x) h (fits_of s is_value l t g (ap not y.0)))

item_shown : (s : Scope) (l : List Aggregate) (shown : Shown) (x : SelectItem) → IsShown s l shown → From s l (IsShown s) (item s shown x)
unfolding item
item_shown s l shown x h = record {
  gives = λ m more is.
      let typed = from_then ((typed_sound x.value).from s Alone l) (λ t n grown g. from_lift {P = IsShown s} (with_value shown x t) (λ z done. value_shown s n shown z x t (shown_more s l n shown grown h) g done)) in
      typed.gives m more (not_refused (is_full shown) TooManyItems x.value.at _ (more, m) is).1;
}

items_shown : (s : Scope) (xs : List SelectItem) (l : List Aggregate) (shown : Shown) → IsShown s l shown → From s l (IsShown s) (items s shown xs)
items_shown s [] l shown h = from_pure shown h
items_shown s (x ∷ xs) l shown h = from_then (item_shown s l shown x h) (λ more m grown g. items_shown s xs m more g)

pub list_shown : (s : Scope) (list : SelectList) (l : List Aggregate) → From s l (IsShown s) (shown_of s list)
list_shown s (select.All star) l = from_lift (star_items s star nothing_shown (every_column s.defs 0 s.tables)) (λ more is. stars_shown s l star (every_column s.defs 0 s.tables) nothing_shown more (starred_found s.defs s.tables) (nothing s l) is)
list_shown s (select.Items xs) l = items_shown s xs l nothing_shown (nothing s l)

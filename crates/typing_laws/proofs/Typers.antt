-- Every expression that typing accepts has the type that it gives, by induction over the expression.
use Rattle.std.proofs.Common.{◌≡◌, ℕ, List, [], ◌∷◌, ◌++◌, map, sym, subst}
use Rattle.std.proofs.lemmas.List.Elements.{All-nil, All-weaker, All-push}
use Rattle.query_trees.specs.declared.expr.AggregateKind.{AggregateKind}
use Rattle.query_trees.specs.declared.expr.Expr.{Expr, Expr-F, roll-Expr, map-Expr, fold-roll-Expr, ind-Expr}
use Rattle.query_trees.specs.declared.expr.Form.{Form, Form-F, roll-Form, map-Form, fold-roll-Form}
use Rattle.typed_trees.specs.declared.kinds.Kind.TheVariants.{Number, Date}
use Rattle.typed_trees.specs.declared.kinds.Role.{Role}
use Rattle.typed_trees.specs.declared.kinds.Role.TheVariants.{Side, Alone}
use Rattle.typed_trees.specs.declared.typed.Aggregate.{Aggregate}
use Rattle.typed_trees.specs.declared.typed.TypedExpr.TheVariants as e
use Rattle.typed_trees.specs.Columns.{columns_in}
use Rattle.typed_trees.specs.Kinds.{family_of, role_in}
use Rattle.typed_trees.specs.Types.{no_aggregate}
use Rattle.query_types.specs.declared.typing.Typed.{Typed}
use Rattle.query_types.specs.Expressions as t
use Rattle.query_types.specs.Expressions.{Typer, form_typer, expr_typer, typer}
use Rattle.query_types.specs.Names.{Scope, inside}
use Rattle.query_types.proofs.Typers.{form_typed}
use Rattle.typing_laws.specs.Laws.{IsDeclared}
use Rattle.typing_laws.proofs.Columns.{places, IsStanding}
use Rattle.typing_laws.proofs.Forms.{GoodList, number_good, date_good, text_good, column_good, counted_good, folded_good, signed_good, negated_good, binary_good, divided_good, between_good, null_test_good, among_good, choice_good}
use Rattle.typing_laws.proofs.Grown.{Grown, Good, good_more, From, from_pure, from_lift, from_then, from_inside}

-- what a typer gives is typed, in every scope
pub record Sound (T : Typer) : Type 0 where
  pub from : (s : Scope) (role : Role) (l : List Aggregate) → From s l (Good s role) (T s role)

abbrev IsSound : Expr → Type 0
IsSound x = Sound (typer x)

-- ---- each form

abbrev Elements : Type 0
Elements = List ((x : Expr) × IsSound x)

abbrev exprs : Elements → List Expr
exprs ys = map (λ y. y.0) ys

list_more : (s : Scope) (role : Role) (l m : List Aggregate) (ts : List Typed) → Grown s l m → GoodList s role l ts → GoodList s role m ts
list_more s role l m ts g h = All-weaker (Good s role l) (Good s role m) (λ x k. good_more g k) ts h

each_good : (s : Scope) (role : Role) (ys : Elements) (l : List Aggregate) (before : List Typed) → GoodList s role l before → From s l (GoodList s role) (t.each s role before (map typer (exprs ys)))
each_good s role [] l before h = from_pure before h
each_good s role (y ∷ ys) l before h =
    from_then (y.1.from s role l) (λ x m grown g.
    each_good s role ys m (before ++ x ∷ []) (All-push (Good s role m) before x (list_more s role l m before grown h) g))

aggregate_sound : (of : AggregateKind) (at : ℕ) (T : Typer) → Sound T → Sound (form_typer (Form-F.Aggregate of T) at)
aggregate_sound of at T h = record {
  from = λ s role l. from_then (from_inside s (h.from (inside s) Alone l)) (λ a m grown g. record { gives = λ n x e. folded_good s role m n of at a x (g.type no_aggregate tt) g.sides (All-weaker (IsStanding (inside s)) (IsDeclared s.defs (places s.tables)) (λ c k. k.declared) (columns_in a.value) g.columns) e });
}

-- ---- the induction

abbrev FormIsSound : Form → Type 0
FormIsSound form = (at : ℕ) → Sound (form_typed form at)

abbrev Layer : Type 0
Layer = Form-F ((x : Form) × FormIsSound x) ((x : Expr) × IsSound x)

abbrev opened : Layer → Form-F Form Expr
opened y = map-Form ((x : Form) × FormIsSound x) ((x : Expr) × IsSound x) Form Expr (λ e. e.0) (λ e. e.0) y

layer_typed : (x : Form-F Form Expr) → form_typed (roll-Form x) ≡ form_typer (map-Form Form Expr (ℕ → Typer) Typer form_typed typer x)
unfolding typer
layer_typed x = fold-roll-Form (ℕ → Typer) Typer form_typer expr_typer x

by_parts : (x : Form-F Form Expr) → ((at : ℕ) → Sound (form_typer (map-Form Form Expr (ℕ → Typer) Typer form_typed typer x) at)) → FormIsSound (roll-Form x)
by_parts x h at = subst (λ (T : ℕ → Typer). Sound (T at)) (sym (layer_typed x)) (h at)

by_layer : (y : Layer) → FormIsSound (roll-Form (opened y))
by_layer (Form-F.Number n scale) = by_parts (Form-F.Number n scale) (λ at. record { from = λ s role l. from_pure (t.typed_as Number scale (e.Number n scale)) (number_good s role l n scale) })
by_layer (Form-F.Text text) = by_parts (Form-F.Text text) (λ at. record { from = λ s role l. from_lift (t.literal role text at) (λ a is. text_good s role l text at a is) })
by_layer (Form-F.Date day) = by_parts (Form-F.Date day) (λ at. record { from = λ s role l. from_pure (t.typed_as Date 0 (e.Date day)) (date_good s role l day) })
by_layer (Form-F.Column c) = by_parts (Form-F.Column c) (λ at. record { from = λ s role l. from_lift (t.named s c) (λ a is. column_good s role l c a is) })
by_layer Form-F.CountAll = by_parts Form-F.CountAll (λ at. record { from = λ s role l. record { gives = λ m a is. counted_good s role l m at a is } })
by_layer (Form-F.Aggregate of x) = by_parts (Form-F.Aggregate of x.0) (λ at. aggregate_sound of at (typer x.0) x.1)
by_layer (Form-F.Enclosed x) = by_parts (Form-F.Enclosed x.0) (λ at. record { from = λ s role l. x.1.from s role l })
by_layer (Form-F.Signed sign x) = by_parts (Form-F.Signed sign x.0) (λ at. record { from = λ s role l. from_then (x.1.from s Alone l) (λ a m grown g. from_lift (t.signed sign at a) (λ b is. signed_good s role m sign at a b g is)) })
by_layer (Form-F.Not x) = by_parts (Form-F.Not x.0) (λ at. record { from = λ s role l. from_then (x.1.from s Alone l) (λ a m grown g. from_lift (t.negated at a) (λ b is. negated_good s role m at a b g is)) })
by_layer (Form-F.Binary o place x y) =
    by_parts (Form-F.Binary o place x.0 y.0) (λ at. record {
      from = λ s role l.
          from_then (x.1.from s (role_in (family_of o)) l) (λ a m grown g.
          from_then (y.1.from s (role_in (family_of o)) m) (λ b n more h.
          from_lift (t.binary o place a b) (λ c is. binary_good s role n o place a b c (good_more more g) h is)));
    })
by_layer (Form-F.Divide place x d) = by_parts (Form-F.Divide place x.0 d) (λ at. record { from = λ s role l. from_then (x.1.from s Alone l) (λ a m grown g. from_lift (t.divided place a d) (λ b is. divided_good s role m place a d b g is)) })
by_layer (Form-F.Between p place x y z) =
    by_parts (Form-F.Between p place x.0 y.0 z.0) (λ at. record {
      from = λ s role l.
          from_then (x.1.from s Side l) (λ a m grown g.
          from_then (y.1.from s Side m) (λ low n more h.
          from_then (z.1.from s Side n) (λ high k last i.
          from_lift (t.between p place a low high) (λ b is. between_good s role k p place a low high b (good_more last (good_more more g)) (good_more last h) i is))));
    })
by_layer (Form-F.In p place x ys) =
    by_parts (Form-F.In p place x.0 (exprs ys)) (λ at. record {
      from = λ s role l.
          from_then (x.1.from s Side l) (λ a m grown g.
          from_then (each_good s Side ys m [] (All-nil (Good s Side m))) (λ ts n more h.
          from_lift (t.among p place a ts) (λ b is. among_good s role n p place a ts b (good_more more g) h is)));
    })
by_layer (Form-F.IsNull p place x) = by_parts (Form-F.IsNull p place x.0) (λ at. record { from = λ s role l. from_then (x.1.from s Alone l) (λ a m grown g. from_lift (t.null_test p place a) (λ b is. null_test_good s role m p place a b g is)) })
by_layer (Form-F.Coalesce x ys) =
    by_parts (Form-F.Coalesce x.0 (exprs ys)) (λ at. record {
      from = λ s role l.
          from_then (x.1.from s Alone l) (λ a m grown g.
          from_then (each_good s Alone ys m [] (All-nil (Good s Alone m))) (λ ts n more h.
          from_lift (t.choice at a ts) (λ b is. choice_good s role n at a ts b (good_more more g) h is)));
    })

-- an expression is its form at a byte
by_form : (y : Expr-F ((x : Form) × FormIsSound x) ((x : Expr) × IsSound x)) → IsSound (roll-Expr (map-Expr ((x : Form) × FormIsSound x) ((x : Expr) × IsSound x) Form Expr (λ e. e.0) (λ e. e.0) y))
unfolding typer
by_form y =
    let x = map-Expr ((x : Form) × FormIsSound x) ((x : Expr) × IsSound x) Form Expr (λ e. e.0) (λ e. e.0) y in
    let types : typer (roll-Expr x) ≡ form_typed y.form.0 y.at = fold-roll-Expr (ℕ → Typer) Typer form_typer expr_typer x in
    subst (λ (T : Typer). Sound T) (sym types) (y.form.1 y.at)

pub typed_sound : (x : Expr) → Sound (typer x)
typed_sound = ind-Expr FormIsSound IsSound (λ x y is. subst (λ z. FormIsSound (roll-Form z)) is (by_layer y)) (λ x y is. subst (λ z. IsSound (roll-Expr z)) is (by_form y))

-- The literals of every expression that typing accepts are as the grammar has them, by induction over the expression that is read.
use Rattle.std.proofs.Common.{◌≡◌, ◌∙◌, ℕ, Bool, true, not, ◌&&◌, List, [], ◌∷◌, ◌++◌, length, map, Some, None, sym, subst, arith}
use Rattle.std.specs.Prelude.{nat_le}
use Rattle.std.specs.List.{list_all}
use Rattle.std.proofs.lemmas.Bool.{and_parts}
use Rattle.std.proofs.lemmas.List.Elements.{All-nil, All-push}
use Rattle.sql_read.specs.Lexis.{max_integer}
use Rattle.query_trees.specs.declared.expr.AggregateKind.{AggregateKind as Written}
use Rattle.query_trees.specs.declared.expr.Expr.{Expr, Expr-F, roll-Expr, map-Expr, fold-roll-Expr, ind-Expr}
use Rattle.query_trees.specs.declared.expr.Form.{Form, Form-F, roll-Form, map-Form, fold-roll-Form}
use Rattle.typed_trees.specs.declared.kinds.Kind.TheVariants.{Number, Date}
use Rattle.typed_trees.specs.declared.kinds.Role.{Role}
use Rattle.typed_trees.specs.declared.kinds.Role.TheVariants.{Side, Alone}
use Rattle.typed_trees.specs.declared.typed.Aggregate.{Aggregate}
use Rattle.typed_trees.specs.declared.typed.AggregateKind.TheVariants.{Count}
use Rattle.typed_trees.specs.declared.typed.TypedExpr.TheVariants as e
use Rattle.typed_trees.specs.Kinds.{family_of, role_in}
use Rattle.typed_trees.proofs.Inversions.{some_same}
use Rattle.query_types.specs.declared.refusal.TypeKind.TheVariants.{TypesDiffer, NestedAggregate}
use Rattle.query_types.specs.declared.scope.Level.{Level}
use Rattle.query_types.specs.declared.typing.Typed.{Typed}
use Rattle.query_types.specs.Expressions as t
use Rattle.query_types.specs.Expressions.{is_row, Typer, form_typer, expr_typer, typer}
use Rattle.query_types.specs.Kinds.{folds}
use Rattle.query_types.specs.Names.{Scope, inside}
use Rattle.query_types.proofs.OutcomeLaws.{not_refused}
use Rattle.query_types.proofs.Typers.{form_typed}
use Rattle.written_queries.specs.Bounds.{form_bounded, is_bounded}
use Rattle.written_queries.specs.Laws.{IsAsWritten}
use Rattle.written_queries.specs.Scales.{HasScales}
use Rattle.written_queries.proofs.BoundedForms.{of_form, form_opens}
use Rattle.written_queries.proofs.Forms.{Good, AreGood, number_good, date_good, text_good, column_good, aggregate_good, scale_folded, signed_good, negated_good, binary_good, divided_good, between_good, null_test_good, among_good, choice_good}
use Rattle.written_queries.proofs.Steps.{HasLiterals, Makes, makes_same, makes_pure, makes_lift, makes_then}

-- what a typer gives is written, over every catalog of such scales
pub record Sound (T : Typer) : Type 0 where
  pub makes : (s : Scope) (role : Role) → HasScales s.defs → Makes Good (T s role)

abbrev IsSound : Expr → Type 0
IsSound x = is_bounded x ≡ true → Sound (typer x)

-- ---- aggregates

counted_makes : (level : Level) (at : ℕ) → Makes Good (t.counted level at)
unfolding t.counted
counted_makes level at = record {
  gives = λ l m x w done.
      let a : Aggregate = record { kind = Count; argument = None } in
      let y = not_refused (is_row level) NestedAggregate at (t.met Number 0 a l) (x, m) done in
      makes_same Good (t.typed_as Number 0 (e.Aggregate (length l) 0)) x (l ++ a ∷ []) m (aggregate_good Number (length l) 0 (omega arith)) (All-push HasLiterals l a w (λ c none. absurd (cc))) y.1;
}

folded_makes : (level : Level) (of : Written) (at : ℕ) (b : Typed) → Good b → Makes Good (t.folded level of at b)
unfolding t.folded
folded_makes level of at b h = record {
  gives = λ l m x w done.
      let a : Aggregate = record { kind = t.aggregate_kind of; argument = Some b.value } in
      let scale = t.scale_folded of b.scale in
      let y = not_refused (not (folds of b.kind)) TypesDiffer at _ (x, m) done in
      let z = not_refused (is_row level) NestedAggregate at (t.met (t.kind_folded of b.kind) scale a l) (x, m) y.1 in
      makes_same Good (t.typed_as (t.kind_folded of b.kind) scale (e.Aggregate (length l) scale)) x (l ++ a ∷ []) m
      (aggregate_good (t.kind_folded of b.kind) (length l) scale (scale_folded of b.scale h.scale))
      (All-push HasLiterals l a w (λ c same. subst IsAsWritten (some_same b.value c same) h.written)) z.1;
}

-- ---- lists of operands

abbrev Elements : Type 0
Elements = List ((x : Expr) × IsSound x)

abbrev exprs : Elements → List Expr
exprs ys = map (λ y. y.0) ys

each_makes : (s : Scope) (role : Role) → HasScales s.defs → (ys : Elements) → list_all (λ (b : Bool). b) (map is_bounded (exprs ys)) ≡ true → (before : List Typed) → AreGood before → Makes AreGood (t.each s role before (map typer (exprs ys)))
each_makes s role scales [] bounded before h = makes_pure before h
each_makes s role scales (y ∷ ys) bounded before h =
    let both = and_parts (is_bounded y.0) (list_all (λ (b : Bool). b) (map is_bounded (exprs ys))) bounded in
    makes_then ((y.1 both.0).makes s role scales) (λ x g. each_makes s role scales ys both.1 (before ++ x ∷ []) (All-push Good before x h g))

-- ---- the induction

abbrev FormIsSound : Form → Type 0
FormIsSound form = of_form form ≡ true → (at : ℕ) → Sound (form_typed form at)

abbrev Layer : Type 0
Layer = Form-F ((x : Form) × FormIsSound x) ((x : Expr) × IsSound x)

abbrev opened : Layer → Form-F Form Expr
opened y = map-Form ((x : Form) × FormIsSound x) ((x : Expr) × IsSound x) Form Expr (λ e. e.0) (λ e. e.0) y

layer_typed : (x : Form-F Form Expr) → form_typed (roll-Form x) ≡ form_typer (map-Form Form Expr (ℕ → Typer) Typer form_typed typer x)
unfolding typer
layer_typed x = fold-roll-Form (ℕ → Typer) Typer form_typer expr_typer x

by_parts : (x : Form-F Form Expr) → (form_bounded (map-Form Form Expr Bool Bool of_form is_bounded x) ≡ true → (at : ℕ) → Sound (form_typer (map-Form Form Expr (ℕ → Typer) Typer form_typed typer x) at)) → FormIsSound (roll-Form x)
by_parts x h bounded at = subst (λ (T : ℕ → Typer). Sound (T at)) (sym (layer_typed x)) (h (sym (form_opens x) ∙ bounded) at)

by_layer : (y : Layer) → FormIsSound (roll-Form (opened y))
by_layer (Form-F.Number n scale) = by_parts (Form-F.Number n scale) (λ h at. record { makes = λ s role c. makes_pure (t.typed_as Number scale (e.Number n scale)) (number_good n scale h) })
by_layer (Form-F.Text text) = by_parts (Form-F.Text text) (λ h at. record { makes = λ s role c. makes_lift (t.literal role text at) (λ a is. text_good role text at a is) })
by_layer (Form-F.Date day) = by_parts (Form-F.Date day) (λ h at. record { makes = λ s role c. makes_pure (t.typed_as Date 0 (e.Date day)) (date_good day h) })
by_layer (Form-F.Column n) = by_parts (Form-F.Column n) (λ h at. record { makes = λ s role c. makes_lift (t.named s n) (λ a is. column_good s n a c is) })
by_layer Form-F.CountAll = by_parts Form-F.CountAll (λ h at. record { makes = λ s role c. counted_makes s.level at })
by_layer (Form-F.Aggregate of x) = by_parts (Form-F.Aggregate of x.0) (λ h at. record { makes = λ s role c. makes_then ((x.1 h).makes (inside s) Alone c) (λ a g. folded_makes s.level of at a g) })
by_layer (Form-F.Enclosed x) = by_parts (Form-F.Enclosed x.0) (λ h at. record { makes = λ s role c. (x.1 h).makes s role c })
by_layer (Form-F.Signed sign x) = by_parts (Form-F.Signed sign x.0) (λ h at. record { makes = λ s role c. makes_then ((x.1 h).makes s Alone c) (λ a g. makes_lift (t.signed sign at a) (λ b is. signed_good sign at a b g is)) })
by_layer (Form-F.Not x) = by_parts (Form-F.Not x.0) (λ h at. record { makes = λ s role c. makes_then ((x.1 h).makes s Alone c) (λ a g. makes_lift (t.negated at a) (λ b is. negated_good at a b g is)) })
by_layer (Form-F.Binary o place x y) =
    by_parts (Form-F.Binary o place x.0 y.0) (λ h at.
    let both = and_parts (is_bounded x.0) (is_bounded y.0) h in
    record {
      makes = λ s role c.
          makes_then ((x.1 both.0).makes s (role_in (family_of o)) c) (λ a g.
          makes_then ((y.1 both.1).makes s (role_in (family_of o)) c) (λ b i.
          makes_lift (t.binary o place a b) (λ z is. binary_good o place a b z g i is)));
    })
by_layer (Form-F.Divide place x d) =
    by_parts (Form-F.Divide place x.0 d) (λ h at.
    let both = and_parts (is_bounded x.0) (nat_le d.value max_integer) h in
    record { makes = λ s role c. makes_then ((x.1 both.0).makes s Alone c) (λ a g. makes_lift (t.divided place a d) (λ b is. divided_good place a d b both.1 g is)) })
by_layer (Form-F.Between p place x y z) =
    by_parts (Form-F.Between p place x.0 y.0 z.0) (λ h at.
    let both = and_parts (is_bounded x.0) (is_bounded y.0 && is_bounded z.0) h in
    let others = and_parts (is_bounded y.0) (is_bounded z.0) both.1 in
    record {
      makes = λ s role c.
          makes_then ((x.1 both.0).makes s Side c) (λ a g.
          makes_then ((y.1 others.0).makes s Side c) (λ low i.
          makes_then ((z.1 others.1).makes s Side c) (λ high j.
          makes_lift (t.between p place a low high) (λ b is. between_good p place a low high b g i j is))));
    })
by_layer (Form-F.In p place x ys) =
    by_parts (Form-F.In p place x.0 (exprs ys)) (λ h at.
    let both = and_parts (is_bounded x.0) (list_all (λ (b : Bool). b) (map is_bounded (exprs ys))) h in
    record {
      makes = λ s role c.
          makes_then ((x.1 both.0).makes s Side c) (λ a g.
          makes_then (each_makes s Side c ys both.1 [] (All-nil Good)) (λ ts i.
          makes_lift (t.among p place a ts) (λ b is. among_good p place a ts b g i is)));
    })
by_layer (Form-F.IsNull p place x) = by_parts (Form-F.IsNull p place x.0) (λ h at. record { makes = λ s role c. makes_then ((x.1 h).makes s Alone c) (λ a g. makes_lift (t.null_test p place a) (λ b is. null_test_good p place a b g is)) })
by_layer (Form-F.Coalesce x ys) =
    by_parts (Form-F.Coalesce x.0 (exprs ys)) (λ h at.
    let both = and_parts (is_bounded x.0) (list_all (λ (b : Bool). b) (map is_bounded (exprs ys))) h in
    record {
      makes = λ s role c.
          makes_then ((x.1 both.0).makes s Alone c) (λ a g.
          makes_then (each_makes s Alone c ys both.1 [] (All-nil Good)) (λ ts i.
          makes_lift (t.choice at a ts) (λ b is. choice_good at a ts b g i is)));
    })

-- an expression is its form at a byte
by_form : (y : Expr-F ((x : Form) × FormIsSound x) ((x : Expr) × IsSound x)) → IsSound (roll-Expr (map-Expr ((x : Form) × FormIsSound x) ((x : Expr) × IsSound x) Form Expr (λ e. e.0) (λ e. e.0) y))
unfolding typer is_bounded of_form
by_form y bounded =
    let x = map-Expr ((x : Form) × FormIsSound x) ((x : Expr) × IsSound x) Form Expr (λ e. e.0) (λ e. e.0) y in
    let types : typer (roll-Expr x) ≡ form_typed y.form.0 y.at = fold-roll-Expr (ℕ → Typer) Typer form_typer expr_typer x in
    let within : is_bounded (roll-Expr x) ≡ of_form y.form.0 = fold-roll-Expr Bool Bool form_bounded (λ x. x.form) x in
    subst (λ (T : Typer). Sound T) (sym types) (y.form.1 (sym within ∙ bounded) y.at)

pub typed_sound : (x : Expr) → is_bounded x ≡ true → Sound (typer x)
typed_sound = ind-Expr FormIsSound IsSound (λ x y is. subst (λ z. FormIsSound (roll-Form z)) is (by_layer y)) (λ x y is. subst (λ z. IsSound (roll-Expr z)) is (by_form y))

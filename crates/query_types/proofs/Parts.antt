-- The parts of a condition, by its form.
use Rattle.std.proofs.Common.{◌≡◌, true, false, [], ◌∷◌, ◌++◌, Some, None, unwrap_or, sym, ap, ◌∙◌, subst, if◌then◌else◌}
use Rattle.query_trees.specs.declared.expr.BinaryOp.{BinaryOp}
use Rattle.typed_trees.specs.declared.typed.TypedExpr.{TypedExpr, out-TypedExpr, roll-TypedExpr, roll-out-TypedExpr}
use Rattle.typed_trees.specs.declared.typed.TypedExpr.TheOpen.{TypedExpr-F}
use Rattle.typed_trees.specs.declared.typed.TypedExpr.TheFolds.{para-roll-TypedExpr}
use Rattle.typed_trees.specs.declared.typed.TypedExpr.TheVariants as e
use Rattle.typed_trees.specs.declared.typed.TypedExpr.TheVariants.{rolls-Binary}
use Rattle.query_types.specs.Conjuncts.{Parts, form_parts, joined_parts, joined_by, parts, is_and}

binary-parts : (o : BinaryOp) (x y : TypedExpr) → joined_parts (e.Binary o x y) ≡ joined_by o (parts x) (parts y)
unfolding joined_parts parts
binary-parts o x y = ap joined_parts (sym (rolls-Binary o x y)) ∙ para-roll-TypedExpr Parts form_parts (TypedExpr-F.Binary o x y)

pub and-parts : (c : TypedExpr) (o : BinaryOp) (x y : TypedExpr) → c ≡ e.Binary o x y → is_and o ≡ true → parts c ≡ parts x ++ parts y
unfolding parts
and-parts c o x y is and = ap parts is ∙ (ap (λ p. unwrap_or p (e.Binary o x y ∷ [])) (binary-parts o x y) ∙ ap (λ b. unwrap_or (if b then Some (parts x ++ parts y) else None) (e.Binary o x y ∷ [])) and)

pub binary-alone : (c : TypedExpr) (o : BinaryOp) (x y : TypedExpr) → c ≡ e.Binary o x y → is_and o ≡ false → parts c ≡ e.Binary o x y ∷ []
unfolding parts
binary-alone c o x y is other = ap parts is ∙ (ap (λ p. unwrap_or p (e.Binary o x y ∷ [])) (binary-parts o x y) ∙ ap (λ b. unwrap_or (if b then Some (parts x ++ parts y) else None) (e.Binary o x y ∷ [])) other)

IsNoBinary : TypedExpr → Type 0
IsNoBinary c = (o : BinaryOp) (x y : TypedExpr) → c ≡ e.Binary o x y → ⊥

by_layer : (d : TypedExpr-F TypedExpr) → IsNoBinary (roll-TypedExpr d) → joined_parts (roll-TypedExpr d) ≡ None
unfolding joined_parts IsNoBinary
by_layer (TypedExpr-F.Binary o x y) other = absurd (other o x y (rolls-Binary o x y))
by_layer (TypedExpr-F.Number n scale) other = para-roll-TypedExpr Parts form_parts (TypedExpr-F.Number n scale)
by_layer (TypedExpr-F.Text t) other = para-roll-TypedExpr Parts form_parts (TypedExpr-F.Text t)
by_layer (TypedExpr-F.Date d) other = para-roll-TypedExpr Parts form_parts (TypedExpr-F.Date d)
by_layer (TypedExpr-F.Column r k) other = para-roll-TypedExpr Parts form_parts (TypedExpr-F.Column r k)
by_layer (TypedExpr-F.Aggregate n scale) other = para-roll-TypedExpr Parts form_parts (TypedExpr-F.Aggregate n scale)
by_layer (TypedExpr-F.Signed s x) other = para-roll-TypedExpr Parts form_parts (TypedExpr-F.Signed s x)
by_layer (TypedExpr-F.Not x) other = para-roll-TypedExpr Parts form_parts (TypedExpr-F.Not x)
by_layer (TypedExpr-F.Divide x s n) other = para-roll-TypedExpr Parts form_parts (TypedExpr-F.Divide x s n)
by_layer (TypedExpr-F.Between p x y z) other = para-roll-TypedExpr Parts form_parts (TypedExpr-F.Between p x y z)
by_layer (TypedExpr-F.In p x ys) other = para-roll-TypedExpr Parts form_parts (TypedExpr-F.In p x ys)
by_layer (TypedExpr-F.IsNull p x) other = para-roll-TypedExpr Parts form_parts (TypedExpr-F.IsNull p x)
by_layer (TypedExpr-F.Coalesce x ys) other = para-roll-TypedExpr Parts form_parts (TypedExpr-F.Coalesce x ys)

pub other-alone : (c : TypedExpr) → ((o : BinaryOp) (x y : TypedExpr) → c ≡ e.Binary o x y → ⊥) → parts c ≡ c ∷ []
unfolding parts IsNoBinary
other-alone c other =
    let none : joined_parts c ≡ None = subst (λ (x : TypedExpr). IsNoBinary x → joined_parts x ≡ None) (roll-out-TypedExpr c) (by_layer (out-TypedExpr c)) other in
    ap (λ p. unwrap_or p (c ∷ [])) none

-- The parts of a condition have no more nodes than the condition.
use Rattle.std.proofs.Common.{◌≡◌, ◌+◌, ◌≤◌, Bool, true, false, [], ◌∷◌, ◌++◌, map, None, unwrap_or, refl, ap, ◌∙◌, subst, arith}
use Rattle.query_trees.specs.declared.expr.BinaryOp.{BinaryOp}
use Rattle.typed_trees.specs.declared.typed.TypedExpr.{TypedExpr, roll-TypedExpr}
use Rattle.typed_trees.specs.declared.typed.TypedExpr.TheOpen.{TypedExpr-F}
use Rattle.typed_trees.specs.declared.typed.TypedExpr.TheFolds.{map-TypedExpr, ind-TypedExpr, para-roll-TypedExpr}
use Rattle.typed_trees.specs.declared.typed.TypedExpr.TheVariants as e
use Rattle.typed_trees.specs.declared.typed.TypedExpr.TheVariants.{rolls-Binary}
use Rattle.query_types.specs.Conjuncts.{Parts, form_parts, joined_parts, parts, is_and}
use Rattle.query_types.proofs.Parts.{and-parts, binary-alone}
use Rattle.query_sizes.specs.Sizes.{nodes}
use Rattle.query_sizes.proofs.Totals.{total, total-append}
use Rattle.query_sizes.proofs.Nodes.{nodes-Binary}

abbrev pub IsParted : TypedExpr → Type 0
IsParted c = total nodes (parts c) ≤ nodes c

-- what AND does not join is its own only part
alone : (d : TypedExpr-F TypedExpr) → joined_parts (roll-TypedExpr d) ≡ None → IsParted (roll-TypedExpr d)
unfolding parts
alone d none =
    let c = roll-TypedExpr d in
    let e : total nodes (parts c) ≡ nodes c + 0 = ap (λ p. total nodes (unwrap_or p (c ∷ []))) none in
    omega (arith, e)

binary : (o : BinaryOp) (x y : TypedExpr) → IsParted x → IsParted y → IsParted (roll-TypedExpr (TypedExpr-F.Binary o x y))
binary o x y h g = by_and (is_and o) refl
  where
    size : nodes (roll-TypedExpr (TypedExpr-F.Binary o x y)) ≡ 1 + nodes x + nodes y
    size = ap nodes (rolls-Binary o x y) ∙ nodes-Binary o x y

    by_and : (b : Bool) → is_and o ≡ b → IsParted (roll-TypedExpr (TypedExpr-F.Binary o x y))
    by_and true is =
        let e : total nodes (parts (roll-TypedExpr (TypedExpr-F.Binary o x y))) ≡ total nodes (parts x ++ parts y) = ap (total nodes) (and-parts (roll-TypedExpr (TypedExpr-F.Binary o x y)) o x y (rolls-Binary o x y) is) in
        omega (arith, e, size, h, g, total-append nodes (parts x) (parts y))
    by_and false is =
        let e : total nodes (parts (roll-TypedExpr (TypedExpr-F.Binary o x y))) ≡ nodes (e.Binary o x y) + 0 = ap (total nodes) (binary-alone (roll-TypedExpr (TypedExpr-F.Binary o x y)) o x y (rolls-Binary o x y) is) in
        omega (arith, e, size, nodes-Binary o x y)

by_layer : (d : TypedExpr-F ((c : TypedExpr) × IsParted c)) → IsParted (roll-TypedExpr (map-TypedExpr ((c : TypedExpr) × IsParted c) TypedExpr (λ x. x.0) d))
unfolding joined_parts
by_layer (TypedExpr-F.Binary o x y) = binary o x.0 y.0 x.1 y.1
by_layer (TypedExpr-F.Number n s) = alone (TypedExpr-F.Number n s) (para-roll-TypedExpr Parts form_parts (TypedExpr-F.Number n s))
by_layer (TypedExpr-F.Text t) = alone (TypedExpr-F.Text t) (para-roll-TypedExpr Parts form_parts (TypedExpr-F.Text t))
by_layer (TypedExpr-F.Date d) = alone (TypedExpr-F.Date d) (para-roll-TypedExpr Parts form_parts (TypedExpr-F.Date d))
by_layer (TypedExpr-F.Column r k) = alone (TypedExpr-F.Column r k) (para-roll-TypedExpr Parts form_parts (TypedExpr-F.Column r k))
by_layer (TypedExpr-F.Aggregate n s) = alone (TypedExpr-F.Aggregate n s) (para-roll-TypedExpr Parts form_parts (TypedExpr-F.Aggregate n s))
by_layer (TypedExpr-F.Signed s x) = alone (TypedExpr-F.Signed s x.0) (para-roll-TypedExpr Parts form_parts (TypedExpr-F.Signed s x.0))
by_layer (TypedExpr-F.Not x) = alone (TypedExpr-F.Not x.0) (para-roll-TypedExpr Parts form_parts (TypedExpr-F.Not x.0))
by_layer (TypedExpr-F.Divide x s n) = alone (TypedExpr-F.Divide x.0 s n) (para-roll-TypedExpr Parts form_parts (TypedExpr-F.Divide x.0 s n))
by_layer (TypedExpr-F.Between p x y z) = alone (TypedExpr-F.Between p x.0 y.0 z.0) (para-roll-TypedExpr Parts form_parts (TypedExpr-F.Between p x.0 y.0 z.0))
by_layer (TypedExpr-F.In p x ys) = alone (TypedExpr-F.In p x.0 (map (λ y. y.0) ys)) (para-roll-TypedExpr Parts form_parts (TypedExpr-F.In p x.0 (map (λ y. y.0) ys)))
by_layer (TypedExpr-F.IsNull p x) = alone (TypedExpr-F.IsNull p x.0) (para-roll-TypedExpr Parts form_parts (TypedExpr-F.IsNull p x.0))
by_layer (TypedExpr-F.Coalesce x ys) = alone (TypedExpr-F.Coalesce x.0 (map (λ y. y.0) ys)) (para-roll-TypedExpr Parts form_parts (TypedExpr-F.Coalesce x.0 (map (λ y. y.0) ys)))

pub parts_most : (c : TypedExpr) → IsParted c
parts_most = ind-TypedExpr IsParted (λ x y is. subst (λ z. IsParted (roll-TypedExpr z)) is (by_layer y))

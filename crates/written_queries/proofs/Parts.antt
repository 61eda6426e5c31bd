-- The parts of a condition are written where it is.
use Rattle.std.proofs.Common.{◌≡◌, ◌∙◌, Bool, true, false, [], ◌∷◌, ◌++◌, map, None, unwrap_or, refl, sym, ap, subst}
use Rattle.std.specs.Prelude.{All}
use Rattle.std.proofs.lemmas.Bool.{and_parts}
use Rattle.std.proofs.lemmas.List.Elements.{All-nil, All-cons, All-same, All-append}
use Rattle.query_trees.specs.declared.expr.BinaryOp.{BinaryOp}
use Rattle.typed_trees.specs.declared.typed.TypedExpr.{TypedExpr, roll-TypedExpr}
use Rattle.typed_trees.specs.declared.typed.TypedExpr.TheOpen.{TypedExpr-F}
use Rattle.typed_trees.specs.declared.typed.TypedExpr.TheFolds.{map-TypedExpr, ind-TypedExpr, para-roll-TypedExpr}
use Rattle.typed_trees.specs.declared.typed.TypedExpr.TheVariants.{rolls-Binary}
use Rattle.query_types.specs.Conjuncts.{Parts, form_parts, joined_parts, parts, is_and}
use Rattle.query_types.proofs.Parts.{and-parts, binary-alone}
use Rattle.written_queries.specs.Laws.{IsAsWritten, is_as_written}
use Rattle.written_queries.proofs.WrittenForms.{written_roll}

abbrev IsParted : TypedExpr → Type 0
IsParted c = IsAsWritten c → All IsAsWritten (parts c)

-- what AND does not join is its own only part
single : (c : TypedExpr) → parts c ≡ c ∷ [] → IsParted c
single c one h = All-same IsAsWritten (parts c) (c ∷ []) one (All-cons IsAsWritten c [] h (All-nil IsAsWritten))

alone : (d : TypedExpr-F TypedExpr) → joined_parts (roll-TypedExpr d) ≡ None → IsParted (roll-TypedExpr d)
unfolding parts
alone d none = single (roll-TypedExpr d) (ap (λ p. unwrap_or p (roll-TypedExpr d ∷ [])) none)

binary : (o : BinaryOp) (x y : TypedExpr) → IsParted x → IsParted y → IsParted (roll-TypedExpr (TypedExpr-F.Binary o x y))
binary o x y h g whole = by (is_and o) refl
  where
    by : (b : Bool) → is_and o ≡ b → All IsAsWritten (parts (roll-TypedExpr (TypedExpr-F.Binary o x y)))
    by true is =
        let both = and_parts (is_as_written x) (is_as_written y) (sym (written_roll (TypedExpr-F.Binary o x y)) ∙ whole) in
        All-same IsAsWritten (parts (roll-TypedExpr (TypedExpr-F.Binary o x y))) (parts x ++ parts y) (and-parts (roll-TypedExpr (TypedExpr-F.Binary o x y)) o x y (rolls-Binary o x y) is)
        (All-append IsAsWritten (parts x) (parts y) (h both.0) (g both.1))
    by false is =
        let same = rolls-Binary o x y in
        single (roll-TypedExpr (TypedExpr-F.Binary o x y)) (binary-alone (roll-TypedExpr (TypedExpr-F.Binary o x y)) o x y same is ∙ ap (λ (c : TypedExpr). c ∷ []) (sym same)) whole

by_layer : (d : TypedExpr-F ((c : TypedExpr) × IsParted c)) → IsParted (roll-TypedExpr (map-TypedExpr ((c : TypedExpr) × IsParted c) TypedExpr (λ x. x.0) d))
unfolding joined_parts
by_layer (TypedExpr-F.Binary o x y) = binary o x.0 y.0 x.1 y.1
by_layer (TypedExpr-F.Number n scale) = alone (TypedExpr-F.Number n scale) (para-roll-TypedExpr Parts form_parts (TypedExpr-F.Number n scale))
by_layer (TypedExpr-F.Text t) = alone (TypedExpr-F.Text t) (para-roll-TypedExpr Parts form_parts (TypedExpr-F.Text t))
by_layer (TypedExpr-F.Date d) = alone (TypedExpr-F.Date d) (para-roll-TypedExpr Parts form_parts (TypedExpr-F.Date d))
by_layer (TypedExpr-F.Column r type) = alone (TypedExpr-F.Column r type) (para-roll-TypedExpr Parts form_parts (TypedExpr-F.Column r type))
by_layer (TypedExpr-F.Aggregate n scale) = alone (TypedExpr-F.Aggregate n scale) (para-roll-TypedExpr Parts form_parts (TypedExpr-F.Aggregate n scale))
by_layer (TypedExpr-F.Signed s x) = alone (TypedExpr-F.Signed s x.0) (para-roll-TypedExpr Parts form_parts (TypedExpr-F.Signed s x.0))
by_layer (TypedExpr-F.Not x) = alone (TypedExpr-F.Not x.0) (para-roll-TypedExpr Parts form_parts (TypedExpr-F.Not x.0))
by_layer (TypedExpr-F.Divide x s n) = alone (TypedExpr-F.Divide x.0 s n) (para-roll-TypedExpr Parts form_parts (TypedExpr-F.Divide x.0 s n))
by_layer (TypedExpr-F.Between p x y z) = alone (TypedExpr-F.Between p x.0 y.0 z.0) (para-roll-TypedExpr Parts form_parts (TypedExpr-F.Between p x.0 y.0 z.0))
by_layer (TypedExpr-F.In p x ys) = alone (TypedExpr-F.In p x.0 (map (λ y. y.0) ys)) (para-roll-TypedExpr Parts form_parts (TypedExpr-F.In p x.0 (map (λ y. y.0) ys)))
by_layer (TypedExpr-F.IsNull p x) = alone (TypedExpr-F.IsNull p x.0) (para-roll-TypedExpr Parts form_parts (TypedExpr-F.IsNull p x.0))
by_layer (TypedExpr-F.Coalesce x ys) = alone (TypedExpr-F.Coalesce x.0 (map (λ y. y.0) ys)) (para-roll-TypedExpr Parts form_parts (TypedExpr-F.Coalesce x.0 (map (λ y. y.0) ys)))

pub parts_written : (c : TypedExpr) → IsAsWritten c → All IsAsWritten (parts c)
parts_written = ind-TypedExpr IsParted (λ x y is. subst (λ z. IsParted (roll-TypedExpr z)) is (by_layer y))

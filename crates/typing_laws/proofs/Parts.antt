-- The parts of a condition are conditions, over the columns that it has.
use Rattle.std.proofs.Common.{◌≡◌, ℕ, Bool, true, false, ◌&&◌, List, [], ◌∷◌, ◌++◌, map, Option, None, unwrap_or, refl, sym, ap, ◌∙◌, subst}
use Rattle.std.specs.Prelude.{All}
use Rattle.std.proofs.lemmas.List.Elements.{All-nil, All-cons, All-head, All-tail, All-same, All-append}
use Rattle.sql_read.specs.declared.definition.TableDef.{TableDef}
use Rattle.query_trees.specs.declared.expr.BinaryOp.{BinaryOp}
use Rattle.query_trees.specs.declared.expr.BinaryOp.TheVariants as op
use Rattle.typed_trees.specs.declared.kinds.Role.TheVariants.{Alone}
use Rattle.typed_trees.specs.declared.typed.TypedExpr.{TypedExpr, roll-TypedExpr}
use Rattle.typed_trees.specs.declared.typed.TypedExpr.TheOpen.{TypedExpr-F}
use Rattle.typed_trees.specs.declared.typed.TypedExpr.TheFolds.{map-TypedExpr, ind-TypedExpr, para-roll-TypedExpr}
use Rattle.typed_trees.specs.declared.typed.TypedExpr.TheVariants as e
use Rattle.typed_trees.specs.declared.typed.TypedExpr.TheVariants.{rolls-Binary}
use Rattle.typed_trees.specs.Columns.{columns_in}
use Rattle.typed_trees.specs.Kinds.{is_truth}
use Rattle.typed_trees.specs.Sides.{stands}
use Rattle.typed_trees.specs.Typed.{IsCondition}
use Rattle.typed_trees.specs.Types.{DataType, truth, binary_type, with_type, type_of}
use Rattle.typed_trees.proofs.ColumnForms.{columns_Binary}
use Rattle.typed_trees.proofs.Inversions.{passed, chosen}
use Rattle.typed_trees.proofs.SideForms.{stands_Binary}
use Rattle.typed_trees.proofs.TypeForms.{type_Binary}
use Rattle.query_types.specs.Conjuncts.{Parts, form_parts, joined_parts, parts, is_and}
use Rattle.query_types.proofs.Parts.{and-parts, binary-alone}
use Rattle.typing_laws.specs.Laws.{IsDeclared, AreDeclared}
use Rattle.typing_laws.proofs.Forms.{and_left, and_right}

pub record IsPart (at : ℕ → Option DataType) (defs : List TableDef) (places : List ℕ) (c : TypedExpr) : Type 0 where
  pub typed : IsCondition at c
  pub columns : AreDeclared defs places c

all_left : {X : Type 0} (P : X → Type 0) (xs ys : List X) → All P (xs ++ ys) → All P xs
all_left P [] ys h = All-nil P
all_left P (x ∷ xs) ys h = All-cons P x xs (All-head P x (xs ++ ys) h) (all_left P xs ys (All-tail P x (xs ++ ys) h))

all_right : {X : Type 0} (P : X → Type 0) (xs ys : List X) → All P (xs ++ ys) → All P ys
all_right P [] ys h = h
all_right P (x ∷ xs) ys h = all_right P xs ys (All-tail P x (xs ++ ys) h)

module _ (at : ℕ → Option DataType) (defs : List TableDef) (places : List ℕ) where
  abbrev Part : TypedExpr → Type 0
  Part c = IsPart at defs places c

  abbrev IsParted : TypedExpr → Type 0
  IsParted c = Part c → All Part (parts c)

  -- what AND does not join is its own only part
  alone : (d : TypedExpr-F TypedExpr) → joined_parts (roll-TypedExpr d) ≡ None → IsParted (roll-TypedExpr d)
  unfolding parts
  alone d none h =
      let c = roll-TypedExpr d in
      All-same Part (parts c) (c ∷ []) (ap (λ p. unwrap_or p (c ∷ [])) none) (All-cons Part c [] h (All-nil Part))

  -- the sides of an AND
  record Sides (x y : TypedExpr) : Type 0 where
    left : Part x
    right : Part y

  sides : (x y : TypedExpr) → Part (e.Binary op.And x y) → Sides x y
  sides x y h =
      let whole = h.typed in
      let first = chosen (type_of at x) (λ s. with_type (type_of at y) (binary_type op.And s)) whole.type (sym (type_Binary at op.And x y) ∙ whole.is) in
      let second = chosen (type_of at y) (binary_type op.And first.0) whole.type first.2 in
      let both = (passed (is_truth first.0.kind && is_truth second.0.kind && true) truth whole.type second.2).0 in
      let truths = and_left (is_truth first.0.kind && is_truth second.0.kind) true both in
      let stand : (stands x Alone && stands y Alone) ≡ true = sym (stands_Binary op.And x y Alone) ∙ whole.sides in
      let columns = All-same (IsDeclared defs places) (columns_in x ++ columns_in y) (columns_in (e.Binary op.And x y)) (sym (columns_Binary op.And x y)) h.columns in
      record {
        left = record {
          typed = record { type = first.0; is = first.1; kind = and_left (is_truth first.0.kind) (is_truth second.0.kind) truths; sides = and_left (stands x Alone) (stands y Alone) stand };
          columns = all_left (IsDeclared defs places) (columns_in x) (columns_in y) columns;
        };
        right = record {
          typed = record { type = second.0; is = second.1; kind = and_right (is_truth first.0.kind) (is_truth second.0.kind) truths; sides = and_right (stands x Alone) (stands y Alone) stand };
          columns = all_right (IsDeclared defs places) (columns_in x) (columns_in y) columns;
        };
      }

  and_is : (o : BinaryOp) → is_and o ≡ true → o ≡ op.And
  and_is op.And h = refl
  and_is op.Or h = absurd (cc)
  and_is op.Equal h = absurd (cc)
  and_is op.Differs h = absurd (cc)
  and_is op.Less h = absurd (cc)
  and_is op.LessEqual h = absurd (cc)
  and_is op.Greater h = absurd (cc)
  and_is op.GreaterEqual h = absurd (cc)
  and_is op.Add h = absurd (cc)
  and_is op.Subtract h = absurd (cc)
  and_is op.Multiply h = absurd (cc)

  binary : (o : BinaryOp) (x y : TypedExpr) → IsParted x → IsParted y → IsParted (roll-TypedExpr (TypedExpr-F.Binary o x y))
  binary o x y h g whole = by_and (is_and o) refl
    where
      by_and : (b : Bool) → is_and o ≡ b → All (IsPart at defs places) (parts (roll-TypedExpr (TypedExpr-F.Binary o x y)))
      by_and true is =
          let one : e.Binary o x y ≡ e.Binary op.And x y = ap (λ p. e.Binary p x y) (and_is o is) in
          let both = sides x y (subst (λ c. IsPart at defs places c) (rolls-Binary o x y ∙ one) whole) in
          All-same (IsPart at defs places) (parts (roll-TypedExpr (TypedExpr-F.Binary o x y))) (parts x ++ parts y) (and-parts (roll-TypedExpr (TypedExpr-F.Binary o x y)) o x y (rolls-Binary o x y) is)
          (All-append (IsPart at defs places) (parts x) (parts y) (h both.left) (g both.right))
      by_and false is =
          let same = rolls-Binary o x y in
          All-same (IsPart at defs places) (parts (roll-TypedExpr (TypedExpr-F.Binary o x y))) (e.Binary o x y ∷ []) (binary-alone (roll-TypedExpr (TypedExpr-F.Binary o x y)) o x y same is)
          (All-cons (IsPart at defs places) (e.Binary o x y) [] (subst (λ c. IsPart at defs places c) same whole) (All-nil (IsPart at defs places)))

  by_layer : (d : TypedExpr-F ((c : TypedExpr) × IsParted c)) → IsParted (roll-TypedExpr (map-TypedExpr ((c : TypedExpr) × IsParted c) TypedExpr (λ x. x.0) d))
  unfolding joined_parts
  by_layer (TypedExpr-F.Binary o x y) = binary o x.0 y.0 x.1 y.1
  by_layer (TypedExpr-F.Number n scale) = alone (TypedExpr-F.Number n scale) (para-roll-TypedExpr Parts form_parts (TypedExpr-F.Number n scale))
  by_layer (TypedExpr-F.Text t) = alone (TypedExpr-F.Text t) (para-roll-TypedExpr Parts form_parts (TypedExpr-F.Text t))
  by_layer (TypedExpr-F.Date d) = alone (TypedExpr-F.Date d) (para-roll-TypedExpr Parts form_parts (TypedExpr-F.Date d))
  by_layer (TypedExpr-F.Column r type) = alone (TypedExpr-F.Column r type) (para-roll-TypedExpr Parts form_parts (TypedExpr-F.Column r type))
  by_layer (TypedExpr-F.Aggregate n scale) = alone (TypedExpr-F.Aggregate n scale) (para-roll-TypedExpr Parts form_parts (TypedExpr-F.Aggregate n scale))
  by_layer (TypedExpr-F.Signed s x) = alone (TypedExpr-F.Signed s x.0) (para-roll-TypedExpr Parts form_parts (TypedExpr-F.Signed s x.0))
  by_layer (TypedExpr-F.Not x) = alone (TypedExpr-F.Not x.0) (para-roll-TypedExpr Parts form_parts (TypedExpr-F.Not x.0))
  by_layer (TypedExpr-F.Divide x s n) = alone (TypedExpr-F.Divide x.0 s n) (para-roll-TypedExpr Parts form_parts (TypedExpr-F.Divide x.0 s n))
  by_layer (TypedExpr-F.Between p x y z) = alone (TypedExpr-F.Between p x.0 y.0 z.0) (para-roll-TypedExpr Parts form_parts (TypedExpr-F.Between p x.0 y.0 z.0))
  by_layer (TypedExpr-F.In p x ys) = alone (TypedExpr-F.In p x.0 (map (λ y. y.0) ys)) (para-roll-TypedExpr Parts form_parts (TypedExpr-F.In p x.0 (map (λ y. y.0) ys)))
  by_layer (TypedExpr-F.IsNull p x) = alone (TypedExpr-F.IsNull p x.0) (para-roll-TypedExpr Parts form_parts (TypedExpr-F.IsNull p x.0))
  by_layer (TypedExpr-F.Coalesce x ys) = alone (TypedExpr-F.Coalesce x.0 (map (λ y. y.0) ys)) (para-roll-TypedExpr Parts form_parts (TypedExpr-F.Coalesce x.0 (map (λ y. y.0) ys)))

  pub parts_typed : (c : TypedExpr) → IsParted c
  parts_typed = ind-TypedExpr IsParted (λ x y is. subst (λ z. IsParted (roll-TypedExpr z)) is (by_layer y))

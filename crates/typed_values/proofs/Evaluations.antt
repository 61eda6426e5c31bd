-- The value of each form of an expression, by the scales and the values of its operands; and whole expressions, worked out by these.
use Rattle.std.proofs.Common.{◌≡◌, ℕ, ℤ, List, [], ◌∷◌, map, refl, sym, ap, ◌∙◌}
use Rattle.query_trees.specs.declared.expr.BinaryOp.{BinaryOp}
use Rattle.query_trees.specs.declared.expr.Polarity.{Polarity}
use Rattle.query_trees.specs.declared.expr.Sign.{Sign}
use Rattle.typed_trees.specs.declared.typed.ColumnRef.{ColumnRef}
use Rattle.typed_trees.specs.declared.typed.ColumnType.{ColumnType}
use Rattle.typed_trees.specs.declared.typed.TypedExpr.{TypedExpr, roll-TypedExpr}
use Rattle.typed_trees.specs.declared.typed.TypedExpr.TheOpen.{TypedExpr-F}
use Rattle.typed_trees.specs.declared.typed.TypedExpr.TheFolds.{map-TypedExpr, para-roll-TypedExpr}
use Rattle.typed_trees.specs.declared.typed.TypedExpr.TheVariants as e
use Rattle.typed_trees.specs.declared.typed.TypedExpr.TheVariants.{rolls-Number, rolls-Text, rolls-Date, rolls-Column, rolls-Aggregate, rolls-Signed, rolls-Not, rolls-Binary, rolls-Divide, rolls-Between, rolls-In, rolls-IsNull, rolls-Coalesce}
use Rattle.typed_trees.specs.Scales.{scale_of}
use Rattle.typed_trees.proofs.ScaleForms.{scale_Number, scale_Column, scale_Signed, scale_Binary, scale_Divide, scale_Coalesce}
use Rattle.typed_values.specs.Values.{Valued, On, Operand, operand, form_value, value}
use Rattle.typed_values.specs.Examples.{WholeTable}
use Rattle.typed_values.specs.ScaleExamples.{DecimalTable}
use Rattle.typed_values.specs.AggregateExamples.{RowTable}

-- ---- values

-- an expression as an operand
abbrev pub evaluated : On → TypedExpr → Operand
evaluated on x = record { scale = scale_of x; value = value on x }

list_evaluated : (on : On) (ys : List TypedExpr) → map operand (map (λ x. (x, value on x)) ys) ≡ map (evaluated on) ys
list_evaluated on [] = refl
list_evaluated on (y ∷ ys) = ap (λ (more : List Operand). evaluated on y ∷ more) (list_evaluated on ys)

value_step : (on : On) (d : TypedExpr-F TypedExpr) → value on (roll-TypedExpr d) ≡ form_value on (map-TypedExpr (TypedExpr × Valued) Operand operand (map-TypedExpr TypedExpr (TypedExpr × Valued) (λ x. (x, value on x)) d))
unfolding value
value_step on d = para-roll-TypedExpr Valued (λ f. form_value on (map-TypedExpr (TypedExpr × Valued) Operand operand f)) d

pub value_roll : (on : On) (d : TypedExpr-F TypedExpr) → value on (roll-TypedExpr d) ≡ form_value on (map-TypedExpr TypedExpr Operand (evaluated on) d)
value_roll on (TypedExpr-F.In p x ys) = value_step on (TypedExpr-F.In p x ys) ∙ ap (λ (l : List Operand). form_value on (TypedExpr-F.In p (evaluated on x) l)) (list_evaluated on ys)
value_roll on (TypedExpr-F.Coalesce x ys) = value_step on (TypedExpr-F.Coalesce x ys) ∙ ap (λ (l : List Operand). form_value on (TypedExpr-F.Coalesce (evaluated on x) l)) (list_evaluated on ys)
value_roll on (TypedExpr-F.Number n scale) = value_step on (TypedExpr-F.Number n scale)
value_roll on (TypedExpr-F.Text t) = value_step on (TypedExpr-F.Text t)
value_roll on (TypedExpr-F.Date day) = value_step on (TypedExpr-F.Date day)
value_roll on (TypedExpr-F.Column c type) = value_step on (TypedExpr-F.Column c type)
value_roll on (TypedExpr-F.Aggregate n scale) = value_step on (TypedExpr-F.Aggregate n scale)
value_roll on (TypedExpr-F.Signed s x) = value_step on (TypedExpr-F.Signed s x)
value_roll on (TypedExpr-F.Not x) = value_step on (TypedExpr-F.Not x)
value_roll on (TypedExpr-F.Binary o x y) = value_step on (TypedExpr-F.Binary o x y)
value_roll on (TypedExpr-F.Divide x s n) = value_step on (TypedExpr-F.Divide x s n)
value_roll on (TypedExpr-F.Between p x a b) = value_step on (TypedExpr-F.Between p x a b)
value_roll on (TypedExpr-F.IsNull p x) = value_step on (TypedExpr-F.IsNull p x)

pub value_Number : (on : On) (n scale : ℕ) → value on (e.Number n scale) ≡ form_value on (TypedExpr-F.Number n scale)
value_Number on n scale = ap (value on) (sym (rolls-Number n scale)) ∙ value_roll on (TypedExpr-F.Number n scale)

pub value_Text : (on : On) (t : List ℕ) → value on (e.Text t) ≡ form_value on (TypedExpr-F.Text t)
value_Text on t = ap (value on) (sym (rolls-Text t)) ∙ value_roll on (TypedExpr-F.Text t)

pub value_Date : (on : On) (day : ℤ) → value on (e.Date day) ≡ form_value on (TypedExpr-F.Date day)
value_Date on day = ap (value on) (sym (rolls-Date day)) ∙ value_roll on (TypedExpr-F.Date day)

pub value_Column : (on : On) (c : ColumnRef) (type : ColumnType) → value on (e.Column c type) ≡ form_value on (TypedExpr-F.Column c type)
value_Column on c type = ap (value on) (sym (rolls-Column c type)) ∙ value_roll on (TypedExpr-F.Column c type)

pub value_Aggregate : (on : On) (n scale : ℕ) → value on (e.Aggregate n scale) ≡ form_value on (TypedExpr-F.Aggregate n scale)
value_Aggregate on n scale = ap (value on) (sym (rolls-Aggregate n scale)) ∙ value_roll on (TypedExpr-F.Aggregate n scale)

pub value_Signed : (on : On) (s : Sign) (x : TypedExpr) → value on (e.Signed s x) ≡ form_value on (TypedExpr-F.Signed s (evaluated on x))
value_Signed on s x = ap (value on) (sym (rolls-Signed s x)) ∙ value_roll on (TypedExpr-F.Signed s x)

pub value_Not : (on : On) (x : TypedExpr) → value on (e.Not x) ≡ form_value on (TypedExpr-F.Not (evaluated on x))
value_Not on x = ap (value on) (sym (rolls-Not x)) ∙ value_roll on (TypedExpr-F.Not x)

pub value_Binary : (on : On) (o : BinaryOp) (x y : TypedExpr) → value on (e.Binary o x y) ≡ form_value on (TypedExpr-F.Binary o (evaluated on x) (evaluated on y))
value_Binary on o x y = ap (value on) (sym (rolls-Binary o x y)) ∙ value_roll on (TypedExpr-F.Binary o x y)

pub value_Divide : (on : On) (x : TypedExpr) (s : Sign) (n : ℕ) → value on (e.Divide x s n) ≡ form_value on (TypedExpr-F.Divide (evaluated on x) s n)
value_Divide on x s n = ap (value on) (sym (rolls-Divide x s n)) ∙ value_roll on (TypedExpr-F.Divide x s n)

pub value_Between : (on : On) (p : Polarity) (x y z : TypedExpr) → value on (e.Between p x y z) ≡ form_value on (TypedExpr-F.Between p (evaluated on x) (evaluated on y) (evaluated on z))
value_Between on p x y z = ap (value on) (sym (rolls-Between p x y z)) ∙ value_roll on (TypedExpr-F.Between p x y z)

pub value_In : (on : On) (p : Polarity) (x : TypedExpr) (ys : List TypedExpr) → value on (e.In p x ys) ≡ form_value on (TypedExpr-F.In p (evaluated on x) (map (evaluated on) ys))
value_In on p x ys = ap (value on) (sym (rolls-In p x ys)) ∙ value_roll on (TypedExpr-F.In p x ys)

pub value_IsNull : (on : On) (p : Polarity) (x : TypedExpr) → value on (e.IsNull p x) ≡ form_value on (TypedExpr-F.IsNull p (evaluated on x))
value_IsNull on p x = ap (value on) (sym (rolls-IsNull p x)) ∙ value_roll on (TypedExpr-F.IsNull p x)

pub value_Coalesce : (on : On) (x : TypedExpr) (ys : List TypedExpr) → value on (e.Coalesce x ys) ≡ form_value on (TypedExpr-F.Coalesce (evaluated on x) (map (evaluated on) ys))
value_Coalesce on x ys = ap (value on) (sym (rolls-Coalesce x ys)) ∙ value_roll on (TypedExpr-F.Coalesce x ys)

-- ---- worked out

pub whole : WholeTable
whole =
    simp (
      value_Number,
      value_Column,
      value_Not,
      value_Binary,
      value_Divide,
      value_Between,
      value_In,
      value_IsNull,
      value_Coalesce,
      scale_Number,
      scale_Column,
      scale_Divide,
      scale_Coalesce,
    ) refl

pub decimals : DecimalTable
decimals = simp (value_Number, value_Column, value_Signed, value_Binary, value_Coalesce, scale_Number, scale_Column, scale_Signed, scale_Binary, scale_Coalesce) refl

pub of_rows : RowTable
of_rows = simp (value_Number, value_Column, value_Binary, scale_Number, scale_Column) refl

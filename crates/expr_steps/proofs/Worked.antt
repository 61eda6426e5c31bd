-- Worked code, by the code of each form.
use Rattle.std.proofs.Common.{◌≡◌, ℕ, ℤ, List, map, refl, ap}
use Rattle.query_trees.specs.declared.expr.BinaryOp.{BinaryOp}
use Rattle.query_trees.specs.declared.expr.Polarity.{Polarity}
use Rattle.query_trees.specs.declared.expr.Sign.{Sign}
use Rattle.typed_trees.specs.declared.typed.ColumnRef.{ColumnRef}
use Rattle.typed_trees.specs.declared.typed.ColumnType.{ColumnType}
use Rattle.typed_trees.specs.declared.typed.TypedExpr.{TypedExpr}
use Rattle.typed_trees.specs.declared.typed.TypedExpr.TheOpen.{TypedExpr-F}
use Rattle.typed_trees.specs.declared.typed.TypedExpr.TheVariants as e
use Rattle.typed_trees.proofs.ScaleForms.{scale_Number, scale_Text, scale_Date, scale_Column, scale_Aggregate, scale_Signed}
use Rattle.expr_steps.specs.Codes.{Code}
use Rattle.expr_steps.specs.Lowered.{Bytes, form_code, part_of, lowered}
use Rattle.expr_steps.specs.Examples.{StepsTable}
use Rattle.expr_steps.proofs.Forms.{literal_Number, literal_Text, literal_Date, literal_Column, literal_Aggregate, literal_Signed, lowered_Number, lowered_Text, lowered_Date, lowered_Column, lowered_Aggregate, lowered_Signed, lowered_Not, lowered_Binary, lowered_Divide, lowered_Between, lowered_In, lowered_IsNull, lowered_Coalesce}

at_Number : (texts : List Bytes) (n scale : ℕ) (k : ℕ) → lowered texts (e.Number n scale) k ≡ form_code texts (TypedExpr-F.Number n scale) k
at_Number texts n scale k = ap (λ (m : Code). m k) (lowered_Number texts n scale)

at_Text : (texts : List Bytes) (t : List ℕ) (k : ℕ) → lowered texts (e.Text t) k ≡ form_code texts (TypedExpr-F.Text t) k
at_Text texts t k = ap (λ (m : Code). m k) (lowered_Text texts t)

at_Date : (texts : List Bytes) (day : ℤ) (k : ℕ) → lowered texts (e.Date day) k ≡ form_code texts (TypedExpr-F.Date day) k
at_Date texts day k = ap (λ (m : Code). m k) (lowered_Date texts day)

at_Column : (texts : List Bytes) (c : ColumnRef) (type : ColumnType) (k : ℕ) → lowered texts (e.Column c type) k ≡ form_code texts (TypedExpr-F.Column c type) k
at_Column texts c type k = ap (λ (m : Code). m k) (lowered_Column texts c type)

at_Aggregate : (texts : List Bytes) (n scale : ℕ) (k : ℕ) → lowered texts (e.Aggregate n scale) k ≡ form_code texts (TypedExpr-F.Aggregate n scale) k
at_Aggregate texts n scale k = ap (λ (m : Code). m k) (lowered_Aggregate texts n scale)

at_Signed : (texts : List Bytes) (s : Sign) (x : TypedExpr) (k : ℕ) → lowered texts (e.Signed s x) k ≡ form_code texts (TypedExpr-F.Signed s (part_of texts x)) k
at_Signed texts s x k = ap (λ (m : Code). m k) (lowered_Signed texts s x)

at_Not : (texts : List Bytes) (x : TypedExpr) (k : ℕ) → lowered texts (e.Not x) k ≡ form_code texts (TypedExpr-F.Not (part_of texts x)) k
at_Not texts x k = ap (λ (m : Code). m k) (lowered_Not texts x)

at_Binary : (texts : List Bytes) (o : BinaryOp) (x y : TypedExpr) (k : ℕ) → lowered texts (e.Binary o x y) k ≡ form_code texts (TypedExpr-F.Binary o (part_of texts x) (part_of texts y)) k
at_Binary texts o x y k = ap (λ (m : Code). m k) (lowered_Binary texts o x y)

at_Divide : (texts : List Bytes) (x : TypedExpr) (s : Sign) (n : ℕ) (k : ℕ) → lowered texts (e.Divide x s n) k ≡ form_code texts (TypedExpr-F.Divide (part_of texts x) s n) k
at_Divide texts x s n k = ap (λ (m : Code). m k) (lowered_Divide texts x s n)

at_Between : (texts : List Bytes) (p : Polarity) (x y z : TypedExpr) (k : ℕ) → lowered texts (e.Between p x y z) k ≡ form_code texts (TypedExpr-F.Between p (part_of texts x) (part_of texts y) (part_of texts z)) k
at_Between texts p x y z k = ap (λ (m : Code). m k) (lowered_Between texts p x y z)

at_In : (texts : List Bytes) (p : Polarity) (x : TypedExpr) (ys : List TypedExpr) (k : ℕ) → lowered texts (e.In p x ys) k ≡ form_code texts (TypedExpr-F.In p (part_of texts x) (map (part_of texts) ys)) k
at_In texts p x ys k = ap (λ (m : Code). m k) (lowered_In texts p x ys)

at_IsNull : (texts : List Bytes) (p : Polarity) (x : TypedExpr) (k : ℕ) → lowered texts (e.IsNull p x) k ≡ form_code texts (TypedExpr-F.IsNull p (part_of texts x)) k
at_IsNull texts p x k = ap (λ (m : Code). m k) (lowered_IsNull texts p x)

at_Coalesce : (texts : List Bytes) (x : TypedExpr) (ys : List TypedExpr) (k : ℕ) → lowered texts (e.Coalesce x ys) k ≡ form_code texts (TypedExpr-F.Coalesce (part_of texts x) (map (part_of texts) ys)) k
at_Coalesce texts x ys k = ap (λ (m : Code). m k) (lowered_Coalesce texts x ys)

pub worked : StepsTable
worked =
    simp (
      at_Number,
      at_Text,
      at_Date,
      at_Column,
      at_Aggregate,
      at_Signed,
      at_Not,
      at_Binary,
      at_Divide,
      at_Between,
      at_In,
      at_IsNull,
      at_Coalesce,
      literal_Number,
      literal_Text,
      literal_Date,
      literal_Column,
      literal_Aggregate,
      literal_Signed,
      scale_Number,
      scale_Text,
      scale_Date,
      scale_Column,
      scale_Aggregate,
      scale_Signed,
    ) refl

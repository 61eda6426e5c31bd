-- The code of each form of an expression, by its operands.
use Rattle.std.proofs.Common.{◌≡◌, ℕ, ℤ, List, [], ◌∷◌, map, Option, Some, None, refl, sym, ap, ◌∙◌}
use Rattle.query_trees.specs.declared.expr.BinaryOp.{BinaryOp}
use Rattle.query_trees.specs.declared.expr.Polarity.{Polarity}
use Rattle.query_trees.specs.declared.expr.Sign.{Sign}
use Rattle.typed_trees.specs.declared.typed.ColumnRef.{ColumnRef}
use Rattle.typed_trees.specs.declared.typed.ColumnType.{ColumnType}
use Rattle.typed_trees.specs.declared.typed.TypedExpr.{TypedExpr, roll-TypedExpr}
use Rattle.typed_trees.specs.declared.typed.TypedExpr.TheOpen.{TypedExpr-F}
use Rattle.typed_trees.specs.declared.typed.TypedExpr.TheFolds.{map-TypedExpr, fold-roll-TypedExpr, para-roll-TypedExpr}
use Rattle.typed_trees.specs.declared.typed.TypedExpr.TheVariants as e
use Rattle.typed_trees.specs.declared.typed.TypedExpr.TheVariants.{rolls-Number, rolls-Text, rolls-Date, rolls-Column, rolls-Aggregate, rolls-Signed, rolls-Not, rolls-Binary, rolls-Divide, rolls-Between, rolls-In, rolls-IsNull, rolls-Coalesce}
use Rattle.expr_steps.specs.Codes.{Code}
use Rattle.expr_steps.specs.Lowered.{Bytes, Part, form_literal, literal_of, form_code, part, part_of, lowered}

-- ---- text literals

literal_roll : (d : TypedExpr-F TypedExpr) → literal_of (roll-TypedExpr d) ≡ form_literal (map-TypedExpr TypedExpr (Option Bytes) literal_of d)
unfolding literal_of
literal_roll d = fold-roll-TypedExpr (Option Bytes) form_literal d

pub literal_Number : (n scale : ℕ) → literal_of (e.Number n scale) ≡ None
literal_Number n scale = ap literal_of (sym (rolls-Number n scale)) ∙ literal_roll (TypedExpr-F.Number n scale)

pub literal_Text : (t : List ℕ) → literal_of (e.Text t) ≡ Some t
literal_Text t = ap literal_of (sym (rolls-Text t)) ∙ literal_roll (TypedExpr-F.Text t)

pub literal_Date : (day : ℤ) → literal_of (e.Date day) ≡ None
literal_Date day = ap literal_of (sym (rolls-Date day)) ∙ literal_roll (TypedExpr-F.Date day)

pub literal_Column : (c : ColumnRef) (type : ColumnType) → literal_of (e.Column c type) ≡ None
literal_Column c type = ap literal_of (sym (rolls-Column c type)) ∙ literal_roll (TypedExpr-F.Column c type)

pub literal_Aggregate : (n scale : ℕ) → literal_of (e.Aggregate n scale) ≡ None
literal_Aggregate n scale = ap literal_of (sym (rolls-Aggregate n scale)) ∙ literal_roll (TypedExpr-F.Aggregate n scale)

pub literal_Signed : (s : Sign) (x : TypedExpr) → literal_of (e.Signed s x) ≡ None
literal_Signed s x = ap literal_of (sym (rolls-Signed s x)) ∙ literal_roll (TypedExpr-F.Signed s x)

pub literal_Not : (x : TypedExpr) → literal_of (e.Not x) ≡ None
literal_Not x = ap literal_of (sym (rolls-Not x)) ∙ literal_roll (TypedExpr-F.Not x)

pub literal_Binary : (o : BinaryOp) (x y : TypedExpr) → literal_of (e.Binary o x y) ≡ None
literal_Binary o x y = ap literal_of (sym (rolls-Binary o x y)) ∙ literal_roll (TypedExpr-F.Binary o x y)

pub literal_Divide : (x : TypedExpr) (s : Sign) (n : ℕ) → literal_of (e.Divide x s n) ≡ None
literal_Divide x s n = ap literal_of (sym (rolls-Divide x s n)) ∙ literal_roll (TypedExpr-F.Divide x s n)

pub literal_Between : (p : Polarity) (x y z : TypedExpr) → literal_of (e.Between p x y z) ≡ None
literal_Between p x y z = ap literal_of (sym (rolls-Between p x y z)) ∙ literal_roll (TypedExpr-F.Between p x y z)

pub literal_In : (p : Polarity) (x : TypedExpr) (ys : List TypedExpr) → literal_of (e.In p x ys) ≡ None
literal_In p x ys = ap literal_of (sym (rolls-In p x ys)) ∙ literal_roll (TypedExpr-F.In p x ys)

pub literal_IsNull : (p : Polarity) (x : TypedExpr) → literal_of (e.IsNull p x) ≡ None
literal_IsNull p x = ap literal_of (sym (rolls-IsNull p x)) ∙ literal_roll (TypedExpr-F.IsNull p x)

pub literal_Coalesce : (x : TypedExpr) (ys : List TypedExpr) → literal_of (e.Coalesce x ys) ≡ None
literal_Coalesce x ys = ap literal_of (sym (rolls-Coalesce x ys)) ∙ literal_roll (TypedExpr-F.Coalesce x ys)

pub ruleset literal_forms = (literal_Number, literal_Text, literal_Date, literal_Column, literal_Aggregate, literal_Signed, literal_Not, literal_Binary, literal_Divide, literal_Between, literal_In, literal_IsNull, literal_Coalesce)

-- ---- codes

list_part : (texts : List Bytes) (ys : List TypedExpr) → map part (map (λ x. (x, lowered texts x)) ys) ≡ map (part_of texts) ys
list_part texts [] = refl
list_part texts (y ∷ ys) = ap (λ (more : List Part). part_of texts y ∷ more) (list_part texts ys)

lowered_step : (texts : List Bytes) (d : TypedExpr-F TypedExpr) → lowered texts (roll-TypedExpr d) ≡ form_code texts (map-TypedExpr (TypedExpr × Code) Part part (map-TypedExpr TypedExpr (TypedExpr × Code) (λ x. (x, lowered texts x)) d))
unfolding lowered
lowered_step texts d = para-roll-TypedExpr Code (λ f. form_code texts (map-TypedExpr (TypedExpr × Code) Part part f)) d

pub lowered_roll : (texts : List Bytes) (d : TypedExpr-F TypedExpr) → lowered texts (roll-TypedExpr d) ≡ form_code texts (map-TypedExpr TypedExpr Part (part_of texts) d)
lowered_roll texts (TypedExpr-F.In p x ys) = lowered_step texts (TypedExpr-F.In p x ys) ∙ ap (λ (l : List Part). form_code texts (TypedExpr-F.In p (part_of texts x) l)) (list_part texts ys)
lowered_roll texts (TypedExpr-F.Coalesce x ys) = lowered_step texts (TypedExpr-F.Coalesce x ys) ∙ ap (λ (l : List Part). form_code texts (TypedExpr-F.Coalesce (part_of texts x) l)) (list_part texts ys)
lowered_roll texts (TypedExpr-F.Number n scale) = lowered_step texts (TypedExpr-F.Number n scale)
lowered_roll texts (TypedExpr-F.Text t) = lowered_step texts (TypedExpr-F.Text t)
lowered_roll texts (TypedExpr-F.Date day) = lowered_step texts (TypedExpr-F.Date day)
lowered_roll texts (TypedExpr-F.Column c type) = lowered_step texts (TypedExpr-F.Column c type)
lowered_roll texts (TypedExpr-F.Aggregate n scale) = lowered_step texts (TypedExpr-F.Aggregate n scale)
lowered_roll texts (TypedExpr-F.Signed s x) = lowered_step texts (TypedExpr-F.Signed s x)
lowered_roll texts (TypedExpr-F.Not x) = lowered_step texts (TypedExpr-F.Not x)
lowered_roll texts (TypedExpr-F.Binary o x y) = lowered_step texts (TypedExpr-F.Binary o x y)
lowered_roll texts (TypedExpr-F.Divide x s n) = lowered_step texts (TypedExpr-F.Divide x s n)
lowered_roll texts (TypedExpr-F.Between p x a b) = lowered_step texts (TypedExpr-F.Between p x a b)
lowered_roll texts (TypedExpr-F.IsNull p x) = lowered_step texts (TypedExpr-F.IsNull p x)

pub lowered_Number : (texts : List Bytes) (n scale : ℕ) → lowered texts (e.Number n scale) ≡ form_code texts (TypedExpr-F.Number n scale)
lowered_Number texts n scale = ap (lowered texts) (sym (rolls-Number n scale)) ∙ lowered_roll texts (TypedExpr-F.Number n scale)

pub lowered_Text : (texts : List Bytes) (t : List ℕ) → lowered texts (e.Text t) ≡ form_code texts (TypedExpr-F.Text t)
lowered_Text texts t = ap (lowered texts) (sym (rolls-Text t)) ∙ lowered_roll texts (TypedExpr-F.Text t)

pub lowered_Date : (texts : List Bytes) (day : ℤ) → lowered texts (e.Date day) ≡ form_code texts (TypedExpr-F.Date day)
lowered_Date texts day = ap (lowered texts) (sym (rolls-Date day)) ∙ lowered_roll texts (TypedExpr-F.Date day)

pub lowered_Column : (texts : List Bytes) (c : ColumnRef) (type : ColumnType) → lowered texts (e.Column c type) ≡ form_code texts (TypedExpr-F.Column c type)
lowered_Column texts c type = ap (lowered texts) (sym (rolls-Column c type)) ∙ lowered_roll texts (TypedExpr-F.Column c type)

pub lowered_Aggregate : (texts : List Bytes) (n scale : ℕ) → lowered texts (e.Aggregate n scale) ≡ form_code texts (TypedExpr-F.Aggregate n scale)
lowered_Aggregate texts n scale = ap (lowered texts) (sym (rolls-Aggregate n scale)) ∙ lowered_roll texts (TypedExpr-F.Aggregate n scale)

pub lowered_Signed : (texts : List Bytes) (s : Sign) (x : TypedExpr) → lowered texts (e.Signed s x) ≡ form_code texts (TypedExpr-F.Signed s (part_of texts x))
lowered_Signed texts s x = ap (lowered texts) (sym (rolls-Signed s x)) ∙ lowered_roll texts (TypedExpr-F.Signed s x)

pub lowered_Not : (texts : List Bytes) (x : TypedExpr) → lowered texts (e.Not x) ≡ form_code texts (TypedExpr-F.Not (part_of texts x))
lowered_Not texts x = ap (lowered texts) (sym (rolls-Not x)) ∙ lowered_roll texts (TypedExpr-F.Not x)

pub lowered_Binary : (texts : List Bytes) (o : BinaryOp) (x y : TypedExpr) → lowered texts (e.Binary o x y) ≡ form_code texts (TypedExpr-F.Binary o (part_of texts x) (part_of texts y))
lowered_Binary texts o x y = ap (lowered texts) (sym (rolls-Binary o x y)) ∙ lowered_roll texts (TypedExpr-F.Binary o x y)

pub lowered_Divide : (texts : List Bytes) (x : TypedExpr) (s : Sign) (n : ℕ) → lowered texts (e.Divide x s n) ≡ form_code texts (TypedExpr-F.Divide (part_of texts x) s n)
lowered_Divide texts x s n = ap (lowered texts) (sym (rolls-Divide x s n)) ∙ lowered_roll texts (TypedExpr-F.Divide x s n)

pub lowered_Between : (texts : List Bytes) (p : Polarity) (x y z : TypedExpr) → lowered texts (e.Between p x y z) ≡ form_code texts (TypedExpr-F.Between p (part_of texts x) (part_of texts y) (part_of texts z))
lowered_Between texts p x y z = ap (lowered texts) (sym (rolls-Between p x y z)) ∙ lowered_roll texts (TypedExpr-F.Between p x y z)

pub lowered_In : (texts : List Bytes) (p : Polarity) (x : TypedExpr) (ys : List TypedExpr) → lowered texts (e.In p x ys) ≡ form_code texts (TypedExpr-F.In p (part_of texts x) (map (part_of texts) ys))
lowered_In texts p x ys = ap (lowered texts) (sym (rolls-In p x ys)) ∙ lowered_roll texts (TypedExpr-F.In p x ys)

pub lowered_IsNull : (texts : List Bytes) (p : Polarity) (x : TypedExpr) → lowered texts (e.IsNull p x) ≡ form_code texts (TypedExpr-F.IsNull p (part_of texts x))
lowered_IsNull texts p x = ap (lowered texts) (sym (rolls-IsNull p x)) ∙ lowered_roll texts (TypedExpr-F.IsNull p x)

pub lowered_Coalesce : (texts : List Bytes) (x : TypedExpr) (ys : List TypedExpr) → lowered texts (e.Coalesce x ys) ≡ form_code texts (TypedExpr-F.Coalesce (part_of texts x) (map (part_of texts) ys))
lowered_Coalesce texts x ys = ap (lowered texts) (sym (rolls-Coalesce x ys)) ∙ lowered_roll texts (TypedExpr-F.Coalesce x ys)

pub ruleset lowered_forms = (lowered_Number, lowered_Text, lowered_Date, lowered_Column, lowered_Aggregate, lowered_Signed, lowered_Not, lowered_Binary, lowered_Divide, lowered_Between, lowered_In, lowered_IsNull, lowered_Coalesce)

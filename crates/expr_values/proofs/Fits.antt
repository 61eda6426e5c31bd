-- What stands where an expression is evaluated, and that it stands so for each part of the expression.
use Rattle.std.proofs.Common.{◌≡◌, ℕ, ◌^◌, ◌<◌, ◌&&◌, Bool, true, List, ◌∷◌, ◌++◌, map, length, Option, Some, sym, ap, ◌∙◌}
use Rattle.std.specs.Prelude.{flat_map}
use Rattle.std.specs.List.{list_all}
use Rattle.std.proofs.lemmas.List.Folds.{list_all-append}
use Rattle.query_trees.specs.declared.expr.BinaryOp.{BinaryOp}
use Rattle.query_trees.specs.declared.expr.Polarity.{Polarity}
use Rattle.table_load.specs.Databases.{coded}
use Rattle.typed_trees.specs.declared.typed.ColumnRef.{ColumnRef}
use Rattle.typed_trees.specs.declared.typed.ColumnType.{ColumnType}
use Rattle.typed_trees.specs.declared.typed.TypedExpr.{TypedExpr, roll-TypedExpr}
use Rattle.typed_trees.specs.declared.typed.TypedExpr.TheOpen.{TypedExpr-F}
use Rattle.typed_trees.specs.declared.typed.TypedExpr.TheFolds.{map-TypedExpr}
use Rattle.typed_trees.specs.Columns.{Columns, form_columns, columns_in}
use Rattle.typed_trees.specs.Kinds.{kind_of}
use Rattle.typed_trees.specs.Types.{DataType}
use Rattle.typed_trees.proofs.ColumnForms.{columns_roll}
use Rattle.typed_values.specs.Values.{On}
use Rattle.value_laws.specs.Laws.{is_of, IsOf, KindLaw}
use Rattle.expr_steps.specs.Lowered.{Bytes}
use Rattle.expr_values.specs.Laws.{is_known, StandsFor}
use Rattle.expr_values.specs.Places.{Place}
use Rattle.expr_values.specs.Written.{AreScaled, form_written, is_written}
use Rattle.expr_values.proofs.Names.{Named, AllNamed, IsPart, of_part, left_named, right_named, tested_named, least_named, most_named, in_first_named, in_others_named, choice_first_named, choice_others_named, first_named, later_named}
use Rattle.expr_values.proofs.Scales.{written_roll, and_left, and_right}

-- a place, what stands there, the texts that have codes, and the law of kinds
pub record World : Type 0 where
  pub texts : List Bytes
  pub at : ℕ → Option DataType
  pub on : On
  pub place : Place
  pub few : length texts < 2 ^ 32
  pub scaled : AreScaled at
  pub kinds : KindLaw
  pub aggregates : (n : ℕ) (t : DataType) → at n ≡ Some t → IsOf t.kind (on.aggregate n)

-- a column's value is of the kind of its type
abbrev pub fits_at : On → ColumnRef × ColumnType → Bool
fits_at on c = is_of (kind_of c.1.kind) (on.column c.0)

abbrev pub fit : On → Columns → Bool
fit on cs = list_all (fits_at on) cs

abbrev pub ColumnFits : World → ColumnRef → Type 0
ColumnFits w c = (is_known w.texts (w.on.column c) ≡ true) × (w.place.column c ≡ coded w.texts (w.on.column c))

abbrev pub AggregateFits : World → ℕ → Type 0
AggregateFits w n = StandsFor w.texts (w.place.aggregate n) (w.on.aggregate n)

pub record Fits (w : World) (e : TypedExpr) : Type 0 where
  pub written : is_written e ≡ true
  pub columns : fit w.on (columns_in e) ≡ true
  pub names : Named (ColumnFits w) (AggregateFits w) e

pub record AllFit (w : World) (xs : List TypedExpr) : Type 0 where
  pub written : list_all (λ (b : Bool). b) (map is_written xs) ≡ true
  pub columns : fit w.on (flat_map (λ (c : Columns). c) (map columns_in xs)) ≡ true
  pub names : AllNamed (ColumnFits w) (AggregateFits w) xs

-- ---- columns one behind another

fit_first : (on : On) (cs ds : Columns) → fit on (cs ++ ds) ≡ true → fit on cs ≡ true
fit_first on cs ds h = and_left (fit on cs) (fit on ds) (sym (list_all-append (fits_at on) cs ds) ∙ h)

fit_rest : (on : On) (cs ds : Columns) → fit on (cs ++ ds) ≡ true → fit on ds ≡ true
fit_rest on cs ds h = and_right (fit on cs) (fit on ds) (sym (list_all-append (fits_at on) cs ds) ∙ h)

-- ---- parts

abbrev form_of_written : TypedExpr-F TypedExpr → Bool
form_of_written d = form_written (map-TypedExpr TypedExpr Bool is_written d)

abbrev form_of_columns : TypedExpr-F TypedExpr → Columns
form_of_columns d = form_columns (map-TypedExpr TypedExpr Columns columns_in d)

pub part_fits : (w : World) (x : TypedExpr) (d : TypedExpr-F TypedExpr) → (form_of_written d ≡ true → is_written x ≡ true) → (fit w.on (form_of_columns d) ≡ true → fit w.on (columns_in x) ≡ true) → (Named (ColumnFits w) (AggregateFits w) (roll-TypedExpr d) → Named (ColumnFits w) (AggregateFits w) x) →
    Fits w (roll-TypedExpr d) → Fits w x
part_fits w x d f g n h = record { written = f (sym (written_roll d) ∙ h.written); columns = g (sym (ap (fit w.on) (columns_roll d)) ∙ h.columns); names = n h.names }

parts_fit : (w : World) (xs : List TypedExpr) (d : TypedExpr-F TypedExpr) → (form_of_written d ≡ true → list_all (λ (b : Bool). b) (map is_written xs) ≡ true) → (fit w.on (form_of_columns d) ≡ true → fit w.on (flat_map (λ (c : Columns). c) (map columns_in xs)) ≡ true) →
    (Named (ColumnFits w) (AggregateFits w) (roll-TypedExpr d) → AllNamed (ColumnFits w) (AggregateFits w) xs) → Fits w (roll-TypedExpr d) → AllFit w xs
parts_fit w xs d f g n h = record { written = f (sym (written_roll d) ∙ h.written); columns = g (sym (ap (fit w.on) (columns_roll d)) ∙ h.columns); names = n h.names }

-- the one operand of a form
pub one_fits : (w : World) (x : TypedExpr) (d : TypedExpr-F TypedExpr) → (form_of_written d ≡ true → is_written x ≡ true) → (fit w.on (form_of_columns d) ≡ true → fit w.on (columns_in x) ≡ true) → IsPart x d → Fits w (roll-TypedExpr d) → Fits w x
one_fits w x d f g is = part_fits w x d f g (of_part (ColumnFits w) (AggregateFits w) x d is)

pub left_fits : (w : World) (o : BinaryOp) (x y : TypedExpr) → Fits w (roll-TypedExpr (TypedExpr-F.Binary o x y)) → Fits w x
left_fits w o x y = part_fits w x (TypedExpr-F.Binary o x y) (and_left (is_written x) (is_written y)) (fit_first w.on (columns_in x) (columns_in y)) (left_named (ColumnFits w) (AggregateFits w) o x y)

pub right_fits : (w : World) (o : BinaryOp) (x y : TypedExpr) → Fits w (roll-TypedExpr (TypedExpr-F.Binary o x y)) → Fits w y
right_fits w o x y = part_fits w y (TypedExpr-F.Binary o x y) (and_right (is_written x) (is_written y)) (fit_rest w.on (columns_in x) (columns_in y)) (right_named (ColumnFits w) (AggregateFits w) o x y)

pub tested_fits : (w : World) (p : Polarity) (x y z : TypedExpr) → Fits w (roll-TypedExpr (TypedExpr-F.Between p x y z)) → Fits w x
tested_fits w p x y z = part_fits w x (TypedExpr-F.Between p x y z) (and_left (is_written x) (is_written y && is_written z)) (fit_first w.on (columns_in x) (columns_in y ++ columns_in z)) (tested_named (ColumnFits w) (AggregateFits w) p x y z)

pub least_fits : (w : World) (p : Polarity) (x y z : TypedExpr) → Fits w (roll-TypedExpr (TypedExpr-F.Between p x y z)) → Fits w y
least_fits w p x y z =
    part_fits w y (TypedExpr-F.Between p x y z) (λ h. and_left (is_written y) (is_written z) (and_right (is_written x) (is_written y && is_written z) h))
    (λ h. fit_first w.on (columns_in y) (columns_in z) (fit_rest w.on (columns_in x) (columns_in y ++ columns_in z) h)) (least_named (ColumnFits w) (AggregateFits w) p x y z)

pub most_fits : (w : World) (p : Polarity) (x y z : TypedExpr) → Fits w (roll-TypedExpr (TypedExpr-F.Between p x y z)) → Fits w z
most_fits w p x y z =
    part_fits w z (TypedExpr-F.Between p x y z) (λ h. and_right (is_written y) (is_written z) (and_right (is_written x) (is_written y && is_written z) h))
    (λ h. fit_rest w.on (columns_in y) (columns_in z) (fit_rest w.on (columns_in x) (columns_in y ++ columns_in z) h)) (most_named (ColumnFits w) (AggregateFits w) p x y z)

-- ---- lists of operands

abbrev all_written : List TypedExpr → Bool
all_written ys = list_all (λ (b : Bool). b) (map is_written ys)

abbrev all_columns : List TypedExpr → Columns
all_columns ys = flat_map (λ (c : Columns). c) (map columns_in ys)

pub in_first_fits : (w : World) (p : Polarity) (x : TypedExpr) (ys : List TypedExpr) → Fits w (roll-TypedExpr (TypedExpr-F.In p x ys)) → Fits w x
in_first_fits w p x ys = part_fits w x (TypedExpr-F.In p x ys) (and_left (is_written x) (all_written ys)) (fit_first w.on (columns_in x) (all_columns ys)) (in_first_named (ColumnFits w) (AggregateFits w) p x ys)

pub in_others_fit : (w : World) (p : Polarity) (x : TypedExpr) (ys : List TypedExpr) → Fits w (roll-TypedExpr (TypedExpr-F.In p x ys)) → AllFit w ys
in_others_fit w p x ys = parts_fit w ys (TypedExpr-F.In p x ys) (and_right (is_written x) (all_written ys)) (fit_rest w.on (columns_in x) (all_columns ys)) (in_others_named (ColumnFits w) (AggregateFits w) p x ys)

pub choice_first_fits : (w : World) (x : TypedExpr) (ys : List TypedExpr) → Fits w (roll-TypedExpr (TypedExpr-F.Coalesce x ys)) → Fits w x
choice_first_fits w x ys = part_fits w x (TypedExpr-F.Coalesce x ys) (and_left (is_written x) (all_written ys)) (fit_first w.on (columns_in x) (all_columns ys)) (choice_first_named (ColumnFits w) (AggregateFits w) x ys)

pub choice_others_fit : (w : World) (x : TypedExpr) (ys : List TypedExpr) → Fits w (roll-TypedExpr (TypedExpr-F.Coalesce x ys)) → AllFit w ys
choice_others_fit w x ys = parts_fit w ys (TypedExpr-F.Coalesce x ys) (and_right (is_written x) (all_written ys)) (fit_rest w.on (columns_in x) (all_columns ys)) (choice_others_named (ColumnFits w) (AggregateFits w) x ys)

pub first_fits : (w : World) (y : TypedExpr) (ys : List TypedExpr) → AllFit w (y ∷ ys) → Fits w y
first_fits w y ys h = record { written = and_left (is_written y) (all_written ys) h.written; columns = fit_first w.on (columns_in y) (all_columns ys) h.columns; names = first_named (ColumnFits w) (AggregateFits w) y ys h.names }

pub later_fit : (w : World) (y : TypedExpr) (ys : List TypedExpr) → AllFit w (y ∷ ys) → AllFit w ys
later_fit w y ys h = record { written = and_right (is_written y) (all_written ys) h.written; columns = fit_rest w.on (columns_in y) (all_columns ys) h.columns; names = later_named (ColumnFits w) (AggregateFits w) y ys h.names }

-- What an expression names, by the columns that it is made of.
use Rattle.std.proofs.Common.{◌≡◌, ◌∙◌, Bool, true, false, ◌||◌, List, [], ◌∷◌, ◌++◌, map, refl, sym, ap, subst}
use Rattle.std.specs.Prelude.{flat_map}
use Rattle.std.specs.List.{list_any}
use Rattle.std.proofs.lemmas.List.Folds.{list_any-append}
use Rattle.typed_trees.specs.declared.typed.ColumnRef.{ColumnRef}
use Rattle.typed_trees.specs.declared.typed.ColumnType.{ColumnType}
use Rattle.typed_trees.specs.declared.typed.TypedExpr.{TypedExpr, roll-TypedExpr}
use Rattle.typed_trees.specs.declared.typed.TypedExpr.TheOpen.{TypedExpr-F}
use Rattle.typed_trees.specs.declared.typed.TypedExpr.TheFolds.{map-TypedExpr, ind-TypedExpr}
use Rattle.typed_trees.specs.Columns.{Columns, form_columns, columns_in}
use Rattle.typed_trees.specs.Names.{form_names, names_any}
use Rattle.typed_trees.proofs.ColumnForms.{columns_roll}
use Rattle.typed_trees.proofs.NameForms.{names_roll}

-- an expression names a column where one that it is made of is that column
abbrev IsNamed : (ColumnRef → Bool) → TypedExpr → Type 0
IsNamed column e = names_any column (λ n. false) e ≡ list_any (λ c. column c.0) (columns_in e)

module _ (column : ColumnRef → Bool) where
  abbrev named : TypedExpr → Bool
  named = names_any column (λ n. false)

  abbrev among : Columns → Bool
  among cs = list_any (λ c. column c.0) cs

  abbrev Elements : Type 0
  Elements = List ((e : TypedExpr) × IsNamed column e)

  abbrev exprs : Elements → List TypedExpr
  exprs ys = map (λ y. y.0) ys

  by_parts : (d : TypedExpr-F TypedExpr) → form_names column (λ n. false) (map-TypedExpr TypedExpr Bool named d) ≡ among (form_columns (map-TypedExpr TypedExpr Columns columns_in d)) → IsNamed column (roll-TypedExpr d)
  by_parts d h = names_roll column (λ n. false) d ∙ (h ∙ sym (ap among (columns_roll d)))

  of_two : (x y : Bool) (cs ds : Columns) → x ≡ among cs → y ≡ among ds → (x || y) ≡ among (cs ++ ds)
  of_two x y cs ds h g = (λ i. h i || g i) ∙ sym (list_any-append (λ (c : ColumnRef × ColumnType). column c.0) cs ds)

  of_list : (ys : Elements) → list_any (λ (b : Bool). b) (map named (exprs ys)) ≡ among (flat_map (λ (cs : Columns). cs) (map columns_in (exprs ys)))
  of_list [] = refl
  of_list (y ∷ ys) = of_two (named y.0) (list_any (λ (b : Bool). b) (map named (exprs ys))) (columns_in y.0) (flat_map (λ (cs : Columns). cs) (map columns_in (exprs ys))) y.1 (of_list ys)

  alone : (b : Bool) → b ≡ (b || false)
  alone true = refl
  alone false = refl

  by_layer : (y : TypedExpr-F ((e : TypedExpr) × IsNamed column e)) → IsNamed column (roll-TypedExpr (map-TypedExpr ((e : TypedExpr) × IsNamed column e) TypedExpr (λ x. x.0) y))
  by_layer (TypedExpr-F.Number n scale) = by_parts (TypedExpr-F.Number n scale) refl
  by_layer (TypedExpr-F.Text t) = by_parts (TypedExpr-F.Text t) refl
  by_layer (TypedExpr-F.Date day) = by_parts (TypedExpr-F.Date day) refl
  by_layer (TypedExpr-F.Column c type) = by_parts (TypedExpr-F.Column c type) (alone (column c))
  by_layer (TypedExpr-F.Aggregate n scale) = by_parts (TypedExpr-F.Aggregate n scale) refl
  by_layer (TypedExpr-F.Signed s x) = by_parts (TypedExpr-F.Signed s x.0) x.1
  by_layer (TypedExpr-F.Not x) = by_parts (TypedExpr-F.Not x.0) x.1
  by_layer (TypedExpr-F.Binary o x y) = by_parts (TypedExpr-F.Binary o x.0 y.0) (of_two (named x.0) (named y.0) (columns_in x.0) (columns_in y.0) x.1 y.1)
  by_layer (TypedExpr-F.Divide x s n) = by_parts (TypedExpr-F.Divide x.0 s n) x.1
  by_layer (TypedExpr-F.Between p x y z) =
      by_parts (TypedExpr-F.Between p x.0 y.0 z.0) (of_two (named x.0) (named y.0 || named z.0) (columns_in x.0) (columns_in y.0 ++ columns_in z.0) x.1 (of_two (named y.0) (named z.0) (columns_in y.0) (columns_in z.0) y.1 z.1))
  by_layer (TypedExpr-F.In p x ys) =
      by_parts (TypedExpr-F.In p x.0 (exprs ys)) (of_two (named x.0) (list_any (λ (b : Bool). b) (map named (exprs ys))) (columns_in x.0) (flat_map (λ (cs : Columns). cs) (map columns_in (exprs ys))) x.1 (of_list ys))
  by_layer (TypedExpr-F.IsNull p x) = by_parts (TypedExpr-F.IsNull p x.0) x.1
  by_layer (TypedExpr-F.Coalesce x ys) =
      by_parts (TypedExpr-F.Coalesce x.0 (exprs ys)) (of_two (named x.0) (list_any (λ (b : Bool). b) (map named (exprs ys))) (columns_in x.0) (flat_map (λ (cs : Columns). cs) (map columns_in (exprs ys))) x.1 (of_list ys))

  pub is_named : (e : TypedExpr) → IsNamed column e
  is_named = ind-TypedExpr (IsNamed column) (λ x y is. subst (λ z. IsNamed column (roll-TypedExpr z)) is (by_layer y))

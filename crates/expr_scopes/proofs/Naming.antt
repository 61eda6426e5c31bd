-- What the operands of an expression name, the expression names too.
use Rattle.std.proofs.Common.{◌≡◌, ℕ, Bool, true, false, List, [], ◌∷◌, map, ◌∙◌, ◌==◌}
use Rattle.std.specs.List.{list_any}
use Rattle.std.proofs.lemmas.Bool.{or_left, or_right}
use Rattle.typed_trees.specs.declared.typed.ColumnRef.{ColumnRef}
use Rattle.typed_trees.specs.declared.typed.TypedExpr.{TypedExpr, roll-TypedExpr}
use Rattle.typed_trees.specs.declared.typed.TypedExpr.TheOpen.{TypedExpr-F}
use Rattle.typed_trees.specs.declared.typed.TypedExpr.TheFolds.{map-TypedExpr}
use Rattle.typed_trees.specs.Names.{same_column, form_names, names_any, names_column, names_aggregate}
use Rattle.typed_trees.proofs.NameForms.{names_roll}
use Rattle.expr_scopes.specs.Scopes.{Names, names_in}

-- what an expression names may be read
pub record Within (names : Names) (e : TypedExpr) : Type 0 where
  pub column : (c : ColumnRef) → names_column c e ≡ true → names.column c ≡ true
  pub aggregate : (n : ℕ) → names_aggregate n e ≡ true → names.aggregate n ≡ true

pub within_itself : (e : TypedExpr) → Within (names_in e) e
within_itself e = record { column = λ c h. h; aggregate = λ n h. h }

-- what a form names
abbrev pub form_has : (ColumnRef → Bool) → (ℕ → Bool) → TypedExpr-F TypedExpr → Bool
form_has column aggregate d = form_names column aggregate (map-TypedExpr TypedExpr Bool (names_any column aggregate) d)

pub part_within : (names : Names) (d : TypedExpr-F TypedExpr) (x : TypedExpr) → Within names (roll-TypedExpr d) → ((column : ColumnRef → Bool) (aggregate : ℕ → Bool) → names_any column aggregate x ≡ true → form_has column aggregate d ≡ true) → Within names x
part_within names d x w h = record {
  column = λ c n. w.column c (names_roll (same_column c) (λ m. false) d ∙ h (same_column c) (λ m. false) n);
  aggregate = λ a n. w.aggregate a (names_roll (λ c. false) (λ m. a == m) d ∙ h (λ c. false) (λ m. a == m) n);
}

abbrev pub AllWithin : Names → List TypedExpr → Type 0
AllWithin names [] = Unit {0}
AllWithin names (y ∷ ys) = Within names y × AllWithin names ys

pub list_within : (names : Names) (d : TypedExpr-F TypedExpr) (ys : List TypedExpr) → Within names (roll-TypedExpr d) → ((column : ColumnRef → Bool) (aggregate : ℕ → Bool) → list_any (λ b. b) (map (names_any column aggregate) ys) ≡ true → form_has column aggregate d ≡ true) → AllWithin names ys
list_within names d [] w h = tt
list_within names d (y ∷ ys) w h = (
  part_within names d y w (λ column aggregate n. h column aggregate (or_left (names_any column aggregate y) (list_any (λ b. b) (map (names_any column aggregate) ys)) n)),
  list_within names d ys w (λ column aggregate n. h column aggregate (or_right (names_any column aggregate y) (list_any (λ b. b) (map (names_any column aggregate) ys)) n)),
)

-- The columns and the aggregates that an expression names.
use Rattle.std.specs.Prelude.{ℕ, Bool, false, ◌==◌, ◌&&◌, ◌||◌}
use Rattle.std.specs.List.{list_any}
use Rattle.typed_trees.specs.declared.naming.Wanted.{Wanted}
use Rattle.typed_trees.specs.declared.naming.Wanted.TheVariants as wanted
use Rattle.typed_trees.specs.declared.typed.ColumnRef.{ColumnRef}
use Rattle.typed_trees.specs.declared.typed.TypedExpr.{TypedExpr}
use Rattle.typed_trees.specs.declared.typed.TypedExpr.TheOpen.{TypedExpr-F}
use Rattle.typed_trees.specs.declared.typed.TypedExpr.TheFolds.{fold-TypedExpr}

abbrev pub same_column : ColumnRef → ColumnRef → Bool
same_column a b = (a.source == b.source) && (a.column == b.column)

-- whether a form names what a column or an aggregate is asked of, or an operand does
abbrev pub form_names : (ColumnRef → Bool) → (ℕ → Bool) → TypedExpr-F Bool → Bool
form_names column aggregate (TypedExpr-F.Number n scale) = false
form_names column aggregate (TypedExpr-F.Text t) = false
form_names column aggregate (TypedExpr-F.Date day) = false
form_names column aggregate (TypedExpr-F.Column c type) = column c
form_names column aggregate (TypedExpr-F.Aggregate n scale) = aggregate n
form_names column aggregate (TypedExpr-F.Signed s a) = a
form_names column aggregate (TypedExpr-F.Not a) = a
form_names column aggregate (TypedExpr-F.Binary o a b) = a || b
form_names column aggregate (TypedExpr-F.Divide a s n) = a
form_names column aggregate (TypedExpr-F.Between p a b c) = a || (b || c)
form_names column aggregate (TypedExpr-F.In p a bs) = a || list_any (λ b. b) bs
form_names column aggregate (TypedExpr-F.IsNull p a) = a
form_names column aggregate (TypedExpr-F.Coalesce a bs) = a || list_any (λ b. b) bs

-- whether an expression names a column, or an aggregate, of this kind
unfoldable pub names_any : (ColumnRef → Bool) → (ℕ → Bool) → TypedExpr → Bool
names_any column aggregate = fold-TypedExpr Bool (form_names column aggregate)

-- ---- what may be looked for

abbrev pub wants_column : Wanted → ColumnRef → Bool
wants_column (wanted.ColumnOf source) c = source == c.source
wants_column (wanted.Column a) c = same_column a c
wants_column (wanted.Aggregate n) c = false

abbrev pub wants_aggregate : Wanted → ℕ → Bool
wants_aggregate (wanted.Aggregate n) place = n == place
wants_aggregate w place = false

-- whether it names what is wanted
abbrev pub names : Wanted → TypedExpr → Bool
names w = names_any (wants_column w) (wants_aggregate w)

-- whether it names this column
abbrev pub names_column : ColumnRef → TypedExpr → Bool
names_column c = names_any (same_column c) (λ n. false)

-- whether it names this aggregate
abbrev pub names_aggregate : ℕ → TypedExpr → Bool
names_aggregate n = names_any (λ c. false) (λ m. n == m)

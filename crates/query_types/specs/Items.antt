-- The select list: its values and their output names. After SQL-92 (ISO/IEC 9075:1992), 7.9 <query specification>.
use Rattle.std.specs.Prelude.{◌≡◌, ℕ, ◌≤◌, ◌+◌, nat_le, Bool, List, [], ◌∷◌, ◌++◌, length, decimal, Option, Some, None, Ok}
use Rattle.query_trees.specs.declared.clauses.Alias.{Alias}
use Rattle.query_trees.specs.declared.expr.ColumnName.{ColumnName}
use Rattle.query_trees.specs.declared.clauses.SelectItem.{SelectItem}
use Rattle.query_trees.specs.declared.clauses.SelectList.{SelectList}
use Rattle.query_trees.specs.declared.clauses.SelectList.TheVariants as select
use Rattle.query_types.specs.declared.refusal.TypeKind.TheVariants.{TypesDiffer, TooManyItems}
use Rattle.typed_trees.specs.declared.typed.TypedExpr.{TypedExpr}
use Rattle.typed_trees.specs.declared.typed.TypedExpr.TheVariants as e
use Rattle.typed_trees.specs.declared.kinds.Role.TheVariants.{Alone}
use Rattle.query_types.specs.declared.scope.Found.{Found}
use Rattle.query_types.specs.declared.typing.Typed.{Typed}
use Rattle.query_types.specs.declared.stars.Starred.{Starred}
use Rattle.query_types.specs.declared.items.Shown.{Shown}
use Rattle.typed_trees.specs.Kinds.{is_truth}
use Rattle.query_types.specs.Names.{Scope, standing}
use Rattle.query_types.specs.Expressions.{typer, column_alone}
use Rattle.query_types.specs.Grouping.{every_column}
use Rattle.query_types.specs.Outcomes.{Outcome, refuse_if, and_then, Collecting, ◌>>=◌, pure, lift}

-- at most 64 items, each with its name
abbrev pub IsShort : Shown → Type 0
IsShort shown = (length shown.items ≤ 64) × (length shown.names ≡ length shown.items)

abbrev pub nothing_shown : Shown
nothing_shown = record { items = []; names = [] }

-- one more item and its output name
abbrev pub with_item : Shown → TypedExpr → List ℕ → Shown
with_item shown value name = record { items = shown.items ++ value ∷ []; names = shown.names ++ name ∷ [] }

abbrev pub is_full : Shown → Bool
is_full shown = nat_le 64 (length shown.items)

-- ---- `*` at a byte

abbrev pub found_starred : Starred → Found
found_starred f = record { column = f.column; type_ = f.type_ }

unfoldable pub star_item : Scope → ℕ → Shown → Starred → Outcome Shown
star_item s at shown f =
    refuse_if (is_full shown) TooManyItems at
    (and_then (standing s at (found_starred f)) (λ g. Ok (with_item shown (e.Column f.column f.type_) f.name)))

abbrev pub star_items : Scope → ℕ → Shown → List Starred → Outcome Shown
star_items s at shown [] = Ok shown
star_items s at shown (f ∷ fs) = and_then (star_item s at shown f) (λ more. star_items s at more fs)

-- ---- items

-- An item's output name is its alias, else the column's name where it is a column, else c and its place from 1.
abbrev pub output_name : ℕ → Option Alias → Option ColumnName → List ℕ
output_name place (Some a) column = a.name
output_name place None (Some c) = c.name
output_name place None None = 99 ∷ decimal place

abbrev pub name_of : Shown → SelectItem → List ℕ
name_of shown x = output_name (length shown.items + 1) x.alias (column_alone x.value)

-- A truth is no item.
unfoldable pub with_value : Shown → SelectItem → Typed → Outcome Shown
with_value shown x t = refuse_if (is_truth t.kind) TypesDiffer x.value.at (Ok (with_item shown t.value (name_of shown x)))

unfoldable pub item : Scope → Shown → SelectItem → Collecting Shown
item s shown x = λ met. refuse_if (is_full shown) TooManyItems x.value.at ((typer x.value s Alone >>= λ t. lift (with_value shown x t)) met)

abbrev pub items : Scope → Shown → List SelectItem → Collecting Shown
items s shown [] = pure shown
items s shown (x ∷ xs) = item s shown x >>= λ more. items s more xs

-- what is selected
abbrev pub shown_of : Scope → SelectList → Collecting Shown
shown_of s (select.All star) = lift (star_items s star nothing_shown (every_column s.defs 0 s.tables))
shown_of s (select.Items xs) = items s nothing_shown xs

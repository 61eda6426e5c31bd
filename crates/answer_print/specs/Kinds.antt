-- The kind of an expression that has a type, by what stands at its root.
use Rattle.std.specs.Prelude.{ℕ, List, [], map, slice_index_or, Option, Some, None}
use Rattle.typed_trees.specs.declared.kinds.Kind.{Kind}
use Rattle.typed_trees.specs.declared.kinds.Kind.TheVariants.{Number, Date, Text, Truth}
use Rattle.typed_trees.specs.declared.typed.Aggregate.{Aggregate}
use Rattle.typed_trees.specs.declared.typed.AggregateKind.{AggregateKind}
use Rattle.typed_trees.specs.declared.typed.AggregateKind.TheVariants.{Min, Max}
use Rattle.typed_trees.specs.declared.typed.TypedExpr.{TypedExpr}
use Rattle.typed_trees.specs.declared.typed.TypedExpr.TheOpen.{TypedExpr-F}
use Rattle.typed_trees.specs.declared.typed.TypedExpr.TheFolds.{fold-TypedExpr}
use Rattle.typed_trees.specs.Kinds.{kind_of, family_of, makes}

-- of an aggregate by its place, a number where there is none
abbrev pub kind_at : List Kind → ℕ → Kind
kind_at kinds n = slice_index_or kinds n Number

abbrev pub form_kind : List Kind → TypedExpr-F Kind → Kind
form_kind kinds (TypedExpr-F.Number n scale) = Number
form_kind kinds (TypedExpr-F.Text t) = Text
form_kind kinds (TypedExpr-F.Date day) = Date
form_kind kinds (TypedExpr-F.Column c type) = kind_of type.kind
form_kind kinds (TypedExpr-F.Aggregate n scale) = kind_at kinds n
form_kind kinds (TypedExpr-F.Signed s a) = Number
form_kind kinds (TypedExpr-F.Not a) = Truth
form_kind kinds (TypedExpr-F.Binary o a b) = makes (family_of o)
form_kind kinds (TypedExpr-F.Divide a s n) = Number
form_kind kinds (TypedExpr-F.Between p a b c) = Truth
form_kind kinds (TypedExpr-F.In p a bs) = Truth
form_kind kinds (TypedExpr-F.IsNull p a) = Truth
form_kind kinds (TypedExpr-F.Coalesce a bs) = a

-- over aggregates of these kinds
unfoldable pub kind_in : List Kind → TypedExpr → Kind
kind_in kinds = fold-TypedExpr Kind (form_kind kinds)

-- the least and the greatest value are of their argument's kind; all else is a number
abbrev pub folded : AggregateKind → Kind → Kind
folded Min kind = kind
folded Max kind = kind
folded of kind = Number

abbrev pub argument_kind : AggregateKind → Option TypedExpr → Kind
argument_kind of None = Number
argument_kind of (Some e) = folded of (kind_in [] e)

abbrev pub aggregate_kind : Aggregate → Kind
aggregate_kind a = argument_kind a.kind a.argument

abbrev pub aggregate_kinds : List Aggregate → List Kind
aggregate_kinds aggregates = map aggregate_kind aggregates

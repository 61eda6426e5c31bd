-- Typed expressions and queries: each operator has operands of types that it takes, text literals stand as sides alone, conditions are truths, and no item is one.
-- After SQL-92 (ISO/IEC 9075:1992), 7.6 <where clause>, 7.8 <having clause> and 7.9 <query specification>.
use Rattle.std.specs.Prelude.{◌≡◌, ℕ, Bool, true, not, All, Option, Some, IsSome}
use Rattle.std.specs.Option.{ForSome}
use Rattle.typed_trees.specs.declared.kinds.Kind.{Kind}
use Rattle.typed_trees.specs.declared.kinds.Role.TheVariants.{Alone}
use Rattle.typed_trees.specs.declared.typed.Aggregate.{Aggregate}
use Rattle.typed_trees.specs.declared.typed.PlanSource.{PlanSource}
use Rattle.typed_trees.specs.declared.typed.TypedExpr.{TypedExpr}
use Rattle.typed_trees.specs.declared.typed.TypedQuery.{TypedQuery}
use Rattle.typed_trees.specs.Kinds.{is_truth}
use Rattle.typed_trees.specs.Sides.{stands}
use Rattle.typed_trees.specs.Types.{DataType, type_of, no_aggregate, aggregate_type, types_of}

-- an expression of such a kind, which stands alone, over aggregates of these types
pub record HasType (at : ℕ → Option DataType) (allowed : Kind → Bool) (e : TypedExpr) : Type 0 where
  pub type : DataType
  pub is : type_of at e ≡ Some type
  pub kind : allowed type.kind ≡ true
  pub sides : stands e Alone ≡ true

abbrev pub is_value : Kind → Bool
is_value kind = not (is_truth kind)

abbrev pub IsCondition : (ℕ → Option DataType) → TypedExpr → Type 0
IsCondition at e = HasType at is_truth e

abbrev pub IsItem : (ℕ → Option DataType) → TypedExpr → Type 0
IsItem at e = HasType at is_value e

pub record IsAggregate (a : Aggregate) : Type 0 where
  pub type : IsSome (aggregate_type a)
  pub sides : ForSome a.argument (λ e. stands e Alone ≡ true)

-- the conditions on a table's rows
abbrev pub IsSource : PlanSource → Type 0
IsSource s = All (IsCondition no_aggregate) s.filter

pub record IsTyped (q : TypedQuery) : Type 0 where
  pub sources : All IsSource q.sources
  pub filter : All (IsCondition no_aggregate) q.filter
  pub aggregates : All IsAggregate q.aggregates
  pub having : ForSome q.having (IsCondition (types_of q.aggregates))
  pub items : All (IsItem (types_of q.aggregates)) q.items

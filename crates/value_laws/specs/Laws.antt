-- The laws of values: a typed expression's value is of its kind or null, and a value depends on what its expression names, and on nothing else.
-- After SQL-92 (ISO/IEC 9075:1992), 4.1 <data types>, where null is a value of every type, and 6.11 <value expression>.
use Rattle.std.specs.Prelude.{◌≡◌, ℕ, Bool, true, false, Option, Some, IfOk}
use Rattle.std.specs.List.{list_all}
use Rattle.sql_values.specs.Values.{Value, number, text, truth, null}
use Rattle.typed_trees.specs.declared.kinds.Kind.{Kind}
use Rattle.typed_trees.specs.declared.kinds.Kind.TheVariants.{Number, Date, Text, Truth}
use Rattle.typed_trees.specs.declared.typed.ColumnRef.{ColumnRef}
use Rattle.typed_trees.specs.declared.typed.TypedExpr.{TypedExpr}
use Rattle.typed_trees.specs.Columns.{columns_in}
use Rattle.typed_trees.specs.Kinds.{kind_of}
use Rattle.typed_trees.specs.Names.{names_column, names_aggregate}
use Rattle.typed_trees.specs.Types.{DataType, type_of}
use Rattle.typed_values.specs.Values.{Valued, On, value}

-- ---- kinds

-- a value of a kind: a date is the number of its day, and null is of every kind
abbrev pub is_of : Kind → Value → Bool
is_of kind null = true
is_of Number (number z) = true
is_of Date (number z) = true
is_of Text (text t) = true
is_of Truth (truth b) = true
is_of kind v = false

-- a value of a kind, or Over
abbrev pub IsOf : Kind → Valued → Type 0
IsOf kind r = IfOk r (λ v. is_of kind v ≡ true)

-- what an expression is evaluated on is of the types that stand in it: those of its columns, and those of the aggregates
pub record HasTypes (at : ℕ → Option DataType) (on : On) (e : TypedExpr) : Type 0 where
  pub columns : list_all (λ c. is_of (kind_of c.1.kind) (on.column c.0)) (columns_in e) ≡ true
  pub aggregates : (n : ℕ) (t : DataType) → at n ≡ Some t → IsOf t.kind (on.aggregate n)

abbrev pub KindLaw : Type 0
KindLaw = (at : ℕ → Option DataType) (on : On) (e : TypedExpr) (t : DataType) → type_of at e ≡ Some t → HasTypes at on e → IsOf t.kind (value on e)

-- ---- names

-- two that have the same at each column and each aggregate that an expression names
pub record AreAlike (on other : On) (e : TypedExpr) : Type 0 where
  pub columns : (c : ColumnRef) → names_column c e ≡ true → on.column c ≡ other.column c
  pub aggregates : (n : ℕ) → names_aggregate n e ≡ true → on.aggregate n ≡ other.aggregate n

abbrev pub NamesLaw : Type 0
NamesLaw = (on other : On) (e : TypedExpr) → AreAlike on other e → value on e ≡ value other e

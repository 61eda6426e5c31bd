-- The laws of an expression's steps at one place: where a row stands they leave its value, or are Over exactly where the value is; where none stands they leave nothing.
-- After SQL-92 (ISO/IEC 9075:1992), 6.11 <value expression>, 8.2 to 8.6 and 8.12 <search condition>.
use Rattle.std.specs.Prelude.{◌≡◌, ℕ, Bool, true, List, length, ◌^◌, ◌<◌, is_some, Option, Some, None, Ok, Err, IsOkAnd, IfOk}
use Rattle.control_vectors.specs.Slots.{Slot, Cell}
use Rattle.dict_codes.specs.Dictionaries.{is_among}
use Rattle.sql_values.specs.Values.{Value, text}
use Rattle.table_load.specs.Databases.{coded}
use Rattle.typed_trees.specs.declared.kinds.Role.TheVariants.{Alone}
use Rattle.typed_trees.specs.declared.typed.ColumnRef.{ColumnRef}
use Rattle.typed_trees.specs.declared.typed.TypedExpr.{TypedExpr}
use Rattle.typed_trees.specs.Names.{names_column, names_aggregate}
use Rattle.typed_trees.specs.Sides.{stands}
use Rattle.typed_trees.specs.Types.{DataType, type_of}
use Rattle.typed_values.specs.Values.{Valued, On, value}
use Rattle.value_laws.specs.Laws.{HasTypes}
use Rattle.expr_steps.specs.Lowered.{Bytes, steps_of}
use Rattle.expr_values.specs.Places.{Place, steps_cell}
use Rattle.expr_values.specs.Written.{AreScaled, is_written}

-- a text of the dictionary, or what is no text
abbrev pub is_known : List Bytes → Value → Bool
is_known texts (text t) = is_among texts t
is_known texts v = true

-- the value of an aggregate, and what stands for it
abbrev pub StandsFor : List Bytes → Slot → Valued → Type 0
StandsFor texts slot r = IsOkAnd r (λ v. (slot ≡ coded texts v) × (is_known texts v ≡ true))

-- what an expression is evaluated on: typed, each text one of the dictionary, each aggregate a value; the codes of a dictionary have 32 bits
pub record CanStand (texts : List Bytes) (at : ℕ → Option DataType) (on : On) (e : TypedExpr) : Type 0 where
  pub few : length texts < 2 ^ 32
  pub types : HasTypes at on e
  pub columns : (c : ColumnRef) → names_column c e ≡ true → is_known texts (on.column c) ≡ true
  pub aggregates : (n : ℕ) → names_aggregate n e ≡ true → IsOkAnd (on.aggregate n) (λ v. is_known texts v ≡ true)

-- a value as a slot: a number itself, a text its code, a truth 1 or 0, and a null nothing
abbrev pub value_slot : List Bytes → Valued → Slot
value_slot texts (Ok v) = coded texts v
value_slot texts (Err e) = None

-- it stands at a place: the mark is nonempty, and each column and each aggregate that the expression names has its value's slot
pub record StandsAt (texts : List Bytes) (on : On) (p : Place) (e : TypedExpr) : Type 0 where
  pub mark : is_some p.mark ≡ true
  pub columns : (c : ColumnRef) → names_column c e ≡ true → p.column c ≡ coded texts (on.column c)
  pub aggregates : (n : ℕ) → names_aggregate n e ≡ true → p.aggregate n ≡ value_slot texts (on.aggregate n)

-- nothing stands at a place: the mark is empty, and so is each column and each aggregate that the expression names
pub record IsBlankAt (p : Place) (e : TypedExpr) : Type 0 where
  pub mark : p.mark ≡ None
  pub columns : (c : ColumnRef) → names_column c e ≡ true → p.column c ≡ None
  pub aggregates : (n : ℕ) → names_aggregate n e ≡ true → p.aggregate n ≡ None

-- a value as a cell
abbrev pub value_cell : List Bytes → Valued → Cell
value_cell texts (Ok v) = Ok (coded texts v)
value_cell texts (Err e) = Err e

-- an expression that stands alone, whose types are right and whose literals and scales are as the grammar and the tables have them
pub record IsLowerable (at : ℕ → Option DataType) (e : TypedExpr) : Type 0 where
  pub type : DataType
  pub is : type_of at e ≡ Some type
  pub aggregates : AreScaled at
  pub sides : stands e Alone ≡ true
  pub written : is_written e ≡ true

-- where a row or a group stands, the last step leaves the value, and some step is Over exactly where the value is
abbrev pub ValueLaw : Type 0
ValueLaw =
    (texts : List Bytes) (at : ℕ → Option DataType) (on : On) (p : Place) (e : TypedExpr) → IsLowerable at e → CanStand texts at on e → StandsAt texts on p e → steps_cell p (steps_of texts e) ≡ value_cell texts (value on e)

-- where nothing stands, each step leaves nothing
abbrev pub BlankLaw : Type 0
BlankLaw = (texts : List Bytes) (p : Place) (e : TypedExpr) → IsBlankAt p e → steps_cell p (steps_of texts e) ≡ Ok None

-- the texts of values are texts of the dictionary
abbrev pub KnownLaw : Type 0
KnownLaw = (texts : List Bytes) (at : ℕ → Option DataType) (on : On) (e : TypedExpr) → IsLowerable at e → CanStand texts at on e → IfOk (value on e) (λ v. is_known texts v ≡ true)

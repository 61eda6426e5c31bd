-- Worked types of decimals, of IS NULL, of COALESCE and of COUNT: what each expression is, or its refusal at a byte, where it begins at byte 0.
-- The table is `p (amt DECIMAL(10, 2), rate DECIMAL(4, 3), d DATE, s VARCHAR(9))`.
use Rattle.std.specs.Prelude.{◌≡◌, ℕ, ◌+◌, true, false, List, [], ◌∷◌, map, codes, None, Ok}
use Rattle.sql_read.specs.declared.definition.ColumnDef.{ColumnDef}
use Rattle.sql_read.specs.declared.definition.ColumnKind.{ColumnKind}
use Rattle.sql_read.specs.declared.definition.ColumnKind.TheVariants as kind
use Rattle.sql_read.specs.declared.definition.TableDef.{TableDef}
use Rattle.query_trees.specs.declared.expr.AggregateKind.{AggregateKind}
use Rattle.query_trees.specs.declared.expr.AggregateKind.TheVariants as of
use Rattle.query_trees.specs.declared.expr.BinaryOp.{BinaryOp}
use Rattle.query_trees.specs.declared.expr.BinaryOp.TheVariants as op
use Rattle.query_trees.specs.declared.expr.Expr.{Expr}
use Rattle.query_trees.specs.declared.expr.Form.TheVariants as f
use Rattle.query_trees.specs.declared.expr.Polarity.TheVariants.{Plain, Negated}
use Rattle.query_trees.specs.declared.expr.Sign.TheVariants.{Minus}
use Rattle.query_trees.specs.Nodes.{node}
use Rattle.typed_trees.specs.declared.kinds.Kind.TheVariants.{Number, Date, Truth}
use Rattle.typed_trees.specs.declared.kinds.Role.TheVariants.{Alone}
use Rattle.typed_trees.specs.declared.typed.Aggregate.{Aggregate}
use Rattle.typed_trees.specs.declared.typed.ColumnType.{ColumnType}
use Rattle.typed_trees.specs.Types.{DataType}
use Rattle.typed_trees.specs.Types as types
use Rattle.query_types.specs.declared.refusal.TypeKind.TheVariants.{TypesDiffer, ScaleTooLarge}
use Rattle.query_types.specs.declared.typing.Typed.{Typed}
use Rattle.query_types.specs.Expressions.{typer}
use Rattle.query_types.specs.Names.{Scope, on_rows, on_groups}
use Rattle.query_types.specs.Outcomes.{Outcome, refuse, and_then}
use Rattle.query_types.specs.Sources.{same_types}

abbrev pub defined : List ℕ → ColumnKind → ℕ → ℕ → ColumnDef
defined name kind width scale = record { name = name; at = 0; kind = kind; width = width; width_at = 0; scale = scale; scale_at = 0; not_null = false }

abbrev pub catalog : List TableDef
catalog =
    record {
      name = codes "p";
      at = 0;
      columns = defined (codes "amt") kind.Decimal 10 2 ∷ defined (codes "rate") kind.Decimal 4 3 ∷ defined (codes "d") kind.Date 0 0 ∷ defined (codes "s") kind.Text 9 0 ∷ [];
      keys = [];
    }
    ∷ []

abbrev pub rows : Scope
rows = on_rows catalog (record { name = codes "p"; table = 0 } ∷ [])

abbrev pub groups : Scope
groups = on_groups catalog (record { name = codes "p"; table = 0 } ∷ []) []

-- ---- expressions, each with its first byte

abbrev pub column : ℕ → List ℕ → Expr
column at name = node at (f.Column (record { at = at; table = None; name = name; name_at = at }))

abbrev pub number : ℕ → ℕ → ℕ → Expr
number at n scale = node at (f.Number n scale)

abbrev pub text : ℕ → List ℕ → Expr
text at t = node at (f.Text t)

abbrev pub binary : BinaryOp → ℕ → Expr → Expr → Expr
binary o at x y = node x.at (f.Binary o at x y)

abbrev pub aggregate : AggregateKind → Expr → Expr
aggregate kind x = node 0 (f.Aggregate kind x)

-- 0.000000000000000001 * 0.000000000000000001
abbrev pub tiny : Expr
tiny = binary op.Multiply 21 (number 0 1 18) (number 23 1 18)

-- (amt > 0)
abbrev pub positive : ℕ → Expr
positive at = node at (f.Enclosed (binary op.Greater (at + 5) (column (at + 1) (codes "amt")) (number (at + 7) 0 0)))

abbrev pub is_typed : Outcome (Typed × List Aggregate) → Outcome DataType
is_typed outcome = and_then outcome (λ r. Ok (types.typed_as r.0.kind r.0.scale))

abbrev pub worked : List (Scope × Expr × Outcome DataType)
worked =
    -- amt * rate, amt + rate, -rate, amt / 2
    (rows, binary op.Multiply 4 (column 0 (codes "amt")) (column 6 (codes "rate")), Ok (types.typed_as Number 5))
    ∷ (rows, binary op.Add 4 (column 0 (codes "amt")) (column 6 (codes "rate")), Ok (types.typed_as Number 3))
    ∷ (rows, node 0 (f.Signed Minus (column 1 (codes "rate"))), Ok (types.typed_as Number 3))
    ∷ (rows, node 0 (f.Divide 4 (column 0 (codes "amt")) (record { sign = None; value = 2; value_at = 6 })), Ok (types.typed_as Number 2))
    -- a product of scale 36, and times 0.1 one of scale 37; of a date the kinds come first
    ∷ (rows, tiny, Ok (types.typed_as Number 36))
    ∷ (rows, binary op.Multiply 44 tiny (number 46 1 1), refuse ScaleTooLarge 44)
    ∷ (rows, binary op.Multiply 44 tiny (column 46 (codes "d")), refuse TypesDiffer 44)
    -- numbers of every scale are one kind: amt < 0.001, but amt < 's'
    ∷ (rows, binary op.Less 4 (column 0 (codes "amt")) (number 6 1 3), Ok (types.typed_as Truth 0))
    ∷ (rows, binary op.Less 4 (column 0 (codes "amt")) (text 6 (codes "s")), refuse TypesDiffer 4)
    -- s IS NULL, s IS NOT NULL; of a truth at IS, and of a text literal at it
    ∷ (rows, node 0 (f.IsNull Plain 2 (column 0 (codes "s"))), Ok (types.typed_as Truth 0))
    ∷ (rows, node 0 (f.IsNull Negated 2 (column 0 (codes "s"))), Ok (types.typed_as Truth 0))
    ∷ (rows, node 0 (f.IsNull Plain 10 (positive 0)), refuse TypesDiffer 10)
    ∷ (rows, node 0 (f.IsNull Plain 4 (text 0 (codes "s"))), refuse TypesDiffer 0)
    -- COALESCE(amt, rate, 0), COALESCE(d, d); COALESCE(s, amt), COALESCE(amt > 0, ..) at the word, COALESCE(s, 's') at the literal
    ∷ (rows, node 0 (f.Coalesce (column 9 (codes "amt")) (column 14 (codes "rate") ∷ number 20 0 0 ∷ [])), Ok (types.typed_as Number 3))
    ∷ (rows, node 0 (f.Coalesce (column 9 (codes "d")) (column 12 (codes "d") ∷ [])), Ok (types.typed_as Date 0))
    ∷ (rows, node 0 (f.Coalesce (column 9 (codes "s")) (column 12 (codes "amt") ∷ [])), refuse TypesDiffer 0)
    ∷ (rows, node 0 (f.Coalesce (positive 9) (positive 20 ∷ [])), refuse TypesDiffer 0)
    ∷ (rows, node 0 (f.Coalesce (column 9 (codes "s")) (text 12 (codes "s") ∷ [])), refuse TypesDiffer 12)
    -- COUNT(s) is whole, MAX(rate), AVG(amt), SUM(amt * rate) keep the scale; COUNT of a truth at the word, of a text literal at it
    ∷ (groups, aggregate of.Count (column 6 (codes "s")), Ok (types.typed_as Number 0))
    ∷ (groups, aggregate of.Count (column 6 (codes "rate")), Ok (types.typed_as Number 0))
    ∷ (groups, aggregate of.Max (column 4 (codes "rate")), Ok (types.typed_as Number 3))
    ∷ (groups, aggregate of.Avg (column 4 (codes "amt")), Ok (types.typed_as Number 2))
    ∷ (groups, aggregate of.Sum (binary op.Multiply 8 (column 4 (codes "amt")) (column 10 (codes "rate"))), Ok (types.typed_as Number 5))
    ∷ (groups, aggregate of.Count (positive 6), refuse TypesDiffer 0)
    ∷ (groups, aggregate of.Count (text 6 (codes "s")), refuse TypesDiffer 6)
    ∷ []

abbrev pub ScaleTable : Type 0
ScaleTable = map (λ w. is_typed (typer w.1 w.0 Alone [])) worked ≡ map (λ w. w.2) worked

-- ---- the columns of ON: INTEGER beside DECIMAL(5, 0) and DECIMAL(5, 2), DATE beside DATE and VARCHAR(9), VARCHAR(9) beside VARCHAR(3)

abbrev pub column_of : ColumnKind → ℕ → ℕ → ColumnType
column_of kind width scale = record { kind = kind; width = width; scale = scale }

abbrev pub PairTable : Type 0
PairTable =
    same_types (column_of kind.Integer 0 0) (column_of kind.Decimal 5 0)
    ∷ same_types (column_of kind.Integer 0 0) (column_of kind.Decimal 5 2)
    ∷ same_types (column_of kind.Date 0 0) (column_of kind.Date 0 0)
    ∷ same_types (column_of kind.Date 0 0) (column_of kind.Text 9 0)
    ∷ same_types (column_of kind.Text 9 0) (column_of kind.Text 3 0)
    ∷ []
    ≡ true ∷ false ∷ true ∷ false ∷ true ∷ []

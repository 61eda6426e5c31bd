-- Worked types. Column 0 is an INTEGER, column 1 a DECIMAL(10, 2), column 2 a DATE, column 3 a VARCHAR(9).
use Rattle.std.specs.Prelude.{◌≡◌, ℕ, zero, suc, true, false, List, [], ◌∷◌, map, codes, Option, Some, None}
use Rattle.sql_read.specs.declared.definition.ColumnKind.TheVariants as kind
use Rattle.query_trees.specs.declared.expr.BinaryOp.TheVariants as op
use Rattle.query_trees.specs.declared.expr.Polarity.TheVariants.{Plain, Negated}
use Rattle.query_trees.specs.declared.expr.Sign.TheVariants.{Plus, Minus}
use Rattle.typed_trees.specs.declared.kinds.Kind.TheVariants.{Number, Text}
use Rattle.typed_trees.specs.declared.kinds.Role.TheVariants.{Side, Alone}
use Rattle.typed_trees.specs.declared.naming.Wanted.TheVariants as wanted
use Rattle.typed_trees.specs.declared.typed.Aggregate.{Aggregate}
use Rattle.typed_trees.specs.declared.typed.AggregateKind.{AggregateKind}
use Rattle.typed_trees.specs.declared.typed.AggregateKind.TheVariants as of
use Rattle.typed_trees.specs.declared.typed.ColumnRef.{ColumnRef}
use Rattle.typed_trees.specs.declared.typed.TypedExpr.{TypedExpr}
use Rattle.typed_trees.specs.declared.typed.TypedExpr.TheVariants as e
use Rattle.typed_trees.specs.Names.{names}
use Rattle.typed_trees.specs.Sides.{stands}
use Rattle.typed_trees.specs.Types.{DataType, typed_as, truth, type_of, aggregate_type}

abbrev pub place : ℕ → ℕ → ColumnRef
place source column = record { source = source; column = column }

abbrev pub a : TypedExpr
a = e.Column (place 0 0) (record { kind = kind.Integer; width = 0; scale = 0 })

abbrev pub amount : TypedExpr
amount = e.Column (place 0 1) (record { kind = kind.Decimal; width = 10; scale = 2 })

abbrev pub day : TypedExpr
day = e.Column (place 0 2) (record { kind = kind.Date; width = 0; scale = 0 })

abbrev pub word : TypedExpr
word = e.Column (place 1 3) (record { kind = kind.Text; width = 9; scale = 0 })

-- the one aggregate is a sum of amounts
abbrev pub sums : ℕ → Option DataType
sums zero = Some (typed_as Number 2)
sums (suc n) = None

abbrev pub worked : List (TypedExpr × Option DataType)
worked =
    -- a sum has the greater scale, a product the sum of the two: amount * 0.125 + a
    (e.Binary op.Add (e.Binary op.Multiply amount (e.Number 125 3)) a, Some (typed_as Number 5))
    -- a sign and a quotient keep the scale: -amount / 2
    ∷ (e.Divide (e.Signed Minus amount) Plus 2, Some (typed_as Number 2))
    -- amount / 0
    ∷ (e.Divide amount Plus 0, None)
    -- a product of scale 36, and one of scale 37
    ∷ (e.Binary op.Multiply (e.Number 1 18) (e.Number 1 18), Some (typed_as Number 36))
    ∷ (e.Binary op.Multiply (e.Binary op.Multiply (e.Number 1 18) (e.Number 1 18)) (e.Number 1 1), None)
    -- numbers of every scale are one kind: amount < 0.001
    ∷ (e.Binary op.Less amount (e.Number 1 3), Some truth)
    -- a number beside a date: a + day, a = day
    ∷ (e.Binary op.Add a day, None)
    ∷ (e.Binary op.Equal a day, None)
    -- word = 'x'; word BETWEEN 'x' AND 1; a IN (1, 0.5); a IN (1, 'x')
    ∷ (e.Binary op.Equal word (e.Text (codes "x")), Some truth)
    ∷ (e.Between Plain word (e.Text (codes "x")) (e.Number 1 0), None)
    ∷ (e.In Plain a (e.Number 1 0 ∷ e.Number 5 1 ∷ []), Some truth)
    ∷ (e.In Plain a (e.Number 1 0 ∷ e.Text (codes "x") ∷ []), None)
    -- day IS NULL, but of no truth: (a = 1) IS NULL
    ∷ (e.IsNull Plain day, Some truth)
    ∷ (e.IsNull Plain (e.Binary op.Equal a (e.Number 1 0)), None)
    -- COALESCE has one kind, and the greatest scale: COALESCE(a, amount, 0), COALESCE(a, day)
    ∷ (e.Coalesce a (amount ∷ e.Number 0 0 ∷ []), Some (typed_as Number 2))
    ∷ (e.Coalesce a (day ∷ []), None)
    -- NOT a; NOT (a IS NOT NULL) AND a = 1
    ∷ (e.Not a, None)
    ∷ (e.Binary op.And (e.Not (e.IsNull Negated a)) (e.Binary op.Equal a (e.Number 1 0)), Some truth)
    -- an aggregate has its place's type and scale
    ∷ (e.Binary op.Multiply (e.Aggregate 0 2) amount, Some (typed_as Number 4))
    ∷ (e.Aggregate 0 3, None)
    ∷ (e.Aggregate 1 2, None)
    ∷ []

abbrev pub TypeTable : Type 0
TypeTable = map (λ w. type_of sums w.0) worked ≡ map (λ w. w.1) worked

-- ---- aggregates

abbrev pub aggregate : AggregateKind → Option TypedExpr → Aggregate
aggregate kind argument = record { kind = kind; argument = argument }

abbrev pub folded : List (Aggregate × Option DataType)
folded =
    -- COUNT(*), COUNT(day), COUNT(a = 1)
    (aggregate of.Count None, Some (typed_as Number 0))
    ∷ (aggregate of.Count (Some day), Some (typed_as Number 0))
    ∷ (aggregate of.Count (Some (e.Binary op.Equal a (e.Number 1 0))), None)
    -- SUM(amount), SUM(day), AVG(amount), MAX(word)
    ∷ (aggregate of.Sum (Some amount), Some (typed_as Number 2))
    ∷ (aggregate of.Sum (Some day), None)
    ∷ (aggregate of.Avg (Some amount), Some (typed_as Number 2))
    ∷ (aggregate of.Max (Some word), Some (typed_as Text 0))
    -- an aggregate of an aggregate, and a sum of nothing
    ∷ (aggregate of.Sum (Some (e.Aggregate 0 2)), None)
    ∷ (aggregate of.Sum None, None)
    ∷ []

abbrev pub FoldedTable : Type 0
FoldedTable = map (λ w. aggregate_type w.0) folded ≡ map (λ w. w.1) folded

-- ---- text literals, each beside where the whole stands

abbrev pub SideTable : Type 0
SideTable =
    stands (e.Text (codes "x")) Side ∷ stands (e.Text (codes "x")) Alone
    ∷ stands (e.Binary op.Equal word (e.Text (codes "x"))) Alone
    ∷ stands (e.Coalesce word (e.Text (codes "x") ∷ [])) Side
    ∷ stands (e.In Plain word (e.Text (codes "x") ∷ [])) Alone
    ∷ []
    ≡ true ∷ false ∷ true ∷ false ∷ true ∷ []

-- ---- names: COALESCE(a, amount) IN (word, the sum)

abbrev pub mixed : TypedExpr
mixed = e.In Plain (e.Coalesce a (amount ∷ [])) (word ∷ e.Aggregate 0 2 ∷ [])

abbrev pub NameTable : Type 0
NameTable =
    map (λ w. names w mixed) (wanted.ColumnOf 0 ∷ wanted.ColumnOf 1 ∷ wanted.ColumnOf 2 ∷ wanted.Column (place 0 1) ∷ wanted.Column (place 0 3) ∷ wanted.Aggregate 0 ∷ wanted.Aggregate 1 ∷ [])
    ≡ true ∷ true ∷ false ∷ true ∷ false ∷ true ∷ false ∷ []

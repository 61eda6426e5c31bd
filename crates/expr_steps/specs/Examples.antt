-- Worked code. Column 0 is an INTEGER, column 1 a DECIMAL(10, 2), column 2 a DATE, column 3 a VARCHAR(9); the texts of the dictionary are AIR, RAIL and TRUCK.
-- Step 0 is a 0 at each marked place, and step 1 a 1; the last step gives the value.
use Rattle.std.specs.Prelude.{◌≡◌, ℕ, ℤ, pos, negsuc, List, [], ◌∷◌, map, codes}
use Rattle.control_vectors.specs.declared.PairKind.TheVariants as pair
use Rattle.sql_read.specs.declared.definition.ColumnKind.TheVariants as kind
use Rattle.query_trees.specs.declared.expr.BinaryOp.TheVariants as op
use Rattle.query_trees.specs.declared.expr.Polarity.TheVariants.{Plain, Negated}
use Rattle.query_trees.specs.declared.expr.Sign.TheVariants as sign
use Rattle.typed_trees.specs.declared.typed.ColumnRef.{ColumnRef}
use Rattle.typed_trees.specs.declared.typed.TypedExpr.{TypedExpr}
use Rattle.typed_trees.specs.declared.typed.TypedExpr.TheVariants as e
use Rattle.expr_steps.specs.declared.steps.Source.{Source}
use Rattle.expr_steps.specs.declared.steps.Source.TheVariants as at
use Rattle.expr_steps.specs.declared.steps.Step.{Step}
use Rattle.expr_steps.specs.Codes.{pair_step}
use Rattle.expr_steps.specs.Lowered.{Bytes, steps_of}

abbrev pub place : ℕ → ColumnRef
place column = record { source = 0; column = column }

abbrev pub number : TypedExpr
number = e.Column (place 0) (record { kind = kind.Integer; width = 0; scale = 0 })

abbrev pub amount : TypedExpr
amount = e.Column (place 1) (record { kind = kind.Decimal; width = 10; scale = 2 })

abbrev pub day : TypedExpr
day = e.Column (place 2) (record { kind = kind.Date; width = 0; scale = 0 })

abbrev pub word : TypedExpr
word = e.Column (place 3) (record { kind = kind.Text; width = 9; scale = 0 })

abbrev pub dictionary : List Bytes
dictionary = codes "AIR" ∷ codes "RAIL" ∷ codes "TRUCK" ∷ []

-- where columns 0 to 3 stand, and a number
abbrev pub col : ℕ → Source
col n = at.Column (place n)

abbrev pub num : ℤ → Source
num z = at.Number z

-- two steps stand before these
abbrev pub whole : List Step → List Step
whole steps = pair_step pair.Greater at.Mark at.Mark ∷ pair_step pair.Equals at.Mark at.Mark ∷ steps

-- a literal: the 0 and the number
abbrev pub literal : ℤ → Step
literal z = pair_step pair.Add (at.Made 0) (num z)

abbrev pub value : Source → Step
value x = pair_step pair.Fill x x

abbrev pub worked : List (TypedExpr × List Step)
worked =
    -- a column
    (number, value (col 0) ∷ [])
    -- the 90 days before 1998-12-01 are a literal: day < DATE '1998-09-02'
    ∷ (e.Binary op.Less day (e.Date (pos 10471)), literal (pos 10471) ∷ pair_step pair.Greater (at.Made 2) (col 2) ∷ value (at.Made 3) ∷ [])
    -- NOT number > 1
    ∷ (e.Not (e.Binary op.Greater number (e.Number 1 0)), literal (pos 1) ∷ pair_step pair.Greater (col 0) (at.Made 2) ∷ pair_step pair.Equals (at.Made 3) (num (pos 0)) ∷ value (at.Made 4) ∷ [])
    -- RAIL is a text of the dictionary, and MAIL lies half a step below it: word = 'RAIL', word < 'MAIL', word >= 'MAIL'
    ∷ (e.Binary op.Equal word (e.Text (codes "RAIL")), literal (pos 1) ∷ pair_step pair.Equals (col 3) (at.Made 2) ∷ value (at.Made 3) ∷ [])
    ∷ (e.Binary op.Less word (e.Text (codes "MAIL")), literal (pos 1) ∷ pair_step pair.Multiply (col 3) (num (pos 2)) ∷ pair_step pair.Greater (at.Made 2) (at.Made 3) ∷ value (at.Made 4) ∷ [])
    ∷ (e.Binary op.GreaterEqual word (e.Text (codes "MAIL")), literal (pos 1) ∷ pair_step pair.Multiply (col 3) (num (pos 2)) ∷ pair_step pair.Greater (at.Made 2) (at.Made 3) ∷ pair_step pair.Equals (at.Made 4) (num (pos 0)) ∷ value (at.Made 5) ∷ [])
    -- a text below all of them; two literals compare as they are written, and their steps are read
    ∷ (e.Binary op.Differs word (e.Text []), literal (negsuc 0) ∷ pair_step pair.Multiply (col 3) (num (pos 2)) ∷ pair_step pair.Equals (at.Made 3) (at.Made 2) ∷ pair_step pair.Equals (at.Made 4) (num (pos 0)) ∷ value (at.Made 5) ∷ [])
    ∷ (e.Binary op.Less (e.Text (codes "LAIR")) (e.Text (codes "MAIL")), literal (pos 1) ∷ literal (pos 1) ∷ pair_step pair.Fill (at.Made 1) (at.Made 2) ∷ pair_step pair.Fill (at.Made 4) (at.Made 3) ∷ value (at.Made 5) ∷ [])
    -- amount < 0.001 is rescaled on its left, number + amount too
    ∷ (e.Binary op.Less amount (e.Number 1 3), literal (pos 1) ∷ pair_step pair.Multiply (col 1) (num (pos 10)) ∷ pair_step pair.Greater (at.Made 2) (at.Made 3) ∷ value (at.Made 4) ∷ [])
    ∷ (e.Binary op.Add number amount, pair_step pair.Multiply (col 0) (num (pos 100)) ∷ pair_step pair.Add (at.Made 2) (col 1) ∷ value (at.Made 3) ∷ [])
    -- a product is of unscaled numbers
    ∷ (e.Binary op.Multiply amount amount, pair_step pair.Multiply (col 1) (col 1) ∷ value (at.Made 2) ∷ [])
    -- -number / 7
    ∷ (e.Divide (e.Signed sign.Minus number) sign.Plus 7, pair_step pair.Subtract (num (pos 0)) (col 0) ∷ pair_step pair.Divide (at.Made 2) (num (pos 7)) ∷ value (at.Made 3) ∷ [])
    -- number IS NULL, and IS NOT NULL
    ∷ (e.IsNull Plain number, pair_step pair.Greater (col 0) (col 0) ∷ pair_step pair.Fill (at.Made 2) (at.Made 1) ∷ value (at.Made 3) ∷ [])
    ∷ (e.IsNull Negated number, pair_step pair.Equals (col 0) (col 0) ∷ pair_step pair.Fill (at.Made 2) (at.Made 0) ∷ value (at.Made 3) ∷ [])
    -- COALESCE(number, amount, 0)
    ∷ (
      e.Coalesce number (amount ∷ e.Number 0 0 ∷ []),
      pair_step pair.Multiply (col 0) (num (pos 100))
          ∷ pair_step pair.Fill (at.Made 2) (col 1)
          ∷ literal (pos 0)
          ∷ pair_step pair.Multiply (at.Made 4) (num (pos 100))
          ∷ pair_step pair.Fill (at.Made 3) (at.Made 5)
          ∷ value (at.Made 6)
          ∷ [],
    )
    -- number BETWEEN 1 AND 2, and NOT BETWEEN
    ∷ (
      e.Between Plain number (e.Number 1 0) (e.Number 2 0),
      literal (pos 1)
          ∷ literal (pos 2)
          ∷ pair_step pair.Greater (at.Made 2) (col 0)
          ∷ pair_step pair.Greater (col 0) (at.Made 3)
          ∷ pair_step pair.LogicalOr (at.Made 4) (at.Made 5)
          ∷ pair_step pair.Equals (at.Made 6) (num (pos 0))
          ∷ value (at.Made 7)
          ∷ [],
    )
    ∷ (
      e.Between Negated number (e.Number 1 0) (e.Number 2 0),
      literal (pos 1)
          ∷ literal (pos 2)
          ∷ pair_step pair.Greater (at.Made 2) (col 0)
          ∷ pair_step pair.Greater (col 0) (at.Made 3)
          ∷ pair_step pair.LogicalOr (at.Made 4) (at.Made 5)
          ∷ value (at.Made 6)
          ∷ [],
    )
    -- number NOT IN (1, 2)
    ∷ (
      e.In Negated number (e.Number 1 0 ∷ e.Number 2 0 ∷ []),
      literal (pos 1)
          ∷ pair_step pair.Equals (col 0) (at.Made 2)
          ∷ pair_step pair.LogicalOr (at.Made 0) (at.Made 3)
          ∷ literal (pos 2)
          ∷ pair_step pair.Equals (col 0) (at.Made 5)
          ∷ pair_step pair.LogicalOr (at.Made 4) (at.Made 6)
          ∷ pair_step pair.Equals (at.Made 7) (num (pos 0))
          ∷ value (at.Made 8)
          ∷ [],
    )
    -- number + 1 IN (): no query has it, and its steps are read all the same
    ∷ (
      e.In Plain (e.Binary op.Add number (e.Number 1 0)) [],
      literal (pos 1) ∷ pair_step pair.Add (col 0) (at.Made 2) ∷ pair_step pair.Fill (at.Made 0) (at.Made 3) ∷ value (at.Made 4) ∷ [],
    )
    -- aggregate 3 is above 5 and the number is 0
    ∷ (
      e.Binary op.And (e.Binary op.Greater (e.Aggregate 3 0) (e.Number 5 0)) (e.Binary op.Equal number (e.Number 0 0)),
      literal (pos 5)
          ∷ pair_step pair.Greater (at.Aggregate 3) (at.Made 2)
          ∷ literal (pos 0)
          ∷ pair_step pair.Equals (col 0) (at.Made 4)
          ∷ pair_step pair.LogicalAnd (at.Made 3) (at.Made 5)
          ∷ value (at.Made 6)
          ∷ [],
    )
    ∷ []

abbrev pub StepsTable : Type 0
StepsTable = map (λ w. steps_of dictionary w.0) worked ≡ map (λ w. whole w.1) worked

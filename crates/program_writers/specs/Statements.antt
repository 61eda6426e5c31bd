-- The statements that parts are written with (Voodoo, PVLDB 9(14), 2016, table 2).
use Rattle.std.specs.Prelude.{pos, codes}
use Rattle.control_vectors.specs.Controls.{Control, control_of}
use Rattle.control_vectors.specs.declared.PairKind.{PairKind}
use Rattle.programs.specs.declared.family.FoldOperator.{FoldOperator}
use Rattle.programs.specs.declared.family.FoldOperator.TheVariants as fold
use Rattle.programs.specs.declared.op.FoldArgs.{FoldArgs}
use Rattle.programs.specs.declared.op.Op.{Op}
use Rattle.programs.specs.declared.op.Op.TheVariants as op
use Rattle.programs.specs.declared.op.Operand.{Operand}
use Rattle.programs.specs.declared.op.Operand.TheVariants as operand
use Rattle.programs.specs.Families.{pair_of}
use Rattle.programs.specs.Mentions.{Label}

-- ---- paths

-- what an operator makes
abbrev pub out : Label
out = codes ".out"

-- nonempty where a row or a group stands
abbrev pub mark : Label
mark = codes ".mark"

-- the values of a fold, and its runs
abbrev pub val : Label
val = codes ".val"

abbrev pub run : Label
run = codes ".run"

-- ---- operators

-- 0 everywhere, and 1 everywhere
abbrev pub zeros : Control
zeros = control_of (pos 0) 0 0 1

abbrev pub ones : Control
ones = control_of (pos 1) 0 0 1

abbrev pub attribute : Label → Label → Operand
attribute a p = operand.Column a p

abbrev pub pair : PairKind → Operand → Operand → Op
pair kind x y = pair_of kind (record { x = x; y = y; out = out })

-- an attribute more, or another in its place
abbrev pub with_attribute : Label → Label → Label → Label → Op
with_attribute a p b q = op.Upsert a p b q

abbrev pub fold_args : Label → FoldArgs
fold_args a = record { a = a; val = val; run = run; out = out }

abbrev pub fold_of : FoldOperator → FoldArgs → Op
fold_of fold.Sum f = op.FoldSum f
fold_of fold.Min f = op.FoldMin f
fold_of fold.Max f = op.FoldMax f
fold_of fold.Select f = op.FoldSelect f
fold_of fold.Scan f = op.FoldScan f

-- the attributes of one vector at the places that another holds
abbrev pub at_places : Label → Label → Op
at_places a places = op.Gather a places out

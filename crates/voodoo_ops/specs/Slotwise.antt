-- Operators that work slot by slot, at each place below the shorter attribute operand's length (Voodoo, PVLDB 9(14), 2016, table 2; lengths and empties are this project's own).
use Rattle.std.specs.Prelude.{ℕ, ℤ, min, List, map, Some, Result}
use Rattle.std.specs.List.{range_with_len}
use Rattle.control_vectors.specs.Slots.{Slot, Cell, all_slots}
use Rattle.control_vectors.specs.declared.Over.{Over}
use Rattle.control_vectors.specs.declared.PairKind.{PairKind}
use Rattle.slot_wise.specs.Pairs.{pair_slot, bit_shift_slot}
use Rattle.programs.specs.declared.op.Operand.{Operand}
use Rattle.programs.specs.declared.op.Operand.TheVariants.{Column, Number}
use Rattle.programs.specs.declared.op.PairArgs.{PairArgs}
use Rattle.programs.specs.Mentions.{Label}
use Rattle.programs.specs.Vectors.{Vector, slot_at, column_of, Env, known}

abbrev pub operand_at : Env → Operand → ℕ → Slot
operand_at env (Column a p) i = slot_at (known (env a)) p i
operand_at env (Number z) i = Some z

abbrev pub pair_len : Env → Operand → Operand → ℕ
pair_len env (Column a p) (Column b q) = min (known (env a)).len (known (env b)).len
pair_len env (Column a p) (Number z) = (known (env a)).len
pair_len env (Number z) (Column b q) = (known (env b)).len
pair_len env (Number z) (Number w) = 0

-- Add, Subtract, Multiply, Divide, Modulo, Greater, Equals, LogicalAnd, LogicalOr and Fill
abbrev pub pair_cells : PairKind → Env → Operand → Operand → List Cell
pair_cells kind env x y = map (λ i. pair_slot kind (operand_at env x i) (operand_at env y i)) (range_with_len 0 (pair_len env x y))

abbrev pub paired : PairKind → Env → PairArgs → Result Vector Over
paired kind env p = column_of p.out (pair_len env p.x p.y) (all_slots (pair_cells kind env p.x p.y))

-- BitShift
abbrev pub shift_cells : Env → Operand → ℤ → List Cell
shift_cells env x by = map (λ i. bit_shift_slot by (operand_at env x i)) (range_with_len 0 (pair_len env x x))

abbrev pub shifted : Env → Operand → ℤ → Label → Result Vector Over
shifted env x by out = column_of out (pair_len env x x) (all_slots (shift_cells env x by))

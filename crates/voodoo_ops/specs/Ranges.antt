-- Vectors whose slots their lengths alone give: Range and Cross (Voodoo, PVLDB 9(14), 2016, table 2).
use Rattle.std.specs.Prelude.{ℕ, ◌*◌}
use Rattle.control_vectors.specs.Controls.{Control, control_list}
use Rattle.struct_vectors.specs.Columns.{some_slots}
use Rattle.programs.specs.Mentions.{Label}
use Rattle.programs.specs.Vectors.{Vector, column}
use Rattle.slot_moves.specs.Crosses.{left_places, right_places}
use Rattle.voodoo_ops.specs.Attributes.{zipped}

-- Range: the control vector's values
abbrev pub ranged : ℕ → Label → Control → Vector
ranged n p control = column p n (some_slots (control_list control n))

-- Cross: the places of both, each of the first beside each of the second, whose places turn fastest
abbrev pub crossed : ℕ → Label → ℕ → Label → Vector
crossed n p m q = zipped (column p (n * m) (left_places n m)) (column q (n * m) (right_places n m))

use Rattle.std.proofs.Common.{◌≡◌, length, map}
use Rattle.std.specs.List.{range_with_len}
use Rattle.struct_vectors.specs.Columns.{marked_slots}
use Rattle.slot_moves.specs.Moves.{writer}
use Rattle.slot_moves.proofs.scattering.write_places.Given as goal

abbrev pub invariant-loop-j : goal.invariant-loop-j
invariant-loop-j l = marked_slots l.numbers l.marks ≡ map (writer l.positions.slots l.j) (range_with_len 0 (length l.initial.numbers))

-- Cells that are listed place by place.
use Rattle.std.specs.Prelude.{◌≡◌, ℕ, List, slice_get, Some}
use Rattle.control_vectors.specs.Slots.{Cell}

-- what stands at a place of a list of cells
abbrev pub CellAt : List Cell → ℕ → Cell → Type 0
CellAt cells i cell = slice_get cells i ≡ Some cell

-- Sort keys: for each place a slot, and whether the order is turned round.
use Rattle.std.specs.Prelude.{Bool, false, List, []}
use Rattle.control_vectors.specs.Slots.{Slot, Cell, slots_in}

-- a key, as the cells that a place gives
pub record KeyCells : Type 0 where
  pub descending : Bool
  pub cells : List Cell

-- a key none of whose slots is Over
pub record SortKey : Type 0 where
  pub descending : Bool
  pub slots : List Slot

abbrev pub key_of : KeyCells → SortKey
key_of key = record { descending = key.descending; slots = slots_in key.cells }

-- what stands past the last key
abbrev pub no_key : KeyCells
no_key = record { descending = false; cells = [] }

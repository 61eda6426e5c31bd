-- The keys of an order over the attributes of one vector, as a sort reads them.
use Rattle.std.specs.Prelude.{List, map}
use Rattle.control_vectors.specs.Slots.{cells_of}
use Rattle.sort_order.specs.Keys.{KeyCells, SortKey}
use Rattle.voodoo_ops.specs.declared.sorting.OrderKey.{OrderKey}

abbrev pub cells_of_key : SortKey → KeyCells
cells_of_key k = record { descending = k.descending; cells = cells_of k.slots }

abbrev pub cells_of_keys : List OrderKey → List KeyCells
cells_of_keys keys = map (λ k. record { descending = k.descending; cells = cells_of k.column.now.slots }) keys

-- What a call that gives places says of what it was to give.
use Rattle.std.specs.Prelude.{◌≡◌, ℕ, ◌≤◌, ◌^◌, ℤ, Bool, true, false, List, length, map, Result, Ok, Err}
use Rattle.std.specs.Global.{Vec}
use Rattle.control_vectors.specs.Slots.{Slot, Cell, over, has_over, slots_in}
use Rattle.control_vectors.specs.declared.Over.{Over}
use Rattle.sort_order.specs.Orders.{marked}
use Rattle.sort_order.specs.Buckets.{bucket}
use Rattle.sort_order.specs.declared.OrderRefusal.{OrderRefusal}
use Rattle.sort_order.specs.declared.OrderRefusal.TheVariants as refusal

-- it refuses with Over only where Over is meant, else only for want of memory
abbrev pub RefusesAt : {B : Type 0} → OrderRefusal → Result B Over → Type 0
RefusesAt refusal.Over meant = meant ≡ Err over
RefusesAt refusal.NoMemory meant = Unit {0}

-- it gives just the slots that are meant
abbrev pub Sorts : Result (Vec Slot) OrderRefusal → Result (List Slot) Over → Type 0
Sorts (Ok v) meant = meant ≡ Ok v.items
Sorts (Err e) meant = RefusesAt e meant

-- a check passes where a test is false
abbrev pub Clear : Result (Unit {0}) Over → Bool → Type 0
Clear (Ok u) test = test ≡ false
Clear (Err e) test = test ≡ true

-- the marked places, where no cell is Over
abbrev pub Marks : Result (Vec ℕ) OrderRefusal → List Cell → Type 0
Marks (Ok v) cells = (has_over cells ≡ false) × (v.items ≡ marked (slots_in cells))
Marks (Err refusal.Over) cells = has_over cells ≡ true
Marks (Err refusal.NoMemory) cells = Unit {0}

-- the bucket of each of few keys, where no cell is Over
abbrev pub Buckets : Result (Vec Slot) OrderRefusal → List ℤ → List Cell → Type 0
Buckets (Ok v) pivots cells = (has_over cells ≡ false) × (v.items ≡ map (bucket pivots) (slots_in cells)) × (length v.items ≤ 2 ^ 22)
Buckets (Err refusal.Over) pivots cells = has_over cells ≡ true
Buckets (Err refusal.NoMemory) pivots cells = Unit {0}

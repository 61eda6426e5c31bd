-- What a call that may stop says of what it was to make.
use Rattle.std.specs.Prelude.{◌≡◌, ℤ, Bool, true, false, List, Option, Some, None, Result, Ok, Err}
use Rattle.control_vectors.specs.declared.Over.{Over}
use Rattle.control_vectors.specs.Slots.{over}
use Rattle.struct_vectors.specs.Columns.{ColumnValue, marked_slots}
use Rattle.slot_columns.specs.declared.stop.Stop.{Stop}
use Rattle.slot_columns.specs.declared.stop.Stop.TheVariants.{NoMemory, Overflow}

-- it stops with Overflow only where Over was meant, else only for want of memory
abbrev pub StopsAt : {B : Type 0} → Stop → Result B Over → Type 0
StopsAt NoMemory meant = Unit {0}
StopsAt Overflow meant = meant ≡ Err over

-- an exact call: what it gives shows what was meant
abbrev pub Exact : {A B : Type 0} → (A → B) → Result A Stop → Result B Over → Type 0
Exact shows (Ok x) meant = meant ≡ Ok (shows x)
Exact shows (Err e) meant = StopsAt e meant

-- a try in 64 bits: the column of what was meant, or none
abbrev pub Tries : Result (Option ColumnValue) Stop → Result (List (Option ℤ)) Over → Type 0
Tries (Ok (Some column)) meant = meant ≡ Ok column.slots
Tries (Ok None) meant = Unit {0}
Tries (Err e) meant = StopsAt e meant

-- numbers with marks that are filled with what was meant, where all of it fits
abbrev pub Fills : Result Bool Over → List ℤ → List Bool → Result (List (Option ℤ)) Over → Type 0
Fills (Ok true) numbers marks meant = meant ≡ Ok (marked_slots numbers marks)
Fills (Ok false) numbers marks meant = Unit {0}
Fills (Err e) numbers marks meant = meant ≡ Err over

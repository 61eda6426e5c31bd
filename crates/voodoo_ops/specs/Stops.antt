-- What a call that may stop says of what it was to make.
use Rattle.std.specs.Prelude.{◌≡◌, ℕ, List, length, Option, Some, Result, Ok, Err}
use Rattle.control_vectors.specs.declared.Over.{Over}
use Rattle.control_vectors.specs.Slots.{Slot, over}
use Rattle.struct_vectors.specs.Vectors.{VectorValue}
use Rattle.slot_columns.specs.declared.stop.Stop.{Stop}
use Rattle.slot_columns.specs.declared.stop.Stop.TheVariants.{NoMemory, Overflow}
use Rattle.programs.specs.Mentions.{Label}
use Rattle.programs.specs.Vectors.{Vector, Named, seen, seen_all}
use Rattle.voodoo_ops.specs.declared.run.RunRefusal.{RunRefusal}
use Rattle.voodoo_ops.specs.declared.run.RunRefusal.TheVariants as run

-- the slots that are meant, if they are no Over, are so many
abbrev pub HaveLength : ℕ → Result (List Slot) Over → Type 0
HaveLength n (Ok xs) = length xs ≡ n
HaveLength n (Err e) = Unit {0}

-- the vector that an operator was meant to make; the same where it stops
abbrev pub Makes : Result VectorValue Stop → Option (Result Vector Over) → Type 0
Makes (Ok v) meant = meant ≡ Some (Ok (seen v))
Makes (Err NoMemory) meant = Unit {0}
Makes (Err Overflow) meant = meant ≡ Some (Err over)

-- a run gives just the results that are meant, and stops with Overflow only where Over is meant
abbrev pub Runs : Result (List (Label × VectorValue)) RunRefusal → Result Named Over → Type 0
Runs (Ok named) meant = meant ≡ Ok (seen_all named)
Runs (Err run.Overflow) meant = meant ≡ Err over
Runs (Err run.NoMemory) meant = Unit {0}

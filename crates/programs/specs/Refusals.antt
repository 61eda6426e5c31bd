-- What the result of a check says of what was meant.
use Rattle.std.specs.Prelude.{◌≡◌, Result, Ok, Err}
use Rattle.programs.specs.declared.check.ProgramRefusal.{ProgramRefusal}
use Rattle.programs.specs.declared.check.ProgramRefusal.TheVariants as program
use Rattle.programs.specs.Check.{Fault, fault}

-- a refusal names the first fault
abbrev pub RefusesAt : {B : Type 0} → Result B Fault → ProgramRefusal → Type 0
RefusesAt meant (program.Bad statement kind) = meant ≡ Err (fault statement kind)
RefusesAt meant program.NoMemory = Unit {0}

-- an exact check: what it gives shows what was meant, and it refuses only where that has a fault
abbrev pub Checks : {A B : Type 0} → (A → B) → Result A ProgramRefusal → Result B Fault → Type 0
Checks shows (Ok x) meant = meant ≡ Ok (shows x)
Checks shows (Err e) meant = RefusesAt meant e

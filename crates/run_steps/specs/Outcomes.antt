-- Steps of which the first that refuses decides.
use Rattle.std.specs.Prelude.{◌≡◌, ◌⊎◌, Option, Some, None, Result, Ok, Err}
use Rattle.run_steps.specs.declared.status.Status.{Status}
use Rattle.run_steps.specs.declared.status.Status.TheVariants.{ReadFault, NoMemory}

-- a value, or the status of the step that refuses
abbrev pub Outcome : Type 0 → Type 0
Outcome A = Result A Status

-- one step, and then another with its value
infixl 10 ◌>>=◌
abbrev pub ◌>>=◌ : {A B : Type 0} → Outcome A → (A → Outcome B) → Outcome B
Ok a >>= next = next a
Err status >>= next = Err status

infixl 10 ◌>>◌
abbrev pub ◌>>◌ : {A B : Type 0} → Outcome A → Outcome B → Outcome B
step >> next = step >>= (λ _. next)

-- a value that has to be there
abbrev pub or_refuse : {A : Type 0} → Status → Option A → Outcome A
or_refuse status None = Err status
or_refuse status (Some a) = Ok a

-- reading failed
abbrev pub IsReadFault : Status → Type 0
IsReadFault (ReadFault role) = Unit {0}
IsReadFault _ = ⊥

-- What a step of the program gives is its outcome, as contracts see its value. It may end with a read fault or for want of memory in its place.
abbrev pub Meets : {A B : Type 0} → (B → A) → Result B Status → Outcome A → Type 0
Meets seen (Ok b) outcome = outcome ≡ Ok (seen b)
Meets seen (Err status) outcome = (outcome ≡ Err status) ⊎ (IsReadFault status ⊎ (status ≡ NoMemory))

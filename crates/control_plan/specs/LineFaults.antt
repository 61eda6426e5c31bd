-- What taking a line ensures: the definition's answer, unless memory runs out.
use Rattle.std.specs.Prelude.{◌≡◌, Bool, true, false, Result, Ok, Err}
use Rattle.control_plan.specs.declared.fault.LineFault.{LineFault}
use Rattle.control_plan.specs.declared.fault.LineFault.TheVariants.{Bad, NoMemory}
use Rattle.control_plan.specs.declared.refusal.ControlKind.{ControlKind}
use Rattle.control_plan.specs.declared.refusal.ControlKind.TheVariants.{LineTwice}
use Rattle.control_plan.specs.Settings.{SoFar}

abbrev pub Sets : Result SoFar ControlKind → Result (Unit {0}) LineFault → SoFar → Type 0
Sets answer (Ok u) new = answer ≡ Ok new
Sets answer (Err (Bad kind)) new = answer ≡ Err kind
Sets answer (Err NoMemory) new = Unit {0}

-- a word that is not given yet is given then
abbrev pub IsOnce : Result (Unit {0}) ControlKind → Bool → Bool → Type 0
IsOnce (Ok u) old new = (old ≡ false) × (new ≡ true)
IsOnce (Err kind) old new = (old ≡ true) × (kind ≡ LineTwice)

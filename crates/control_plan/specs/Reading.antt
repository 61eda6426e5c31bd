-- The plan that a control file says, or the first line that is refused (this project's own).
use Rattle.std.specs.Prelude.{◌≡◌, ℕ, ◌+◌, false, List, [], ◌∷◌, if◌then◌else◌, Option, Some, None, Result, Ok, Err}
use Rattle.std.specs.Char.{is_ascii}
use Rattle.std.specs.List.{list_all}
use Rattle.control_plan.specs.declared.fault.LineFault.{LineFault}
use Rattle.control_plan.specs.declared.fault.LineFault.TheVariants as fault
use Rattle.control_plan.specs.declared.given.Given.{Given}
use Rattle.control_plan.specs.declared.refusal.ControlKind.{ControlKind}
use Rattle.control_plan.specs.declared.refusal.ControlKind.TheVariants.{BadWord}
use Rattle.control_plan.specs.declared.refusal.ControlRefusal.{ControlRefusal}
use Rattle.control_plan.specs.declared.refusal.ControlRefusal.TheVariants.{Bad, NoMemory}
use Rattle.control_plan.specs.declared.words.Word.{Word}
use Rattle.control_plan.specs.Lines.{Bytes, lines, trimmed, says_nothing, word_in, value_in}
use Rattle.control_plan.specs.Plans.{PlanValue, usual}
use Rattle.control_plan.specs.Settings.{SoFar, so_far, with_setting}
use Rattle.control_plan.specs.Words.{word_of}

-- a known word needs a value
abbrev pub with_word : Option Word → Bytes → SoFar → Result SoFar ControlKind
with_word None value s = Err BadWord
with_word (Some w) [] s = Err BadWord
with_word (Some w) (b ∷ value) s = with_setting w (b ∷ value) s

-- a line that is trimmed
abbrev pub with_line : Bytes → SoFar → Result SoFar ControlKind
with_line line s =
    if says_nothing line then Ok s
    else if list_all is_ascii line then with_word (word_of (word_in line)) (value_in line) s
    else Err BadWord

-- what a line says, or its refusal, before the lines behind it
abbrev pub on_line : ℕ → Result SoFar ControlKind → (SoFar → Result PlanValue ControlRefusal) → Result PlanValue ControlRefusal
on_line n (Ok s) others = others s
on_line n (Err kind) others = Err (Bad n kind)

-- the lines from a number on
abbrev pub read_lines : List Bytes → ℕ → SoFar → Result PlanValue ControlRefusal
read_lines [] n s = Ok s.plan
read_lines (line ∷ others) n s = on_line n (with_line (trimmed line) s) (read_lines others (n + 1))

-- no word yet
abbrev pub none_given : Given
none_given = record { select = false; layout = false; group = false; kernel = false; split = false; piece = false }

-- what no line sets is as in the usual plan; lines are counted from 1
unfoldable pub read_text : Bytes → Result PlanValue ControlRefusal
read_text bytes = read_lines (lines bytes) 1 (so_far usual none_given)

-- the refusal of a line, where memory has not run out
abbrev pub refused : ℕ → LineFault → ControlRefusal
refused n (fault.Bad kind) = Bad n kind
refused n fault.NoMemory = NoMemory

-- what reading ensures: the text's answer, unless memory runs out
abbrev pub Gives : Result PlanValue ControlRefusal → Result PlanValue ControlRefusal → Type 0
Gives answer (Ok plan) = answer ≡ Ok plan
Gives answer (Err NoMemory) = Unit {0}
Gives answer (Err (Bad line kind)) = answer ≡ Err (Bad line kind)

-- What a word with its value sets in a plan, or why it can't (this project's own).
use Rattle.std.specs.Prelude.{nat_lt, Bool, true, false, List, [], ◌∷◌, ◌++◌, length, if◌then◌else◌, Option, Some, None, Result, Ok, Err}
use Rattle.control_vectors.specs.Controls.{Control}
use Rattle.control_plan.specs.declared.given.Given.{Given}
use Rattle.control_plan.specs.declared.refusal.ControlKind.{ControlKind}
use Rattle.control_plan.specs.declared.refusal.ControlKind.TheVariants.{BadWord, LineTwice, TooManyLevels}
use Rattle.control_plan.specs.declared.words.Word.{Word}
use Rattle.control_plan.specs.declared.words.Word.TheVariants as word
use Rattle.control_plan.specs.Lines.{Bytes}
use Rattle.control_plan.specs.Numbers.{piece_in, vector_in}
use Rattle.control_plan.specs.Plans.{PlanValue}
use Rattle.control_plan.specs.Words.{grouping_of, kernel_of, split_of}

-- the plan that some lines make, and which words they have
pub record SoFar : Type 0 where
  pub plan : PlanValue
  pub given : Given

abbrev pub so_far : PlanValue → Given → SoFar
so_far plan given = record { plan = plan; given = given }

-- what a value sets, or what is wrong with it
abbrev pub set_to : {A : Type 0} → Result A ControlKind → (A → SoFar) → Result SoFar ControlKind
set_to (Ok value) set = Ok (set value)
set_to (Err kind) set = Err kind

-- the same where the word may stand once: not where an earlier line has it
abbrev pub set_once : {A : Type 0} → Bool → Result A ControlKind → (A → SoFar) → Result SoFar ControlKind
set_once true value set = Err LineTwice
set_once false value set = set_to value set

-- and where the value is itself a word: an unknown one is said first
abbrev pub set_chosen : {A : Type 0} → Bool → Option A → (A → SoFar) → Result SoFar ControlKind
set_chosen before None set = Err BadWord
set_chosen before (Some choice) set = set_once before (Ok choice) set

-- one level more, behind at most three
abbrev pub set_level : List Control → Result Control ControlKind → (List Control → SoFar) → Result SoFar ControlKind
set_level levels value set = if nat_lt (length levels) 4 then set_to value (λ v. set (levels ++ v ∷ [])) else Err TooManyLevels

abbrev pub with_setting : Word → Bytes → SoFar → Result SoFar ControlKind
with_setting word.Select value s = set_once s.given.select (vector_in value) (λ v. so_far (record s.plan { select = v }) (record s.given { select = true }))
with_setting word.Layout value s = set_once s.given.layout (vector_in value) (λ v. so_far (record s.plan { layout = Some v }) (record s.given { layout = true }))
with_setting word.Level value s = set_level s.plan.levels (vector_in value) (λ levels. so_far (record s.plan { levels = levels }) s.given)
with_setting word.Group value s = set_chosen s.given.group (grouping_of value) (λ g. so_far (record s.plan { group = g }) (record s.given { group = true }))
with_setting word.Kernel value s = set_chosen s.given.kernel (kernel_of value) (λ k. so_far (record s.plan { kernel = k }) (record s.given { kernel = true }))
with_setting word.Split value s = set_chosen s.given.split (split_of value) (λ p. so_far (record s.plan { split = p }) (record s.given { split = true }))
with_setting word.Piece value s = set_once s.given.piece (piece_in value) (λ n. so_far (record s.plan { piece = n }) (record s.given { piece = true }))

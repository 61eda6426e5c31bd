-- Worked examples of control plans.
use Rattle.std.specs.Prelude.{◌≡◌, ℕ, neg_ℤ, pos, codes, List, [], ◌∷◌, ◌++◌, map, replicate, Result, Some, Ok, Err}
use Rattle.control_vectors.specs.Controls.{Control, control_of, control_list}
use Rattle.control_vectors.specs.Runs.{run_starts, side_by_side}
use Rattle.control_plan.specs.declared.choices.Grouping.TheVariants.{Partition}
use Rattle.control_plan.specs.declared.choices.Kernel.TheVariants.{Lanes}
use Rattle.control_plan.specs.declared.choices.Split.TheVariants.{Claim}
use Rattle.control_plan.specs.declared.refusal.ControlRefusal.{ControlRefusal}
use Rattle.control_plan.specs.declared.refusal.ControlRefusal.TheVariants.{Bad}
use Rattle.control_plan.specs.declared.refusal.ControlKind.{ControlKind}
use Rattle.control_plan.specs.declared.refusal.ControlKind.TheVariants.{BadWord, LineTwice, TooManyLevels, BadNumber, NotAdmissible}
use Rattle.control_plan.specs.Plans.{PlanValue, IsPlan, plan_of, usual}
use Rattle.control_plan.specs.Reading.{none_given, read_lines}
use Rattle.control_plan.specs.Lines.{lines}
use Rattle.control_plan.specs.Settings.{so_far}

-- runs of 1,024 places
abbrev pub blocks : Control
blocks = control_of (pos 0) 1 0 1024

abbrev pub with_levels : List Control → PlanValue
with_levels levels = record usual { levels = levels }

pub record PlanExamples : Type 0 where
  -- the usual plan, which selects rows in one run
  pub usual_plan : IsPlan usual
  pub one_run : run_starts (side_by_side 4 (map (λ z. Some z) (control_list usual.select 4) ∷ [])) ≡ 0 ∷ []
  -- four levels, and five
  pub four_levels : IsPlan (with_levels (blocks ∷ blocks ∷ blocks ∷ blocks ∷ []))
  pub five_levels : ¬ IsPlan (with_levels (blocks ∷ blocks ∷ blocks ∷ blocks ∷ blocks ∷ []))
  -- the shortest piece and the longest, and those past them
  pub shortest : IsPlan (record usual { piece = 1 })
  pub no_piece : ¬ IsPlan (record usual { piece = 0 })
  pub longest : IsPlan (record usual { piece = 1048576 })
  pub too_long : ¬ IsPlan (record usual { piece = 1048577 })

-- ---- files, each a list of lines, and what is read of them
abbrev pub Bytes : Type 0
Bytes = List ℕ

abbrev pub read : List Bytes → Result PlanValue ControlRefusal
read texts = read_lines texts 1 (so_far usual none_given)

-- the first line that is refused, and why
abbrev pub refused : List Bytes → ℕ → ControlKind → Type 0
refused texts line kind = read texts ≡ Err (Bad line kind)

pub record FileExamples : Type 0 where
  -- lines stand between line feeds, and one more stands behind the last
  pub two_lines : lines (codes "piece 1" ++ 10 ∷ codes "# 2" ++ 10 ∷ []) ≡ codes "piece 1" ∷ codes "# 2" ∷ [] ∷ []
  -- an empty file, and one of blanks and comments of any bytes
  pub nothing : read (lines []) ≡ Ok usual
  pub comments : read (codes "" ∷ codes "  # kernel ends" ∷ (35 ∷ 255 ∷ 13 ∷ []) ∷ (32 ∷ 9 ∷ 13 ∷ []) ∷ []) ≡ Ok usual
  -- each word
  pub every_word :
      read (codes "select 0,1,0,2" ∷ codes "layout 0,1,2,1" ∷ codes "level 0,1,0,2" ∷ codes "level 0,2,0,3" ∷ codes "group partition" ∷ codes "kernel lanes" ∷ codes "split claim" ∷ codes "piece 1" ∷ [])
      ≡ Ok (plan_of (control_of (pos 0) 1 0 2) (Some (control_of (pos 0) 1 2 1)) (control_of (pos 0) 1 0 2 ∷ control_of (pos 0) 2 0 3 ∷ []) Partition Lanes Claim 1)
  -- blanks at the ends and between word and value, a line's end with a carriage return, zeros in front, a minus before 0 and before a start
  pub spaced : read (codes "  piece   007 " ∷ (codes "select" ++ 9 ∷ codes "-0,-0,0,1" ++ 13 ∷ []) ∷ []) ≡ Ok (record usual { piece = 7 })
  pub below_zero : read (codes "select -4611686018427387904,1,0,1024" ∷ []) ≡ Ok (record usual { select = control_of (neg_ℤ (pos 4611686018427387904)) 1 0 1024 })

-- a file of a level so many times, and then of some lines
abbrev pub levels_and : ℕ → List Bytes → List Bytes
levels_and n others = replicate n (codes "level 0,1,0,2") ++ others

pub record RefusalExamples : Type 0 where
  -- an unknown word, in letters of another case too; a value that is missing; an unknown value; bytes that are not ASCII
  pub unknown : refused (codes "# a plan" ∷ codes "levels 0,1,0,2" ∷ []) 2 BadWord
  pub upper : refused (codes "SELECT 0,1,0,2" ∷ []) 1 BadWord
  pub missing : refused (codes "piece" ∷ []) 1 BadWord
  pub value : refused (codes "group hash" ∷ []) 1 BadWord
  pub two_values : refused (codes "group sort sort" ∷ []) 1 BadWord
  pub ends : refused (codes "kernel ends" ∷ []) 1 BadWord
  pub not_ascii : refused ((codes "piece 1" ++ 255 ∷ []) ∷ []) 1 BadWord
  -- one carriage return alone is part of a line's end, and none is a blank
  pub returns : refused ((codes "split even" ++ 13 ∷ 13 ∷ []) ∷ []) 1 BadWord
  pub return_between : refused ((codes "piece" ++ 13 ∷ codes "1") ∷ []) 1 BadWord
  pub return_behind : refused ((codes "piece 1 " ++ 13 ∷ codes " ") ∷ []) 1 BadNumber
  -- a word again
  pub again : refused (codes "split even" ∷ codes "split even" ∷ []) 2 LineTwice
  pub again_wrong : refused (codes "piece 1" ∷ codes "piece 0" ∷ []) 2 LineTwice
  pub again_unknown : refused (codes "split even" ∷ codes "split odd" ∷ []) 2 BadWord
  pub again_missing : refused (codes "piece 1" ∷ codes "piece" ∷ []) 2 BadWord
  -- the fifth level
  pub fifth : refused (levels_and 4 (codes "level 1" ∷ [])) 5 TooManyLevels
  pub fifth_missing : refused (levels_and 4 (codes "level" ∷ [])) 5 BadWord
  -- three numbers, five, a blank, no digit, 20 digits
  pub three : refused (codes "select 0,1,0" ∷ []) 1 BadNumber
  pub five : refused (codes "select 0,1,0,1,1" ∷ []) 1 BadNumber
  pub blank : refused (codes "layout 0, 1,0,1" ∷ []) 1 BadNumber
  pub no_digit : refused (codes "level 0,1,-,1" ∷ []) 1 BadNumber
  pub plus : refused (codes "level +0,1,0,1" ∷ []) 1 BadNumber
  pub twenty : refused (codes "select 00000000000000000000,1,0,1" ∷ []) 1 BadNumber
  -- a piece past its ends
  pub no_piece : refused (codes "piece 0" ∷ []) 1 BadNumber
  pub long_piece : refused (codes "piece 1048577" ∷ []) 1 BadNumber
  pub below : refused (codes "piece -1" ∷ []) 1 BadNumber
  -- what is no control vector
  pub no_divisor : refused (codes "select 0,1,0,0" ∷ []) 1 NotAdmissible
  pub back : refused (codes "level 0,-1,0,1" ∷ []) 1 NotAdmissible
  pub far : refused (codes "layout 4611686018427387905,1,0,1" ∷ []) 1 NotAdmissible
  pub widest : refused (codes "layout 9999999999999999999,1,0,1" ∷ []) 1 NotAdmissible
  -- the first line decides
  pub first : refused (codes "select 0,1,0,0" ∷ codes "hint" ∷ []) 1 NotAdmissible

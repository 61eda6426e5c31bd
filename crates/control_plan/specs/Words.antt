-- The words of a control file: what a line sets, and the words that some values are (this project's own).
use Rattle.std.specs.Prelude.{ℕ, List, codes, if◌then◌else◌, Option, Some, None}
use Rattle.std.specs.Str.{bytes_eq}
use Rattle.control_plan.specs.declared.words.Word.{Word}
use Rattle.control_plan.specs.declared.words.Word.TheVariants as word
use Rattle.control_plan.specs.declared.choices.Grouping.{Grouping}
use Rattle.control_plan.specs.declared.choices.Grouping.TheVariants.{Sort, Partition}
use Rattle.control_plan.specs.declared.choices.Kernel.{Kernel}
use Rattle.control_plan.specs.declared.choices.Kernel.TheVariants.{Scalar, Lanes}
use Rattle.control_plan.specs.declared.choices.Split.{Split}
use Rattle.control_plan.specs.declared.choices.Split.TheVariants.{Even, Claim}

abbrev pub word_of : List ℕ → Option Word
word_of w =
    if bytes_eq w (codes "select") then Some word.Select
    else if bytes_eq w (codes "layout") then Some word.Layout
    else if bytes_eq w (codes "level") then Some word.Level
    else if bytes_eq w (codes "group") then Some word.Group
    else if bytes_eq w (codes "kernel") then Some word.Kernel
    else if bytes_eq w (codes "split") then Some word.Split
    else if bytes_eq w (codes "piece") then Some word.Piece
    else None

abbrev pub grouping_of : List ℕ → Option Grouping
grouping_of w = if bytes_eq w (codes "sort") then Some Sort else if bytes_eq w (codes "partition") then Some Partition else None

-- the kernel of ends is no value while there are no ends
abbrev pub kernel_of : List ℕ → Option Kernel
kernel_of w = if bytes_eq w (codes "scalar") then Some Scalar else if bytes_eq w (codes "lanes") then Some Lanes else None

abbrev pub split_of : List ℕ → Option Split
split_of w = if bytes_eq w (codes "even") then Some Even else if bytes_eq w (codes "claim") then Some Claim else None

-- The words of the command line.
use Rattle.std.specs.Prelude.{ℕ, ◌==◌, Bool, ◌&&◌, if◌then◌else◌, List, [], length, Option, Some, None, slice_index_or, codes}
use Rattle.std.specs.Option.{option_map}
use Rattle.std.specs.Str.{bytes_eq}
use Rattle.run_steps.specs.declared.words.Mode.{Mode}
use Rattle.run_steps.specs.declared.words.Mode.TheVariants.{Sql, Algebra}

-- what is asked: in which mode, the schema's file, and that of the query or program
pub record Request : Type 0 where
  pub mode : Mode
  pub schema : List ℕ
  pub text : List ℕ

-- the word at a place, from 0
abbrev pub word_at : List (List ℕ) → ℕ → List ℕ
word_at words i = slice_index_or words i []

-- the word of a mode
abbrev pub mode_of : List ℕ → Option Mode
mode_of word =
    if bytes_eq word (codes "sql") then Some Sql
    else if bytes_eq word (codes "algebra") then Some Algebra
    else None

-- any first word, then `--db F --mode M --text G` in this order
abbrev pub are_options : List (List ℕ) → Bool
are_options words =
    length words == 7
    && bytes_eq (word_at words 1) (codes "--db")
    && bytes_eq (word_at words 3) (codes "--mode")
    && bytes_eq (word_at words 5) (codes "--text")

-- the request for the files F and G in the mode M
abbrev pub request_for : List (List ℕ) → Mode → Request
request_for words mode = record { mode = mode; schema = word_at words 2; text = word_at words 6 }

-- what accepted words ask
abbrev pub request_of : List (List ℕ) → Option Request
request_of words = if are_options words then option_map (request_for words) (mode_of (word_at words 4)) else None

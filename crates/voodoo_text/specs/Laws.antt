-- An operator and its word decide each other, and so do a program and its canonical text.
use Rattle.std.specs.Prelude.{◌≡◌, List, length, Some, Ok}
use Rattle.std.specs.List.{range_with_len}
use Rattle.programs.specs.declared.op.Statement.{Statement}
use Rattle.voodoo_text.specs.declared.operator.Operator.{Operator}
use Rattle.voodoo_text.specs.Values.{Bytes}
use Rattle.voodoo_text.specs.Operators.{operator_word, operator_of}
use Rattle.voodoo_text.specs.Canonical.{text_of}
use Rattle.voodoo_text.specs.Spelled.{CanBeSpelled, HasRanges}
use Rattle.voodoo_text.specs.Reading.{read, read_text}
use Rattle.voodoo_text.specs.declared.read_text.ReadProgram.{ReadProgram}

-- each statement stands on a line of its own, from line 1 on
abbrev pub line_by_line : List Statement → ReadProgram
line_by_line program = read program (range_with_len 1 (length program))

-- bytes are the canonical text of a program that can be spelled
pub record IsTextOf (bytes : Bytes) (program : List Statement) : Type 0 where
  pub names : CanBeSpelled program
  pub ranges : HasRanges program
  pub text : text_of program ≡ bytes

pub record TextLaws : Type 0 where
  -- the text of a program is read as that program
  pub reads : (bytes : Bytes) (program : List Statement) → IsTextOf bytes program → read_text bytes ≡ Ok (line_by_line program)
  -- a text that is canonical is that of the program that it is read as
  pub one : (bytes : Bytes) (program : List Statement) (read : ReadProgram) → IsTextOf bytes program → read_text bytes ≡ Ok read → text_of read.program ≡ bytes

pub record WordLaws : Type 0 where
  -- an operator's word names it
  pub named : (a : Operator) → operator_of (operator_word a) ≡ Some a
  -- and no other word does
  pub alone : (word : Bytes) (a : Operator) → operator_of word ≡ Some a → operator_word a ≡ word

-- The program that a text spells, with the line of each statement, or the first refusal.
use Rattle.std.specs.Prelude.{◌≡◌, ◌≢◌, ℕ, ◌+◌, ◌==◌, Bool, List, [], ◌∷◌, ◌++◌, Result, Ok, Err, if◌then◌else◌}
use Rattle.std.specs.List.{slice_split}
use Rattle.std.specs.Str.{is_utf8}
use Rattle.phrases.specs.declared.refusal.ReadError.{ReadError}
use Rattle.phrases.specs.declared.refusal.ReadError.TheVariants as error
use Rattle.programs.specs.declared.op.Statement.{Statement}
use Rattle.voodoo_text.specs.declared.refusal.TextKind.{TextKind}
use Rattle.voodoo_text.specs.declared.refusal.TextKind.TheVariants.{NotText}
use Rattle.voodoo_text.specs.declared.refusal.TextRefusal.{TextRefusal}
use Rattle.voodoo_text.specs.declared.refusal.TextRefusal.TheVariants.{Bad, NoMemory}
use Rattle.voodoo_text.specs.declared.read_text.ReadProgram.{ReadProgram}
use Rattle.voodoo_text.specs.Values.{Bytes}
use Rattle.voodoo_text.specs.Tokens.{Token, tokens}
use Rattle.voodoo_text.specs.Statements.{line_of}

abbrev pub is_feed : ℕ → Bool
is_feed b = b == 10

-- what stands between line feeds
abbrev pub lines : Bytes → List Bytes
lines = slice_split is_feed

abbrev pub read : List Statement → List ℕ → ReadProgram
read statements numbers = record { program = statements; lines = numbers }

-- a statement in front, and the number of its line
abbrev pub with_statement : ℕ → Statement → Result ReadProgram TextRefusal → Result ReadProgram TextRefusal
with_statement n s (Ok r) = Ok (read (s ∷ r.program) (n ∷ r.lines))
with_statement n s (Err e) = Err e

abbrev pub refusal : ℕ → ReadError TextKind → TextRefusal
refusal n (error.Refused kind left) = Bad n kind
refusal n error.NoMemory = NoMemory

-- a line in front: its statement or its refusal, before those of the lines behind it
abbrev pub on_line : ℕ → Result Statement (ReadError TextKind) → Result ReadProgram TextRefusal → Result ReadProgram TextRefusal
on_line n (Ok s) others = with_statement n s others
on_line n (Err e) others = Err (refusal n e)

-- a line without a token is no statement
abbrev pub with_line : ℕ → List Token → Result ReadProgram TextRefusal → Result ReadProgram TextRefusal
with_line n [] others = others
with_line n (t ∷ ts) others = on_line n (line_of (t ∷ ts)) others

-- the lines from a number on
abbrev pub read_lines : ℕ → List Bytes → Result ReadProgram TextRefusal
read_lines n [] = Ok (read [] [])
read_lines n (line ∷ others) = with_line n (tokens line) (read_lines (n + 1) others)

-- a text is UTF-8; lines are counted from 1
unfoldable pub read_text : Bytes → Result ReadProgram TextRefusal
read_text bytes = if is_utf8 bytes then read_lines 1 (lines bytes) else Err (Bad 1 NotText)

-- what reading ensures: the text's answer, unless memory runs out
abbrev pub Gives : {A : Type 0} → Result A TextRefusal → Result A TextRefusal → Type 0
Gives answer (Ok a) = answer ≡ Ok a
Gives answer (Err e) = e ≢ NoMemory → answer ≡ Err e

-- ---- how the text is read line by line

-- what was read before some lines, and what they are read as
abbrev pub onto : List Statement → List ℕ → Result ReadProgram TextRefusal → Result ReadProgram TextRefusal
onto statements numbers (Ok r) = Ok (read (statements ++ r.program) (numbers ++ r.lines))
onto statements numbers (Err e) = Err e

-- Reading a line appends its statement, whatever stands behind it, or gives its refusal.
abbrev pub TakesLine : ℕ → List Token → List Statement → List ℕ → Result (Unit {0}) TextRefusal → List Statement → List ℕ → Type 0
TakesLine n ts statements numbers (Ok u) more_statements more_numbers =
    (others : Result ReadProgram TextRefusal) → onto statements numbers (with_line n ts others) ≡ onto more_statements more_numbers others
TakesLine n ts statements numbers (Err e) more_statements more_numbers =
    e ≢ NoMemory → (others : Result ReadProgram TextRefusal) → with_line n ts others ≡ Err e

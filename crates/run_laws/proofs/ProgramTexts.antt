-- A text is a program, or it is refused at one of its lines.
use Rattle.std.proofs.Common.{◌≡◌, ℕ, ◌+◌, Bool, true, false, List, [], ◌∷◌, Ok, Err, if◌then◌else◌, refl}
use Rattle.std.specs.Prelude.{Result}
use Rattle.std.specs.Str.{is_utf8}
use Rattle.phrases.specs.declared.refusal.ReadError.{ReadError}
use Rattle.phrases.specs.declared.refusal.ReadError.TheVariants as read
use Rattle.programs.specs.declared.op.Statement.{Statement}
use Rattle.voodoo_text.specs.declared.refusal.TextKind.{TextKind}
use Rattle.voodoo_text.specs.declared.refusal.TextKind.TheVariants.{NotText}
use Rattle.voodoo_text.specs.declared.refusal.TextRefusal.{TextRefusal}
use Rattle.voodoo_text.specs.declared.refusal.TextRefusal.TheVariants.{Bad, NoMemory}
use Rattle.voodoo_text.specs.declared.read_text.ReadProgram.{ReadProgram}
use Rattle.voodoo_text.specs.Values.{Bytes}
use Rattle.voodoo_text.specs.Tokens.{Token, tokens}
use Rattle.voodoo_text.specs.Statements.{line_of}
use Rattle.voodoo_text.specs.Reading.{read_text, read_lines, lines, with_line, on_line, with_statement}
use Rattle.voodoo_text.proofs.LineLaws.{line_laws}
use Rattle.run_laws.specs.Laws.{ProgramLaw}

abbrev IsSaid : Result ReadProgram TextRefusal → Type 0
IsSaid r = r ≡ Err NoMemory → ⊥

statement_never : (n : ℕ) (s : Statement) (others : Result ReadProgram TextRefusal) → IsSaid others → IsSaid (with_statement n s others)
statement_never n s (Ok r) h e = cc
statement_never n s (Err NoMemory) h e = h refl
statement_never n s (Err (Bad line kind)) h e = cc

line_never : (n : ℕ) (r : Result Statement (ReadError TextKind)) (others : Result ReadProgram TextRefusal) → (r ≡ Err read.NoMemory → ⊥) → IsSaid others → IsSaid (on_line n r others)
line_never n (Ok s) others h g e = statement_never n s others g e
line_never n (Err read.NoMemory) others h g e = h refl
line_never n (Err (read.Refused kind left)) others h g e = cc

tokens_never : (n : ℕ) (ts : List Token) (others : Result ReadProgram TextRefusal) → IsSaid others → IsSaid (with_line n ts others)
tokens_never n [] others g e = g e
tokens_never n (t ∷ ts) others g e = line_never n (line_of (t ∷ ts)) others (line_laws.refused (t ∷ ts) read.NoMemory) g e

lines_never : (n : ℕ) (all : List Bytes) → IsSaid (read_lines n all)
lines_never n [] e = cc
lines_never n (line ∷ others) e = tokens_never n (tokens line) (read_lines (n + 1) others) (lines_never (n + 1) others) e

by_text : (bytes : Bytes) (b : Bool) → IsSaid (if b then read_lines 1 (lines bytes) else Err (Bad 1 NotText))
by_text bytes true e = lines_never 1 (lines bytes) e
by_text bytes false e = cc

pub program_law : ProgramLaw
unfolding read_text
program_law bytes e = by_text bytes (is_utf8 bytes) e

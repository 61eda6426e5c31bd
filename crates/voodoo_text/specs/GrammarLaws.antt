-- A line is read as the statement that the grammar gives its tokens, or refused at the first token that cannot stand.
use Rattle.std.specs.Prelude.{◌≡◌, ℕ, List, [], ◌∷◌, ◌++◌, ◌↔◌, if◌then◌else◌, length, map, Option, Some, None, Ok, Err}
use Rattle.phrases.specs.declared.refusal.ReadError.{ReadError}
use Rattle.phrases.specs.declared.refusal.ReadError.TheVariants.{Refused, NoMemory}
use Rattle.phrases.specs.Promise.{Begins, EndsNone, GoesOn}
use Rattle.programs.specs.declared.op.Statement.{Statement}
use Rattle.voodoo_text.specs.declared.kind.Kind.{Kind}
use Rattle.voodoo_text.specs.declared.kind.Kind.TheVariants as k
use Rattle.voodoo_text.specs.declared.refusal.TextKind.{TextKind}
use Rattle.voodoo_text.specs.declared.refusal.TextKind.TheVariants.{NotText, BadToken, Unexpected, BadNumber, NotAdmissible}
use Rattle.voodoo_text.specs.Kinds.{same_kind}
use Rattle.voodoo_text.specs.Tokens.{Token, token}
use Rattle.voodoo_text.specs.Statements.{line_of}
use Rattle.voodoo_text.specs.PlaceGrammar.{Asked, ranges, order_alone}
use Rattle.voodoo_text.specs.Grammar.{line}

-- a number as 0, any other token as it is
abbrev pub zeroed : Token → Token
zeroed t = if same_kind t.kind k.Number then token k.Number (48 ∷ []) else t

-- the tokens spell a line: a statement, or none
abbrev pub SpellsLine : Asked → List Token → Type 0
SpellsLine m ts = (x : Option Statement) × line m ts x

-- the next token is of this kind
abbrev pub NextIs : Kind → List Token → Type 0
NextIs kind [] = ⊥
NextIs kind (t ∷ rest) = t.kind ≡ kind

-- Why the next token, or the end, cannot stand there. BadToken: what stands there is no token. BadNumber: it is a number, with which
-- a line goes on where ranges are not asked. Unexpected: it is anything else, with which none goes on even then.
-- NotAdmissible is said of a whole line, which spells none.
abbrev pub Why : TextKind → List Token → List Token → Type 0
Why BadToken before rest = NextIs k.Bad rest × EndsNone (line ranges) before rest
Why BadNumber before rest = NextIs k.Number rest × EndsNone (line ranges) before rest × GoesOn (line order_alone) before rest
Why Unexpected before rest = (NextIs k.Bad rest → ⊥) × EndsNone (line ranges) before rest × EndsNone (line order_alone) before rest
Why NotAdmissible before rest = (rest ≡ []) × line ranges before None
Why NotText before rest = ⊥

-- The first token, or the end, at which the line is refused; `left` counts the tokens from it on. The tokens before it begin a line.
pub record IsFirstRefusal (ts : List Token) (kind : TextKind) (left : ℕ) : Type 0 where
  pub before : List Token
  pub rest : List Token
  pub cut : ts ≡ before ++ rest
  pub place : left ≡ length rest
  pub begins : Begins (line ranges) before
  pub why : Why kind before rest

abbrev pub IsLineRefusal : List Token → ReadError TextKind → Type 0
IsLineRefusal ts NoMemory = ⊥
IsLineRefusal ts (Refused kind left) = IsFirstRefusal ts kind left

pub record LineLaws : Type 0 where
  -- a line is read as the statement that it spells, and as no other
  pub found : (ts : List Token) (s : Statement) → line_of ts ≡ Ok s → line ranges ts (Some s)
  pub only : (ts : List Token) (s : Statement) → line ranges ts (Some s) → line_of ts ≡ Ok s
  -- a line that spells none is a Range that is not admissible
  pub none : (ts : List Token) → line ranges ts None → line_of ts ≡ Err (Refused NotAdmissible 0)
  -- a line is refused at its first refusal, of which there is but one
  pub refused : (ts : List Token) (e : ReadError TextKind) → line_of ts ≡ Err e → IsLineRefusal ts e
  pub first : (ts : List Token) (kind : TextKind) (left : ℕ) → IsFirstRefusal ts kind left → line_of ts ≡ Err (Refused kind left)
  -- a refused line spells no statement
  pub never_both : (ts : List Token) (e : ReadError TextKind) (s : Statement) → line_of ts ≡ Err e → line ranges ts (Some s) → ⊥
  -- a line spells one thing, also where ranges are not asked
  pub one : (m : Asked) (ts : List Token) (s t : Option Statement) → line m ts s → line m ts t → s ≡ t
  -- where ranges are not asked, the tokens spell a line exactly where they do with 0 for each number: it is no matter what stands for a
  -- number that its place does not hold
  pub order : (ts : List Token) → SpellsLine order_alone ts ↔ SpellsLine ranges (map zeroed ts)

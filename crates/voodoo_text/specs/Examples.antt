-- Worked lines: what a line of each family of operators spells, and where three lines are first refused.
use Rattle.std.specs.Prelude.{◌≡◌, ℕ, pos, negsuc, true, false, [], ◌∷◌, codes, Ok, Err}
use Rattle.phrases.specs.declared.refusal.ReadError.TheVariants.{Refused}
use Rattle.control_vectors.specs.Controls.{control_of}
use Rattle.programs.specs.declared.op.Op.{Op}
use Rattle.programs.specs.declared.op.Op.TheVariants.{Load, Persist, Range, Cross, Zip, Project, Upsert, Gather, Scatter, Partition, Materialize, FoldScan, Order, Subtract, BitShift}
use Rattle.programs.specs.declared.op.Size.TheVariants.{Of}
use Rattle.programs.specs.declared.op.Size.TheVariants as size
use Rattle.programs.specs.declared.op.Operand.TheVariants.{Column}
use Rattle.programs.specs.declared.op.Operand.TheVariants as operand
use Rattle.voodoo_text.specs.declared.refusal.TextKind.{TextKind}
use Rattle.voodoo_text.specs.declared.refusal.TextKind.TheVariants.{BadToken, Unexpected, BadNumber, NotAdmissible}
use Rattle.voodoo_text.specs.declared.refusal.TextRefusal.TheVariants.{Bad}
use Rattle.voodoo_text.specs.Values.{Bytes}
use Rattle.voodoo_text.specs.Tokens.{tokens}
use Rattle.voodoo_text.specs.Statements.{statement, line_of}
use Rattle.voodoo_text.specs.Reading.{read, read_text}
use Rattle.voodoo_text.specs.Canonical.{text_of}

-- a line spells a statement
abbrev pub Spells : Bytes → Bytes → Op → Type 0
Spells text name op = line_of (tokens text) ≡ Ok (statement name op)

-- a line is refused where so many tokens are left
abbrev pub IsRefused : Bytes → TextKind → ℕ → Type 0
IsRefused text kind left = line_of (tokens text) ≡ Err (Refused kind left)

pub record WorkedLines : Type 0 where
  pub load : Spells (codes "t = Load(lines)") (codes "t") (Load (codes "lines"))
  pub persist : Spells (codes "Persist(out, s)") (codes "out") (Persist (codes "s"))
  -- Persist is a name where no parenthesis follows
  pub name_persist : Spells (codes "Persist = Load(t)") (codes "Persist") (Load (codes "t"))
  pub range : Spells (codes "r = Range(t, .run, -5, 3, 0, 2)") (codes "r") (Range (Of (codes "t")) (codes ".run") (control_of (negsuc 4) 3 0 2))
  pub cross : Spells (codes "v = Cross(a, .p, b, .q)") (codes "v") (Cross (codes "a") (codes ".p") (codes "b") (codes ".q"))
  pub zip : Spells (codes "v=Zip(a,b)#both") (codes "v") (Zip (codes "a") (codes "b"))
  pub project : Spells (codes "v = Project(a, .p.q, .)") (codes "v") (Project (codes "a") (codes ".p.q") (codes "."))
  pub upsert : Spells (codes "v = Upsert(a, .p, b, .q)") (codes "v") (Upsert (codes "a") (codes ".p") (codes "b") (codes ".q"))
  pub gather : Spells (codes "v = Gather(a, b, .pos)") (codes "v") (Gather (codes "a") (codes "b") (codes ".pos"))
  pub scatter : Spells (codes "v = Scatter(a, 007, b, .pos)") (codes "v") (Scatter (codes "a") (size.Number 7) (codes "b") (codes ".pos"))
  pub rank : Spells (codes "v = Partition(a, .key, b, .pivot, .out)") (codes "v") (Partition (record { a = codes "a"; key = codes ".key"; b = codes "b"; pivot = codes ".pivot"; out = codes ".out" }))
  pub materialize : Spells (codes "v = Materialize(a)") (codes "v") (Materialize (codes "a"))
  pub fold : Spells (codes "v = FoldScan(a, .val, .run, .out)") (codes "v") (FoldScan (record { a = codes "a"; val = codes ".val"; run = codes ".run"; out = codes ".out" }))
  pub order : Spells (codes "v = Order(a, .mark, .out, +.k, -.l)") (codes "v") (Order (codes "a") (codes ".mark") (codes ".out") (record { path = codes ".k"; descending = false } ∷ record { path = codes ".l"; descending = true } ∷ []))
  pub pair : Spells (codes "v = Subtract(a.x, -1, .out)") (codes "v") (Subtract (record { x = Column (codes "a") (codes ".x"); y = operand.Number (negsuc 0); out = codes ".out" }))
  pub bit_shift : Spells (codes "v = BitShift(t.a, -127, .h)") (codes "v") (BitShift (Column (codes "t") (codes ".a")) (negsuc 126) (codes ".h"))
  -- no word of an operator
  pub alias : IsRefused (codes "v = Plus(a.x, 1, .out)") Unexpected 9
  -- a blank parts a name from the path of an operand
  pub parted : IsRefused (codes "v = Add(a .x, 1, .out)") Unexpected 6
  pub shift : IsRefused (codes "v = BitShift(t.a, 128, .h)") BadNumber 4
  pub not_admissible : IsRefused (codes "v = Range(1, .p, 0, 0, 0, 0)") NotAdmissible 0
  -- what is no token comes before that a Range is not admissible
  pub no_token : IsRefused (codes "v = Range(1, .p, 0, 0, 0, 0) $") BadToken 1
  -- of three lines the first that is refused decides; the lines are counted from 1
  pub three_lines : read_text (codes "t = Load(t)\nv = BitShift(t.a, 128, .h)\n$\n") ≡ Err (Bad 2 BadNumber)
  -- an empty line is none, and is counted
  pub lines : read_text (codes "\nt = Load(t)\n # the answer\nPersist(out, t)") ≡ Ok (read (statement (codes "t") (Load (codes "t")) ∷ statement (codes "out") (Persist (codes "t")) ∷ []) (2 ∷ 4 ∷ []))
  pub printed : text_of (statement (codes "v") (BitShift (operand.Number (pos 0)) (pos 1) (codes ".h")) ∷ statement (codes "out") (Persist (codes "v")) ∷ []) ≡ codes "v = BitShift(0, 1, .h)\nPersist(out, v)\n"

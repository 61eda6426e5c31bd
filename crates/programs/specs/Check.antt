-- What a program has to be, apart from any values: its statements one by one, each behind what is known by then.
use Rattle.std.specs.Prelude.{ℕ, ◌+◌, ◌-◌, ◌^◌, Bool, true, false, List, [], ◌∷◌, ◌++◌, length, is_some, nat_lt, slice_index_or, if◌then◌else◌, Option, Some, None, Result, Ok, Err}
use Rattle.std.specs.List.{list_any}
use Rattle.std.specs.Str.{bytes_eq}
use Rattle.programs.specs.declared.op.Op.{Op}
use Rattle.programs.specs.declared.op.Statement.{Statement}
use Rattle.programs.specs.declared.op.ProgramKind.{ProgramKind}
use Rattle.programs.specs.declared.op.ProgramKind.TheVariants.{TooManyStatements, NameTwice, NoPersist}
use Rattle.programs.specs.Mentions.{Label, is_persist}
use Rattle.programs.specs.Outlines.{Outline, Shapes, no_shapes, add_shape, no_outline}
use Rattle.programs.specs.MadeOutlines.{made_outline}
use Rattle.programs.specs.Faults.{first_fault, op_tests}

-- ---- statement by statement
-- what is known behind some statements: the outline of each, none for a Persist; those of the vectors by name; the names of the results
pub record Known : Type 0 where
  pub shape : List Outline
  pub vectors : Shapes
  pub results : Label → Bool

-- vectors have names of their own, and so have results
abbrev pub name_twice : Known → Label → Op → Bool
name_twice known n op = if is_persist op then known.results n else is_some (known.vectors n)

abbrev pub fault_of : Shapes → Known → Label → Op → Option ProgramKind
fault_of tables known n op = first_fault (op_tests tables known.vectors op ++ (name_twice known n op, NameTwice) ∷ [])

abbrev pub with_result : Known → Label → Known
with_result known n = record {
  shape = known.shape ++ no_outline ∷ [];
  vectors = known.vectors;
  results = λ m. if bytes_eq n m then true else known.results m;
}

abbrev pub with_vector : Known → Label → Outline → Known
with_vector known n outline = record {
  shape = known.shape ++ outline ∷ [];
  vectors = add_shape known.vectors n outline;
  results = known.results;
}

abbrev pub known_behind : Known → Label → Op → Outline → Known
known_behind known n op made = if is_persist op then with_result known n else with_vector known n made

abbrev pub learn : Shapes → Known → Label → Op → Known
learn tables known n op = known_behind known n op (made_outline tables known.vectors op)

-- a statement by its number, from 1 on, and what is wrong with it
pub record Fault : Type 0 where
  pub statement : ℕ
  pub kind : ProgramKind

abbrev pub fault : ℕ → ProgramKind → Fault
fault statement kind = record { statement = statement; kind = kind }

abbrev pub Checked : Type 0
Checked = Result Known Fault

abbrev pub after_fault : Known → Known → Option ProgramKind → Checked
after_fault known next None = Ok next
after_fault known next (Some kind) = Err (fault (length known.shape + 1) kind)

abbrev pub check_one : Shapes → Known → Label → Op → Checked
check_one tables known n op = after_fault known (learn tables known n op) (fault_of tables known n op)

abbrev pub then_check : Checked → (Known → Checked) → Checked
then_check (Err e) next = Err e
then_check (Ok known) next = next known

-- what is known behind some more statements, or the first that is bad
abbrev pub check_from : Shapes → List Statement → Known → Checked
check_from tables [] known = Ok known
check_from tables (s ∷ rest) known = then_check (check_one tables known s.name s.op) (check_from tables rest)

-- ---- the program
abbrev pub at_start : Known
at_start = record { shape = []; vectors = no_shapes; results = λ m. false }

-- a program names at least one result
abbrev pub names_result : List Statement → Bool
names_result program = list_any (λ s. is_persist s.op) program

abbrev pub shape_of : Bool → Checked → Result (List Outline) Fault
shape_of named (Err e) = Err e
shape_of true (Ok known) = Ok known.shape
shape_of false (Ok known) = Err (fault 0 NoPersist)

-- the outline of each statement's vector, or the first fault: too many statements, then the statements in order, then no result
abbrev pub check : Shapes → List Statement → Result (List Outline) Fault
check tables program =
    if nat_lt 65536 (length program)
    then Err (fault 65537 TooManyStatements)
    else shape_of (names_result program) (check_from tables program at_start)

-- ---- what a shape says
-- the first statement from number k on whose vector has more than 2^22 places, with its length
abbrev pub limit_from : ℕ → List Outline → Option (ℕ × ℕ)
limit_from k [] = None
limit_from k (outline ∷ rest) = if nat_lt (2 ^ 22) outline.len then Some (k, outline.len) else limit_from (k + 1) rest

abbrev pub limit_of : List Outline → Option (ℕ × ℕ)
limit_of shape = limit_from 1 shape

-- the outline of a statement's vector, by its number from 1 on
abbrev pub outline_at : List Outline → ℕ → Outline
outline_at shape statement = slice_index_or shape (statement - 1) no_outline

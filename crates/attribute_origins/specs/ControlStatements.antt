-- Control statements: those that make the values of a control vector, whose four numbers are known before any slot is
-- (Voodoo, PVLDB 9(14), 2016, section 2.2; which operators keep them known is this project's own).
use Rattle.std.specs.Prelude.{ℕ, ◌==◌, ◌^◌, ◌&&◌, nat_lt, ℤ, pos, negsuc, neg_ℤ, int_le, int_lt, if◌then◌else◌, Option, Some, None, option_and_then}
use Rattle.control_vectors.specs.declared.PairKind.{PairKind}
use Rattle.control_vectors.specs.declared.PairKind.TheVariants as pair
use Rattle.control_vectors.specs.Controls.{Control}
use Rattle.control_vectors.specs.Closed.{shifted_control, scaled_control, divided_control, reduced_control}
use Rattle.programs.specs.declared.op.Operand.{Operand}
use Rattle.programs.specs.declared.op.Operand.TheVariants as operand
use Rattle.programs.specs.Families.{Family, Range, Pair}
use Rattle.programs.specs.Mentions.{Label}
use Rattle.attribute_origins.specs.Traces.{Trace, Traced, Traces, trace_at}

-- ---- numbers that the closed operations take: a shift has 64 bits with its sign, each other number 32 bits without one

abbrev pub as_shift : ℤ → Option ℤ
as_shift z = if int_le (neg_ℤ (pos (2 ^ 63))) z && int_lt z (pos (2 ^ 63)) then Some z else None

abbrev pub as_factor : ℤ → Option ℕ
as_factor (pos n) = if nat_lt n (2 ^ 32) then Some n else None
as_factor (negsuc n) = None

-- the closed operation of an operator by a number, where there is one
abbrev pub closed : PairKind → Control → ℤ → Option Control
closed pair.Add c y = option_and_then (shifted_control c) (as_shift y)
closed pair.Subtract c y = option_and_then (shifted_control c) (as_shift (neg_ℤ y))
closed pair.Multiply c y = option_and_then (scaled_control c) (as_factor y)
closed pair.Divide c y = option_and_then (divided_control c) (as_factor y)
closed pair.Modulo c y = option_and_then (reduced_control c) (as_factor y)
closed kind c y = None

-- ---- control attributes

-- an attribute of a vector of this length is one where its origin is a control statement's and all of its slots are those that it has there
abbrev pub control_of : ℕ → Trace → Option Control
control_of len t = if t.reach == len then t.control else None

abbrev pub control_in : Traced → Option Trace → Option Control
control_in v None = None
control_in v (Some t) = control_of v.len t

abbrev pub known_control : Option Traced → Label → Option Control
known_control None p = None
known_control (Some v) p = control_in v (trace_at v.traces p)

-- the four numbers of the attribute at a path of a vector
abbrev pub control_at : Traces → Label → Label → Option Control
control_at made a p = known_control (made a) p

-- ---- control statements

abbrev pub operand_control : Traces → Operand → Option Control
operand_control made (operand.Column a p) = control_at made a p
operand_control made (operand.Number z) = None

-- of a control attribute and a number
abbrev pub pair_control : Traces → PairKind → Operand → Operand → Option Control
pair_control made kind x (operand.Number y) = option_and_then (λ c. closed kind c y) (operand_control made x)
pair_control made kind x (operand.Column b q) = None

-- the four numbers that a statement makes
abbrev pub control_by : Traces → Family → Option Control
control_by made (Range size p control) = Some control
control_by made (Pair kind p) = pair_control made kind p.x p.y
control_by made f = None

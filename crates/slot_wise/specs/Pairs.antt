-- What each operator that works slot by slot gives for two slots (Voodoo, PVLDB 9(14), 2016, table 2; empty slots, truncation and Fill are this project's own).
use Rattle.std.specs.Prelude.{ℤ, pos, ◌+ℤ◌, ◌-ℤ◌, ◌*ℤ◌, int_div, int_lt, Bool, true, false, ◌||◌, is_none, if◌then◌else◌, Some, None, Ok}
use Rattle.std.specs.Int.{int_rem_euclid}
use Rattle.std.specs.Option.{option_or}
use Rattle.std.specs.Ordering.{int_eq}
use Rattle.control_vectors.specs.Slots.{Slot, Cell, fitted}
use Rattle.control_vectors.specs.Numbers.{shifted}
use Rattle.control_vectors.specs.declared.PairKind.{PairKind}
use Rattle.control_vectors.specs.declared.PairKind.TheVariants.{Add, Subtract, Multiply, Divide, Modulo, Greater, Equals, LogicalAnd, LogicalOr, Fill}

-- empty where either is
abbrev pub of_both : (ℤ → ℤ → Cell) → Slot → Slot → Cell
of_both f None y = Ok None
of_both f (Some a) None = Ok None
of_both f (Some a) (Some b) = f a b

-- 1 for what holds, 0 for what does not
abbrev pub truth : Bool → ℤ
truth true = pos 1
truth false = pos 0

-- a slot that is 0, and one that is neither empty nor 0
abbrev pub is_zero : Slot → Bool
is_zero None = false
is_zero (Some a) = int_eq a (pos 0)

abbrev pub holds : Slot → Bool
holds None = false
holds (Some a) = if int_eq a (pos 0) then false else true

-- truncated towards zero; empty where the divisor is 0
abbrev pub quotient : ℤ → ℤ → Cell
quotient a b = if int_eq b (pos 0) then Ok None else fitted (int_div a b)

-- the rest in 0 to b - 1; empty where b is below 1
abbrev pub rest : ℤ → ℤ → Cell
rest a b = if int_lt b (pos 1) then Ok None else Ok (Some (int_rem_euclid a b))

-- 0 where either is 0, else empty where either is empty, else 1
abbrev pub conjunction : Slot → Slot → Slot
conjunction x y = if is_zero x || is_zero y then Some (pos 0) else (if is_none x || is_none y then None else Some (pos 1))

-- 1 where either is nonempty and not 0, else empty where either is empty, else 0
abbrev pub disjunction : Slot → Slot → Slot
disjunction x y = if holds x || holds y then Some (pos 1) else (if is_none x || is_none y then None else Some (pos 0))

abbrev pub pair_slot : PairKind → Slot → Slot → Cell
pair_slot Add x y = of_both (λ a b. fitted (a +ℤ b)) x y
pair_slot Subtract x y = of_both (λ a b. fitted (a -ℤ b)) x y
pair_slot Multiply x y = of_both (λ a b. fitted (a *ℤ b)) x y
pair_slot Divide x y = of_both quotient x y
pair_slot Modulo x y = of_both rest x y
pair_slot Greater x y = of_both (λ a b. Ok (Some (truth (int_lt b a)))) x y
pair_slot Equals x y = of_both (λ a b. Ok (Some (truth (int_eq a b)))) x y
pair_slot LogicalAnd x y = Ok (conjunction x y)
pair_slot LogicalOr x y = Ok (disjunction x y)
pair_slot Fill x y = Ok (option_or x y)

-- the floor of x * 2^k, Over outside 128 bits
abbrev pub bit_shift_slot : ℤ → Slot → Cell
bit_shift_slot k None = Ok None
bit_shift_slot k (Some x) = fitted (shifted x k)

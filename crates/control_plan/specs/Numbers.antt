-- The numbers of a control file: an optional `-`, then 1 to 19 digits (this project's own).
use Rattle.std.specs.Prelude.{ℕ, ◌^◌, ◌==◌, nat_le, ℤ, pos, neg_ℤ, Bool, ◌&&◌, List, [], ◌∷◌, length, map, if◌then◌else◌, Option, Some, None, Result, Ok, Err}
use Rattle.std.specs.List.{slice_split}
use Rattle.std.specs.Option.{option_map}
use Rattle.number_fields.specs.Digits.{is_number, number_of}
use Rattle.control_vectors.specs.Controls.{Control, control_of}
use Rattle.control_vectors.specs.Closed.{is_admissible}
use Rattle.control_plan.specs.declared.refusal.ControlKind.{ControlKind}
use Rattle.control_plan.specs.declared.refusal.ControlKind.TheVariants.{BadNumber, NotAdmissible}

abbrev pub digits_in : List ℕ → Option ℕ
digits_in digits = if is_number digits && nat_le (length digits) 19 then Some (number_of digits) else None

abbrev pub number_in : List ℕ → Option ℤ
number_in [] = None
number_in (b ∷ digits) = if b == 45 then option_map (λ n. neg_ℤ (pos n)) (digits_in digits) else option_map pos (digits_in (b ∷ digits))

-- ---- a control vector: four numbers with `,` between them, which have to be admissible
abbrev pub is_comma : ℕ → Bool
is_comma b = b == 44

abbrev pub admitted : ℤ → ℤ → ℤ → ℤ → Result Control ControlKind
admitted start (pos step) (pos modulus) (pos divisor) =
    if is_admissible (control_of start step modulus divisor) then Ok (control_of start step modulus divisor) else Err NotAdmissible
admitted start step modulus divisor = Err NotAdmissible

abbrev pub vector_of : List (Option ℤ) → Result Control ControlKind
vector_of (Some start ∷ Some step ∷ Some modulus ∷ Some divisor ∷ []) = admitted start step modulus divisor
vector_of parts = Err BadNumber

abbrev pub vector_in : List ℕ → Result Control ControlKind
vector_in value = vector_of (map number_in (slice_split is_comma value))

-- ---- the length of a piece: 1 to 2^20
abbrev pub piece_of : Option ℤ → Result ℕ ControlKind
piece_of (Some (pos n)) = if nat_le 1 n && nat_le n (2 ^ 20) then Ok n else Err BadNumber
piece_of number = Err BadNumber

abbrev pub piece_in : List ℕ → Result ℕ ControlKind
piece_in value = piece_of (number_in value)

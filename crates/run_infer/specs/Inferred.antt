-- The runs of a control vector's values, and what its four numbers tell of them (control vectors as partitions of a vector: Voodoo, PVLDB 9(14), 2016, section 2.2).
use Rattle.std.specs.Prelude.{◌≡◌, ℕ, ◌-◌, ◌/◌, ◌<◌, ◌≤◌, ◌==◌, Bool, ◌||◌, ◌&&◌, not, List, [], ◌∷◌, if◌then◌else◌}
use Rattle.std.specs.Ordering.{int_eq}
use Rattle.control_vectors.specs.Controls.{Control, control_at, control_list}
use Rattle.control_vectors.specs.Closed.{is_multiple}
use Rattle.control_vectors.specs.Runs.{Tuple, begins, side_by_side}
use Rattle.struct_vectors.specs.Columns.{some_slots}
use Rattle.run_infer.specs.declared.inferring.Runs.{Runs}
use Rattle.run_infer.specs.declared.inferring.Runs.TheVariants.{One, Uniform, ByValue}

-- the first values of a control vector, each a tuple of one slot
abbrev pub tuples_of : Control → ℕ → List Tuple
tuples_of c n = side_by_side n (some_slots (control_list c n) ∷ [])

-- ---- what is inferred
-- from the multiples of a number, of each of which a modulus leaves the rest
abbrev pub stepped : ℕ → ℕ → Runs
stepped by modulus = if not (modulus == 0) && is_multiple by modulus then One else Uniform 1

-- from quotients that grow, of each of which a modulus leaves the rest
abbrev pub inferred : Control → Runs
inferred c =
    if c.step == 0 || c.modulus == 1 then One
    else if is_multiple c.divisor c.step then Uniform (c.divisor / c.step)
    else if is_multiple c.step c.divisor then stepped (c.step / c.divisor) c.modulus
    else ByValue

-- ---- what that says of the runs, whatever the length
abbrev pub HasRuns : Control → Runs → Type 0
HasRuns c One = (n i : ℕ) → i < n → begins (tuples_of c n) i ≡ (i == 0)
HasRuns c (Uniform length) = (1 ≤ length) × ((n i : ℕ) → i < n → begins (tuples_of c n) i ≡ is_multiple i length)
HasRuns c ByValue = Unit {0}

-- ---- so many values of a control vector
pub record ControlListed : Type 0 where
  pub control : Control
  pub length : ℕ

abbrev pub list_of : Control → ℕ → ControlListed
list_of c n = record { control = c; length = n }

-- whether a run begins at a place: the first, and each whose value differs from the one before
abbrev pub begins_at : Control → ℕ → Bool
begins_at c i = i == 0 || not (int_eq (control_at c i) (control_at c (i - 1)))

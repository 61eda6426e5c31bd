-- What a column's form holds.
use Rattle.std.specs.Prelude.{◌≡◌, ℕ, ◌≤◌, ◌^◌, length, take}
use Rattle.struct_vectors.specs.declared.forms.Form.{Form}
use Rattle.struct_vectors.specs.declared.forms.Form.TheVariants.{Narrow, NarrowWithEmpties, Wide, WideWithEmpties, Symbolic}
use Rattle.control_vectors.specs.Controls.{control_list}
use Rattle.struct_vectors.specs.Columns.{ColumnValue, some_slots, marked_slots, narrow, narrow_with_empties, wide, wide_with_empties, symbolic}

abbrev pub value_of : Form → ColumnValue
value_of (Narrow xs) = record { slots = some_slots xs.items; form = narrow }
value_of (NarrowWithEmpties xs marks) = record { slots = marked_slots xs.items marks.items; form = narrow_with_empties }
value_of (Wide xs) = record { slots = some_slots xs.items; form = wide }
value_of (WideWithEmpties xs marks) = record { slots = marked_slots xs.items marks.items; form = wide_with_empties }
value_of (Symbolic c n) = record { slots = some_slots (control_list c n); form = symbolic c }

-- at most 2^22 slots, with a mark for each where there are marks
abbrev pub IsWhole : Form → Type 0
IsWhole (Narrow xs) = length xs.items ≤ 2 ^ 22
IsWhole (NarrowWithEmpties xs marks) = (length xs.items ≤ 2 ^ 22) × (length marks.items ≡ length xs.items)
IsWhole (Wide xs) = length xs.items ≤ 2 ^ 22
IsWhole (WideWithEmpties xs marks) = (length xs.items ≤ 2 ^ 22) × (length marks.items ≡ length xs.items)
IsWhole (Symbolic c n) = n ≤ 2 ^ 22

-- a copy: the same slots, kept in the same way
pub record IsCopyOf (form copy : Form) : Type 0 where
  pub same : value_of copy ≡ value_of form
  pub whole : IsWhole copy

-- a front: the first n slots, kept in the same way
pub record IsFrontOf (n : ℕ) (whole front : Form) : Type 0 where
  pub slots : (value_of front).slots ≡ take n (value_of whole).slots
  pub form : (value_of front).form ≡ (value_of whole).form
  pub sound : IsWhole front

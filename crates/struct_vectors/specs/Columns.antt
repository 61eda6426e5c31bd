-- What a column is: its slots, and how it keeps them.
use Rattle.std.specs.Prelude.{ℤ, Bool, true, false, List, [], ◌∷◌, map, Option, Some, None, is_none, if◌then◌else◌, ⊤}
use Rattle.std.specs.List.{list_any}
use Rattle.control_vectors.specs.Controls.{Control}

-- how slots are kept: in 64 bits or in 128, without or with empty ones, or as a control vector
pub data KeptForm : Type 0 where
  narrow : KeptForm
  narrow_with_empties : KeptForm
  wide : KeptForm
  wide_with_empties : KeptForm
  symbolic : Control → KeptForm

-- a column, as contracts see it
pub record ColumnValue : Type 0 where
  pub slots : List (Option ℤ)
  pub form : KeptForm

-- numbers as slots, none of which is empty
abbrev pub some_slots : List ℤ → List (Option ℤ)
some_slots numbers = map (λ x. Some x) numbers

-- a number with its mark as a slot
abbrev pub marked_slot : ℤ → Bool → Option ℤ
marked_slot x mark = if mark then Some x else None

-- numbers with their marks as slots
abbrev pub marked_slots : List ℤ → List Bool → List (Option ℤ)
marked_slots [] marks = []
marked_slots (x ∷ xs) [] = []
marked_slots (x ∷ xs) (mark ∷ marks) = marked_slot x mark ∷ marked_slots xs marks

-- some slot is empty
abbrev pub has_empty : List (Option ℤ) → Bool
has_empty slots = list_any is_none slots

-- the form of slots that are kept one by one, in 128 bits or in 64
abbrev pub listed_form : Bool → Bool → KeptForm
listed_form false false = narrow
listed_form false true = narrow_with_empties
listed_form true false = wide
listed_form true true = wide_with_empties

-- a form that keeps each number in 64 bits
abbrev pub IsNarrow : KeptForm → Type 0
IsNarrow narrow = ⊤
IsNarrow narrow_with_empties = ⊤
IsNarrow form = ⊥

-- a form that is no control vector's
abbrev pub IsNoControl : KeptForm → Type 0
IsNoControl (symbolic c) = ⊥
IsNoControl form = ⊤

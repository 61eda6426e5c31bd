-- Slots that are read place by place.
use Rattle.std.specs.Prelude.{◌≡◌, ℕ, ℤ, List, Option, None, slice_index_or}

-- what is read at each place is the list's slot, or empty past its end
abbrev pub Reads : (ℕ → Option ℤ) → List (Option ℤ) → Type 0
Reads at slots = (i : ℕ) → at i ≡ slice_index_or slots i None

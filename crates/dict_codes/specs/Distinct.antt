-- Whether a text differs from the last of some texts.
use Rattle.std.specs.Prelude.{ℕ, ◌-◌, Bool, true, not, List, length, Option, Some, None, slice_get}
use Rattle.std.specs.Str.{bytes_eq}

abbrev pub is_other : Option (List ℕ) → List ℕ → Bool
is_other None text = true
is_other (Some last) text = not (bytes_eq last text)

abbrev pub is_new_text : List (List ℕ) → List ℕ → Bool
is_new_text kept text = is_other (slice_get kept (length kept - 1)) text

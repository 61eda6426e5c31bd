-- Places by name.
use Rattle.std.specs.Prelude.{◌≡◌, ℕ, ◌<◌, List, Option, Some, None, slice_get, if◌then◌else◌}
use Rattle.std.specs.Str.{bytes_eq}
use Rattle.std.specs.HashMap.{get_by_text}
use Rattle.programs.specs.declared.index.Index.{Index}

abbrev pub Places : Type 0
Places = List ℕ → Option ℕ

abbrev pub no_places : Places
no_places = λ m. None

-- one more name, or another place for it
abbrev pub noted : Places → List ℕ → ℕ → Places
noted places n place = λ m. if bytes_eq n m then Some place else places m

-- what stands at the place of a name
abbrev pub item_at : {A : Type 0} → List A → Option ℕ → Option A
item_at xs None = None
item_at xs (Some i) = slice_get xs i

-- each place is one of so many
abbrev pub AreWithin : ℕ → Places → Type 0
AreWithin n places = (m : List ℕ) (i : ℕ) → places m ≡ Some i → i < n

-- the places that an index has
abbrev pub places_of : Index → Places
places_of x = λ n. get_by_text x.places n

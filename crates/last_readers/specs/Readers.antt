-- The last reader of each name: the last of the reached statements that mentions it.
use Rattle.std.specs.Prelude.{◌≡◌, ℕ, Bool, false, not, nat_lt, List, [], drop, Option, Some, None, if◌then◌else◌}
use Rattle.programs.specs.declared.op.Statement.{Statement}
use Rattle.programs.specs.Indexes.{Places, places_of}
use Rattle.programs.specs.Mentions.{Label, has_name}
use Rattle.programs.specs.Reaching.{reached}
use Rattle.last_readers.specs.declared.last.LastReaders.{LastReaders}

-- whether the last reader, if there is one, stands at place i or behind it
abbrev pub stands_from : Option ℕ → ℕ → Bool
stands_from None i = false
stands_from (Some last) i = not (nat_lt last i)

-- whether some reached statement from place i on mentions a name
abbrev pub is_read : LastReaders → ℕ → Label → Bool
is_read r i n = stands_from (places_of r.places n) i

abbrev pub AreLast : LastReaders → List Statement → Type 0
AreLast r statements = (i : ℕ) (n : Label) → has_name (reached [] (drop i statements)).names n ≡ is_read r i n

-- ---- in the making, from the last statement to the first
-- a reader at place i, where no later one was noted
abbrev pub noted_if : Option ℕ → Bool → ℕ → Option ℕ
noted_if (Some later) mentions i = Some later
noted_if None mentions i = if mentions then Some i else None

abbrev pub Notes : Places → List Label → ℕ → Places → Type 0
Notes before names i now = (n : Label) → now n ≡ noted_if (before n) (has_name names n) i

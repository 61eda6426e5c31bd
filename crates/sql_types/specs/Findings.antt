-- What is wrong at which byte, and the first of such findings.
use Rattle.std.specs.Prelude.{◌≡◌, ℕ, ◌<◌, ◌≤◌, ◌==◌, ◌&&◌, ◌||◌, Bool, true, nat_lt, if◌then◌else◌, List, fold, Option, Some, None, All, Contains, ◌⊎◌}
use Rattle.sql_types.specs.declared.refusal.SchemaKind.{SchemaKind}
use Rattle.sql_types.specs.declared.refusal.SchemaKind.TheVariants.{TableTwice, ColumnTwice, TwoKeys, KeyUnknown, BadWidth, TooManyTables, TooManyColumns}
use Rattle.sql_types.specs.declared.finding.Finding.{Finding}

-- the order of the kinds at one byte
abbrev pub rank : SchemaKind → ℕ
rank TableTwice = 0
rank ColumnTwice = 1
rank TwoKeys = 2
rank KeyUnknown = 3
rank BadWidth = 4
rank TooManyTables = 5
rank TooManyColumns = 6

abbrev pub found : SchemaKind → ℕ → Finding
found kind at = record { at = at; kind = kind }

-- by the byte, then by the kind
abbrev pub IsNotAfter : Finding → Finding → Type 0
IsNotAfter p q = (p.at < q.at) ⊎ ((p.at ≡ q.at) × (rank p.kind ≤ rank q.kind))

-- one of the findings, and none comes before it
abbrev pub IsFirst : List Finding → Finding → Type 0
IsFirst all p = Contains all p × All (IsNotAfter p) all

-- ---- the first, as a function

abbrev pub comes_before : Finding → Finding → Bool
comes_before p q = nat_lt p.at q.at || (p.at == q.at && nat_lt (rank p.kind) (rank q.kind))

abbrev pub improves : Option Finding → Finding → Bool
improves None q = true
improves (Some p) q = comes_before q p

-- the earlier of the first so far and one more
abbrev pub earlier : Option Finding → Finding → Option Finding
earlier first q = if improves first q then Some q else first

abbrev pub first_from : Option Finding → List Finding → Option Finding
first_from = fold earlier

unfoldable pub first_of : List Finding → Option Finding
first_of = first_from None

-- one more finding, where there is one
abbrev pub noted : {X : Type 0} → (X → Bool) → (X → Finding) → Option Finding → X → Option Finding
noted is_wrong finding first x = if is_wrong x then earlier first (finding x) else first

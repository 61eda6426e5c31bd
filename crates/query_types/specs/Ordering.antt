-- The keys of ORDER BY. After SQL-92 (ISO/IEC 9075:1992), 13.1 <order by clause>.
use Rattle.std.specs.Prelude.{ℕ, suc, ◌-◌, nat_le, nat_lt, ◌&&◌, Bool, true, false, not, if◌then◌else◌, List, [], ◌∷◌, ◌++◌, length, Option, Some, None, Ok}
use Rattle.std.specs.Str.{bytes_eq}
use Rattle.query_trees.specs.declared.expr.ColumnName.{ColumnName}
use Rattle.query_trees.specs.declared.clauses.Direction.{Direction}
use Rattle.query_trees.specs.declared.clauses.Direction.TheVariants.{Ascending, Descending}
use Rattle.query_trees.specs.declared.clauses.SortBy.{SortBy}
use Rattle.query_trees.specs.declared.clauses.SortBy.TheVariants as by
use Rattle.query_trees.specs.declared.clauses.SortKey.{SortKey}
use Rattle.query_types.specs.declared.refusal.TypeKind.TheVariants.{UnknownColumn, Ambiguous, TooManyKeys}
use Rattle.typed_trees.specs.declared.typed.KeyRef.{KeyRef}
use Rattle.typed_trees.specs.declared.typed.KeyRef.TheVariants.{Item, Column}
use Rattle.typed_trees.specs.declared.typed.OrderKey.{OrderKey}
use Rattle.query_types.specs.Names.{Scope, column}
use Rattle.query_types.specs.Outcomes.{Outcome, refuse, refuse_if, and_then}

-- the places of a name among the output names, the k-th first
abbrev pub places_named : List ℕ → ℕ → List (List ℕ) → List ℕ
places_named name k [] = []
places_named name k (n ∷ ns) = if bytes_eq n name then k ∷ places_named name (suc k) ns else places_named name (suc k) ns

-- An integer is an item's place, from 1.
abbrev pub by_place : ℕ → ℕ → ℕ → Outcome KeyRef
by_place at items p = refuse_if (not (nat_lt 0 p && nat_le p items)) UnknownColumn at (Ok (Item (p - 1)))

unfoldable pub by_column : Scope → ColumnName → Outcome KeyRef
by_column s c = and_then (column s c) (λ f. Ok (Column f.column))

-- A bare name is the one item of that output name, or else a column of FROM.
abbrev pub by_item : Scope → ColumnName → List ℕ → Outcome KeyRef
by_item s c [] = by_column s c
by_item s c (k ∷ []) = Ok (Item k)
by_item s c (k ∷ l ∷ more) = refuse Ambiguous c.at

unfoldable pub by_bare : Scope → List (List ℕ) → ColumnName → Outcome KeyRef
by_bare s names c = by_item s c (places_named c.name 0 names)

abbrev pub by_name : Scope → List (List ℕ) → ColumnName → Option (List ℕ) → Outcome KeyRef
by_name s names c None = by_bare s names c
by_name s names c (Some table) = by_column s c

abbrev pub key_ref : Scope → List (List ℕ) → ℕ → SortBy → Outcome KeyRef
key_ref s names at (by.Place p) = by_place at (length names) p
key_ref s names at (by.Column c) = by_name s names c c.table

abbrev pub is_descending : Direction → Bool
is_descending Ascending = false
is_descending Descending = true

abbrev pub order_key : Direction → KeyRef → OrderKey
order_key direction key = record { key = key; descending = is_descending direction }

-- those keys after these, at most eight
abbrev pub keys : Scope → List (List ℕ) → List OrderKey → List SortKey → Outcome (List OrderKey)
keys s names before [] = Ok before
keys s names before (k ∷ ks) =
    refuse_if (nat_le 8 (length before)) TooManyKeys k.at
    (and_then (key_ref s names k.at k.by) (λ r. keys s names (before ++ order_key k.direction r ∷ []) ks))

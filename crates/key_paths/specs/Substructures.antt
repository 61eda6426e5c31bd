-- What stands at or below a path, and the order of paths.
use Rattle.std.specs.Prelude.{◌≡◌, ℕ, ◌&&◌, ◌||◌, Bool, true, List, [], ◌∷◌, length, drop, nat_eq}
use Rattle.std.specs.List.{starts_with, AllPairs}
use Rattle.std.specs.Str.{bytes_eq}
use Rattle.std.specs.Ordering.{nat_cmp, is_lt}
use Rattle.std.specs.Cmp.Lexicographic.{slice_cmp}
use Rattle.key_paths.specs.Paths.{is_dot}

-- the root's text
abbrev pub is_root : List ℕ → Bool
is_root text = bytes_eq text (46 ∷ [])

-- a text ends, or goes on with a segment's dot
abbrev pub begins_segment_or_ends : List ℕ → Bool
begins_segment_or_ends [] = true
begins_segment_or_ends (byte ∷ bytes) = is_dot byte

-- whether a path stands at or below another: its segments begin with that one's
abbrev pub is_at_or_below : List ℕ → List ℕ → Bool
is_at_or_below path above =
    is_root above || (starts_with nat_eq path above && begins_segment_or_ends (drop (length above) path))

-- whether a path comes before another, by bytes
abbrev pub is_before : List ℕ → List ℕ → Bool
is_before p q = is_lt (slice_cmp nat_cmp p q)

-- paths in strictly ascending order
abbrev pub IsAscending : List (List ℕ) → Type 0
IsAscending paths = AllPairs (λ p q. is_before p q ≡ true) paths

-- The order of texts: by their bytes. The first byte that differs decides, and a text is below each longer one that begins with it.
-- After SQL-92 (ISO/IEC 9075:1992), 8.2, general rule 3, where the collation is that of the bytes and no pad character is added.
use Rattle.std.specs.Prelude.{ℕ, Bool, List}
use Rattle.std.specs.declared.cmp.Ordering.{Ordering}
use Rattle.std.specs.Ordering.{is_lt, nat_cmp}
use Rattle.std.specs.Cmp.Lexicographic.{slice_cmp}

abbrev pub by_bytes : List ℕ → List ℕ → Ordering
by_bytes = slice_cmp nat_cmp

abbrev pub is_below : List ℕ → List ℕ → Bool
is_below a b = is_lt (by_bytes a b)

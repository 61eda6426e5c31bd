-- The lines of a text, and what stands in one: a word, blanks, and a value (this project's own).
use Rattle.std.specs.Prelude.{◌≡◌, ℕ, ◌-◌, ◌==◌, Bool, true, ◌||◌, ◌⊎◌, List, [], ◌∷◌, length, take, drop}
use Rattle.std.specs.List.{before_first, position_or_len, prefix_len, slice_split, suffix_len}
use Rattle.std.specs.Str.Lines.{strip_carriage_return}

abbrev pub Bytes : Type 0
Bytes = List ℕ

abbrev pub is_feed : ℕ → Bool
is_feed b = b == 10

-- a space or a tab
abbrev pub is_blank : ℕ → Bool
is_blank b = b == 32 || b == 9

-- what stands between line feeds
abbrev pub lines : Bytes → List Bytes
lines = slice_split is_feed

-- the first line, and what stands behind it: where that line is the last one, nothing
abbrev pub IsFirstLine : Bytes → Bytes → Bytes → Type 0
IsFirstLine bytes line others = (lines bytes ≡ line ∷ lines others) ⊎ ((lines bytes ≡ line ∷ []) × (others ≡ []))

-- what stands behind the blanks at the front, and before those at the end
abbrev pub behind_blanks : Bytes → Bytes
behind_blanks line = drop (prefix_len is_blank line) line

abbrev pub before_blanks : Bytes → Bytes
before_blanks line = take (length line - suffix_len is_blank line) line

-- a line without one carriage return at its end, and then without blanks at its ends
abbrev pub trimmed : Bytes → Bytes
trimmed line = before_blanks (behind_blanks (strip_carriage_return line))

-- an empty line says nothing, and neither does a comment, which begins with `#`
abbrev pub says_nothing : Bytes → Bool
says_nothing [] = true
says_nothing (b ∷ line) = b == 35

-- the word is what stands before the first blank, and the value what stands behind the blanks there
abbrev pub word_in : Bytes → Bytes
word_in line = before_first is_blank line

abbrev pub value_in : Bytes → Bytes
value_in line = behind_blanks (drop (position_or_len is_blank line) line)

-- The texts that are paths, and the first fault of a text that is none (the Voodoo paper, section 2).
use Rattle.std.specs.Prelude.{◌≡◌, ℕ, ◌+◌, ◌<◌, ◌≤◌, ◌==◌, ◌&&◌, ◌||◌, Bool, true, false, not, nat_le, if◌then◌else◌, List, [], ◌∷◌, ◌++◌, length, take, drop, slice_get}
use Rattle.std.specs.Prelude.{Option, Some, None, ⊤}
use Rattle.std.specs.List.{list_all, slice_split, suffix_len}
use Rattle.std.specs.Str.{bytes_eq}
use Rattle.std.specs.Char.{is_ascii_alphabetic, is_ascii_alphanumeric}
use Rattle.key_paths.specs.declared.refusal.PathKind.{PathKind}
use Rattle.key_paths.specs.declared.refusal.PathKind.TheVariants.{NoDot, EmptySegment, SegmentTooLong, TooDeep, BadByte}
use Rattle.key_paths.specs.declared.refusal.PathRefusal.{PathRefusal}
use Rattle.key_paths.specs.declared.refusal.PathRefusal.TheVariants.{Bad, NoMemory}

-- the byte `.`, and `_`
abbrev pub is_dot : ℕ → Bool
is_dot byte = byte == 46

abbrev pub is_underscore : ℕ → Bool
is_underscore byte = byte == 95

-- the bytes that may begin a segment, and those that may follow
abbrev pub begins_segment : ℕ → Bool
begins_segment byte = is_ascii_alphabetic byte || is_underscore byte

abbrev pub is_in_segment : ℕ → Bool
is_in_segment byte = is_ascii_alphanumeric byte || is_underscore byte

-- a segment: a letter or `_`, then letters, digits and `_`, at most 64 bytes
abbrev pub is_segment : List ℕ → Bool
is_segment [] = false
is_segment (first ∷ others) = begins_segment first && (list_all is_in_segment others && nat_le (length others) 63)

-- segments, each after a dot
abbrev pub dotted_text : List (List ℕ) → List ℕ
dotted_text [] = []
dotted_text (segment ∷ segments) = 46 ∷ (segment ++ dotted_text segments)

-- the text of a path of such segments: that of none is `.`, the root
abbrev pub path_text : List (List ℕ) → List ℕ
path_text [] = 46 ∷ []
path_text (segment ∷ segments) = dotted_text (segment ∷ segments)

-- a text that is a path, of 0 to 8 segments
pub record IsPath (text : List ℕ) : Type 0 where
  pub segments : List (List ℕ)
  pub few : length segments ≤ 8
  pub each : list_all is_segment segments ≡ true
  pub is : text ≡ path_text segments

-- the segments that a path's text would have: what stands between its dots, and no segment in `.`
abbrev pub nonempty_tail : List (List ℕ) → List (List ℕ)
nonempty_tail ([] ∷ [] ∷ []) = []
nonempty_tail parts = drop 1 parts

abbrev pub segments_of : List ℕ → List (List ℕ)
segments_of text = nonempty_tail (slice_split is_dot text)

-- whether a text is a path, by those segments
unfoldable pub is_path : List ℕ → Bool
is_path text =
    let segments = segments_of text in
    nat_le (length segments) 8 && (list_all is_segment segments && bytes_eq text (path_text segments))

-- a text with which some path begins
pub record BeginsPath (text : List ℕ) : Type 0 where
  pub rest : List ℕ
  pub path : IsPath (text ++ rest)

-- how many bytes a text has after its last dot
abbrev pub last_width : List ℕ → ℕ
last_width text = suffix_len (λ byte. not (is_dot byte)) text

-- a dot stands next, or the text ends
abbrev pub is_dot_or_end : Option ℕ → Bool
is_dot_or_end None = true
is_dot_or_end (Some byte) = is_dot byte

-- what is wrong with what stands next, after so many bytes of a segment
abbrev pub kind_inside : ℕ → Option ℕ → PathKind
kind_inside width None = EmptySegment
kind_inside width (Some byte) =
    if is_dot byte then (if width == 0 then EmptySegment else TooDeep)
    else if is_in_segment byte && (width == 64) then SegmentTooLong
    else BadByte

-- what is wrong with what stands next, after bytes with which a path begins
abbrev pub kind_after : List ℕ → Option ℕ → PathKind
kind_after [] next = NoDot
kind_after (byte ∷ bytes) next = kind_inside (last_width (byte ∷ bytes)) next

-- the first fault of a text: the first byte at which it stops being the beginning of a path, or its length
pub record IsFault (text : List ℕ) (at : ℕ) (kind : PathKind) : Type 0 where
  pub none : ¬ IsPath text
  pub within : at ≤ length text
  pub begins : BeginsPath (take at text)
  pub stops : at < length text → ¬ BeginsPath (take (at + 1) text)
  pub kind_is : kind ≡ kind_after (take at text) (slice_get text at)

-- what a refusal says of a text
abbrev pub Refuses : List ℕ → PathRefusal → Type 0
Refuses text (Bad at kind) = IsFault text at kind
Refuses text NoMemory = ⊤

-- What stands at the front of a line where no blank does: the longest token.
use Rattle.std.specs.Prelude.{ℕ, ◌+◌, ◌==◌, ◌&&◌, ◌||◌, Bool, true, false, nat_le, if◌then◌else◌, [], ◌∷◌, take, drop, slice_index}
use Rattle.std.specs.Char.{is_ascii_digit}
use Rattle.std.specs.List.{prefix_len}
use Rattle.key_paths.specs.Paths.{is_dot, begins_segment, is_in_segment, is_path}
use Rattle.voodoo_text.specs.declared.kind.Kind.{Kind}
use Rattle.voodoo_text.specs.declared.kind.Kind.TheVariants as k
use Rattle.voodoo_text.specs.declared.lexis.Piece.{Piece}
use Rattle.voodoo_text.specs.Values.{Bytes}

-- space, tab, carriage return
abbrev pub is_blank : ℕ → Bool
is_blank b = b == 32 || (b == 9 || b == 13)

abbrev pub piece : Kind → ℕ → Piece
piece kind len = record { kind = kind; len = len }

-- a name has the form of a path's segment: a letter or `_`, then letters, digits and `_`, at most 64 bytes
abbrev pub name : Bytes → Piece
name z = let len = prefix_len is_in_segment z in piece (if nat_le len 64 then k.Name else k.Bad) len

abbrev pub begins_name : Bytes → Bool
begins_name [] = false
begins_name (b ∷ z) = begins_segment b

-- a byte goes on a path where it is one of a segment, or a dot that a segment follows
abbrev pub goes_on : ℕ → Bytes → Bool
goes_on b others = is_in_segment b || (is_dot b && begins_name others)

abbrev pub inner_len : Bytes → ℕ
inner_len [] = 0
inner_len (b ∷ z) = if goes_on b z then inner_len z + 1 else 0

-- after a path's first dot; a dot that no segment follows is the root
abbrev pub after_dot_len : Bytes → ℕ
after_dot_len z = if begins_name z then inner_len z else 0

-- a path, and a path that directly follows a name
abbrev pub path_kind : Bool → Kind
path_kind true = k.Attached
path_kind false = k.Path

abbrev pub path : Bool → Bytes → Piece
path after_name z =
    let len = after_dot_len (drop 1 z) + 1 in
    piece (if is_path (take len z) then path_kind after_name else k.Bad) len

abbrev pub begins_digits : Bytes → Bool
begins_digits [] = false
begins_digits (b ∷ z) = is_ascii_digit b

abbrev pub digits : Bytes → Piece
digits z = piece k.Number (prefix_len is_ascii_digit z)

-- the sign of a number, or a sign alone
abbrev pub minus : Bytes → Piece
minus z = if begins_digits (drop 1 z) then piece k.Number (prefix_len is_ascii_digit (drop 1 z) + 1) else piece k.Minus 1

-- = ( ) , +
unfoldable pub sign : ℕ → Kind
sign b =
    if b == 61 then k.Equal else if b == 40 then k.Open else if b == 41 then k.Close
    else if b == 44 then k.Comma else if b == 43 then k.Plus else k.Bad

-- by the first byte
unfoldable pub front : Bool → Bytes → Piece
front after_name z =
    let b = slice_index z 0 in
    if begins_segment b then name z
    else if is_dot b then path after_name z
    else if is_ascii_digit b then digits z
    else if b == 45 then minus z
    else piece (sign b) 1

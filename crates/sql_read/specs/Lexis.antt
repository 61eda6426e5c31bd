-- What stands at the front of an SQL text: a token, blanks or a comment. The longest is taken.
-- After SQL-92 (ISO/IEC 9075:1992), 5.2 <token> and <separator>, with words of ASCII letters, digits and underscores.
use Rattle.std.specs.Prelude.{◌≤◌, ◌≡◌, ℕ, ◌+◌, ◌-◌, ◌*◌, Bool, true, false, not, ◌&&◌, ◌||◌, if◌then◌else◌, ◌==◌, nat_le, nat_lt, List, [], ◌∷◌, ◌++◌, length, take, drop, fold, slice_index, Option, Some, None}
use Rattle.std.specs.Char.{is_ascii_digit, is_ascii_alphanumeric, is_ascii_alphabetic}
use Rattle.std.specs.List.{prefix_len}
use Rattle.std.specs.Str.{str_eq_ignore_ascii_case}
use Rattle.sql_read.specs.declared.kind.Kind.{Kind}
use Rattle.sql_read.specs.declared.kind.Kind.TheVariants as k
use Rattle.sql_read.specs.declared.lexis.Class.{Class}
use Rattle.sql_read.specs.declared.lexis.Class.TheVariants as class
use Rattle.sql_read.specs.declared.lexis.Piece.{Piece}
use Rattle.sql_read.specs.Reserved.{reserved_words}

abbrev pub Bytes : Type 0
Bytes = List ℕ

-- space, tab, carriage return, line feed; digits; what a word goes on with; all but a line feed
abbrev pub is_in : Class → ℕ → Bool
is_in class.Blank b = b == 32 || b == 9 || b == 13 || b == 10
is_in class.Digit b = is_ascii_digit b
is_in class.Word b = is_ascii_alphanumeric b || b == 95
is_in class.Line b = not (b == 10)

-- how many bytes at the front are of the class
abbrev pub run_len : Class → Bytes → ℕ
run_len c z = prefix_len (is_in c) z

abbrev pub lookup : List (Bytes × Kind) → Bytes → Kind
lookup [] word = k.Name
lookup (r ∷ rs) word = if str_eq_ignore_ascii_case r.0 word then r.1 else lookup rs word

-- a reserved word, in upper or lower case, or a name
unfoldable pub word_kind : Bytes → Kind
word_kind = lookup reserved_words

-- a piece without a value
abbrev pub plain : Kind → ℕ → Piece
plain kind len = record { kind = kind; len = len; value = 0; scale = 0 }

-- a word of more than 64 bytes is none
abbrev pub word : Bytes → Piece
word z = let len = run_len class.Word z in plain (if nat_lt 64 len then k.BadToken else word_kind (take len z)) len

-- the value of a number's digits with these behind it
abbrev pub digits_after : ℕ → Bytes → ℕ
digits_after start digits = fold (λ n b. 10 * n + (b - 48)) start digits

-- the value of decimal digits
abbrev pub decimal : Bytes → ℕ
decimal digits = digits_after 0 digits

-- 2^127 - 1
abbrev pub max_integer : ℕ
max_integer = 170141183460469231731687303715884105727

abbrev pub if_within : ℕ → Option ℕ
if_within n = if nat_le n max_integer then Some n else None

abbrev pub continued : ℕ → Bytes → Option ℕ
continued start digits = if_within (digits_after start digits)

abbrev pub integer_within : Bytes → Option ℕ
integer_within digits = if_within (decimal digits)

-- a number of this scale, where it is no greater than a number may be
abbrev pub valued : Kind → ℕ → ℕ → Option ℕ → Piece
valued kind len scale None = plain k.TooWide len
valued kind len scale (Some n) = record { kind = kind; len = len; value = n; scale = scale }

-- how many digits may stand after a point
abbrev pub max_scale : ℕ
max_scale = 18

-- a number with a point behind so many digits: its value is that of all its digits, without the point
abbrev pub fraction : ℕ → Bytes → Piece
fraction whole z =
    let rest = drop (whole + 1) z in
    let scale = run_len class.Digit rest in
    let len = whole + 1 + scale in
    if nat_lt max_scale scale then plain k.TooWide len else valued k.Fraction len scale (integer_within (take whole z ++ take scale rest))

-- behind so many digits a point and a digit
abbrev pub has_fraction : ℕ → Bytes → Bool
has_fraction whole z = slice_index z whole == 46 && is_ascii_digit (slice_index z (whole + 1))

-- digits, or digits with a point between them
abbrev pub number : Bytes → Piece
number z = let whole = run_len class.Digit z in if has_fraction whole z then fraction whole z else valued k.Digits whole 0 (integer_within (take whole z))

-- The length of a text literal after its first quote, with the quote that closes it. Two quotes in a row are one quote of the text.
-- The flag says that the quote before is the first of two.
abbrev pub closing : Bool → ℕ → Bytes → Option ℕ
closing is_second at [] = None
closing true at (b ∷ z) = closing false (at + 1) z
closing false at (b ∷ z) = if b == 39 && not (slice_index z 0 == 39) then Some (at + 1) else closing (b == 39) (at + 1) z

-- what is not closed is bad, to the end
abbrev pub closed : ℕ → Option ℕ → Piece
closed len None = plain k.BadToken len
closed len (Some end) = plain k.Quoted end

abbrev pub quoted : Bytes → Piece
quoted z = closed (length z) (closing false 1 (drop 1 z))

-- one byte long, or two where there is a second
abbrev pub IsShort : ℕ → ℕ → Type 0
IsShort second len = (1 ≤ len) × (len ≤ 2) × (second ≡ 0 → len ≡ 1)

-- ( ) , . ; * + - / = <> < <= > >=
unfoldable pub sign : ℕ → ℕ → Piece
sign b second =
    if b == 40 then plain k.OpenParen 1 else (if b == 41 then plain k.CloseParen 1 else (if b == 44 then plain k.Comma 1 else (if b == 46 then plain k.Dot 1
    else (if b == 59 then plain k.Semicolon 1 else (if b == 42 then plain k.Star 1 else (if b == 43 then plain k.Plus 1 else (if b == 45 then plain k.Minus 1
    else (if b == 47 then plain k.Slash 1 else (if b == 61 then plain k.Equal 1
    else (if b == 60 then (if second == 62 then plain k.Differs 2 else (if second == 61 then plain k.LessEqual 2 else plain k.Less 1))
    else (if b == 62 then (if second == 61 then plain k.GreaterEqual 2 else plain k.Greater 1)
    else plain k.BadToken 1)))))))))))

-- what stands at the front, by its first byte; `--` begins a comment to the line's end
unfoldable pub front : Bytes → Piece
front z =
    let b = slice_index z 0 in
    if is_in class.Blank b then plain k.Blank (1 + run_len class.Blank (drop 1 z))
    else (if b == 45 && slice_index z 1 == 45 then plain k.Blank (1 + run_len class.Line (drop 1 z))
    else (if is_ascii_alphabetic b then word z
    else (if is_ascii_digit b then number z
    else (if b == 39 then quoted z
    else sign b (slice_index z 1)))))

-- Dates and numbers of days in text literals, and what a step makes of a date.
-- After SQL-92 (ISO/IEC 9075:1992), 5.3 <date literal> and <interval literal>, with days alone, and 6.14 <datetime value expression>.
use Rattle.std.specs.Prelude.{ℕ, ◌==◌, ◌&&◌, Bool, not, if◌then◌else◌, nat_le, [], ◌∷◌, length, ℤ, pos, ◌+ℤ◌, ◌-ℤ◌, neg_ℤ, Option, Some, None, is_none, unwrap_or}
use Rattle.std.specs.Char.{is_ascii_digit}
use Rattle.std.specs.List.{list_all}
use Rattle.std.specs.Option.{option_map}
use Rattle.civil_days.specs.Dates.{day_number, in_range}
use Rattle.sql_read.specs.declared.token_list.Token.{Token}
use Rattle.sql_read.specs.Lexis.{Bytes, decimal}
use Rattle.query_trees.specs.declared.expr.Sign.{Sign}
use Rattle.query_trees.specs.declared.expr.Sign.TheVariants as sign
use Rattle.query_read.specs.Literals.{inner}
use Rattle.query_read.specs.Asked.{Asked}

-- one to seven digits
abbrev pub has_span_form : Bytes → Bool
has_span_form z = nat_le 1 (length z) && nat_le (length z) 7 && list_all is_ascii_digit z

abbrev pub digits_value : Bytes → Option ℕ
digits_value z = if has_span_form z then Some (decimal z) else None

-- one to seven digits, perhaps after a sign
abbrev pub span_number : Bytes → Option ℤ
span_number [] = None
span_number (b ∷ z) = if b == 43 then option_map pos (digits_value z) else (if b == 45 then option_map (λ n. neg_ℤ (pos n)) (digits_value z) else option_map pos (digits_value (b ∷ z)))

-- the day of a DATE's text, and the days of an INTERVAL's; 0 where the text is none
abbrev pub day_at : Bytes → Token → ℤ
day_at text t = unwrap_or (day_number (inner text t)) (pos 0)

abbrev pub span_at : Bytes → Token → ℤ
span_at text t = unwrap_or (span_number (inner text t)) (pos 0)

-- the day after a step
abbrev pub moved : Sign → ℤ → ℤ → ℤ
moved sign.Plus days day = day +ℤ days
moved sign.Minus days day = day -ℤ days

abbrev pub no_date : Asked → Bytes → Token → Bool
no_date m text t = m.dates && is_none (day_number (inner text t))

abbrev pub no_span : Asked → Bytes → Token → Bool
no_span m text t = m.spans && is_none (span_number (inner text t))

-- whatever the token
abbrev pub leaves : Asked → ℤ → Token → Bool
leaves m day t = m.ranges && not (in_range day)

-- A date's text is read as its day, and a text that is a date is that of its day.
use Rattle.std.proofs.Common.{◌≡◌, ◌∙◌, ℕ, ◌+◌, ◌-◌, ◌*◌, ◌/◌, ◌%◌, ◌<◌, ◌≤◌, Bool, true, false, if◌then◌else◌, ℤ, pos, negsuc, List, [], ◌∷◌, Some, None, refl, sym, ap, arith}
use Rattle.std.specs.Char.{is_ascii_digit}
use Rattle.std.proofs.lemmas.Bool.{and_from, false≢true, le-leb}
use Rattle.std.proofs.lemmas.Bool.Decides.{nat_tests}
use Rattle.jiff_core.specs.Calendar.{days_from_civil, day_count, IsCivilDate}
use Rattle.jiff_core.proofs.CalendarLemmas.{days_from_civil-day_count, days_in_month_bounds, day_count-end}
use Rattle.jiff_core.proofs.SignedLemmas.{signed_arith}
use Rattle.civil_days.specs.Dates.{has_date_form, two_digits_at, is_civil_date, day_of_civil, day_number}
use Rattle.typed_trees.proofs.Inversions.{some_same}
use Rattle.answer_texts.specs.Dates.{civil_text, date_text}
use Rattle.answer_texts.specs.DateLaws.{EveryDay, PrintedDate}
use Rattle.answer_texts.proofs.Days.{date_is, HasDate, in_years, first_count}

-- ---- a text of the form of a date

digit : (c : ℕ) → is_ascii_digit c ≡ true → (48 ≤ c) × (c ≤ 57)
digit c h = (grind (arith, nat_tests), grind (arith, nat_tests))

record Digits (a b c d f g i j e h : ℕ) : Type 0 where
  first : is_ascii_digit a ≡ true
  second : is_ascii_digit b ≡ true
  third : is_ascii_digit c ≡ true
  fourth : is_ascii_digit d ≡ true
  fifth : is_ascii_digit f ≡ true
  sixth : is_ascii_digit g ≡ true
  seventh : is_ascii_digit i ≡ true
  eighth : is_ascii_digit j ≡ true
  dash : e ≡ 45
  other : h ≡ 45

digits_of : (a b c d e f g h i j : ℕ) → has_date_form (a ∷ b ∷ c ∷ d ∷ e ∷ f ∷ g ∷ h ∷ i ∷ j ∷ []) ≡ true → Digits a b c d f g i j e h
digits_of a b c d e f g h i j form = record {
  first = grind (arith, nat_tests);
  second = grind (arith, nat_tests);
  third = grind (arith, nat_tests);
  fourth = grind (arith, nat_tests);
  fifth = grind (arith, nat_tests);
  sixth = grind (arith, nat_tests);
  seventh = grind (arith, nat_tests);
  eighth = grind (arith, nat_tests);
  dash = grind (arith, nat_tests);
  other = grind (arith, nat_tests);
}

spelled : (a b c d e f g h i j : ℕ) → Digits a b c d f g i j e h
    → civil_text (((a - 48) * 10 + (b - 48)) * 100 + ((c - 48) * 10 + (d - 48))) ((f - 48) * 10 + (g - 48)) ((i - 48) * 10 + (j - 48)) ≡ a ∷ b ∷ c ∷ d ∷ e ∷ f ∷ g ∷ h ∷ i ∷ j ∷ []
spelled a b c d e f g h i j n =
    let da = digit a n.first in
    let db = digit b n.second in
    let dc = digit c n.third in
    let dd = digit d n.fourth in
    let df = digit f n.fifth in
    let dg = digit g n.sixth in
    let di = digit i n.seventh in
    let dj = digit j n.eighth in
    let y = ((a - 48) * 10 + (b - 48)) * 100 + ((c - 48) * 10 + (d - 48)) in
    let ya : 48 + y / 10 / 10 / 10 % 10 ≡ a = omega (arith, da, db, dc, dd) in
    let yb : 48 + y / 10 / 10 % 10 ≡ b = omega (arith, da, db, dc, dd) in
    let yc : 48 + y / 10 % 10 ≡ c = omega (arith, da, db, dc, dd) in
    let yd : 48 + y % 10 ≡ d = omega (arith, da, db, dc, dd) in
    let mf : 48 + ((f - 48) * 10 + (g - 48)) / 10 % 10 ≡ f = omega (arith, df, dg) in
    let mg : 48 + ((f - 48) * 10 + (g - 48)) % 10 ≡ g = omega (arith, df, dg) in
    let ni : 48 + ((i - 48) * 10 + (j - 48)) / 10 % 10 ≡ i = omega (arith, di, dj) in
    let nj : 48 + ((i - 48) * 10 + (j - 48)) % 10 ≡ j = omega (arith, di, dj) in
    let dash = sym n.dash in
    let other = sym n.other in
    λ k. ya k ∷ yb k ∷ yc k ∷ yd k ∷ dash k ∷ mf k ∷ mg k ∷ other k ∷ ni k ∷ nj k ∷ []

form_text : (z : List ℕ) → has_date_form z ≡ true → civil_text (two_digits_at z 0 * 100 + two_digits_at z 2) (two_digits_at z 5) (two_digits_at z 8) ≡ z
form_text (a ∷ b ∷ c ∷ d ∷ e ∷ f ∷ g ∷ h ∷ i ∷ j ∷ []) form = spelled a b c d e f g h i j (digits_of a b c d e f g h i j form)
form_text [] form = absurd (false≢true form)
form_text (a ∷ []) form = absurd (false≢true form)
form_text (a ∷ b ∷ []) form = absurd (false≢true form)
form_text (a ∷ b ∷ c ∷ []) form = absurd (false≢true form)
form_text (a ∷ b ∷ c ∷ d ∷ []) form = absurd (false≢true form)
form_text (a ∷ b ∷ c ∷ d ∷ e ∷ []) form = absurd (false≢true form)
form_text (a ∷ b ∷ c ∷ d ∷ e ∷ f ∷ []) form = absurd (false≢true form)
form_text (a ∷ b ∷ c ∷ d ∷ e ∷ f ∷ g ∷ []) form = absurd (false≢true form)
form_text (a ∷ b ∷ c ∷ d ∷ e ∷ f ∷ g ∷ h ∷ []) form = absurd (false≢true form)
form_text (a ∷ b ∷ c ∷ d ∷ e ∷ f ∷ g ∷ h ∷ i ∷ []) form = absurd (false≢true form)
form_text (a ∷ b ∷ c ∷ d ∷ e ∷ f ∷ g ∷ h ∷ i ∷ j ∷ k ∷ rest) form = absurd (grind (arith, nat_tests, form))

-- the year of such a text has four digits
short_year : (z : List ℕ) → has_date_form z ≡ true → two_digits_at z 0 * 100 + two_digits_at z 2 ≤ 9999
short_year (a ∷ b ∷ c ∷ d ∷ e ∷ f ∷ g ∷ h ∷ i ∷ j ∷ []) form =
    let n = digits_of a b c d e f g h i j form in
    omega (arith, digit a n.first, digit b n.second, digit c n.third, digit d n.fourth)
short_year [] form = absurd (false≢true form)
short_year (a ∷ []) form = absurd (false≢true form)
short_year (a ∷ b ∷ []) form = absurd (false≢true form)
short_year (a ∷ b ∷ c ∷ []) form = absurd (false≢true form)
short_year (a ∷ b ∷ c ∷ d ∷ []) form = absurd (false≢true form)
short_year (a ∷ b ∷ c ∷ d ∷ e ∷ []) form = absurd (false≢true form)
short_year (a ∷ b ∷ c ∷ d ∷ e ∷ f ∷ []) form = absurd (false≢true form)
short_year (a ∷ b ∷ c ∷ d ∷ e ∷ f ∷ g ∷ []) form = absurd (false≢true form)
short_year (a ∷ b ∷ c ∷ d ∷ e ∷ f ∷ g ∷ h ∷ []) form = absurd (false≢true form)
short_year (a ∷ b ∷ c ∷ d ∷ e ∷ f ∷ g ∷ h ∷ i ∷ []) form = absurd (false≢true form)
short_year (a ∷ b ∷ c ∷ d ∷ e ∷ f ∷ g ∷ h ∷ i ∷ j ∷ k ∷ rest) form = absurd (grind (arith, nat_tests, form))

-- ---- dates of the calendar

civil_of : (y m d : ℕ) → y ≤ 9999 → is_civil_date y m d ≡ true → (1 ≤ y) × IsCivilDate (pos y) m d
civil_of y m d h is = (grind (arith, nat_tests), ((omega (arith, signed_arith), omega (arith, signed_arith)), (grind (arith, nat_tests), grind (arith, nat_tests)), (grind (arith, nat_tests), grind (arith, nat_tests))))

of_civil : (y m d : ℕ) → 1 ≤ y → IsCivilDate (pos y) m d → is_civil_date y m d ≡ true
of_civil y m d low h = and_from _ _ (and_from _ _ (and_from _ _ (and_from _ _ (le-leb 1 y low) (le-leb 1 m h.1.0)) (le-leb m 12 h.1.1)) (le-leb 1 d h.2.0)) (le-leb d _ h.2.1)

-- ---- a date is printed as it is read

pub printed : PrintedDate
printed z day e = by (has_date_form z) refl e
  where
    y : ℕ
    y = two_digits_at z 0 * 100 + two_digits_at z 2

    m : ℕ
    m = two_digits_at z 5

    d : ℕ
    d = two_digits_at z 8

    dated : (c : Bool) → is_civil_date y m d ≡ c → has_date_form z ≡ true → (if c then Some (days_from_civil (pos y) m d) else None) ≡ Some day → date_text day ≡ z
    dated false is form e = absurd cc
    dated true is form e =
        let short = short_year z form in
        let civil = civil_of y m d short is in
        ap date_text (sym (some_same (days_from_civil (pos y) m d) day e)) ∙ date_is y m d civil.0 short civil.1 ∙ form_text z form

    by : (b : Bool) → has_date_form z ≡ b → (if b then day_of_civil y m d else None) ≡ Some day → date_text day ≡ z
    by false form e = absurd cc
    by true form e = dated (is_civil_date y m d) refl form e

-- ---- and read as it is printed

is_digit : (n : ℕ) → is_ascii_digit (48 + n % 10) ≡ true
is_digit n = grind (arith, nat_tests)

read_again : (y m d : ℕ) → 1 ≤ y → y ≤ 9999 → IsCivilDate (pos y) m d → day_number (civil_text y m d) ≡ Some (days_from_civil (pos y) m d)
read_again y m d low high h =
    let years = and_from _ _ (and_from _ _ (and_from _ _ (is_digit (y / 10 / 10 / 10)) (is_digit (y / 10 / 10))) (is_digit (y / 10))) (is_digit y) in
    let dashed = and_from _ _ years refl in
    let months = and_from _ _ (and_from _ _ dashed (is_digit (m / 10))) (is_digit m) in
    let twice = and_from _ _ months refl in
    let form : has_date_form (civil_text y m d) ≡ true = and_from _ _ (and_from _ _ twice (is_digit (d / 10))) (is_digit d) in
    let year : two_digits_at (civil_text y m d) 0 * 100 + two_digits_at (civil_text y m d) 2 ≡ y = omega (arith, high) in
    let month : two_digits_at (civil_text y m d) 5 ≡ m = omega (arith, h.1.1) in
    let day : two_digits_at (civil_text y m d) 8 ≡ d = omega (arith, h.2.1, days_in_month_bounds (pos y) m) in
    ap (λ b. if b then day_of_civil (two_digits_at (civil_text y m d) 0 * 100 + two_digits_at (civil_text y m d) 2) (two_digits_at (civil_text y m d) 5) (two_digits_at (civil_text y m d) 8) else None) form
    ∙ ap (λ k. day_of_civil k (two_digits_at (civil_text y m d) 5) (two_digits_at (civil_text y m d) 8)) year
    ∙ ap (λ k. day_of_civil y k (two_digits_at (civil_text y m d) 8)) month
    ∙ ap (day_of_civil y m) day
    ∙ ap (λ b. if b then Some (days_from_civil (pos y) m d) else None) (of_civil y m d low h)

day_read : (day : ℤ) (count : ℕ) → HasDate count → ((y m d : ℕ) → day_count (pos y) m d ≡ count → days_from_civil (pos y) m d ≡ day) → day_number (date_text day) ≡ Some day
day_read day count h same =
    let here = same h.year h.month h.day h.is in
    ap (λ k. day_number (date_text k)) (sym here)
    ∙ ap day_number (date_is h.year h.month h.day h.since h.until h.civil)
    ∙ read_again h.year h.month h.day h.since h.until h.civil
    ∙ ap Some here

pub every_day : EveryDay
every_day (pos n) h =
    let few : n ≤ 2_932_896 = grind (arith, nat_tests) in
    day_read (pos n) (n + 4_371_953) (in_years 9999 (n + 4_371_953) (omega arith) (omega (arith, first_count)) (omega (arith, few, day_count-end)))
    (λ y m d e. omega (arith, signed_arith, e, days_from_civil-day_count (pos y) m d))
every_day (negsuc n) h =
    let few : n < 719_162 = grind (arith, nat_tests) in
    day_read (negsuc n) (4_371_952 - n) (in_years 9999 (4_371_952 - n) (omega arith) (omega (arith, few, first_count)) (omega (arith, day_count-end)))
    (λ y m d e. omega (arith, signed_arith, e, few, days_from_civil-day_count (pos y) m d))

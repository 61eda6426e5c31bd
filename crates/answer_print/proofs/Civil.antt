-- The text of a day is that of its year, month and day.
use Rattle.std.proofs.Common.{◌≡◌, ◌∙◌, ℕ, zero, suc, ◌+◌, ◌*◌, ◌/◌, ◌%◌, ◌<◌, ◌≤◌, true, if◌then◌else◌, ℤ, pos, negsuc, Some, None, refl, ap, arith}
use Rattle.std.specs.Prelude.{unsigned_abs, ◌<ℤ◌}
use Rattle.std.specs.Char.{is_ascii_digit}
use Rattle.std.proofs.lemmas.Bool.{and_from, le-leb}
use Rattle.std.proofs.lemmas.Bool.Decides.{nat_tests}
use Rattle.jiff_core.specs.Calendar.{days_from_civil, day_count, IsCivilDate, IsEpochDay}
use Rattle.jiff_core.proofs.CalendarLemmas.{days_from_civil-day_count, days_in_month_bounds, day_count-lt_year}
use Rattle.jiff_core.proofs.MarchLemmas.{day_count-early}
use Rattle.jiff_core.proofs.SignedLemmas.{signed_arith}
use Rattle.civil_days.specs.Dates.{has_date_form, two_digits_at, is_civil_date, day_of_civil, day_number, in_range}
use Rattle.answer_texts.specs.Dates.{civil_text, date_text}
use Rattle.answer_texts.specs.DateLaws.{PrintedDate}

-- a day of the years 1 to 9999 has a date
pub epoch_day_in : (day : ℤ) → in_range day ≡ true → IsEpochDay day
epoch_day_in (pos n) h = let few : n ≤ 2_932_896 = grind (arith, nat_tests) in (omega (arith, signed_arith, few), omega (arith, signed_arith, few))
epoch_day_in (negsuc n) h = let few : n < 719_162 = grind (arith, nat_tests) in (omega (arith, signed_arith, few), omega (arith, signed_arith, few))

-- ---- and a year above 0

-- 0001-01-01
first_count : day_count (pos 1) 1 1 ≡ 3_652_791
first_count = day_count-early (pos 1) 10000 1 1 refl (omega arith) (omega arith) (omega arith)

too_early : (y : ℤ) (m d : ℕ) (day : ℤ) → IsCivilDate y m d → y <ℤ pos 1 → days_from_civil y m d ≡ day → in_range day ≡ true → ⊥
too_early y m d (pos n) h l e r = omega (arith, signed_arith, e, days_from_civil-day_count y m d, day_count-lt_year y m d (pos 1) 1 1 h (omega arith) l, first_count)
too_early y m d (negsuc n) h l e r =
    let few : n < 719_162 = grind (arith, nat_tests) in
    omega (arith, signed_arith, e, few, days_from_civil-day_count y m d, day_count-lt_year y m d (pos 1) 1 1 h (omega arith) l, first_count)

-- ---- its text is read as the day

is_digit : (n : ℕ) → is_ascii_digit (48 + n % 10) ≡ true
is_digit n = grind (arith, nat_tests)

civil_date : (y m d : ℕ) → 1 ≤ y → IsCivilDate (pos y) m d → is_civil_date y m d ≡ true
civil_date y m d low h = and_from _ _ (and_from _ _ (and_from _ _ (and_from _ _ (le-leb 1 y low) (le-leb 1 m h.1.0)) (le-leb m 12 h.1.1)) (le-leb 1 d h.2.0)) (le-leb d _ h.2.1)

read_again : (y m d : ℕ) → 1 ≤ y → IsCivilDate (pos y) m d → day_number (civil_text y m d) ≡ Some (days_from_civil (pos y) m d)
read_again y m d low h =
    let years = and_from _ _ (and_from _ _ (and_from _ _ (is_digit (y / 10 / 10 / 10)) (is_digit (y / 10 / 10))) (is_digit (y / 10))) (is_digit y) in
    let dashed = and_from _ _ years refl in
    let months = and_from _ _ (and_from _ _ dashed (is_digit (m / 10))) (is_digit m) in
    let twice = and_from _ _ months refl in
    let form : has_date_form (civil_text y m d) ≡ true = and_from _ _ (and_from _ _ twice (is_digit (d / 10))) (is_digit d) in
    let high : y ≤ 9999 = omega (arith, signed_arith, h.0.1) in
    let year : two_digits_at (civil_text y m d) 0 * 100 + two_digits_at (civil_text y m d) 2 ≡ y = omega (arith, high) in
    let month : two_digits_at (civil_text y m d) 5 ≡ m = omega (arith, h.1.1) in
    let day : two_digits_at (civil_text y m d) 8 ≡ d = omega (arith, h.2.1, days_in_month_bounds (pos y) m) in
    ap (λ b. if b then day_of_civil (two_digits_at (civil_text y m d) 0 * 100 + two_digits_at (civil_text y m d) 2) (two_digits_at (civil_text y m d) 5) (two_digits_at (civil_text y m d) 8) else None) form
    ∙ ap (λ k. day_of_civil k (two_digits_at (civil_text y m d) 5) (two_digits_at (civil_text y m d) 8)) year
    ∙ ap (λ k. day_of_civil y k (two_digits_at (civil_text y m d) 8)) month
    ∙ ap (day_of_civil y m) day
    ∙ ap (λ b. if b then Some (days_from_civil (pos y) m d) else None) (civil_date y m d low h)

pub dated : PrintedDate → (y : ℤ) (m d : ℕ) (day : ℤ) → IsCivilDate y m d → days_from_civil y m d ≡ day → in_range day ≡ true → date_text day ≡ civil_text (unsigned_abs y) m d
dated printed (pos zero) m d day h e r = absurd (too_early (pos zero) m d day h (omega (arith, signed_arith)) e r)
dated printed (pos (suc n)) m d day h e r = printed (civil_text (suc n) m d) day (read_again (suc n) m d (omega arith) h ∙ ap Some e)
dated printed (negsuc n) m d day h e r = absurd (too_early (negsuc n) m d day h (omega (arith, signed_arith)) e r)

-- The day numbers of dates lie from 0001-01-01 to 9999-12-31.
use Rattle.std.proofs.Common.{◌≡◌, ℕ, ◌+◌, ◌*◌, ◌<◌, ◌≤◌, ℤ, pos, negsuc, int_le, ◌≤ℤ◌, ◌<ℤ◌, List, true, false, ◌&&◌, Some, refl, sym, subst, arith, inl, inr, ◌⊎◌}
use Rattle.std.specs.Prelude.{nat_le}
use Rattle.std.proofs.lemmas.Bool.{and_parts, cases_Bool, cases_lt}
use Rattle.std.proofs.lemmas.Bool.Decides.{nat_tests}
use Rattle.jiff_core.specs.Calendar.{day_count, days_from_civil, days_in_month, IsCivilDate}
use Rattle.jiff_core.proofs.CalendarLemmas.{day_count-day, day_count-lt_month, day_count-lt_year, day_count_bounds, days_from_civil-day_count}
use Rattle.jiff_core.proofs.MarchLemmas.{day_count-early}
use Rattle.jiff_core.proofs.SignedLemmas.{signed_arith}
use Rattle.civil_days.specs.Dates.{day_number, day_of_civil, digit_at, has_date_form, is_civil_date, is_digit_at, two_digits_at}
use Rattle.number_fields.specs.Ranges.{lies_between}
use Rattle.number_fields.proofs.RangeLaws.{both_hold}

civil : (y m d : ℕ) → y ≤ 9999 → 1 ≤ m → m ≤ 12 → 1 ≤ d → d ≤ days_in_month (pos y) m → IsCivilDate (pos y) m d
civil y m d high m1 m2 d1 d2 = ((omega (arith, signed_arith), omega (arith, signed_arith)), (m1, m2), (d1, d2))

first_day : day_count (pos 1) 1 1 ≡ 3_652_791
first_day = day_count-early (pos 1) 10000 1 1 refl (omega arith) (omega arith) (omega arith)

first : IsCivilDate (pos 1) 1 1
first = civil 1 1 1 (omega arith) (omega arith) (omega arith) (omega arith) (omega arith)

not_before_first : (y m d : ℕ) → 1 ≤ y → 1 ≤ m → 1 ≤ d → day_count (pos 1) 1 1 ≤ day_count (pos y) m d
not_before_first y m d y1 m1 d1 = by_year (cases_lt 1 y) (cases_lt 1 m)
  where
    by_year : (1 < y) ⊎ (y ≤ 1) → (1 < m) ⊎ (m ≤ 1) → day_count (pos 1) 1 1 ≤ day_count (pos y) m d
    by_year (inl later) o =
        let year : pos 1 <ℤ pos y = omega (arith, signed_arith) in
        omega (arith, day_count-lt_year (pos 1) 1 1 (pos y) m d first d1 year)
    by_year (inr same) (inl later) =
        let year : y ≡ 1 = omega (arith, same, y1) in
        subst (λ k. day_count (pos 1) 1 1 ≤ day_count (pos k) m d) (sym year) (omega (arith, day_count-lt_month (pos 1) 1 1 m d first d1 later))
    by_year (inr same) (inr january) =
        let year : y ≡ 1 = omega (arith, same, y1) in
        let month : m ≡ 1 = omega (arith, january, m1) in
        subst (λ k. day_count (pos 1) 1 1 ≤ day_count (pos k) m d) (sym year)
        (subst (λ k. day_count (pos 1) 1 1 ≤ day_count (pos 1) k d) (sym month) (omega (arith, day_count-day (pos 1) 1 1 d (omega arith) d1, d1)))

day_range : (y m d : ℕ) → 1 ≤ y → IsCivilDate (pos y) m d → lies_between (negsuc 719_161) (pos 2_932_896) (days_from_civil (pos y) m d) ≡ true
day_range y m d y1 c =
    let z = days_from_civil (pos y) m d in
    let count = days_from_civil-day_count (pos y) m d in
    let low = not_before_first y m d y1 c.1.0 c.2.0 in
    let high = day_count_bounds (pos y) m d c in
    let least : negsuc 719_161 ≤ℤ z = omega (arith, signed_arith, count, low, first_day) in
    let greatest : z ≤ℤ pos 2_932_896 = omega (arith, signed_arith, count, high) in
    both_hold (int_le (negsuc 719_161) z) (int_le z (pos 2_932_896)) least.le greatest.le

digit_most : (z : List ℕ) (i : ℕ) → is_digit_at z i ≡ true → digit_at z i ≤ 9
digit_most z i h = grind (arith, nat_tests)

civil_is : (y m d : ℕ) (z : ℤ) → y ≤ 9999 → day_of_civil y m d ≡ Some z → lies_between (negsuc 719_161) (pos 2_932_896) z ≡ true
civil_is y m d z high e = by_test (cases_Bool (is_civil_date y m d))
  where
    by_test : (is_civil_date y m d ≡ true) ⊎ (is_civil_date y m d ≡ false) → lies_between (negsuc 719_161) (pos 2_932_896) z ≡ true
    by_test (inl is) =
        let day = rw is at e in
        let same : days_from_civil (pos y) m d ≡ z = cc in
        let (first_four, d2) = and_parts (nat_le 1 y && nat_le 1 m && nat_le m 12 && nat_le 1 d) (nat_le d (days_in_month (pos y) m)) is in
        let (first_three, d1) = and_parts (nat_le 1 y && nat_le 1 m && nat_le m 12) (nat_le 1 d) first_four in
        let (first_two, m2) = and_parts (nat_le 1 y && nat_le 1 m) (nat_le m 12) first_three in
        let (y1, m1) = and_parts (nat_le 1 y) (nat_le 1 m) first_two in
        let low : 1 ≤ y = grind (arith, nat_tests, y1) in
        let date = civil y m d high (grind (arith, nat_tests, m1)) (grind (arith, nat_tests, m2)) (grind (arith, nat_tests, d1)) (grind (arith, nat_tests, d2)) in
        subst (λ x. lies_between (negsuc 719_161) (pos 2_932_896) x ≡ true) same (day_range y m d low date)
    by_test (inr isnt) = let none = rw isnt at e in absurd (cc)

four_digits : (a b c d : ℕ) → a ≤ 9 → b ≤ 9 → c ≤ 9 → d ≤ 9 → (a * 10 + b) * 100 + (c * 10 + d) ≤ 9999
four_digits a b c d ha hb hc hd = omega arith

year_most : (f : List ℕ) → has_date_form f ≡ true → two_digits_at f 0 * 100 + two_digits_at f 2 ≤ 9999
year_most f h =
    let before_nine = and_parts _ _ h in
    let before_eight = and_parts _ _ before_nine.0 in
    let before_seven = and_parts _ _ before_eight.0 in
    let before_six = and_parts _ _ before_seven.0 in
    let before_five = and_parts _ _ before_six.0 in
    let before_four = and_parts _ _ before_five.0 in
    let before_three = and_parts _ _ before_four.0 in
    let before_two = and_parts _ _ before_three.0 in
    let before_one = and_parts _ _ before_two.0 in
    let before_none = and_parts _ _ before_one.0 in
    four_digits (digit_at f 0) (digit_at f 1) (digit_at f 2) (digit_at f 3) (digit_most f 0 before_none.1) (digit_most f 1 before_one.1) (digit_most f 2 before_two.1) (digit_most f 3 before_three.1)

pub date_range : (f : List ℕ) (z : ℤ) → day_number f ≡ Some z → lies_between (negsuc 719_161) (pos 2_932_896) z ≡ true
date_range f z e = by_form (cases_Bool (has_date_form f))
  where
    by_form : (has_date_form f ≡ true) ⊎ (has_date_form f ≡ false) → lies_between (negsuc 719_161) (pos 2_932_896) z ≡ true
    by_form (inl is) = civil_is (two_digits_at f 0 * 100 + two_digits_at f 2) (two_digits_at f 5) (two_digits_at f 8) z (year_most f is) (rw is at e)
    by_form (inr isnt) = let none = rw isnt at e in absurd (cc)

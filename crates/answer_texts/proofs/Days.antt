-- The year, the month and the day of a date's number are its own, and each day of the years 1 to 9999 is the number of a date.
use Rattle.std.proofs.Common.{◌≡◌, ◌∙◌, ℕ, zero, suc, ◌+◌, ◌-◌, ◌<◌, ◌≤◌, ◌⊎◌, inl, inr, Bool, true, false, pos, ◌-ℤ◌, refl, ap, subst, arith, get_or}
use Rattle.std.specs.Prelude.{int_le, unsigned_abs}
use Rattle.std.specs.List.{count_by, range_with_len}
use Rattle.std.proofs.lemmas.Bool.{cases_lt}
use Rattle.std.proofs.lemmas.List.FromFn.{length-range_with_len, get_or-range_with_len}
use Rattle.jiff_core.specs.Calendar.{days_from_civil, day_count, days_in_year, IsCivilDate}
use Rattle.jiff_core.proofs.CalendarLemmas.{days_from_civil-day_count, days_in_month_bounds, day_count-lt_year, day_count-lt_month, day_count-day, day_count-next_month, day_count-next_year, day_count-last_of_year}
use Rattle.jiff_core.proofs.MarchLemmas.{day_count-early}
use Rattle.jiff_core.proofs.SignedLemmas.{signed_arith}
use Rattle.dict_codes.proofs.DictionaryLaws.{count_at}
use Rattle.answer_texts.specs.Dates.{has_begun, year_of, month_of, place_of, civil_text, date_text}

-- where the numbers from 1 to i alone pass a test, i pass
counted : (p : ℕ → Bool) (n i : ℕ) → i ≤ n → ((k : ℕ) → 1 ≤ k → k ≤ i → p k ≡ true) → ((k : ℕ) → i < k → k ≤ n → p k ≡ false) → count_by p (range_with_len 1 n) ≡ i
counted p n i h f g = count_at p (range_with_len 1 n) 0 i (omega (arith, length-range_with_len 1 n)) (λ j l. ap p (at j (omega arith)) ∙ f (1 + j) (omega arith) (omega arith)) (λ j l m. late j l (omega (arith, m, length-range_with_len 1 n)))
  where
    at : (j : ℕ) → j < n → get_or (range_with_len 1 n) j 0 ≡ 1 + j
    at j l = get_or-range_with_len 1 n j 0 l

    late : (j : ℕ) → i ≤ j → j < n → p (get_or (range_with_len 1 n) j 0) ≡ false
    late j l m = ap p (at j m) ∙ g (1 + j) (omega arith) (omega arith)

-- ---- days in their order

early : (y m d y₂ m₂ d₂ : ℕ) → day_count (pos y) m d ≤ day_count (pos y₂) m₂ d₂ → int_le (days_from_civil (pos y) m d) (days_from_civil (pos y₂) m₂ d₂) ≡ true
early y m d y₂ m₂ d₂ h = by (int_le (days_from_civil (pos y) m d) (days_from_civil (pos y₂) m₂ d₂)) refl
  where
    by : (b : Bool) → int_le (days_from_civil (pos y) m d) (days_from_civil (pos y₂) m₂ d₂) ≡ b → b ≡ true
    by true e = refl
    by false e = absurd (omega (arith, signed_arith, e, days_from_civil-day_count (pos y) m d, days_from_civil-day_count (pos y₂) m₂ d₂))

later : (y m d y₂ m₂ d₂ : ℕ) → day_count (pos y) m d < day_count (pos y₂) m₂ d₂ → int_le (days_from_civil (pos y₂) m₂ d₂) (days_from_civil (pos y) m d) ≡ false
later y m d y₂ m₂ d₂ h = by (int_le (days_from_civil (pos y₂) m₂ d₂) (days_from_civil (pos y) m d)) refl
  where
    by : (b : Bool) → int_le (days_from_civil (pos y₂) m₂ d₂) (days_from_civil (pos y) m d) ≡ b → b ≡ false
    by false e = refl
    by true e = absurd (omega (arith, signed_arith, e, days_from_civil-day_count (pos y) m d, days_from_civil-day_count (pos y₂) m₂ d₂))

-- the first day of a month
first_day : (y m : ℕ) → y ≤ 9999 → 1 ≤ m → m ≤ 12 → IsCivilDate (pos y) m 1
first_day y m h low high = ((omega (arith, signed_arith), omega (arith, signed_arith)), (low, high), (omega arith, omega (arith, (days_in_month_bounds (pos y) m).1)))

-- a month of the date's year that is not behind its own has begun
begun_month : (y m d : ℕ) → y ≤ 9999 → IsCivilDate (pos y) m d → (k : ℕ) → 1 ≤ k → k ≤ m → day_count (pos y) k 1 ≤ day_count (pos y) m d
begun_month y m d within h k low high = by (cases_lt k m)
  where
    by : (k < m) ⊎ (m ≤ k) → day_count (pos y) k 1 ≤ day_count (pos y) m d
    by (inl l) = omega (arith, day_count-lt_month (pos y) k 1 m d (first_day y k within low (omega (arith, high, h.1.1))) h.2.0 l)
    by (inr l) =
        let same : m ≡ k = omega (arith, l, high) in
        let here : day_count (pos y) m 1 ≤ day_count (pos y) m d = omega (arith, day_count-day (pos y) m d 1 h.2.0 (omega arith)) in
        subst (λ j. day_count (pos y) j 1 ≤ day_count (pos y) m d) same here

-- and so has a year
begun_year : (y m d : ℕ) → y ≤ 9999 → IsCivilDate (pos y) m d → (k : ℕ) → k ≤ y → day_count (pos k) 1 1 ≤ day_count (pos y) m d
begun_year y m d within h k high = by (cases_lt k y)
  where
    by : (k < y) ⊎ (y ≤ k) → day_count (pos k) 1 1 ≤ day_count (pos y) m d
    by (inl l) = omega (arith, day_count-lt_year (pos k) 1 1 (pos y) m d (first_day k 1 (omega (arith, high, within)) (omega arith) (omega arith)) h.2.0 (omega (arith, signed_arith, l)))
    by (inr l) = subst (λ j. day_count (pos j) 1 1 ≤ day_count (pos y) m d) (omega (arith, l, high)) (begun_month y m d within h 1 (omega arith) h.1.0)

-- ---- the parts of a date's number

year_is : (y m d : ℕ) → 1 ≤ y → y ≤ 9999 → IsCivilDate (pos y) m d → year_of (days_from_civil (pos y) m d) ≡ y
year_is y m d low within h =
    counted (λ k. has_begun (days_from_civil (pos y) m d) k 1) 9999 y within
    (λ k one l. early k 1 1 y m d (begun_year y m d within h k l))
    (λ k l most. later y m d k 1 1 (day_count-lt_year (pos y) m d (pos k) 1 1 h (omega arith) (omega (arith, signed_arith, l))))

month_is : (y m d : ℕ) → y ≤ 9999 → IsCivilDate (pos y) m d → month_of y (days_from_civil (pos y) m d) ≡ m
month_is y m d within h =
    counted (has_begun (days_from_civil (pos y) m d) y) 12 m h.1.1
    (λ k one l. early y k 1 y m d (begun_month y m d within h k one l))
    (λ k l most. later y m d y k 1 (day_count-lt_month (pos y) m d k 1 h (omega arith) l))

place_is : (y m d : ℕ) → 1 ≤ d → place_of y m (days_from_civil (pos y) m d) ≡ d
place_is y m d low =
    let apart : days_from_civil (pos y) m d -ℤ days_from_civil (pos y) m 1 ≡ pos (d - 1) =
    omega (arith, signed_arith, days_from_civil-day_count (pos y) m d, days_from_civil-day_count (pos y) m 1, day_count-day (pos y) m d 1 low (omega arith))
    in
    ap (λ z. unsigned_abs z + 1) apart ∙ omega arith

pub date_is : (y m d : ℕ) → 1 ≤ y → y ≤ 9999 → IsCivilDate (pos y) m d → date_text (days_from_civil (pos y) m d) ≡ civil_text y m d
unfolding date_text
date_is y m d low within h =
    let day = days_from_civil (pos y) m d in
    ap (λ x. civil_text x (month_of x day) (place_of x (month_of x day) day)) (year_is y m d low within h)
    ∙ ap (λ x. civil_text y x (place_of y x day)) (month_is y m d within h)
    ∙ ap (civil_text y m) (place_is y m d h.2.0)

-- ---- each day has a date

pub record HasDate (count : ℕ) : Type 0 where
  pub year : ℕ
  pub month : ℕ
  pub day : ℕ
  pub since : 1 ≤ year
  pub until : year ≤ 9999
  pub civil : IsCivilDate (pos year) month day
  pub is : day_count (pos year) month day ≡ count

-- in a year, and from a month on
in_month : (y m count : ℕ) → 1 ≤ y → y ≤ 9999 → 1 ≤ m → m ≤ 12 → day_count (pos y) m 1 ≤ count → count < day_count (pos y) (m + 1) 1 → HasDate count
in_month y m count low high one most from to =
    let d = count - day_count (pos y) m 1 + 1 in
    record {
      year = y;
      month = m;
      day = d;
      since = low;
      until = high;
      civil = ((first_day y m high one most).0, (one, most), (omega arith, omega (arith, from, to, day_count-next_month (pos y) m one)));
      is = omega (arith, from, day_count-day (pos y) m d 1 (omega arith) (omega arith));
    }

in_months : (n y count : ℕ) → n ≤ 12 → 1 ≤ y → y ≤ 9999 → day_count (pos y) 1 1 ≤ count → count < day_count (pos y) (n + 1) 1 → HasDate count
in_months zero y count h low high from to = absurd (omega (arith, from, to))
in_months (suc n) y count h low high from to = by (cases_lt count (day_count (pos y) (n + 1) 1)) (λ l. in_months n y count (omega arith) low high from l)
  where
    by : (count < day_count (pos y) (n + 1) 1) ⊎ (day_count (pos y) (n + 1) 1 ≤ count) → (count < day_count (pos y) (n + 1) 1 → HasDate count) → HasDate count
    by (inl l) before = before l
    by (inr l) before = in_month y (n + 1) count low high (omega arith) (omega arith) l (subst (λ k. count < day_count (pos y) k 1) (omega arith) to)

in_year : (y count : ℕ) → 1 ≤ y → y ≤ 9999 → day_count (pos y) 1 1 ≤ count → count < day_count (pos (y + 1)) 1 1 → HasDate count
in_year y count low high from to =
    in_months 12 y count (omega arith) low high from (omega (arith, to, year_end y, day_count-next_month (pos y) 12 (omega arith), day_count-last_of_year (pos y), day_count-day (pos y) 12 31 1 (omega arith) (omega arith)))
  where
    year_end : (y : ℕ) → day_count (pos (y + 1)) 1 1 ≡ day_count (pos y) 1 1 + days_in_year (pos y)
    year_end y = day_count-next_year (pos y) (pos (y + 1)) (omega (arith, signed_arith)) (omega (arith, signed_arith))

pub in_years : (n count : ℕ) → n ≤ 9999 → day_count (pos 1) 1 1 ≤ count → count < day_count (pos (n + 1)) 1 1 → HasDate count
in_years zero count h from to = absurd (omega (arith, from, to))
in_years (suc n) count h from to = by (cases_lt count (day_count (pos (n + 1)) 1 1)) (λ l. in_years n count (omega arith) from l)
  where
    by : (count < day_count (pos (n + 1)) 1 1) ⊎ (day_count (pos (n + 1)) 1 1 ≤ count) → (count < day_count (pos (n + 1)) 1 1 → HasDate count) → HasDate count
    by (inl l) before = before l
    by (inr l) before = in_year (n + 1) count (omega arith) (omega arith) l (subst (λ k. count < day_count (pos k) 1 1) (omega arith) to)

-- 0001-01-01
pub first_count : day_count (pos 1) 1 1 ≡ 3_652_791
first_count = day_count-early (pos 1) 10000 1 1 refl (omega arith) (omega arith) (omega arith)

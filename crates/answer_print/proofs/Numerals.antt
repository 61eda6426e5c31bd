-- The digits of a number, parted by the point.
use Rattle.std.proofs.Common.{◌≡◌, ◌≢◌, ◌∙◌, ℕ, zero, suc, ◌+◌, ◌-◌, ◌/◌, ◌%◌, ◌^◌, ◌<◌, ◌≤◌, ◌⊎◌, inl, inr, List, [], ◌∷◌, ◌++◌, length, take, drop, replicate, refl, sym, ap, arith, append_assoc, subst}
use Rattle.std.specs.Prelude.{Result, Ok, Err, OnOk}
use Rattle.std.specs.Fmt.{decimal}
use Rattle.std.proofs.lemmas.Bool.{cases_lt}
use Rattle.std.proofs.lemmas.Fmt.{decimal_digit, decimal_step_wide}
use Rattle.std.proofs.lemmas.List.{append-nil, length-append, replicate_more}
use Rattle.std.proofs.Math.Nat.{div-div-eq-div-mul, div-eq_of_lt}
use Rattle.std.proofs.Math.Seq.{take-append_seam, drop-append_seam}
use Rattle.answer_texts.specs.Numbers.{last_digits, scaled}

length_last : (s n : ℕ) → length (last_digits s n) ≡ s
length_last zero n = refl
length_last (suc s) n = length-append (last_digits s (n / 10)) ((48 + n % 10) ∷ []) ∙ omega (arith, length_last s (n / 10))

-- a number of one digit, and one of more
length_one : (n : ℕ) → n < 10 → length (decimal n) ≡ 1
length_one n h = ap length (decimal_digit n h)

length_step : (n : ℕ) → 10 ≤ n → n < 10 ^ 64 → length (decimal n) ≡ length (decimal (n / 10)) + 1
length_step n h small = ap length (decimal_step_wide n h small) ∙ length-append (decimal (n / 10)) ((48 + n % 10) ∷ [])

-- ---- more digits than stand behind the point

divided : (s n : ℕ) → n / 10 / 10 ^ s ≡ n / 10 ^ suc s
divided s n = div-div-eq-div-mul n 10 (10 ^ s) ∙ ap (λ k. n / k) (omega arith)

parted : (s n : ℕ) → n < 10 ^ 64 → s < length (decimal n) → decimal n ≡ decimal (n / 10 ^ s) ++ last_digits s n
parted zero n small h = ap decimal (omega arith) ∙ sym (append-nil (decimal (n / 10 ^ 0)))
parted (suc s) n small h = by (cases_lt n 10) (parted s (n / 10) (omega (arith, small)))
  where
    by : (n < 10) ⊎ (10 ≤ n) → (s < length (decimal (n / 10)) → decimal (n / 10) ≡ decimal (n / 10 / 10 ^ s) ++ last_digits s (n / 10)) → decimal n ≡ decimal (n / 10 ^ suc s) ++ last_digits (suc s) n
    by (inl l) shorter = absurd (omega (arith, h, length_one n l))
    by (inr l) shorter =
        let before = shorter (omega (arith, h, length_step n l small)) in
        decimal_step_wide n l small
        ∙ ap (λ d. d ++ (48 + n % 10) ∷ []) (before ∙ ap (λ k. decimal k ++ last_digits s (n / 10)) (divided s n))
        ∙ append_assoc (decimal (n / 10 ^ suc s)) (last_digits s (n / 10)) ((48 + n % 10) ∷ [])

large : (s n : ℕ) (old new : List ℕ) → n < 10 ^ 64 → suc s < length (decimal n)
    → new ≡ old ++ (take (length (decimal n) - suc s) (decimal n) ++ 46 ∷ drop (length (decimal n) - suc s) (decimal n)) → new ≡ old ++ scaled (suc s) n
large s n old new small h e =
    let whole = decimal (n / 10 ^ suc s) in
    let digits = last_digits (suc s) n in
    let is : decimal n ≡ whole ++ digits = parted (suc s) n small h in
    let long : length (decimal n) - suc s ≡ length whole = omega (arith, ap length is, length-append whole digits, length_last (suc s) n) in
    let front : take (length (decimal n) - suc s) (decimal n) ≡ whole = ap (λ k. take k (decimal n)) long ∙ ap (take (length whole)) is ∙ take-append_seam whole digits in
    let back : drop (length (decimal n) - suc s) (decimal n) ≡ digits = ap (λ k. drop k (decimal n)) long ∙ ap (drop (length whole)) is ∙ drop-append_seam whole digits in
    e ∙ (λ i. old ++ (front i ++ 46 ∷ back i))

-- ---- no more digits than stand behind the point

some_digit : (n : ℕ) → n < 10 ^ 64 → 1 ≤ length (decimal n)
some_digit n small = by (cases_lt n 10)
  where
    by : (n < 10) ⊎ (10 ≤ n) → 1 ≤ length (decimal n)
    by (inl l) = omega (arith, length_one n l)
    by (inr l) = omega (arith, length_step n l small)

below : (s n : ℕ) → n < 10 ^ 64 → length (decimal n) ≤ suc s → n < 10 ^ suc s
below zero n small h = by (cases_lt n 10)
  where
    by : (n < 10) ⊎ (10 ≤ n) → n < 10 ^ 1
    by (inl l) = omega (arith, l)
    by (inr l) = absurd (omega (arith, h, length_step n l small, some_digit (n / 10) (omega (arith, small))))
below (suc s) n small h = omega (arith, below s (n / 10) (omega (arith, small)) (by (cases_lt n 10)))
  where
    by : (n < 10) ⊎ (10 ≤ n) → length (decimal (n / 10)) ≤ suc s
    by (inl l) = omega (arith, length_one (n / 10) (omega (arith, l)))
    by (inr l) = omega (arith, h, length_step n l small)

padded : (s n : ℕ) → n < 10 ^ 64 → length (decimal n) ≤ suc s → last_digits (suc s) n ≡ replicate (suc s - length (decimal n)) 48 ++ decimal n
padded zero n small h = by (cases_lt n 10)
  where
    by : (n < 10) ⊎ (10 ≤ n) → last_digits 1 n ≡ replicate (1 - length (decimal n)) 48 ++ decimal n
    by (inl l) =
        let none : 1 - length (decimal n) ≡ 0 = omega (arith, length_one n l) in
        let same : 48 + n % 10 ≡ 48 + n = omega (arith, l) in
        ap (λ k. k ∷ []) same ∙ sym (decimal_digit n l) ∙ ap (λ k. replicate k 48 ++ decimal n) (sym none)
    by (inr l) = absurd (omega (arith, h, length_step n l small, some_digit (n / 10) (omega (arith, small))))
padded (suc s) n small h = by (cases_lt n 10) (padded s 0 (omega arith) (omega (arith, length_one 0 (omega arith)))) (padded s (n / 10) (omega (arith, small)))
  where
    IsPadded : ℕ → Type 0
    IsPadded k = last_digits (suc s) k ≡ replicate (suc s - length (decimal k)) 48 ++ decimal k

    by : (n < 10) ⊎ (10 ≤ n) → IsPadded 0 → (length (decimal (n / 10)) ≤ suc s → IsPadded (n / 10)) → last_digits (suc (suc s)) n ≡ replicate (suc (suc s) - length (decimal n)) 48 ++ decimal n
    by (inl l) zero_padded shorter =
        let front : n / 10 ≡ 0 = omega (arith, l) in
        let zeros : last_digits (suc s) 0 ≡ replicate (suc s - 1) 48 ++ 48 ∷ [] =
        zero_padded ∙ ap (λ d. replicate (suc s - length d) 48 ++ d) (decimal_digit 0 (omega arith)) in
        let count : suc s - 1 + 1 ≡ suc (suc s) - length (decimal n) = omega (arith, length_one n l) in
        let same : 48 + n % 10 ≡ 48 + n = omega (arith, l) in
        ap (λ k. last_digits (suc s) k ++ (48 + n % 10) ∷ []) front
        ∙ ap (λ d. d ++ (48 + n % 10) ∷ []) (zeros ∙ replicate_more (suc s - 1) 48 ∙ ap (λ k. replicate k 48) count)
        ∙ ap (λ k. replicate (suc (suc s) - length (decimal n)) 48 ++ k ∷ []) same
        ∙ ap (λ d. replicate (suc (suc s) - length (decimal n)) 48 ++ d) (sym (decimal_digit n l))
    by (inr l) zero_padded shorter =
        let before = shorter (omega (arith, h, length_step n l small)) in
        let count : suc s - length (decimal (n / 10)) ≡ suc (suc s) - length (decimal n) = omega (arith, length_step n l small) in
        ap (λ d. d ++ (48 + n % 10) ∷ []) (before ∙ ap (λ k. replicate k 48 ++ decimal (n / 10)) count)
        ∙ append_assoc (replicate (suc (suc s) - length (decimal n)) 48) (decimal (n / 10)) ((48 + n % 10) ∷ [])
        ∙ ap (λ d. replicate (suc (suc s) - length (decimal n)) 48 ++ d) (sym (decimal_step_wide n l small))

small : (s n : ℕ) (old new : List ℕ) → n < 10 ^ 64 → length (decimal n) ≤ suc s
    → new ≡ old ++ (48 ∷ 46 ∷ (replicate (suc s - length (decimal n)) 48 ++ decimal n)) → new ≡ old ++ scaled (suc s) n
small s n old new wide h e =
    let none : n / 10 ^ suc s ≡ 0 = div-eq_of_lt (below s n wide h) in
    let whole : decimal (n / 10 ^ suc s) ≡ 48 ∷ [] = ap decimal none ∙ decimal_digit 0 (omega arith) in
    e ∙ (λ i. old ++ (48 ∷ 46 ∷ sym (padded s n wide h) i)) ∙ (λ i. old ++ (sym whole i ++ 46 ∷ last_digits (suc s) n))

-- ---- the digits with the point among them

pub pointed : (s n : ℕ) (digits old new : List ℕ) → s ≢ 0 → n < 10 ^ 64 → digits ≡ decimal n
    → (length digits ≤ s → new ≡ old ++ (48 ∷ 46 ∷ (replicate (s - length digits) 48 ++ digits)))
    → (s < length digits → new ≡ old ++ (take (length digits - s) digits ++ 46 ∷ drop (length digits - s) digits))
    → new ≡ old ++ scaled s n
pointed zero n digits old new some wide is f g = absurd (some refl)
pointed (suc s) n digits old new some wide is f g = by (cases_lt (suc s) (length digits))
  where
    by : (suc s < length digits) ⊎ (length digits ≤ suc s) → new ≡ old ++ scaled (suc s) n
    by (inl l) = large s n old new wide (subst (λ d. suc s < length d) is l) (g l ∙ ap (λ d. old ++ (take (length d - suc s) d ++ 46 ∷ drop (length d - suc s) d)) is)
    by (inr l) = small s n old new wide (subst (λ d. length d ≤ suc s) is l) (f l ∙ ap (λ d. old ++ (48 ∷ 46 ∷ (replicate (suc s - length d) 48 ++ d))) is)

pub both_ok : {T E : Type 0} (r : Result T E) (P Q R : Type 0) → (P → Q → R) → OnOk r P → OnOk r Q → OnOk r R
both_ok (Ok x) P Q R f p q = f p q
both_ok (Err e) P Q R f p q = tt

-- A cap once or twice is one cap.
use Rattle.std.proofs.Common.{◌≡◌, ◌∙◌, ℕ, ◌-◌, ◌*◌, ◌<◌, ◌≤◌, ◌^◌, List, [], ◌∷◌, ◌++◌, length, take, drop, fold, true, false, ◌&&◌, Option, Some, None, refl, sym, ap, arith, inl, inr, ◌⊎◌}
use Rattle.std.specs.Prelude.{unwrap_or}
use Rattle.std.specs.List.{list_all}
use Rattle.std.proofs.Math.Nat.{mul-le-mul_left, mul-le-mul_right, one-le-pow, pow-le-pow_right}
use Rattle.std.proofs.lemmas.Bool.{cases_Bool, cases_lt, le-ltb, lt-ltb}
use Rattle.std.proofs.lemmas.List.{take-append-drop}
use Rattle.std.proofs.lemmas.List.Folds.{list_all-append}
use Rattle.std.proofs.lemmas.List.Sums.{fold-append}
use Rattle.number_fields.specs.Digits.{is_digit, number_of, with_digit}
use Rattle.number_fields.specs.Decimals.{units_in}
use Rattle.number_fields.specs.Capped.{capped, capped_after, capped_parts}

pub capped_below : (n : ℕ) → n < 1_000_000_000_000_000_000 → capped n ≡ n
capped_below n h = rw (lt-ltb n 1_000_000_000_000_000_000 h) refl

pub capped_above : (n : ℕ) → 1_000_000_000_000_000_000 ≤ n → capped n ≡ 1_000_000_000_000_000_000
capped_above n h = rw (le-ltb n 1_000_000_000_000_000_000 h) refl

pub capped_digit : (n c : ℕ) → capped (with_digit (capped n) c) ≡ capped (with_digit n c)
capped_digit n c = by_size (cases_lt n 1_000_000_000_000_000_000)
  where
    by_size : (n < 1_000_000_000_000_000_000) ⊎ (1_000_000_000_000_000_000 ≤ n) → capped (with_digit (capped n) c) ≡ capped (with_digit n c)
    by_size (inl below) = ap (λ m. capped (with_digit m c)) (capped_below n below)
    by_size (inr above) =
        ap (λ m. capped (with_digit m c)) (capped_above n above)
        ∙ capped_above (with_digit 1_000_000_000_000_000_000 c) (omega arith)
        ∙ sym (capped_above (with_digit n c) (omega (arith, above)))

pub capped_fold : (n : ℕ) (digits : List ℕ) → capped (fold with_digit (capped n) digits) ≡ capped (fold with_digit n digits)
capped_fold n [] = by_size (cases_lt n 1_000_000_000_000_000_000)
  where
    by_size : (n < 1_000_000_000_000_000_000) ⊎ (1_000_000_000_000_000_000 ≤ n) → capped (capped n) ≡ capped n
    by_size (inl below) = ap capped (capped_below n below)
    by_size (inr above) = ap capped (capped_above n above) ∙ sym (capped_above n above)
capped_fold n (c ∷ digits) =
    sym (capped_fold (with_digit (capped n) c) digits)
    ∙ ap (λ m. capped (fold with_digit m digits)) (capped_digit n c)
    ∙ capped_fold (with_digit n c) digits

-- ---- times a power of ten

power_some : (k : ℕ) → 1 ≤ 10 ^ k
power_some k = one-le-pow k 10 (omega arith)

pub capped_far : (n k : ℕ) → 1 ≤ n → 18 ≤ k → capped (n * 10 ^ k) ≡ 1_000_000_000_000_000_000
capped_far n k some far =
    let power : 10 ^ 18 ≤ 10 ^ k = pow-le-pow_right {n = 10} (omega arith) far in
    let least : 1 * 10 ^ k ≤ n * 10 ^ k = mul-le-mul_right (10 ^ k) some in
    capped_above (n * 10 ^ k) (omega (arith, power, least))

pub capped_power : (n k : ℕ) → capped (capped n * 10 ^ k) ≡ capped (n * 10 ^ k)
capped_power n k = by_size (cases_lt n 1_000_000_000_000_000_000)
  where
    more : (m : ℕ) → 1_000_000_000_000_000_000 ≤ m → capped (m * 10 ^ k) ≡ 1_000_000_000_000_000_000
    more m above =
        let least : m * 1 ≤ m * 10 ^ k = mul-le-mul_left m (power_some k) in
        capped_above (m * 10 ^ k) (omega (arith, least, above))

    by_size : (n < 1_000_000_000_000_000_000) ⊎ (1_000_000_000_000_000_000 ≤ n) → capped (capped n * 10 ^ k) ≡ capped (n * 10 ^ k)
    by_size (inl below) = ap (λ m. capped (m * 10 ^ k)) (capped_below n below)
    by_size (inr above) = ap (λ m. capped (m * 10 ^ k)) (capped_above n above) ∙ more 1_000_000_000_000_000_000 (omega arith) ∙ sym (more n above)

-- ---- the parts of a decimal

after_some : (n : ℕ) (digits : List ℕ) (v : ℕ) → capped_after n digits ≡ Some v → (list_all is_digit digits ≡ true) × (v ≡ capped (fold with_digit n digits))
after_some n digits v e = by_test (cases_Bool (list_all is_digit digits))
  where
    by_test : (list_all is_digit digits ≡ true) ⊎ (list_all is_digit digits ≡ false) → (list_all is_digit digits ≡ true) × (v ≡ capped (fold with_digit n digits))
    by_test (inl all) = let same : Some (capped (fold with_digit n digits)) ≡ Some v = rw all at e in (all, sym (ap (λ (o : Option ℕ). unwrap_or o v) same))
    by_test (inr some) = let none : None ≡ Some v = rw some at e in absurd (cc)

after_none : (n : ℕ) (digits : List ℕ) → capped_after n digits ≡ None → list_all is_digit digits ≡ false
after_none n digits e = by_test (cases_Bool (list_all is_digit digits))
  where
    by_test : (list_all is_digit digits ≡ true) ⊎ (list_all is_digit digits ≡ false) → list_all is_digit digits ≡ false
    by_test (inl all) = let none : Some (capped (fold with_digit n digits)) ≡ None = rw all at e in absurd (cc)
    by_test (inr some) = some

all_digits : (s : ℕ) (whole fraction : List ℕ) → list_all is_digit (whole ++ fraction) ≡ (list_all is_digit whole && (list_all is_digit (take s fraction) && list_all is_digit (drop s fraction)))
all_digits s whole fraction =
    list_all-append is_digit whole fraction
    ∙ ap (λ b. list_all is_digit whole && b) (ap (list_all is_digit) (sym (take-append-drop s fraction)) ∙ list_all-append is_digit (take s fraction) (drop s fraction))

pub parts_no_front : (s : ℕ) (whole fraction : List ℕ) (w : ℕ) → capped_after 0 whole ≡ Some w → capped_after w (take s fraction) ≡ None → capped_parts s whole fraction ≡ None
parts_no_front s whole fraction w a b = rw (all_digits s whole fraction, (after_some 0 whole w a).0, after_none w (take s fraction) b) refl

pub parts_no_back : (s : ℕ) (whole fraction : List ℕ) (w v : ℕ) → capped_after 0 whole ≡ Some w → capped_after w (take s fraction) ≡ Some v → capped_after 0 (drop s fraction) ≡ None → capped_parts s whole fraction ≡ None
parts_no_back s whole fraction w v a b e =
    rw (all_digits s whole fraction, (after_some 0 whole w a).0, (after_some w (take s fraction) v b).0, after_none 0 (drop s fraction) e) refl

pub parts_all : (s : ℕ) (whole fraction : List ℕ) (w v r : ℕ) → capped_after 0 whole ≡ Some w → capped_after w (take s fraction) ≡ Some v → capped_after 0 (drop s fraction) ≡ Some r
    → capped_parts s whole fraction ≡ Some (capped (v * 10 ^ (s - length fraction)), r)
parts_all s whole fraction w v r a b e =
    let (wd, ws) = after_some 0 whole w a in
    let (vd, vs) = after_some w (take s fraction) v b in
    let (rd, rs) = after_some 0 (drop s fraction) r e in
    let value : v ≡ capped (number_of (whole ++ take s fraction)) =
    vs
    ∙ ap (λ n. capped (fold with_digit n (take s fraction))) ws
    ∙ capped_fold (number_of whole) (take s fraction)
    ∙ ap capped (sym (fold-append with_digit 0 whole (take s fraction)))
    in
    let units : capped (v * 10 ^ (s - length fraction)) ≡ capped (units_in s whole fraction) = ap (λ n. capped (n * 10 ^ (s - length fraction))) value ∙ capped_power (number_of (whole ++ take s fraction)) (s - length fraction) in
    rw (all_digits s whole fraction, wd, vd, rd, units, rs) refl

-- The digits of a number: all of them are digits, their value is the number, and a number of 64 bits is printed so.
use Rattle.std.proofs.Common.{◌≡◌, ℕ, zero, suc, ◌+◌, ◌/◌, ◌%◌, ◌^◌, ◌<◌, ◌≤◌, Bool, true, false, cond, ◌&&◌, List, [], ◌∷◌, ◌++◌, length, length-append, refl, sym, ap, ◌∙◌, subst, arith, decimal, ltb-false, ltb-true, lt-ltb, le-ltb, ltb}
use Rattle.std.specs.List.{list_all}
use Rattle.std.specs.Char.{is_ascii_digit}
use Rattle.std.specs.Str.Parse.{digits_value}
use Rattle.std.proofs.lemmas.Int.Digits.{digits_value_push}
use Rattle.std.proofs.lemmas.Str.{digit_value_digit}
use Rattle.std.proofs.lemmas.Fmt.{decimal_from_appends, length-decimal-le_succ}
use Rattle.program_writers.specs.Numerals.{last_digits, numeral}

one_digit : (k n : ℕ) → n < 10 → last_digits (suc k) n ≡ (48 + n) ∷ []
one_digit k n h = ap (λ t. cond t ((48 + n) ∷ []) (last_digits k (n / 10) ++ ((48 + n % 10) ∷ []))) (lt-ltb n 10 h)

more_digits : (k n : ℕ) → 10 ≤ n → last_digits (suc k) n ≡ last_digits k (n / 10) ++ ((48 + n % 10) ∷ [])
more_digits k n h = ap (λ t. cond t ((48 + n) ∷ []) (last_digits k (n / 10) ++ ((48 + n % 10) ∷ []))) (le-ltb n 10 h)

pub printed : (k : ℕ) → k < 2 ^ 64 → numeral k ≡ decimal k
unfolding numeral
printed k small = decimal_from_appends last_digits (record { one = one_digit; more = more_digits }) (k + 1) k small (length-decimal-le_succ k small)

-- ---- a property of the digits of any number

by_size : (P : ℕ → List ℕ → Type 0) → ((n : ℕ) → n < 10 → P n ((48 + n) ∷ [])) → ((n : ℕ) (ds : List ℕ) → 10 ≤ n → P (n / 10) ds → P n (ds ++ ((48 + n % 10) ∷ []))) → (k n : ℕ) → (10 ≤ n → P (n / 10) (last_digits k (n / 10))) → (b : Bool) → ltb n 10 ≡ b → P n (last_digits (suc k) n)
by_size P one more k n rest true e = let l = ltb-true n 10 e in subst (P n) (sym (one_digit k n l)) (one n l)
by_size P one more k n rest false e = let l = ltb-false n 10 e in subst (P n) (sym (more_digits k n l)) (more n (last_digits k (n / 10)) l (rest l))

upto : (P : ℕ → List ℕ → Type 0) → ((n : ℕ) → n < 10 → P n ((48 + n) ∷ [])) → ((n : ℕ) (ds : List ℕ) → 10 ≤ n → P (n / 10) ds → P n (ds ++ ((48 + n % 10) ∷ []))) → (k n : ℕ) → n ≤ k → P n (last_digits (suc k) n)
upto P one more zero n h = subst (P n) (sym (one_digit zero n (omega arith))) (one n (omega arith))
upto P one more (suc k) n h = by_size P one more (suc k) n (λ l. upto P one more k (n / 10) (omega arith)) (ltb n 10) refl

pub by_digits : (P : ℕ → List ℕ → Type 0) → ((n : ℕ) → n < 10 → P n ((48 + n) ∷ [])) → ((n : ℕ) (ds : List ℕ) → 10 ≤ n → P (n / 10) ds → P n (ds ++ ((48 + n % 10) ∷ []))) → (n : ℕ) → P n (numeral n)
unfolding numeral
by_digits P one more n = subst (λ k. P n (last_digits k n)) {x = suc n} {y = n + 1} (omega arith) (upto P one more n n (omega arith))

is_digit : (d : ℕ) → d < 10 → is_ascii_digit (48 + d) ≡ true
is_digit d h = grind arith

and_true : (a b : Bool) → (a && b) ≡ true → (a ≡ true) × (b ≡ true)
and_true true b e = (refl, e)
and_true false b e = absurd cc

all_push : (f : ℕ → Bool) (xs : List ℕ) (x : ℕ) → list_all f xs ≡ true → f x ≡ true → list_all f (xs ++ (x ∷ [])) ≡ true
all_push f [] x h e = rw e refl
all_push f (y ∷ ys) x h e =
    let both = and_true (f y) (list_all f ys) h in
    rw (both.0, all_push f ys x both.1 e) refl

pub all_digits : (n : ℕ) → list_all is_ascii_digit (numeral n) ≡ true
all_digits = by_digits (λ m ds. list_all is_ascii_digit ds ≡ true) (λ m l. rw (is_digit m l) refl) (λ m ds l h. all_push is_ascii_digit ds (48 + m % 10) h (is_digit (m % 10) (omega arith)))

pub value_of_numeral : (n : ℕ) → digits_value 10 (numeral n) ≡ n
value_of_numeral = by_digits (λ m ds. digits_value 10 ds ≡ m) one more
  where
    one : (m : ℕ) → m < 10 → digits_value 10 ((48 + m) ∷ []) ≡ m
    one m l = omega (arith, digit_value_digit (48 + m) (omega arith))

    more : (m : ℕ) (ds : List ℕ) → 10 ≤ m → digits_value 10 ds ≡ m / 10 → digits_value 10 (ds ++ ((48 + m % 10) ∷ [])) ≡ m
    more m ds l h = digits_value_push 10 ds (48 + m % 10) ∙ omega (arith, h, digit_value_digit (48 + m % 10) (omega arith))

pub distinct : (j k : ℕ) → numeral j ≡ numeral k → j ≡ k
distinct j k e = sym (value_of_numeral j) ∙ ap (digits_value 10) e ∙ value_of_numeral k

pub some_digit : (n : ℕ) → 0 < length (numeral n)
some_digit = by_digits (λ m ds. 0 < length ds) (λ m l. omega arith) (λ m ds l h. omega (arith, length-append ds ((48 + m % 10) ∷ [])))

-- the same, where what is printed stands in a text
pub numeral_is : (k : ℕ) → k < 2 ^ 64 → decimal k ≡ numeral k
numeral_is k small = sym (printed k small)

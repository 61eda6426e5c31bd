-- One to seven digits are at most 9,999,999.
use Rattle.std.proofs.Common.{◌≡◌, ℕ, zero, suc, ◌+◌, ◌*◌, ◌-◌, ◌≤◌, true, ◌&&◌, [], ◌∷◌, length, fold, refl, arith}
use Rattle.std.proofs.lemmas.Bool.{and_parts, le-leb, leb-true}
use Rattle.std.proofs.lemmas.Bool.Decides.{nat_tests}
use Rattle.std.specs.Char.{is_ascii_digit}
use Rattle.std.specs.List.{list_all}
use Rattle.std.specs.Prelude.{nat_le, Some, None}
use Rattle.sql_read.specs.Lexis.{Bytes, decimal, integer_within, max_integer}
use Rattle.query_read.specs.Days.{has_span_form}

top : ℕ → ℕ → ℕ
top m zero = m
top m (suc k) = top (10 * m + 9) k

digit_most : (b : ℕ) → is_ascii_digit b ≡ true → b ≤ 57
digit_most b h = grind (arith, nat_tests)

below_top : (z : Bytes) (n m : ℕ) → n ≤ m → list_all is_ascii_digit z ≡ true → fold (λ n b. 10 * n + (b - 48)) n z ≤ top m (length z)
unfolding top
below_top [] n m le h = le
below_top (b ∷ z) n m le h =
    let parts = and_parts (is_ascii_digit b) (list_all is_ascii_digit z) h in
    let d = digit_most b parts.0 in
    below_top z (10 * n + (b - 48)) (10 * m + 9) (omega (arith, le, d)) parts.1

top_most : (n : ℕ) → n ≤ 7 → top 0 n ≤ 9999999
unfolding top
top_most zero h = omega arith
top_most (suc zero) h = omega arith
top_most (suc (suc zero)) h = omega arith
top_most (suc (suc (suc zero))) h = omega arith
top_most (suc (suc (suc (suc zero)))) h = omega arith
top_most (suc (suc (suc (suc (suc zero))))) h = omega arith
top_most (suc (suc (suc (suc (suc (suc zero)))))) h = omega arith
top_most (suc (suc (suc (suc (suc (suc (suc zero))))))) h = omega arith
top_most (suc (suc (suc (suc (suc (suc (suc (suc n)))))))) h = absurd (omega arith)

pub span_most : (z : Bytes) → length z ≤ 7 → list_all is_ascii_digit z ≡ true → decimal z ≤ 9999999
span_most z short h = omega (arith, below_top z 0 0 (omega arith) h, top_most (length z) short)

pub span_value : (z : Bytes) → has_span_form z ≡ true → decimal z ≤ 9999999
span_value z h =
    let outer = and_parts (nat_le 1 (length z) && nat_le (length z) 7) (list_all is_ascii_digit z) h in
    let inner = and_parts (nat_le 1 (length z)) (nat_le (length z) 7) outer.0 in
    span_most z (leb-true (length z) 7 inner.1) outer.1

-- so they are an integer, and no greater one
pub not_wide : (z : Bytes) → has_span_form z ≡ true → None ≡ integer_within z → ⊥
not_wide z h e =
    let fits : nat_le (decimal z) max_integer ≡ true = le-leb (decimal z) max_integer (let m = span_value z h in omega (arith, m)) in
    let x : integer_within z ≡ Some (decimal z) = rw fits refl in
    cc

pub not_long : (z : Bytes) (n : ℕ) → has_span_form z ≡ true → Some n ≡ integer_within z → n ≤ 9999999
not_long z n h e =
    let fits : nat_le (decimal z) max_integer ≡ true = le-leb (decimal z) max_integer (let m = span_value z h in omega (arith, m)) in
    let x : integer_within z ≡ Some (decimal z) = rw fits refl in
    let same : n ≡ decimal z = cc in
    let m = span_value z h in
    omega (arith, m, same)

-- What stands at the front of a text, case by case.
use Rattle.std.proofs.Common.{◌≡◌, ℕ, ◌+◌, ◌≤◌, Bool, true, false, ◌&&◌, ◌==◌, ◌++◌, take, drop, refl, if◌then◌else◌, arith}
use Rattle.std.specs.Prelude.{nat_le, nat_lt, slice_index, Some, None}
use Rattle.std.specs.Char.{is_ascii_alphabetic, is_ascii_digit}
use Rattle.std.proofs.lemmas.Bool.{eqb-true, leb-true, ltb-false}
use Rattle.sql_read.specs.declared.kind.Kind.{Kind}
use Rattle.sql_read.specs.declared.kind.Kind.TheVariants as k
use Rattle.sql_read.specs.declared.lexis.Class.TheVariants as class
use Rattle.sql_read.specs.declared.lexis.Piece.{Piece}
use Rattle.sql_read.specs.Lexis.{Bytes, front, is_in, run_len, word, decimal, max_integer, max_scale, if_within, integer_within, valued, has_fraction, number, quoted, sign, plain}

-- what is neither a word nor a number nor a literal, or is a bad token
abbrev pub is_sign : Kind → Bool
is_sign k.Name = false
is_sign k.Quoted = false
is_sign kind = true

abbrev pub is_numeral : Kind → Bool
is_numeral k.Digits = true
is_numeral k.Fraction = true
is_numeral kind = false

module _ (P : Piece → Type 0) where
  either : (c : Bool) (p q : Piece) → P p → P q → P (if c then p else q)
  either true p q a b = a
  either false p q a b = b

  where_true : (c : Bool) (p q : Piece) → (c ≡ true → P p) → P q → P (if c then p else q)
  where_true true p q a b = a refl
  where_true false p q a b = b

  of_sign : ((kind : Kind) (len : ℕ) → is_sign kind ≡ true → P (plain kind len)) → (b second : ℕ) → P (sign b second)
  unfolding sign
  of_sign s b second =
      either (b == 40) _ _ (s k.OpenParen 1 refl) (either (b == 41) _ _ (s k.CloseParen 1 refl) (either (b == 44) _ _ (s k.Comma 1 refl) (either (b == 46) _ _ (s k.Dot 1 refl)
      (either (b == 59) _ _ (s k.Semicolon 1 refl) (either (b == 42) _ _ (s k.Star 1 refl) (either (b == 43) _ _ (s k.Plus 1 refl) (either (b == 45) _ _ (s k.Minus 1 refl)
      (either (b == 47) _ _ (s k.Slash 1 refl) (either (b == 61) _ _ (s k.Equal 1 refl)
      (either (b == 60) _ _ (either (second == 62) _ _ (s k.Differs 2 refl) (either (second == 61) _ _ (s k.LessEqual 2 refl) (s k.Less 1 refl)))
      (either (b == 62) _ _ (either (second == 61) _ _ (s k.GreaterEqual 2 refl) (s k.Greater 1 refl))
      (s k.BadToken 1 refl))))))))))))

  -- a number that is within what a number may be, or a token without a value
  of_number : ((kind : Kind) (len n scale : ℕ) → is_numeral kind ≡ true → n ≤ max_integer → scale ≤ max_scale → P (record { kind = kind; len = len; value = n; scale = scale })) → ((len : ℕ) → P (plain k.TooWide len)) → (z : Bytes) → P (number z)
  of_number number_does wide_does z = either (has_fraction whole z) _ _ (of_scale (nat_lt max_scale part) refl) (of_value k.Digits whole 0 (decimal (take whole z)) refl (omega arith))
    where
      whole : ℕ
      whole = run_len class.Digit z

      part : ℕ
      part = run_len class.Digit (drop (whole + 1) z)

      of_value : (kind : Kind) (len scale n : ℕ) → is_numeral kind ≡ true → scale ≤ max_scale → P (valued kind len scale (if_within n))
      of_value kind len scale n numeral few = by_test (nat_le n max_integer) refl
        where
          by_test : (c : Bool) → nat_le n max_integer ≡ c → P (valued kind len scale (if c then Some n else None))
          by_test true e = number_does kind len n scale numeral (leb-true n max_integer e) few
          by_test false e = wide_does len

      of_scale : (c : Bool) → nat_lt max_scale part ≡ c → P (if c then plain k.TooWide (whole + 1 + part) else valued k.Fraction (whole + 1 + part) part (integer_within (take whole z ++ take part (drop (whole + 1) z))))
      of_scale true e = wide_does (whole + 1 + part)
      of_scale false e = of_value k.Fraction (whole + 1 + part) part (decimal (take whole z ++ take part (drop (whole + 1) z))) refl (ltb-false max_scale part e)

  -- a word, a number, a literal, or a piece without a value
  pub of_front : (z : Bytes) → (is_ascii_alphabetic (slice_index z 0) ≡ true → P (word z))
      → ((kind : Kind) (len n scale : ℕ) → is_numeral kind ≡ true → n ≤ max_integer → scale ≤ max_scale → P (record { kind = kind; len = len; value = n; scale = scale })) → (slice_index z 0 ≡ 39 → P (quoted z))
      → ((kind : Kind) (len : ℕ) → is_sign kind ≡ true → P (plain kind len)) → P (front z)
  unfolding front
  of_front z at_word at_number at_quote s =
      let b = slice_index z 0 in
      either (is_in class.Blank b) _ _ (s k.Blank (1 + run_len class.Blank (drop 1 z)) refl)
      (either (b == 45 && slice_index z 1 == 45) _ _ (s k.Blank (1 + run_len class.Line (drop 1 z)) refl)
      (where_true (is_ascii_alphabetic b) _ _ at_word
      (either (is_ascii_digit b) _ _ (of_number at_number (λ len. s k.TooWide len refl) z)
      (where_true (b == 39) _ _ (λ e. at_quote (eqb-true b 39 e)) (of_sign s b (slice_index z 1))))))

-- The laws of names: a name has one number, so that names of two numbers differ.
use Rattle.std.specs.Prelude.{◌≡◌, ◌≢◌, ℕ, ◌+◌, ◌^◌, ◌<◌, ◌≤◌, true, false, ◌++◌}
use Rattle.std.specs.Fmt.{decimal}
use Rattle.std.specs.Str.{bytes_eq}
use Rattle.programs.specs.Mentions.{Label}
use Rattle.program_writers.specs.Numerals.{numeral}
use Rattle.program_writers.specs.Names.{is_word, ends_number, HasNumber, IsBelow, IsFrom}
use Rattle.program_writers.specs.Writers.{numbered}

pub record NameLaws : Type 0 where
  -- what is printed of a number of 64 bits
  pub printed : (k : ℕ) → k < 2 ^ 64 → numeral k ≡ decimal k
  pub distinct : (j k : ℕ) → numeral j ≡ numeral k → j ≡ k
  -- names of two numbers differ
  pub one_number : (j k : ℕ) (name : Label) → HasNumber j name → HasNumber k name → j ≡ k
  pub differ : (j k : ℕ) (m n : Label) → HasNumber j m → HasNumber k n → j ≢ k → bytes_eq m n ≡ false
  pub below_differs : (k l : ℕ) (m n : Label) → IsBelow k m → IsFrom k l n → bytes_eq m n ≡ false
  pub from_differs : (k l : ℕ) (m n : Label) → IsBelow k m → IsFrom k l n → bytes_eq n m ≡ false
  -- a word and a number, and what may follow
  pub numbered_has : (word : Label) (k : ℕ) → is_word word ≡ true → HasNumber k (numbered word k)
  pub followed_has : (word rest : Label) (k : ℕ) → is_word word ≡ true → ends_number rest ≡ true → HasNumber k (numbered word k ++ rest)
  -- a greater bound
  pub below_more : (k l : ℕ) (name : Label) → k ≤ l → IsBelow k name → IsBelow l name
  pub below_next : (k : ℕ) (name : Label) → HasNumber k name → IsBelow (k + 1) name
  pub from_is_below : (k l : ℕ) (name : Label) → IsFrom k l name → IsBelow l name

-- The names that parts give: a word without digits, a number, and what may follow it, which begins with no digit. So names of two numbers differ.
use Rattle.std.specs.Prelude.{◌≡◌, ℕ, ◌<◌, ◌≤◌, Bool, true, not, [], ◌∷◌, ◌++◌}
use Rattle.std.specs.List.{list_all}
use Rattle.std.specs.Char.{is_ascii_digit}
use Rattle.programs.specs.Mentions.{Label}
use Rattle.program_writers.specs.Numerals.{numeral}

abbrev pub is_word : Label → Bool
is_word word = list_all (λ b. not (is_ascii_digit b)) word

abbrev pub ends_number : Label → Bool
ends_number [] = true
ends_number (b ∷ rest) = not (is_ascii_digit b)

-- a name of this number
pub record HasNumber (k : ℕ) (name : Label) : Type 0 where
  pub word : Label
  pub rest : Label
  pub is : name ≡ word ++ (numeral k ++ rest)
  pub apart : is_word word ≡ true
  pub ends : ends_number rest ≡ true

-- a name whose number is below k; one from k on and below l
pub record IsBelow (k : ℕ) (name : Label) : Type 0 where
  pub number : ℕ
  pub has : HasNumber number name
  pub less : number < k

pub record IsFrom (k l : ℕ) (name : Label) : Type 0 where
  pub number : ℕ
  pub has : HasNumber number name
  pub least : k ≤ number
  pub less : number < l

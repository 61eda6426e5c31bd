-- Columns in the making.
use Rattle.std.specs.Prelude.{ℕ, ℤ, Bool, true, false, List, Option, FitsSigned, ⊤}
use Rattle.std.specs.Option.{ForSome}
use Rattle.std.specs.Int.{w64}

-- room for so many slots, whether they are kept in 128 bits, and those so far
pub record MakerValue : Type 0 where
  pub room : ℕ
  pub wide : Bool
  pub slots : List (Option ℤ)

-- a slot of a column that is not wide is empty or fits 64 bits
abbrev pub MayKeep : Bool → Option ℤ → Type 0
MayKeep true slot = ⊤
MayKeep false slot = ForSome slot (λ x. FitsSigned w64 x)

-- Columns in the making, whose numbers are kept in 64 bits while they can be.
use Rattle.std.specs.Prelude.{ℕ, ℤ, List, Option}

-- room for so many slots, and those so far
pub record BuilderValue : Type 0 where
  pub room : ℕ
  pub slots : List (Option ℤ)

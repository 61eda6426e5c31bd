-- The numbers of a column in the making.
use Rattle.std.specs.Prelude.{ℕ, ℤ, Bool, true, false, List, FitsSigned, vec_capacity, ⊤}
use Rattle.std.specs.Int.{w64}
use Rattle.struct_vectors.specs.declared.makers.Numbers.{Numbers}
use Rattle.struct_vectors.specs.declared.makers.Numbers.TheVariants.{Narrow, Wide}

abbrev pub is_wide : Numbers → Bool
is_wide (Narrow xs) = false
is_wide (Wide xs) = true

abbrev pub numbers_in : Numbers → List ℤ
numbers_in (Narrow xs) = xs.items
numbers_in (Wide xs) = xs.items

abbrev pub capacity_of : Numbers → ℕ
capacity_of (Narrow xs) = vec_capacity xs
capacity_of (Wide xs) = vec_capacity xs

-- a number that is not kept in 128 bits fits 64
abbrev pub MayHold : Bool → ℤ → Type 0
MayHold true x = ⊤
MayHold false x = FitsSigned w64 x

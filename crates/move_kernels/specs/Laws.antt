-- A kernel over a stretch gives that stretch of the whole operator, and so over the whole stretch the whole of it (operators over structured vectors: Voodoo, PVLDB 9(14), 2016, table 2).
use Rattle.std.specs.Prelude.{◌≡◌, ℕ, ◌+◌, ◌*◌, ◌≤◌, ℤ, true, false, List, length, Ok}
use Rattle.std.specs.List.Sorted.{IsPermutation}
use Rattle.control_vectors.specs.Slots.{Slot, cells_of, numbers}
use Rattle.slot_moves.specs.Moves.{gathered, scattered, bucketed}
use Rattle.slot_moves.specs.Crosses.{left_places, right_places}
use Rattle.move_kernels.specs.Kernels.{stretch, gathered_from, scattered_from, bucketed_from, crossed_from}

pub record StretchLaws : Type 0 where
  pub gather : (xs positions : List Slot) (first n : ℕ) → gathered_from (cells_of xs) (cells_of positions) first n ≡ Ok (stretch (gathered xs positions) first n)
  pub scatter : (xs positions : List Slot) (first n size : ℕ) → first + n ≤ size → scattered_from (cells_of xs) (cells_of positions) first n ≡ Ok (stretch (scattered size xs positions) first n)
  pub bucket : (keys pivots : List Slot) (sorted : List ℤ) (first n : ℕ) → IsPermutation (numbers pivots) sorted → bucketed_from sorted (cells_of keys) first n ≡ Ok (stretch (bucketed keys pivots) first n)
  pub left : (k m first n : ℕ) → first + n ≤ k * m → crossed_from m true first n ≡ stretch (left_places k m) first n
  pub right : (k m first n : ℕ) → first + n ≤ k * m → crossed_from m false first n ≡ stretch (right_places k m) first n

pub record WholeLaws : Type 0 where
  pub gather : (xs positions : List Slot) → gathered_from (cells_of xs) (cells_of positions) 0 (length positions) ≡ Ok (gathered xs positions)
  pub scatter : (xs positions : List Slot) (size : ℕ) → scattered_from (cells_of xs) (cells_of positions) 0 size ≡ Ok (scattered size xs positions)
  pub bucket : (keys pivots : List Slot) (sorted : List ℤ) → IsPermutation (numbers pivots) sorted → bucketed_from sorted (cells_of keys) 0 (length keys) ≡ Ok (bucketed keys pivots)
  pub left : (k m : ℕ) → crossed_from m true 0 (k * m) ≡ left_places k m
  pub right : (k m : ℕ) → crossed_from m false 0 (k * m) ≡ right_places k m

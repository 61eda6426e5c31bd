-- Worked examples of the kernels.
use Rattle.std.specs.Prelude.{◌≡◌, ℤ, pos, neg_ℤ, true, false, List, [], ◌∷◌, map, Some, None, Ok, Err}
use Rattle.control_vectors.specs.Slots.{Cell, over}
use Rattle.move_kernels.specs.Kernels.{gathered_from, scattered_from, bucketed_from, crossed_from}

-- 10, 20, 30, each at its place
abbrev pub tens : List Cell
tens = map (λ z. Ok (Some z)) (pos 10 ∷ pos 20 ∷ pos 30 ∷ [])

-- the same, where the second leaves 128 bits
abbrev pub tens_over : List Cell
tens_over = Ok (Some (pos 10)) ∷ Err over ∷ Ok (Some (pos 30)) ∷ []

abbrev pub numbered : List ℤ → List Cell
numbered zs = map (λ z. Ok (Some z)) zs

pub record ScatterExamples : Type 0 where
  -- to 1, 1 and 5: the last writer stays, and 5 is no place of three
  pub whole : scattered_from tens (numbered (pos 1 ∷ pos 1 ∷ pos 5 ∷ [])) 0 3 ≡ Ok (None ∷ Some (pos 20) ∷ None ∷ [])
  pub part : scattered_from tens (numbered (pos 1 ∷ pos 1 ∷ pos 5 ∷ [])) 1 1 ≡ Ok (Some (pos 20) ∷ [])
  pub behind : scattered_from tens (numbered (pos 1 ∷ pos 1 ∷ pos 5 ∷ [])) 4 2 ≡ Ok (None ∷ Some (pos 30) ∷ [])
  -- an empty slot is written too; an empty position and one below 0 name no place
  pub empties : scattered_from (Ok (Some (pos 10)) ∷ Ok None ∷ Ok (Some (pos 30)) ∷ Ok (Some (pos 40)) ∷ []) (Ok (Some (pos 0)) ∷ Ok (Some (pos 0)) ∷ Ok None ∷ Ok (Some (neg_ℤ (pos 1))) ∷ []) 0 2 ≡ Ok (None ∷ None ∷ [])
  -- a source without a position, and a position without a source, are read and write nothing
  pub more_sources : scattered_from tens (numbered (pos 0 ∷ [])) 0 1 ≡ Ok (Some (pos 10) ∷ [])
  pub more_positions : scattered_from tens (numbered (pos 2 ∷ pos 1 ∷ pos 0 ∷ pos 0 ∷ [])) 0 1 ≡ Ok (Some (pos 30) ∷ [])
  pub over_source : scattered_from tens_over (numbered (pos 0 ∷ [])) 0 1 ≡ Err over
  pub over_position : scattered_from (numbered (pos 10 ∷ [])) (Ok (Some (pos 0)) ∷ Err over ∷ []) 0 0 ≡ Err over

pub record GatherExamples : Type 0 where
  -- from the second position on: empty for an empty position and for one that is no place
  pub part : gathered_from tens (Err over ∷ Ok (Some (pos 2)) ∷ Ok None ∷ Ok (Some (pos 3)) ∷ Ok (Some (neg_ℤ (pos 1))) ∷ []) 1 4 ≡ Ok (Some (pos 30) ∷ None ∷ None ∷ None ∷ [])
  pub over_position : gathered_from tens (Err over ∷ Ok (Some (pos 2)) ∷ []) 0 2 ≡ Err over
  -- every slot of the source is read
  pub over_source : gathered_from tens_over (numbered (pos 0 ∷ [])) 0 1 ≡ Err over

pub record BucketExamples : Type 0 where
  pub part : bucketed_from (pos 1 ∷ pos 2 ∷ pos 2 ∷ []) (Err over ∷ Ok (Some (pos 2)) ∷ Ok None ∷ Ok (Some (pos 0)) ∷ []) 1 3 ≡ Ok (Some (pos 3) ∷ None ∷ Some (pos 0) ∷ [])
  pub over_key : bucketed_from (pos 1 ∷ []) (Ok (Some (pos 2)) ∷ Err over ∷ []) 0 2 ≡ Err over

pub record CrossExamples : Type 0 where
  -- of the pairs with 3 places, those from the third on
  pub left : crossed_from 3 true 2 4 ≡ Some (pos 0) ∷ Some (pos 1) ∷ Some (pos 1) ∷ Some (pos 1) ∷ []
  pub right : crossed_from 3 false 2 4 ≡ Some (pos 2) ∷ Some (pos 0) ∷ Some (pos 1) ∷ Some (pos 2) ∷ []

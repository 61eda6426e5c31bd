-- Marks: for each place of a list whether a run begins there (controlled folds: Voodoo, PVLDB 9(14), 2016, section 2.2).
use Rattle.std.specs.Prelude.{◌≡◌, ℕ, ◌<◌, ◌≤◌, ◌^◌, Bool, true, false, List, length, filter, Some, slice_get, slice_index_or}
use Rattle.std.specs.List.{range_with_len}

-- at most 2^22 places, of which the first begins a run
pub record AreMarks (marks : List Bool) : Type 0 where
  pub few : length marks ≤ 2 ^ 22
  pub first : 0 < length marks → slice_get marks 0 ≡ Some true

-- the places at which a run begins, ascending
abbrev pub starts_of : List Bool → List ℕ
starts_of marks = filter (λ i. slice_index_or marks i false) (range_with_len 0 (length marks))

-- the least place above another at which a run begins, or the length where there is none
pub record IsNextStart (marks : List Bool) (after next : ℕ) : Type 0 where
  pub above : after < next
  pub within : next ≤ length marks
  pub start : next < length marks → slice_get marks next ≡ Some true
  pub between : (k : ℕ) → after < k → k < next → slice_get marks k ≡ Some false

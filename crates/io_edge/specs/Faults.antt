-- Counts of faults: how often the outside failed, and what comes only with a fault.
use Rattle.std.specs.Prelude.{ℕ, ◌+◌, ◌-◌, ◌^◌, ◌≤◌, min, Result, OnErr}

-- the greatest count: one that has come so far stands still there
abbrev pub last_count : ℕ
last_count = 2 ^ 64 - 1

-- a count after one fault more
abbrev pub next_count : ℕ → ℕ
next_count n = min (n + 1) last_count

-- in a call a count rose: it grew, or it stands at its end
abbrev pub Rose : ℕ → ℕ → Type 0
Rose before now = next_count before ≤ now

-- a count never falls, and rises where the call fails
pub record HasCause {T E : Type 0} (before now : ℕ) (result : Result T E) : Type 0 where
  pub later : before ≤ now
  pub failed : OnErr result (Rose before now)

-- Worked rows of generated tables, worked out by hand.
use Rattle.std.specs.Prelude.{◌≡◌, ℕ, ◌+◌, List, codes, pos, ◌^◌, ◌-◌}
use Rattle.civil_days.specs.Examples.{IsDay}
use Rattle.data_make.specs.Job.{first_day, made_row, made_table}

abbrev pub IsRow : ℕ → ℕ → List ℕ → Type 0
IsRow seed i written = made_row seed i ≡ written

abbrev pub IsTable : ℕ → ℕ → List ℕ → Type 0
IsTable seed rows written = made_table seed rows ≡ written

pub record WorkedTables : Type 0 where
  -- the first date and the last that can be drawn
  pub first : IsDay (codes "1992-01-01") (pos first_day)
  pub last : IsDay (codes "1998-12-31") (pos (first_day + 2556))
  pub two_rows : IsTable 1 2 (codes "id,kind,shipped,amount\n1,RAIL,1992-05-22,-387349\n2,TRUCK,1992-02-06,-282617\n")
  -- each kind, the ends of the dates, a leap day, and an amount above 0
  pub first_date : IsRow 0 439 (codes "439,TRUCK,1992-01-01,477213\n")
  pub last_date : IsRow 1 1652 (codes "1652,AIR,1998-12-31,-475336\n")
  pub leap_day : IsRow 0 2048 (codes "2048,SHIP,1992-02-29,-9506\n")
  -- the greatest seed and the last row; a seed counts by its rest alone
  pub greatest : IsRow (2 ^ 63 - 1) 1048576 (codes "1048576,RAIL,1996-06-17,-334733\n")
  pub rest : IsRow 1000004 1 (codes "1,RAIL,1992-05-22,-387349\n")

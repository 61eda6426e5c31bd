-- What a grammar of queries asks of its tokens beside their order.
use Rattle.std.specs.Prelude.{Bool, true, false}

pub record Asked : Type 0 where
  -- that the text of a DATE is a date
  pub dates : Bool
  -- that the text of an INTERVAL is a number of days
  pub spans : Bool
  -- that a step of a date stays in the range of dates
  pub ranges : Bool

-- all of it
abbrev pub all : Asked
all = record { dates = true; spans = true; ranges = true }

-- none of it
abbrev pub order_alone : Asked
order_alone = record { dates = false; spans = false; ranges = false }

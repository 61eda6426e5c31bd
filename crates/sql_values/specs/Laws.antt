-- What an order of values is: total, and two values that neither is below the other are one.
use Rattle.std.specs.Prelude.{◌≡◌}
use Rattle.std.specs.declared.cmp.Ordering.{Ordering}
use Rattle.std.specs.declared.cmp.Ordering.TheVariants.{Equal}
use Rattle.std.specs.Cmp.{IsTotalOrder}
use Rattle.sql_values.specs.Texts.{by_bytes}
use Rattle.sql_values.specs.Values.{by_value}

-- a total order, in which those that are alike are one
pub record IsOrder {V : Type 0} (cmp : V → V → Ordering) : Type 0 where
  pub total : IsTotalOrder cmp
  pub alike : (a b : V) → cmp a b ≡ Equal → a ≡ b

abbrev pub TextOrder : Type 0
TextOrder = IsOrder by_bytes

abbrev pub ValueOrder : Type 0
ValueOrder = IsOrder by_value

-- The worked fields, computed.
use Rattle.std.proofs.Common.{refl}
use Rattle.number_fields.specs.Examples.{WorkedDecimals, WorkedIntegers}

pub worked_integers : WorkedIntegers
worked_integers = (refl, refl, refl, refl, refl, refl, refl, refl, refl, refl, refl)

pub worked_decimals : WorkedDecimals
worked_decimals = (refl, refl, refl, refl, refl, refl, refl, refl, refl, refl, refl, refl, refl, refl, refl, refl, refl, refl, refl, refl, refl, refl, refl, refl, refl, refl, refl, refl, refl, refl, refl, refl, refl, refl)

-- The worked examples, computed.
use Rattle.std.proofs.Common.{refl}
use Rattle.std.specs.Str.{is_utf8, chars}
use Rattle.std.specs.Str.Lossy.{utf8_valid_len}
use Rattle.civil_days.proofs.Computing.{days_of_years, days_of_months, day_count, days_from_civil}
use Rattle.dict_codes.specs.Ascending.{ascending}
use Rattle.table_load.specs.Tables.{rows_after}
use Rattle.table_load.specs.Examples.{WorkedColumns, WorkedFields, WorkedTables}

pub worked_fields : WorkedFields
unfolding is_utf8 chars utf8_valid_len lib.Utf8.encode days_from_civil day_count days_of_years days_of_months
worked_fields = (refl, refl, refl, refl, refl, refl, refl, refl, refl, refl, refl, refl, refl, refl, refl, refl, refl, refl, refl, refl, refl, refl, refl, refl)

pub worked_tables : WorkedTables
unfolding is_utf8 chars utf8_valid_len lib.Utf8.encode days_from_civil day_count days_of_years days_of_months rows_after
worked_tables = (refl, refl, refl, refl, refl, refl, refl, refl, refl, refl, refl, refl, refl, refl, refl, refl)

pub worked_columns : WorkedColumns
unfolding ascending
worked_columns = (refl, refl, refl, refl, refl, refl, refl)

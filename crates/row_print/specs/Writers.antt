-- A writer between two rows.
use Rattle.std.specs.Prelude.{◌≡◌, true, false}
use Rattle.csv.specs.Writing.{default_writer, fields_written, has_written, with_flexible, writer_setup}
use Rattle.csv.specs.declared.writer.Writer.{Writer}

-- it stands at the defaults, but takes rows of any number of fields, and no row is begun
pub record IsBetweenRows {W : Type 0} (w : Writer W) : Type 0 where
  pub setup : writer_setup w ≡ with_flexible default_writer true
  pub fields : fields_written w ≡ 0
  pub wrote : has_written w ≡ false

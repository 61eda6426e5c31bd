-- The numbers of a column's type: how wide a text is, how many digits a decimal has, and how many of them stand after the point.
-- After SQL-92 (ISO/IEC 9075:1992), 6.1 <data type>, with this project's limits.
use Rattle.std.specs.Prelude.{ℕ, ◌≤◌, ◌||◌, Bool, false, nat_lt, if◌then◌else◌}
use Rattle.sql_read.specs.declared.definition.ColumnKind.{ColumnKind}
use Rattle.sql_read.specs.declared.definition.ColumnKind.TheVariants as kind
use Rattle.sql_read.specs.declared.definition.ColumnDef.{ColumnDef}

abbrev pub is_outside : ℕ → ℕ → ℕ → Bool
is_outside least most n = nat_lt n least || nat_lt most n

-- the first number: a text is 1 to 255 bytes wide, and a decimal has 1 to 18 digits
abbrev pub is_bad_size : ColumnKind → ℕ → Bool
is_bad_size kind.Text width = is_outside 1 255 width
is_bad_size kind.Decimal precision = is_outside 1 18 precision
is_bad_size kind n = false

-- the second: at most all digits of a decimal stand after the point
abbrev pub is_bad_scale : ColumnKind → ℕ → ℕ → Bool
is_bad_scale kind.Decimal precision scale = nat_lt precision scale
is_bad_scale kind n scale = false

abbrev pub is_bad_width : ColumnDef → Bool
is_bad_width c = is_bad_size c.kind c.width || is_bad_scale c.kind c.width c.scale

-- the byte of the first of the two that is out of range
abbrev pub bad_width_at : ColumnDef → ℕ
bad_width_at c = if is_bad_size c.kind c.width then c.width_at else c.scale_at

-- ---- what is so of each column of a catalog

abbrev pub IsSizedAs : ColumnKind → ℕ → ℕ → Type 0
IsSizedAs kind.Text width scale = (1 ≤ width) × (width ≤ 255)
IsSizedAs kind.Decimal precision scale = (1 ≤ precision) × (precision ≤ 18) × (scale ≤ precision)
IsSizedAs kind width scale = Unit {0}

abbrev pub IsSized : ColumnDef → Type 0
IsSized c = IsSizedAs c.kind c.width c.scale

-- Attributes of a vector with their columns, however each is kept.
use Rattle.std.specs.Prelude.{ℕ, Bool, not, List, [], map, filter, take}
use Rattle.key_paths.specs.Substructures.{is_before, is_at_or_below}
use Rattle.struct_vectors.specs.Columns.{ColumnValue, narrow}
use Rattle.programs.specs.Mentions.{Label}
use Rattle.programs.specs.Moves.{moved}

abbrev pub Attributes : Type 0
Attributes = List (Label × ColumnValue)

abbrev pub no_column : ColumnValue
no_column = record { slots = []; form = narrow }

abbrev pub no_attribute : Label × ColumnValue
no_attribute = ([], no_column)

abbrev pub earlier : Label × ColumnValue → Label × ColumnValue → Bool
earlier t u = is_before t.0 u.0

-- the first n slots of a column, kept in the same way, and of each attribute
abbrev pub front_column : ℕ → ColumnValue → ColumnValue
front_column n c = record { slots = take n c.slots; form = c.form }

abbrev pub fronts : ℕ → Attributes → Attributes
fronts n attributes = map (λ t. (t.0, front_column n t.1)) attributes

-- the attributes at or below p, with q in place of p; those that are neither
abbrev pub moved_columns : Label → Label → Attributes → Attributes
moved_columns p q attributes = map (λ t. (moved p q t.0, t.1)) (filter (λ t. is_at_or_below t.0 p) attributes)

abbrev pub others_of : Label → Attributes → Attributes
others_of p attributes = filter (λ t. not (is_at_or_below t.0 p)) attributes

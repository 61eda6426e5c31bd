use Rattle.std.proofs.Common.{◌≡◌, ◌≤◌, ◌++◌, ◌-◌}
use Rattle.std.specs.List.{flat_map, range_with_len}
use Rattle.data_make.specs.Job as spec
use Rattle.data_make.proofs.rows.make_table.Given as goal

abbrev pub invariant-loop-i : goal.invariant-loop-i
invariant-loop-i l = (1 ≤ l.i) × (l.table.items ≡ spec.header ++ flat_map (spec.made_row l.fn.seed) (range_with_len 1 (l.i - 1)))

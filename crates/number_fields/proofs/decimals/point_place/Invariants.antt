use Rattle.std.proofs.Common.{◌≡◌, ◌+◌, drop}
use Rattle.std.specs.List.{position_or_len}
use Rattle.number_fields.specs.Decimals.{is_point, point_place}
use Rattle.number_fields.proofs.decimals.point_place.Given as goal

abbrev pub invariant-loop-i : goal.invariant-loop-i
invariant-loop-i l = point_place l.field ≡ l.i + position_or_len is_point (drop l.i l.field)

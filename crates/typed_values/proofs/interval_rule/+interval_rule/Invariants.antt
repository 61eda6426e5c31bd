use Rattle.std.proofs.Common.{◌≡◌, drop, map}
use Rattle.std.specs.List.{fold, list_all}
use Rattle.typed_values.specs.Bounds.{hull}
use Rattle.typed_values.specs.Narrow.{at_scale, bounds, comparable}
use Rattle.typed_values.proofs.interval_rule.+interval_rule.Given as goal

abbrev pub invariant-all_comparable-loop-y : goal.invariant-all_comparable-loop-y
invariant-all_comparable-loop-y l = list_all (λ y. comparable l.fn.x (bounds y)) l.others ≡ list_all (λ y. comparable l.fn.x (bounds y)) (drop l.y-index l.others)

abbrev pub invariant-chosen_bounds-loop-y : goal.invariant-chosen_bounds-loop-y
invariant-chosen_bounds-loop-y l = fold hull (at_scale l.fn.to l.fn.x) (map (λ y. at_scale l.fn.to (bounds y)) l.others) ≡ fold hull l.all (map (λ y. at_scale l.fn.to (bounds y)) (drop l.y-index l.others))

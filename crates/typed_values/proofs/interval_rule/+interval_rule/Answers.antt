use Rattle.std.proofs.Common.{◌∙◌, refl, sym, ap}
use Rattle.typed_trees.specs.Scales.{scale_of}
use Rattle.typed_values.specs.Narrow.{counted}
use Rattle.typed_values.proofs.Ranges.{in_bounds, chosen_bounds_are}
use Rattle.typed_values.proofs.interval_rule.+interval_rule.Goals as goal

pub bounds_of-returns-in-In : goal.bounds_of-returns-in-In
bounds_of-returns-in-In t c =
    rw (in_bounds c.args.e.now c.in-In.field-0 c.in-In.x c.in-In.others c.in-In.is, c.truth_if-in-In.ensures, c.all_comparable.ensures, c.bounds_of-in-In.ensures, c.get-in-In.ensures, c.as_slice.ensures) refl

pub bounds_of-returns-in-Coalesce : goal.bounds_of-returns-in-Coalesce
bounds_of-returns-in-Coalesce t c =
    rw (
      chosen_bounds_are c.args.e.now c.in-Coalesce.x c.in-Coalesce.others c.scale.result c.greatest_scale-to.result c.in-Coalesce.is
          (c.scale.ensures ∙ ap (λ x. counted (scale_of x)) c.get-in-Coalesce.ensures) (rw (sym c.as_slice-in-Coalesce.ensures) c.greatest_scale-to.ensures),
      c.chosen_bounds.ensures,
      c.bounds_of-in-Coalesce.ensures,
      c.get-in-Coalesce-2.ensures,
      c.as_slice-in-Coalesce-2.ensures,
    ) refl

use Rattle.control_plan.specs.Numbers.{is_comma}
use Rattle.control_plan.proofs.Splitting.{five_parts}
use Rattle.control_plan.proofs.numbers.four_parts.Goals as goal

pub returns-in-Some-cut_comma-3 : goal.returns-in-Some-cut_comma-3
returns-in-Some-cut_comma-3 c =
    five_parts is_comma c.args.text.now c.in-Some.first.now c.in-Some.rest.now c.in-Some-cut_comma.second.now c.in-Some-cut_comma.rest.now c.in-Some-cut_comma-2.third.now c.in-Some-cut_comma-2.fourth.now
    c.in-Some-cut_comma-3.field-0.0.now c.in-Some-cut_comma-3.field-0.1.now c.in-Some.ensures c.in-Some-cut_comma.ensures c.in-Some-cut_comma-2.ensures c.in-Some-cut_comma-3.ensures

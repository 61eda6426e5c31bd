use Rattle.std.proofs.Common.{arith, get_or, ◌-◌}
use Rattle.control_plan.proofs.NumberLaws.{few_digits}
use Rattle.control_plan.proofs.numbers.digits_in.Goals as goal

pub overflow_mul-value : goal.overflow_mul-value
overflow_mul-value c = omega (arith, few_digits c.digits.value c.digits.c-index 0 c.digits.invariant.below (omega arith) (omega arith))

pub overflow_add-value : goal.overflow_add-value
overflow_add-value c =
    let d = get_or c.args.digits.now c.digits.c-index 0 - 48 in
    let most = few_digits c.digits.value c.digits.c-index d c.digits.invariant.below (omega arith) (omega arith) in
    omega arith

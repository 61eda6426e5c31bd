use Rattle.control_plan.specs.Numbers.{is_comma}
use Rattle.control_plan.proofs.Splitting.{cut_at, cut_none}
use Rattle.control_plan.proofs.numbers.cut_comma.Goals as goal

pub returns-then-len-text : goal.returns-then-len-text
returns-then-len-text c = cut_at is_comma c.args.text.now c.comma_len-len.result c.comma_len-len.ensures.value c.if-len-text.true

pub returns-else-len-text : goal.returns-else-len-text
returns-else-len-text c = cut_none is_comma c.args.text.now c.comma_len-len.result c.comma_len-len.ensures.value c.if-len-text.false

use Rattle.std.proofs.Common.{sym, ◌∙◌, ap}
use Rattle.control_plan.specs.Words.{word_of}
use Rattle.control_plan.proofs.LineReading.{line_says}
use Rattle.control_plan.proofs.reading.take_line.Goals as goal

pub returns-in-Some : goal.returns-in-Some
returns-in-Some c =
    line_says c.args.line.now c.parted.result.1.now c.in-Some.word _ c.set.result _ (sym c.says_nothing.ensures ∙ c.if-says_nothing.false) (sym c.is_ascii.ensures ∙ c.if-not-is_ascii.false) (ap word_of (sym c.parted.ensures.word) ∙ sym c.in-Some.ensures) c.parted.ensures.value
    (sym c.is_empty.ensures ∙ c.if-not-is_empty.true) c.set.ensures

use Rattle.std.proofs.Common.{◌≡◌, ◌∙◌, ap, rules}
use Rattle.std.specs.Prelude.{unsigned_abs}
use Rattle.std.specs.Int.{w128}
use Rattle.std.proofs.lemmas.Int.{to_z-of_z}
use Rattle.answer_texts.specs.Dates.{civil_text}
use Rattle.answer_print.proofs.Civil.{dated}
use Rattle.answer_print.proofs.dates.civil_of.Goals as goal

pub returns : goal.returns
returns c =
    let year : unsigned_abs c.date_of-date.result.year ≡ c.unsigned_abs.result = search rules in
    dated c.date_law.ensures.printed c.date_of-date.result.year c.date_of-date.result.month c.date_of-date.result.day c.args.day c.date_of-date.ensures.civil (c.date_of-date.ensures.day ∙ to_z-of_z w128 c.args.day c.ranges.day) c.requires
    ∙ ap (λ y. civil_text y c.date_of-date.result.month c.date_of-date.result.day) year

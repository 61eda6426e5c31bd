use Rattle.std.proofs.Common.{◌∙◌, arith}
use Rattle.answer_print.proofs.Numerals.{pointed, both_ok}
use Rattle.answer_print.proofs.numbers.push_scaled.Goals as goal

pub returns : goal.returns
returns c =
    both_ok c.push_pointed.result _ _ _
    (pointed c.args.scale c.args.n c.as_bytes-digits.result.now c.args.text.now.items c.push_pointed.new.text.items c.if-scale-eq0.false (omega (arith, c.ranges.n.fits)) (c.as_bytes-digits.ensures.value ∙ c.format.ensures.text))
    c.push_pointed.ensures.small c.push_pointed.ensures.large

use Rattle.std.proofs.Common.{◌≡◌, ◌∙◌}
use Rattle.std.specs.Fmt.{decimal}
use Rattle.run_steps.proofs.line.write_place_line.Goals as goal

pub returns-clause-whole : goal.returns-clause-whole
returns-clause-whole g c =
    let place : c.as_bytes-place.result.now ≡ decimal c.args.at = c.as_bytes-place.ensures.value ∙ c.format.ensures.text in
    rw (← place, ← c.as_bytes.ensures.value) c.write_pieces.ensures.whole

pub returns-clause-prefix : goal.returns-clause-prefix
returns-clause-prefix g c =
    let place : c.as_bytes-place.result.now ≡ decimal c.args.at = c.as_bytes-place.ensures.value ∙ c.format.ensures.text in
    rw (← place, ← c.as_bytes.ensures.value) c.write_pieces.ensures.prefix

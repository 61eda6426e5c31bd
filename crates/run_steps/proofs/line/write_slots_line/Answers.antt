use Rattle.std.proofs.Common.{◌≡◌, ◌∙◌}
use Rattle.std.specs.Fmt.{decimal}
use Rattle.run_steps.proofs.line.write_slots_line.Goals as goal

pub returns-clause-whole : goal.returns-clause-whole
returns-clause-whole g c =
    let count : c.as_bytes-count.result.now ≡ decimal c.args.number = c.as_bytes-count.ensures.value ∙ c.format.ensures.text in
    rw (← count) c.write_pieces.ensures.whole

pub returns-clause-prefix : goal.returns-clause-prefix
returns-clause-prefix g c =
    let count : c.as_bytes-count.result.now ≡ decimal c.args.number = c.as_bytes-count.ensures.value ∙ c.format.ensures.text in
    rw (← count) c.write_pieces.ensures.prefix

use Rattle.voodoo_text.proofs.ReadingLines.{text_is, no_text, gives_same}
use Rattle.voodoo_text.specs.Reading.{lines, read_lines, read_text}
use Rattle.voodoo_text.proofs.read_text.read_program.Goals as goal

pub returns-in-Ok-clause-value : goal.returns-in-Ok-clause-value
returns-in-Ok-clause-value c = gives_same (read_text c.args.bytes.now) (read_lines 1 (lines c.args.bytes.now)) c.read_lines.result (text_is c.args.bytes.now c.in-Ok.ensures.cases.1) c.read_lines.ensures.value

pub returns-in-Err-clause-value : goal.returns-in-Err-clause-value
returns-in-Err-clause-value c = λ memory. no_text c.args.bytes.now c.in-Err.ensures.cases.0

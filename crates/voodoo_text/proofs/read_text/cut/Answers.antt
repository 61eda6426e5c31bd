use Rattle.std.proofs.Common.{◌+◌, ap, sym, ◌∙◌, arith}
use Rattle.std.proofs.lemmas.List.{take_rest}
use Rattle.voodoo_text.specs.Tokens.{tokens}
use Rattle.voodoo_text.specs.Values.{Bytes}
use Rattle.voodoo_text.specs.Reading.{lines, with_line, read_lines}
use Rattle.std.specs.Prelude.{take}
use Rattle.voodoo_text.proofs.ReadingLines.{cut_at, cut_none}
use Rattle.voodoo_text.proofs.read_text.cut.Goals as goal

pub returns-then-len-bytes-clause-first : goal.returns-then-len-bytes-clause-first
returns-then-len-bytes-clause-first c = λ n.
    cut_at c.args.bytes.now c.line_len-len.result n c.line_len-len.ensures.value c.if-len-bytes.true
    ∙ ap (λ (z : Bytes). with_line n (tokens (take c.line_len-len.result c.args.bytes.now)) (read_lines (n + 1) (lines z))) (sym (take_rest c.args.bytes.now (c.line_len-len.result + 1)))

pub returns-else-len-bytes-clause-first : goal.returns-else-len-bytes-clause-first
returns-else-len-bytes-clause-first c = λ n. cut_none c.args.bytes.now c.line_len-len.result n c.line_len-len.ensures.value (omega (arith, c.if-len-bytes.false))

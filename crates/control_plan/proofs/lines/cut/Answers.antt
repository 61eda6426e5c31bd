use Rattle.std.proofs.Common.{inl}
use Rattle.control_plan.specs.Lines.{is_feed}
use Rattle.control_plan.proofs.Splitting.{cut_at, last_line}
use Rattle.control_plan.proofs.lines.cut.Goals as goal

pub returns-then-len-bytes-clause-lines : goal.returns-then-len-bytes-clause-lines
returns-then-len-bytes-clause-lines c = inl (cut_at is_feed c.args.bytes.now c.line_len-len.result c.line_len-len.ensures.value c.if-len-bytes.true)

pub returns-else-len-bytes-clause-lines : goal.returns-else-len-bytes-clause-lines
returns-else-len-bytes-clause-lines c = last_line c.args.bytes.now c.line_len-len.result c.line_len-len.ensures.value c.if-len-bytes.false

use Rattle.std.proofs.Common.{arith}
use Rattle.voodoo_text.proofs.read_text.read_lines.Goals as goal

pub take_line-requires : goal.take_line-requires
take_line-requires c = omega (arith, c.cut.ensures.within, c.lines.invariant.from, c.lines.invariant.room, c.requires)

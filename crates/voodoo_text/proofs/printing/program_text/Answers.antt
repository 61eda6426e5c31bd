use Rattle.voodoo_text.proofs.RoundTrip.{printed}
use Rattle.voodoo_text.proofs.printing.program_text.Goals as goal

pub returns-clause-read : goal.returns-clause-read
returns-clause-read c =
    printed c.statements.text.items c.args.p.now c.statements.rest.now c.requires c.in_default.len_below c.statements.invariant.text c.statements.invariant.ranges

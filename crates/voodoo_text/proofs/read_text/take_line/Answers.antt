use Rattle.std.proofs.Common.{sym, subst}
use Rattle.voodoo_text.specs.Spelled.{CanBeSpelled}
use Rattle.voodoo_text.proofs.ReadingLines.{spelled_more}
use Rattle.voodoo_text.proofs.read_text.take_line.Goals as goal

pub returns-in_ok-append_number-in-Ok-clause-names : goal.returns-in_ok-append_number-in-Ok-clause-names
returns-in_ok-append_number-in-Ok-clause-names c = λ h.
    subst CanBeSpelled (sym c.in_ok-append_statement-in-Ok.ensures) (spelled_more c.args.statements.now.items c.in-Ok.statement c.in-Ok.ensures.names h)

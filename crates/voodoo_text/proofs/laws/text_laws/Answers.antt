use Rattle.voodoo_text.proofs.RoundTrip.{text_laws}
use Rattle.voodoo_text.proofs.laws.text_laws.Goals as goal

pub returns : goal.returns
returns c = text_laws

use Rattle.voodoo_text.proofs.Words.{word_laws}
use Rattle.voodoo_text.proofs.laws.word_laws.Goals as goal

pub returns : goal.returns
returns c = word_laws

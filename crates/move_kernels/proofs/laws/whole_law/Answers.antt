use Rattle.move_kernels.proofs.KernelLaws.{whole_laws}
use Rattle.move_kernels.proofs.laws.whole_law.Goals as goal

pub returns : goal.returns
returns c = whole_laws

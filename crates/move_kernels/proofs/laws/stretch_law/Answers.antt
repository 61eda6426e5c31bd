use Rattle.move_kernels.proofs.KernelLaws.{stretch_laws}
use Rattle.move_kernels.proofs.laws.stretch_law.Goals as goal

pub returns : goal.returns
returns c = stretch_laws

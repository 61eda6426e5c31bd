use Rattle.programs.specs.Vectors.{seen_all, tables}
use Rattle.voodoo_ops.specs.Envs.{env_in}
use Rattle.voodoo_ops.proofs.Evaluated.{Going}
use Rattle.voodoo_ops.proofs.evaluate.run_reached.Given as goal

abbrev pub invariant-loop-i : goal.invariant-loop-i
invariant-loop-i l = Going (tables l.store) (env_in l.made) l.statements l.i (seen_all l.named.items)

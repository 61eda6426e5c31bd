use Rattle.programs.specs.Vectors.{seen}
use Rattle.voodoo_ops.specs.Envs.{env_in}
use Rattle.voodoo_ops.proofs.Kept.{advances, keeps_then}
use Rattle.voodoo_ops.proofs.evaluate.add_vector.Goals as goal

pub returns : goal.returns
returns c =
    let before = env_in c.args.made.now in
    let middle = env_in c.forget.new.made in
    advances {A = Unit {0}} c.args.later tt before middle (env_in c.put.new.self) c.args.s.now.name (seen c.in_ok-v.v) _ c.in_ok-v.ensures.made c.in_ok-put.ensures (keeps_then c.args.later before (env_in c.make.new.made) middle c.in_ok-v.ensures.kept c.forget.ensures)

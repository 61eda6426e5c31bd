use Rattle.std.proofs.Common.{ap, sym, ◌∙◌, Ok}
use Rattle.std.specs.Prelude.{Result}
use Rattle.control_vectors.specs.declared.Over.{Over}
use Rattle.programs.specs.Faults.{path_clash}
use Rattle.programs.specs.Outlines.{outline_of}
use Rattle.programs.specs.Vectors.{Vector, known, seen}
use Rattle.voodoo_ops.specs.Envs.{env_in}
use Rattle.voodoo_ops.proofs.Crosses.{crossed_is}
use Rattle.voodoo_ops.proofs.ranges.cross_made.Goals as goal

pub zip-requires : goal.zip-requires
zip-requires c =
    let a = known (env_in c.args.made.now c.args.a.now) in
    let b = known (env_in c.args.made.now c.args.b.now) in
    let n = c.len-n.ensures.len ∙ ap (λ (v : Vector). v.len) c.vector.ensures.vector in
    let m = c.len-m.ensures.len ∙ ap (λ (v : Vector). v.len) c.vector-2.ensures.vector in
    ap (λ (v : Vector). path_clash (outline_of v)) (crossed_is c.args.p.now c.args.q.now c.len-n.result c.len-m.result a b (seen c.in_ok-left.left) (seen c.in_ok-right.right) c.left_column.result.slots c.right_column.result.slots c.in_ok-left.ensures c.in_ok-right.ensures c.left_column.ensures c.right_column.ensures n m)
    ∙ c.requires.clear

pub returns : goal.returns
returns c =
    let a = known (env_in c.args.made.now c.args.a.now) in
    let b = known (env_in c.args.made.now c.args.b.now) in
    let n = c.len-n.ensures.len ∙ ap (λ (v : Vector). v.len) c.vector.ensures.vector in
    let m = c.len-m.ensures.len ∙ ap (λ (v : Vector). v.len) c.vector-2.ensures.vector in
    let is = crossed_is c.args.p.now c.args.q.now c.len-n.result c.len-m.result a b (seen c.in_ok-left.left) (seen c.in_ok-right.right) c.left_column.result.slots c.right_column.result.slots c.in_ok-left.ensures c.in_ok-right.ensures c.left_column.ensures c.right_column.ensures n m in
    ap (λ (v : Vector). let r : Result Vector Over = Ok v in r) (sym (c.in_ok-zip.ensures ∙ is))

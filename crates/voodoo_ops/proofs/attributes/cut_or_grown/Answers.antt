use Rattle.std.proofs.Common.{◌≤◌, length, sym, ◌∙◌, arith}
use Rattle.std.proofs.lemmas.List.{take_all}
use Rattle.voodoo_ops.proofs.Listed.{resized_take}
use Rattle.voodoo_ops.proofs.attributes.cut_or_grown.Goals as goal

pub returns-then-len-n : goal.returns-then-len-n
returns-then-len-n c =
    let xs = c.args.column.slots in
    let few : c.args.n ≤ length xs = omega (arith, c.if-len-n.true, c.len.ensures.len) in
    let all : length xs ≤ c.args.n = omega (arith, c.if-len-n.true, c.len.ensures.len) in
    sym (take_all c.args.n xs all) ∙ resized_take c.args.n xs few

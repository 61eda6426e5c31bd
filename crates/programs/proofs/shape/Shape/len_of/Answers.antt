use Rattle.std.proofs.Common.{◌≡◌, ◌<◌, ◌-◌, length, ap, ◌∙◌, arith, None, List}
use Rattle.programs.specs.Check.{limit_of}
use Rattle.programs.specs.Outlines.{Outline}
use Rattle.programs.proofs.ShapeLaws.{all_short}
use Rattle.programs.proofs.shape.Shape.len_of.Goals as goal

pub overflow_cast-result : goal.overflow_cast-result
overflow_cast-result c =
    let items : c.self.inside.outlines.items ≡ c.args.self.now = c.self.view_is in
    let none : limit_of c.self.inside.outlines.items ≡ None = ap limit_of items ∙ c.requires.within in
    let count : length c.self.inside.outlines.items ≡ length c.args.self.now = ap (λ (l : List Outline). length l) items in
    let within : c.args.statement - 1 < length c.self.inside.outlines.items = omega (arith, c.requires.from, c.requires.to) in
    let short = all_short 1 c.self.inside.outlines.items none (c.args.statement - 1) c.index.result.now within in
    let same = ap (λ (o : Outline). o.len) c.index.ensures in
    omega (arith, c.len.ensures, short, same)

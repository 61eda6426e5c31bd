use Rattle.std.proofs.Common.{ap, ◌∙◌, sym, length}
use Rattle.programs.specs.Check.{Known}
use Rattle.programs.specs.Outlines.{outlines}
use Rattle.programs.specs.MadeOutlines.{made_outline}
use Rattle.programs.specs.Vectors.{tables}
use Rattle.programs.specs.Parts.{known_in}
use Rattle.programs.proofs.ShapeLaws.{length_behind}
use Rattle.programs.proofs.CheckSteps.{sound_of, drafted_clear, learned_one}
use Rattle.programs.proofs.check.check_statement.Goals as goal

pub of-requires : goal.of-requires
of-requires c =
    let T = outlines (tables c.args.store.now) in
    let known = known_in c.args.known in
    let op = c.args.s.now.op in
    drafted_clear _ (made_outline T known.vectors op) (rw c.in-Some-made.is at c.in_ok-made.ensures) (sound_of T known c.args.s.now.name op (sym c.in_default.ensures)).clear

pub returns-clause-count : goal.returns-clause-count
returns-clause-count c =
    ap (λ (k : Known). length k.shape) c.in_ok-learn-in-Some-made.ensures ∙ length_behind (known_in c.args.known) c.args.s.now.name c.args.s.now.op _

pub returns-clause-checked : goal.returns-clause-checked
returns-clause-checked c =
    let T = outlines (tables c.args.store.now) in
    let known = known_in c.args.known in
    let s = c.args.s.now in
    learned_one T known _ s.name s.op _ c.in_default.ensures (c.of.ensures ∙ (rw c.in-Some-made.is at c.in_ok-made.ensures)) c.in_ok-learn-in-Some-made.ensures

use Rattle.std.proofs.Common.{◌<◌, length, ◌∙◌, take, subst, sym, arith}
use Rattle.std.proofs.lemmas.Grind.{common_steps}
use Rattle.voodoo_text.specs.Tokens.{HasForm}
use Rattle.voodoo_text.specs.declared.lexis.Piece.{Piece}
use Rattle.voodoo_text.proofs.Tokens.{taken, front_formed}
use Rattle.voodoo_text.proofs.line.Line.take.Goals as goal

pub returns-clause-tokens : goal.returns-clause-tokens
returns-clause-tokens c =
    let some : 0 < length c.skip_blanks-after_name.result.0.now = grind (arith, common_steps) in
    taken c.args.self.now c.skip_blanks-after_name.result.0.now c.skip_blanks-after_name.result.1 c.is_name-self-inside.result c.front-piece.result
    (sym c.self.view_is ∙ c.skip_blanks-after_name.ensures.same) some c.skip_blanks-after_name.ensures.stops c.front-piece.ensures.value c.front-piece.ensures.within.0 c.is_name-self-inside.ensures

pub returns-clause-form : goal.returns-clause-form
returns-clause-form c =
    let z = c.skip_blanks-after_name.result.0.now in
    let P : Piece → Type 0 = λ p. HasForm p.kind (take p.len z) in
    subst P (sym c.front-piece.ensures.value) (front_formed c.skip_blanks-after_name.result.1 z)

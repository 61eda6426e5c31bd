use Rattle.std.proofs.Common.{◌∙◌, sym}
use Rattle.voodoo_text.proofs.SameKinds.{form_of}
use Rattle.voodoo_text.proofs.places.expect.Goals as goal

pub returns-in-Some-clause-form : goal.returns-in-Some-clause-form
returns-in-Some-clause-form c = form_of c.in-Some.token.kind c.args.kind c.in-Some.token.word.now (sym c.same_kind.ensures ∙ c.if-same_kind.true) c.in-Some.ensures.form

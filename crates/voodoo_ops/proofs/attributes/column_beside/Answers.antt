use Rattle.std.proofs.Common.{ap, sym, subst, ◌∙◌}
use Rattle.programs.specs.Vectors.{Env, known, slots_of}
use Rattle.voodoo_ops.specs.Attributes.{resized}
use Rattle.voodoo_ops.specs.Reading.{HasAttribute}
use Rattle.voodoo_ops.proofs.attributes.column_beside.Goals as goal

pub attribute-requires-in-None : goal.attribute-requires-in-None
attribute-requires-in-None c = subst (λ (e : Env). HasAttribute e c.args.b.now c.args.q.now) (sym c.in-None.ensures.same) c.requires.attribute

pub returns-in_ok-copy-in-None-clause-slots : goal.returns-in_ok-copy-in-None-clause-slots
returns-in_ok-copy-in-None-clause-slots c =
    c.in_ok-copy-in-None.ensures ∙ ap (resized c.args.n) c.attribute-in-None.ensures.slots
    ∙ ap (λ (e : Env). resized c.args.n (slots_of (known (e c.args.b.now)).attributes c.args.q.now)) c.in-None.ensures.same

use Rattle.std.proofs.Common.{rules, arith, sym, ◌∙◌}
use Rattle.std.proofs.lemmas.Grind.{common_steps}
use Rattle.query_types.proofs.Parts.{and-parts, binary-alone, other-alone}
use Rattle.query_types.proofs.conjuncts.+add_parts.Goals as goal

pub returns-then-not-is_and-clause-given : goal.returns-then-not-is_and-clause-given
returns-then-not-is_and-clause-given t c = rw (binary-alone c.args.e c.in-Binary.op c.in-Binary.x c.in-Binary.y c.in-Binary.is (sym c.is_and.ensures ∙ c.if-not-is_and.true)) c.add.ensures.given

pub returns-in_ok-add_parts-in-Binary-clause-given : goal.returns-in_ok-add_parts-in-Binary-clause-given
returns-in_ok-add_parts-in-Binary-clause-given t c = rw (and-parts c.args.e c.in-Binary.op c.in-Binary.x c.in-Binary.y c.in-Binary.is (grind arith)) (first_of (search rules, grind (arith, common_steps)))

pub returns-in_default : goal.returns-in_default
returns-in_default t c = record {
  given = rw (other-alone c.args.e c.in_default.not-Binary) c.add-in_default.ensures.given;
  only = c.add-in_default.ensures.only;
}

use Rattle.std.proofs.Common.{refl, ap, sym}
use Rattle.sql_types.specs.Catalog.{findings, decided, catalog_of}
use Rattle.sql_types.proofs.FirstFindings.{first_of-none, first_of-some}
use Rattle.sql_types.proofs.catalog_of_schema.Catalog.new.Goals as goal

pub invariant_of-result : goal.invariant_of-result
invariant_of-result c = first_of-none (findings c.args.defs.items) (sym (rw c.as_slice.ensures.value at c.in-None.ensures))

pub returns-in-None-clause-made : goal.returns-in-None-clause-made
returns-in-None-clause-made c = (refl, first_of-none (findings c.args.defs.items) (sym (rw c.as_slice.ensures.value at c.in-None.ensures)))

pub returns-in-None-clause-answer : goal.returns-in-None-clause-answer
unfolding catalog_of
returns-in-None-clause-answer c = ap (decided c.args.defs.items) (sym (rw c.as_slice.ensures.value at c.in-None.ensures))

pub returns-in-Some-clause-refused : goal.returns-in-Some-clause-refused
returns-in-Some-clause-refused c = first_of-some (findings c.args.defs.items) c.in-Some.p (sym (rw c.as_slice.ensures.value at c.in-Some.ensures))

pub returns-in-Some-clause-answer : goal.returns-in-Some-clause-answer
unfolding catalog_of
returns-in-Some-clause-answer c = ap (decided c.args.defs.items) (sym (rw c.as_slice.ensures.value at c.in-Some.ensures))

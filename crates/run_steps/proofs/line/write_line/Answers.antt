use Rattle.std.proofs.Common.{◌≡◌, refl}
use Rattle.std.specs.Prelude.{codes}
use Rattle.run_steps.specs.declared.status.UsageKind.{UsageKind}
use Rattle.run_steps.specs.declared.status.UsageKind.TheVariants.{Words}
use Rattle.run_steps.specs.declared.status.Status.TheVariants.{Usage}
use Rattle.run_steps.specs.Statuses.{status_line}
use Rattle.run_steps.proofs.line.write_line.Goals as goal

-- there is one kind of bad words
usage_line : (kind : UsageKind) → status_line (Usage kind) ≡ codes "voodoo: usage: Words\n"
usage_line Words = refl

pub returns-in-Usage-Words-clause-prefix : goal.returns-in-Usage-Words-clause-prefix
returns-in-Usage-Words-clause-prefix g c = rw (c.in-Usage-Words.is, usage_line c.in-Usage-Words.field-0) c.write_all-in-Usage-Words.ensures.prefix

pub returns-in-ReadFault-clause-whole : goal.returns-in-ReadFault-clause-whole
returns-in-ReadFault-clause-whole g c = rw c.in-ReadFault.is c.write_role_line.ensures.whole

pub returns-in-ReadFault-clause-prefix : goal.returns-in-ReadFault-clause-prefix
returns-in-ReadFault-clause-prefix g c = rw c.in-ReadFault.is c.write_role_line.ensures.prefix

pub returns-in-WriteFault-clause-whole : goal.returns-in-WriteFault-clause-whole
returns-in-WriteFault-clause-whole g c = rw c.in-WriteFault.is c.write_all-in-WriteFault.ensures.whole

pub returns-in-WriteFault-clause-prefix : goal.returns-in-WriteFault-clause-prefix
returns-in-WriteFault-clause-prefix g c = rw c.in-WriteFault.is c.write_all-in-WriteFault.ensures.prefix

pub returns-in-NotYet-clause-whole : goal.returns-in-NotYet-clause-whole
returns-in-NotYet-clause-whole g c = rw c.in-NotYet.is c.write_role_line-in-NotYet.ensures.whole

pub returns-in-NotYet-clause-prefix : goal.returns-in-NotYet-clause-prefix
returns-in-NotYet-clause-prefix g c = rw c.in-NotYet.is c.write_role_line-in-NotYet.ensures.prefix

pub returns-in-NoMemory-clause-whole : goal.returns-in-NoMemory-clause-whole
returns-in-NoMemory-clause-whole g c = rw c.in-NoMemory.is c.write_all-in-NoMemory.ensures.whole

pub returns-in-NoMemory-clause-prefix : goal.returns-in-NoMemory-clause-prefix
returns-in-NoMemory-clause-prefix g c = rw c.in-NoMemory.is c.write_all-in-NoMemory.ensures.prefix

pub returns-in-Overflow-clause-prefix : goal.returns-in-Overflow-clause-prefix
returns-in-Overflow-clause-prefix g c = rw c.in-Overflow.is c.write_all-in-Overflow.ensures.prefix

pub returns-in-SchemaRefused-clause-whole : goal.returns-in-SchemaRefused-clause-whole
returns-in-SchemaRefused-clause-whole g c = rw (c.in-SchemaRefused.is, ← c.schema_cause_name.ensures) c.write_place_line.ensures.whole

pub returns-in-SchemaRefused-clause-prefix : goal.returns-in-SchemaRefused-clause-prefix
returns-in-SchemaRefused-clause-prefix g c = rw (c.in-SchemaRefused.is, ← c.schema_cause_name.ensures) c.write_place_line.ensures.prefix

pub returns-in-QueryRefused-clause-whole : goal.returns-in-QueryRefused-clause-whole
returns-in-QueryRefused-clause-whole g c = rw (c.in-QueryRefused.is, ← c.query_cause_name.ensures) c.write_place_line-in-QueryRefused.ensures.whole

pub returns-in-QueryRefused-clause-prefix : goal.returns-in-QueryRefused-clause-prefix
returns-in-QueryRefused-clause-prefix g c = rw (c.in-QueryRefused.is, ← c.query_cause_name.ensures) c.write_place_line-in-QueryRefused.ensures.prefix

pub returns-in-Overflow-clause-whole : goal.returns-in-Overflow-clause-whole
returns-in-Overflow-clause-whole g c = rw c.in-Overflow.is c.write_all-in-Overflow.ensures.whole

pub returns-in-AlgebraRefused-clause-whole : goal.returns-in-AlgebraRefused-clause-whole
returns-in-AlgebraRefused-clause-whole g c = rw (c.in-AlgebraRefused.is, ← c.algebra_cause_name.ensures) c.write_place_line-in-AlgebraRefused.ensures.whole

pub returns-in-AlgebraRefused-clause-prefix : goal.returns-in-AlgebraRefused-clause-prefix
returns-in-AlgebraRefused-clause-prefix g c = rw (c.in-AlgebraRefused.is, ← c.algebra_cause_name.ensures) c.write_place_line-in-AlgebraRefused.ensures.prefix

use Rattle.std.proofs.Common.{refl}
use Rattle.voodoo_ops.specs.Envs.{env_in}
use Rattle.slot_wise.specs.declared.source.Source.TheVariants.{Column}
use Rattle.voodoo_ops.proofs.Readings.{reads_column}
use Rattle.voodoo_ops.proofs.reading.operand.Goals as goal

pub returns-in-Column : goal.returns-in-Column
returns-in-Column c =
    reads_column (env_in c.args.made.now) c.in-Column.a c.in-Column.p c.args.x.now (Column c.attribute.result) c.attribute.result.now.slots c.in-Column.is (λ i. refl) c.attribute.ensures.len c.attribute.ensures.slots

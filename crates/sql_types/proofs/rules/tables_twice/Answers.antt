use Rattle.std.proofs.Common.{sym, ◌∙◌, ap, take, arith}
use Rattle.std.proofs.lemmas.Grind.{common_steps}
use Rattle.sql_types.specs.Findings.{noted}
use Rattle.sql_types.specs.Catalog.{with_earlier, is_later_table, table_twice}
use Rattle.sql_types.proofs.FindingFolds.{first_from-picked, with_earlier_more, length-with_earlier}
use Rattle.sql_types.proofs.rules.tables_twice.Goals as goal

pub loop-i-preserved : goal.loop-i-preserved
loop-i-preserved c =
    c.with_table-best.ensures
    ∙ ap (λ b. noted is_later_table table_twice b (take c.loop-i.i c.args.defs.now, c.index-defs-i.result)) c.loop-i.invariant
    ∙ sym (with_earlier_more (noted is_later_table table_twice) c.args.first c.args.defs.now c.loop-i.i c.index-defs-i.result c.loop-i-test.true c.index-defs-i.is)

pub returns : goal.returns
returns c =
    let n = length-with_earlier c.args.defs.now in
    rw (first_from-picked is_later_table table_twice c.args.first (with_earlier c.args.defs.now)) (grind (arith, common_steps))

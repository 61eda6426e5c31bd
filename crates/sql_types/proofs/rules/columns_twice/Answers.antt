use Rattle.std.proofs.Common.{sym, ◌∙◌, ap, take, arith}
use Rattle.std.proofs.lemmas.Grind.{common_steps}
use Rattle.sql_types.specs.Findings.{noted}
use Rattle.sql_types.specs.Catalog.{with_earlier, is_later_column, column_twice}
use Rattle.sql_types.proofs.FindingFolds.{first_from-picked, with_earlier_more, length-with_earlier}
use Rattle.sql_types.proofs.rules.columns_twice.Goals as goal

pub loop-i-preserved : goal.loop-i-preserved
loop-i-preserved c =
    c.with_column-best.ensures
    ∙ ap (λ b. noted is_later_column column_twice b (take c.loop-i.i c.as_slice-columns.result.now, c.index-columns-i.result)) c.loop-i.invariant
    ∙ sym (with_earlier_more (noted is_later_column column_twice) c.args.first c.as_slice-columns.result.now c.loop-i.i c.index-columns-i.result c.loop-i-test.true c.index-columns-i.is)

pub returns : goal.returns
returns c =
    let n = length-with_earlier c.args.t.now.columns in
    rw (first_from-picked is_later_column column_twice c.args.first (with_earlier c.args.t.now.columns)) (grind (arith, common_steps))

use Rattle.std.proofs.Common.{◌<◌, ap, arith, length, subst}
use Rattle.std.specs.Io.KnownBytes.{Appends}
use Rattle.std.proofs.KnownBytes.{Appends-trans}
use Rattle.programs.specs.Vectors.{seen, seen_all}
use Rattle.row_print.proofs.Growing.{on_err, prefix_next}
use Rattle.row_print.proofs.Rows.{results_more, results_split, seen_at, seen_length}
use Rattle.row_print.proofs.results.write_results.Goals as goal

pub returns-in_err-write_result-clause-prefix : goal.returns-in_err-write_result-clause-prefix
returns-in_err-write_result-clause-prefix g c =
    let within : c.loop-e.e-index < length (seen_all c.args.r.now) = omega (arith, c.loop-e-test.true, ap length c.named-e-items.ensures, seen_length c.args.r.now) in
    on_err c.from_residual.result _ (prefix_next _ _ _ _ _ _ _
    (results_split (seen_all c.args.r.now) c.loop-e.e-index (c.e-item.result.0, seen c.e-item.result.1) within (seen_at c.args.r.now c.named-e-items.result.now c.loop-e.e-index c.e-item.result c.named-e-items.ensures c.loop-e-test.true c.e-item.is))
    c.loop-e.invariant.1 c.in_err-write_result.ensures.prefix)

pub loop-e-preserved : goal.loop-e-preserved
loop-e-preserved g c =
    let within : c.loop-e.e-index < length (seen_all c.args.r.now) = omega (arith, c.loop-e-test.true, ap length c.named-e-items.ensures, seen_length c.args.r.now) in (
      omega (arith, c.loop-e.invariant.0, c.write_result.ensures.later),
      subst (Appends _ _) (results_more (seen_all c.args.r.now) c.loop-e.e-index (c.e-item.result.0, seen c.e-item.result.1) within (seen_at c.args.r.now c.named-e-items.result.now c.loop-e.e-index c.e-item.result c.named-e-items.ensures c.loop-e-test.true c.e-item.is)) (Appends-trans _ _ _ _ _ c.loop-e.invariant.1 c.in_ok-write_result.ensures.whole),
    )

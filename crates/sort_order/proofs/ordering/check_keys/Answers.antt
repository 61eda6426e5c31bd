use Rattle.std.proofs.Common.{arith}
use Rattle.sort_order.proofs.CellLaws.{any_at, any_more, any_all}
use Rattle.sort_order.proofs.ordering.check_keys.Goals as goal

pub returns-in-Err : goal.returns-in-Err
returns-in-Err g c = any_at (g.K.KeySource.keys c.args.keys.now) c.loop-k.k (omega (arith, c.loop-k-test.true, c.count-k-end.ensures.count)) c.in-Err.ensures

pub loop-k-preserved : goal.loop-k-preserved
loop-k-preserved g c = any_more (g.K.KeySource.keys c.args.keys.now) c.loop-k.k (omega (arith, c.loop-k-test.true, c.count-k-end.ensures.count)) c.loop-k.invariant c.in-Ok.ensures

pub returns : goal.returns
returns g c = any_all (g.K.KeySource.keys c.args.keys.now) c.loop-k.k (omega (arith, c.loop-k-test.false, c.count-k-end.ensures.count)) c.loop-k.invariant

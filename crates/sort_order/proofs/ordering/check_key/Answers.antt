use Rattle.std.proofs.Common.{get_or, arith}
use Rattle.sort_order.specs.Keys.{no_key}
use Rattle.sort_order.proofs.CellLaws.{over_at, clear_more, clear_all}
use Rattle.sort_order.proofs.ordering.check_key.Goals as goal

pub returns-in-Err : goal.returns-in-Err
returns-in-Err g c = over_at (get_or (g.K.KeySource.keys c.args.keys.now) c.args.k no_key).cells c.loop-i.i c.in-Err.field-0 c.in-Err.ensures

pub loop-i-preserved : goal.loop-i-preserved
loop-i-preserved g c = clear_more (get_or (g.K.KeySource.keys c.args.keys.now) c.args.k no_key).cells c.loop-i.i c.in-Ok.field-0 c.loop-i.invariant c.in-Ok.ensures

pub returns : goal.returns
returns g c =
    let cells = (get_or (g.K.KeySource.keys c.args.keys.now) c.args.k no_key).cells in
    let even = c.len-i-end.ensures.even c.args.k c.requires in
    clear_all cells c.loop-i.i (omega (arith, even, c.len-i-end.ensures.len, c.loop-i-test.false)) c.loop-i.invariant

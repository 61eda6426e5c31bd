use Rattle.std.proofs.Common.{arith}
use Rattle.std.specs.List.{range_with_len}
use Rattle.query_types.proofs.Lists.{range_taken}
use Rattle.query_types.proofs.sources.all_places.Goals as goal

pub loop-i-preserved : goal.loop-i-preserved
loop-i-preserved c = rw (c.in_ok-push.ensures.ok) (range_taken (range_with_len 0 c.args.n) c.loop-i.places c.loop-i.i c.args.n (omega arith) c.loop-i.invariant)

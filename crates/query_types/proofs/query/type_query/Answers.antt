use Rattle.query_types.proofs.Narrow.{narrow}
use Rattle.query_types.proofs.query.type_query.Goals as goal

pub typed-requires : goal.typed-requires
typed-requires c = narrow c.defs.result.now c.defs.ensures.sound

use Rattle.attribute_origins.proofs.laws.checked_laws.Goals as goal
use Rattle.attribute_origins.proofs.Outlined.{outlines, has_trace}
use Rattle.attribute_origins.proofs.Leading.{origins}

pub returns : goal.returns
returns c = record { outlines = outlines; traced = has_trace; origins = origins }

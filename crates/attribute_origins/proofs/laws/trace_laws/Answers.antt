use Rattle.attribute_origins.proofs.laws.trace_laws.Goals as goal
use Rattle.attribute_origins.proofs.Composing.{traces_from-append, traces_from-frame, within}

pub returns : goal.returns
returns c = record { composes = traces_from-append; frame = traces_from-frame; within = within }

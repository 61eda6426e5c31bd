use Rattle.std.proofs.Common.{Ok, rules}
use Rattle.slot_columns.proofs.Listings.{listed_slots}
use Rattle.slot_columns.proofs.listed.slots_of.Goals as goal

pub returns-in-Ok : goal.returns-in-Ok
returns-in-Ok g c = λ slot gives.
    listed_slots slot c.in-Ok.column.slots c.args.n (c.in-Ok.ensures (λ i. Ok (slot i)) (λ i r h e. search rules))

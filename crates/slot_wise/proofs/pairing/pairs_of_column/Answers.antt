use Rattle.slot_wise.proofs.pairing.pairs_of_column.Goals as goal

pub returns-in-Some : goal.returns-in-Some
returns-in-Some g c = λ slot gives. rw c.in-Some.ensures.1 (c.pairs_from.ensures slot gives)

pub returns-in-Some-narrow_slice : goal.returns-in-Some-narrow_slice
returns-in-Some-narrow_slice g c = λ slot gives. rw c.in-Some-narrow_slice.ensures.1 (c.pairs_from-in-Some-narrow_slice.ensures slot gives)

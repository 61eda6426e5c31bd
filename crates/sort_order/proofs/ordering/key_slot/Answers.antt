use Rattle.std.proofs.Common.{get_or, sym, ◌∙◌, arith}
use Rattle.std.proofs.lemmas.Bool.{false≢true}
use Rattle.sort_order.specs.Keys.{no_key}
use Rattle.sort_order.proofs.CellLaws.{over_at, slot_there, slot_past, key_clear}
use Rattle.sort_order.proofs.ordering.key_slot.Goals as goal

pub returns-then-i-len : goal.returns-then-i-len
returns-then-i-len g c =
    let even = c.len.ensures.even c.args.k c.requires.key in
    sym (slot_past (get_or (g.K.KeySource.keys c.args.keys.now) c.args.k no_key).cells c.args.i (omega (arith, even, c.len.ensures.len, c.if-i-len.true)))

pub returns-in-Ok : goal.returns-in-Ok
returns-in-Ok g c =
    let keys = g.K.KeySource.keys c.args.keys.now in
    sym (slot_there (get_or keys c.args.k no_key).cells c.args.i c.in-Ok.s (key_clear keys c.args.k c.requires.clear) c.in-Ok.ensures)

pub returns-in-Err : goal.returns-in-Err
returns-in-Err g c =
    let keys = g.K.KeySource.keys c.args.keys.now in
    absurd (false≢true (sym (key_clear keys c.args.k c.requires.clear) ∙ over_at (get_or keys c.args.k no_key).cells c.args.i c.in-Err.field-0 c.in-Err.ensures))

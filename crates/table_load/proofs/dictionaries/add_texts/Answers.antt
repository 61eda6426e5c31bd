use Rattle.std.proofs.Common.{◌≤◌, ◌^◌, ap, arith, length, length-append, take}
use Rattle.std.proofs.lemmas.List.{length-take}
use Rattle.table_load.proofs.TextCounts.{held_few}
use Rattle.table_load.proofs.dictionaries.add_texts.Goals as goal

pub returns-clause-few : goal.returns-clause-few
returns-clause-few c =
    let t = c.table.inside in
    let items = c.as_slice-text-items.result.now in
    let taken = take c.loop-text.text-index items in
    let narrow : length t.are_texts.items ≤ 64 = rw (← c.table.view_is) at c.requires.narrow in
    let few : length t.texts.items ≤ 2 ^ 26 = held_few t.texts.items t.are_texts.items t.columns.items t.count c.table.invariant narrow in
    omega (arith, ap length c.loop-text.invariant, length-append c.args.texts.now.items taken, length-take c.loop-text.text-index items, ap length c.as_slice-text-items.ensures.value, few)

use Rattle.std.proofs.Common.{◌∙◌, ap}
use Rattle.std.proofs.lemmas.List.{take_all}
use Rattle.table_load.proofs.DictionaryFacts.{distinct_texts, made_of_tables}
use Rattle.table_load.proofs.dictionaries.dictionary_of_tables.Goals as goal

pub returns : goal.returns
returns c =
    let all = take_all c.loop-table.table-index c.args.tables.now c.loop-table-test.false in
    made_of_tables c.from_texts.result c.args.tables.now c.loop-table.texts.items (c.loop-table.invariant.texts_are ∙ ap distinct_texts all) c.from_texts.ensures.ascending c.from_texts.ensures.same

use Rattle.std.proofs.Common.{rules, ◌≡◌, ◌∙◌, ◌++◌, ◌∷◌, [], pos, ap, sym, map, take}
use Rattle.std.proofs.lemmas.List.{map_more}
use Rattle.dict_codes.specs.Dictionaries.{rank_in}
use Rattle.table_load.proofs.dictionaries.codes_of.Goals as goal

pub loop-text-preserved : goal.loop-text-preserved
loop-text-preserved c =
    let dictionary = c.args.dictionary.now in
    let pushed : c.push.new.self.items ≡ c.loop-text.codes.items ++ pos (rank_in dictionary c.text-item.result) ∷ [] = search rules in
    pushed
    ∙ ap (λ l. l ++ pos (rank_in dictionary c.text-item.result) ∷ []) c.loop-text.invariant
    ∙ ap (λ t. map (λ t. pos (rank_in dictionary t)) (take c.loop-text.text-index c.args.texts.now) ++ pos (rank_in dictionary t) ∷ []) c.text-item.is
    ∙ sym (map_more (λ t. pos (rank_in dictionary t)) c.args.texts.now c.loop-text.text-index c.text-item.result c.loop-text-test.true)

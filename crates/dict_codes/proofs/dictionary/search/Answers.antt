use Rattle.std.proofs.Common.{rules}
use Rattle.std.proofs.lemmas.Fn.{always_returns_same}
use Rattle.sql_values.specs.Texts.{by_bytes}
use Rattle.dict_codes.proofs.DictionaryLaws.{found_at, missing_at, sorted_from_ascending}
use Rattle.dict_codes.proofs.dictionary.search.Goals as goal

pub returns-in-Ok : goal.returns-in-Ok
returns-in-Ok c =
    let found = found_at c.args.texts.now c.args.text.now c.in-Ok.at (sorted_from_ascending _ c.requires) c.in-Ok.ensures.bound
    (c.in-Ok.ensures.position (λ y. by_bytes y c.args.text.now) (always_returns_same _ _ _ (λ a r f' k. (search rules, search rules))))
    in
    record { below = found.0; among = found.1; within = search rules }

pub returns-in-Err : goal.returns-in-Err
returns-in-Err c =
    let missing = missing_at c.args.texts.now c.args.text.now c.in-Err.at (sorted_from_ascending _ c.requires) c.in-Err.ensures.bound
    (c.in-Err.ensures.position (λ y. by_bytes y c.args.text.now) (always_returns_same _ _ _ (λ a r f' k. (search rules, search rules))))
    in
    record { below = missing.0; among = missing.1; within = search rules }

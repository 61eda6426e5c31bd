use Rattle.std.proofs.Common.{◌≡◌, rules}
use Rattle.std.specs.Ordering.{is_lt}
use Rattle.std.proofs.lemmas.Cmp.{nat_list_cmp_total}
use Rattle.std.proofs.lemmas.List.Sorted.{ranks_by, answers_always}
use Rattle.sql_values.specs.Texts.{by_bytes}
use Rattle.dict_codes.proofs.dictionary.sort.Goals as goal

pub returns-clause-sorted : goal.returns-clause-sorted
returns-clause-sorted c =
    c.sort_unstable_by.ensures.sorted (λ a b. is_lt (by_bytes a b)) (ranks_by nat_list_cmp_total (λ a. a))
    (answers_always _ (λ a r. is_lt r ≡ is_lt (by_bytes a.0.now a.1.0.now)) _ (λ f a r f' k. search rules))

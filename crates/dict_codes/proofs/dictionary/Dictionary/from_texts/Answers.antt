use Rattle.std.proofs.Common.{sym, arith}
use Rattle.std.proofs.lemmas.Cmp.{nat_list_cmp_total}
use Rattle.std.proofs.lemmas.List.Sorted.{Contains-permutation, IsPermutation-sym, length_permutation}
use Rattle.dict_codes.proofs.AscendingLaws.{ascending-is}
use Rattle.dict_codes.proofs.DictionaryLaws.{sorted_from_ascending}
use Rattle.dict_codes.proofs.dictionary.Dictionary.from_texts.Goals as goal

pub invariant_of-result : goal.invariant_of-result
invariant_of-result c =
    let e = c.in_ok-texts.ensures in
    let same = length_permutation _ _ c.sort.ensures.same in
    (e.ascending, omega (arith, e.few, same, c.requires))

pub returns-clause-made : goal.returns-clause-made
returns-clause-made c =
    let e = c.in_ok-texts.ensures in
    sym (ascending-is nat_list_cmp_total c.args.texts.items c.in_ok-texts.texts.items (sorted_from_ascending _ e.ascending)
    (λ t h. (e.same t).1 (Contains-permutation _ _ t c.sort.ensures.same h))
    (λ t h. Contains-permutation _ _ t (IsPermutation-sym _ _ c.sort.ensures.same) ((e.same t).0 h)))

pub returns-clause-same : goal.returns-clause-same
returns-clause-same c = λ t.
    let e = c.in_ok-texts.ensures in
    (λ h. Contains-permutation _ _ t (IsPermutation-sym _ _ c.sort.ensures.same) ((e.same t).0 h), λ h. (e.same t).1 (Contains-permutation _ _ t c.sort.ensures.same h))

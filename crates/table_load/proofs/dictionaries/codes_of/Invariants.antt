use Rattle.std.proofs.Common.{◌≡◌, map, take, pos}
use Rattle.dict_codes.specs.Dictionaries.{rank_in}
use Rattle.table_load.proofs.dictionaries.codes_of.Given as goal

abbrev pub invariant-loop-text : goal.invariant-loop-text
invariant-loop-text l = l.codes.items ≡ map (λ t. pos (rank_in l.dictionary t)) (take l.text-index l.texts)

use Rattle.std.specs.Vec.Iter.{into_iter_items}
use Rattle.dict_codes.proofs.DistinctLaws.{IsKept}
use Rattle.dict_codes.proofs.dictionary.distinct.Given as goal

abbrev pub invariant-texts : goal.invariant-texts
invariant-texts l = IsKept l.fn.sorted.items l.kept.items (into_iter_items l.text-iterator)

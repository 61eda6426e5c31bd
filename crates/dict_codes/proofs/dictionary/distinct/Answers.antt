use Rattle.std.proofs.Common.{rules, ◌≡◌, ◌∷◌, ◌++◌, [], sym, subst, arith}
use Rattle.std.proofs.lemmas.Grind.{common_steps}
use Rattle.std.specs.Vec.Iter.{into_iter_items}
use Rattle.dict_codes.proofs.DistinctLaws.{IsKept, keep_all, keep_more, keep_same}
use Rattle.dict_codes.proofs.dictionary.distinct.Goals as goal

pub texts-preserved-in-Continue-1 : goal.texts-preserved-in-Continue-1
texts-preserved-in-Continue-1 c =
    let rest : into_iter_items c.texts.text-iterator ≡ c.in-Some.text ∷ into_iter_items c.next.new.self = search rules in
    let pushed : c.push.new.self.items ≡ c.texts.kept.items ++ c.in-Some.text ∷ [] = search rules in
    subst (λ k. IsKept c.args.sorted.items k (into_iter_items c.next.new.self)) (sym pushed)
    (keep_more c.args.sorted.items c.texts.kept.items (into_iter_items c.next.new.self) c.in-Some.text c.requires (subst (IsKept c.args.sorted.items c.texts.kept.items) rest c.texts.invariant) (search rules))

pub texts-preserved : goal.texts-preserved
texts-preserved c =
    let rest : into_iter_items c.texts.text-iterator ≡ c.in-Some.text ∷ into_iter_items c.next.new.self = search rules in
    keep_same c.args.sorted.items c.texts.kept.items (into_iter_items c.next.new.self) c.in-Some.text (subst (IsKept c.args.sorted.items c.texts.kept.items) rest c.texts.invariant) (search rules)

pub returns : goal.returns
returns c =
    let none : into_iter_items c.texts.text-iterator ≡ [] = grind (arith, common_steps) in
    let all = keep_all c.args.sorted.items c.texts.kept.items (subst (IsKept c.args.sorted.items c.texts.kept.items) none c.texts.invariant) in
    record { ascending = all.0; few = all.1; same = all.2 }

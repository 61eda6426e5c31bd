use Rattle.std.proofs.Common.{rules, ◌≡◌, ◌∙◌, ◌+◌, ◌++◌, ◌∷◌, [], false, drop, get_or, sym, ap, subst, arith, append_assoc, append-nil}
use Rattle.std.specs.Vec.Iter.{into_iter_items}
use Rattle.std.proofs.lemmas.Grind.{common_steps}
use Rattle.table_load.specs.HeldColumns.{AreColumns}
use Rattle.table_load.specs.Vectors.{attribute_in, attributes_in}
use Rattle.table_load.proofs.VectorFacts.{attributes_end, next_attribute}
use Rattle.table_load.proofs.vectors.attributes_of.Goals as goal

pub loop-column-preserved-then-i-are_texts : goal.loop-column-preserved-then-i-are_texts
loop-column-preserved-then-i-are_texts c =
    let (m, n, small, w) = c.loop-column.invariant.whole in
    let i = c.loop-column.i in
    let ks = c.args.are_texts.now in
    let defs = c.args.defs.now in
    let codes = c.args.codes.now in
    let before = c.loop-column.attributes.items in
    let rest : into_iter_items c.loop-column.column-iterator ≡ c.in-Some.column ∷ into_iter_items c.next.new.self = search rules in
    let whole = subst (λ l. AreColumns m n (drop i ks) l) rest w in
    let next = next_attribute codes m n i ks defs c.in-Some.column (into_iter_items c.next.new.self) c.index-defs-i.result whole c.requires.lengths in
    let later = attributes_in codes (drop (i + 1) ks) (into_iter_items c.next.new.self) (drop (i + 1) defs) in
    let pushed : c.push.new.self.items ≡ before ++ attribute_in codes (get_or defs i c.index-defs-i.result) (get_or ks i false) c.in-Some.column ∷ [] =
    c.in_ok-push.ensures.items ∙ ap (λ a. before ++ a ∷ []) (c.in_ok-attribute_of.ensures ∙ ap (λ d. attribute_in codes d (get_or ks i false) c.in-Some.column) c.index-defs-i.is)
    in
    record {
      so_far =
          ap (λ l. l ++ later) pushed
          ∙ append_assoc before (attribute_in codes (get_or defs i c.index-defs-i.result) (get_or ks i false) c.in-Some.column ∷ []) later
          ∙ ap (λ l. before ++ l) (sym next.is)
          ∙ ap (λ l. before ++ attributes_in codes (drop i ks) l (drop i defs)) (sym rest)
          ∙ c.loop-column.invariant.so_far;
      whole = (m, n, small, next.whole);
    }

pub returns : goal.returns
returns c =
    let (m, n, small, w) = c.loop-column.invariant.whole in
    let i = c.loop-column.i in
    let before = c.loop-column.attributes.items in
    let none : into_iter_items c.loop-column.column-iterator ≡ [] = grind (arith, common_steps) in
    let whole = subst (λ l. AreColumns m n (drop i c.args.are_texts.now) l) none w in
    sym (append-nil before)
    ∙ ap (λ l. before ++ l) (sym (attributes_end c.args.codes.now m n (drop i c.args.are_texts.now) (drop i c.args.defs.now) whole))
    ∙ ap (λ l. before ++ attributes_in c.args.codes.now (drop i c.args.are_texts.now) l (drop i c.args.defs.now)) (sym none)
    ∙ c.loop-column.invariant.so_far

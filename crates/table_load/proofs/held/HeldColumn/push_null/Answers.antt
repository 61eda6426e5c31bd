use Rattle.std.proofs.Common.{rules, ◌≡◌, ◌∙◌, ◌++◌, ◌∷◌, [], pos, false, None, length, ap}
use Rattle.table_load.specs.HeldColumns.{slots_of}
use Rattle.table_load.proofs.MarkLaws.{slots_marked, slots_null}
use Rattle.table_load.proofs.held.HeldColumn.push_null.Goals as goal

pub returns : goal.returns
returns c =
    let xs = c.self.inside.numbers.items in
    let marks = c.self.inside.marks.items in
    let all = c.mark_up_to.new.marks.items in
    let (k, grown) = c.in_ok-mark_up_to.ensures.grown in
    let numbers : c.push.new.self.items ≡ xs ++ pos 0 ∷ [] = search rules in
    let marked : c.push-2.new.self.items ≡ all ++ false ∷ [] = search rules in
    let long : length all ≡ length xs = search rules in
    ap (λ l. slots_of l c.push-2.new.self.items) numbers
    ∙ ap (slots_of (xs ++ pos 0 ∷ [])) marked
    ∙ slots_null xs all (pos 0) long
    ∙ ap (λ l. slots_of xs l ++ None ∷ []) grown
    ∙ ap (λ l. l ++ None ∷ []) (slots_marked xs marks k)
    ∙ ap (λ l. l ++ None ∷ []) c.self.view_is

use Rattle.std.proofs.Common.{rules, ◌≡◌, ◌∙◌, ◌++◌, ◌∷◌, [], Some, sym, ap}
use Rattle.table_load.specs.HeldColumns.{slots_of}
use Rattle.table_load.proofs.MarkLaws.{slots_more}
use Rattle.table_load.proofs.held.HeldColumn.push.Goals as goal

pub returns-in_ok-push-in-Some : goal.returns-in_ok-push-in-Some
returns-in_ok-push-in-Some c =
    let xs = c.self.inside.numbers.items in
    let marks = c.self.inside.marks.items in
    let numbers : c.push.new.self.items ≡ xs ++ c.in-Some.number ∷ [] = search rules in
    ap (λ l. slots_of l marks) numbers ∙ slots_more xs marks c.in-Some.number c.self.invariant ∙ ap (λ l. l ++ Some c.in-Some.number ∷ []) c.self.view_is ∙ ap (λ cell. c.args.self.now ++ cell ∷ []) (sym c.in-Some.is)

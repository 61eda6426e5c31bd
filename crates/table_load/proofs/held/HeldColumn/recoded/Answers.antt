use Rattle.std.proofs.Common.{rules, ◌≡◌, ◌∙◌, true, map, ap}
use Rattle.table_load.specs.HeldColumns.{slots_of}
use Rattle.table_load.specs.Vectors.{code_at, recoded}
use Rattle.table_load.proofs.MarkLaws.{slots_coded}
use Rattle.table_load.proofs.held.HeldColumn.recoded.Goals as goal

pub returns : goal.returns
returns c =
    let xs = c.self.inside.numbers.items in
    let marks = c.self.inside.marks.items in
    let codes = c.args.codes.now in
    let numbers : c.in_ok-recoded.field-0.items ≡ map (code_at codes) xs = search rules in
    ap (λ l. slots_of l marks) numbers ∙ slots_coded codes xs marks ∙ ap (recoded codes true) c.self.view_is

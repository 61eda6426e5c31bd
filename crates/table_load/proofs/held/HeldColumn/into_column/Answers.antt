use Rattle.std.proofs.Common.{rules, ◌≡◌, ◌∙◌, ◌≤◌, ◌^◌, true, false, length, ap, arith}
use Rattle.std.specs.List.{list_all}
use Rattle.table_load.specs.Databases.{in_64_bits}
use Rattle.table_load.proofs.MarkLaws.{length-slots, marked_is, narrow_is}
use Rattle.table_load.proofs.held.HeldColumn.into_column.Goals as goal

pub narrow-requires : goal.narrow-requires
narrow-requires c =
    let few : length c.self.inside.numbers.items ≤ 2 ^ 22 = omega (arith, c.requires, ap length c.self.view_is, length-slots c.self.inside.numbers.items c.self.inside.marks.items) in
    search rules

pub returns-then-are_set : goal.returns-then-are_set
returns-then-are_set c =
    let set : list_all (λ mark. mark) c.self.inside.marks.items ≡ true = search rules in
    c.narrow.ensures ∙ narrow_is c.self.inside.numbers.items c.self.inside.marks.items set ∙ ap in_64_bits c.self.view_is

pub narrow_with_empties-requires-clause-few : goal.narrow_with_empties-requires-clause-few
narrow_with_empties-requires-clause-few c =
    let few : length c.self.inside.numbers.items ≤ 2 ^ 22 = omega (arith, c.requires, ap length c.self.view_is, length-slots c.self.inside.numbers.items c.self.inside.marks.items) in
    search rules

pub returns : goal.returns
returns c =
    let some : list_all (λ mark. mark) c.self.inside.marks.items ≡ false = search rules in
    let (k, grown) = c.in_ok-mark_up_to.ensures.grown in
    let all : length c.mark_up_to.new.marks.items ≡ length c.self.inside.numbers.items = search rules in
    c.narrow_with_empties.ensures
    ∙ marked_is c.self.inside.numbers.items c.self.inside.marks.items c.mark_up_to.new.marks.items k c.self.invariant some grown all
    ∙ ap in_64_bits c.self.view_is

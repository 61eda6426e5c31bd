use Rattle.std.proofs.Common.{false, true, sym, ◌∙◌}
use Rattle.struct_vectors.proofs.MakerLaws.{done_marked, done_all}
use Rattle.struct_vectors.proofs.makers.ColumnMaker.done.Goals as goal

pub returns-in-Narrow : goal.returns-in-Narrow
returns-in-Narrow c =
    rw (← c.self.view_is, c.in-Narrow.is)
    (done_marked c.in-Narrow.numbers.items c.self.inside.marks.items false c.narrow_with_empties.result (rw c.in-Narrow.is at c.self.invariant.lengths) (sym c.self.invariant.empties ∙ c.if-some_empty.true) c.narrow_with_empties.ensures)

pub returns-in-Narrow-2 : goal.returns-in-Narrow-2
returns-in-Narrow-2 c =
    rw (← c.self.view_is, c.in-Narrow.is)
    (done_all c.in-Narrow.numbers.items c.self.inside.marks.items false c.narrow.result (rw c.in-Narrow.is at c.self.invariant.lengths) (sym c.self.invariant.empties ∙ c.if-some_empty.false) c.narrow.ensures)

pub returns-in-Wide : goal.returns-in-Wide
returns-in-Wide c =
    rw (← c.self.view_is, c.in-Wide.is)
    (done_marked c.in-Wide.numbers.items c.self.inside.marks.items true c.wide_with_empties.result (rw c.in-Wide.is at c.self.invariant.lengths) (sym c.self.invariant.empties ∙ c.if-some_empty-2.true) c.wide_with_empties.ensures)

pub returns-in-Wide-2 : goal.returns-in-Wide-2
returns-in-Wide-2 c =
    rw (← c.self.view_is, c.in-Wide.is)
    (done_all c.in-Wide.numbers.items c.self.inside.marks.items true c.wide.result (rw c.in-Wide.is at c.self.invariant.lengths) (sym c.self.invariant.empties ∙ c.if-some_empty-2.false) c.wide.ensures)

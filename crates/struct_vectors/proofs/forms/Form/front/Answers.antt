use Rattle.std.proofs.Common.{refl}
use Rattle.struct_vectors.proofs.ColumnFronts.{few_marked, front_narrow, front_wide, front_marked_narrow, front_marked_wide, front_control}
use Rattle.struct_vectors.proofs.forms.Form.front.Goals as goal

pub front_narrow-requires-in-NarrowWithEmpties : goal.front_narrow-requires-in-NarrowWithEmpties
front_narrow-requires-in-NarrowWithEmpties c =
    let whole = rw c.in-NarrowWithEmpties.is at c.requires.whole in
    let within = rw c.in-NarrowWithEmpties.is at c.requires.within in
    few_marked c.args.self.now c.in-NarrowWithEmpties.numbers.items c.in-NarrowWithEmpties.marks.items c.args.n _ refl whole.1 within

pub front_marks-requires : goal.front_marks-requires
front_marks-requires c =
    let whole = rw c.in-NarrowWithEmpties.is at c.requires.whole in
    let within = rw c.in-NarrowWithEmpties.is at c.requires.within in
    rw whole.1 (few_marked c.args.self.now c.in-NarrowWithEmpties.numbers.items c.in-NarrowWithEmpties.marks.items c.args.n _ refl whole.1 within)

pub front_wide-requires-in-WideWithEmpties : goal.front_wide-requires-in-WideWithEmpties
front_wide-requires-in-WideWithEmpties c =
    let whole = rw c.in-WideWithEmpties.is at c.requires.whole in
    let within = rw c.in-WideWithEmpties.is at c.requires.within in
    few_marked c.args.self.now c.in-WideWithEmpties.numbers.items c.in-WideWithEmpties.marks.items c.args.n _ refl whole.1 within

pub front_marks-requires-in-WideWithEmpties : goal.front_marks-requires-in-WideWithEmpties
front_marks-requires-in-WideWithEmpties c =
    let whole = rw c.in-WideWithEmpties.is at c.requires.whole in
    let within = rw c.in-WideWithEmpties.is at c.requires.within in
    rw whole.1 (few_marked c.args.self.now c.in-WideWithEmpties.numbers.items c.in-WideWithEmpties.marks.items c.args.n _ refl whole.1 within)

pub returns-in_ok-front_narrow-in-Narrow : goal.returns-in_ok-front_narrow-in-Narrow
returns-in_ok-front_narrow-in-Narrow c = front_narrow _ _ _ _ c.in-Narrow.is c.requires.whole c.in_ok-front_narrow-in-Narrow.ensures

pub returns-in_ok-front_marks-in-NarrowWithEmpties : goal.returns-in_ok-front_marks-in-NarrowWithEmpties
returns-in_ok-front_marks-in-NarrowWithEmpties c =
    front_marked_narrow _ _ _ _ _ _ c.in-NarrowWithEmpties.is c.requires.whole c.in_ok-front_narrow-in-NarrowWithEmpties.ensures c.in_ok-front_marks-in-NarrowWithEmpties.ensures

pub returns-in_ok-front_wide-in-Wide : goal.returns-in_ok-front_wide-in-Wide
returns-in_ok-front_wide-in-Wide c = front_wide _ _ _ _ c.in-Wide.is c.requires.whole c.in_ok-front_wide-in-Wide.ensures

pub returns-in_ok-front_marks-in-WideWithEmpties : goal.returns-in_ok-front_marks-in-WideWithEmpties
returns-in_ok-front_marks-in-WideWithEmpties c =
    front_marked_wide _ _ _ _ _ _ c.in-WideWithEmpties.is c.requires.whole c.in_ok-front_wide-in-WideWithEmpties.ensures c.in_ok-front_marks-in-WideWithEmpties.ensures

pub returns-in-Symbolic : goal.returns-in-Symbolic
returns-in-Symbolic c = front_control _ _ _ _ c.in-Symbolic.is c.requires.whole c.requires.within

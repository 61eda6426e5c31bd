use Rattle.std.proofs.Common.{map, ◌<◌, arith}
use Rattle.run_infer.proofs.TupleLaws.{are_tuple_marks, each_within, length_tuple_marks, tuple_mark}
use Rattle.run_infer.proofs.tuple_runs.TupleRunsRunMarks.starts.Goals as goal

pub some_differs-requires-clause-within : goal.some_differs-requires-clause-within
some_differs-requires-clause-within c =
    let h = rw (← c.self.view_is) at c.requires in
    let within : c.args.i < c.self.inside.len = omega (arith, h, length_tuple_marks c.self.inside.len (map (λ p. p.slots) c.self.inside.parts.now)) in
    each_within c.self.inside.len c.args.i c.self.inside.parts.now c.self.invariant.1 within

pub returns-then-i-eq0-clause-marks : goal.returns-then-i-eq0-clause-marks
returns-then-i-eq0-clause-marks c = rw (← c.self.view_is) (are_tuple_marks c.self.inside.len (map (λ p. p.slots) c.self.inside.parts.now) c.self.invariant.0)

pub returns-else-i-eq0-clause-start : goal.returns-else-i-eq0-clause-start
returns-else-i-eq0-clause-start c = rw (← c.self.view_is) (tuple_mark c.self.inside.len c.args.i c.self.inside.parts.now c.some_differs.result (rw (← c.self.view_is) at c.requires) c.if-i-eq0.false c.some_differs.ensures)

pub returns-else-i-eq0-clause-marks : goal.returns-else-i-eq0-clause-marks
returns-else-i-eq0-clause-marks c = rw (← c.self.view_is) (are_tuple_marks c.self.inside.len (map (λ p. p.slots) c.self.inside.parts.now) c.self.invariant.0)

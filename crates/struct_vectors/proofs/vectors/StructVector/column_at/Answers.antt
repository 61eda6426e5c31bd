use Rattle.std.proofs.Common.{ap, ◌∙◌}
use Rattle.std.specs.Str.{bytes_eq}
use Rattle.struct_vectors.proofs.VectorLaws.{column_here, column_next, column_none}
use Rattle.struct_vectors.proofs.vectors.StructVector.column_at.Goals as goal

pub returns-then-eq-clause-column : goal.returns-then-eq-clause-column
returns-then-eq-clause-column c =
    column_here c.args.path.now c.p-item.result c.self.inside.paths.items c.deref-p-items.result.now c.self.inside.columns.items c.loop-i.i c.index.result.now _ c.deref-p-items.ensures.value c.loop-i-test.true c.self.invariant.0 c.p-item.is c.index.ensures (c.if-eq.ensures ∙ ap (bytes_eq c.args.path.now) c.text.ensures.text) c.loop-i.invariant

pub loop-i-preserved : goal.loop-i-preserved
loop-i-preserved c =
    column_next c.args.path.now c.p-item.result c.self.inside.paths.items c.deref-p-items.result.now c.self.inside.columns.items c.loop-i.i _ c.deref-p-items.ensures.value c.loop-i-test.true c.self.invariant.0 c.p-item.is (c.if-eq.ensures ∙ ap (bytes_eq c.args.path.now) c.text.ensures.text) c.loop-i.invariant

pub returns-clause-column : goal.returns-clause-column
returns-clause-column c =
    column_none c.args.path.now c.self.inside.paths.items c.deref-p-items.result.now c.self.inside.columns.items c.loop-i.i _ c.deref-p-items.ensures.value c.loop-i-test.false c.self.invariant.0 c.loop-i.invariant

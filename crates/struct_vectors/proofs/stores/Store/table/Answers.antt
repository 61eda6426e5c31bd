use Rattle.std.proofs.Common.{sym, ◌∙◌}
use Rattle.std.specs.Str.{bytes_eq}
use Rattle.struct_vectors.proofs.VectorLaws.{look_here, look_next}
use Rattle.struct_vectors.proofs.stores.Store.table.Goals as goal

pub returns-then-eq-clause-table : goal.returns-then-eq-clause-table
returns-then-eq-clause-table c =
    sym (look_here (bytes_eq c.args.name.now) c.deref-entry-items.result.now c.loop-entry.entry-index c.entry-item.result c.loop-entry-test.true c.entry-item.is (sym (rw (c.text.ensures, c.text-in-loop-entry.ensures) at c.if-eq.ensures)))
    ∙ c.loop-entry.invariant

pub loop-entry-preserved : goal.loop-entry-preserved
loop-entry-preserved c =
    look_next (bytes_eq c.args.name.now) c.deref-entry-items.result.now c.loop-entry.entry-index c.entry-item.result c.loop-entry-test.true c.entry-item.is (sym (rw (c.text.ensures, c.text-in-loop-entry.ensures) at c.if-eq.ensures))
    ∙ c.loop-entry.invariant

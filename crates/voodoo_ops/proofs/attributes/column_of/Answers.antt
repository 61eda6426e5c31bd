use Rattle.std.proofs.Common.{arith, refl, sym}
use Rattle.std.specs.Vec.Iter.{into_iter_items}
use Rattle.programs.specs.Vectors.{seen}
use Rattle.voodoo_ops.proofs.Seen.{column_first, found_slots, none_there, not_found}
use Rattle.voodoo_ops.proofs.attributes.column_of.Goals as goal

pub returns-then-eq : goal.returns-then-eq
returns-then-eq c =
    found_slots c.args.q.now c.args.v (seen c.args.v) c.in-Some.column refl
    (column_first c.args.q.now c.in-Some.path c.in-Some.column (into_iter_items c.loop-path.path-iterator) (into_iter_items c.next.new.self) c.args.v.attributes c.in-Some.ensures.steps.0 (sym (rw (c.text.ensures.text, c.text-in-loop-path.ensures.text) at c.if-eq.ensures)) c.loop-path.invariant)

pub unreachable-requires : goal.unreachable-requires
unreachable-requires c =
    not_found c.args.q.now c.args.v (seen c.args.v) refl
    (none_there c.args.q.now (into_iter_items c.loop-path.path-iterator) c.args.v.attributes (omega (arith, c.loop-path.path-iterator.rest.ok, c.in-None.ensures.steps.0)) c.loop-path.invariant) c.requires

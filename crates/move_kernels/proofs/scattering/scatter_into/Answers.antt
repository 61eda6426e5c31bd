use Rattle.std.proofs.Common.{◌≡◌, length, min, take, arith, refl, sym, ap, ◌∙◌}
use Rattle.control_vectors.specs.Slots.{has_over, slots_in}
use Rattle.slot_moves.specs.Moves.{gathered, place_in}
use Rattle.sort_order.proofs.CellLaws.{clear_more, over_at, slot_after}
use Rattle.move_kernels.specs.Kernels.{counted_from, put_at, scattered_from}
use Rattle.move_kernels.proofs.Stretches.{clear_both, over_behind, writes_over}
use Rattle.move_kernels.proofs.Writers.{over_first, over_second, scattered_more, scattered_none, writers_of, writes_last}
use Rattle.move_kernels.proofs.scattering.scatter_into.Goals as goal

pub loop-j-init : goal.loop-j-init
loop-j-init g c =
    let xs = slots_in (g.S.SlotSource.cells c.args.source.now) in
    let positions = slots_in (g.P.SlotSource.cells c.args.pos.now) in
    record {
      source = refl;
      positions = refl;
      slots = c.blank.ensures ∙ scattered_none xs positions c.args.first (length c.args.out.now);
    }

pub returns-in_err-slot : goal.returns-in_err-slot
returns-in_err-slot g c =
    let source = g.S.SlotSource.cells c.args.source.now in
    let positions = g.P.SlotSource.cells c.args.pos.now in
    let n = length c.args.out.now in
    writes_over c.from_residual.result (scattered_from source positions c.args.first n) c.loop-j.out c.from_residual.ensures.0
    (over_first source positions c.args.first n (over_at source c.loop-j.j c.in_err-slot.field-0.0 c.in_err-slot.ensures.slot))

pub returns-in_err-slot-2 : goal.returns-in_err-slot-2
returns-in_err-slot-2 g c =
    let source = g.S.SlotSource.cells c.args.source.now in
    let positions = g.P.SlotSource.cells c.args.pos.now in
    let n = length c.args.out.now in
    writes_over c.from_residual-in_err-slot-2.result (scattered_from source positions c.args.first n) c.loop-j.out c.from_residual-in_err-slot-2.ensures.0
    (over_second source positions c.args.first n (over_at positions c.loop-j.j c.in_err-slot-2.field-0.0 c.in_err-slot-2.ensures.slot))

pub loop-j-preserved : goal.loop-j-preserved
loop-j-preserved g c =
    let source = g.S.SlotSource.cells c.args.source.now in
    let positions = g.P.SlotSource.cells c.args.pos.now in
    let n = length c.args.out.now in
    let j = c.loop-j.j in
    let slot = slot_after source j c.in_ok-slot.slot c.loop-j.invariant.source c.in_ok-slot.ensures.slot in
    let position = slot_after positions j c.in_ok-slot-2.field-0 c.loop-j.invariant.positions c.in_ok-slot-2.ensures.slot in
    let put = c.put.ensures ∙ ap (λ k. put_at (place_in k (counted_from c.args.first c.in_ok-slot-2.field-0)) c.in_ok-slot.slot c.loop-j.out) (c.loop-j.auto.out ∙ c.blank.auto.out) in
    record {
      source = clear_more source j c.in_ok-slot.slot c.loop-j.invariant.source c.in_ok-slot.ensures.slot;
      positions = clear_more positions j c.in_ok-slot-2.field-0 c.loop-j.invariant.positions c.in_ok-slot-2.ensures.slot;
      slots = scattered_more (slots_in source) (slots_in positions) c.args.first n j c.in_ok-slot-2.field-0 c.in_ok-slot.slot c.loop-j.out c.put.new.out position (sym slot) put c.loop-j.invariant.slots;
    }

pub returns-in_err-read_rest : goal.returns-in_err-read_rest
returns-in_err-read_rest g c =
    let source = g.S.SlotSource.cells c.args.source.now in
    let positions = g.P.SlotSource.cells c.args.pos.now in
    let n = length c.args.out.now in
    let all : c.loop-j.j ≡ c.min-sources.result = omega (arith, c.loop-j-test.false, c.loop-j.auto.j-end) in
    let clear = ap (λ k. has_over (take k source)) (sym all) ∙ c.loop-j.invariant.source in
    writes_over c.from_residual-in_err-read_rest.result (scattered_from source positions c.args.first n) c.loop-j.out c.from_residual-in_err-read_rest.ensures.0
    (over_first source positions c.args.first n (over_behind source c.min-sources.result clear c.in_err-read_rest.ensures))

pub returns : goal.returns
returns g c =
    let source = g.S.SlotSource.cells c.args.source.now in
    let positions = g.P.SlotSource.cells c.args.pos.now in
    let n = length c.args.out.now in
    let k = c.min-sources.result in
    let all : c.loop-j.j ≡ k = omega (arith, c.loop-j-test.false, c.loop-j.auto.j-end) in
    let many : k ≡ min (length source) (length positions) = omega (arith, c.min-sources.ensures, c.len.ensures.len, c.len-2.ensures.len) in
    let clear = clear_both source k (ap (λ i. has_over (take i source)) (sym all) ∙ c.loop-j.invariant.source) c.in_ok-read_rest.ensures in
    let clear_positions = ap (λ i. has_over (take i positions)) (sym all) ∙ c.loop-j.invariant.positions in
    writes_last c.read_rest-2.result source positions c.args.first n k c.loop-j.out c.read_rest-2.ensures clear clear_positions many
    (c.loop-j.invariant.slots ∙ ap (λ i. gathered (slots_in source) (writers_of (slots_in positions) i c.args.first n)) all)

use Rattle.std.proofs.Common.{◌≡◌, ◌∙◌, ◌<◌, ap, arith, length, slice_index_or}
use Rattle.programs.specs.Vectors.{seen}
use Rattle.answer_print.specs.Kinds.{kind_in, aggregate_kinds}
use Rattle.answer_print.proofs.RowTexts.{all_next, item_next}
use Rattle.answer_print.proofs.items.items_of.Goals as goal

pub loop-k-preserved : goal.loop-k-preserved
loop-k-preserved c =
    let within : c.loop-k.k < length c.args.q.now.items = omega (arith, c.loop-k-test.true, c.len-k-end.ensures) in
    let kinds = c.as_slice-in-loop-k-2.ensures.value ∙ c.in_ok-kinds.ensures ∙ ap aggregate_kinds c.as_slice.ensures in
    record {
      columns = item_next c.args.q.now (seen c.args.v.now) c.loop-k.k c.loop-k.items.items c.push.new.self.items c.in_ok-item_of.field-0 c.index-as_slice-k.result c.requires.items within
          (c.index-as_slice-k.is ∙ ap (λ l. slice_index_or l c.loop-k.k c.index-as_slice-k.result) c.as_slice-in-loop-k.ensures)
          c.in_ok-item_of.ensures.column (c.in_ok-item_of.ensures.kind ∙ ap (λ l. kind_in l c.index-as_slice-k.result) kinds) c.in_ok-item_of.ensures.scale
          c.loop-k.invariant.columns c.in_ok-push.ensures.items;
      long = all_next (λ it. length it.column.now.slots ≡ c.args.v.now.length) c.loop-k.items.items c.push.new.self.items c.in_ok-item_of.field-0 c.loop-k.invariant.long c.in_ok-item_of.ensures.long c.in_ok-push.ensures.items;
    }

use Rattle.std.proofs.Common.{◌≡◌, ◌<◌, ◌≤◌, ap, ◌∙◌, sym, arith, ◌||◌, Bool, false, List, [], get_or, take, length}
use Rattle.std.specs.List.{list_any}
use Rattle.std.proofs.lemmas.List.{take_all}
use Rattle.control_vectors.specs.Runs.{differs}
use Rattle.programs.specs.Mentions.{Label}
use Rattle.programs.specs.Vectors.{Attribute, seen_attributes}
use Rattle.struct_vectors.specs.Columns.{ColumnValue}
use Rattle.voodoo_ops.specs.Attributes.{below}
use Rattle.voodoo_ops.specs.Runs.{changes_below}
use Rattle.voodoo_ops.proofs.RunMarks.{changes_more, item_long, length_seen, marks_are, seen_at}
use Rattle.voodoo_ops.proofs.run_marks.mark_runs.Goals as goal

pub mark_below-requires : goal.mark_below-requires
mark_below-requires c =
    let items = c.attributes-attribute-items in
    let k = c.loop-attribute.attribute-index in
    let h : k < length c.args.v.now.attributes = omega (arith, c.loop-attribute-test.true, ap (λ (l : List (Label × ColumnValue)). length l) items.ensures.attributes) in
    c.loop-attribute.invariant.each ∙ sym (item_long c.args.v.now.length c.args.v.now.attributes k c.attribute-item.result items.ensures.shaped.lengths h (rw items.ensures.attributes at c.attribute-item.is))

pub loop-attribute-preserved : goal.loop-attribute-preserved
loop-attribute-preserved c =
    let items = c.attributes-attribute-items in
    let k = c.loop-attribute.attribute-index in
    let seen = seen_attributes c.args.v.now.attributes in
    let h : k < length c.args.v.now.attributes = omega (arith, c.loop-attribute-test.true, ap (λ (l : List (Label × ColumnValue)). length l) items.ensures.attributes) in
    let inside : k < length seen = omega (arith, length_seen c.args.v.now.attributes, h) in
    let here = seen_at c.args.v.now.attributes k c.attribute-item.result h (rw items.ensures.attributes at c.attribute-item.is) in
    let each : length c.mark_below.new.marks ≡ length c.loop-attribute.marks = c.mark_below.auto.marks in
    record {
      each = each ∙ c.loop-attribute.invariant.each;
      first = λ l. c.mark_below.ensures.first ∙ c.loop-attribute.invariant.first (omega arith);
      later = λ i low high.
          c.mark_below.ensures.later i low (omega arith)
          ∙ ap (λ (t : Attribute). get_or c.loop-attribute.marks i false || changes_below c.args.run.now t i) (sym here)
          ∙ ap (λ (b : Bool). b || changes_below c.args.run.now (get_or seen k ([], [])) i) (c.loop-attribute.invariant.later i low (omega arith))
          ∙ sym (changes_more c.args.run.now seen k i inside);
    }

pub returns : goal.returns
returns c =
    let items = c.attributes-attribute-items in
    let seen = seen_attributes c.args.v.now.attributes in
    let k = c.loop-attribute.attribute-index in
    let past : length seen ≤ k = omega (arith, length_seen c.args.v.now.attributes, c.loop-attribute-test.false, ap (λ (l : List (Label × ColumnValue)). length l) items.ensures.attributes) in
    let all : take k seen ≡ seen = take_all k seen past in
    marks_are c.loop-attribute.marks (below c.args.run.now seen) c.args.v.now.length c.loop-attribute.invariant.each c.loop-attribute.invariant.first
    (λ i h l. c.loop-attribute.invariant.later i h l ∙ ap (λ (a : List Attribute). list_any (λ t. differs t.1 i) (below c.args.run.now a)) all)

use Rattle.std.proofs.Common.{arith, rules, refl, ◌∙◌, FitsSigned}
use Rattle.std.specs.Int.{w128}
use Rattle.std.proofs.lemmas.Int.{to_z-of_z}
use Rattle.struct_vectors.proofs.ColumnLaws.{length-marked_slots}
use Rattle.struct_vectors.proofs.MakerLaws.{empties_more, lengths_more, slots_more, same_maker}
use Rattle.struct_vectors.specs.Numbers.{numbers_in}
use Rattle.struct_vectors.proofs.makers.ColumnMaker.push.Goals as goal

pub push-requires-clause-room : goal.push-requires-clause-room
push-requires-clause-room c =
    let room = rw (← c.self.view_is) at c.requires.room in
    let held = length-marked_slots (numbers_in c.self.inside.numbers) c.self.inside.marks.items c.self.invariant.lengths in
    omega (arith, c.self.invariant.numbers_room)

pub push_mark-requires : goal.push_mark-requires
push_mark-requires c =
    let room = rw (← c.self.view_is) at c.requires.room in
    let held = length-marked_slots (numbers_in c.self.inside.numbers) c.self.inside.marks.items c.self.invariant.lengths in
    omega (arith, c.self.invariant.lengths, c.self.inside.marks.ok, c.self.invariant.marks_room)

pub invariant_of-self : goal.invariant_of-self
invariant_of-self c =
    let room = rw (← c.self.view_is) at c.requires.room in
    let held = length-marked_slots (numbers_in c.self.inside.numbers) c.self.inside.marks.items c.self.invariant.lengths in
    record {
      few = c.self.invariant.few;
      within = omega (arith, c.self.invariant.lengths, c.self.inside.marks.ok, c.push_mark.ensures.len);
      lengths = lengths_more _ _ _ _ _ _ c.self.invariant.lengths c.push.ensures.numbers c.push_mark.ensures.marks;
      numbers_room = omega (arith, c.self.invariant.numbers_room, c.push.ensures.capacity);
      marks_room = omega (arith, c.self.invariant.marks_room, c.push_mark.ensures.capacity);
      empties = rw c.push_mark.ensures.marks (empties_more c.self.inside.some_empty c.self.inside.marks.items c.is_some.result c.is_none.result _ c.self.invariant.empties c.is_some.ensures c.is_none.ensures);
    }

pub returns : goal.returns
returns c =
    let kept : FitsSigned w128 c.unwrap_or.result = search rules in
    let slots = slots_more _ _ _ _ _ _ c.args.s c.self.invariant.lengths c.push.ensures.numbers c.push_mark.ensures.marks (to_z-of_z w128 _ kept ∙ c.unwrap_or.ensures) c.is_some.ensures in
    rw (← c.self.view_is) (same_maker _ _ _ _ _ _ refl c.push.ensures.wide slots)

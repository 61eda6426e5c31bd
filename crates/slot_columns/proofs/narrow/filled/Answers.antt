use Rattle.std.proofs.Common.{◌<◌, ◌∙◌, arith, length, Ok, Err}
use Rattle.std.proofs.lemmas.List.{length-set}
use Rattle.slot_columns.proofs.Listings.{filled_more, filled_all, mapped_over}
use Rattle.slot_columns.proofs.narrow.filled.Goals as goal

pub returns-in-Err : goal.returns-in-Err
returns-in-Err g c =
    let within : c.loop-i.i < length c.args.numbers.now = omega (arith, c.loop-i-test.true, c.loop-i.auto.i-end) in record {
      cells = λ cell gives. mapped_over cell (length c.args.numbers.now) c.loop-i.i c.in-Err.field-0 within (gives c.loop-i.i (Err c.in-Err.field-0) within c.in-Err.ensures);
    }

pub loop-i-preserved : goal.loop-i-preserved
loop-i-preserved g c =
    let held = c.loop-i.invariant in
    let within : c.loop-i.i < length c.args.numbers.now = omega (arith, c.loop-i-test.true, c.loop-i.auto.i-end) in
    let here : c.loop-i.i < length c.loop-i.numbers = omega (arith, c.loop-i-test.true, c.loop-i.auto.i-end, held.count) in
    let numbers = length-set c.loop-i.numbers c.loop-i.i c.put-fits.new.number in
    let marks = length-set c.loop-i.marks c.loop-i.i c.put-fits.new.mark in record {
      count = numbers ∙ held.count;
      lengths = omega (arith, numbers, marks, held.lengths);
      so_far = λ cell gives. filled_more cell c.loop-i.numbers c.loop-i.marks c.loop-i.i c.put-fits.new.number c.put-fits.new.mark c.in-Ok.s held.lengths here (c.put-fits.ensures c.if-not-fits.false)
          (held.so_far cell gives) (gives c.loop-i.i (Ok c.in-Ok.s) within c.in-Ok.ensures);
    }

pub returns : goal.returns
returns g c =
    let held = c.loop-i.invariant in record {
      cells = λ cell gives. filled_all cell c.loop-i.numbers c.loop-i.marks (length c.args.numbers.now) c.loop-i.i held.lengths
          (omega (arith, c.loop-i-test.false, c.loop-i.auto.i-end, held.count)) (omega (arith, c.loop-i-test.false, c.loop-i.auto.i-end)) (held.so_far cell gives);
    }

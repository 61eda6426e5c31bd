use Rattle.std.proofs.Common.{◌++◌, ◌∙◌, ap, sym, arith, length, List, Ok}
use Rattle.control_vectors.specs.Slots.{Slot, Cell, cells_of}
use Rattle.slot_columns.specs.Builders.{BuilderValue}
use Rattle.slot_folds.specs.Jobs.{job_from, job_run}
use Rattle.slot_folds.proofs.RunLaws.{job_split, job_done, job_stops, job_more, job_grows}
use Rattle.slot_folds.proofs.folding.by_runs.Goals as goal

pub loop-from-init : goal.loop-from-init
loop-from-init c = record {
  room = ap (λ (b : BuilderValue). b.room) c.in_ok-builder.ensures ∙ c.len.ensures.len;
  within = omega arith;
  count = ap (λ (b : BuilderValue). length b.slots) c.in_ok-builder.ensures;
  so_far = ap (λ (b : BuilderValue). cells_of b.slots ++ job_from c.args.job c.args.marks.now c.args.values.now.slots 0) c.in_ok-builder.ensures;
}

pub push_run-requires-clause-room : goal.push_run-requires-clause-room
push_run-requires-clause-room c = omega (arith, c.loop-from.invariant.room, c.loop-from.invariant.count, c.run_end-to.ensures.within, c.requires)

pub loop-from-preserved : goal.loop-from-preserved
loop-from-preserved c =
    let xs = c.args.values.now.slots in
    let split = job_split c.args.job c.args.marks.now xs c.loop-from.from c.run_end-to.result c.requires c.loop-from-test.true c.run_end-to.ensures.end in
    record {
      room = c.in-Ok.ensures.0 ∙ c.loop-from.invariant.room;
      within = c.run_end-to.ensures.within;
      count = job_grows c.args.job xs c.loop-from.builder.slots c.push_run.new.builder.slots c.loop-from.from c.run_end-to.result (omega (arith, c.run_end-to.ensures.end)) (omega (arith, c.requires, c.run_end-to.ensures.within)) c.in-Ok.ensures.1 c.loop-from.invariant.count;
      so_far = job_more c.loop-from.builder.slots c.push_run.new.builder.slots (job_run c.args.job xs c.loop-from.from c.run_end-to.result) (job_from c.args.job c.args.marks.now xs c.run_end-to.result) (job_from c.args.job c.args.marks.now xs c.loop-from.from) (job_from c.args.job c.args.marks.now xs 0) c.in-Ok.ensures.1 split c.loop-from.invariant.so_far;
    }

pub returns-in-Err : goal.returns-in-Err
returns-in-Err c =
    let xs = c.args.values.now.slots in
    let split = job_split c.args.job c.args.marks.now xs c.loop-from.from c.run_end-to.result c.requires c.loop-from-test.true c.run_end-to.ensures.end in
    job_stops c.in-Err.stop c.loop-from.builder c.push_run.new.builder (job_run c.args.job xs c.loop-from.from c.run_end-to.result) (job_from c.args.job c.args.marks.now xs c.run_end-to.result) (job_from c.args.job c.args.marks.now xs 0) c.in-Err.ensures
    (ap (λ (l : List Cell). cells_of c.loop-from.builder.slots ++ l) (sym split) ∙ c.loop-from.invariant.so_far)

pub returns : goal.returns
returns c =
    job_done c.args.job c.args.marks.now c.args.values.now.slots c.loop-from.builder.slots c.loop-from.from (job_from c.args.job c.args.marks.now c.args.values.now.slots 0) c.loop-from-test.false c.loop-from.invariant.so_far
    ∙ ap (λ (l : List Slot). Ok l) (sym c.done.ensures)

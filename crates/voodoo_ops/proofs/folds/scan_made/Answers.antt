use Rattle.std.proofs.Common.{◌∙◌}
use Rattle.control_vectors.specs.Slots.{all_slots}
use Rattle.slot_folds.specs.Folds.{scanned}
use Rattle.programs.specs.Vectors.{seen, known, slots_of}
use Rattle.voodoo_ops.specs.Envs.{env_in}
use Rattle.voodoo_ops.specs.Runs.{run_marks}
use Rattle.voodoo_ops.proofs.Lengths.{scanned_long}
use Rattle.voodoo_ops.proofs.Marked.{as_many, over_runs, same_count, value_count}
use Rattle.voodoo_ops.proofs.Seen.{cells_long}
use Rattle.voodoo_ops.proofs.folds.scan_made.Goals as goal

pub scan_runs-requires : goal.scan_runs-requires
scan_runs-requires c =
    as_many (seen c.vector.result.now) (known (env_in c.args.made.now c.args.args.now.a)) c.args.args.now.run c.as_slice.result.now c.attribute-values.result.now.slots c.vector.ensures.vector (c.as_slice.ensures.value ∙ c.in_ok-marks.ensures) c.attribute-values.ensures.len

pub returns : goal.returns
returns c =
    let w = known (env_in c.args.made.now c.args.args.now.a) in
    let run = c.args.args.now.run in
    let val = c.args.args.now.val in
    let xs = c.attribute-values.result.now.slots in
    let e = over_runs (λ marks ys. all_slots (scanned marks ys)) (seen c.vector.result.now) w run val c.as_slice.result.now xs c.vector.ensures.vector (c.as_slice.ensures.value ∙ c.in_ok-marks.ensures) c.attribute-values.ensures.slots in
    let long = scanned_long (run_marks w run) (slots_of w.attributes val) (same_count w run val xs c.attribute-values.ensures.slots c.attribute-values.ensures.len) ∙ value_count w val xs c.attribute-values.ensures.slots c.attribute-values.ensures.len in
    c.named_if_made.ensures w.len (all_slots (scanned (run_marks w run) (slots_of w.attributes val))) (rw e at c.scan_runs.ensures) (cells_long w.len (scanned (run_marks w run) (slots_of w.attributes val)) long)

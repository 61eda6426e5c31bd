use Rattle.std.proofs.Common.{rules, ◌≡◌, ◌∙◌, ◌<◌, ◌+◌, ◌++◌, ◌∷◌, [], length, true, sym, ap, arith, append-nil, append_assoc, length-append}
use Rattle.std.proofs.lemmas.List.{replicate_more}
use Rattle.table_load.proofs.held.mark_up_to.Goals as goal

pub loop-marks-init : goal.loop-marks-init
loop-marks-init c = record { grown = (0, sym (append-nil c.args.marks.now.items)); within = c.requires }

pub loop-marks-preserved : goal.loop-marks-preserved
loop-marks-preserved c =
    let (k, e) = c.loop-marks.invariant.grown in
    let pushed : c.push.new.self.items ≡ c.loop-marks.marks.items ++ true ∷ [] = c.in_ok-push.ensures.items in
    let room : length c.loop-marks.marks.items < c.args.count = search rules in
    record {
      grown = (k + 1, pushed ∙ ap (λ l. l ++ true ∷ []) e ∙ append_assoc c.args.marks.now.items _ (true ∷ []) ∙ ap (λ l. c.args.marks.now.items ++ l) (replicate_more k true));
      within = omega (arith, ap length pushed, length-append c.loop-marks.marks.items (true ∷ []), room);
    }

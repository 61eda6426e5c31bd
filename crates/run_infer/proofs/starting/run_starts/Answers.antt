use Rattle.std.proofs.Common.{◌∙◌, ap, sym, ◌++◌, ◌∷◌, []}
use Rattle.run_infer.proofs.MarkLaws.{start_more, rest_more}
use Rattle.run_infer.proofs.starting.run_starts.Goals as goal
use Rattle.run_infer.proofs.starting.run_starts.Goals.{then-starts+in_ok-push, else-starts}

pub loop-i-preserved : goal.loop-i-preserved
loop-i-preserved g c =
    elim c.if-starts.branch [
      | then-starts+in_ok-push w ↦
          ap (λ v. v.items) w.starts-is ∙ w.in_ok-push.ensures.items ∙ ap (λ l. l ++ c.loop-i.i ∷ []) c.loop-i.invariant ∙ sym (start_more (g.M.RunMarks.marks c.args.marks.now) c.loop-i.i w.if-starts.ensures.start)
      | else-starts w ↦ ap (λ v. v.items) w.starts-is ∙ c.loop-i.invariant ∙ sym (rest_more (g.M.RunMarks.marks c.args.marks.now) c.loop-i.i w.if-starts.ensures.start)
    ]

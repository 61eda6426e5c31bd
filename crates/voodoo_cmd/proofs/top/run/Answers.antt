use Rattle.std.proofs.Common.{List, ℕ, Ok, Err, sym, subst, arith, length}
use Rattle.std.specs.Prelude.{Option, Result, OnOk, OnErr}
use Rattle.std.specs.Io.KnownBytes.{Appends}
use Rattle.std.proofs.lemmas.List.{take_all}
use Rattle.io_edge.specs.Sinks.{AppendsPrefix}
use Rattle.io_edge.specs.Shelves.{FileMap}
use Rattle.run_steps.specs.Outcomes.{Outcome}
use Rattle.run_steps.specs.Expected.{expected}
use Rattle.voodoo_cmd.specs.AnswerTexts.{text_given}
use Rattle.voodoo_cmd.proofs.Answered.{Answers-written, Answers-refused}
use Rattle.voodoo_cmd.proofs.top.run.Goals as goal
use Rattle.voodoo_cmd.proofs.top.run.Goals.{in-Ok+in-Results-1, in-Ok+in-Rows-1, in-Err}

-- what a write leaves is a prefix, whether it fails or not
always_prefix : {E : Type 0} (old new : Option (List ℕ)) (text : List ℕ) (result : Result (Unit {0}) E)
    → OnOk result (Appends old new text) → OnErr result (AppendsPrefix old new text) → AppendsPrefix old new text
always_prefix old new text (Ok u) whole prefix =
    record { count = length text; appended = subst (Appends old new) (sym (take_all (length text) text (omega arith))) whole }
always_prefix old new text (Err e) whole prefix = prefix

pub returns-clause-line : goal.returns-clause-line
returns-clause-line g c = always_prefix _ _ _ c.write_line.result c.write_line.ensures.whole c.write_line.ensures.prefix

pub returns-clause-answer : goal.returns-clause-answer
returns-clause-answer g c =
    let holds = g.S.Shelf.holds c.args.shelf.now in
    let outcome : FileMap → Outcome (List ℕ) = λ files. expected c.args.words.now files in
    elim c.match-read_answer.branch [
      | in-Ok+in-Results-1 w ↦ rw (w.status-is, w.out-is) (Answers-written text_given w.in-Ok.given holds outcome w.written-status.result _ _ w.in-Ok.ensures.text w.written-status.ensures.writes)
      | in-Ok+in-Rows-1 w ↦ rw (w.status-is, w.out-is) (Answers-written text_given w.in-Ok.given holds outcome w.written-status.result _ _ w.in-Ok.ensures.text w.written-status.ensures.writes)
      | in-Err w ↦ rw (w.status-is, w.out-is) (Answers-refused text_given holds outcome w.in-Err.status _ w.in-Err.ensures.text)
    ]

use Rattle.std.proofs.Common.{Result, Ok, Err, OnOk, subst}
use Rattle.program_writers.specs.Codes.{Adds}
use Rattle.program_writers.specs.declared.writer.Writer.{Writer as Text}
use Rattle.program_writers.specs.Writers.{Writer, ◌>>=◌}
use Rattle.program_writers.proofs.Writing.{added}
use Rattle.plan_programs.specs.Rows.{kept}
use Rattle.plan_programs.specs.Items.{answered}
use Rattle.plan_programs.specs.Lowered as spec
use Rattle.plan_lower.proofs.lowering.program.Goals as goal

-- where memory may run out and nothing is told
then_done : {A E : Type 0} (m : Writer A) (f : A → Writer (Unit {0})) (old mid new : Text) (a : A) (r : Result (Unit {0}) E) → Adds m old mid a → OnOk r (Adds (f a) mid new (record {})) → OnOk r (Adds (m >>= f) old new (record {}))
then_done m f old mid new a (Ok x) g h = added m f old mid new a (record {}) g h
then_done m f old mid new a (Err e) g h = tt

pub returns : goal.returns
returns c =
    let now = c.args.p.now in
    let texts = c.args.dictionary.now in
    let from = subst (λ l. Adds (spec.from_rows c.args.select texts c.args.defs.now l) c.args.w.now c.from_rows.new.w c.in_ok-rows.rows) c.as_slice.ensures c.in_ok-rows.ensures in
    let b = subst (λ l. Adds (kept c.args.select texts c.in_ok-rows.rows l) c.from_rows.new.w c.kept.new.w c.in_ok-b.b) c.as_slice-2.ensures c.in_ok-b.ensures in
    let items = subst (λ l. OnOk c.answered.result (Adds (answered texts c.in_ok-on.on l c.as_slice-4.result.now) c.stands_on.new.w c.answered.new.w (record {}))) c.as_slice-3.ensures c.answered.ensures in
    let last = subst (λ l. OnOk c.answered.result (Adds (answered texts c.in_ok-on.on now.items l) c.stands_on.new.w c.answered.new.w (record {}))) c.as_slice-4.ensures items in
    then_done (spec.from_rows c.args.select texts c.args.defs.now now.sources) (λ rows. kept c.args.select texts rows now.filter >>= λ b. spec.stands_on c.args.select texts now now.grouped b >>= λ on. answered texts on now.items now.order)
    c.args.w.now c.from_rows.new.w c.answered.new.w c.in_ok-rows.rows c.answered.result from
    (then_done (kept c.args.select texts c.in_ok-rows.rows now.filter) (λ b. spec.stands_on c.args.select texts now now.grouped b >>= λ on. answered texts on now.items now.order)
    c.from_rows.new.w c.kept.new.w c.answered.new.w c.in_ok-b.b c.answered.result b
    (then_done (spec.stands_on c.args.select texts now now.grouped c.in_ok-b.b) (λ on. answered texts on now.items now.order)
    c.kept.new.w c.stands_on.new.w c.answered.new.w c.in_ok-on.on c.answered.result c.in_ok-on.ensures last))

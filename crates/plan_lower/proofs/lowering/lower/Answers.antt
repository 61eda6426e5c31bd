use Rattle.std.proofs.Common.{◌≡◌, ℕ, List, ◌++◌, refl, ap, ◌∙◌}
use Rattle.control_vectors.specs.Controls.{Control}
use Rattle.programs.specs.declared.op.Statement.{Statement}
use Rattle.sql_read.specs.declared.definition.TableDef.{TableDef}
use Rattle.table_load.specs.Databases.{DatabaseValue}
use Rattle.expr_steps.specs.Lowered.{Bytes}
use Rattle.rel_plan.specs.declared.plans.RelPlan.{RelPlan}
use Rattle.plan_programs.specs.Lowered as spec
use Rattle.plan_programs.specs.Lowered.{lowered}
use Rattle.plan_lower.proofs.lowering.lower.Goals as goal

abbrev written : Control → List Bytes → List TableDef → RelPlan → ℕ → List Statement
written select texts defs p k = (spec.program select texts defs p k).statements

is_lowered : (select : Control) (db : DatabaseValue) (p : RelPlan) → written select db.dictionary db.defs p 0 ≡ lowered select db p
unfolding lowered
is_lowered select db p = refl

pub returns : goal.returns
returns c =
    let p = c.args.p.now in
    c.new.ensures ∙ c.done.ensures ∙ c.in_ok-program.ensures.statements
    ∙ ap (λ (l : List Statement). l ++ written c.select.result c.dictionary.result.now c.defs.result.now p c.new-w.result.next) c.new-w.ensures.statements
    ∙ ap (λ (k : ℕ). written c.select.result c.dictionary.result.now c.defs.result.now p k) c.new-w.ensures.next
    ∙ ap (λ (s : Control). written s c.dictionary.result.now c.defs.result.now p 0) c.select.ensures.select
    ∙ ap (λ (texts : List Bytes). written c.args.c.now.select texts c.defs.result.now p 0) c.dictionary.ensures
    ∙ ap (λ (defs : List TableDef). written c.args.c.now.select c.args.db.now.dictionary defs p 0) c.defs.ensures
    ∙ is_lowered c.args.c.now.select c.args.db.now p

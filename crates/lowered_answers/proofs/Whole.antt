-- A plan's program means its answer, and passes its check.
use Rattle.std.proofs.Common.{◌≡◌, ◌≤◌, ◌^◌, List, [], length, refl, sym, ap, ◌∙◌, subst, Result, Ok, Err}
use Rattle.std.specs.Prelude.{codes}
use Rattle.control_vectors.specs.Controls.{Control}
use Rattle.control_vectors.specs.declared.Over.{Over}
use Rattle.programs.specs.Check.{check, at_start}
use Rattle.programs.specs.Outlines.{Shapes, outlines}
use Rattle.programs.specs.Vectors.{nothing}
use Rattle.programs.specs.declared.op.Statement.{Statement}
use Rattle.sql_read.specs.declared.definition.TableDef.{TableDef}
use Rattle.table_load.specs.Databases.{database_of}
use Rattle.table_load.specs.Values.{Table}
use Rattle.voodoo_ops.specs.Laws.{MeaningLaws}
use Rattle.voodoo_ops.specs.Meaning.{meaning}
use Rattle.query_answers.specs.Answers.{Row}
use Rattle.rel_plan.specs.declared.plans.RelPlan.{RelPlan}
use Rattle.plan_laws.specs.PlanAnswers.{plan_answer}
use Rattle.writer_runs.specs.Laws.{with_result, StandLaws, ResultLaws}
use Rattle.writer_runs.specs.Runs.{Delivers}
use Rattle.writer_runs.specs.Uses.{ShowsNothing}
use Rattle.plan_programs.specs.Lowered.{lowered}
use Rattle.lowered_stages.specs.Plans.{CanLower}
use Rattle.lowered_items.specs.Items.{HoldLaw, PathLaw}
use Rattle.lowered_premises.specs.Laws.{SourceLaw}
use Rattle.lowered_answers.specs.Laws.{CheckLaw, HoldsAnswer, AnswerLaw}
use Rattle.lowered_answers.proofs.Bodies.{body, program_is}
use Rattle.lowered_answers.proofs.Outlined.{no_limit}
use Rattle.lowered_answers.proofs.Runs.{RunLaws, Premises, Given, texts, store, HoldsAt}
use Rattle.lowered_answers.proofs.Made.{body_made}
use Rattle.lowered_answers.proofs.Uses.{UseLaws, body_used}
use Rattle.lowered_answers.proofs.Checks.{PassLaws, PlacesLaws, body_passes, passes_check}
use Rattle.lowered_answers.proofs.Lists.{all_none}
use Rattle.lowered_answers.proofs.Short.{SizeLaws, program_short}

pub record AllLaws : Type 1 where
  pub runs : RunLaws
  pub premises : Premises
  pub passes : PassLaws
  pub places : PlacesLaws
  pub uses : UseLaws
  pub stands : StandLaws
  pub results : ResultLaws
  pub meanings : MeaningLaws
  pub holding : HoldLaw
  pub paths : PathLaw

shows_nothing : AllLaws → (g : Given) → ShowsNothing (body g.select (texts g) g.defs g.plan 0).statements
shows_nothing a g =
    let p = body_passes a.runs a.premises a.passes a.places g in
    a.stands.passed (outlines (store g)) (body g.select (texts g) g.defs g.plan 0).statements at_start p.after p.passes p.results

-- the statements without the result, and it
abbrev ended : Given → List Statement
ended g = with_result (body g.select (texts g) g.defs g.plan 0).statements (codes "answer") (body g.select (texts g) g.defs g.plan 0).told

means : AllLaws → (g : Given) (r : Result (List Row) Over) → Delivers (store g) (body g.select (texts g) g.defs g.plan) 0 nothing r (HoldsAt (texts g) (length g.plan.items)) → HoldsAnswer (texts g) (length g.plan.items) r (meaning (store g) (ended g))
means a g (Err e) failed =
    let w = body g.select (texts g) g.defs g.plan 0 in
    subst (HoldsAnswer (texts g) (length g.plan.items) (Err e)) (sym (a.results.fails (store g) w.statements [] (codes "answer") w.told (shows_nothing a g) (body_used a.uses g) failed)) tt
means a g (Ok rows) made =
    let w = body g.select (texts g) g.defs g.plan 0 in
    let v = made.holds.0 in
    let p = body_passes a.runs a.premises a.passes a.places g in
    let known = a.meanings.outline (store g) w.statements at_start p.after nothing made.after (no_limit 1 p.after.shape (p.small (all_none (λ o. o.len ≤ 2 ^ 22)))) refl p.passes made.ran in
    let h = a.holding (texts g) (length g.plan.items) rows v made.after p.after.vectors w.told p.holds.0 made.holds.1.1 made.holds.1.0 (ap (λ (f : Shapes). f w.told) known) p.holds.1 in
    let there = a.paths (length g.plan.items) v made.after p.after.vectors w.told p.holds.0 made.holds.1.0 (ap (λ (f : Shapes). f w.told) known) p.holds.1 in
    subst (HoldsAnswer (texts g) (length g.plan.items) (Ok rows)) (sym (a.results.shows (store g) w.statements [] (codes "answer") w.told made.after v (shows_nothing a g) (body_used a.uses g) made.ran made.holds.1.0))
    (record { vector = v; one = refl; fit = h.fit; holds = h.holds; paths = there.items; mark_is = there.mark_is; alone = h.alone })

ended_is : (g : Given) → lowered g.select (database_of g.defs g.ts) g.plan ≡ ended g
unfolding lowered database_of
ended_is g = program_is g.select (texts g) g.defs g.plan

abbrev given : SourceLaw → (select : Control) (defs : List TableDef) (ts : List Table) (p : RelPlan) → CanLower defs ts p → Given
given source select defs ts p can =
    let x = source defs ts p can in
    record { select = select; defs = defs; ts = ts; plan = p; source = x.0; def = x.1; table = x.2; can = can; over = x.3 }

pub answer_holds : AllLaws → SourceLaw → AnswerLaw
answer_holds a source select defs ts p can =
    let g = given source select defs ts p can in
    subst (λ (l : List Statement). HoldsAnswer (texts g) (length p.items) (plan_answer ts p) (meaning (store g) l)) (sym (ended_is g)) (means a g (plan_answer ts p) (body_made a.meanings a.runs a.premises a.passes g))

pub check_holds : AllLaws → SourceLaw → SizeLaws → CheckLaw
check_holds a source sizes select defs ts p can =
    let g = given source select defs ts p can in
    let x = passes_check a.runs a.premises a.passes a.places g (program_short sizes g) in
    record { shape = x.0; passes = ap (check (outlines (store g))) (ended_is g) ∙ x.1.0; small = x.1.1 }

-- A plan's program without its result: the parts before it tell the vector that the result shows.
use Rattle.std.proofs.Common.{◌≡◌, List, [], ◌∷◌, ◌++◌, refl, sym, ap, ◌∙◌, append_assoc}
use Rattle.std.specs.Prelude.{codes}
use Rattle.control_vectors.specs.Controls.{Control}
use Rattle.programs.specs.declared.op.Op.TheVariants as op
use Rattle.programs.specs.declared.op.Statement.{Statement}
use Rattle.programs.specs.Mentions.{Label}
use Rattle.sql_read.specs.declared.definition.TableDef.{TableDef}
use Rattle.expr_steps.specs.Lowered.{Bytes}
use Rattle.rel_plan.specs.declared.plans.RelPlan.{RelPlan}
use Rattle.program_writers.specs.Writers.{Writer, ◌>>=◌, statement}
use Rattle.writer_runs.specs.Laws.{with_result}
use Rattle.plan_programs.specs.Sites.{Base}
use Rattle.plan_programs.specs.Rows.{kept}
use Rattle.plan_programs.specs.Items.{items_of, in_order}
use Rattle.plan_programs.specs.Lowered.{from_rows, stands_on, program}
use Rattle.lowered_stages.specs.Parts.{ordered_items}

abbrev pub items_on : List Bytes → RelPlan → Base → Writer Label
items_on texts p on = ordered_items texts on p.items p.order

abbrev pub behind_where : Control → List Bytes → RelPlan → Base → Writer Label
behind_where select texts p b = stands_on select texts p p.grouped b >>= items_on texts p

abbrev pub behind_rows : Control → List Bytes → RelPlan → Base → Writer Label
behind_rows select texts p rows = kept select texts rows p.filter >>= behind_where select texts p

abbrev pub body : Control → List Bytes → List TableDef → RelPlan → Writer Label
body select texts defs p = from_rows select texts defs p.sources >>= behind_rows select texts p

one_more : (a b c : List Statement) (s : Statement) → c ≡ b ++ s ∷ [] → a ++ c ≡ (a ++ b) ++ s ∷ []
one_more a b c s e = ap (λ (l : List Statement). a ++ l) e ∙ sym (append_assoc a b (s ∷ []))

pub program_is : (select : Control) (texts : List Bytes) (defs : List TableDef) (p : RelPlan) → (program select texts defs p 0).statements ≡ with_result (body select texts defs p 0).statements (codes "answer") (body select texts defs p 0).told
program_is select texts defs p =
    let first = from_rows select texts defs p.sources 0 in
    let second = kept select texts first.told p.filter first.next in
    let third = stands_on select texts p p.grouped second.told second.next in
    let fourth = items_of texts third.told p.items third.next in
    let fifth = in_order third.told fourth.told p.order fourth.next in
    let s = statement (codes "answer") (op.Persist fifth.told) in
    one_more first.statements (second.statements ++ (third.statements ++ (fourth.statements ++ fifth.statements))) (second.statements ++ (third.statements ++ (fourth.statements ++ (fifth.statements ++ s ∷ [])))) s
    (one_more second.statements (third.statements ++ (fourth.statements ++ fifth.statements)) (third.statements ++ (fourth.statements ++ (fifth.statements ++ s ∷ []))) s
    (one_more third.statements (fourth.statements ++ fifth.statements) (fourth.statements ++ (fifth.statements ++ s ∷ [])) s (one_more fourth.statements fifth.statements (fifth.statements ++ s ∷ []) s refl)))

use Rattle.programs.specs.Vectors.{seen_all, tables}
use Rattle.voodoo_ops.specs.Meaning.{meaning}
use Rattle.answer_texts.specs.Texts.{answer_text}
use Rattle.query_runs.specs.Runs.{query_program}
use Rattle.query_runs.proofs.Printing.{printable, prints}
use Rattle.query_runs.proofs.rows.query_results.Goals as goal

pub plan_of_query-requires-clause-planned : goal.plan_of_query-requires-clause-planned
plan_of_query-requires-clause-planned c = (c.plans_lower.ensures.few c.args.db.now c.requires.tables.tables c.args.q.now (record { tables = c.requires.tables.are; query = c.requires.query; one_table = c.requires.one_table })).0

pub plan_of_query-requires-clause-pushed : goal.plan_of_query-requires-clause-pushed
plan_of_query-requires-clause-pushed c = (c.plans_lower.ensures.few c.args.db.now c.requires.tables.tables c.args.q.now (record { tables = c.requires.tables.are; query = c.requires.query; one_table = c.requires.one_table })).1

pub results_of_plan-requires : goal.results_of_plan-requires
results_of_plan-requires c = rw c.in_ok-p.ensures (c.run_laws.ensures.checked c.args.db.now c.requires.tables.tables c.args.q.now (record { tables = c.requires.tables.are; query = c.requires.query; one_table = c.requires.one_table }))

pub returns-clause-printable : goal.returns-clause-printable
returns-clause-printable c =
    printable seen_all c.args.db.now.dictionary c.args.q.now (answer_text c.requires.tables.tables c.args.q.now) (meaning (tables c.args.db.now.store) (query_program c.args.db.now c.args.q.now)) c.results_of_plan.result
    (c.run_laws.ensures.prints c.args.db.now c.requires.tables.tables c.args.q.now (record { tables = c.requires.tables.are; query = c.requires.query; one_table = c.requires.one_table }))
    (rw c.in_ok-p.ensures at c.results_of_plan.ensures.results)

pub returns-clause-text : goal.returns-clause-text
returns-clause-text c ts are =
    prints seen_all c.args.db.now.dictionary c.args.q.now (answer_text ts c.args.q.now) (meaning (tables c.args.db.now.store) (query_program c.args.db.now c.args.q.now)) c.results_of_plan.result
    (c.run_laws.ensures.prints c.args.db.now ts c.args.q.now (record { tables = are; query = c.requires.query; one_table = c.requires.one_table }))
    (rw c.in_ok-p.ensures at c.results_of_plan.ensures.results)

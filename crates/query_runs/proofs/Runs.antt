-- The program of a query over one table can be run, and its results print the query's answer.
use Rattle.std.proofs.Common.{◌≡◌, List, length, Ok, Err, refl, ap, sym, subst}
use Rattle.std.specs.Prelude.{Result}
use Rattle.control_vectors.specs.declared.Over.{Over}
use Rattle.control_plan.specs.Plans.{usual}
use Rattle.sql_read.specs.declared.definition.TableDef.{TableDef}
use Rattle.table_load.specs.Databases.{DatabaseValue, database_of}
use Rattle.table_load.specs.Values.{Table}
use Rattle.typed_trees.specs.declared.typed.TypedExpr.{TypedExpr}
use Rattle.typed_trees.specs.declared.typed.TypedQuery.{TypedQuery}
use Rattle.programs.specs.Vectors.{Named, tables}
use Rattle.voodoo_ops.specs.Meaning.{meaning}
use Rattle.query_answers.specs.Answers.{Row, query_answer}
use Rattle.query_answers.specs.Overs.{◌>>=◌}
use Rattle.answer_texts.specs.Texts.{text_of}
use Rattle.rel_plan.specs.Plans.{plan_of}
use Rattle.plan_laws.specs.PlanAnswers.{plan_answer}
use Rattle.loaded_plans.specs.Laws.{AreLoaded, ReadAnswers}
use Rattle.lowered_answers.specs.Laws.{AnswerLaw, CheckLaw, HoldsAnswer, PassesCheck}
use Rattle.held_answers.specs.Laws.{PrintLaw}
use Rattle.written_queries.specs.Scales.{HasScales, ScalesLaw}
use Rattle.run_steps.specs.Loaded.{IsQueryOver}
use Rattle.query_runs.proofs.FewSources.{same_items}
use Rattle.query_runs.specs.Runs.{IsAsked, PlansLower, PrintsText, RunLaws, query_plan, query_program}

module _ (plans : PlansLower) (read : ReadAnswers) (check : CheckLaw) (answer : AnswerLaw) (scales : ScalesLaw) (print : PrintLaw) where
  -- over a database that is that of its tables
  checked : (db : DatabaseValue) (ts : List Table) (q : TypedQuery) → IsAsked db ts q → PassesCheck db usual.select (query_plan q)
  checked db ts q a = subst (λ d. PassesCheck d usual.select (query_plan q)) (sym a.tables.database) (check usual.select db.defs ts (query_plan q) (plans.lowerable db ts q a))

  -- from what the results hold
  by_results : (defs : List TableDef) (ts : List Table) (q : TypedQuery) → IsQueryOver defs q → HasScales defs → AreLoaded defs ts → (rows : Result (List Row) Over) (named : Result Named Over) → query_answer ts q ≡ rows
      → HoldsAnswer (database_of defs ts).dictionary (length q.items) rows named → PrintsText (database_of defs ts).dictionary q (rows >>= λ l. Ok (text_of q l)) named
  by_results defs ts q h small loaded (Ok rows) (Ok named) e held =
      let p = print h.text defs ts h.query q rows named h.read small h.typed loaded e held in
      (p.printable, p.text)
  by_results defs ts q h small loaded (Ok rows) (Err f) e held = absurd held
  by_results defs ts q h small loaded (Err o) (Ok named) e held = absurd held
  by_results defs ts q h small loaded (Err o) (Err f) e held = tt

  prints : (db : DatabaseValue) (ts : List Table) (q : TypedQuery) → IsAsked db ts q
      → PrintsText (database_of db.defs ts).dictionary q (query_answer ts q >>= λ l. Ok (text_of q l)) (meaning (tables (database_of db.defs ts).store) (query_program (database_of db.defs ts) q))
  prints db ts q a =
      let db_of = database_of db.defs ts in
      let named = meaning (tables db_of.store) (query_program db_of q) in
      let held = answer usual.select db.defs ts (query_plan q) (plans.lowerable db ts q a) in
      let same : plan_answer ts (query_plan q) ≡ query_answer ts q = read a.query.text db.defs ts a.query.query q a.query.read a.query.typed a.tables.loaded in
      let answered : HoldsAnswer db_of.dictionary (length (query_plan q).items) (query_answer ts q) named = subst (λ o. HoldsAnswer db_of.dictionary (length (query_plan q).items) o named) same held in
      let counted : length (query_plan q).items ≡ length q.items = ap (λ (l : List TypedExpr). length l) (same_items (plan_of q)) in
      by_results db.defs ts q a.query (scales a.tables.schema.text db.defs a.tables.schema.read a.tables.clean) a.tables.loaded (query_answer ts q) named refl
      (subst (λ n. HoldsAnswer db_of.dictionary n (query_answer ts q) named) counted answered)

  pub run_laws : RunLaws
  run_laws = record {
    checked = checked;
    prints = λ db ts q a.
        subst (λ d. PrintsText d.dictionary q (query_answer ts q >>= λ l. Ok (text_of q l)) (meaning (tables d.store) (query_program d q))) (sym a.tables.database) (prints db ts q a);
  }

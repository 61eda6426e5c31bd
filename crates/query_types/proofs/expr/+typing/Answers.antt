use Rattle.std.proofs.Common.{sym, ◌∙◌, arith, rules}
use Rattle.std.proofs.lemmas.Grind.{common_steps}
use Rattle.query_types.proofs.Typers.{typed-Number, typed-Text, typed-Date, typed-Column, typed-CountAll, typed-Aggregate, typed-Enclosed, typed-Signed, typed-Not, typed-Binary, typed-Divide, typed-Between, typed-In, typed-IsNull, typed-Coalesce}
use Rattle.query_types.proofs.expr.+typing.Goals as goal

pub expr-returns-in-Number : goal.expr-returns-in-Number
expr-returns-in-Number t c = rw (typed-Number c.args.e.now c.in-Number.n c.in-Number.scale (sym c.get.ensures ∙ c.in-Number.is)) (first_of (search rules, grind (arith, common_steps)))

pub expr-returns-in-Text : goal.expr-returns-in-Text
expr-returns-in-Text t c = rw (typed-Text c.args.e.now c.in-Text.text (sym c.get.ensures ∙ c.in-Text.is)) (first_of (search rules, grind (arith, common_steps)))

pub expr-returns-in-Date : goal.expr-returns-in-Date
expr-returns-in-Date t c = rw (typed-Date c.args.e.now c.in-Date.day (sym c.get.ensures ∙ c.in-Date.is)) (first_of (search rules, grind (arith, common_steps)))

pub expr-returns-in-Column : goal.expr-returns-in-Column
expr-returns-in-Column t c = rw (typed-Column c.args.e.now c.in-Column.c (sym c.get.ensures ∙ c.in-Column.is)) (first_of (search rules, grind (arith, common_steps)))

pub expr-returns-in-CountAll : goal.expr-returns-in-CountAll
expr-returns-in-CountAll t c = rw (typed-CountAll c.args.e.now (sym c.get.ensures ∙ c.in-CountAll.is)) (first_of (search rules, grind (arith, common_steps)))

pub expr-returns-in-Enclosed : goal.expr-returns-in-Enclosed
expr-returns-in-Enclosed t c = rw (typed-Enclosed c.args.e.now c.in-Enclosed.x (sym c.get.ensures ∙ c.in-Enclosed.is)) (first_of (search rules, grind (arith, common_steps)))

pub expr-returns-in_err-a-in-Aggregate : goal.expr-returns-in_err-a-in-Aggregate
expr-returns-in_err-a-in-Aggregate t c = rw (typed-Aggregate c.args.e.now c.in-Aggregate.of c.in-Aggregate.x (sym c.get.ensures ∙ c.in-Aggregate.is)) (first_of (search rules, grind (arith, common_steps)))

pub expr-returns-in_ok-a-in-Aggregate : goal.expr-returns-in_ok-a-in-Aggregate
expr-returns-in_ok-a-in-Aggregate t c = rw (typed-Aggregate c.args.e.now c.in-Aggregate.of c.in-Aggregate.x (sym c.get.ensures ∙ c.in-Aggregate.is)) (first_of (search rules, grind (arith, common_steps)))

pub expr-returns-in_err-a-in-Signed : goal.expr-returns-in_err-a-in-Signed
expr-returns-in_err-a-in-Signed t c = rw (typed-Signed c.args.e.now c.in-Signed.sign c.in-Signed.x (sym c.get.ensures ∙ c.in-Signed.is)) (first_of (search rules, grind (arith, common_steps)))

pub expr-returns-in_ok-a-in-Signed : goal.expr-returns-in_ok-a-in-Signed
expr-returns-in_ok-a-in-Signed t c = rw (typed-Signed c.args.e.now c.in-Signed.sign c.in-Signed.x (sym c.get.ensures ∙ c.in-Signed.is)) (first_of (search rules, grind (arith, common_steps)))

pub expr-returns-in_err-a-in-Not : goal.expr-returns-in_err-a-in-Not
expr-returns-in_err-a-in-Not t c = rw (typed-Not c.args.e.now c.in-Not.x (sym c.get.ensures ∙ c.in-Not.is)) (first_of (search rules, grind (arith, common_steps)))

pub expr-returns-in_ok-a-in-Not : goal.expr-returns-in_ok-a-in-Not
expr-returns-in_ok-a-in-Not t c = rw (typed-Not c.args.e.now c.in-Not.x (sym c.get.ensures ∙ c.in-Not.is)) (first_of (search rules, grind (arith, common_steps)))

pub expr-returns-in_err-a-in-Binary : goal.expr-returns-in_err-a-in-Binary
expr-returns-in_err-a-in-Binary t c = rw (typed-Binary c.args.e.now c.in-Binary.op c.in-Binary.at c.in-Binary.x c.in-Binary.y (sym c.get.ensures ∙ c.in-Binary.is)) (first_of (search rules, grind (arith, common_steps)))

pub expr-returns-in_err-b-in-Binary : goal.expr-returns-in_err-b-in-Binary
expr-returns-in_err-b-in-Binary t c = rw (typed-Binary c.args.e.now c.in-Binary.op c.in-Binary.at c.in-Binary.x c.in-Binary.y (sym c.get.ensures ∙ c.in-Binary.is)) (first_of (search rules, grind (arith, common_steps)))

pub expr-returns-in_ok-b-in-Binary : goal.expr-returns-in_ok-b-in-Binary
expr-returns-in_ok-b-in-Binary t c = rw (typed-Binary c.args.e.now c.in-Binary.op c.in-Binary.at c.in-Binary.x c.in-Binary.y (sym c.get.ensures ∙ c.in-Binary.is)) (first_of (search rules, grind (arith, common_steps)))

pub expr-returns-in_err-a-in-Divide : goal.expr-returns-in_err-a-in-Divide
expr-returns-in_err-a-in-Divide t c = rw (typed-Divide c.args.e.now c.in-Divide.at c.in-Divide.x c.in-Divide.by (sym c.get.ensures ∙ c.in-Divide.is)) (first_of (search rules, grind (arith, common_steps)))

pub expr-returns-in_ok-a-in-Divide : goal.expr-returns-in_ok-a-in-Divide
expr-returns-in_ok-a-in-Divide t c = rw (typed-Divide c.args.e.now c.in-Divide.at c.in-Divide.x c.in-Divide.by (sym c.get.ensures ∙ c.in-Divide.is)) (first_of (search rules, grind (arith, common_steps)))

pub expr-returns-in_err-a-in-Between : goal.expr-returns-in_err-a-in-Between
expr-returns-in_err-a-in-Between t c = rw (typed-Between c.args.e.now c.in-Between.polarity c.in-Between.at c.in-Between.x c.in-Between.y c.in-Between.z (sym c.get.ensures ∙ c.in-Between.is)) (first_of (search rules, grind (arith, common_steps)))

pub expr-returns-in_err-low-in-Between : goal.expr-returns-in_err-low-in-Between
expr-returns-in_err-low-in-Between t c = rw (typed-Between c.args.e.now c.in-Between.polarity c.in-Between.at c.in-Between.x c.in-Between.y c.in-Between.z (sym c.get.ensures ∙ c.in-Between.is)) (first_of (search rules, grind (arith, common_steps)))

pub expr-returns-in_err-high-in-Between : goal.expr-returns-in_err-high-in-Between
expr-returns-in_err-high-in-Between t c = rw (typed-Between c.args.e.now c.in-Between.polarity c.in-Between.at c.in-Between.x c.in-Between.y c.in-Between.z (sym c.get.ensures ∙ c.in-Between.is)) (first_of (search rules, grind (arith, common_steps)))

pub expr-returns-in_ok-high-in-Between : goal.expr-returns-in_ok-high-in-Between
expr-returns-in_ok-high-in-Between t c = rw (typed-Between c.args.e.now c.in-Between.polarity c.in-Between.at c.in-Between.x c.in-Between.y c.in-Between.z (sym c.get.ensures ∙ c.in-Between.is)) (first_of (search rules, grind (arith, common_steps)))

pub expr-returns-in_err-a-in-In : goal.expr-returns-in_err-a-in-In
expr-returns-in_err-a-in-In t c = rw (typed-In c.args.e.now c.in-In.polarity c.in-In.at c.in-In.x c.in-In.ys (sym c.get.ensures ∙ c.in-In.is)) (first_of (search rules, grind (arith, common_steps)))

pub expr-returns-in_err-ts-in-In : goal.expr-returns-in_err-ts-in-In
expr-returns-in_err-ts-in-In t c = rw (typed-In c.args.e.now c.in-In.polarity c.in-In.at c.in-In.x c.in-In.ys (sym c.get.ensures ∙ c.in-In.is)) (first_of (search rules, grind (arith, common_steps)))

pub expr-returns-in_ok-ts-in-In : goal.expr-returns-in_ok-ts-in-In
expr-returns-in_ok-ts-in-In t c = rw (typed-In c.args.e.now c.in-In.polarity c.in-In.at c.in-In.x c.in-In.ys (sym c.get.ensures ∙ c.in-In.is)) (first_of (search rules, grind (arith, common_steps)))

pub expr-returns-in_err-a-in-IsNull : goal.expr-returns-in_err-a-in-IsNull
expr-returns-in_err-a-in-IsNull t c = rw (typed-IsNull c.args.e.now c.in-IsNull.polarity c.in-IsNull.at c.in-IsNull.x (sym c.get.ensures ∙ c.in-IsNull.is)) (first_of (search rules, grind (arith, common_steps)))

pub expr-returns-in_ok-a-in-IsNull : goal.expr-returns-in_ok-a-in-IsNull
expr-returns-in_ok-a-in-IsNull t c = rw (typed-IsNull c.args.e.now c.in-IsNull.polarity c.in-IsNull.at c.in-IsNull.x (sym c.get.ensures ∙ c.in-IsNull.is)) (first_of (search rules, grind (arith, common_steps)))

pub expr-returns-in_err-a-in-Coalesce : goal.expr-returns-in_err-a-in-Coalesce
expr-returns-in_err-a-in-Coalesce t c = rw (typed-Coalesce c.args.e.now c.in-Coalesce.x c.in-Coalesce.ys (sym c.get.ensures ∙ c.in-Coalesce.is)) (first_of (search rules, grind (arith, common_steps)))

pub expr-returns-in_err-ts-in-Coalesce : goal.expr-returns-in_err-ts-in-Coalesce
expr-returns-in_err-ts-in-Coalesce t c = rw (typed-Coalesce c.args.e.now c.in-Coalesce.x c.in-Coalesce.ys (sym c.get.ensures ∙ c.in-Coalesce.is)) (first_of (search rules, grind (arith, common_steps)))

pub expr-returns-in_ok-ts-in-Coalesce : goal.expr-returns-in_ok-ts-in-Coalesce
expr-returns-in_ok-ts-in-Coalesce t c = rw (typed-Coalesce c.args.e.now c.in-Coalesce.x c.in-Coalesce.ys (sym c.get.ensures ∙ c.in-Coalesce.is)) (first_of (search rules, grind (arith, common_steps)))

-- The text of what a run is to write.
use Rattle.std.specs.Prelude.{ℕ, List}
use Rattle.row_print.specs.Results.{results_text}
use Rattle.programs.specs.Vectors.{seen_all}
use Rattle.answer_print.specs.Conditions.{HoldsAnswer}
use Rattle.query_runs.specs.Rows.{rows_text}
use Rattle.voodoo_cmd.specs.declared.top.Answer.{Answer}
use Rattle.voodoo_cmd.specs.declared.top.Answer.TheVariants.{Rows, Results}

abbrev pub text_given : Answer → List ℕ
text_given (Rows r) = rows_text r
text_given (Results named) = results_text (seen_all named)

-- results that hold the rows of their query
abbrev pub IsPrintable : Answer → Type 0
IsPrintable (Rows r) = HoldsAnswer r.query (seen_all r.results)
IsPrintable (Results named) = Unit {0}

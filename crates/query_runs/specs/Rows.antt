-- The rows of a query's answer, as the text that they print.
use Rattle.std.specs.Prelude.{ℕ, List}
use Rattle.programs.specs.Vectors.{seen_all}
use Rattle.answer_print.specs.Held.{held_text}
use Rattle.run_steps.specs.declared.status.FileRole.TheVariants.{Text}
use Rattle.run_steps.specs.declared.status.Status.{Status}
use Rattle.run_steps.specs.declared.status.Status.TheVariants.{Overflow, NotYet, NoMemory}
use Rattle.query_runs.specs.declared.rows.QueryRows.{QueryRows}

abbrev pub rows_text : QueryRows → List ℕ
rows_text r = held_text r.database.dictionary r.query (seen_all r.results)

-- a query over more than one table, a number that leaves 128 bits, or want of memory
abbrev pub IsRowsRefusal : Status → Type 0
IsRowsRefusal (NotYet Text) = Unit {0}
IsRowsRefusal Overflow = Unit {0}
IsRowsRefusal NoMemory = Unit {0}
IsRowsRefusal _ = ⊥

-- Results that hold the rows of a query's answer can be printed, and what is printed is the answer's text.
-- After SQL-92 (ISO/IEC 9075:1992), 7.3 <table expression> to 7.9 <query specification>.
use Rattle.std.specs.Prelude.{◌≡◌, ℕ, List, length, Ok}
use Rattle.sql_read.specs.declared.definition.TableDef.{TableDef}
use Rattle.table_load.specs.Databases.{database_of}
use Rattle.table_load.specs.Values.{Table}
use Rattle.query_trees.specs.declared.query.Query.{Query}
use Rattle.typed_trees.specs.declared.typed.TypedQuery.{TypedQuery}
use Rattle.query_read.specs.QueryText.{query_of}
use Rattle.query_types.specs.Typing.{typed_query}
use Rattle.programs.specs.Vectors.{Named}
use Rattle.query_answers.specs.Answers.{Row, query_answer}
use Rattle.answer_texts.specs.Texts.{text_of}
use Rattle.answer_print.specs.Conditions.{HoldsAnswer}
use Rattle.answer_print.specs.Held.{held_text}
use Rattle.loaded_plans.specs.Laws.{AreLoaded}
use Rattle.written_queries.specs.Scales.{HasScales}
use Rattle.lowered_answers.specs.Holding.{HoldsRows}

-- results that can be printed, with this text
pub record Prints (dictionary : List (List ℕ)) (q : TypedQuery) (rows : List Row) (named : Named) : Type 0 where
  pub printable : HoldsAnswer q named
  pub text : held_text dictionary q named ≡ text_of q rows

abbrev pub PrintLaw : Type 0
PrintLaw =
    (text : List ℕ) (defs : List TableDef) (ts : List Table) (query : Query) (q : TypedQuery) (rows : List Row) (named : Named) → query_of text ≡ Ok query → HasScales defs → typed_query query defs ≡ Ok q → AreLoaded defs ts → query_answer ts q ≡ Ok rows
    → HoldsRows (database_of defs ts).dictionary (length q.items) rows named → Prints (database_of defs ts).dictionary q rows named

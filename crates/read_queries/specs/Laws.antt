-- The laws of groups: a query that is read has GROUP BY before HAVING.
use Rattle.std.specs.Prelude.{◌≡◌, Ok}
use Rattle.sql_read.specs.Lexis.{Bytes}
use Rattle.query_trees.specs.declared.query.Query.{Query}
use Rattle.query_read.specs.QueryText.{IsQuery, query_of}
use Rattle.query_shapes.specs.Laws.{HasGroups}

-- by the grammar
abbrev pub GroupsLaw : Type 0
GroupsLaw = (text : Bytes) (q : Query) → IsQuery text q → HasGroups q

-- by the answer for each text
abbrev pub AnswerLaw : Type 0
AnswerLaw = (text : Bytes) (q : Query) → query_of text ≡ Ok q → HasGroups q

-- The law of shapes: every query that has a typed form has its shape.
use Rattle.std.specs.Prelude.{◌≡◌, true, List, Ok, is_some}
use Rattle.sql_read.specs.declared.definition.TableDef.{TableDef}
use Rattle.query_trees.specs.declared.query.Query.{Query}
use Rattle.typed_trees.specs.declared.typed.TypedQuery.{TypedQuery}
use Rattle.query_types.specs.Grouping.{is_written}
use Rattle.query_types.specs.Typing.{typed_query}
use Rattle.query_shapes.specs.Shapes.{IsShaped}

-- where HAVING stands there is GROUP BY, as the grammar has it
abbrev pub HasGroups : Query → Type 0
HasGroups q = is_some q.having ≡ true → is_written q.groups ≡ true

abbrev pub ShapeLaw : Type 0
ShapeLaw = (q : Query) (defs : List TableDef) (t : TypedQuery) → HasGroups q → typed_query q defs ≡ Ok t → IsShaped t

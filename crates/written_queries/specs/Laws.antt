-- The literals of a query that is read and typed are as the grammar has them.
-- After SQL-92 (ISO/IEC 9075:1992), 5.3 <literal> and 7.3 <table expression> to 7.9 <query specification>.
use Rattle.std.specs.Prelude.{◌≡◌, ℕ, ◌==◌, nat_le, Bool, true, List, All, Ok}
use Rattle.std.specs.Option.{ForSome}
use Rattle.civil_days.specs.Dates.{in_range}
use Rattle.sql_read.specs.declared.definition.ColumnKind.{ColumnKind}
use Rattle.sql_read.specs.declared.definition.ColumnKind.TheVariants.{Decimal}
use Rattle.sql_read.specs.declared.definition.TableDef.{TableDef}
use Rattle.sql_read.specs.Lexis.{Bytes, max_scale}
use Rattle.query_trees.specs.declared.query.Query.{Query}
use Rattle.typed_trees.specs.declared.typed.TypedExpr.{TypedExpr}
use Rattle.typed_trees.specs.declared.typed.TypedExpr.TheOpen.{TypedExpr-F}
use Rattle.typed_trees.specs.declared.typed.TypedExpr.TheFolds.{fold-TypedExpr}
use Rattle.typed_trees.specs.declared.typed.TypedQuery.{TypedQuery}
use Rattle.query_read.specs.QueryText.{query_of}
use Rattle.query_types.specs.Typing.{typed_query}
use Rattle.expr_values.specs.Written.{form_written}
use Rattle.written_queries.specs.Scales.{HasScales}

abbrev pub column_scale : ColumnKind → ℕ → Bool
column_scale Decimal scale = nat_le scale max_scale
column_scale kind scale = scale == 0

-- days are days of the years 1 to 9999, a decimal column has at most 18 digits after its point and any other has none, and all else is within the ranges of lowering
abbrev pub form_as_written : TypedExpr-F Bool → Bool
form_as_written (TypedExpr-F.Date day) = in_range day
form_as_written (TypedExpr-F.Column c type) = column_scale type.kind type.scale
form_as_written form = form_written form

unfoldable pub is_as_written : TypedExpr → Bool
is_as_written = fold-TypedExpr Bool form_as_written

abbrev pub IsAsWritten : TypedExpr → Type 0
IsAsWritten e = is_as_written e ≡ true

-- the literals of each expression are as the grammar has them
pub record IsWritten (t : TypedQuery) : Type 0 where
  pub sources : All (λ s. All IsAsWritten s.filter) t.sources
  pub filter : All IsAsWritten t.filter
  pub aggregates : All (λ a. ForSome a.argument IsAsWritten) t.aggregates
  pub having : ForSome t.having IsAsWritten
  pub items : All IsAsWritten t.items

-- so it is in every query that is read and typed
abbrev pub WrittenLaw : Type 0
WrittenLaw = (text : Bytes) (defs : List TableDef) (q : Query) (t : TypedQuery) → query_of text ≡ Ok q → HasScales defs → typed_query q defs ≡ Ok t → IsWritten t

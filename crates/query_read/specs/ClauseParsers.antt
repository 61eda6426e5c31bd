-- The grammar of queries, rule by rule as parsers that decide by the next token.
use Rattle.std.specs.Prelude.{ℕ, List, [], ◌∷◌, ◌++◌, Option, Some, None}
use Rattle.phrases.specs.Parsers.{pure, either, repeat, ◌>>=◌, ◌>>◌}
use Rattle.sql_read.specs.declared.kind.Kind.{Kind}
use Rattle.sql_read.specs.declared.kind.Kind.TheVariants as k
use Rattle.sql_read.specs.declared.token_list.Token.{Token}
use Rattle.sql_read.specs.Lexis.{Bytes}
use Rattle.sql_read.specs.Schema.{is}
use Rattle.query_trees.specs.declared.expr.Expr.{Expr}
use Rattle.query_trees.specs.declared.clauses.Alias.{Alias}
use Rattle.query_trees.specs.declared.clauses.SelectItem.{SelectItem}
use Rattle.query_trees.specs.declared.clauses.SelectList.{SelectList}
use Rattle.query_trees.specs.declared.clauses.SelectList.TheVariants as select
use Rattle.query_trees.specs.declared.clauses.TableName.{TableName}
use Rattle.query_trees.specs.declared.clauses.Join.{Join}
use Rattle.query_trees.specs.declared.clauses.Source.{Source}
use Rattle.query_trees.specs.declared.clauses.Direction.{Direction}
use Rattle.query_trees.specs.declared.clauses.Direction.TheVariants.{Ascending, Descending}
use Rattle.query_trees.specs.declared.clauses.SortKey.{SortKey}
use Rattle.query_trees.specs.declared.query.Query.{Query}
use Rattle.query_read.specs.declared.grouping.Grouping.{Grouping}
use Rattle.query_read.specs.Asked.{Asked}
use Rattle.query_read.specs.Classes.{joins}
use Rattle.query_read.specs.Nodes.{of, alias_of, table_of, cross_join, key_join, grouping, by_place, by_column, query_of}
use Rattle.query_read.specs.ExpressionParsers.{Parser, expect, series, column, expr, under}

unfoldable pub named : Bytes → Parser (Option Alias)
named text = do n ← expect k.Name; pure (Some (alias_of text n))

unfoldable pub alias : Bytes → Parser (Option Alias)
alias text = either (is k.As) (expect k.As >> named text) (either (is k.Name) (named text) (pure None))

unfoldable pub item : Bytes → Parser Expr → Parser SelectItem
item text q = do
  a ← q
  x ← alias text
  pure (record { value = a; alias = x })

unfoldable pub list : Bytes → Parser Expr → Parser SelectList
list text q =
    either (is k.Star) (do t ← expect k.Star; pure (select.All t.at))
    (do xs ← series (item text q); pure (select.Items xs))

unfoldable pub table : Bytes → Parser TableName
table text = do
  n ← expect k.Name
  a ← alias text
  pure (table_of text n a)

unfoldable pub by_comma : Bytes → Parser Join
by_comma text = do t ← expect k.Comma; x ← table text; pure (cross_join t x)

unfoldable pub by_cross : Bytes → Parser Join
by_cross text = do t ← expect k.Cross; expect k.Join; x ← table text; pure (cross_join t x)

unfoldable pub on : Bytes → Token → Parser Join
on text t = do
  x ← table text
  expect k.On
  a ← column text
  q ← expect k.Equal
  b ← column text
  pure (key_join t x a q b)

unfoldable pub by_key : Bytes → Parser Join
by_key text = either (is k.Inner) (do t ← expect k.Inner; expect k.Join; on text t) (do t ← expect k.Join; on text t)

unfoldable pub added_table : Bytes → Parser Join
added_table text = either (is k.Comma) (by_comma text) (either (is k.Cross) (by_cross text) (by_key text))

unfoldable pub join : Bytes → List Join → Parser (List Join)
join text js = do
  j ← added_table text
  pure (js ++ j ∷ [])

abbrev pub more_joins : Bytes → List Join → Parser (List Join)
more_joins text = repeat (of joins) (join text)

unfoldable pub source : Bytes → Parser Source
source text = do
  t ← table text
  js ← more_joins text []
  pure (record { first = t; joins = js })

unfoldable pub condition : Kind → Parser Expr → Parser (Option Expr)
condition kind q = either (is kind) (do expect kind; a ← q; pure (Some a)) (pure None)

unfoldable pub by_groups : Bytes → Parser Expr → Parser Grouping
by_groups text q = do
  expect k.Group
  expect k.By
  cs ← series (column text)
  h ← condition k.Having q
  pure (grouping cs h)

unfoldable pub groups : Bytes → Parser Expr → Parser Grouping
groups text q = either (is k.Group) (by_groups text q) (pure (grouping [] None))

unfoldable pub direction : Parser Direction
direction = either (is k.Asc) (do expect k.Asc; pure Ascending) (either (is k.Desc) (do expect k.Desc; pure Descending) (pure Ascending))

unfoldable pub sort_by : Bytes → Parser SortKey
sort_by text = either (is k.Digits) (do n ← expect k.Digits; pure (by_place n)) (do c ← column text; pure (by_column c))

unfoldable pub key : Bytes → Parser SortKey
key text = do
  b ← sort_by text
  x ← direction
  pure (record b { direction = x })

unfoldable pub order : Bytes → Parser (List SortKey)
order text = either (is k.Order) (do expect k.Order; expect k.By; series (key text)) (pure [])

unfoldable pub distinct : Parser (Option ℕ)
distinct = either (is k.Distinct) (do t ← expect k.Distinct; pure (Some t.at)) (pure None)

unfoldable pub closed : Query → Parser Query
closed x = either (is k.Semicolon) (expect k.Semicolon >> pure x) (pure x)

unfoldable pub query_over : Bytes → Parser Expr → Parser Query
query_over text q = do
  s ← expect k.Select
  x ← distinct
  l ← list text q
  expect k.From
  t ← source text
  w ← condition k.Where q
  g ← groups text q
  o ← order text
  closed (query_of s x l t w g o)

abbrev pub query : Asked → Bytes → ℕ → Parser Query
query m text n = query_over text (expr m text (under m text n))

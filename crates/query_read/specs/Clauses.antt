-- The grammar of queries, over the tokens of a text: which tokens are which query.
-- After SQL-92 (ISO/IEC 9075:1992), 7.3 to 7.9 <table expression> and <query specification>, and 13.1 <order by clause>.
use Rattle.std.specs.Prelude.{ℕ, List, [], ◌∷◌, ◌++◌, Option, Some, None}
use Rattle.phrases.specs.Phrases.{Phrase, nothing, ◌>>=◌, ◌>>◌, ◌<|>◌, Repeated}
use Rattle.sql_read.specs.declared.kind.Kind.{Kind}
use Rattle.sql_read.specs.declared.kind.Kind.TheVariants as k
use Rattle.sql_read.specs.declared.token_list.Token.{Token}
use Rattle.sql_read.specs.Lexis.{Bytes}
use Rattle.sql_read.specs.Schema.{word}
use Rattle.query_trees.specs.declared.expr.Expr.{Expr}
use Rattle.query_trees.specs.declared.clauses.Alias.{Alias}
use Rattle.query_trees.specs.declared.clauses.SelectItem.{SelectItem}
use Rattle.query_trees.specs.declared.clauses.SelectList.{SelectList}
use Rattle.query_trees.specs.declared.clauses.SelectList.TheVariants as select
use Rattle.query_trees.specs.declared.clauses.TableName.{TableName}
use Rattle.query_trees.specs.declared.clauses.Join.{Join}
use Rattle.query_trees.specs.declared.clauses.Source.{Source}
use Rattle.query_trees.specs.declared.clauses.Direction.{Direction}
use Rattle.query_trees.specs.declared.clauses.Direction.TheVariants.{Ascending, Descending}
use Rattle.query_trees.specs.declared.clauses.SortKey.{SortKey}
use Rattle.query_trees.specs.declared.query.Query.{Query}
use Rattle.query_read.specs.declared.grouping.Grouping.{Grouping}
use Rattle.query_read.specs.Asked.{Asked}
use Rattle.query_read.specs.Nodes.{alias_of, table_of, cross_join, key_join, grouping, by_place, by_column, query_of}
use Rattle.query_read.specs.Expressions.{series, column, expr, depth}

abbrev pub named : Bytes → Phrase Token (Option Alias)
named text = do n ← word k.Name; nothing (Some (alias_of text n))

-- [[AS] name]
abbrev pub alias : Bytes → Phrase Token (Option Alias)
alias text = (word k.As >> named text) <|> (named text <|> nothing None)

-- item = expr [[AS] name]
abbrev pub item : Bytes → Phrase Token Expr → Phrase Token SelectItem
item text E = do
  a ← E
  x ← alias text
  nothing (record { value = a; alias = x })

-- list = "*" | item {"," item}
abbrev pub list : Bytes → Phrase Token Expr → Phrase Token SelectList
list text E =
    (do t ← word k.Star; nothing (select.All t.at))
    <|> (do xs ← series (item text E); nothing (select.Items xs))

-- table = name [[AS] name]
abbrev pub table : Bytes → Phrase Token TableName
table text = do
  n ← word k.Name
  a ← alias text
  nothing (table_of text n a)

-- "," table
abbrev pub by_comma : Bytes → Phrase Token Join
by_comma text = do t ← word k.Comma; x ← table text; nothing (cross_join t x)

-- CROSS JOIN table
abbrev pub by_cross : Bytes → Phrase Token Join
by_cross text = do t ← word k.Cross; word k.Join; x ← table text; nothing (cross_join t x)

-- table ON column "=" column
abbrev pub on : Bytes → Token → Phrase Token Join
on text t = do
  x ← table text
  word k.On
  a ← column text
  q ← word k.Equal
  b ← column text
  nothing (key_join t x a q b)

-- [INNER] JOIN table ON column "=" column
abbrev pub by_key : Bytes → Phrase Token Join
by_key text = (do t ← word k.Inner; word k.Join; on text t) <|> (do t ← word k.Join; on text t)

abbrev pub join : Bytes → List Join → Phrase Token (List Join)
join text js = do
  j ← by_comma text <|> (by_cross text <|> by_key text)
  nothing (js ++ j ∷ [])

-- source = table {"," table | CROSS JOIN table | [INNER] JOIN table ON column "=" column}
abbrev pub source : Bytes → Phrase Token Source
source text = do
  t ← table text
  js ← Repeated (join text) []
  nothing (record { first = t; joins = js })

-- [WHERE expr], [HAVING expr]
abbrev pub condition : Kind → Phrase Token Expr → Phrase Token (Option Expr)
condition kind E = (do word kind; a ← E; nothing (Some a)) <|> nothing None

-- GROUP BY column {"," column} [HAVING expr]
abbrev pub by_groups : Bytes → Phrase Token Expr → Phrase Token Grouping
by_groups text E = do
  word k.Group
  word k.By
  cs ← series (column text)
  h ← condition k.Having E
  nothing (grouping cs h)

abbrev pub groups : Bytes → Phrase Token Expr → Phrase Token Grouping
groups text E = by_groups text E <|> nothing (grouping [] None)

-- [ASC | DESC]
abbrev pub direction : Phrase Token Direction
direction = (do word k.Asc; nothing Ascending) <|> ((do word k.Desc; nothing Descending) <|> nothing Ascending)

abbrev pub sort_by : Bytes → Phrase Token SortKey
sort_by text = (do n ← word k.Digits; nothing (by_place n)) <|> (do c ← column text; nothing (by_column c))

-- key = (integer | column) [ASC | DESC]
abbrev pub key : Bytes → Phrase Token SortKey
key text = do
  b ← sort_by text
  x ← direction
  nothing (record b { direction = x })

-- [ORDER BY key {"," key}]
abbrev pub order : Bytes → Phrase Token (List SortKey)
order text = (do word k.Order; word k.By; series (key text)) <|> nothing []

-- [DISTINCT]
abbrev pub distinct : Phrase Token (Option ℕ)
distinct = (do t ← word k.Distinct; nothing (Some t.at)) <|> nothing None

-- [";"]
abbrev pub closed : Query → Phrase Token Query
closed q = (word k.Semicolon >> nothing q) <|> nothing q

-- query = SELECT [DISTINCT] list FROM source [WHERE expr] [GROUP BY ..] [ORDER BY ..] [";"], over the expressions E
abbrev pub query_over : Bytes → Phrase Token Expr → Phrase Token Query
query_over text E = do
  s ← word k.Select
  x ← distinct
  l ← list text E
  word k.From
  t ← source text
  w ← condition k.Where E
  g ← groups text E
  o ← order text
  closed (query_of s x l t w g o)

-- with at most so many levels
abbrev pub query : Asked → Bytes → ℕ → Phrase Token Query
query m text n = query_over text (expr m text (depth m text n))

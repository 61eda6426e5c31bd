-- What the tokens of a rule make: the nodes of a query's tree.
use Rattle.std.specs.Prelude.{ℕ, Bool, true, false, List, Option, Some, None}
use Rattle.sql_read.specs.declared.kind.Kind.{Kind}
use Rattle.sql_read.specs.declared.kind.Kind.TheVariants as k
use Rattle.sql_read.specs.declared.token_list.Token.{Token}
use Rattle.sql_read.specs.Lexis.{Bytes}
use Rattle.sql_read.specs.Schema.{name_at}
use Rattle.query_trees.specs.declared.expr.BinaryOp.{BinaryOp}
use Rattle.query_trees.specs.declared.expr.BinaryOp.TheVariants as op
use Rattle.query_trees.specs.declared.expr.Sign.{Sign}
use Rattle.query_trees.specs.declared.expr.Sign.TheVariants as sign
use Rattle.query_trees.specs.declared.expr.AggregateKind.{AggregateKind}
use Rattle.query_trees.specs.declared.expr.AggregateKind.TheVariants as aggregate
use Rattle.query_trees.specs.declared.expr.ColumnName.{ColumnName}
use Rattle.query_trees.specs.declared.expr.Divisor.{Divisor}
use Rattle.query_trees.specs.declared.expr.Expr.{Expr}
use Rattle.query_trees.specs.declared.expr.Form.TheVariants as f
use Rattle.query_trees.specs.declared.clauses.Alias.{Alias}
use Rattle.query_trees.specs.declared.clauses.SelectList.{SelectList}
use Rattle.query_trees.specs.declared.clauses.TableName.{TableName}
use Rattle.query_trees.specs.declared.clauses.Join.{Join}
use Rattle.query_trees.specs.declared.clauses.JoinKind.TheVariants as join
use Rattle.query_trees.specs.declared.clauses.Source.{Source}
use Rattle.query_trees.specs.declared.clauses.SortKey.{SortKey}
use Rattle.query_trees.specs.declared.clauses.SortBy.TheVariants as by
use Rattle.query_trees.specs.declared.clauses.Direction.TheVariants.{Ascending}
use Rattle.query_trees.specs.declared.query.Query.{Query}
use Rattle.query_trees.specs.Nodes.{node}
use Rattle.query_read.specs.declared.enclosing.Enclosure.{Enclosure}
use Rattle.query_read.specs.declared.enclosing.Choices.{Choices}
use Rattle.query_read.specs.declared.grouping.Grouping.{Grouping}

-- ---- kinds of tokens

-- + and -
abbrev pub signs : Kind → Bool
signs k.Plus = true
signs k.Minus = true
signs kind = false

-- the same between a date and INTERVAL
abbrev pub steps : Kind → Bool
steps k.StepPlus = true
steps k.StepMinus = true
steps kind = false

-- = <> < <= > >=
abbrev pub compares : Kind → Bool
compares k.Equal = true
compares k.Differs = true
compares k.Less = true
compares k.LessEqual = true
compares k.Greater = true
compares k.GreaterEqual = true
compares kind = false

-- an integer, or a number with a point
abbrev pub numerals : Kind → Bool
numerals k.Digits = true
numerals k.Fraction = true
numerals kind = false

-- SUM, MIN, MAX, AVG
abbrev pub aggregates : Kind → Bool
aggregates k.Sum = true
aggregates k.Min = true
aggregates k.Max = true
aggregates k.Avg = true
aggregates kind = false

-- a token of such a kind
abbrev pub of : (Kind → Bool) → Token → Bool
of test t = test t.kind

abbrev pub sign_of : Kind → Sign
sign_of k.Minus = sign.Minus
sign_of k.StepMinus = sign.Minus
sign_of kind = sign.Plus

abbrev pub sum_op : Kind → BinaryOp
sum_op k.Minus = op.Subtract
sum_op kind = op.Add

abbrev pub comparison : Kind → BinaryOp
comparison k.Differs = op.Differs
comparison k.Less = op.Less
comparison k.LessEqual = op.LessEqual
comparison k.Greater = op.Greater
comparison k.GreaterEqual = op.GreaterEqual
comparison kind = op.Equal

abbrev pub aggregate_of : Kind → AggregateKind
aggregate_of k.Min = aggregate.Min
aggregate_of k.Max = aggregate.Max
aggregate_of k.Avg = aggregate.Avg
aggregate_of kind = aggregate.Sum

-- ---- expressions

-- a number by its digits, and how many of them stand after its point
abbrev pub numbered : Token → Expr
numbered t = node t.at (f.Number t.value t.scale)

-- two expressions, from the first byte of the left one on
abbrev pub binary : BinaryOp → ℕ → Expr → Expr → Expr
binary o at a b = node a.at (f.Binary o at a b)

abbrev pub divisor_of : Option Sign → Token → Divisor
divisor_of s n = record { sign = s; value = n.value; value_at = n.at }

abbrev pub divided : ℕ → Expr → Divisor → Expr
divided at a v = node a.at (f.Divide at a v)

-- COUNT of all rows, or of an expression
abbrev pub counted_node : Token → Option Expr → Expr
counted_node t None = node t.at f.CountAll
counted_node t (Some a) = node t.at (f.Aggregate aggregate.Count a)

abbrev pub choice : Expr → List Expr → Choices
choice a xs = record { first = a; others = xs }

abbrev pub chosen : Token → Choices → Expr
chosen t x = node t.at (f.Coalesce x.first x.others)

abbrev pub enclosure : Token → Expr → Enclosure
enclosure t a = record { at = t.at; value = a }

abbrev pub bare : Bytes → Token → ColumnName
bare text n = record { at = n.at; table = None; name = name_at text n; name_at = n.at }

abbrev pub qualified : Bytes → Token → Token → ColumnName
qualified text n c = record { at = n.at; table = Some (name_at text n); name = name_at text c; name_at = c.at }

-- ---- clauses

abbrev pub alias_of : Bytes → Token → Alias
alias_of text n = record { name = name_at text n; at = n.at }

abbrev pub table_of : Bytes → Token → Option Alias → TableName
table_of text n a = record { name = name_at text n; at = n.at; alias = a }

abbrev pub cross_join : Token → TableName → Join
cross_join t x = record { at = t.at; table = x; kind = join.Cross }

abbrev pub key_join : Token → TableName → ColumnName → Token → ColumnName → Join
key_join t x a q b = record { at = t.at; table = x; kind = join.On a q.at b }

abbrev pub grouping : List ColumnName → Option Expr → Grouping
grouping cs h = record { groups = cs; having = h }

abbrev pub by_place : Token → SortKey
by_place n = record { at = n.at; by = by.Place n.value; direction = Ascending }

abbrev pub by_column : ColumnName → SortKey
by_column c = record { at = c.at; by = by.Column c; direction = Ascending }

abbrev pub query_of : Token → Option ℕ → SelectList → Source → Option Expr → Grouping → List SortKey → Query
query_of s distinct list source filter g order = record { at = s.at; distinct = distinct; list = list; source = source; filter = filter; groups = g.groups; having = g.having; order = order }

-- Worked typings: queries of which more than one thing is wrong, and the first, which is the refusal; and a query with what it means.
-- The tables are `t (id INTEGER PRIMARY KEY, a INTEGER, d DATE, s VARCHAR(9))` and `u (id INTEGER PRIMARY KEY, k INTEGER)`.
use Rattle.std.specs.Prelude.{◌≡◌, ℕ, true, false, List, [], ◌∷◌, map, codes, Some, None, Ok}
use Rattle.sql_read.specs.declared.definition.ColumnDef.{ColumnDef}
use Rattle.sql_read.specs.declared.definition.ColumnKind.{ColumnKind}
use Rattle.sql_read.specs.declared.definition.ColumnKind.TheVariants as kind
use Rattle.sql_read.specs.declared.definition.TableDef.{TableDef}
use Rattle.query_trees.specs.declared.clauses.SelectList.TheVariants as select
use Rattle.query_trees.specs.declared.clauses.SortBy.TheVariants as by
use Rattle.query_trees.specs.declared.clauses.Direction.TheVariants.{Ascending, Descending}
use Rattle.query_trees.specs.declared.clauses.JoinKind.TheVariants as join
use Rattle.query_trees.specs.declared.expr.AggregateKind.TheVariants as of
use Rattle.query_trees.specs.declared.expr.BinaryOp.{BinaryOp}
use Rattle.query_trees.specs.declared.expr.BinaryOp.TheVariants as op
use Rattle.query_trees.specs.declared.expr.ColumnName.{ColumnName}
use Rattle.query_trees.specs.declared.expr.Expr.{Expr}
use Rattle.query_trees.specs.declared.expr.Form.TheVariants as f
use Rattle.query_trees.specs.declared.query.Query.{Query}
use Rattle.query_trees.specs.Nodes.{node}
use Rattle.typed_trees.specs.declared.typed.AggregateKind.TheVariants.{Sum}
use Rattle.typed_trees.specs.declared.typed.ColumnRef.{ColumnRef}
use Rattle.typed_trees.specs.declared.typed.ColumnType.{ColumnType}
use Rattle.typed_trees.specs.declared.typed.KeyRef.TheVariants.{Item}
use Rattle.typed_trees.specs.declared.typed.TypedQuery.{TypedQuery}
use Rattle.typed_trees.specs.declared.typed.TypedExpr.TheVariants as e
use Rattle.typed_trees.specs.declared.kinds.Family.TheVariants.{Logic, Comparison, Arithmetic}
use Rattle.typed_trees.specs.declared.kinds.Kind.{Kind}
use Rattle.typed_trees.specs.declared.kinds.Kind.TheVariants.{Number, Date, Text, Truth}
use Rattle.typed_trees.specs.Kinds.{takes}
use Rattle.query_types.specs.declared.refusal.TypeKind.{TypeKind}
use Rattle.query_types.specs.declared.refusal.TypeKind.TheVariants.{UnknownTable, UnknownColumn, TypesDiffer, NotGrouped, NestedAggregate, ZeroDivisor}
use Rattle.query_types.specs.Kinds.{folds}
use Rattle.query_types.specs.Outcomes.{refuse}
use Rattle.query_types.specs.Typing.{typed_query}

-- ---- kinds: numbers, dates, texts, truths, a row and a column each

abbrev pub kinds : List Kind
kinds = Number ∷ Date ∷ Text ∷ Truth ∷ []

abbrev pub Operands : Type 0
Operands =
    map (λ family. map (λ a. map (takes family a) kinds) kinds) (Logic ∷ Comparison ∷ Arithmetic ∷ [])
    ≡ ((false ∷ false ∷ false ∷ false ∷ []) ∷ (false ∷ false ∷ false ∷ false ∷ []) ∷ (false ∷ false ∷ false ∷ false ∷ []) ∷ (false ∷ false ∷ false ∷ true ∷ []) ∷ [])
    ∷ ((true ∷ false ∷ false ∷ false ∷ []) ∷ (false ∷ true ∷ false ∷ false ∷ []) ∷ (false ∷ false ∷ true ∷ false ∷ []) ∷ (false ∷ false ∷ false ∷ false ∷ []) ∷ [])
    ∷ ((true ∷ false ∷ false ∷ false ∷ []) ∷ (false ∷ false ∷ false ∷ false ∷ []) ∷ (false ∷ false ∷ false ∷ false ∷ []) ∷ (false ∷ false ∷ false ∷ false ∷ []) ∷ [])
    ∷ []

-- what COUNT, SUM, MIN, MAX and AVG take
abbrev pub Arguments : Type 0
Arguments =
    map (λ a. map (folds a) kinds) (of.Count ∷ of.Sum ∷ of.Min ∷ of.Max ∷ of.Avg ∷ [])
    ≡ (true ∷ true ∷ true ∷ false ∷ []) ∷ (true ∷ false ∷ false ∷ false ∷ []) ∷ (true ∷ true ∷ true ∷ false ∷ []) ∷ (true ∷ true ∷ true ∷ false ∷ []) ∷ (true ∷ false ∷ false ∷ false ∷ []) ∷ []

-- ---- the catalog

abbrev pub defined : List ℕ → ColumnKind → ℕ → ColumnDef
defined name kind width = record { name = name; at = 0; kind = kind; width = width; width_at = 0; scale = 0; scale_at = 0; not_null = false }

abbrev pub keyed_table : List ℕ → List ColumnDef → TableDef
keyed_table name columns = record { name = name; at = 0; columns = columns; keys = record { column = codes "id"; at = 0; name_at = 0 } ∷ [] }

abbrev pub catalog : List TableDef
catalog =
    keyed_table (codes "t") (defined (codes "id") kind.Integer 0 ∷ defined (codes "a") kind.Integer 0 ∷ defined (codes "d") kind.Date 0 ∷ defined (codes "s") kind.Text 9 ∷ [])
    ∷ keyed_table (codes "u") (defined (codes "id") kind.Integer 0 ∷ defined (codes "k") kind.Integer 0 ∷ [])
    ∷ []

-- ---- queries

abbrev pub name_at : ℕ → List ℕ → ColumnName
name_at at name = record { at = at; table = None; name = name; name_at = at }

abbrev pub column : ℕ → List ℕ → Expr
column at name = node at (f.Column (name_at at name))

abbrev pub number : ℕ → ℕ → Expr
number at n = node at (f.Number n 0)

abbrev pub binary : BinaryOp → ℕ → Expr → Expr → Expr
binary o at x y = node x.at (f.Binary o at x y)

abbrev pub sum : ℕ → Expr → Expr
sum at x = node at (f.Aggregate of.Sum x)

-- `SELECT x FROM table`, with the table's name at this byte
abbrev pub select_from : Expr → ℕ → List ℕ → Query
select_from x at table = record {
  at = 0;
  distinct = None;
  list = select.Items (record { value = x; alias = None } ∷ []);
  source = record { first = record { name = table; at = at; alias = None }; joins = [] };
  filter = None;
  groups = [];
  having = None;
  order = [];
}

abbrev pub where_ : Query → Expr → Query
where_ q x = record q { filter = Some x }

abbrev pub group_by : Query → ColumnName → Query
group_by q c = record q { groups = c ∷ [] }

abbrev pub having_ : Query → Expr → Query
having_ q x = record q { having = Some x }

abbrev pub order_by : Query → ColumnName → Query
order_by q c = record q { order = record { at = c.at; by = by.Column c; direction = Ascending } ∷ [] }

abbrev pub refusals : List (Query × TypeKind × ℕ)
refusals =
    -- FROM comes first: SELECT zz FROM nope WHERE yy > 1
    (where_ (select_from (column 7 (codes "zz")) 15 (codes "nope")) (binary op.Greater 29 (column 26 (codes "yy")) (number 31 1)), UnknownTable, 15)
    -- then WHERE: SELECT zz FROM t WHERE yy > 1 GROUP BY xx
    ∷ (group_by (where_ (select_from (column 7 (codes "zz")) 15 (codes "t")) (binary op.Greater 26 (column 23 (codes "yy")) (number 28 1))) (name_at 39 (codes "xx")), UnknownColumn, 23)
    -- then GROUP BY: SELECT zz FROM t GROUP BY yy HAVING xx > 1
    ∷ (having_ (group_by (select_from (column 7 (codes "zz")) 15 (codes "t")) (name_at 26 (codes "yy"))) (binary op.Greater 39 (column 36 (codes "xx")) (number 41 1)), UnknownColumn, 26)
    -- then the items: SELECT zz FROM t GROUP BY a HAVING yy > 1
    ∷ (having_ (group_by (select_from (column 7 (codes "zz")) 15 (codes "t")) (name_at 26 (codes "a"))) (binary op.Greater 38 (column 35 (codes "yy")) (number 40 1)), UnknownColumn, 7)
    -- then HAVING: SELECT a FROM t GROUP BY a HAVING yy > 1 ORDER BY xx
    ∷ (order_by (having_ (group_by (select_from (column 7 (codes "a")) 14 (codes "t")) (name_at 25 (codes "a"))) (binary op.Greater 37 (column 34 (codes "yy")) (number 39 1))) (name_at 50 (codes "xx")), UnknownColumn, 34)
    -- then ORDER BY: SELECT a FROM t ORDER BY xx
    ∷ (order_by (select_from (column 7 (codes "a")) 14 (codes "t")) (name_at 25 (codes "xx")), UnknownColumn, 25)
    -- the kinds of an operator: SELECT a + d FROM t
    ∷ (select_from (binary op.Add 9 (column 7 (codes "a")) (column 11 (codes "d"))) 18 (codes "t"), TypesDiffer, 9)
    -- the left operand before the right one: SELECT zz + yy FROM t
    ∷ (select_from (binary op.Add 10 (column 7 (codes "zz")) (column 12 (codes "yy"))) 20 (codes "t"), UnknownColumn, 7)
    -- a divisor before the division: SELECT d / 0 FROM t
    ∷ (select_from (node 7 (f.Divide 9 (column 7 (codes "d")) (record { sign = None; value = 0; value_at = 11 }))) 18 (codes "t"), ZeroDivisor, 11)
    -- an argument before its aggregate: SELECT a FROM t WHERE SUM(zz) > 1
    ∷ (where_ (select_from (column 7 (codes "a")) 14 (codes "t")) (binary op.Greater 30 (sum 22 (column 26 (codes "zz"))) (number 32 1)), UnknownColumn, 26)
    -- the kind of an aggregate before its place: SELECT a FROM t WHERE SUM(d) > 1
    ∷ (where_ (select_from (column 7 (codes "a")) 14 (codes "t")) (binary op.Greater 29 (sum 22 (column 26 (codes "d"))) (number 31 1)), TypesDiffer, 22)
    -- SELECT a FROM t WHERE SUM(a) > 1
    ∷ (where_ (select_from (column 7 (codes "a")) 14 (codes "t")) (binary op.Greater 29 (sum 22 (column 26 (codes "a"))) (number 31 1)), NestedAggregate, 22)
    -- a column that is no group column before the operator above it: SELECT d + 1 FROM t GROUP BY a
    ∷ (group_by (select_from (binary op.Add 9 (column 7 (codes "d")) (number 11 1)) 18 (codes "t")) (name_at 29 (codes "a")), NotGrouped, 7)
    -- a text stands as a side alone: SELECT 's' FROM t
    ∷ (select_from (node 7 (f.Text (codes "s"))) 16 (codes "t"), TypesDiffer, 7)
    -- no item is a truth: SELECT a > 1 FROM t
    ∷ (select_from (binary op.Greater 9 (column 7 (codes "a")) (number 11 1)) 18 (codes "t"), TypesDiffer, 7)
    ∷ []

abbrev pub FirstRefusals : Type 0
FirstRefusals = map (λ r. typed_query r.0 catalog) refusals ≡ map (λ r. refuse r.1 r.2) refusals

-- ---- a key join: each row of u with that row of t whose key it names

abbrev pub of_table : ℕ → List ℕ → ℕ → List ℕ → ColumnName
of_table at table name_at name = record { at = at; table = Some table; name = name; name_at = name_at }

-- SELECT t.a, SUM(u.k) AS n FROM u JOIN t ON t.id = u.k GROUP BY a ORDER BY n DESC
abbrev pub sums_by_key : Query
sums_by_key = record {
  at = 0;
  distinct = None;
  list = select.Items (
      record { value = node 7 (f.Column (of_table 7 (codes "t") 9 (codes "a"))); alias = None }
      ∷ record { value = sum 12 (node 16 (f.Column (of_table 16 (codes "u") 18 (codes "k")))); alias = Some (record { name = codes "n"; at = 24 }) }
      ∷ []);
  source = record {
    first = record { name = codes "u"; at = 31; alias = None };
    joins =
        record {
          at = 33;
          table = record { name = codes "t"; at = 38; alias = None };
          kind = join.On (of_table 43 (codes "t") 45 (codes "id")) 48 (of_table 50 (codes "u") 52 (codes "k"));
        }
        ∷ [];
  };
  filter = None;
  groups = name_at 63 (codes "a") ∷ [];
  having = None;
  order = record { at = 74; by = by.Column (name_at 74 (codes "n")); direction = Descending } ∷ [];
}

abbrev pub at_place : ℕ → ℕ → ColumnRef
at_place source column = record { source = source; column = column }

abbrev pub integer : ColumnType
integer = record { kind = kind.Integer; width = 0; scale = 0 }

-- u is source 0 and table 1 of the catalog, t is source 1 and table 0; column 1 of u is paired with the key, column 0 of t
abbrev pub meant : TypedQuery
meant = record {
  sources =
      record { table = 1; columns = 0 ∷ 1 ∷ []; filter = []; join = None }
      ∷ record { table = 0; columns = 0 ∷ 1 ∷ 2 ∷ 3 ∷ []; filter = []; join = Some (at_place 0 1, 0) }
      ∷ [];
  filter = [];
  groups = at_place 1 1 ∷ [];
  aggregates = record { kind = Sum; argument = Some (e.Column (at_place 0 1) integer) } ∷ [];
  having = None;
  items = e.Column (at_place 1 1) integer ∷ e.Aggregate 0 0 ∷ [];
  order = record { key = Item 1; descending = true } ∷ [];
  names = codes "a" ∷ codes "n" ∷ [];
}

abbrev pub KeyJoin : Type 0
KeyJoin = typed_query sums_by_key catalog ≡ Ok meant

-- Worked examples of reading: short queries with their trees, and texts with their first refusals. Each is a theorem.
use Rattle.std.specs.Prelude.{◌≡◌, ℕ, [], ◌∷◌, ◌++◌, replicate, codes, pos, Some, None, Ok, Err}
use Rattle.sql_read.specs.declared.refusal.SqlKind.{SqlKind}
use Rattle.sql_read.specs.declared.refusal.SqlKind.TheVariants.{BadToken, NumberTooWide, Unexpected, TooDeep, DateRange}
use Rattle.sql_read.specs.declared.refusal.SqlRefusal.TheVariants.{Bad}
use Rattle.query_trees.specs.declared.expr.AggregateKind.TheVariants.{Count, Sum}
use Rattle.query_trees.specs.declared.expr.BinaryOp.{BinaryOp}
use Rattle.query_trees.specs.declared.expr.BinaryOp.TheVariants as op
use Rattle.query_trees.specs.declared.expr.ColumnName.{ColumnName}
use Rattle.query_trees.specs.declared.expr.Polarity.TheVariants.{Plain, Negated}
use Rattle.query_trees.specs.declared.expr.Sign.TheVariants.{Minus}
use Rattle.query_trees.specs.declared.expr.Expr.{Expr}
use Rattle.query_trees.specs.declared.expr.Form.TheVariants as f
use Rattle.query_trees.specs.declared.clauses.SelectList.TheVariants as select
use Rattle.query_trees.specs.declared.clauses.JoinKind.TheVariants as join
use Rattle.query_trees.specs.declared.clauses.SortBy.TheVariants as by
use Rattle.query_trees.specs.declared.clauses.Direction.TheVariants.{Ascending, Descending}
use Rattle.query_trees.specs.declared.query.Query.{Query}
use Rattle.query_trees.specs.Nodes.{node}
use Rattle.sql_read.specs.Lexis.{Bytes}
use Rattle.query_read.specs.QueryText.{query_of}

-- the text is read as this query
abbrev pub IsReadAs : Bytes → Query → Type 0
IsReadAs text q = query_of text ≡ Ok q

-- the text is refused at this byte, for this cause
abbrev pub IsRefusedFor : Bytes → ℕ → SqlKind → Type 0
IsRefusedFor text at kind = query_of text ≡ Err (Bad at kind)

-- a column's name that stands alone
abbrev pub column_at : ℕ → Bytes → ColumnName
column_at at name = record { at = at; table = None; name = name; name_at = at }

abbrev pub column : ℕ → Bytes → Expr
column at name = node at (f.Column (column_at at name))

abbrev pub number : ℕ → ℕ → Expr
number at n = node at (f.Number n 0)

-- a number with so many digits after its point
abbrev pub decimal : ℕ → ℕ → ℕ → Expr
decimal at n scale = node at (f.Number n scale)

-- two expressions about an operator at this byte
abbrev pub binary : BinaryOp → ℕ → Expr → Expr → Expr
binary o at a b = node a.at (f.Binary o at a b)

-- every row of a table `t` at byte 14, on a condition
abbrev pub rows_where : Expr → Query
rows_where e = record {
  at = 0;
  distinct = None;
  list = select.All 7;
  source = record { first = record { name = codes "t"; at = 14; alias = None }; joins = [] };
  filter = Some e;
  groups = [];
  having = None;
  order = [];
}

-- a query with every clause
abbrev pub every_clause : Query
every_clause = record {
  at = 0;
  distinct = Some 7;
  list = select.Items (
      record { value = column 16 (codes "a"); alias = Some (record { name = codes "x"; at = 21 }) }
      ∷ record {
        value = node 24 (f.Aggregate Sum (node 28 (f.Column (record { at = 28; table = Some (codes "t"); name = codes "b"; name_at = 30 }))));
        alias = Some (record { name = codes "y"; at = 33 });
      }
      ∷ []);
  source = record {
    first = record { name = codes "t"; at = 40; alias = None };
    joins =
        record { at = 41; table = record { name = codes "u"; at = 43; alias = None }; kind = join.Cross }
        ∷ record {
          at = 45;
          table = record { name = codes "v"; at = 50; alias = None };
          kind = join.On (record { at = 55; table = Some (codes "t"); name = codes "k"; name_at = 57 }) 59 (column_at 61 (codes "id"));
        }
        ∷ [];
  };
  filter = None;
  groups = column_at 73 (codes "a") ∷ [];
  having = Some (binary op.Greater 91 (node 82 f.CountAll) (number 93 1));
  order =
      record { at = 104; by = by.Place 1; direction = Descending }
      ∷ record { at = 112; by = by.Column (column_at 112 (codes "x")); direction = Ascending }
      ∷ [];
}

abbrev pub WorkedQueries : Type 0
WorkedQueries =
    IsReadAs (codes "SELECT DISTINCT a AS x, SUM(t.b) y FROM t, u JOIN v ON t.k = id GROUP BY a HAVING COUNT(*) > 1 ORDER BY 1 DESC, x;") every_clause
    -- operators of one rank are taken from the left
    × IsReadAs (codes "SELECT * FROM t WHERE a - b - c") (rows_where (binary op.Subtract 28 (binary op.Subtract 24 (column 22 (codes "a")) (column 26 (codes "b"))) (column 30 (codes "c"))))
    -- products before sums
    × IsReadAs (codes "SELECT * FROM t WHERE a + b * c") (rows_where (binary op.Add 24 (column 22 (codes "a")) (binary op.Multiply 28 (column 26 (codes "b")) (column 30 (codes "c")))))
    -- NOT before AND, and AND before OR
    × IsReadAs (codes "SELECT * FROM t WHERE NOT a = 1 OR b = 2 AND c = 3") (rows_where (
    binary op.Or 32
    (node 22 (f.Not (binary op.Equal 28 (column 26 (codes "a")) (number 30 1))))
    (binary op.And 41 (binary op.Equal 37 (column 35 (codes "b")) (number 39 2)) (binary op.Equal 47 (column 45 (codes "c")) (number 49 3)))))
    -- the AND of BETWEEN is its own
    × IsReadAs (codes "SELECT * FROM t WHERE a BETWEEN 1 AND 2 AND b NOT IN (3, 4)") (rows_where (
    binary op.And 40
    (node 22 (f.Between Plain 24 (column 22 (codes "a")) (number 32 1) (number 38 2)))
    (node 44 (f.In Negated 50 (column 44 (codes "b")) (number 54 3 ∷ number 57 4 ∷ [])))))
    -- a divisor has its sign
    × IsReadAs (codes "SELECT * FROM t WHERE -a / -2") (rows_where (
    node 22 (f.Divide 25 (node 22 (f.Signed Minus (column 23 (codes "a")))) (record { sign = Some Minus; value = 2; value_at = 28 }))))
    -- a date has its steps: the day is 1998-09-02
    × IsReadAs (codes "SELECT * FROM t WHERE d < DATE '1998-12-01' - INTERVAL '90' DAY") (rows_where (binary op.Less 24 (column 22 (codes "d")) (node 26 (f.Date (pos 10471)))))
    -- two quotes in a row are one
    × IsReadAs (codes "SELECT * FROM t WHERE s = 'it''s'") (rows_where (binary op.Equal 24 (column 22 (codes "s")) (node 26 (f.Text (codes "it's")))))
    -- a number with a point is its digits, and how many of them stand after the point
    × IsReadAs (codes "SELECT * FROM t WHERE a < -0.050") (rows_where (binary op.Less 24 (column 22 (codes "a")) (node 26 (f.Signed Minus (decimal 27 50 3)))))
    -- IS NULL stands at its IS, and NOT before it is an operator of its own
    × IsReadAs (codes "SELECT * FROM t WHERE NOT a IS NULL OR b IS NOT NULL") (rows_where (
    binary op.Or 36 (node 22 (f.Not (node 26 (f.IsNull Plain 28 (column 26 (codes "a")))))) (node 39 (f.IsNull Negated 41 (column 39 (codes "b"))))))
    -- COALESCE has two operands or more, and COUNT an expression
    × IsReadAs (codes "SELECT * FROM t WHERE COALESCE(a, 0.5, 1) > COUNT(b)") (rows_where (
    binary op.Greater 42
    (node 22 (f.Coalesce (column 31 (codes "a")) (decimal 34 5 1 ∷ number 39 1 ∷ [])))
    (node 44 (f.Aggregate Count (column 50 (codes "b"))))))
    -- ---- first refusals
    × IsRefusedFor (codes "SELECT a FROM\n") 14 Unexpected
    × IsRefusedFor (codes "SELECT a FROM t t t") 18 Unexpected
    × IsRefusedFor (codes "SELECT ? FROM") 7 BadToken
    × IsRefusedFor (codes "SELECT a FROM t WHERE s = 'it") 26 BadToken
    × IsRefusedFor (codes "SELECT 170141183460469231731687303715884105728 FROM t") 7 NumberTooWide
    × IsRefusedFor (codes "SELECT DATE '1900-02-29' FROM t") 12 DateRange
    -- a step that leaves the range is refused at its sign
    × IsRefusedFor (codes "SELECT DATE '9999-12-31' + INTERVAL '1' DAY FROM t") 25 DateRange
    × IsRefusedFor (codes "SELECT DATE '1998-12-01' - INTERVAL '12345678' DAY FROM t") 36 BadToken
    -- what stands in parentheses is no date that takes steps
    × IsRefusedFor (codes "SELECT (DATE '2000-01-01') + INTERVAL '1' DAY FROM t") 29 Unexpected
    -- 64 levels may be open at once
    × IsRefusedFor (codes "SELECT " ++ replicate 65 40) 71 TooDeep
    × IsRefusedFor (codes "SELECT " ++ replicate 64 40) 71 Unexpected
    × IsRefusedFor (codes "SELECT " ++ replicate 64 40 ++ codes "COUNT(") 76 TooDeep
    × IsRefusedFor (codes "SELECT " ++ replicate 64 40 ++ codes "COALESCE(") 79 TooDeep
    -- the NOT of IS NOT NULL opens none
    × IsRefusedFor (codes "SELECT " ++ replicate 64 40 ++ codes "a IS NOT NULL") 84 Unexpected
    -- a divisor and the place of a key are integers
    × IsRefusedFor (codes "SELECT a / 1.5 FROM t") 11 Unexpected
    × IsRefusedFor (codes "SELECT a FROM t ORDER BY 1.5") 25 Unexpected
    × IsRefusedFor (codes "SELECT 5. FROM t") 8 Unexpected
    × IsRefusedFor (codes "SELECT 0.0000000000000000001 FROM t") 7 NumberTooWide
    × IsRefusedFor (codes "SELECT COALESCE(a) FROM t") 17 Unexpected
    × IsRefusedFor (codes "SELECT a FROM t WHERE a = NULL") 26 Unexpected
    × IsRefusedFor (codes "SELECT a FROM t WHERE a IS NOT 1") 31 Unexpected

-- The words that this SQL keeps for itself, each with the kind of token that it is: a part of the reserved words of SQL-92
-- (ISO/IEC 9075:1992), 5.2, and BIGINT of SQL:2003. The standard writes them in upper case, and in a text the case of a letter does not count.
use Rattle.std.specs.Prelude.{ℕ, List, [], ◌∷◌, codes}
use Rattle.sql_read.specs.declared.kind.Kind.{Kind}
use Rattle.sql_read.specs.declared.kind.Kind.TheVariants as k

unfoldable pub reserved_words : List (List ℕ × Kind)
reserved_words =
    (codes "AND", k.And) ∷
    (codes "AS", k.As) ∷
    (codes "ASC", k.Asc) ∷
    (codes "AVG", k.Avg) ∷
    (codes "BETWEEN", k.Between) ∷
    (codes "BIGINT", k.Bigint) ∷
    (codes "BY", k.By) ∷
    (codes "CHAR", k.Char) ∷
    (codes "COALESCE", k.Coalesce) ∷
    (codes "COUNT", k.Count) ∷
    (codes "CREATE", k.Create) ∷
    (codes "CROSS", k.Cross) ∷
    (codes "DATE", k.Date) ∷
    (codes "DAY", k.Day) ∷
    (codes "DECIMAL", k.Decimal) ∷
    (codes "DESC", k.Desc) ∷
    (codes "DISTINCT", k.Distinct) ∷
    (codes "FROM", k.From) ∷
    (codes "GROUP", k.Group) ∷
    (codes "HAVING", k.Having) ∷
    (codes "IN", k.In) ∷
    (codes "INNER", k.Inner) ∷
    (codes "INT", k.Int) ∷
    (codes "INTEGER", k.Integer) ∷
    (codes "INTERVAL", k.Interval) ∷
    (codes "IS", k.Is) ∷
    (codes "JOIN", k.Join) ∷
    (codes "KEY", k.Key) ∷
    (codes "MAX", k.Max) ∷
    (codes "MIN", k.Min) ∷
    (codes "NOT", k.Not) ∷
    (codes "NULL", k.Null) ∷
    (codes "ON", k.On) ∷
    (codes "OR", k.Or) ∷
    (codes "ORDER", k.Order) ∷
    (codes "PRIMARY", k.Primary) ∷
    (codes "SELECT", k.Select) ∷
    (codes "SUM", k.Sum) ∷
    (codes "TABLE", k.Table) ∷
    (codes "VARCHAR", k.Varchar) ∷
    (codes "WHERE", k.Where) ∷ []

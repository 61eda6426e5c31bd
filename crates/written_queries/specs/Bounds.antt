-- The literals of a query that is read: numbers of at most 2^127 - 1, at most 18 of whose digits stand after the point, divisors of at most 2^127 - 1,
-- and days of the years 1 to 9999. After SQL-92 (ISO/IEC 9075:1992), 5.3 <literal>; the ranges are this project's own.
use Rattle.std.specs.Prelude.{◌≡◌, nat_le, Bool, true, ◌&&◌, Option, Some, None, Ok}
use Rattle.std.specs.List.{list_all}
use Rattle.civil_days.specs.Dates.{in_range}
use Rattle.sql_read.specs.Lexis.{Bytes, max_integer, max_scale}
use Rattle.query_trees.specs.declared.expr.Expr.{Expr, fold-Expr}
use Rattle.query_trees.specs.declared.expr.Form.{Form-F}
use Rattle.query_trees.specs.declared.clauses.SelectItem.{SelectItem}
use Rattle.query_trees.specs.declared.clauses.SelectList.{SelectList}
use Rattle.query_trees.specs.declared.clauses.SelectList.TheVariants as select
use Rattle.query_trees.specs.declared.query.Query.{Query}
use Rattle.query_read.specs.QueryText.{query_of}

abbrev pub form_bounded : Form-F Bool Bool → Bool
form_bounded (Form-F.Number n scale) = nat_le n max_integer && nat_le scale max_scale
form_bounded (Form-F.Text text) = true
form_bounded (Form-F.Date day) = in_range day
form_bounded (Form-F.Column c) = true
form_bounded Form-F.CountAll = true
form_bounded (Form-F.Aggregate of x) = x
form_bounded (Form-F.Enclosed x) = x
form_bounded (Form-F.Signed s x) = x
form_bounded (Form-F.Not x) = x
form_bounded (Form-F.Binary o at x y) = x && y
form_bounded (Form-F.Divide at x d) = x && nat_le d.value max_integer
form_bounded (Form-F.Between p at x y z) = x && (y && z)
form_bounded (Form-F.In p at x ys) = x && list_all (λ y. y) ys
form_bounded (Form-F.IsNull p at x) = x
form_bounded (Form-F.Coalesce x ys) = x && list_all (λ y. y) ys

-- the literals of an expression are so
unfoldable pub is_bounded : Expr → Bool
is_bounded = fold-Expr Bool Bool form_bounded (λ x. x.form)

abbrev pub item_bounded : SelectItem → Bool
item_bounded x = is_bounded x.value

abbrev pub list_bounded : SelectList → Bool
list_bounded (select.All at) = true
list_bounded (select.Items xs) = list_all item_bounded xs

abbrev pub optional_bounded : Option Expr → Bool
optional_bounded None = true
optional_bounded (Some e) = is_bounded e

-- those of a query's items and conditions
abbrev pub query_bounded : Query → Bool
query_bounded q = list_bounded q.list && (optional_bounded q.filter && optional_bounded q.having)

abbrev pub IsBounded : Query → Type 0
IsBounded q = query_bounded q ≡ true

-- the literals of a query that is read are so
abbrev pub BoundedLaw : Type 0
BoundedLaw = (text : Bytes) (q : Query) → query_of text ≡ Ok q → IsBounded q

-- The numbers of a query: each has digits of at most 2^127 - 1, at most 18 of them after its point, and so has each divisor, which has no point.
use Rattle.std.specs.Prelude.{◌≡◌, nat_le, Bool, true, ◌&&◌, Option, Some, None}
use Rattle.std.specs.List.{list_all}
use Rattle.sql_read.specs.Lexis.{max_integer, max_scale}
use Rattle.query_trees.specs.declared.expr.Expr.{Expr, fold-Expr}
use Rattle.query_trees.specs.declared.expr.Form.{Form-F}
use Rattle.query_trees.specs.declared.clauses.SelectItem.{SelectItem}
use Rattle.query_trees.specs.declared.clauses.SelectList.{SelectList}
use Rattle.query_trees.specs.declared.clauses.SelectList.TheVariants as select
use Rattle.query_trees.specs.declared.query.Query.{Query}

abbrev pub form_measured : Form-F Bool Bool → Bool
form_measured (Form-F.Number n scale) = nat_le n max_integer && nat_le scale max_scale
form_measured (Form-F.Text text) = true
form_measured (Form-F.Date day) = true
form_measured (Form-F.Column c) = true
form_measured Form-F.CountAll = true
form_measured (Form-F.Aggregate of x) = x
form_measured (Form-F.Enclosed x) = x
form_measured (Form-F.Signed s x) = x
form_measured (Form-F.Not x) = x
form_measured (Form-F.Binary o at x y) = x && y
form_measured (Form-F.Divide at x d) = x && nat_le d.value max_integer
form_measured (Form-F.Between p at x y z) = x && (y && z)
form_measured (Form-F.In p at x ys) = x && list_all (λ y. y) ys
form_measured (Form-F.IsNull p at x) = x
form_measured (Form-F.Coalesce x ys) = x && list_all (λ y. y) ys

-- the numbers of an expression are so
unfoldable pub is_measured : Expr → Bool
is_measured = fold-Expr Bool Bool form_measured (λ x. x.form)

abbrev pub item_measured : SelectItem → Bool
item_measured x = is_measured x.value

abbrev pub list_measured : SelectList → Bool
list_measured (select.All at) = true
list_measured (select.Items xs) = list_all item_measured xs

abbrev pub optional_measured : Option Expr → Bool
optional_measured None = true
optional_measured (Some e) = is_measured e

-- those of a query's items and conditions
abbrev pub query_measured : Query → Bool
query_measured q = list_measured q.list && (optional_measured q.filter && optional_measured q.having)

abbrev pub IsMeasured : Query → Type 0
IsMeasured q = query_measured q ≡ true

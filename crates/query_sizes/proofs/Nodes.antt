-- The nodes of a typed expression, by its form.
use Rattle.std.proofs.Common.{◌≡◌, ℕ, ℤ, ◌+◌, List, map, sym, ap, ◌∙◌}
use Rattle.query_trees.specs.declared.expr.BinaryOp.{BinaryOp}
use Rattle.query_trees.specs.declared.expr.Polarity.{Polarity}
use Rattle.query_trees.specs.declared.expr.Sign.{Sign}
use Rattle.typed_trees.specs.declared.typed.ColumnRef.{ColumnRef}
use Rattle.typed_trees.specs.declared.typed.ColumnType.{ColumnType}
use Rattle.typed_trees.specs.declared.typed.TypedExpr.{TypedExpr}
use Rattle.typed_trees.specs.declared.typed.TypedExpr.TheOpen.{TypedExpr-F}
use Rattle.typed_trees.specs.declared.typed.TypedExpr.TheFolds.{fold-roll-TypedExpr}
use Rattle.typed_trees.specs.declared.typed.TypedExpr.TheVariants as e
use Rattle.typed_trees.specs.declared.typed.TypedExpr.TheVariants.{rolls-Number, rolls-Text, rolls-Date, rolls-Column, rolls-Aggregate, rolls-Signed, rolls-Not, rolls-Binary, rolls-Divide, rolls-Between, rolls-In, rolls-IsNull, rolls-Coalesce}
use Rattle.query_sizes.specs.Sizes.{form_nodes, nodes}
use Rattle.query_sizes.proofs.Totals.{total, total-map, sum_by-total}

pub nodes-Number : (n scale : ℕ) → nodes (e.Number n scale) ≡ 1
unfolding nodes
nodes-Number n scale = ap nodes (sym (rolls-Number n scale)) ∙ fold-roll-TypedExpr ℕ form_nodes (TypedExpr-F.Number n scale)

pub nodes-Text : (t : List ℕ) → nodes (e.Text t) ≡ 1
unfolding nodes
nodes-Text t = ap nodes (sym (rolls-Text t)) ∙ fold-roll-TypedExpr ℕ form_nodes (TypedExpr-F.Text t)

pub nodes-Date : (d : ℤ) → nodes (e.Date d) ≡ 1
unfolding nodes
nodes-Date d = ap nodes (sym (rolls-Date d)) ∙ fold-roll-TypedExpr ℕ form_nodes (TypedExpr-F.Date d)

pub nodes-Column : (c : ColumnRef) (k : ColumnType) → nodes (e.Column c k) ≡ 1
unfolding nodes
nodes-Column c k = ap nodes (sym (rolls-Column c k)) ∙ fold-roll-TypedExpr ℕ form_nodes (TypedExpr-F.Column c k)

pub nodes-Aggregate : (n scale : ℕ) → nodes (e.Aggregate n scale) ≡ 1
unfolding nodes
nodes-Aggregate n scale = ap nodes (sym (rolls-Aggregate n scale)) ∙ fold-roll-TypedExpr ℕ form_nodes (TypedExpr-F.Aggregate n scale)

pub nodes-Signed : (s : Sign) (x : TypedExpr) → nodes (e.Signed s x) ≡ 1 + nodes x
unfolding nodes
nodes-Signed s x = ap nodes (sym (rolls-Signed s x)) ∙ fold-roll-TypedExpr ℕ form_nodes (TypedExpr-F.Signed s x)

pub nodes-Not : (x : TypedExpr) → nodes (e.Not x) ≡ 1 + nodes x
unfolding nodes
nodes-Not x = ap nodes (sym (rolls-Not x)) ∙ fold-roll-TypedExpr ℕ form_nodes (TypedExpr-F.Not x)

pub nodes-Binary : (o : BinaryOp) (x y : TypedExpr) → nodes (e.Binary o x y) ≡ 1 + nodes x + nodes y
unfolding nodes
nodes-Binary o x y = ap nodes (sym (rolls-Binary o x y)) ∙ fold-roll-TypedExpr ℕ form_nodes (TypedExpr-F.Binary o x y)

pub nodes-Divide : (x : TypedExpr) (s : Sign) (n : ℕ) → nodes (e.Divide x s n) ≡ 2 + nodes x
unfolding nodes
nodes-Divide x s n = ap nodes (sym (rolls-Divide x s n)) ∙ fold-roll-TypedExpr ℕ form_nodes (TypedExpr-F.Divide x s n)

pub nodes-Between : (p : Polarity) (x y z : TypedExpr) → nodes (e.Between p x y z) ≡ 1 + nodes x + nodes y + nodes z
unfolding nodes
nodes-Between p x y z = ap nodes (sym (rolls-Between p x y z)) ∙ fold-roll-TypedExpr ℕ form_nodes (TypedExpr-F.Between p x y z)

pub nodes-In : (p : Polarity) (x : TypedExpr) (ys : List TypedExpr) → nodes (e.In p x ys) ≡ 1 + nodes x + total nodes ys
unfolding nodes
nodes-In p x ys = ap nodes (sym (rolls-In p x ys)) ∙ fold-roll-TypedExpr ℕ form_nodes (TypedExpr-F.In p x ys) ∙ ap (λ n. 1 + nodes x + n) (sum_by-total (λ n. n) (map nodes ys) ∙ total-map nodes ys)

pub nodes-IsNull : (p : Polarity) (x : TypedExpr) → nodes (e.IsNull p x) ≡ 1 + nodes x
unfolding nodes
nodes-IsNull p x = ap nodes (sym (rolls-IsNull p x)) ∙ fold-roll-TypedExpr ℕ form_nodes (TypedExpr-F.IsNull p x)

pub nodes-Coalesce : (x : TypedExpr) (ys : List TypedExpr) → nodes (e.Coalesce x ys) ≡ 1 + nodes x + total nodes ys
unfolding nodes
nodes-Coalesce x ys = ap nodes (sym (rolls-Coalesce x ys)) ∙ fold-roll-TypedExpr ℕ form_nodes (TypedExpr-F.Coalesce x ys) ∙ ap (λ n. 1 + nodes x + n) (sum_by-total (λ n. n) (map nodes ys) ∙ total-map nodes ys)

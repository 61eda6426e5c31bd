-- The select list, the conditions and the tables of a typed query, within what they cost.
use Rattle.std.proofs.Common.{◌≡◌, ℕ, ◌+◌, ◌≤◌, ◌<◌, nat_le, false, List, [], ◌∷◌, ◌++◌, length, length-append, Option, Some, None, Ok, ap, subst, arith}
use Rattle.std.proofs.lemmas.Bool.Decides.{nat_tests}
use Rattle.sql_read.specs.declared.definition.TableDef.{TableDef}
use Rattle.query_trees.specs.declared.expr.Expr.{Expr}
use Rattle.query_trees.specs.declared.clauses.Join.{Join}
use Rattle.query_trees.specs.declared.clauses.Source.{Source}
use Rattle.query_trees.specs.declared.clauses.SelectItem.{SelectItem}
use Rattle.query_trees.specs.declared.clauses.SelectList.{SelectList}
use Rattle.query_trees.specs.declared.clauses.SelectList.TheVariants as select
use Rattle.query_types.specs.declared.refusal.TypeKind.TheVariants.{TypesDiffer, TooManyItems}
use Rattle.typed_trees.specs.declared.kinds.Role.TheVariants.{Alone}
use Rattle.query_types.specs.declared.stars.Starred.{Starred}
use Rattle.query_types.specs.declared.items.Shown.{Shown}
use Rattle.query_types.specs.declared.sources.Tables.{Tables}
use Rattle.typed_trees.specs.declared.typed.TypedExpr.{TypedExpr}
use Rattle.typed_trees.specs.declared.typed.TypedExpr.TheVariants as e
use Rattle.query_types.specs.declared.typing.Typed.{Typed}
use Rattle.query_types.specs.Names.{Scope, standing}
use Rattle.query_types.specs.Expressions.{is_row, condition}
use Rattle.query_types.specs.Grouping.{every_column}
use Rattle.query_types.specs.Conjuncts.{parts}
use Rattle.query_types.specs.Items as i
use Rattle.query_types.specs.Items.{is_full, with_item, nothing_shown, star_item, star_items, with_value, item, items, shown_of}
use Rattle.query_types.specs.Sources.{source_of, with_table, opened, link, with_join, with_joins, first, tables_of}
use Rattle.query_types.specs.Typing.{filter, having}
use Rattle.query_sizes.specs.Sizes.{nodes, optional_nodes, source_nodes}
use Rattle.query_sizes.proofs.Totals.{total, total_more}
use Rattle.query_sizes.proofs.Costs.{cost}
use Rattle.query_sizes.proofs.Clauses.{item_cost, list_cost, optional_cost}
use Rattle.query_sizes.proofs.Nodes.{nodes-Column}
use Rattle.query_sizes.proofs.Parts.{parts_most}
use Rattle.query_sizes.proofs.Growth.{ok_same, then_ok, not_refused, Holds, holds_value, holds_if, holds_then, Grows, grows_pure, grows_lift, grows_then, grows_with, grows_within, grows_if}
use Rattle.query_sizes.proofs.Forms.{made}
use Rattle.query_sizes.proofs.Typers.{typed_within}

-- ---- `*`: a node for each item, and at most 64

abbrev pub shown_nodes : Shown → ℕ
shown_nodes shown = total nodes shown.items

record IsPlain (shown : Shown) : Type 0 where
  pub single : shown_nodes shown ≤ length shown.items
  pub short : length shown.items ≤ 64

not_full : (n : ℕ) → nat_le 64 n ≡ false → n < 64
not_full n h = grind (arith, nat_tests)

plain_more : (shown : Shown) (x : TypedExpr) (name : List ℕ) → nodes x ≡ 1 → is_full shown ≡ false → IsPlain shown → IsPlain (with_item shown x name)
plain_more shown x name one free h =
    let single = h.single in
    let room = not_full (length shown.items) free in
    let count : length (shown.items ++ x ∷ []) ≡ length shown.items + 1 = length-append shown.items (x ∷ []) in
    record {
      single = omega (arith, single, one, count, total_more nodes shown.items x);
      short = omega (arith, room, count);
    }

plain_item : (s : Scope) (at : ℕ) (shown more : Shown) (x : Starred) → IsPlain shown → star_item s at shown x ≡ Ok more → IsPlain more
unfolding star_item
plain_item s at shown more x h is =
    let free = not_refused (is_full shown) TooManyItems at _ more is in
    let found = then_ok (standing s at (i.found_starred x)) _ more free.1 in
    subst (λ z. IsPlain z) (ok_same (with_item shown (e.Column x.column x.type_) x.name) more found.2)
    (plain_more shown (e.Column x.column x.type_) x.name (nodes-Column x.column x.type_) free.0 h)

plain_items : (s : Scope) (at : ℕ) (xs : List Starred) (shown more : Shown) → IsPlain shown → star_items s at shown xs ≡ Ok more → IsPlain more
plain_items s at [] shown more h is = subst (λ z. IsPlain z) (ok_same shown more is) h
plain_items s at (x ∷ xs) shown more h is =
    let one = then_ok (star_item s at shown x) (λ z. star_items s at z xs) more is in
    plain_items s at xs one.0 more (plain_item s at shown one.0 x h one.1) one.2

stars_made : (s : Scope) (at : ℕ) (xs : List Starred) → Holds 64 shown_nodes (star_items s at nothing_shown xs)
stars_made s at xs = record {
  most = λ more is.
      let none : IsPlain nothing_shown = record { single = omega arith; short = omega arith } in
      let h = plain_items s at xs nothing_shown more none is in
      let single = h.single in
      let short = h.short in
      omega (arith, single, short);
}

-- ---- items

value_made : (shown : Shown) (x : SelectItem) (t : Typed) → Holds (shown_nodes shown + made t) shown_nodes (with_value shown x t)
unfolding with_value
value_made shown x t = holds_if _ TypesDiffer x.value.at (holds_value (shown_nodes shown + made t) shown_nodes (with_item shown t.value (i.name_of shown x)) (omega (arith, total_more nodes shown.items t.value)))

grows_item : (s : Scope) (shown : Shown) (x : SelectItem) → Grows (is_row s.level) (shown_nodes shown + item_cost x) shown_nodes (item_cost x) (item s shown x)
unfolding item
grows_item s shown x =
    grows_if (is_full shown) TooManyItems x.value.at
    (grows_within (shown_nodes shown + item_cost x) (item_cost x) (omega arith) (omega arith)
    (grows_then (grows_with (shown_nodes shown) (shown_nodes shown + item_cost x) (item_cost x) (omega arith) (omega arith) ((typed_within x.value).grows s Alone)) (λ t.
    grows_lift (is_row s.level) (value_made shown x t))))

grows_items : (s : Scope) (xs : List SelectItem) (shown : Shown) → Grows (is_row s.level) (shown_nodes shown + total item_cost xs) shown_nodes (total item_cost xs) (items s shown xs)
grows_items s [] shown = grows_pure (is_row s.level) (shown_nodes shown + 0) shown_nodes shown (omega arith)
grows_items s (x ∷ xs) shown =
    grows_then (grows_with (total item_cost xs) (shown_nodes shown + (item_cost x + total item_cost xs)) (item_cost x) (omega arith) (omega arith) (grows_item s shown x)) (λ more.
    grows_within (total item_cost xs + shown_nodes more) (total item_cost xs) (omega arith) (omega arith) (grows_items s xs more))

-- `*` stands for at most 64 columns
pub grows_shown : (s : Scope) (l : SelectList) → Grows (is_row s.level) (64 + list_cost l) shown_nodes (list_cost l) (shown_of s l)
grows_shown s (select.All star) = grows_within (64 + 0) 0 (omega arith) (omega arith) (grows_lift (is_row s.level) (stars_made s star (every_column s.defs 0 s.tables)))
grows_shown s (select.Items xs) = grows_within (64 + total item_cost xs) (total item_cost xs) (omega arith) (omega arith) (grows_items s xs nothing_shown)

-- ---- conditions

grows_condition : (s : Scope) (x : Expr) → Grows (is_row s.level) (cost x) nodes (cost x) (condition s x)
unfolding condition
grows_condition s x =
    grows_within (cost x) (cost x) (omega arith) (omega arith)
    (grows_then ((typed_within x).grows s Alone) (λ t.
    grows_lift (is_row s.level) (holds_if _ TypesDiffer x.at (holds_value (made t) nodes t.value (omega arith)))))

pub filter_made : (s : Scope) (x : Option Expr) → Holds (optional_cost x) (λ ps. total nodes ps) (filter s x)
filter_made s None = holds_value 0 (λ ps. total nodes ps) [] (omega arith)
filter_made s (Some x) = record {
  most = λ ps is.
      let r = then_ok (condition s x []) (λ r. Ok (parts r.0)) ps is in
      let g = (grows_condition s x).most [] r.0.1 r.0.0 r.1 in
      let g_nodes = g.nodes in
      let same : total nodes (parts r.0.0) ≡ total nodes ps = ap (total nodes) (ok_same (parts r.0.0) ps r.2) in
      omega (arith, g_nodes, same, parts_most r.0.0);
}

pub grows_having : (s : Scope) (x : Option Expr) → Grows (is_row s.level) (optional_cost x) optional_nodes (optional_cost x) (having s x)
grows_having s None = grows_pure (is_row s.level) 0 optional_nodes None (omega arith)
grows_having s (Some x) =
    grows_within (cost x) (cost x) (omega arith) (omega arith)
    (grows_then (grows_condition s x) (λ y. grows_pure (is_row s.level) (nodes y) optional_nodes (Some y) (omega arith)))

-- ---- tables, which typing gives no condition of their own

abbrev pub tables_nodes : Tables → ℕ
tables_nodes f = total source_nodes f.sources

join_made : (defs : List TableDef) (f : Tables) (j : Join) → tables_nodes f ≤ 0 → Holds 0 tables_nodes (with_join defs f j)
unfolding with_join
join_made defs f j h =
    holds_then (opened defs f.called j.table) (λ t.
    holds_then (link defs (f.called ++ t ∷ []) (length f.called) t.table j.kind) (λ l.
    holds_value 0 tables_nodes (with_table defs f t l) (omega (arith, h, total_more source_nodes f.sources (source_of defs t.table l)))))

all_made : (defs : List TableDef) (js : List Join) (f : Tables) → tables_nodes f ≤ 0 → Holds 0 tables_nodes (with_joins defs f js)
all_made defs [] f h = holds_value 0 tables_nodes f h
all_made defs (j ∷ js) f h = record {
  most = λ g is.
      let one = then_ok (with_join defs f j) (λ g. with_joins defs g js) g is in
      (all_made defs js one.0 ((join_made defs f j h).most one.0 one.1)).most g one.2;
}

first_made : (defs : List TableDef) (s : Source) → Holds 0 tables_nodes (first defs s.first)
unfolding first
first_made defs s = holds_then (opened defs [] s.first) (λ t. holds_value 0 tables_nodes (record { called = t ∷ []; sources = source_of defs t.table None ∷ [] }) (omega arith))

pub tables_made : (defs : List TableDef) (s : Source) → Holds 0 tables_nodes (tables_of defs s)
unfolding tables_of
tables_made defs s = record {
  most = λ g is.
      let one = then_ok (first defs s.first) (λ f. with_joins defs f s.joins) g is in
      let alone = (first_made defs s).most one.0 one.1 in
      (all_made defs s.joins one.0 alone).most g one.2;
}

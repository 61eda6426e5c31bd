-- The typing of a query, clause by clause, comes to a value or a refusal.
use Rattle.std.proofs.Common.{ℕ, List, [], ◌∷◌, ◌++◌, length, Some, None}
use Rattle.std.specs.Prelude.{Option}
use Rattle.std.specs.List.{position_from}
use Rattle.sql_read.specs.declared.definition.TableDef.{TableDef}
use Rattle.sql_types.specs.Catalog.{is_table_named}
use Rattle.query_trees.specs.declared.expr.ColumnName.{ColumnName}
use Rattle.query_trees.specs.declared.expr.Expr.{Expr}
use Rattle.query_trees.specs.declared.clauses.Join.{Join}
use Rattle.query_trees.specs.declared.clauses.JoinKind.{JoinKind}
use Rattle.query_trees.specs.declared.clauses.JoinKind.TheVariants as join
use Rattle.query_trees.specs.declared.clauses.SelectItem.{SelectItem}
use Rattle.query_trees.specs.declared.clauses.SelectList.{SelectList}
use Rattle.query_trees.specs.declared.clauses.SelectList.TheVariants as select
use Rattle.query_trees.specs.declared.clauses.SortBy.{SortBy}
use Rattle.query_trees.specs.declared.clauses.SortBy.TheVariants as by
use Rattle.query_trees.specs.declared.clauses.SortKey.{SortKey}
use Rattle.query_trees.specs.declared.clauses.Source.{Source}
use Rattle.query_trees.specs.declared.clauses.TableName.{TableName}
use Rattle.query_trees.specs.declared.query.Query.{Query}
use Rattle.typed_trees.specs.declared.typed.ColumnRef.{ColumnRef}
use Rattle.typed_trees.specs.declared.typed.KeyRef.TheVariants.{Item}
use Rattle.typed_trees.specs.declared.typed.OrderKey.{OrderKey}
use Rattle.query_types.specs.declared.refusal.TypeKind.TheVariants.{UnknownTable, UnknownColumn, Ambiguous, NameTwice, TypesDiffer, NotAKey, NotColumns, TooManyTables, TooManyItems, TooManyKeys}
use Rattle.typed_trees.specs.declared.kinds.Role.TheVariants.{Alone}
use Rattle.query_types.specs.declared.items.Shown.{Shown}
use Rattle.query_types.specs.declared.scope.Called.{Called}
use Rattle.query_types.specs.declared.scope.Found.{Found}
use Rattle.query_types.specs.declared.sources.Tables.{Tables}
use Rattle.query_types.specs.declared.stars.Starred.{Starred}
use Rattle.query_types.specs.declared.typing.Typed.{Typed}
use Rattle.query_types.specs.Names as n
use Rattle.query_types.specs.Names.{Scope, on_rows}
use Rattle.query_types.specs.Expressions as expression
use Rattle.query_types.specs.Expressions.{column_alone}
use Rattle.query_types.specs.Conjuncts.{parts}
use Rattle.query_types.specs.Sources as source
use Rattle.query_types.specs.Grouping as g
use Rattle.query_types.specs.Items as i
use Rattle.query_types.specs.Ordering as o
use Rattle.query_types.specs.Typing as t
use Rattle.run_laws.specs.Laws.{TypingLaw}
use Rattle.run_laws.proofs.TypingSteps.{Answers, answers_value, answers_none, answers_if, answers_either, answers_then, Collects, collects_pure, collects_lift, collects_then, collects_if}
use Rattle.run_laws.proofs.TypedForms.{resolved, standing, column, typed, condition}

-- ---- FROM

opened_at : (tables : List Called) (t : TableName) (place : Option ℕ) → Answers (source.opened_at tables t place)
opened_at tables t None = answers_none UnknownTable t.at
opened_at tables t (Some table) = answers_if _ NameTwice (source.call_at t) (answers_value (source.called t table))

opened : (defs : List TableDef) (tables : List Called) (t : TableName) → Answers (source.opened defs tables t)
unfolding source.opened
opened defs tables t = answers_if _ TooManyTables t.at (opened_at tables t (position_from (is_table_named t.name) 0 defs))

linked : (defs : List TableDef) (table at : ℕ) (own : Found) (name : ColumnName) (left : Found) → Answers (source.linked defs table at own name left)
unfolding source.linked
linked defs table at own name left = answers_if _ TypesDiffer at (answers_if _ NotAKey name.at (answers_value _))

paired : (defs : List TableDef) (s table : ℕ) (a : ColumnName) (at : ℕ) (b : ColumnName) (x y : Found) → Answers (source.paired defs s table a at b x y)
unfolding source.paired
paired defs s table a at b x y = answers_either (source.is_of s x)
    (answers_if (source.is_of s y) TypesDiffer at (linked defs table at x a y))
    (answers_if _ TypesDiffer at (linked defs table at y b x))

link : (defs : List TableDef) (tables : List Called) (s table : ℕ) (kind : JoinKind) → Answers (source.link defs tables s table kind)
unfolding source.linked_on
link defs tables s table join.Cross = answers_value None
link defs tables s table (join.On a at b) =
    answers_then (n.resolved defs tables a) (resolved defs tables a) (λ x.
    answers_then (n.resolved defs tables b) (resolved defs tables b) (paired defs s table a at b x))

with_join : (defs : List TableDef) (f : Tables) (j : Join) → Answers (source.with_join defs f j)
unfolding source.with_join
with_join defs f j =
    answers_then (source.opened defs f.called j.table) (opened defs f.called j.table) (λ t.
    answers_then (source.link defs (f.called ++ t ∷ []) (length f.called) t.table j.kind) (link defs (f.called ++ t ∷ []) (length f.called) t.table j.kind) (λ l.
    answers_value (source.with_table defs f t l)))

with_joins : (defs : List TableDef) (f : Tables) (js : List Join) → Answers (source.with_joins defs f js)
with_joins defs f [] = answers_value f
with_joins defs f (j ∷ js) = answers_then (source.with_join defs f j) (with_join defs f j) (λ g. with_joins defs g js)

first : (defs : List TableDef) (t : TableName) → Answers (source.first defs t)
unfolding source.first
first defs t = answers_then (source.opened defs [] t) (opened defs [] t) (λ t. answers_value _)

tables_of : (defs : List TableDef) (s : Source) → Answers (source.tables_of defs s)
unfolding source.tables_of
tables_of defs s = answers_then (source.first defs s.first) (first defs s.first) (λ f. with_joins defs f s.joins)

-- ---- GROUP BY and DISTINCT

grouped_by : (defs : List TableDef) (tables : List Called) (before : List ColumnRef) (cs : List ColumnName) → Answers (g.grouped_by defs tables before cs)
grouped_by defs tables before [] = answers_value before
grouped_by defs tables before (c ∷ cs) =
    answers_if _ TooManyKeys c.at (answers_then (n.resolved defs tables c) (resolved defs tables c) (λ f. grouped_by defs tables (before ++ f.column ∷ []) cs))

column_of_item : (defs : List TableDef) (tables : List Called) (x : SelectItem) (c : Option ColumnName) → Answers (g.column_of_item defs tables x c)
column_of_item defs tables x (Some c) = answers_then (n.resolved defs tables c) (resolved defs tables c) (λ f. answers_value f.column)
column_of_item defs tables x None = answers_none UnknownColumn x.value.at

selected : (defs : List TableDef) (tables : List Called) (before : List ColumnRef) (xs : List SelectItem) → Answers (g.selected defs tables before xs)
selected defs tables before [] = answers_value before
selected defs tables before (x ∷ xs) =
    answers_if _ TooManyKeys x.value.at
    (answers_then (g.column_of_item defs tables x (column_alone x.value)) (column_of_item defs tables x (column_alone x.value)) (λ c. selected defs tables (before ++ c ∷ []) xs))

distinct : (defs : List TableDef) (tables : List Called) (at : ℕ) (l : SelectList) → Answers (g.distinct defs tables at l)
distinct defs tables at (select.All star) = answers_if _ TooManyKeys star (answers_value _)
distinct defs tables at (select.Items xs) = answers_if _ NotColumns at (selected defs tables [] xs)

groups_by : (defs : List TableDef) (tables : List Called) (cs : List ColumnName) (l : SelectList) (at : Option ℕ) → Answers (g.groups_by defs tables cs l at)
groups_by defs tables cs l None = grouped_by defs tables [] cs
groups_by defs tables cs l (Some at) = answers_if (g.is_written cs) NotColumns at (distinct defs tables at l)

groups_of : (defs : List TableDef) (tables : List Called) (q : Query) → Answers (g.groups_of defs tables q)
unfolding g.groups_of
groups_of defs tables q = groups_by defs tables q.groups q.list q.distinct

-- ---- items

star_item : (s : Scope) (at : ℕ) (shown : Shown) (x : Starred) → Answers (i.star_item s at shown x)
unfolding i.star_item
star_item s at shown x = answers_if (i.is_full shown) TooManyItems at (answers_then (n.standing s at (i.found_starred x)) (standing s at (i.found_starred x)) (λ g. answers_value _))

star_items : (s : Scope) (at : ℕ) (shown : Shown) (xs : List Starred) → Answers (i.star_items s at shown xs)
star_items s at shown [] = answers_value shown
star_items s at shown (x ∷ xs) = answers_then (i.star_item s at shown x) (star_item s at shown x) (λ more. star_items s at more xs)

with_value : (shown : Shown) (x : SelectItem) (a : Typed) → Answers (i.with_value shown x a)
unfolding i.with_value
with_value shown x a = answers_if _ TypesDiffer x.value.at (answers_value _)

item : (s : Scope) (shown : Shown) (x : SelectItem) → Collects (i.item s shown x)
unfolding i.item
item s shown x = collects_if (i.is_full shown) TooManyItems x.value.at (collects_then ((typed x.value).types s Alone) (λ a. collects_lift (with_value shown x a)))

items : (s : Scope) (shown : Shown) (xs : List SelectItem) → Collects (i.items s shown xs)
items s shown [] = collects_pure shown
items s shown (x ∷ xs) = collects_then (item s shown x) (λ more. items s more xs)

shown_of : (s : Scope) (l : SelectList) → Collects (i.shown_of s l)
shown_of s (select.All star) = collects_lift (star_items s star i.nothing_shown (g.every_column s.defs 0 s.tables))
shown_of s (select.Items xs) = items s i.nothing_shown xs

-- ---- ORDER BY

by_column : (s : Scope) (c : ColumnName) → Answers (o.by_column s c)
unfolding o.by_column
by_column s c = answers_then (n.column s c) (column s c) (λ f. answers_value _)

by_item : (s : Scope) (c : ColumnName) (ks : List ℕ) → Answers (o.by_item s c ks)
by_item s c [] = by_column s c
by_item s c (k ∷ []) = answers_value (Item k)
by_item s c (k ∷ l ∷ more) = answers_none Ambiguous c.at

by_name : (s : Scope) (names : List (List ℕ)) (c : ColumnName) (q : Option (List ℕ)) → Answers (o.by_name s names c q)
unfolding o.by_bare
by_name s names c None = by_item s c (o.places_named c.name 0 names)
by_name s names c (Some table) = by_column s c

key_ref : (s : Scope) (names : List (List ℕ)) (at : ℕ) (k : SortBy) → Answers (o.key_ref s names at k)
key_ref s names at (by.Place p) = answers_if _ UnknownColumn at (answers_value _)
key_ref s names at (by.Column c) = by_name s names c c.table

keys : (s : Scope) (names : List (List ℕ)) (before : List OrderKey) (ks : List SortKey) → Answers (o.keys s names before ks)
keys s names before [] = answers_value before
keys s names before (k ∷ ks) =
    answers_if _ TooManyKeys k.at
    (answers_then (o.key_ref s names k.at k.by) (key_ref s names k.at k.by) (λ r. keys s names (before ++ o.order_key k.direction r ∷ []) ks))

-- ---- the whole

filter : (s : Scope) (x : Option Expr) → Answers (t.filter s x)
filter s None = answers_value []
filter s (Some e) = answers_then (expression.condition s e []) ((condition s e).answers []) (λ r. answers_value (parts r.0))

having : (s : Scope) (x : Option Expr) → Collects (t.having s x)
having s None = collects_pure None
having s (Some e) = collects_then (condition s e) (λ x. collects_pure (Some x))

answer : (s : Scope) (q : Query) → Answers (t.answer s q)
unfolding t.answer
answer s q =
    answers_then (i.shown_of s q.list []) ((shown_of s q.list).answers []) (λ shown.
    answers_then (t.having s q.having shown.1) ((having s q.having).answers shown.1) (λ h.
    answers_then (o.keys s shown.0.names [] q.order) (keys s shown.0.names [] q.order) (λ order.
    answers_value _)))

typed_over : (defs : List TableDef) (q : Query) (f : Tables) → Answers (t.typed_over defs q f)
unfolding t.typed_over
typed_over defs q f =
    answers_then (t.filter (on_rows defs f.called) q.filter) (filter (on_rows defs f.called) q.filter) (λ where_parts.
    answers_then (g.groups_of defs f.called q) (groups_of defs f.called q) (λ groups.
    let s = t.scope_of defs f.called groups (g.is_grouped q) in
    answers_then (t.answer s q) (answer s q) (λ a. answers_value (t.query_of f where_parts groups a))))

typed_query : (q : Query) (defs : List TableDef) → Answers (t.typed_query q defs)
unfolding t.typed_query
typed_query q defs = answers_then (source.tables_of defs q.source) (tables_of defs q.source) (typed_over defs q)

pub typing_law : TypingLaw
typing_law q defs = (typed_query q defs).never

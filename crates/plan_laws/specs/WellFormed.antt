-- Well-formed plans over the definitions of tables: what every plan of a typed query has, and every plan that is made of one.
-- After SQL-92 (ISO/IEC 9075:1992), 7.3 <table expression> to 7.9 <query specification>.
use Rattle.std.specs.Prelude.{◌≡◌, ℕ, ◌==◌, ◌<◌, ◌≤◌, true, List, [], All, length, map, slice_get, slice_index_or, Some, None, Ok}
use Rattle.std.specs.List.{list_any}
use Rattle.std.specs.Option.{ForSome}
use Rattle.sql_read.specs.declared.definition.ColumnDef.{ColumnDef}
use Rattle.sql_read.specs.declared.definition.TableDef.{TableDef}
use Rattle.table_load.specs.Values.{Table, value_at}
use Rattle.query_trees.specs.declared.query.Query.{Query}
use Rattle.typed_trees.specs.declared.typed.PlanSource.{PlanSource}
use Rattle.typed_trees.specs.declared.typed.TypedQuery.{TypedQuery}
use Rattle.typed_trees.specs.Typed.{IsTyped}
use Rattle.typed_values.specs.Bounds.{cannot_overflow}
use Rattle.typed_values.specs.Intervals.{of_type}
use Rattle.value_bounds.specs.Laws.{holds}
use Rattle.query_types.specs.Names.{columns_of, type_of_column}
use Rattle.query_types.specs.Typing.{typed_query}
use Rattle.query_shapes.specs.Laws.{HasGroups}
use Rattle.typing_laws.specs.Laws.{AreDeclared, IsColumn, IsJoin, IsKey, IsOnGroups, places_of}
use Rattle.rel_plan.specs.declared.plans.RelPlan.{RelPlan}
use Rattle.rel_plan.specs.Plans.{is_grouped, plan_of}
use Rattle.rel_plan.specs.Prunes.{is_named_at, pruned}
use Rattle.rel_plan.specs.Pushes.{pushed}
use Rattle.plan_laws.specs.Laws.{asks}
use Rattle.plan_laws.specs.PlanAnswers.{plan_answer}

-- the query of a plan's parts: its items have no names
abbrev pub query_of : RelPlan → TypedQuery
query_of p = record {
  sources = p.sources;
  filter = p.filter;
  groups = p.groups;
  aggregates = p.aggregates;
  having = p.having;
  items = p.items;
  order = p.order;
  names = map (λ e. []) p.items;
}

-- the places of its tables
abbrev pub places : RelPlan → List ℕ
places p = places_of (query_of p)

-- each column and each item that a plan names is one of its tables, or of its list, and the columns have their definitions' types
pub record NamesThese (defs : List TableDef) (p : RelPlan) : Type 0 where
  pub filter : All (AreDeclared defs (places p)) p.filter
  pub aggregates : All (λ a. ForSome a.argument (AreDeclared defs (places p))) p.aggregates
  pub having : ForSome p.having (AreDeclared defs (places p))
  pub items : All (AreDeclared defs (places p)) p.items
  pub groups : All (IsColumn defs (places p)) p.groups
  pub order : All (λ k. IsKey defs (places p) (length p.items) k.key) p.order

-- the n-th source
pub record IsPlanSource (defs : List TableDef) (p : RelPlan) (n : ℕ) (s : PlanSource) : Type 0 where
  pub known : s.table < length defs
  pub columns : All (λ k. k < length (columns_of defs s.table)) s.columns
  -- the first has none, since no table stands to its left
  pub join : ForSome s.join (IsJoin defs (places p) n s.table)
  -- its conditions ask of its own columns alone, and none can overflow
  pub declared : All (AreDeclared defs (places p)) s.filter
  pub alone : All (λ e. asks n e ≡ true) s.filter
  pub narrow : All (λ e. cannot_overflow e ≡ true) s.filter
  -- it has each column that the plan names of it
  pub named : (k : ℕ) → is_named_at p n k ≡ true → list_any (λ j. j == k) s.columns ≡ true

pub record IsWellFormed (defs : List TableDef) (p : RelPlan) : Type 0 where
  pub some_source : 1 ≤ length p.sources
  pub few_sources : length p.sources ≤ 8
  pub few_items : length p.items ≤ 64
  pub few_groups : length p.groups ≤ 4
  pub few_keys : length p.order ≤ 8
  pub typed : IsTyped (query_of p)
  pub names : NamesThese defs p
  pub sources : (n : ℕ) (s : PlanSource) → slice_get p.sources n ≡ Some s → IsPlanSource defs p n s
  -- where it is grouped, the columns outside aggregates are group columns
  pub grouped : p.grouped ≡ is_grouped (query_of p)
  pub on_groups : p.grouped ≡ true → IsOnGroups (query_of p)
  pub having : p.groups ≡ [] → p.having ≡ None

-- ---- tables whose numbers lie in the intervals of their columns' types

abbrev pub TablesFit : List TableDef → List Table → Type 0
TablesFit defs tables = (table k : ℕ) (c : ColumnDef) → slice_get (columns_of defs table) k ≡ Some c → All (λ r. holds (of_type (type_of_column c)) (value_at k r) ≡ true) (slice_index_or (map (λ t. t.rows) tables) table [])

-- ---- the laws

pub record WellFormedLaws : Type 0 where
  pub planned : (q : Query) (defs : List TableDef) (t : TypedQuery) → HasGroups q → typed_query q defs ≡ Ok t → IsWellFormed defs (plan_of t)
  pub pushed_is : (defs : List TableDef) (p : RelPlan) → IsWellFormed defs p → IsWellFormed defs (pushed p)
  pub pruned_is : (defs : List TableDef) (p : RelPlan) → IsWellFormed defs p → IsWellFormed defs (pruned p)
  -- over the tables of its definitions a well-formed plan is pushed as it may be
  pub answered : (defs : List TableDef) (tables : List Table) (p : RelPlan) → TablesFit defs tables → IsWellFormed defs p → plan_answer tables (pushed p) ≡ plan_answer tables p

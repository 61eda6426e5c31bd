-- What the parts of a plan's program ask of the plan and of its table: each holds of every plan that can be lowered.
-- After SQL-92 (ISO/IEC 9075:1992), 7.3 <table expression> to 7.9 <query specification> and 13.1 <order by clause>.
use Rattle.std.specs.Prelude.{◌≡◌, ◌≤◌, ◌^◌, ◌<◌, ◌==◌, true, false, List, All, map, length, option_to_list, Result, Ok}
use Rattle.std.specs.List.{list_any}
use Rattle.control_vectors.specs.declared.Over.{Over}
use Rattle.sql_read.specs.declared.definition.TableDef.{TableDef}
use Rattle.table_load.specs.Values.{Table}
use Rattle.typed_trees.specs.declared.typed.ColumnRef.{ColumnRef}
use Rattle.typed_trees.specs.declared.typed.PlanSource.{PlanSource}
use Rattle.typed_trees.specs.Types.{no_aggregate, types_of}
use Rattle.typed_values.specs.Values.{Valued, On}
use Rattle.query_answers.specs.Answers.{FromRow, condition, from_rows, groups_of, on_group, on_row, output_row}
use Rattle.query_answers.specs.Overs.{◌>>=◌, each, kept}
use Rattle.rel_plan.specs.declared.plans.RelPlan.{RelPlan}
use Rattle.rel_plan.specs.Prunes.{is_named}
use Rattle.plan_laws.specs.PlanAnswers.{clauses_of_plan, plan_answer}
use Rattle.plan_programs.specs.Sites.{Base}
use Rattle.lowered_stages.specs.Parts.{CanValue, CanValueAll, on_table, HasColumnsOf, CanGroup, CanGroupRows, itself, IsKeyOf, key_alike, answer_rows}
use Rattle.lowered_stages.specs.Plans.{CanLower}
use Rattle.lowered_premises.specs.Sources.{OverTable, texts_of, alone, met_rows, IsRowOf, IsGroupOf, HasGroupPlaces}

-- there is one source, over a table that is defined and stored
abbrev pub SourceLaw : Type 0
SourceLaw = (defs : List TableDef) (ts : List Table) (p : RelPlan) → CanLower defs ts p → (s : PlanSource) × (def : TableDef) × (t : Table) × OverTable defs ts p s def t

-- ---- columns

-- a source's columns are its table's, and each column that the plan names is one of them
pub record HasItsColumns (p : RelPlan) (s : PlanSource) (def : TableDef) : Type 0 where
  pub within : All (λ c. c < length def.columns) s.columns
  pub named : (c : ColumnRef) → is_named p c ≡ true → (c.source ≡ 0) × (list_any (λ j. j == c.column) s.columns ≡ true)

abbrev pub ColumnLaw : Type 0
ColumnLaw = (defs : List TableDef) (ts : List Table) (p : RelPlan) (s : PlanSource) (def : TableDef) (t : Table) → CanLower defs ts p → OverTable defs ts p s def t → HasItsColumns p s def

-- ---- rows

-- the conditions of a source stand on its table's rows
abbrev pub TableLaw : Type 0
TableLaw =
    (defs : List TableDef) (ts : List Table) (p : RelPlan) (s : PlanSource) (def : TableDef) (t : Table)
    → CanLower defs ts p → OverTable defs ts p s def t → All (CanValueAll (texts_of defs ts) no_aggregate on_table t.rows) s.filter

-- conditions and arguments stand on from-rows, and so do the items and the keys of a plan without groups
pub record StandOnRows (defs : List TableDef) (ts : List Table) (p : RelPlan) (rows : List FromRow) : Type 0 where
  pub filter : All (CanValueAll (texts_of defs ts) no_aggregate on_row rows) p.filter
  pub grouping : CanGroupRows (texts_of defs ts) p.groups p.aggregates rows
  pub items : p.grouped ≡ false → All (CanValueAll (texts_of defs ts) (types_of p.aggregates) on_row rows) p.items
  pub keys : All (λ k. key_alike (texts_of defs ts) on_row rows k.key) p.order

abbrev pub RowsLaw : Type 0
RowsLaw =
    (defs : List TableDef) (ts : List Table) (p : RelPlan) (s : PlanSource) (def : TableDef) (t : Table) (rows : List FromRow)
    → CanLower defs ts p → OverTable defs ts p s def t → All (IsRowOf t) rows → length rows ≤ 2 ^ 20 → StandOnRows defs ts p rows

-- having, items and keys stand on the groups of such rows
pub record StandOnGroups (defs : List TableDef) (ts : List Table) (p : RelPlan) (groups : List On) : Type 0 where
  pub having : All (CanValueAll (texts_of defs ts) (types_of p.aggregates) itself groups) (option_to_list p.having)
  pub items : All (CanValueAll (texts_of defs ts) (types_of p.aggregates) itself groups) p.items
  pub keys : All (λ k. key_alike (texts_of defs ts) itself groups k.key) p.order

abbrev pub GroupsLaw : Type 0
GroupsLaw =
    (defs : List TableDef) (ts : List Table) (p : RelPlan) (s : PlanSource) (def : TableDef) (t : Table) (rows : List FromRow) (groups : List On)
    → CanLower defs ts p → OverTable defs ts p s def t → All (IsRowOf t) rows → All (IsGroupOf (clauses_of_plan p) rows) groups → StandOnGroups defs ts p groups

-- the rows and the groups that are left are rows and groups
pub record MemberLaws : Type 0 where
  pub rows : (t : Table) (s : PlanSource) → All (IsRowOf t) (map alone (met_rows s t))
  pub kept_rows : (t : Table) (c : FromRow → Valued) (rows left : List FromRow) → kept c rows ≡ Ok left → All (IsRowOf t) rows → All (IsRowOf t) left
  pub groups : (p : RelPlan) (rows : List FromRow) (groups : List On) → each (on_group (clauses_of_plan p)) (groups_of p.groups rows) ≡ Ok groups → All (IsGroupOf (clauses_of_plan p) rows) groups
  pub kept_groups : (p : RelPlan) (rows : List FromRow) (c : On → Valued) (groups left : List On) → kept c groups ≡ Ok left → All (IsGroupOf (clauses_of_plan p) rows) groups → All (IsGroupOf (clauses_of_plan p) rows) left

-- ---- places

-- over a base that has a place for each column of the source
pub record HaveValues (p : RelPlan) (s : PlanSource) (b : Base) : Type 0 where
  pub source : All (CanValue no_aggregate b) s.filter
  pub filter : All (CanValue no_aggregate b) p.filter
  pub grouping : CanGroup b p.groups p.aggregates
  pub items : p.grouped ≡ false → All (CanValue (types_of p.aggregates) b) p.items
  pub keys : All (λ k. IsKeyOf (length p.items) b k.key) p.order

abbrev pub PlacesLaw : Type 0
PlacesLaw =
    (defs : List TableDef) (ts : List Table) (p : RelPlan) (s : PlanSource) (def : TableDef) (t : Table) (b : Base)
    → CanLower defs ts p → OverTable defs ts p s def t → HasColumnsOf 0 s.columns b → HaveValues p s b

-- over a base that has a place for each group column and each aggregate
pub record HaveGroupValues (p : RelPlan) (b : Base) : Type 0 where
  pub having : All (CanValue (types_of p.aggregates) b) (option_to_list p.having)
  pub items : All (CanValue (types_of p.aggregates) b) p.items
  pub keys : All (λ k. IsKeyOf (length p.items) b k.key) p.order

abbrev pub GroupPlacesLaw : Type 0
GroupPlacesLaw =
    (defs : List TableDef) (ts : List Table) (p : RelPlan) (s : PlanSource) (def : TableDef) (t : Table) (b : Base)
    → CanLower defs ts p → OverTable defs ts p s def t → p.grouped ≡ true → HasGroupPlaces (clauses_of_plan p) b → HaveGroupValues p b

-- ---- the answer

-- the from-rows of which WHERE is true
abbrev pub where_rows : RelPlan → PlanSource → Table → Result (List FromRow) Over
where_rows p s t = kept (λ row. condition p.filter (on_row row)) (map alone (met_rows s t))

-- the groups of which HAVING is true
abbrev pub having_groups : RelPlan → List FromRow → Result (List On) Over
having_groups p rows = do
  groups ← each (on_group (clauses_of_plan p)) (groups_of p.groups rows)
  kept (λ on. condition (option_to_list p.having) (itself on)) groups

-- the answer of a plan over one table, by what its parts make
pub record ShapeLaws : Type 0 where
  pub rows : (defs : List TableDef) (ts : List Table) (p : RelPlan) (s : PlanSource) (def : TableDef) (t : Table) → OverTable defs ts p s def t → from_rows ts p.sources ≡ map alone (met_rows s t)
  -- no condition of a source is Over on a row of its table
  pub kept_are : (defs : List TableDef) (ts : List Table) (p : RelPlan) (s : PlanSource) (def : TableDef) (t : Table) → CanLower defs ts p → OverTable defs ts p s def t → kept (λ r. condition s.filter (on_table r)) t.rows ≡ Ok (met_rows s t)
  pub plain : (defs : List TableDef) (ts : List Table) (p : RelPlan) (s : PlanSource) (def : TableDef) (t : Table) → OverTable defs ts p s def t → p.grouped ≡ false
      → plan_answer ts p ≡ (where_rows p s t >>= λ rows. each (λ row. output_row (clauses_of_plan p) (on_row row)) rows >>= λ outputs. Ok (answer_rows (clauses_of_plan p) outputs))
  pub grouped : (defs : List TableDef) (ts : List Table) (p : RelPlan) (s : PlanSource) (def : TableDef) (t : Table) → OverTable defs ts p s def t → p.grouped ≡ true
      → plan_answer ts p ≡ (where_rows p s t >>= λ rows. having_groups p rows >>= λ groups. each (λ on. output_row (clauses_of_plan p) (itself on)) groups >>= λ outputs. Ok (answer_rows (clauses_of_plan p) outputs))

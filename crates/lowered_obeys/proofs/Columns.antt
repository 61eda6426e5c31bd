-- The group columns of a plan are columns of its one source, and are loaded where its program loads them.
use Rattle.std.proofs.Common.{◌≡◌, ℕ, ◌<◌, ◌==◌, Bool, true, ◌&&◌, List, [], ◌∷◌, ◌++◌, map, length, get_or, refl, sym, ap, ◌∙◌, subst, Option, Some}
use Rattle.std.specs.Prelude.{All, slice_get, slice_index_or}
use Rattle.std.specs.List.{list_any}
use Rattle.std.proofs.lemmas.Bool.{or_left, or_right, eq-eqb, eqb-true}
use Rattle.std.proofs.lemmas.List.Elements.{All-head, All-tail}
use Rattle.std.proofs.lemmas.List.Folds.{list_any-append, list_any_at, Any-from_list_any}
use Rattle.std.proofs.lemmas.Option.{get_or_from_slice_get, slice_get_within}
use Rattle.programs.specs.Mentions.{Label, has_name}
use Rattle.sql_read.specs.declared.definition.ColumnDef.{ColumnDef}
use Rattle.sql_read.specs.declared.definition.TableDef.{TableDef}
use Rattle.sql_read.specs.Forms.{IsNamed}
use Rattle.table_load.specs.Databases.{path_of, database_of}
use Rattle.table_load.specs.Values.{Table}
use Rattle.table_load.specs.Vectors.{HasColumns}
use Rattle.table_load.proofs.ColumnNames.{has_columns}
use Rattle.typed_trees.specs.declared.typed.ColumnRef.{ColumnRef}
use Rattle.typed_trees.specs.declared.typed.PlanSource.{PlanSource}
use Rattle.typed_trees.specs.declared.naming.Wanted.TheVariants as wanted
use Rattle.typed_trees.specs.Names.{same_column, names}
use Rattle.rel_plan.specs.declared.plans.RelPlan.{RelPlan}
use Rattle.rel_plan.specs.Plans.{expressions}
use Rattle.rel_plan.specs.Prunes.{columns_of_joins, columns_of_keys, columns_named, is_named}
use Rattle.plan_programs.specs.Rows.{loaded_path}
use Rattle.lowered_stages.specs.Plans.{CanLower}
use Rattle.lowered_premises.specs.Laws.{HasItsColumns}
use Rattle.lowered_premises.specs.Sources.{OverTable}
use Rattle.lowered_rows.proofs.Loaded.{found}
use Rattle.lowered_rows.proofs.Shapes.{table_outline, has_column}
use Rattle.lowered_rows.proofs.Stores.{loaded_is}
use Rattle.attribute_origins.specs.Traces.{Origin, origin}
use Rattle.plan_obeyed.specs.Columns.{loaded_at}
use Rattle.plan_obeyed.specs.Queries.{table_of, column_of, path_in, group_of}

column_itself : (c : ColumnRef) → same_column c c ≡ true
column_itself c = ap (λ (b : Bool). b && (c.column == c.column)) (eq-eqb c.source c.source refl) ∙ eq-eqb c.column c.column refl

-- a group column is named
group_named : (p : RelPlan) (i : ℕ) (d : ColumnRef) → i < length p.groups → is_named p (get_or p.groups i d) ≡ true
group_named p i d less =
    let c = get_or p.groups i d in
    let f : ColumnRef → Bool = same_column c in
    let here : list_any f p.groups ≡ true = list_any_at f p.groups i d less (column_itself c) in
    let among : list_any f (columns_named p) ≡ true =
    list_any-append f (columns_of_joins p.sources) (p.groups ++ columns_of_keys p.order)
    ∙ or_right (list_any f (columns_of_joins p.sources)) (list_any f (p.groups ++ columns_of_keys p.order)) (list_any-append f p.groups (columns_of_keys p.order) ∙ or_left (list_any f p.groups) (list_any f (columns_of_keys p.order)) here) in
    or_right (list_any (names (wanted.Column c)) (expressions p)) (list_any f (columns_named p)) among

module _ (defs : List TableDef) (ts : List Table) (p : RelPlan) (s : PlanSource) (def : TableDef) (t : Table) (can : CanLower defs ts p) (over : OverTable defs ts p s def t) (its : HasItsColumns p s def) where
  good : HasColumns def
  good = subst HasColumns (get_or_from_slice_get defs s.table def def over.defined) (has_columns defs can.database.clean can.database.formed s.table def (slice_get_within defs s.table def over.defined))

  -- a column of the table is loaded where its definition says
  record IsLoaded (k : ℕ) : Type 0 where
    column : ColumnDef
    is : slice_get def.columns k ≡ Some column
    path : loaded_path def k ≡ path_of column

  is_loaded : (k : ℕ) → k < length def.columns → IsLoaded k
  is_loaded k less =
      let f = found def.columns k less in
      let name : IsNamed f.item = subst IsNamed (get_or_from_slice_get def.columns k f.item f.item f.is) (good.named k f.item less) in
      record { column = f.item; is = f.is; path = loaded_is def k f.item name f.is }

  -- each column of the source is an attribute of its table
  pub columns_named_so : All (λ k. has_name (table_outline (database_of defs ts).dictionary def t).paths (loaded_path def k) ≡ true) s.columns
  columns_named_so = λ i d less.
      let k = get_or s.columns i d in
      let l = is_loaded k (its.within i d less) in
      ap (has_name (table_outline (database_of defs ts).dictionary def t).paths) l.path ∙ has_column (database_of defs ts).dictionary def t good k l.column l.is

  column_within : (c : ColumnRef) → list_any (λ j. j == c.column) s.columns ≡ true → c.column < length def.columns
  column_within c e =
      let a = Any-from_list_any (λ (j : ℕ). j == c.column) s.columns e in
      let same : a.1 ≡ c.column = eqb-true a.1 c.column a.4 in
      subst (λ (n : ℕ). n < length def.columns) (a.3 ∙ same) (its.within a.0 a.1 a.2)

  group_at : (table : Label) (c : ColumnRef) → c.source ≡ 0 → list_any (λ j. j == c.column) s.columns ≡ true → loaded_at (table ∷ []) (group_of defs p.sources c) ≡ origin table (loaded_path def c.column)
  group_at table c first e =
      let l = is_loaded c.column (column_within c e) in
      ap (λ (ss : List PlanSource). loaded_at (table ∷ []) (group_of defs ss c)) over.only
      ∙ ap (λ (n : ℕ). origin (slice_index_or (table ∷ []) n []) (path_in (column_of (table_of defs (slice_get (s ∷ []) n)) c.column))) first
      ∙ ap (λ (d : Option TableDef). origin table (path_in (column_of d c.column))) over.defined
      ∙ ap (λ (x : Option ColumnDef). origin table (path_in x)) l.is
      ∙ ap (origin table) (sym l.path)

  -- where the group columns are loaded
  pub groups_at : (table : Label) → map (loaded_at (table ∷ [])) (map (group_of defs p.sources) p.groups) ≡ map (λ c. origin table (loaded_path def c.column)) p.groups
  groups_at table = each p.groups (λ i d less. let n = its.named (get_or p.groups i d) (group_named p i d less) in group_at table (get_or p.groups i d) n.0 n.1)
    where
      each : (cs : List ColumnRef) → All (λ c. loaded_at (table ∷ []) (group_of defs p.sources c) ≡ origin table (loaded_path def c.column)) cs → map (loaded_at (table ∷ [])) (map (group_of defs p.sources) cs) ≡ map (λ c. origin table (loaded_path def c.column)) cs
      each [] h = refl
      each (c ∷ cs) h =
          ap (λ (o : Origin). o ∷ map (loaded_at (table ∷ [])) (map (group_of defs p.sources) cs)) (All-head (λ c. loaded_at (table ∷ []) (group_of defs p.sources c) ≡ origin table (loaded_path def c.column)) c cs h)
          ∙ ap (λ (l : List Origin). origin table (loaded_path def c.column) ∷ l) (each cs (All-tail (λ c. loaded_at (table ∷ []) (group_of defs p.sources c) ≡ origin table (loaded_path def c.column)) c cs h))

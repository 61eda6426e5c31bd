-- A plan that can be lowered has one source, and its columns are those of one table.
use Rattle.std.proofs.Common.{◌≡◌, ◌∙◌, ℕ, zero, suc, ◌<◌, List, [], ◌∷◌, length, map, Option, Some, None, refl, sym, ap, subst, arith, ⊎_elim}
use Rattle.std.specs.Prelude.{slice_get}
use Rattle.std.specs.Option.{ForSome, option_and_then, option_map}
use Rattle.std.proofs.lemmas.Option.{slice_get_cases}
use Rattle.sql_read.specs.declared.definition.ColumnDef.{ColumnDef}
use Rattle.sql_read.specs.declared.definition.TableDef.{TableDef}
use Rattle.table_load.specs.Values.{Table}
use Rattle.typed_trees.specs.declared.typed.ColumnRef.{ColumnRef}
use Rattle.typed_trees.specs.declared.typed.ColumnType.{ColumnType}
use Rattle.typed_trees.specs.declared.typed.PlanSource.{PlanSource}
use Rattle.typed_trees.proofs.Inversions.{some_same}
use Rattle.query_types.specs.Names.{columns_at, columns_of, type_of_column}
use Rattle.typing_laws.specs.Laws.{IsJoin, column_at}
use Rattle.rel_plan.specs.declared.plans.RelPlan.{RelPlan}
use Rattle.plan_laws.specs.WellFormed.{places, IsPlanSource}
use Rattle.lowered_stages.specs.Plans.{CanLower}
use Rattle.lowered_premises.specs.Sources.{OverTable}
use Rattle.lowered_premises.specs.Laws.{SourceLaw}

one_of : (sources : List PlanSource) → length sources ≡ 1 → (s : PlanSource) × (sources ≡ s ∷ [])
one_of [] e = absurd (omega (arith, e))
one_of (s ∷ []) e = (s, refl)
one_of (s ∷ r ∷ more) e = absurd (omega (arith, e))

there : {X : Type 0} (xs : List X) (n : ℕ) → n < length xs → (x : X) × (slice_get xs n ≡ Some x)
there xs n l = ⊎_elim (λ a. (a.0, a.2)) (λ b. absurd (omega (arith, l, b.0))) (slice_get_cases xs n).1

-- nothing stands to the left of the first source, so it has no join
no_join : (defs : List TableDef) (tables : List ℕ) (table : ℕ) (j : Option (ColumnRef × ℕ)) → ForSome j (IsJoin defs tables 0 table) → j ≡ None
no_join defs tables table None is = refl
no_join defs tables table (Some j) is = absurd (omega (arith, (is j refl).left))

pub source_law : SourceLaw
source_law defs ts p h =
    let first = one_of p.sources h.one_source in
    let placed = h.well_formed.sources 0 first.0 (ap (λ (l : List PlanSource). slice_get l 0) first.1) in
    let def = there defs first.0.table placed.known in
    let t = there ts first.0.table (omega (arith, placed.known, h.database.as_many)) in
    (first.0, def.0, t.0, record { only = first.1; defined = def.1; stored = t.1; unjoined = no_join defs (places p) first.0.table first.0.join placed.join })

-- ---- columns in their places

mapped : (o : Option ColumnDef) (type : ColumnType) → option_map type_of_column o ≡ Some type → (d : ColumnDef) × (o ≡ Some d) × (type_of_column d ≡ type)
mapped (Some d) type e = (d, refl, some_same (type_of_column d) type e)
mapped None type e = absurd cc

at_only : (n table : ℕ) (f : ℕ → Option ColumnDef) (type : ColumnType) → option_map type_of_column (option_and_then f (slice_get (table ∷ []) n)) ≡ Some type → (n ≡ 0) × (d : ColumnDef) × (f table ≡ Some d) × (type_of_column d ≡ type)
at_only zero table f type e = let m = mapped (f table) type e in (refl, m.0, m.1, m.2)
at_only (suc n) table f type e = absurd cc

-- a column of the table, with the type that its definition gives it
abbrev pub IsOf : TableDef → ColumnRef → ColumnType → Type 0
IsOf def c type = (c.source ≡ 0) × (d : ColumnDef) × (slice_get def.columns c.column ≡ Some d) × (type_of_column d ≡ type)

module _ (defs : List TableDef) (ts : List Table) (p : RelPlan) (s : PlanSource) (def : TableDef) (t : Table) (o : OverTable defs ts p s def t) where
  pub its_columns : columns_of defs s.table ≡ def.columns
  its_columns = ap columns_at o.defined

  pub is_at : (c : ColumnRef) (type : ColumnType) → column_at defs (places p) c ≡ Some type → IsOf def c type
  is_at c type e =
      let alone = subst (λ (l : List PlanSource). column_at defs (map (λ (x : PlanSource). x.table) l) c ≡ Some type) o.only e in
      let at = at_only c.source s.table (λ table. slice_get (columns_of defs table) c.column) type alone in
      (at.0, at.1, ap (λ (l : List ColumnDef). slice_get l c.column) (sym its_columns) ∙ at.2, at.3)

  pub in_place : CanLower defs ts p → IsPlanSource defs p 0 s
  in_place h = h.well_formed.sources 0 s (ap (λ (l : List PlanSource). slice_get l 0) o.only)

-- No source of a typed query has more columns than a table of a catalog: 64.
use Rattle.std.proofs.Common.{◌≡◌, ℕ, zero, suc, ◌<◌, ◌≤◌, List, [], ◌∷◌, length, get_or, refl, ap, sym, subst, ◌∙◌, arith}
use Rattle.std.specs.Prelude.{Some, slice_get}
use Rattle.std.proofs.lemmas.List.FromFn.{length-range_with_len}
use Rattle.sql_read.specs.declared.definition.ColumnDef.{ColumnDef}
use Rattle.sql_read.specs.declared.definition.TableDef.{TableDef}
use Rattle.sql_types.specs.Catalog.{findings}
use Rattle.table_load.proofs.Limits.{few_columns}
use Rattle.typed_trees.specs.declared.typed.PlanSource.{PlanSource}
use Rattle.query_types.specs.Names.{columns_of}
use Rattle.typing_laws.specs.Laws.{IsTable}
use Rattle.query_runs.proofs.FewSources.{Few}

-- the columns of a table that is defined are those of its definition
columns_at : (defs : List TableDef) (table : ℕ) → table < length defs → (d : TableDef) → columns_of defs table ≡ (get_or defs table d).columns
columns_at [] table within d = absurd (omega arith)
columns_at (def ∷ defs) zero within d = refl
columns_at (def ∷ defs) (suc table) within d = columns_at defs table (omega (arith, within)) d

few_of_table : (defs : List TableDef) (table : ℕ) (d : TableDef) → findings defs ≡ [] → table < length defs → length (columns_of defs table) ≤ 64
few_of_table defs table d clean within = subst (λ (cs : List ColumnDef). length cs ≤ 64) (sym (columns_at defs table within d)) (few_columns defs table d clean within)

-- a definition among some
some_def : (defs : List TableDef) (table : ℕ) → table < length defs → TableDef
some_def [] table within = absurd (omega arith)
some_def (def ∷ defs) table within = def

few_of_source : (defs : List TableDef) (places : List ℕ) (n : ℕ) (s : PlanSource) → findings defs ≡ [] → IsTable defs places n s → length s.columns ≤ 64
few_of_source defs places n s clean h =
    let few = few_of_table defs s.table (some_def defs s.table h.known) clean h.known in
    let many : length s.columns ≡ length (columns_of defs s.table) = ap (λ (l : List ℕ). length l) h.columns ∙ length-range_with_len 0 (length (columns_of defs s.table)) in
    omega (arith, few, many)

pub few_of_sources : (defs : List TableDef) (places : List ℕ) (k : ℕ) (sources : List PlanSource) → findings defs ≡ [] → ((n : ℕ) (s : PlanSource) → slice_get sources n ≡ Some s → (m : ℕ) × IsTable defs places m s) → Few sources
few_of_sources defs places k [] clean h = tt
few_of_sources defs places k (s ∷ sources) clean h =
    let first = h 0 s refl in
    (few_of_source defs places first.0 s clean first.1, few_of_sources defs places k sources clean (λ n x e. h (suc n) x e))

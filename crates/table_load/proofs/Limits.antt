-- What a catalog says of each of its tables.
use Rattle.std.proofs.Common.{◌≡◌, ℕ, zero, suc, ◌<◌, ◌≤◌, List, [], ◌∷◌, ◌++◌, length, take, drop, map, flat_map, get_or, refl, arith}
use Rattle.std.proofs.lemmas.List.{length-drop}
use Rattle.sql_read.specs.declared.definition.TableDef.{TableDef}
use Rattle.sql_types.specs.Catalog.{findings, table_findings, tables_twice, too_many_columns, too_many_tables}

both_empty : {X : Type 0} (a b : List X) → a ++ b ≡ [] → (a ≡ []) × (b ≡ [])
both_empty [] b e = (refl, e)
both_empty (x ∷ a) b e = absurd (cc)

one_empty : {X Y : Type 0} (f : X → List Y) (xs : List X) (i : ℕ) (d : X) → flat_map f xs ≡ [] → i < length xs → f (get_or xs i d) ≡ []
one_empty f [] i d e h = absurd (omega arith)
one_empty f (x ∷ xs) zero d e h = (both_empty (f x) (flat_map f xs) e).0
one_empty f (x ∷ xs) (suc i) d e h = one_empty f xs i d (both_empty (f x) (flat_map f xs) e).1 (omega arith)

one_at_least : {X Y : Type 0} (f : X → Y) (xs : List X) → map f (take 1 xs) ≡ [] → length xs ≡ 0
one_at_least f [] e = refl
one_at_least f (x ∷ xs) e = absurd (cc)

few_of : (t : TableDef) → too_many_columns t ≡ [] → length t.columns ≤ 64
few_of t e = omega (arith, one_at_least _ (drop 64 t.columns) e, length-drop 64 t.columns)

-- nothing is wrong within a table of a catalog
pub findings_at : (defs : List TableDef) (i : ℕ) (d : TableDef) → findings defs ≡ [] → i < length defs → table_findings (get_or defs i d) ≡ []
unfolding findings
findings_at defs i d e h =
    let all = (both_empty (tables_twice defs) (flat_map table_findings defs) (both_empty (too_many_tables defs) _ e).1).1 in
    one_empty table_findings defs i d all h

-- each table of a catalog has at most 64 columns
pub few_columns : (defs : List TableDef) (i : ℕ) (d : TableDef) → findings defs ≡ [] → i < length defs → length (get_or defs i d).columns ≤ 64
unfolding table_findings
few_columns defs i d e h = few_of (get_or defs i d) (both_empty (too_many_columns (get_or defs i d)) _ (findings_at defs i d e h)).0

-- a catalog has at most 16 tables
pub few_tables : (defs : List TableDef) → findings defs ≡ [] → length defs ≤ 16
unfolding findings
few_tables defs e = omega (arith, one_at_least _ (drop 16 defs) (both_empty (too_many_tables defs) _ e).0, length-drop 16 defs)

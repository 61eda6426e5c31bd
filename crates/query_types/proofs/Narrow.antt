-- Every catalog has at most 16 tables of at most 64 columns.
use Rattle.std.proofs.Common.{◌≡◌, ℕ, zero, suc, ◌≤◌, List, [], ◌∷◌, ◌++◌, take, drop, map, length, refl, arith}
use Rattle.std.specs.Prelude.{All, flat_map}
use Rattle.std.proofs.lemmas.List.Elements.{All-nil, All-cons}
use Rattle.sql_read.specs.declared.definition.TableDef.{TableDef}
use Rattle.sql_types.specs.declared.refusal.SchemaKind.TheVariants.{TooManyTables, TooManyColumns}
use Rattle.sql_types.specs.declared.finding.Finding.{Finding}
use Rattle.sql_types.specs.Findings.{found}
use Rattle.sql_types.specs.Catalog.{findings, table_findings, tables_twice, columns_twice, two_keys, keys_unknown, bad_widths}
use Rattle.query_types.specs.Names.{IsNarrow}

front-nil : {X : Type 0} (xs ys : List X) → xs ++ ys ≡ [] → xs ≡ []
front-nil [] ys e = refl
front-nil (x ∷ xs) ys e = absurd (cc)

back-nil : {X : Type 0} (xs ys : List X) → xs ++ ys ≡ [] → ys ≡ []
back-nil [] ys e = e
back-nil (x ∷ xs) ys e = absurd (cc)

-- what has no (n+1)-th element has at most n
short : {X : Type 0} (f : X → Finding) (n : ℕ) (xs : List X) → map f (take 1 (drop n xs)) ≡ [] → length xs ≤ n
short f n [] e = omega arith
short f zero (x ∷ xs) e = absurd (cc)
short f (suc n) (x ∷ xs) e = let below : length xs ≤ n = short f n xs e in omega arith

few-columns : (t : TableDef) → table_findings t ≡ [] → length t.columns ≤ 64
unfolding table_findings
few-columns t e = short (λ c. found TooManyColumns c.at) 64 t.columns (front-nil _ (columns_twice t ++ (two_keys t ++ (keys_unknown t ++ bad_widths t))) e)

all-few : (defs : List TableDef) → flat_map table_findings defs ≡ [] → All (λ t. length t.columns ≤ 64) defs
all-few [] e = All-nil (λ t. length t.columns ≤ 64)
all-few (t ∷ ts) e = All-cons (λ t. length t.columns ≤ 64) t ts (few-columns t (front-nil _ (flat_map table_findings ts) e)) (all-few ts (back-nil (table_findings t) _ e))

pub narrow : (defs : List TableDef) → findings defs ≡ [] → IsNarrow defs
unfolding findings
narrow defs e = (
  short (λ t. found TooManyTables t.at) 16 defs (front-nil _ (tables_twice defs ++ flat_map table_findings defs) e),
  all-few defs (back-nil (tables_twice defs) _ (back-nil (map (λ t. found TooManyTables t.at) (take 1 (drop 16 defs))) _ e)),
)

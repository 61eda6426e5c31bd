-- The columns of a catalog have the sizes that their kinds allow.
use Rattle.std.proofs.Common.{◌≡◌, ℕ, ◌≤◌, Bool, true, false, ◌||◌, List, [], ◌∷◌, ◌++◌, map, filter, flat_map, refl, arith}
use Rattle.std.specs.Prelude.{All, nat_lt}
use Rattle.std.proofs.lemmas.Bool.Decides.{nat_tests}
use Rattle.std.proofs.lemmas.List.Elements.{All-nil, All-cons}
use Rattle.sql_read.specs.declared.definition.ColumnKind.{ColumnKind}
use Rattle.sql_read.specs.declared.definition.ColumnKind.TheVariants as kind
use Rattle.sql_read.specs.declared.definition.ColumnDef.{ColumnDef}
use Rattle.sql_read.specs.declared.definition.TableDef.{TableDef}
use Rattle.sql_types.specs.Catalog as catalog
use Rattle.sql_types.specs.Catalog.{findings, table_findings, bad_width}
use Rattle.sql_types.specs.Widths.{is_outside, is_bad_size, is_bad_scale, is_bad_width, IsSizedAs, IsSized}

back-nil : {X : Type 0} (xs ys : List X) → xs ++ ys ≡ [] → ys ≡ []
back-nil [] ys e = e
back-nil (x ∷ xs) ys e = absurd (cc)

front-nil : {X : Type 0} (xs ys : List X) → xs ++ ys ≡ [] → xs ≡ []
front-nil [] ys e = refl
front-nil (x ∷ xs) ys e = absurd (cc)

sized_as : (k : ColumnKind) (width scale : ℕ) → (is_bad_size k width || is_bad_scale k width scale) ≡ false → IsSizedAs k width scale
sized_as kind.Integer width scale h = tt
sized_as kind.Date width scale h = tt
sized_as kind.Text width scale h = by_width width h
  where
    by_width : (n : ℕ) → (is_outside 1 255 n || false) ≡ false → (1 ≤ n) × (n ≤ 255)
    by_width n h = grind (arith, nat_tests)
sized_as kind.Decimal precision scale h = by_numbers precision scale h
  where
    by_numbers : (p s : ℕ) → (is_outside 1 18 p || nat_lt p s) ≡ false → (1 ≤ p) × (p ≤ 18) × (s ≤ p)
    by_numbers p s h = grind (arith, nat_tests)

sized_columns : (cs : List ColumnDef) → map bad_width (filter is_bad_width cs) ≡ [] → All IsSized cs
sized_columns [] e = All-nil IsSized
sized_columns (c ∷ cs) e = by_test (is_bad_width c) refl e (λ none. sized_columns cs none)
  where
    by_test : (b : Bool) → is_bad_width c ≡ b → map bad_width (filter is_bad_width (c ∷ cs)) ≡ [] → (map bad_width (filter is_bad_width cs) ≡ [] → All IsSized cs) → All IsSized (c ∷ cs)
    by_test true w h rest = let some : bad_width c ∷ map bad_width (filter is_bad_width cs) ≡ [] = rw w at h in absurd (cc)
    by_test false w h rest = All-cons IsSized c cs (sized_as c.kind c.width c.scale w) (rest (rw w at h))

-- of one table
pub sized_table : (t : TableDef) → table_findings t ≡ [] → All IsSized t.columns
unfolding table_findings
sized_table t e =
    sized_columns t.columns
    (back-nil (catalog.keys_unknown t) _ (back-nil (catalog.two_keys t) _ (back-nil (catalog.columns_twice t) _ (back-nil (catalog.too_many_columns t) _ e))))

sized_tables : (defs : List TableDef) → flat_map table_findings defs ≡ [] → All (λ t. All IsSized t.columns) defs
sized_tables [] e = All-nil (λ t. All IsSized t.columns)
sized_tables (t ∷ ts) e = All-cons (λ t. All IsSized t.columns) t ts (sized_table t (front-nil _ (flat_map table_findings ts) e)) (sized_tables ts (back-nil (table_findings t) _ e))

pub sized : (defs : List TableDef) → findings defs ≡ [] → All (λ t. All IsSized t.columns) defs
unfolding findings
sized defs e = sized_tables defs (back-nil (catalog.tables_twice defs) _ (back-nil (catalog.too_many_tables defs) _ e))

-- The columns that names mean have the scales of their definitions.
use Rattle.std.proofs.Common.{◌≡◌, ℕ, zero, suc, Bool, true, false, not, List, [], ◌∷◌, Option, Some, None, Ok, if◌then◌else◌, refl, subst}
use Rattle.std.specs.Prelude.{All, option_to_list}
use Rattle.std.specs.Str.{bytes_eq}
use Rattle.std.proofs.lemmas.List.Elements.{All-nil, All-cons, All-head, All-tail, All-append}
use Rattle.sql_read.specs.declared.definition.ColumnDef.{ColumnDef}
use Rattle.sql_read.specs.declared.definition.TableDef.{TableDef}
use Rattle.sql_types.specs.Catalog.{is_column_named}
use Rattle.query_trees.specs.declared.expr.ColumnName.{ColumnName}
use Rattle.typed_trees.proofs.Inversions.{some_same}
use Rattle.query_types.specs.declared.refusal.TypeKind.TheVariants.{NotGrouped}
use Rattle.query_types.specs.declared.scope.Called.{Called}
use Rattle.query_types.specs.declared.scope.Found.{Found}
use Rattle.query_types.specs.declared.stars.Starred.{Starred}
use Rattle.query_types.specs.Grouping.{starred, table_columns, every_column}
use Rattle.query_types.specs.Names.{Scope, columns_of, found, in_columns, column_in, holders, only, bare, or_unknown, in_table, qualified, resolved_by, resolved, may_stand, standing, column}
use Rattle.query_types.proofs.OutcomeLaws.{ok_same, then_ok, not_refused}
use Rattle.written_queries.specs.Scales.{IsScaledAs, HasScales}

abbrev Scaled : ColumnDef → Type 0
Scaled c = IsScaledAs c.kind c.scale

abbrev pub IsScaled : Found → Type 0
IsScaled f = IsScaledAs f.type_.kind f.type_.scale

abbrev pub IsScaledStar : Starred → Type 0
IsScaledStar f = IsScaledAs f.type_.kind f.type_.scale

columns_scaled : (defs : List TableDef) (n : ℕ) → HasScales defs → All Scaled (columns_of defs n)
columns_scaled [] n h = All-nil Scaled
columns_scaled (t ∷ defs) zero h = All-head (λ (x : TableDef). All Scaled x.columns) t defs h
columns_scaled (t ∷ defs) (suc n) h = columns_scaled defs n (All-tail (λ (x : TableDef). All Scaled x.columns) t defs h)

-- ---- by name

in_columns_scaled : (name : List ℕ) (s k : ℕ) (cs : List ColumnDef) (f : Found) → All Scaled cs → in_columns name s k cs ≡ Some f → IsScaled f
in_columns_scaled name s k [] f h e = absurd (cc)
in_columns_scaled name s k (c ∷ cs) f h e = by (is_column_named name c) (in_columns_scaled name s (suc k) cs f (All-tail Scaled c cs h)) e
  where
    by : (b : Bool) → (in_columns name s (suc k) cs ≡ Some f → IsScaled f) → (if b then Some (found s k c) else in_columns name s (suc k) cs) ≡ Some f → IsScaled f
    by true later e = subst IsScaled (some_same (found s k c) f e) (All-head Scaled c cs h)
    by false later e = later e

module _ (defs : List TableDef) (h : HasScales defs) where
  column_scaled : (name : List ℕ) (s : ℕ) (t : Called) (f : Found) → column_in defs name s t ≡ Some f → IsScaled f
  unfolding column_in
  column_scaled name s t f e = in_columns_scaled name s 0 (columns_of defs t.table) f (columns_scaled defs t.table h) e

  holders_scaled : (name : List ℕ) (s : ℕ) (ts : List Called) → All IsScaled (holders defs name s ts)
  holders_scaled name s [] = All-nil IsScaled
  holders_scaled name s (t ∷ ts) = All-append IsScaled (option_to_list (column_in defs name s t)) (holders defs name (suc s) ts) (by (column_in defs name s t) refl) (holders_scaled name (suc s) ts)
    where
      by : (o : Option Found) → column_in defs name s t ≡ o → All IsScaled (option_to_list o)
      by None e = All-nil IsScaled
      by (Some f) e = All-cons IsScaled f [] (column_scaled name s t f e) (All-nil IsScaled)

  only_scaled : (at : ℕ) (fs : List Found) (f : Found) → All IsScaled fs → only at fs ≡ Ok f → IsScaled f
  only_scaled at [] f all e = absurd (cc)
  only_scaled at (g ∷ []) f all e = subst IsScaled (ok_same g f e) (All-head IsScaled g [] all)
  only_scaled at (g ∷ i ∷ more) f all e = absurd (cc)

  known_scaled : (at : ℕ) (o : Option Found) (f : Found) → ((g : Found) → o ≡ Some g → IsScaled g) → or_unknown at o ≡ Ok f → IsScaled f
  known_scaled at (Some g) f has e = subst IsScaled (ok_same g f e) (has g refl)
  known_scaled at None f has e = absurd (cc)

  table_scaled : (c : ColumnName) (q : List ℕ) (s : ℕ) (ts : List Called) (f : Found) → in_table defs c q s ts ≡ Ok f → IsScaled f
  table_scaled c q s [] f e = absurd (cc)
  table_scaled c q s (t ∷ ts) f e = by (bytes_eq t.name q) (table_scaled c q (suc s) ts f) e
    where
      by : (b : Bool) → (in_table defs c q (suc s) ts ≡ Ok f → IsScaled f) → (if b then or_unknown c.name_at (column_in defs c.name s t) else in_table defs c q (suc s) ts) ≡ Ok f → IsScaled f
      by true later e = known_scaled c.name_at (column_in defs c.name s t) f (column_scaled c.name s t) e
      by false later e = later e

  resolved_scaled : (tables : List Called) (c : ColumnName) (f : Found) → resolved defs tables c ≡ Ok f → IsScaled f
  unfolding resolved bare qualified
  resolved_scaled tables c f e = by c.table e
    where
      by : (o : Option (List ℕ)) → resolved_by defs tables c o ≡ Ok f → IsScaled f
      by None e = only_scaled c.name_at (holders defs c.name 0 tables) f (holders_scaled c.name 0 tables) e
      by (Some q) e = table_scaled c q 0 tables f e

  -- ---- the columns of `*`

  table_stars : (s k : ℕ) (cs : List ColumnDef) → All Scaled cs → All IsScaledStar (table_columns s k cs)
  table_stars s k [] all = All-nil IsScaledStar
  table_stars s k (c ∷ cs) all = All-cons IsScaledStar (starred s k c) (table_columns s (suc k) cs) (All-head Scaled c cs all) (table_stars s (suc k) cs (All-tail Scaled c cs all))

  pub stars_scaled : (s : ℕ) (ts : List Called) → All IsScaledStar (every_column defs s ts)
  stars_scaled s [] = All-nil IsScaledStar
  stars_scaled s (t ∷ ts) = All-append IsScaledStar (table_columns s 0 (columns_of defs t.table)) (every_column defs (suc s) ts) (table_stars s 0 (columns_of defs t.table) (columns_scaled defs t.table h)) (stars_scaled (suc s) ts)

pub named_scaled : (s : Scope) (c : ColumnName) (f : Found) → HasScales s.defs → column s c ≡ Ok f → IsScaled f
unfolding column standing
named_scaled s c f h e =
    let x = then_ok (resolved s.defs s.tables c) (standing s c.at) f e in
    let y = not_refused (not (may_stand s.level s.groups x.0.column)) NotGrouped c.at (Ok x.0) f x.2 in
    subst IsScaled (ok_same x.0 f y.1) (resolved_scaled s.defs h s.tables c x.0 x.1)

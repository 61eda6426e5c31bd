-- The columns that names mean are those of the catalog.
use Rattle.std.proofs.Common.{◌≡◌, ℕ, suc, ◌+◌, Bool, true, false, not, List, [], ◌∷◌, map, Option, Some, None, Ok, if◌then◌else◌, refl, sym, ap, ◌∙◌, subst, arith}
use Rattle.std.specs.Prelude.{All, option_to_list}
use Rattle.std.specs.List.{slice_get}
use Rattle.std.specs.Option.{option_map, option_and_then}
use Rattle.std.specs.Str.{bytes_eq}
use Rattle.std.proofs.lemmas.Option.{slice_get-map}
use Rattle.std.proofs.lemmas.Slice.Eq.{bytes_eq-Decides}
use Rattle.std.proofs.lemmas.List.Elements.{All-nil, All-cons, All-head, All-append}
use Rattle.sql_read.specs.declared.definition.ColumnDef.{ColumnDef}
use Rattle.sql_read.specs.declared.definition.TableDef.{TableDef}
use Rattle.sql_types.specs.Catalog.{is_column_named}
use Rattle.query_trees.specs.declared.expr.ColumnName.{ColumnName}
use Rattle.typed_trees.specs.declared.typed.ColumnRef.{ColumnRef}
use Rattle.typed_trees.specs.declared.typed.ColumnType.{ColumnType}
use Rattle.query_types.specs.declared.refusal.TypeKind.TheVariants.{NotGrouped}
use Rattle.query_types.specs.declared.scope.Called.{Called}
use Rattle.query_types.specs.declared.scope.Found.{Found}
use Rattle.query_types.specs.declared.stars.Starred.{Starred}
use Rattle.query_types.specs.Grouping.{starred, table_columns, every_column}
use Rattle.query_types.specs.Names.{Scope, columns_of, column_ref, type_of_column, found, in_columns, column_in, holders, only, bare, or_unknown, in_table, qualified, resolved_by, resolved, may_stand, standing, column}
use Rattle.query_types.proofs.OutcomeLaws.{ok_same, then_ok, not_refused}
use Rattle.typed_trees.proofs.Inversions.{some_same}
use Rattle.typing_laws.specs.Laws.{column_at}
use Rattle.typing_laws.proofs.Lists.{not_false, Behind, behind_none, behind_first, behind_rest}

-- the places of the tables of FROM in the catalog
abbrev pub places : List Called → List ℕ
places tables = map (λ t. t.table) tables

abbrev pub IsFound : List TableDef → List Called → Found → Type 0
IsFound defs tables f = column_at defs (places tables) f.column ≡ Some f.type_

abbrev pub IsStarred : List TableDef → List Called → Starred → Type 0
IsStarred defs tables f = column_at defs (places tables) f.column ≡ Some f.type_

place_of : (tables : List Called) (s : ℕ) (t : Called) → slice_get tables s ≡ Some t → slice_get (places tables) s ≡ Some t.table
place_of tables s t e = slice_get-map (λ (x : Called). x.table) tables s ∙ ap (option_map (λ (x : Called). x.table)) e

-- a column of the s-th table
at_place : (defs : List TableDef) (tables : List Called) (a : ColumnRef) (t : Called) (c : ColumnDef) → slice_get tables a.source ≡ Some t → slice_get (columns_of defs t.table) a.column ≡ Some c → column_at defs (places tables) a ≡ Some (type_of_column c)
at_place defs tables a t c e is =
    ap (λ o. option_map type_of_column (option_and_then (λ table. slice_get (columns_of defs table) a.column) o)) (place_of tables a.source t e)
    ∙ ap (option_map type_of_column) is

-- ---- by name

-- a column of this name, in one of the tables
pub record IsNamed (defs : List TableDef) (tables : List Called) (name : List ℕ) (f : Found) : Type 0 where
  pub table : Called
  pub def : ColumnDef
  pub stands : slice_get tables f.column.source ≡ Some table
  pub is : slice_get (columns_of defs table.table) f.column.column ≡ Some def
  pub has_name : def.name ≡ name
  pub type : type_of_column def ≡ f.type_

pub named_found : (defs : List TableDef) (tables : List Called) (name : List ℕ) (f : Found) → IsNamed defs tables name f → IsFound defs tables f
named_found defs tables name f h = at_place defs tables f.column h.table h.def h.stands h.is ∙ ap (λ (t : ColumnType). Some t) h.type

record InColumns (name : List ℕ) (s k : ℕ) (cs : List ColumnDef) (f : Found) : Type 0 where
  at : ℕ
  def : ColumnDef
  is : slice_get cs at ≡ Some def
  has_name : def.name ≡ name
  same : found s (k + at) def ≡ f

in_columns_found : (name : List ℕ) (s k : ℕ) (cs : List ColumnDef) (f : Found) → in_columns name s k cs ≡ Some f → InColumns name s k cs f
in_columns_found name s k [] f e = absurd (cc)
in_columns_found name s k (c ∷ cs) f e = by (is_column_named name c) refl (in_columns_found name s (suc k) cs f) e
  where
    by : (b : Bool) → is_column_named name c ≡ b → (in_columns name s (suc k) cs ≡ Some f → InColumns name s (suc k) cs f) → (if b then Some (found s k c) else in_columns name s (suc k) cs) ≡ Some f → InColumns name s k (c ∷ cs) f
    by true named later e =
        let n : k + 0 ≡ k = omega arith in
        record { at = 0; def = c; is = refl; has_name = (bytes_eq-Decides c.name name).0 named; same = ap (λ n. found s n c) n ∙ some_same (found s k c) f e }
    by false named later e =
        let r = later e in
        let n : k + suc r.at ≡ suc k + r.at = omega arith in
        record { at = suc r.at; def = r.def; is = r.is; has_name = r.has_name; same = ap (λ n. found s n r.def) n ∙ r.same }

column_named : (defs : List TableDef) (tables : List Called) (name : List ℕ) (s : ℕ) (t : Called) (f : Found) → slice_get tables s ≡ Some t → column_in defs name s t ≡ Some f → IsNamed defs tables name f
unfolding column_in
column_named defs tables name s t f stands e =
    let r = in_columns_found name s 0 (columns_of defs t.table) f e in
    let n : 0 + r.at ≡ r.at = omega arith in
    subst (λ (x : Found). IsNamed defs tables name x) (ap (λ n. found s n r.def) (sym n) ∙ r.same) record { table = t; def = r.def; stands = stands; is = r.is; has_name = r.has_name; type = refl }

holders_named : (defs : List TableDef) (tables : List Called) (name : List ℕ) (s : ℕ) (ts : List Called) → Behind tables s ts → All (IsNamed defs tables name) (holders defs name s ts)
holders_named defs tables name s [] h = All-nil (IsNamed defs tables name)
holders_named defs tables name s (t ∷ ts) h =
    All-append (IsNamed defs tables name) (option_to_list (column_in defs name s t)) (holders defs name (suc s) ts)
    (by (column_in defs name s t) refl)
    (holders_named defs tables name (suc s) ts (behind_rest tables s t ts h))
  where
    by : (o : Option Found) → column_in defs name s t ≡ o → All (IsNamed defs tables name) (option_to_list o)
    by None e = All-nil (IsNamed defs tables name)
    by (Some f) e = All-cons (IsNamed defs tables name) f [] (column_named defs tables name s t f (behind_first tables s t ts h) e) (All-nil (IsNamed defs tables name))

only_named : (defs : List TableDef) (tables : List Called) (name : List ℕ) (at : ℕ) (fs : List Found) (f : Found) → All (IsNamed defs tables name) fs → only at fs ≡ Ok f → IsNamed defs tables name f
only_named defs tables name at [] f all e = absurd (cc)
only_named defs tables name at (g ∷ []) f all e = subst (λ (x : Found). IsNamed defs tables name x) (ok_same g f e) (All-head (IsNamed defs tables name) g [] all)
only_named defs tables name at (g ∷ h ∷ more) f all e = absurd (cc)

known : (at : ℕ) (o : Option Found) (f : Found) → or_unknown at o ≡ Ok f → o ≡ Some f
known at (Some g) f e = ap (λ (x : Found). Some x) (ok_same g f e)
known at None f e = absurd (cc)

table_named : (defs : List TableDef) (tables : List Called) (c : ColumnName) (q : List ℕ) (s : ℕ) (ts : List Called) (f : Found) → Behind tables s ts → in_table defs c q s ts ≡ Ok f → IsNamed defs tables c.name f
table_named defs tables c q s [] f h e = absurd (cc)
table_named defs tables c q s (t ∷ ts) f h e = by (bytes_eq t.name q) (table_named defs tables c q (suc s) ts f (behind_rest tables s t ts h)) e
  where
    by : (b : Bool) → (in_table defs c q (suc s) ts ≡ Ok f → IsNamed defs tables c.name f) → (if b then or_unknown c.name_at (column_in defs c.name s t) else in_table defs c q (suc s) ts) ≡ Ok f → IsNamed defs tables c.name f
    by true later e = column_named defs tables c.name s t f (behind_first tables s t ts h) (known c.name_at (column_in defs c.name s t) f e)
    by false later e = later e

pub resolved_named : (defs : List TableDef) (tables : List Called) (c : ColumnName) (f : Found) → resolved defs tables c ≡ Ok f → IsNamed defs tables c.name f
unfolding resolved bare qualified
resolved_named defs tables c f e = by c.table e
  where
    by : (o : Option (List ℕ)) → resolved_by defs tables c o ≡ Ok f → IsNamed defs tables c.name f
    by None e = only_named defs tables c.name c.name_at (holders defs c.name 0 tables) f (holders_named defs tables c.name 0 tables (behind_none tables)) e
    by (Some q) e = table_named defs tables c q 0 tables f (behind_none tables) e

pub resolved_found : (defs : List TableDef) (tables : List Called) (c : ColumnName) (f : Found) → resolved defs tables c ≡ Ok f → IsFound defs tables f
resolved_found defs tables c f e = named_found defs tables c.name f (resolved_named defs tables c f e)

-- a column that may stand is the one that was found
standing_same : (s : Scope) (at : ℕ) (f g : Found) → standing s at f ≡ Ok g → f ≡ g
unfolding standing
standing_same s at f g e = ok_same f g (not_refused (not (may_stand s.level s.groups f.column)) NotGrouped at (Ok f) g e).1

-- a column of the scope: on a group, one of its columns
pub record IsStanding (s : Scope) (x : ColumnRef × ColumnType) : Type 0 where
  pub declared : column_at s.defs (places s.tables) x.0 ≡ Some x.1
  pub may : may_stand s.level s.groups x.0 ≡ true

-- a column that was found, and then may stand
pub found_stands : (s : Scope) (at : ℕ) (f g : Found) → IsFound s.defs s.tables f → standing s at f ≡ Ok g → IsStanding s (f.column, f.type_)
unfolding standing
found_stands s at f g h e = record { declared = h; may = not_false (may_stand s.level s.groups f.column) (not_refused (not (may_stand s.level s.groups f.column)) NotGrouped at (Ok f) g e).0 }

pub column_stands : (s : Scope) (c : ColumnName) (f : Found) → column s c ≡ Ok f → IsStanding s (f.column, f.type_)
unfolding column
column_stands s c f e =
    let x = then_ok (resolved s.defs s.tables c) (standing s c.at) f e in
    subst (λ (g : Found). IsStanding s (g.column, g.type_)) (standing_same s c.at x.0 f x.2) (found_stands s c.at x.0 f (resolved_found s.defs s.tables c x.0 x.1) x.2)

-- ---- `*`

table_starred : (defs : List TableDef) (tables : List Called) (s k : ℕ) (t : Called) (cs : List ColumnDef) → slice_get tables s ≡ Some t → Behind (columns_of defs t.table) k cs → All (IsStarred defs tables) (table_columns s k cs)
table_starred defs tables s k t [] e h = All-nil (IsStarred defs tables)
table_starred defs tables s k t (c ∷ cs) e h =
    All-cons (IsStarred defs tables) (starred s k c) (table_columns s (suc k) cs)
    (at_place defs tables (column_ref s k) t c e (behind_first (columns_of defs t.table) k c cs h))
    (table_starred defs tables s (suc k) t cs e (behind_rest (columns_of defs t.table) k c cs h))

every_starred : (defs : List TableDef) (tables : List Called) (s : ℕ) (ts : List Called) → Behind tables s ts → All (IsStarred defs tables) (every_column defs s ts)
every_starred defs tables s [] h = All-nil (IsStarred defs tables)
every_starred defs tables s (t ∷ ts) h =
    All-append (IsStarred defs tables) (table_columns s 0 (columns_of defs t.table)) (every_column defs (suc s) ts)
    (table_starred defs tables s 0 t (columns_of defs t.table) (behind_first tables s t ts h) (behind_none (columns_of defs t.table)))
    (every_starred defs tables (suc s) ts (behind_rest tables s t ts h))

pub starred_found : (defs : List TableDef) (tables : List Called) → All (IsStarred defs tables) (every_column defs 0 tables)
starred_found defs tables = every_starred defs tables 0 tables (behind_none tables)

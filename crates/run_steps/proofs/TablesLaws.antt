-- The tables of some definitions, one after the other.
use Rattle.std.proofs.Common.{◌≡◌, ℕ, suc, ◌+◌, ◌<◌, ◌≤◌, List, [], ◌∷◌, ◌++◌, length, take, drop, get_or, map, inl, inr, refl, ap, sym, ◌∙◌, arith}
use Rattle.std.specs.Prelude.{Option, Some, None, Ok, Err, IfSome, ◌⊎◌}
use Rattle.std.proofs.lemmas.Option.{slice_get-get_or}
use Rattle.std.proofs.lemmas.List.{drop_more, map-append, take_more, take-append-drop, length-take-le}
use Rattle.std.proofs.Math.Nat.{min-le_left, min-le_right, le-min}
use Rattle.io_edge.specs.Faults.{Rose, next_count, last_count}
use Rattle.io_edge.specs.Shelves.{FileMap, Lacks}
use Rattle.sql_read.specs.declared.definition.TableDef.{TableDef}
use Rattle.table_load.specs.Values.{Table as TableValue}
use Rattle.run_steps.specs.declared.status.FileRole.TheVariants.{Table}
use Rattle.run_steps.specs.declared.status.Status.{Status}
use Rattle.run_steps.specs.declared.status.Status.TheVariants.{Done, Usage, ReadFault, WriteFault, SchemaRefused, DataRefused, QueryRefused, AlgebraRefused, LimitReached, Overflow, NotYet, NoMemory}
use Rattle.run_steps.specs.Inputs.{HasFileCause}
use Rattle.run_steps.specs.Paths.{table_file}
use Rattle.run_steps.specs.TableFaults.{HasTableFault, HasTablesCause}
use Rattle.run_steps.specs.Outcomes.{Outcome, Meets, ◌>>=◌}
use Rattle.run_steps.specs.Steps.{table_in, tables_from}

-- a table, and then others
abbrev first_then : Outcome TableValue → Outcome (List TableValue) → Outcome (List TableValue)
first_then o p = o >>= λ t. p >>= λ ts. Ok (t ∷ ts)

tables_from-cons : (files : FileMap) (schema : List ℕ) (k : ℕ) (def : TableDef) (defs : List TableDef) → tables_from files schema k (def ∷ defs) ≡ first_then (table_in files schema k def) (tables_from files schema (k + 1) defs)
unfolding tables_from
tables_from-cons files schema k def defs = refl

pub tables_from-nil : (files : FileMap) (schema : List ℕ) (k : ℕ) → tables_from files schema k [] ≡ Ok []
unfolding tables_from
tables_from-nil files schema k = refl

record Parts (o : Outcome TableValue) (p : Outcome (List TableValue)) (ts : List TableValue) : Type 0 where
  first : TableValue
  others : List TableValue
  first_is : o ≡ Ok first
  others_are : p ≡ Ok others
  all : ts ≡ first ∷ others

parts : (o : Outcome TableValue) (p : Outcome (List TableValue)) (ts : List TableValue) → first_then o p ≡ Ok ts → Parts o p ts
parts (Err e) p ts h = cc
parts (Ok t) (Err e) ts h = cc
parts (Ok t) (Ok us) ts h = record { first = t; others = us; first_is = refl; others_are = refl; all = cc }

-- one more table that is there
pub tables_more : (files : FileMap) (schema : List ℕ) (k : ℕ) (before : List TableDef) (def : TableDef) (ts : List TableValue) (t : TableValue) → tables_from files schema k before ≡ Ok ts
    → table_in files schema (k + length before) def ≡ Ok t → tables_from files schema k (before ++ def ∷ []) ≡ Ok (ts ++ t ∷ [])
tables_more files schema k [] def ts t h here =
    let start : k + 0 ≡ k = omega arith in
    let none : ◌≡◌ {A = Outcome (List TableValue)} (Ok []) (Ok ts) = sym (tables_from-nil files schema k) ∙ h in
    let first : table_in files schema k def ≡ Ok t = ap (λ n. table_in files schema n def) (sym start) ∙ here in
    tables_from-cons files schema k def [] ∙ rw (first, tables_from-nil files schema (k + 1)) cc
tables_more files schema k (d ∷ before) def ts t h here =
    let p = parts (table_in files schema k d) (tables_from files schema (k + 1) before) ts (sym (tables_from-cons files schema k d before) ∙ h) in
    let on : k + suc (length before) ≡ k + 1 + length before = omega arith in
    let there : table_in files schema (k + 1 + length before) def ≡ Ok t = ap (λ n. table_in files schema n def) (sym on) ∙ here in
    let rest = tables_more files schema (k + 1) before def p.others t p.others_are there in
    tables_from-cons files schema k d (before ++ def ∷ []) ∙ rw (p.first_is, rest) (ap (λ (l : List TableValue). Ok (l ++ t ∷ [])) (sym p.all))

-- one more that is not
pub tables_stop : (files : FileMap) (schema : List ℕ) (k : ℕ) (before : List TableDef) (def : TableDef) (rest : List TableDef) (ts : List TableValue) (status : Status) → tables_from files schema k before ≡ Ok ts
    → table_in files schema (k + length before) def ≡ Err status → tables_from files schema k (before ++ def ∷ rest) ≡ Err status
tables_stop files schema k [] def rest ts status h here =
    let start : k + 0 ≡ k = omega arith in
    let first : table_in files schema k def ≡ Err status = ap (λ n. table_in files schema n def) (sym start) ∙ here in
    tables_from-cons files schema k def rest ∙ rw first refl
tables_stop files schema k (d ∷ before) def rest ts status h here =
    let p = parts (table_in files schema k d) (tables_from files schema (k + 1) before) ts (sym (tables_from-cons files schema k d before) ∙ h) in
    let on : k + suc (length before) ≡ k + 1 + length before = omega arith in
    let there : table_in files schema (k + 1 + length before) def ≡ Err status = ap (λ n. table_in files schema n def) (sym on) ∙ here in
    let later = tables_stop files schema (k + 1) before def rest p.others status p.others_are there in
    tables_from-cons files schema k d (before ++ def ∷ rest) ∙ rw (p.first_is, later) refl

-- ---- the same at a place among some definitions
length_before : (defs : List TableDef) (i : ℕ) → i < length defs → 1 + length (take i defs) ≡ i + 1
length_before defs i h = let all : length (take i defs) ≡ i = length-take-le i defs (omega (arith, h)) in omega (arith, all)

pub tables_more_at : (files : FileMap) (schema : List ℕ) (defs : List TableDef) (i : ℕ) (def : TableDef) (ts : List TableValue) (t : TableValue) → i < length defs → def ≡ get_or defs i def
    → tables_from files schema 1 (take i defs) ≡ Ok ts → table_in files schema (i + 1) def ≡ Ok t → tables_from files schema 1 (take (i + 1) defs) ≡ Ok (ts ++ t ∷ [])
tables_more_at files schema defs i def ts t within at h here =
    let there : table_in files schema (1 + length (take i defs)) def ≡ Ok t = ap (λ n. table_in files schema n def) (length_before defs i within) ∙ here in
    let more : take (i + 1) defs ≡ take i defs ++ def ∷ [] = take_more defs i def within ∙ ap (λ d. take i defs ++ d ∷ []) (sym at) in
    ap (tables_from files schema 1) more ∙ tables_more files schema 1 (take i defs) def ts t h there

pub tables_stop_at : (files : FileMap) (schema : List ℕ) (defs : List TableDef) (i : ℕ) (def : TableDef) (ts : List TableValue) (status : Status) → i < length defs → def ≡ get_or defs i def
    → tables_from files schema 1 (take i defs) ≡ Ok ts → table_in files schema (i + 1) def ≡ Err status → tables_from files schema 1 defs ≡ Err status
tables_stop_at files schema defs i def ts status within at h here =
    let there : table_in files schema (1 + length (take i defs)) def ≡ Err status = ap (λ n. table_in files schema n def) (length_before defs i within) ∙ here in
    let all : defs ≡ take i defs ++ def ∷ drop (i + 1) defs = sym (take-append-drop i defs) ∙ ap (λ l. take i defs ++ l) (drop_more defs i def within ∙ ap (λ d. d ∷ drop (i + 1) defs) (sym at)) in
    ap (tables_from files schema 1) all ∙ tables_stop files schema 1 (take i defs) def (drop (i + 1) defs) ts status h there

-- ---- where the shelf may tell its files

pub none_if_any : (holds : Option FileMap) (schema : List ℕ) (ts : List TableValue) → ts ≡ [] → IfSome holds (λ files. tables_from files schema 1 [] ≡ Ok ts)
none_if_any None schema ts h = tt
none_if_any (Some files) schema ts h = tables_from-nil files schema 1 ∙ ap (λ l. Ok l) (sym h)

pub more_if_any : (holds : Option FileMap) (schema : List ℕ) (defs : List TableDef) (i : ℕ) (def : TableDef) (ts : List TableValue) (t : TableValue) → i < length defs → def ≡ get_or defs i def
    → IfSome holds (λ files. tables_from files schema 1 (take i defs) ≡ Ok ts) → IfSome holds (λ files. table_in files schema (i + 1) def ≡ Ok t) → IfSome holds (λ files. tables_from files schema 1 (take (i + 1) defs) ≡ Ok (ts ++ t ∷ []))
more_if_any None schema defs i def ts t within at h here = tt
more_if_any (Some files) schema defs i def ts t within at h here = tables_more_at files schema defs i def ts t within at h here

pub stop_if_any : {B : Type 0} (seen : B → List TableValue) (holds : Option FileMap) (schema : List ℕ) (defs : List TableDef) (i : ℕ) (def : TableDef) (ts : List TableValue) (status : Status) → i < length defs → def ≡ get_or defs i def
    → IfSome holds (λ files. tables_from files schema 1 (take i defs) ≡ Ok ts) → IfSome holds (λ files. Meets (λ t. t) (Err status) (table_in files schema (i + 1) def)) → IfSome holds (λ files. Meets seen (Err status) (tables_from files schema 1 defs))
stop_if_any seen None schema defs i def ts status within at h here = tt
stop_if_any seen (Some files) schema defs i def ts status within at h (inl e) = inl (tables_stop_at files schema defs i def ts status within at h e)
stop_if_any seen (Some files) schema defs i def ts status within at h (inr e) = inr e

pub degrees_more : (defs : List TableDef) (i : ℕ) (def : TableDef) (ts : List TableValue) (t : TableValue) → i < length defs → def ≡ get_or defs i def → map (λ t. t.degree) ts ≡ map (λ d. length d.columns) (take i defs) → t.degree ≡ length def.columns
    → map (λ t. t.degree) (ts ++ t ∷ []) ≡ map (λ d. length d.columns) (take (i + 1) defs)
degrees_more defs i def ts t within at h here =
    let more : take (i + 1) defs ≡ take i defs ++ def ∷ [] = take_more defs i def within ∙ ap (λ d. take i defs ++ d ∷ []) (sym at) in
    map-append (λ t. t.degree) ts (t ∷ []) ∙ rw (h, here) refl ∙ sym (map-append (λ d. length d.columns) (take i defs) (def ∷ [])) ∙ ap (map (λ d. length d.columns)) (sym more)

-- ---- why the reading of one table may end without it: the reading of all may too
pub rose_earlier : (before middle now : ℕ) → before ≤ middle → Rose middle now → Rose before now
rose_earlier before middle now h r =
    let left = min-le_left (before + 1) last_count in
    let right = min-le_right (before + 1) last_count in
    let least : next_count before ≤ next_count middle = le-min {a = middle + 1} {b = last_count} (omega (arith, left, h)) right in
    omega (arith, least, r)

fault_of_none : (name : List ℕ) (before middle now : ℕ) → before ≤ middle → Rose middle now ⊎ Lacks None name → Rose before now
fault_of_none name before middle now later (inl r) = rose_earlier before middle now later r
fault_of_none name before middle now later (inr l) = absurd l

fault_of_some : (files : FileMap) (name : List ℕ) (before middle now : ℕ) → before ≤ middle → Rose middle now ⊎ Lacks (Some files) name → Rose before now ⊎ (files name ≡ None)
fault_of_some files name before middle now later (inl r) = inl (rose_earlier before middle now later r)
fault_of_some files name before middle now later (inr l) = inr l

fault_at : (holds : Option FileMap) (schema : List ℕ) (defs : List TableDef) (i before middle now : ℕ) (def : TableDef) (ts : List TableValue) → i < length defs → def ≡ get_or defs i def → before ≤ middle
    → IfSome holds (λ files. tables_from files schema 1 (take i defs) ≡ Ok ts) → Rose middle now ⊎ Lacks holds (table_file schema def.name) → HasTableFault holds schema defs before now (Table (i + 1))
fault_at None schema defs i before middle now def ts within at later h c = fault_of_none (table_file schema def.name) before middle now later c
fault_at (Some files) schema defs i before middle now def ts within at later h c = record {
  place = i;
  role_is = refl;
  def = def;
  def_is = slice_get-get_or defs i def within ∙ ap (λ d. Some d) (sym at);
  earlier = ts;
  earlier_are = h;
  cause = fault_of_some files (table_file schema def.name) before middle now later c;
}

pub table_fault : (holds : Option FileMap) (schema : List ℕ) (defs : List TableDef) (i before middle now : ℕ) (def : TableDef) (ts : List TableValue) (status : Status) → i < length defs → def ≡ get_or defs i def → before ≤ middle
    → IfSome holds (λ files. tables_from files schema 1 (take i defs) ≡ Ok ts) → HasFileCause holds (Table (i + 1)) (table_file schema def.name) middle now status → HasTablesCause holds schema defs before now status
table_fault holds schema defs i before middle now def ts Done within at later h c = absurd c
table_fault holds schema defs i before middle now def ts (Usage kind) within at later h c = absurd c
table_fault holds schema defs i before middle now def ts WriteFault within at later h c = absurd c
table_fault holds schema defs i before middle now def ts Overflow within at later h c = absurd c
table_fault holds schema defs i before middle now def ts NoMemory within at later h c = tt
table_fault holds schema defs i before middle now def ts (SchemaRefused place kind) within at later h c = tt
table_fault holds schema defs i before middle now def ts (QueryRefused place kind) within at later h c = tt
table_fault holds schema defs i before middle now def ts (AlgebraRefused line kind) within at later h c = tt
table_fault holds schema defs i before middle now def ts (DataRefused table at_record at_column kind) within at later h c = tt
table_fault holds schema defs i before middle now def ts (LimitReached what number) within at later h c = tt
table_fault holds schema defs i before middle now def ts (NotYet role) within at later h c = tt
table_fault holds schema defs i before middle now def ts (ReadFault role) within at later h c =
    rw c.0 ((omega arith, omega (arith, within)), fault_at holds schema defs i before middle now def ts within at later h c.1)

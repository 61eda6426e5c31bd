-- The rows of loaded tables: their values are of their columns' kinds, and their texts are few.
use Rattle.std.proofs.Common.{◌≡◌, ℕ, zero, suc, ◌*◌, ◌<◌, ◌≤◌, ◌^◌, ℤ, Bool, true, List, [], ◌∷◌, length, Some, refl, subst, arith, length-append}
use Rattle.std.specs.Prelude.{All, slice_get}
use Rattle.std.proofs.lemmas.List.Elements.{All-head, All-tail}
use Rattle.sql_read.specs.declared.definition.ColumnDef.{ColumnDef}
use Rattle.sql_read.specs.declared.definition.ColumnKind.{ColumnKind}
use Rattle.sql_read.specs.declared.definition.ColumnKind.TheVariants as kind
use Rattle.sql_read.specs.declared.definition.TableDef.{TableDef}
use Rattle.sql_values.specs.Values.{Value, number, text, truth, null}
use Rattle.table_load.specs.ColumnTypes.{FitsKind, FitsColumn, FitsColumns, ColumnsFit}
use Rattle.table_load.specs.Databases.{database_of, row_texts, rows_texts, tables_texts}
use Rattle.table_load.specs.Values.{Table, value_at}
use Rattle.table_load.proofs.Limits.{few_columns, few_tables}
use Rattle.typed_trees.specs.Kinds.{kind_of}
use Rattle.value_laws.specs.Laws.{is_of}
use Rattle.loaded_plans.specs.Laws.{AreLoaded}
use Rattle.lowered_stages.specs.Parts.{IsDatabase}
use Rattle.lowered_premises.specs.Sources.{texts_of}
use Rattle.lowered_premises.proofs.Dictionaries.{few_texts}

-- ---- kinds

number_of : (k : ColumnKind) (width : ℕ) (z : ℤ) → FitsKind k width (number z) → is_of (kind_of k) (number z) ≡ true
number_of kind.Integer width z h = refl
number_of kind.Decimal width z h = refl
number_of kind.Date width z h = refl
number_of kind.Text width z h = absurd h

text_of : (k : ColumnKind) (width : ℕ) (t : List ℕ) → FitsKind k width (text t) → is_of (kind_of k) (text t) ≡ true
text_of kind.Integer width t h = absurd h
text_of kind.Decimal width t h = absurd h
text_of kind.Date width t h = absurd h
text_of kind.Text width t h = refl

truth_of : (k : ColumnKind) (width : ℕ) (b : Bool) → FitsKind k width (truth b) → is_of (kind_of k) (truth b) ≡ true
truth_of kind.Integer width b h = absurd h
truth_of kind.Decimal width b h = absurd h
truth_of kind.Date width b h = absurd h
truth_of kind.Text width b h = absurd h

value_of : (def : TableDef) (c : ColumnDef) (v : Value) → FitsColumn def c v → is_of (kind_of c.kind) v ≡ true
value_of def c (number z) h = number_of c.kind c.width z h
value_of def c (text t) h = text_of c.kind c.width t h
value_of def c (truth b) h = truth_of c.kind c.width b h
value_of def c null h = refl

-- a row's value in a column's place
pub row_of : (def : TableDef) (cs : List ColumnDef) (row : List Value) (k : ℕ) (c : ColumnDef) → slice_get cs k ≡ Some c → FitsColumns def cs row → is_of (kind_of c.kind) (value_at k row) ≡ true
row_of def [] row k c at h = absurd cc
row_of def (d ∷ ds) [] k c at h = absurd h
row_of def (d ∷ ds) (v ∷ vs) zero c at h =
    let same : d ≡ c = cc in
    subst (λ (x : ColumnDef). is_of (kind_of x.kind) v ≡ true) same (value_of def d v h.0)
row_of def (d ∷ ds) (v ∷ vs) (suc k) c at h = row_of def ds vs k c at h.1

-- ---- tables

pub rows_fit : ColumnsFit → (defs : List TableDef) (ts : List Table) (n : ℕ) (def : TableDef) (t : Table) → AreLoaded defs ts → slice_get defs n ≡ Some def → slice_get ts n ≡ Some t → All (FitsColumns def def.columns) t.rows
rows_fit fit [] ts n def t h d a = absurd cc
rows_fit fit (x ∷ defs) [] n def t h d a = absurd h
rows_fit fit (x ∷ defs) (u ∷ ts) zero def t h d a =
    let same : x ≡ def = cc in
    let alike : u ≡ t = cc in
    subst (λ (y : TableDef). All (FitsColumns y y.columns) t.rows) same (subst (λ (v : Table). All (FitsColumns x x.columns) v.rows) alike (fit x h.0.bytes u h.0.read))
rows_fit fit (x ∷ defs) (u ∷ ts) (suc n) def t h d a = rows_fit fit defs ts n def t h.1 d a

-- ---- how many texts

row_few : (def : TableDef) (cs : List ColumnDef) (row : List Value) → FitsColumns def cs row → length (row_texts row) ≤ length cs
row_few def [] [] h = omega arith
row_few def [] (v ∷ vs) h = absurd h
row_few def (c ∷ cs) [] h = absurd h
row_few def (c ∷ cs) (number z ∷ vs) h = omega (arith, row_few def cs vs h.1)
row_few def (c ∷ cs) (text t ∷ vs) h = omega (arith, row_few def cs vs h.1)
row_few def (c ∷ cs) (truth b ∷ vs) h = omega (arith, row_few def cs vs h.1)
row_few def (c ∷ cs) (null ∷ vs) h = omega (arith, row_few def cs vs h.1)

rows_few : (def : TableDef) (cs : List ColumnDef) (rows : List (List Value)) → length cs ≤ 64 → All (FitsColumns def cs) rows → length (rows_texts rows) ≤ 64 * length rows
rows_few def cs [] few h = omega arith
rows_few def cs (r ∷ rows) few h =
    let first = row_few def cs r (All-head (FitsColumns def cs) r rows h) in
    let others = rows_few def cs rows few (All-tail (FitsColumns def cs) r rows h) in
    let both = length-append (row_texts r) (rows_texts rows) in
    omega (arith, first, others, both, few)

tables_few : ColumnsFit → (defs : List TableDef) (ts : List Table) → AreLoaded defs ts → All (λ d. length d.columns ≤ 64) defs → All (λ t. length t.rows ≤ 2 ^ 20) ts → length (tables_texts ts) ≤ 2 ^ 26 * length ts
tables_few fit [] [] h narrow short = omega arith
tables_few fit [] (t ∷ ts) h narrow short = absurd h
tables_few fit (d ∷ defs) [] h narrow short = absurd h
tables_few fit (d ∷ defs) (t ∷ ts) h narrow short =
    let first = rows_few d d.columns t.rows (All-head (λ (x : TableDef). length x.columns ≤ 64) d defs narrow) (fit d h.0.bytes t h.0.read) in
    let others = tables_few fit defs ts h.1 (All-tail (λ (x : TableDef). length x.columns ≤ 64) d defs narrow) (All-tail (λ (x : Table). length x.rows ≤ 2 ^ 20) t ts short) in
    let many = All-head (λ (x : Table). length x.rows ≤ 2 ^ 20) t ts short in
    let both = length-append (rows_texts t.rows) (tables_texts ts) in
    omega (arith, first, others, many, both)

pub texts_few : ColumnsFit → (defs : List TableDef) (ts : List Table) → AreLoaded defs ts → IsDatabase defs ts → length (texts_of defs ts) < 2 ^ 32
unfolding database_of
texts_few fit defs ts h is =
    let all = tables_few fit defs ts h (λ i d l. few_columns defs i d is.clean l) is.short in
    omega (arith, all, few_texts (tables_texts ts), few_tables defs is.clean, is.as_many)

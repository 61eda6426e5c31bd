-- How many texts a table has at most: 64 in each of its rows.
use Rattle.std.proofs.Common.{◌≡◌, ◌∙◌, ℕ, zero, suc, ◌+◌, ◌*◌, ◌<◌, ◌≤◌, ◌^◌, Bool, true, false, cond, Some, None, List, [], ◌∷◌, ◌++◌, length, get_or, sym, ap, arith, length-append}
use Rattle.std.specs.List.{All, list_any}
use Rattle.std.specs.Str.{bytes_eq}
use Rattle.std.proofs.lemmas.List.{get_or-map, length-map}
use Rattle.control_vectors.specs.Slots.{Slot}
use Rattle.sql_read.specs.declared.definition.TableDef.{TableDef}
use Rattle.sql_types.specs.Catalog.{findings}
use Rattle.table_load.specs.Databases.{row_texts, rows_texts}
use Rattle.table_load.specs.HeldColumns.{cells_at, IsHeld, note, noted, row_at, rows_held, rows_to, values_of}
use Rattle.table_load.specs.Values.{Table}
use Rattle.table_load.proofs.Limits.{few_columns, few_tables}
use Rattle.table_load.proofs.Rowwise.{rows_texts-more}
use Rattle.table_load.proofs.StoreFacts.{degrees, widths}

row_few : (texts : List (List ℕ)) (ks : List Bool) (zs : List Slot) → length (row_texts (values_of texts ks zs)) ≤ length ks
row_few texts [] zs = omega arith
row_few texts (k ∷ ks) [] = omega arith
row_few texts (k ∷ ks) (None ∷ zs) = omega (arith, row_few texts ks zs)
row_few texts (true ∷ ks) (Some z ∷ zs) = omega (arith, row_few texts ks zs)
row_few texts (false ∷ ks) (Some z ∷ zs) = omega (arith, row_few texts ks zs)

rows_few : (texts : List (List ℕ)) (ks : List Bool) (cs : List (List Slot)) (n : ℕ) → length ks ≤ 64 → length (rows_texts (rows_held texts ks cs n)) ≤ 64 * n
unfolding rows_to
rows_few texts ks cs zero h = omega arith
rows_few texts ks cs (suc n) h =
    let row = row_at texts ks cs n in
    let before = rows_few texts ks cs n h in
    let long : length (rows_texts (rows_held texts ks cs n ++ row ∷ [])) ≡ length (rows_texts (rows_held texts ks cs n)) + length (row_texts row) =
    ap length (rows_texts-more (rows_held texts ks cs n) row) ∙ length-append (rows_texts (rows_held texts ks cs n)) (row_texts row) in
    omega (arith, before, long, row_few texts ks (cells_at n cs), h)

note_few : (texts : List (List ℕ)) (t : List ℕ) → length (note texts t) ≤ length texts + 1
note_few texts t = by_test (list_any (bytes_eq t) texts)
  where
    by_test : (c : Bool) → length (cond c texts (texts ++ t ∷ [])) ≤ length texts + 1
    by_test true = omega arith
    by_test false = omega (arith, length-append texts (t ∷ []))

noted_few : (texts more : List (List ℕ)) → length (noted texts more) ≤ length texts + length more
unfolding noted
noted_few texts [] = omega arith
noted_few texts (t ∷ more) = omega (arith, noted_few (note texts t) more, note_few texts t)

pub held_few : (texts : List (List ℕ)) (ks : List Bool) (cs : List (List Slot)) (n : ℕ) → IsHeld texts ks cs n → length ks ≤ 64 → length texts ≤ 2 ^ 26
held_few texts ks cs n h few =
    omega (arith, ap length h.texts_are, noted_few [] (rows_texts (rows_held texts ks cs n)), rows_few texts ks cs n few, h.few)

-- the tables of a catalog are few, and so are their columns
pub loaded_few : (defs : List TableDef) (tables : List Table) → findings defs ≡ [] → degrees tables ≡ widths defs → length tables ≤ 16
loaded_few defs tables e same = omega (arith, few_tables defs e, ap length same, length-map tables (λ t. t.degree), length-map defs (λ d. length d.columns))

pub loaded_narrow : (defs : List TableDef) (tables : List Table) → findings defs ≡ [] → degrees tables ≡ widths defs → All (λ t. t.degree ≤ 64) tables
loaded_narrow [] tables e same i d l = absurd (omega (arith, l, ap length same, length-map tables (λ t. t.degree)))
loaded_narrow (first ∷ others) tables e same i d l =
    let defs : List TableDef = first ∷ others in
    let as_many = ap length same in
    let within : i < length defs = omega (arith, l, as_many, length-map tables (λ t. t.degree), length-map defs (λ d. length d.columns)) in
    let here : (get_or tables i d).degree ≡ length (get_or defs i first).columns =
    sym (get_or-map (λ (t : Table). t.degree) tables i d 0 l) ∙ ap (λ (ns : List ℕ). get_or ns i 0) same ∙ get_or-map (λ (x : TableDef). length x.columns) defs i first 0 within in
    omega (arith, here, few_columns defs i first e within)

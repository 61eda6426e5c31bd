-- The rows of a table stand at the vector that they are loaded into.
use Rattle.std.proofs.Common.{◌≡◌, ℕ, ◌+◌, true, List, [], ◌∷◌, ◌++◌, length, map, refl, sym, ap, subst, arith, Option, Some, Ok}
use Rattle.std.specs.Prelude.{codes}
use Rattle.std.specs.List.{All, list_any}
use Rattle.std.proofs.lemmas.List.{length-map}
use Rattle.std.proofs.lemmas.List.Elements.{All-nil}
use Rattle.std.proofs.lemmas.Option.{get_or_from_slice_get, slice_get_within}
use Rattle.programs.specs.declared.op.Op.TheVariants as op
use Rattle.programs.specs.declared.op.Size.TheVariants as size
use Rattle.programs.specs.Mentions.{Label}
use Rattle.programs.specs.Vectors.{Vector, Env, known, seen, tables}
use Rattle.sql_read.specs.declared.definition.TableDef.{TableDef}
use Rattle.table_load.specs.Databases.{database_of, vector_of_table}
use Rattle.table_load.specs.Values.{Table}
use Rattle.table_load.specs.Vectors.{HasColumns}
use Rattle.table_load.proofs.ColumnNames.{has_columns}
use Rattle.typed_trees.specs.Names.{same_column}
use Rattle.query_answers.specs.Answers.{Row}
use Rattle.expr_lower.specs.declared.places.ColumnPlace.{ColumnPlace}
use Rattle.voodoo_ops.specs.Meaning.{effect}
use Rattle.voodoo_ops.specs.Ranges.{ranged}
use Rattle.program_writers.specs.Names.{IsBelow}
use Rattle.program_writers.specs.Statements.{mark, ones}
use Rattle.program_writers.specs.Writers.{◌>>=◌, through, make, numbered}
use Rattle.plan_programs.specs.Rows.{column_in}
use Rattle.plan_programs.specs.Sites.{Base, base, marked_alone}
use Rattle.held_rows.specs.Held.{present, one, Told, Holds}
use Rattle.held_rows.proofs.Upserted.{range_holds}
use Rattle.writer_runs.specs.Runs.{Sees}
use Rattle.writer_runs.proofs.Composed.{makes_one}
use Rattle.lowered_rows.proofs.Making.{makes_behind, makes_less}
use Rattle.lowered_stages.specs.Parts.{HasColumnsOf, RowsRuns, on_table}
use Rattle.lowered_stages.specs.Stages as stages
use Rattle.lowered_stages.specs.Stages.{column_told, told_of, StandsAt}
use Rattle.lowered_rows.proofs.Loaded.{Stands, Loads, Done, told, still_loads, columns_made}
use Rattle.lowered_rows.proofs.Stores.{table_is}

-- ---- what stands there, as other parts take it

append_nil : {A : Type 0} (xs : List A) → xs ++ [] ≡ xs
append_nil [] = refl
append_nil {A} (x ∷ xs) = ap (λ (l : List A). x ∷ l) (append_nil xs)

present_all : (rows : List Row) → present (map (λ r. Some r) rows) ≡ rows
present_all [] = refl
present_all (r ∷ rows) = ap (λ (l : List Row). r ∷ l) (present_all rows)

told_is : (texts : List (List ℕ)) (source : ℕ) (v : Label) (places : List ColumnPlace) → told texts source places ≡ told_of texts on_table (base v places [])
told_is texts source v places = ap (λ (l : List (Told Row)). (mark, one) ∷ l) (sym (append_nil (map (column_told texts on_table) places)))

abbrev Rows : List (List ℕ) → ℕ → Table → List ℕ → Base → ℕ → Env → Type 0
Rows texts source t columns b next after =
    stages.Stands texts b on_table (length t.rows) t.rows after × (IsBelow next b.vector × (HasColumnsOf source columns b × (All (λ p. p.column.source ≡ source) b.columns × (b.aggregates ≡ []))))

rows_stand : (texts : List (List ℕ)) (source : ℕ) (store : Env) (def : TableDef) (t : Table) (table : Label) (good : HasColumns def) (columns : List ℕ) (b : Base) (next : ℕ) (after : Env)
    → Done texts source store def t table good columns [] b next after → Rows texts source t columns b next after
rows_stand texts source store def t table good columns b next after d =
    let columns_are : b.columns ≡ d.places = ap (λ (x : Base). x.columns) d.is in
    let s = d.stands in
    let at : StandsAt texts after b on_table (map (λ r. Some r) t.rows) = record {
      vector = s.vector;
      sees = s.sees;
      holds = subst (λ (x : Base). Holds s.vector (map (λ r. Some r) t.rows) (told_of texts on_table x)) (sym d.is) (subst (λ (l : List (Told Row)). Holds s.vector (map (λ r. Some r) t.rows) l) (told_is texts source b.vector d.places) s.holds);
    } in (
      record { held = map (λ r. Some r) t.rows; places = length-map t.rows (λ r. Some r); rows_are = present_all t.rows; at = at },
      (
        s.below,
        (
          subst (λ (ps : List ColumnPlace). All (λ k. list_any (λ p. same_column p.column (record { source = source; column = k })) ps ≡ true) columns) (sym columns_are) d.each,
          (subst (λ (ps : List ColumnPlace). All (λ p. p.column.source ≡ source) ps) (sym columns_are) d.sources, ap (λ (x : Base). x.aggregates) d.is),
        ),
      ),
    )

-- ---- the table is loaded, its rows are marked, and each column is added

pub rows_runs : RowsRuns
rows_runs defs ts n source def t columns k env db e f h few =
    let texts = (database_of defs ts).dictionary in
    let store = tables (database_of defs ts).store in
    let v = seen (vector_of_table texts def t) in
    let m = ranged (length t.rows) mark ones in
    let table = numbered (codes "table") k in
    let marked = numbered (codes "rows") (k + 1) in
    let range = op.Range (size.Of table) mark ones in
    let good : HasColumns def = subst HasColumns (get_or_from_slice_get defs n def def e) (has_columns defs db.clean db.formed n def (slice_get_within defs n def e)) in
    let load : effect store env (op.Load def.name) ≡ Some (Ok v) = ap (λ (o : Option Vector). Some (Ok (known o))) (table_is defs ts n def t db.clean e f) in
    let first = makes_one store (codes "table") (op.Load def.name) k env v refl load in
    let ones_are : effect store first.after range ≡ Some (Ok m) = λ i. Some (Ok (ranged (known (first.holds.0 i)).len mark ones)) in
    let second = makes_one store (codes "rows") range (k + 1) first.after m refl ones_are in
    let loads : Loads texts source table v (k + 1 + 1) second.after = still_loads texts source table v (k + 1) (k + 1 + 1) first.after second.after (omega arith) second.kept (record { sees = first.holds.0; below = first.holds.1 }) in
    let stands : Stands texts source t.rows [] marked (k + 1 + 1) second.after = record { vector = m; sees = second.holds.0; below = second.holds.1; holds = range_holds t.rows mark } in
    let third = columns_made texts source store def t table good columns (k + 1 + 1) second.after [] marked h tt (omega (arith, few)) (All-nil (λ p. p.column.source ≡ source)) stands loads in
    let all = makes_less Base store (through (column_in def source table) (marked_alone marked) columns) (k + 1 + 1) second.after (Done texts source store def t table good columns []) (Rows texts source t columns) third
    (λ after kept d. rows_stand texts source store def t table good columns _ _ after d) in
    makes_behind Label Base store (make (codes "table") (op.Load def.name)) (λ table. make (codes "rows") (op.Range (size.Of table) mark ones) >>= λ marked. through (column_in def source table) (marked_alone marked) columns) k env
    (λ name next after. Sees after name v × IsBelow next name) (Rows texts source t columns) first
    (makes_behind Label Base store (make (codes "rows") range) (λ marked. through (column_in def source table) (marked_alone marked) columns) (k + 1) first.after
    (λ name next after. Sees after name m × IsBelow next name) (Rows texts source t columns) second all)

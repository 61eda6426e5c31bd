-- The rows of one table are from-rows, one by one: what stands at a base as rows of the table stands there as from-rows.
use Rattle.std.proofs.Common.{◌≡◌, ℕ, List, [], ◌∷◌, ◌++◌, map, refl, sym, ap, ◌∙◌, subst, Option, Some, None}
use Rattle.std.specs.Option.{option_map}
use Rattle.std.specs.List.{All}
use Rattle.std.proofs.lemmas.List.{length-map}
use Rattle.lowered_answers.proofs.Lists.{all_none, all_more, all_head, all_tail}
use Rattle.control_vectors.specs.Slots.{Slot}
use Rattle.programs.specs.Vectors.{Vector, Env, slots_of}
use Rattle.table_load.specs.Databases.{coded}
use Rattle.table_load.specs.Values.{value_at}
use Rattle.std.specs.Prelude.{slice_index_or}
use Rattle.query_answers.specs.Answers.{Row, FromRow, on_row}
use Rattle.expr_lower.specs.declared.places.AggregatePlace.{AggregatePlace}
use Rattle.expr_lower.specs.declared.places.ColumnPlace.{ColumnPlace}
use Rattle.program_writers.specs.Statements.{mark}
use Rattle.expr_steps.specs.Lowered.{Bytes}
use Rattle.held_rows.specs.Held.{Held, Told, Holds, at, column, present, one}
use Rattle.plan_programs.specs.Sites.{Base}
use Rattle.lowered_stages.specs.Stages.{column_told, aggregate_told, told_of, Stands}
use Rattle.lowered_stages.specs.Parts.{on_table}
use Rattle.lowered_premises.specs.Sources.{alone}

-- the from-row at each place
abbrev alone_at : Held Row → Held FromRow
alone_at held = map (option_map alone) held

at_alone : (f : FromRow → Slot) (g : Row → Slot) → ((r : Row) → f (alone r) ≡ g r) → (x : Option Row) → at f (option_map alone x) ≡ at g x
at_alone f g same None = refl
at_alone f g same (Some r) = same r

column_alone : (f : FromRow → Slot) (g : Row → Slot) → ((r : Row) → f (alone r) ≡ g r) → (held : Held Row) → column f (alone_at held) ≡ column g held
column_alone f g same [] = refl
column_alone f g same (x ∷ held) = ap (λ (s : Slot). s ∷ column f (alone_at held)) (at_alone f g same x) ∙ ap (λ (l : List Slot). at g x ∷ l) (column_alone f g same held)

present_alone : (held : Held Row) → present (alone_at held) ≡ map alone (present held)
present_alone [] = refl
present_alone (None ∷ held) = present_alone held
present_alone (Some r ∷ held) = ap (λ (l : List FromRow). alone r ∷ l) (present_alone held)

-- ---- what the columns tell

same_value : (texts : List Bytes) (p : ColumnPlace) → p.column.source ≡ 0 → (r : Row) → coded texts ((on_row (alone r)).column p.column) ≡ coded texts ((on_table r).column p.column)
same_value texts p first r = ap (λ (n : ℕ). coded texts (value_at p.column.column (slice_index_or (alone r) n []))) first

abbrev Tells : Vector → Held Row → Told Row → Type 0
Tells v held t = slots_of v.attributes t.0 ≡ column t.1 held

abbrev TellsAlone : Vector → Held Row → Told FromRow → Type 0
TellsAlone v held t = slots_of v.attributes t.0 ≡ column t.1 (alone_at held)

columns_tell : (texts : List Bytes) (v : Vector) (held : Held Row) (cs : List ColumnPlace) → All (λ p. p.column.source ≡ 0) cs → All (Tells v held) (map (column_told texts on_table) cs ++ []) → All (TellsAlone v held) (map (column_told texts on_row) cs ++ [])
columns_tell texts v held [] first h = all_none (TellsAlone v held)
columns_tell texts v held (p ∷ cs) first h =
    let rest = map (column_told texts on_table) cs ++ [] in
    all_more (TellsAlone v held) (column_told texts on_row p) (map (column_told texts on_row) cs ++ [])
    (all_head (Tells v held) (column_told texts on_table p) rest h ∙ sym (column_alone (λ row. coded texts ((on_row row).column p.column)) (λ r. coded texts ((on_table r).column p.column)) (same_value texts p (all_head (λ p. p.column.source ≡ 0) p cs first)) held))
    (columns_tell texts v held cs (all_tail (λ p. p.column.source ≡ 0) p cs first) (all_tail (Tells v held) (column_told texts on_table p) rest h))

holds_alone : (texts : List Bytes) (b : Base) (v : Vector) (held : Held Row) → All (λ p. p.column.source ≡ 0) b.columns → b.aggregates ≡ [] → Holds v held (told_of texts on_table b) → Holds v (alone_at held) (told_of texts on_row b)
holds_alone texts b v held first none h =
    let before = map (column_told texts on_table) b.columns ++ map (aggregate_told texts on_table) b.aggregates in
    let behind = map (column_told texts on_row) b.columns ++ map (aggregate_told texts on_row) b.aggregates in
    let told : All (Tells v held) (map (column_told texts on_table) b.columns ++ []) = subst (λ (l : List AggregatePlace). All (Tells v held) (map (column_told texts on_table) b.columns ++ map (aggregate_told texts on_table) l)) none (all_tail (Tells v held) (mark, one) before h.each) in
    let more : All (TellsAlone v held) behind = subst (λ (l : List AggregatePlace). All (TellsAlone v held) (map (column_told texts on_row) b.columns ++ map (aggregate_told texts on_row) l)) (sym none) (columns_tell texts v held b.columns first told) in
    record {
      len = h.len ∙ sym (length-map held (option_map alone));
      each = all_more (TellsAlone v held) (mark, one) behind (all_head (Tells v held) (mark, one) before h.each ∙ sym (column_alone one one (λ r. refl) held)) more;
    }

pub stands_alone : (texts : List Bytes) (b : Base) (len : ℕ) (rows : List Row) (env : Env) → All (λ p. p.column.source ≡ 0) b.columns → b.aggregates ≡ [] → Stands texts b on_table len rows env → Stands texts b on_row len (map alone rows) env
stands_alone texts b len rows env first none h = record {
  held = alone_at h.held;
  places = length-map h.held (option_map alone) ∙ h.places;
  rows_are = present_alone h.held ∙ ap (map alone) h.rows_are;
  at = record { vector = h.at.vector; sees = h.at.sees; holds = holds_alone texts b h.at.vector h.held first none h.at.holds };
}

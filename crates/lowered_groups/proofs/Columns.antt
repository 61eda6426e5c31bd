-- The columns of rows that stand at a base.
use Rattle.std.proofs.Common.{◌≡◌, ◌∙◌, Bool, true, false, ◌||◌, List, [], ◌∷◌, ◌++◌, map, refl, sym, ap, eqb-true}
use Rattle.std.specs.Prelude.{if◌then◌else◌, ◌==◌}
use Rattle.std.specs.List.{All, list_any}
use Rattle.std.proofs.lemmas.Bool.{and_parts, false≢true}
use Rattle.std.proofs.lemmas.List.Elements.{All-head, All-tail}
use Rattle.programs.specs.Vectors.{Vector, Env, slots_of}
use Rattle.table_load.specs.Databases.{coded}
use Rattle.typed_trees.specs.declared.typed.ColumnRef.{ColumnRef}
use Rattle.typed_trees.specs.Names.{same_column}
use Rattle.typed_values.specs.Values.{On}
use Rattle.expr_lower.specs.declared.places.ColumnPlace.{ColumnPlace}
use Rattle.expr_lower.specs.Statements.{column_path}
use Rattle.expr_steps.specs.Lowered.{Bytes}
use Rattle.held_rows.specs.Held.{Held, Told, column, one}
use Rattle.program_writers.specs.Statements.{mark}
use Rattle.plan_programs.specs.Sites.{Base, path_in}
use Rattle.lowered_stages.specs.Stages.{column_told, aggregate_told, StandsAt}

pub same_is : (c d : ColumnRef) → same_column c d ≡ true → c ≡ d
same_is c d h =
    let both = and_parts (c.source == d.source) (c.column == d.column) h in
    (λ i. record { source = eqb-true c.source d.source both.0 i; column = eqb-true c.column d.column both.1 i })

module _ {A : Type 0} (texts : List Bytes) (on : A → On) (v : Vector) (held : Held A) where
  abbrev pub SlotsOf : Told A → Type 0
  SlotsOf t = slots_of v.attributes t.0 ≡ column t.1 held

  column_found : (c : ColumnRef) (places : List ColumnPlace) (others : List (Told A)) → All SlotsOf (map (column_told texts on) places ++ others) → list_any (λ p. same_column p.column c) places ≡ true
      → slots_of v.attributes (column_path places c) ≡ column (λ a. coded texts ((on a).column c)) held
  column_found c [] others each h = absurd (false≢true h)
  column_found c (p ∷ places) others each h =
      by (same_column p.column c) refl h
      (column_found c places others (All-tail SlotsOf (column_told texts on p) (map (column_told texts on) places ++ others) each))
    where
      first : slots_of v.attributes p.path ≡ column (λ a. coded texts ((on a).column p.column)) held
      first = All-head SlotsOf (column_told texts on p) (map (column_told texts on) places ++ others) each

      by : (t : Bool) → same_column p.column c ≡ t → list_any (λ p. same_column p.column c) (p ∷ places) ≡ true
          → (list_any (λ p. same_column p.column c) places ≡ true → slots_of v.attributes (column_path places c) ≡ column (λ a. coded texts ((on a).column c)) held)
          → slots_of v.attributes (column_path (p ∷ places) c) ≡ column (λ a. coded texts ((on a).column c)) held
      by true e l further =
          ap (λ (t : Bool). slots_of v.attributes (if t then p.path else column_path places c)) e
          ∙ first ∙ ap (λ (d : ColumnRef). column (λ a. coded texts ((on a).column d)) held) (same_is p.column c e)
      by false e l further =
          ap (λ (t : Bool). slots_of v.attributes (if t then p.path else column_path places c)) e
          ∙ further (sym (ap (λ (t : Bool). t || list_any (λ p. same_column p.column c) places) e) ∙ l)

module _ {A : Type 0} (texts : List Bytes) (on : A → On) (env : Env) (b : Base) (held : Held A) (at : StandsAt texts env b on held) where
  pub mark_slots : slots_of at.vector.attributes mark ≡ column one held
  mark_slots = All-head (SlotsOf texts on at.vector held) (mark, one) (map (column_told texts on) b.columns ++ map (aggregate_told texts on) b.aggregates) at.holds.each

  pub column_slots : (c : ColumnRef) → list_any (λ p. same_column p.column c) b.columns ≡ true → slots_of at.vector.attributes (path_in b c) ≡ column (λ a. coded texts ((on a).column c)) held
  column_slots c h =
      column_found texts on at.vector held c b.columns (map (aggregate_told texts on) b.aggregates)
      (All-tail (SlotsOf texts on at.vector held) (mark, one) (map (column_told texts on) b.columns ++ map (aggregate_told texts on) b.aggregates) at.holds.each) h

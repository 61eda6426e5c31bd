-- The value of an expression over the rows that stand at a base.
use Rattle.std.proofs.Common.{◌≡◌, ◌∙◌, ℕ, Bool, true, false, ◌||◌, ◌==◌, List, [], ◌∷◌, ◌++◌, map, length, refl, ap, subst, eqb-true, if◌then◌else◌, Result, Ok, Err}
use Rattle.std.specs.List.{All, list_any}
use Rattle.std.proofs.lemmas.Bool.{and_parts}
use Rattle.std.proofs.lemmas.List.Elements.{All-nil, All-cons, All-head, All-tail}
use Rattle.control_vectors.specs.Slots.{Slot}
use Rattle.control_vectors.specs.declared.Over.{Over}
use Rattle.programs.specs.Mentions.{Label}
use Rattle.programs.specs.Vectors.{Vector, Env, slots_of}
use Rattle.programs.specs.Vectors as vectors
use Rattle.table_load.specs.Databases.{coded}
use Rattle.typed_trees.specs.declared.typed.ColumnRef.{ColumnRef}
use Rattle.typed_trees.specs.declared.typed.TypedExpr.{TypedExpr}
use Rattle.typed_trees.specs.Names.{same_column}
use Rattle.typed_values.specs.Values.{On, value}
use Rattle.query_answers.specs.Overs.{each}
use Rattle.expr_steps.specs.Lowered.{Bytes}
use Rattle.expr_lower.specs.declared.places.ColumnPlace.{ColumnPlace}
use Rattle.expr_lower.specs.declared.places.AggregatePlace.{AggregatePlace}
use Rattle.expr_lower.specs.Statements.{column_path, aggregate_path}
use Rattle.expr_counts.specs.Counts.{CountLaw}
use Rattle.expr_values.specs.Laws.{ValueLaw, BlankLaw, value_slot}
use Rattle.held_rows.specs.Held.{Held, Told, present, column, one}
use Rattle.held_values.specs.Lifted.{HoldsNamed, unless_over, values_told}
use Rattle.held_values.proofs.Lifted.{lift_laws}
use Rattle.program_writers.specs.Names.{IsBelow}
use Rattle.program_writers.specs.Statements.{out, mark}
use Rattle.program_writers.specs.Writers.{Writer}
use Rattle.plan_programs.specs.Sites.{Base, value_of}
use Rattle.writer_runs.specs.Runs.{Delivers}
use Rattle.lowered_stages.specs.Laws.{Tells}
use Rattle.lowered_stages.specs.Stages.{Covers, column_told, aggregate_told, told_of}
use Rattle.lowered_kept.specs.Values.{ValueRuns}
use Rattle.lowered_kept.proofs.Delivering.{delivers_more}
use Rattle.lowered_kept.proofs.Stated.{paths_in, Made, statements_run}

same_is : (a b : ColumnRef) → same_column a b ≡ true → a ≡ b
same_is a b h =
    let both = and_parts (a.source == b.source) (a.column == b.column) h in
    (λ i. record { source = eqb-true a.source b.source both.0 i; column = eqb-true a.column b.column both.1 i })

-- ---- what is so of two lists is so of each

pub all_first : {X : Type 0} (P : X → Type 0) (xs ys : List X) → All P (xs ++ ys) → All P xs
all_first P [] ys h = All-nil P
all_first P (x ∷ xs) ys h = All-cons P x xs (All-head P x (xs ++ ys) h) (all_first P xs ys (All-tail P x (xs ++ ys) h))

pub all_behind : {X : Type 0} (P : X → Type 0) (xs ys : List X) → All P (xs ++ ys) → All P ys
all_behind P [] ys h = h
all_behind P (x ∷ xs) ys h = all_behind P xs ys (All-tail P x (xs ++ ys) h)

-- ---- what the vector of a base holds

module _ {A : Type 0} (texts : List Bytes) (on : A → On) (held : Held A) (v : Vector) where
  -- an attribute holds what it tells of the rows
  abbrev pub IsHeld : Told A → Type 0
  IsHeld t = slots_of v.attributes t.0 ≡ column t.1 held

  pub column_held : (places : List ColumnPlace) (c : ColumnRef) → All IsHeld (map (column_told texts on) places) → list_any (λ p. same_column p.column c) places ≡ true
      → slots_of v.attributes (column_path places c) ≡ column (λ a. coded texts ((on a).column c)) held
  column_held [] c h found = absurd cc
  column_held (p ∷ places) c h found =
      by (same_column p.column c) refl (All-head IsHeld (column_told texts on p) (map (column_told texts on) places) h)
      (λ f. column_held places c (All-tail IsHeld (column_told texts on p) (map (column_told texts on) places) h) f) found
    where
      by : (t : Bool) → same_column p.column c ≡ t → slots_of v.attributes p.path ≡ column (λ a. coded texts ((on a).column p.column)) held
          → (list_any (λ q. same_column q.column c) places ≡ true → slots_of v.attributes (column_path places c) ≡ column (λ a. coded texts ((on a).column c)) held)
          → (t || list_any (λ q. same_column q.column c) places) ≡ true → slots_of v.attributes (if t then p.path else column_path places c) ≡ column (λ a. coded texts ((on a).column c)) held
      by true is first rest f = first ∙ ap (λ (d : ColumnRef). column (λ a. coded texts ((on a).column d)) held) (same_is p.column c is)
      by false is first rest f = rest f

  pub aggregate_held : (places : List AggregatePlace) (n : ℕ) → All IsHeld (map (aggregate_told texts on) places) → list_any (λ p. p.aggregate == n) places ≡ true
      → slots_of v.attributes (aggregate_path places n) ≡ column (λ a. value_slot texts ((on a).aggregate n)) held
  aggregate_held [] n h found = absurd cc
  aggregate_held (p ∷ places) n h found =
      by (p.aggregate == n) refl (All-head IsHeld (aggregate_told texts on p) (map (aggregate_told texts on) places) h)
      (λ f. aggregate_held places n (All-tail IsHeld (aggregate_told texts on p) (map (aggregate_told texts on) places) h) f) found
    where
      by : (t : Bool) → (p.aggregate == n) ≡ t → slots_of v.attributes p.path ≡ column (λ a. value_slot texts ((on a).aggregate p.aggregate)) held
          → (list_any (λ q. q.aggregate == n) places ≡ true → slots_of v.attributes (aggregate_path places n) ≡ column (λ a. value_slot texts ((on a).aggregate n)) held)
          → (t || list_any (λ q. q.aggregate == n) places) ≡ true → slots_of v.attributes (if t then p.path else aggregate_path places n) ≡ column (λ a. value_slot texts ((on a).aggregate n)) held
      by true is first rest f = first ∙ ap (λ (m : ℕ). column (λ a. value_slot texts ((on a).aggregate m)) held) (eqb-true p.aggregate n is)
      by false is first rest f = rest f

  pub mark_held : (b : Base) → All IsHeld (told_of texts on b) → slots_of v.attributes mark ≡ column one held
  mark_held b h = All-head IsHeld (mark, one) (map (column_told texts on) b.columns ++ map (aggregate_told texts on) b.aggregates) h

  pub named_held : (b : Base) (e : TypedExpr) → v.len ≡ length held → All IsHeld (told_of texts on b) → Covers b e → HoldsNamed texts v (paths_in b) held on e
  named_held b e len h covers =
      let cs = map (column_told texts on) b.columns in
      let gs = map (aggregate_told texts on) b.aggregates in
      let others = All-tail IsHeld (mark, one) (cs ++ gs) h in
      record {
        len = len;
        mark = mark_held b h;
        columns = λ c n. column_held b.columns c (all_first IsHeld cs gs others) (covers.columns c n);
        aggregates = λ m n. aggregate_held b.aggregates m (all_behind IsHeld cs gs others) (covers.aggregates m n);
      }

-- ---- where nothing was Over

pub delivers_unless : {A X : Type 0} (store : Env) (m : Writer A) (k : ℕ) (env : Env) (r : Result X Over) (slots : List Slot) (P : List Slot → A → ℕ → Env → Type 0)
    → Delivers store m k env (unless_over r slots) P → Delivers store m k env r (λ x. P slots)
delivers_unless store m k env (Ok x) slots P h = h
delivers_unless store m k env (Err e) slots P h = h

pub value_runs : ValueLaw → BlankLaw → CountLaw → ValueRuns
value_runs values blanks counts A texts at on held store env b word e k w below st can stand =
    let v = st.vector in
    let m = value_of texts word b e in
    let r = each (λ a. value (on a) e) (present held) in
    let slots = column (values_told texts on e) held in
    let Wanted : Label → ℕ → Env → Type 0 = λ name next after. IsBelow next name × Tells held (λ a. value_slot texts (value (on a) e)) name after in
    let named = named_held texts on held v b e st.holds.len st.holds.each can.covers in
    let lifted = lift_laws.slots values blanks texts at v (paths_in b) held on e can.lowerable stand named in
    let ran = subst (λ (s : Result (List Slot) Over). Delivers store m k env s (Made v.len)) lifted (statements_run counts texts store env b word e k v can.few w below st.sees) in
    delivers_more store m k env r (λ x. Made v.len slots) (λ x. Wanted)
    (λ x name next after made. (made.1, record { vector = vectors.column out v.len slots; sees = made.0; len = st.holds.len; slots = refl }))
    (delivers_unless store m k env r slots (Made v.len) ran)

-- The aggregates of groups, one after another.
use Rattle.std.proofs.Common.{◌≡◌, ◌∙◌, ℕ, ◌+◌, ◌<◌, ◌≤◌, ◌^◌, Bool, true, false, ◌||◌, List, [], ◌∷◌, ◌++◌, length, map, refl, sym, ap, subst, arith, append_assoc, length-append, Option, Some, None, Result, Ok, Err, codes}
use Rattle.std.specs.Prelude.{is_some, slice_index_or, if◌then◌else◌}
use Rattle.std.specs.Option.{ForSome}
use Rattle.std.specs.List.{All, enumerate_from}
use Rattle.std.proofs.lemmas.List.Elements.{All-head, All-tail}
use Rattle.control_vectors.specs.Slots.{Slot, Cell, over, has_over, slots_in, all_slots}
use Rattle.control_vectors.specs.declared.Over.{Over}
use Rattle.control_vectors.specs.declared.PairKind.TheVariants as pair
use Rattle.sql_values.specs.Values.{null}
use Rattle.table_load.specs.Databases.{coded}
use Rattle.programs.specs.Mentions.{Label}
use Rattle.programs.specs.Vectors.{Vector, Env, slots_of}
use Rattle.programs.specs.Vectors as vectors
use Rattle.voodoo_ops.specs.Attributes.{upserted}
use Rattle.typed_trees.specs.declared.typed.Aggregate.{Aggregate}
use Rattle.typed_trees.specs.declared.typed.AggregateKind.{AggregateKind}
use Rattle.typed_trees.specs.declared.typed.ColumnRef.{ColumnRef}
use Rattle.typed_trees.specs.declared.typed.TypedExpr.{TypedExpr}
use Rattle.typed_trees.specs.Types.{no_aggregate, aggregate_type}
use Rattle.typed_values.specs.Values.{Valued, value}
use Rattle.value_laws.specs.Laws.{KindLaw}
use Rattle.query_answers.specs.Answers.{FromRow, Group, on_row}
use Rattle.query_answers.specs.Clauses.{Clauses}
use Rattle.query_answers.specs.Overs.{each}
use Rattle.query_answers.specs.Overs as overs
use Rattle.expr_steps.specs.Lowered.{Bytes}
use Rattle.expr_values.specs.Laws.{CanStand, KnownLaw, value_slot, value_cell}
use Rattle.held_groups.specs.Overs.{ok_value, over_group, some_over}
use Rattle.held_rows.specs.Held.{Held, present, at, column, one}
use Rattle.held_rows.specs.Laws.{both_at}
use Rattle.held_rows.specs.Vectors.{Tells}
use Rattle.held_rows.proofs.Upserted.{first_slots}
use Rattle.program_writers.specs.Names.{IsBelow}
use Rattle.program_writers.specs.Statements.{out, mark, with_attribute}
use Rattle.program_writers.specs.Writers.{Writer, tell, ◌>>=◌, through, make}
use Rattle.program_writers.proofs.Numbers.{below_more}
use Rattle.plan_programs.specs.Groups.{Folding, aggregated, argument, aggregate_path, aggregate_of}
use Rattle.plan_programs.specs.Rows.{everywhere}
use Rattle.plan_programs.specs.Sites.{Base, with_aggregate, value_of}
use Rattle.writer_runs.specs.Runs.{Makes, Delivers}
use Rattle.writer_runs.proofs.Composed.{makes_tell, makes_bind}
use Rattle.lowered_stages.specs.Laws as stages
use Rattle.lowered_stages.specs.Parts.{CanValue, CanValueAll}
use Rattle.lowered_groups.specs.Laws.{ValueOfRows}
use Rattle.lowered_groups.proofs.Aggregated.{aggregate_cell, aggregated_makes}
use Rattle.lowered_groups.proofs.Bases.{IsGroups, groups_later, more_aggregate}
use Rattle.lowered_groups.proofs.Cells.{cells, slot_of, absorbed, ok_cells}
use Rattle.lowered_groups.proofs.Columns.{mark_slots}
use Rattle.lowered_groups.proofs.Folds.{Gives, gives_column, tells_of, pair_makes, IsFolding, folding_later, NowCells}
use Rattle.lowered_groups.proofs.Parts.{Has, Kept, NowHas, delivers_after, delivers_then, delivers_makes, makes_upsert}
use Rattle.lowered_groups.proofs.Values.{Regroups, over_cell, any_over, argument_over_cells, all_present, none_agrees, some_agrees}

-- what an argument can be, and the rows on which it has values
pub record CanAggregate (texts : List Bytes) (b : Base) (all : List FromRow) (a : Aggregate) : Type 0 where
  pub typed : is_some (aggregate_type a) ≡ true
  pub can : ForSome a.argument (CanValue no_aggregate b)
  pub stands : ForSome a.argument (CanValueAll texts no_aggregate on_row all)

-- nothing is told, or some aggregate is Over
abbrev pub made_if : Bool → Result (Unit {0}) Over
made_if true = Err over
made_if false = Ok tt

module _ (kinds : KindLaw) (knows : KnownLaw) (values : ValueOfRows) (store : Env) (texts : List Bytes) (f : Folding) (rows : Held FromRow) (gs : Held Group) (columns : List ColumnRef) (all : List FromRow) (re : Regroups columns all rows gs) (few : length all ≤ 2 ^ 20) where
  -- ---- an argument and its aggregate, and a part behind them

  abbrev Behind : {B : Type 0} → ℕ → Env → List Cell → (Label → Writer B) → (B → ℕ → Env → Type 0) → Type 0
  Behind {B} k env cs put Q = (xs : List Slot) (x : Label) (next : ℕ) (between : Env) → all_slots cs ≡ Ok xs → k ≤ next → Kept k env between → Has next between x (vectors.column out (length gs) xs) → Makes store (put x) next between Q

  behind_later : {B : Type 0} (k next : ℕ) (env between : Env) (cs : List Cell) (put : Label → Writer B) (Q : B → ℕ → Env → Type 0) → k ≤ next → Kept k env between → Behind k env cs put Q → Behind next between cs put Q
  behind_later k next env between cs put Q more kept h xs x later after e on left has =
      h xs x later after e (omega (arith, more, on)) (λ name below. left name (below_more k next name more below) ∙ kept name below) has

  value_behind : {B : Type 0} (k : ℕ) (env : Env) → IsFolding texts k env f rows gs → (kind : AggregateKind) (name : Label) (g : FromRow → Slot) (cs : List Cell) (put : Label → Writer B) (Q : B → ℕ → Env → Type 0)
      → Gives k env rows name g → cells (aggregate_cell kind g) gs ≡ cs → Behind k env cs put Q
      → Delivers store (aggregated f kind name >>= put) k env (all_slots cs) (λ xs. Q)
  value_behind {B} k env i kind name g cs put Q gives same rest =
      delivers_makes store (aggregated f kind name) put k env (all_slots cs) (NowCells gs) (λ xs. Q)
      (subst (λ (l : List Cell). Delivers store (aggregated f kind name) k env (all_slots l) (NowCells gs)) same (aggregated_makes store texts f rows gs k env i kind name g gives))
      (λ xs e x next between more has kept. rest xs x next between e more kept has)

  everywhere_gives : (k : ℕ) (env : Env) → IsFolding texts k env f rows gs → Makes store (everywhere f.rows) k env (NowHas (vectors.column out (length rows) (column one rows)))
  everywhere_gives k env i =
      pair_makes store (codes "all") k env pair.Equals f.rows.vector mark f.rows.vector mark rows one one one refl tells tells same
    where
      tells : Tells env f.rows.vector mark one rows
      tells = tells_of k env rows f.rows.vector mark i.stands.vector one (record { sees = i.stands.sees; below = i.rows_below }) i.stands.holds.len (mark_slots texts on_row env f.rows rows i.stands)

      same : (r : Option FromRow) → both_at pair.Equals one one r ≡ Ok (at one r)
      same None = refl
      same (Some r) = refl

  argument_behind : {B : Type 0} (k : ℕ) (env : Env) → IsFolding texts k env f rows gs → (kind : AggregateKind) (o : Option TypedExpr) → CanAggregate texts f.rows all (record { kind = kind; argument = o }) → (put : Label → Writer B) (Q : B → ℕ → Env → Type 0)
      → Behind k env (cells (over_cell texts (record { kind = kind; argument = o })) gs) put Q
      → Delivers store (argument texts f o >>= λ value. aggregated f kind value >>= put) k env (all_slots (cells (over_cell texts (record { kind = kind; argument = o })) gs)) (λ xs. Q)
  argument_behind {B} k env i kind None can put Q rest =
      let cs = cells (over_cell texts (record { kind = kind; argument = None })) gs in
      delivers_after store (everywhere f.rows) (λ value. aggregated f kind value >>= put) k env (NowHas (vectors.column out (length rows) (column one rows))) (all_slots cs) (λ xs. Q) (everywhere_gives k env i)
      (λ name next between more has kept.
      value_behind next between (folding_later texts k next env between f rows gs more kept i) kind name one cs put Q (gives_column next between rows name one has)
      (none_agrees columns all rows gs re few texts kind can.typed) (behind_later k next env between cs put Q more kept rest))
  argument_behind {B} k env i kind (Some x) can put Q rest =
      let cs = cells (over_cell texts (record { kind = kind; argument = Some x })) gs in
      let on = λ (r : FromRow). value (on_row r) x in
      let fine : CanValue no_aggregate f.rows x = can.can x refl in
      let stands : CanValueAll texts no_aggregate on_row all x = can.stands x refl in
      subst (λ (r : Result (List Slot) Over). Delivers store (argument texts f (Some x) >>= λ value. aggregated f kind value >>= put) k env r (λ xs. Q))
      (absorbed (each on (present rows)) (all_slots cs) (λ e h. argument_over_cells columns all rows gs re texts kind x e h))
      (delivers_then store (value_of texts (codes "argument") f.rows x) (λ value. aggregated f kind value >>= put) k env (each on (present rows))
      (λ vs name next after. IsBelow next name × stages.Tells rows (λ r. value_slot texts (on r)) name after) (λ vs. all_slots cs) (λ xs. Q)
      (values texts no_aggregate rows store env f.rows (codes "argument") x k refl i.rows_below i.stands fine (all_present columns all rows gs re (λ r. CanStand texts no_aggregate (on_row r) x) stands))
      (λ vs e name next between more told kept.
      let t = told.1 in
      value_behind next between (folding_later texts k next env between f rows gs more kept i) kind name (λ r. value_slot texts (on r)) cs put Q
      (record { vector = t.vector; has = record { sees = t.sees; below = told.0 }; len = t.len; slots = t.slots })
      (some_agrees columns all rows gs re few texts kinds knows x fine.lowerable stands kind can.typed vs e)
      (behind_later k next env between cs put Q more kept rest)))

  -- ---- one aggregate more

  module _ (q : Clauses) where
    coded_value : (r : Valued) → slot_of (value_cell texts r) ≡ coded texts (ok_value r)
    coded_value (Ok v) = refl
    coded_value (Err e) = refl

    -- the value of an aggregate, behind those before it
    nth_is : (front : List Aggregate) (a : Aggregate) (others : List Aggregate) (g : Group) → slice_index_or (map (λ a. ok_value (over_group a g)) (front ++ a ∷ others)) (length front) null ≡ ok_value (over_group a g)
    nth_is [] a others g = refl
    nth_is (b ∷ front) a others g = nth_is front a others g

    told_slot : (n : ℕ) → Group → Slot
    told_slot n g = coded texts (slice_index_or (map (λ a. ok_value (over_group a g)) q.aggregates) n null)

    slot_is : (front : List Aggregate) (a : Aggregate) (others : List Aggregate) → q.aggregates ≡ front ++ a ∷ others → (n : ℕ) → n ≡ length front → (g : Group) → slot_of (over_cell texts a g) ≡ told_slot n g
    unfolding told_slot
    slot_is front a others is n same g =
        coded_value (over_group a g)
        ∙ ap (coded texts) (sym (nth_is front a others g))
        ∙ ap (λ (l : List Aggregate). coded texts (slice_index_or (map (λ a. ok_value (over_group a g)) l) (length front) null)) (sym is)
        ∙ ap (λ (m : ℕ). coded texts (slice_index_or (map (λ a. ok_value (over_group a g)) q.aggregates) m null)) (sym same)

    put_makes : (front : List Aggregate) (a : Aggregate) (others : List Aggregate) → q.aggregates ≡ front ++ a ∷ others → (n : ℕ) → n ≡ length front → n < 2 ^ 64 → (b : Base) (k : ℕ) (env : Env) → IsGroups texts q k env gs b n
        → Behind k env (cells (over_cell texts a) gs) (λ x. make (codes "groups") (with_attribute b.vector (aggregate_path n) x out) >>= λ vector. tell (with_aggregate vector n (aggregate_path n) b)) (λ c next after. IsGroups texts q next after gs c (n + 1))
    unfolding told_slot
    put_makes front a others is n same small b k env g xs x next between e more kept has =
        let on = groups_later texts q k next env between gs b n more kept g in
        let u = vectors.column out (length gs) xs in
        let slots : slots_of u.attributes out ≡ column (told_slot n) gs =
        first_slots out xs [] ∙ (ok_cells (over_cell texts a) gs xs e).1 ∙ (λ i. column (λ group. slot_is front a others is n same group i) gs) in
        let end = λ (vector : Label). tell (with_aggregate vector n (aggregate_path n) b) in
        makes_bind Label Base store (make (codes "groups") (with_attribute b.vector (aggregate_path n) x out)) end next between
        (NowHas (upserted on.stands.vector (aggregate_path n) u out)) (λ c next after. IsGroups texts q next after gs c (n + 1))
        (makes_upsert store (codes "groups") next between refl b.vector (aggregate_path n) x out on.stands.vector u (record { sees = on.stands.sees; below = on.below }) has)
        (λ vector later after on_more done left.
        makes_tell Base store (with_aggregate vector n (aggregate_path n) b) later after (λ c next after. IsGroups texts q next after gs c (n + 1))
        (more_aggregate texts q gs b n next later between after vector u small on slots done))

    aggregate_makes : (front : List Aggregate) (a : Aggregate) (others : List Aggregate) → q.aggregates ≡ front ++ a ∷ others → (n : ℕ) → n ≡ length front → n < 2 ^ 64 → CanAggregate texts f.rows all a → (b : Base) (k : ℕ) (env : Env) → IsFolding texts k env f rows gs → IsGroups texts q k env gs b n
        → Delivers store (aggregate_of texts f b (n, a)) k env (all_slots (cells (over_cell texts a) gs)) (λ xs c next after. IsGroups texts q next after gs c (n + 1))
    aggregate_makes front a others is n same small can b k env i g =
        argument_behind k env i a.kind a.argument can
        (λ x. make (codes "groups") (with_attribute b.vector (aggregate_path n) x out) >>= λ vector. tell (with_aggregate vector n (aggregate_path n) b)) (λ c next after. IsGroups texts q next after gs c (n + 1))
        (put_makes front a others is n same small b k env g)

    -- ---- one after another

    abbrev pub all_made : List Aggregate → Result (Unit {0}) Over
    all_made others = made_if (some_over others (present gs))

    both_made : (b c : Bool) (ys : List Slot) → overs.◌>>=◌ (if b then Err over else Ok ys) (λ xs. made_if c) ≡ made_if (b || c)
    both_made true c ys = refl
    both_made false c ys = refl

    made_more : (a : Aggregate) (others : List Aggregate) → overs.◌>>=◌ (all_slots (cells (over_cell texts a) gs)) (λ xs. all_made others) ≡ all_made (a ∷ others)
    made_more a others =
        both_made (has_over (cells (over_cell texts a) gs)) (some_over others (present gs)) (slots_in (cells (over_cell texts a) gs))
        ∙ ap (λ (b : Bool). made_if (b || some_over others (present gs))) (any_over texts a gs)

    pub aggregates_make : (front others : List Aggregate) → q.aggregates ≡ front ++ others → (n : ℕ) → n ≡ length front → n + length others < 2 ^ 64 → All (CanAggregate texts f.rows all) others → (b : Base) (k : ℕ) (env : Env) → IsFolding texts k env f rows gs → IsGroups texts q k env gs b n
        → Delivers store (through (aggregate_of texts f) b (enumerate_from n others)) k env (all_made others) (λ u c next after. IsGroups texts q next after gs c (n + length others))
    aggregates_make front [] is n same small can b k env i g =
        makes_tell Base store b k env (λ c next after. IsGroups texts q next after gs c (n + 0)) (subst (IsGroups texts q k env gs b) (omega arith) g)
    aggregates_make front (a ∷ others) is n same small can b k env i g =
        let rest = λ (c : Base). through (aggregate_of texts f) c (enumerate_from (n + 1) others) in
        let left : q.aggregates ≡ (front ++ a ∷ []) ++ others = is ∙ sym (append_assoc front (a ∷ []) others) in
        let longer : n + 1 ≡ length (front ++ a ∷ []) = omega (arith, same, length-append front (a ∷ [])) in
        subst (λ (r : Result (Unit {0}) Over). Delivers store (aggregate_of texts f b (n, a) >>= rest) k env r (λ u c next after. IsGroups texts q next after gs c (n + length (a ∷ others)))) (made_more a others)
        (delivers_then store (aggregate_of texts f b (n, a)) rest k env (all_slots (cells (over_cell texts a) gs)) (λ xs c next after. IsGroups texts q next after gs c (n + 1)) (λ xs. all_made others) (λ u c next after. IsGroups texts q next after gs c (n + length (a ∷ others)))
        (aggregate_makes front a others is n same (omega (arith, small)) (All-head (CanAggregate texts f.rows all) a others can) b k env i g)
        (λ xs e c next between more groups kept.
        subst (λ (m : ℕ). Delivers store (rest c) next between (all_made others) (λ u c next after. IsGroups texts q next after gs c m)) (omega arith)
        (aggregates_make (front ++ a ∷ []) others left (n + 1) longer (omega (arith, small)) (All-tail (CanAggregate texts f.rows all) a others can) c next between (folding_later texts k next env between f rows gs more kept i) groups)))

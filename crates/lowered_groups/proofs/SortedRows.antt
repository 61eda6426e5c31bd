-- The rows at a base, sorted by group columns.
use Rattle.std.proofs.Common.{◌≡◌, ◌∙◌, ℕ, zero, suc, ◌-◌, ◌≤◌, Bool, true, false, cond, List, [], ◌∷◌, ◌++◌, length, map, replicate, refl, sym, ap, subst, arith, Option, Some, None, codes}
use Rattle.std.specs.List.{All, list_any}
use Rattle.std.proofs.lemmas.List.{length-append, length-map, length-replicate}
use Rattle.std.proofs.lemmas.List.Elements.{All-head, All-tail}
use Rattle.std.proofs.lemmas.Simd.{map-map}
use Rattle.control_vectors.specs.Slots.{Slot}
use Rattle.programs.specs.declared.op.Op.TheVariants as op
use Rattle.programs.specs.Faults.{all_apart}
use Rattle.programs.specs.Mentions.{Label, has_name}
use Rattle.programs.specs.Vectors.{Attribute, Vector, Env, slots_of}
use Rattle.programs.specs.Vectors as vectors
use Rattle.voodoo_ops.specs.Moves as moves
use Rattle.voodoo_ops.specs.Moves.{gather, order}
use Rattle.slot_moves.specs.Moves.{gathered}
use Rattle.sort_order.specs.Keys.{SortKey}
use Rattle.sort_order.specs.Orders.{inserted, sorted_by, ordered}
use Rattle.typed_trees.specs.declared.typed.ColumnRef.{ColumnRef}
use Rattle.typed_trees.specs.Names.{same_column}
use Rattle.query_answers.specs.Answers.{FromRow, on_row}
use Rattle.expr_steps.specs.Lowered.{Bytes}
use Rattle.held_groups.specs.Groups.{column_key, sorted_rows}
use Rattle.held_rows.specs.Held.{Held, Holds, present, column, one, packed}
use Rattle.held_rows.specs.Laws.{row_before, sort_key}
use Rattle.held_rows.proofs.Sorted.{order_law}
use Rattle.held_rows.proofs.Upserted.{first_slots, gather_holds}
use Rattle.program_writers.specs.Names.{IsBelow}
use Rattle.program_writers.specs.Statements.{out, mark, at_places}
use Rattle.program_writers.specs.Writers.{tell, ◌>>=◌, make}
use Rattle.plan_programs.specs.Groups.{ascending, sorted}
use Rattle.plan_programs.specs.Sites.{Base, moved_to, path_in}
use Rattle.writer_runs.specs.Runs.{Makes}
use Rattle.writer_runs.proofs.Composed.{makes_tell, makes_bind}
use Rattle.lowered_stages.specs.Stages.{StandsAt, told_of}
use Rattle.lowered_stages.specs.Parts.{SamePlaces}
use Rattle.lowered_groups.proofs.Columns.{mark_slots, column_slots}
use Rattle.lowered_groups.proofs.Folds.{stands_later}
use Rattle.lowered_groups.proofs.Parts.{Has, NowHas, makes_order, makes_gather}
use Rattle.program_writers.proofs.Numbers.{below_more}

-- ---- the paths of a vector do not clash, and the mark is among them

abbrev pub names_of : List Attribute → List Label
names_of attributes = map (λ t. t.0) attributes

pub record IsClear (v : Vector) : Type 0 where
  pub apart : all_apart (names_of v.attributes) ≡ true
  pub has_mark : has_name (names_of v.attributes) mark ≡ true

gathered_names : (u v : Vector) (p : Label) → names_of (gather u v p).attributes ≡ names_of u.attributes
gathered_names u v p = map-map (λ (t : Attribute). t.0) (λ (t : Attribute). (t.0, gathered t.1 (slots_of v.attributes p))) u.attributes

clear_gathered : (u v : Vector) (p : Label) → IsClear u → IsClear (gather u v p)
clear_gathered u v p h = record {
  apart = ap all_apart (gathered_names u v p) ∙ h.apart;
  has_mark = ap (λ (l : List Label). has_name l mark) (gathered_names u v p) ∙ h.has_mark;
}

-- ---- lengths

pub present_few : {A : Type 0} (held : Held A) → length (present held) ≤ length held
present_few [] = omega arith
present_few (None ∷ held) = omega (arith, present_few held)
present_few (Some a ∷ held) = omega (arith, present_few held)

length_inserted : {X : Type 0} (lt : X → X → Bool) (x : X) (ys : List X) → length (inserted lt x ys) ≡ suc (length ys)
length_inserted lt x [] = refl
length_inserted lt x (y ∷ ys) = by (lt y x) (length_inserted lt x ys)
  where
    by : (b : Bool) → length (inserted lt x ys) ≡ suc (length ys) → length (cond b (y ∷ inserted lt x ys) (x ∷ y ∷ ys)) ≡ suc (suc (length ys))
    by true e = ap suc e
    by false e = refl

sorted_long : {X : Type 0} (lt : X → X → Bool) (xs : List X) → length (sorted_by lt xs) ≡ length xs
sorted_long lt [] = refl
sorted_long lt (x ∷ xs) = length_inserted lt x (sorted_by lt xs) ∙ ap suc (sorted_long lt xs)

pub packed_long : {A : Type 0} (n : ℕ) (rows : List A) → length rows ≤ n → length (packed n rows) ≡ n
packed_long {A} n rows h =
    length-append (map (λ a. Some a) rows) (replicate (n - length rows) None)
    ∙ (let front : length (map {B = Option A} (λ a. Some a) rows) ≡ length rows = length-map rows (λ a. Some a) in
    let back : length (replicate {A = Option A} (n - length rows) None) ≡ n - length rows = length-replicate {A = Option A} (n - length rows) None in
    omega (arith, front, back, h))

pub present_packed : {A : Type 0} (n : ℕ) (rows : List A) → present (packed n rows) ≡ rows
present_packed n rows = by rows (n - length rows)
  where
    none : {A : Type 0} (k : ℕ) → present {A = A} (replicate k None) ≡ []
    none zero = refl
    none (suc k) = none k

    by : {A : Type 0} (rows : List A) (k : ℕ) → present (map (λ a. Some a) rows ++ replicate k None) ≡ rows
    by [] k = none k
    by (r ∷ rows) k = ap (λ l. r ∷ l) (by rows k)

-- ---- the rows sorted

module _ (store : Env) (texts : List Bytes) (b : Base) (held : Held FromRow) (columns : List ColumnRef) where
  abbrev pub sorted_held : Held FromRow
  sorted_held = packed (length held) (sorted_rows texts columns (present held))

  pub sorted_length : length sorted_held ≡ length held
  sorted_length =
      packed_long (length held) (sorted_rows texts columns (present held))
      (let same = sorted_long (row_before (map (column_key texts) columns)) (present held) in omega (arith, same, present_few held))

  keys_are : (env : Env) (at : StandsAt texts env b on_row held) (cs : List ColumnRef) → All (λ c. list_any (λ p. same_column p.column c) b.columns ≡ true) cs
      → map (moves.sort_key at.vector) (map (λ c. ascending (path_in b c)) cs) ≡ map (sort_key held) (map (column_key texts) cs)
  keys_are env at [] h = refl
  keys_are env at (c ∷ cs) h =
      let first = column_slots texts on_row env b held at c (All-head (λ c. list_any (λ p. same_column p.column c) b.columns ≡ true) c cs h) in
      let others = keys_are env at cs (All-tail (λ c. list_any (λ p. same_column p.column c) b.columns ≡ true) c cs h) in
      λ i. record { descending = false; slots = first i } ∷ others i

  -- the places of the sorted rows
  abbrev places : List Slot
  places = ordered (column one held) (map (sort_key held) (map (column_key texts) columns))

  pub record SortedAt (rows : Base) (next : ℕ) (after : Env) : Type 0 where
    pub stands : StandsAt texts after rows on_row sorted_held
    pub below : IsBelow next rows.vector
    pub clear : IsClear stands.vector
    pub same : SamePlaces b rows

  order_is : (env : Env) (at : StandsAt texts env b on_row held) → All (λ c. list_any (λ p. same_column p.column c) b.columns ≡ true) columns
      → order at.vector mark out (map (λ c. ascending (path_in b c)) columns) ≡ vectors.column out at.vector.len places
  order_is env at can =
      ap (λ (l : List Slot). vectors.column out at.vector.len (ordered l (map (moves.sort_key at.vector) (map (λ c. ascending (path_in b c)) columns)))) (mark_slots texts on_row env b held at)
      ∙ ap (λ (l : List SortKey). vectors.column out at.vector.len (ordered (column one held) l)) (keys_are env at columns can)

  pub sorted_makes : (k : ℕ) (env : Env) (at : StandsAt texts env b on_row held) → IsBelow k b.vector → IsClear at.vector → All (λ c. list_any (λ p. same_column p.column c) b.columns ≡ true) columns
      → Makes store (sorted b columns) k env SortedAt
  sorted_makes k env at below clear can =
      makes_bind Label Base store (make (codes "order") (op.Order b.vector mark out (map (λ c. ascending (path_in b c)) columns))) (λ order. make (codes "sorted") (at_places b.vector order) >>= λ rows. tell (moved_to rows b)) k env
      (NowHas (order at.vector mark out (map (λ c. ascending (path_in b c)) columns))) SortedAt
      (makes_order store (codes "order") k env refl b.vector mark (map (λ c. ascending (path_in b c)) columns) at.vector (record { sees = at.sees; below = below }))
      (λ name next between more has kept.
      let here = stands_later texts on_row k env between b held below kept at in
      let ordering = vectors.column out at.vector.len places in
      let by : Has next between name ordering = subst (λ (v : Vector). Has next between name v) (order_is env at can) has in
      let v = gather at.vector ordering out in
      let holds : Holds v sorted_held (told_of texts on_row b) = gather_holds at.vector ordering out held sorted_held (told_of texts on_row b) at.holds (at.holds.len ∙ sym sorted_length) sorted_length moved in
      makes_bind Label Base store (make (codes "sorted") (at_places b.vector name)) (λ rows. tell (moved_to rows b)) next between
      (NowHas v) SortedAt
      (makes_gather store (codes "sorted") next between refl b.vector name at.vector ordering (record { sees = here.sees; below = below_more k next b.vector more below }) by)
      (λ rows later after on done left.
      makes_tell Base store (moved_to rows b) later after SortedAt
      (record { stands = record { vector = v; sees = done.sees; holds = holds }; below = done.below; clear = clear_gathered at.vector ordering out clear; same = record { columns = refl; aggregates = refl } })))
    where
      moved : (f : FromRow → Slot) → gathered (column f held) (slots_of (vectors.column out at.vector.len places).attributes out) ≡ column f sorted_held
      moved f = ap (gathered (column f held)) (first_slots out places []) ∙ order_law held (map (column_key texts) columns) f

-- The rows for which a truth holds are gathered, and stand at a base of their own.
use Rattle.std.proofs.Common.{◌≡◌, ◌∙◌, ℕ, Bool, List, [], length, refl, sym, ap, filter, Option, codes}
use Rattle.std.specs.Prelude.{slice_index_or}
use Rattle.std.proofs.lemmas.List.Elements.{All-nil, All-head}
use Rattle.control_vectors.specs.Controls.{Control}
use Rattle.control_vectors.specs.Slots.{Slot}
use Rattle.programs.specs.declared.family.FoldOperator.TheVariants as fold
use Rattle.programs.specs.declared.op.Op.TheVariants as op
use Rattle.programs.specs.declared.op.Size.TheVariants as size
use Rattle.programs.specs.Mentions.{Label}
use Rattle.programs.specs.Vectors.{Vector, Env, slots_of, known}
use Rattle.voodoo_ops.specs.Attributes.{upserted}
use Rattle.voodoo_ops.specs.Folds.{fold_select}
use Rattle.voodoo_ops.specs.Moves.{gather}
use Rattle.voodoo_ops.specs.Ranges.{ranged}
use Rattle.voodoo_ops.specs.Runs.{run_marks}
use Rattle.voodoo_ops.proofs.Marked.{length_marks}
use Rattle.slot_folds.specs.Folds.{holds, selected}
use Rattle.slot_moves.specs.Moves.{gathered}
use Rattle.typed_values.specs.Values.{On}
use Rattle.expr_steps.specs.Lowered.{Bytes}
use Rattle.held_rows.specs.Held.{Held, Told, Holds, present, column}
use Rattle.held_rows.specs.Laws.{Selection}
use Rattle.held_rows.specs.Vectors.{IsBeside}
use Rattle.held_rows.proofs.Selected.{select_law}
use Rattle.held_rows.proofs.VectorLaws.{vector_laws}
use Rattle.program_writers.specs.Names.{IsBelow}
use Rattle.program_writers.specs.Statements.{out, val, run, with_attribute, fold_args, fold_of, at_places}
use Rattle.program_writers.specs.Writers.{Writer, ◌>>=◌, make, tell}
use Rattle.plan_programs.specs.Sites.{Base, moved_to}
use Rattle.plan_programs.specs.Rows.{places_of}
use Rattle.plan_programs.specs.Rows as lowered
use Rattle.writer_runs.specs.Runs.{Makes, Sees}
use Rattle.writer_runs.proofs.Composed.{makes_tell, makes_bind, makes_one}
use Rattle.lowered_stages.specs.Laws.{Tells}
use Rattle.lowered_stages.specs.Stages.{StandsAt, Stands, told_of}
use Rattle.lowered_stages.specs.Parts.{SamePlaces}
use Rattle.lowered_kept.proofs.Delivering.{makes_more}
use Rattle.lowered_kept.proofs.Truths.{read_of, tells_still, stands_still}

-- a vector holds, for each of some runs, the places whose slot holds
record Picks {A : Type 0} (held : Held A) (f : A → Slot) (name : Label) (next : ℕ) (env : Env) : Type 0 where
  vector : Vector
  sees : Sees env name vector
  len : vector.len ≡ length held
  marks : List Bool
  many : length marks ≡ length held
  slots : slots_of vector.attributes out ≡ selected marks (column f held)
  below : IsBelow next name

-- a slot for each place, at `.val`
record Shows {A : Type 0} (held : Held A) (f : A → Slot) (name : Label) (next : ℕ) (env : Env) : Type 0 where
  vector : Vector
  sees : Sees env name vector
  len : vector.len ≡ length held
  slots : slots_of vector.attributes val ≡ column f held

-- as many places
record IsLong {A : Type 0} (held : Held A) (name : Label) (next : ℕ) (env : Env) : Type 0 where
  vector : Vector
  sees : Sees env name vector
  len : vector.len ≡ length held

module _ {A : Type 0} (held : Held A) (f : A → Slot) (store : Env) (select : Control) (all : Label) where
  abbrev runs_op : Label → Writer Label
  runs_op base = make (codes "runs") (op.Range (size.Of base) run select)

  abbrev pick_op : Label → Writer Label
  pick_op runs = make (codes "pick") (with_attribute runs val all out)

  abbrev select_op : Label → Writer Label
  select_op pick = make (codes "places") (fold_of fold.Select (fold_args pick))

  runs_make : (base : Label) (k : ℕ) (env : Env) → (known (env base)).len ≡ length held → Makes store (runs_op base) k env (IsLong held)
  runs_make base k env len =
      let v = ranged (known (env base)).len run select in
      makes_more store (runs_op base) k env (λ name next after. Sees after name v × IsBelow next name) (IsLong held)
      (λ name next after h. record { vector = v; sees = h.0; len = len })
      (makes_one store (codes "runs") (op.Range (size.Of base) run select) k env v refl refl)

  pick_makes : (runs : Label) (k : ℕ) (env : Env) (next : ℕ) → IsLong held runs next env → Tells held f all env → Makes store (pick_op runs) k env (Shows held f)
  pick_makes runs k env n long told =
      let v = upserted (known (env runs)) val (known (env all)) out in
      let nothing : Holds (known (env runs)) held [] = record { len = ap (λ (o : Option Vector). (known o).len) long.sees ∙ long.len; each = All-nil (λ (t : Told A). slots_of (known (env runs)).attributes t.0 ≡ column t.1 held) } in
      let shown = vector_laws.upsert (known (env runs)) (known (env all)) val out held f [] nothing (read_of held f all env told).slots (All-nil (IsBeside val)) in
      makes_more store (pick_op runs) k env (λ name next after. Sees after name v × IsBelow next name) (Shows held f)
      (λ name next after h. record { vector = v; sees = h.0; len = shown.len; slots = All-head (λ (t : Told A). slots_of v.attributes t.0 ≡ column t.1 held) (val, f) [] shown.each })
      (makes_one store (codes "pick") (with_attribute runs val all out) k env v refl refl)

  select_makes : (pick : Label) (k : ℕ) (env : Env) (next : ℕ) → Shows held f pick next env → Makes store (select_op pick) k env (Picks held f)
  select_makes pick k env n shown =
      let w = known (env pick) in
      let v = fold_select w (fold_args pick) in
      let len : w.len ≡ length held = ap (λ (o : Option Vector). (known o).len) shown.sees ∙ shown.len in
      let slots : slots_of w.attributes val ≡ column f held = ap (λ (o : Option Vector). slots_of (known o).attributes val) shown.sees ∙ shown.slots in
      makes_more store (select_op pick) k env (λ name next after. Sees after name v × IsBelow next name) (Picks held f)
      (λ name next after h. record { vector = v; sees = h.0; len = len; marks = run_marks w run; many = length_marks w run (run_marks w run) refl ∙ len; slots = ap (selected (run_marks w run)) slots; below = h.1 })
      (makes_one store (codes "places") (fold_of fold.Select (fold_args pick)) k env v refl refl)

  places_make : (base : Label) (k : ℕ) (env : Env) → (known (env base)).len ≡ length held → IsBelow k all → Tells held f all env → Makes store (places_of select base all) k env (Picks held f)
  places_make base k env len below told =
      makes_bind Label Label store (runs_op base) (λ runs. pick_op runs >>= select_op) k env (IsLong held) (Picks held f) (runs_make base k env len)
      (λ runs n between up long kept.
      makes_bind Label Label store (pick_op runs) select_op n between (Shows held f) (Picks held f)
      (pick_makes runs n between n long (tells_still held f k all env between kept below told))
      (λ pick m after more shown still. select_makes pick m after m shown))

module _ {A : Type 0} (texts : List Bytes) (on : A → On) (held : Held A) (b : Base) (f : A → Slot) (store : Env) where
  -- the rows that are left stand at the places of the others
  abbrev Left : ℕ → Base → ℕ → Env → Type 0
  Left len c next after = Stands texts c on len (filter (λ a. holds (f a)) (present held)) after × (IsBelow next c.vector × SamePlaces b c)

  abbrev rows_op : Label → Writer Label
  rows_op places = make (codes "rows") (at_places b.vector places)

  gather_makes : (places : Label) (k : ℕ) (env : Env) (next len : ℕ) → length held ≡ len → StandsAt texts env b on held → Picks held f places next env → Makes store (rows_op places) k env (λ rows. Left len (moved_to rows b))
  gather_makes places k env n len many st picks =
      let v = known (env b.vector) in
      let w = known (env places) in
      let g = gather v w out in
      let s : Selection f held (selected picks.marks (column f held)) = select_law f held picks.marks picks.many in
      let stands : Holds v held (told_of texts on b) = record { len = ap (λ (o : Option Vector). (known o).len) st.sees ∙ st.holds.len; each = λ i t l. ap (λ (o : Option Vector). slots_of (known o).attributes (slice_index_or (told_of texts on b) i t).0) st.sees ∙ st.holds.each i t l } in
      let long : w.len ≡ length s.kept = ap (λ (o : Option Vector). (known o).len) picks.sees ∙ picks.len ∙ sym s.is.len in
      let moves : (h : A → Slot) → gathered (column h held) (slots_of w.attributes out) ≡ column h s.kept =
      λ h. ap (λ (o : Option Vector). gathered (column h held) (slots_of (known o).attributes out)) picks.sees ∙ ap (gathered (column h held)) picks.slots ∙ s.is.moves h
      in
      let left = vector_laws.at_places v w out held s.kept (told_of texts on b) stands long s.is.len moves in
      makes_more store (rows_op places) k env (λ name next after. Sees after name g × IsBelow next name) (λ rows. Left len (moved_to rows b))
      (λ rows next after h.
      (record { held = s.kept; places = s.is.len ∙ many; rows_are = s.is.rows; at = record { vector = g; sees = h.0; holds = left } }, (h.1, record { columns = refl; aggregates = refl })))
      (makes_one store (codes "rows") (at_places b.vector places) k env g refl refl)

  pub selected_makes : (select : Control) (all : Label) (k : ℕ) (env : Env) (len : ℕ) → length held ≡ len → IsBelow k b.vector → StandsAt texts env b on held → IsBelow k all → Tells held f all env
      → Makes store (lowered.selected select b all) k env (Left len)
  selected_makes select all k env len many below st fresh told =
      let long : (known (env b.vector)).len ≡ length held = ap (λ (o : Option Vector). (known o).len) st.sees ∙ st.holds.len in
      makes_bind Label Base store (places_of select b.vector all) (λ places. rows_op places >>= λ rows. tell (moved_to rows b)) k env (Picks held f) (Left len)
      (places_make held f store select all b.vector k env long fresh told)
      (λ places n between up picks kept.
      makes_bind Label Base store (rows_op places) (λ rows. tell (moved_to rows b)) n between (λ rows. Left len (moved_to rows b)) (Left len)
      (gather_makes places n between n len many (stands_still texts on held b k env between kept below st) picks)
      (λ rows m after more left still. makes_tell Base store (moved_to rows b) m after (Left len) left))

-- The rows for which conditions are true: they are selected in the runs of one Range, and stand as they did.
use Rattle.std.proofs.Common.{◌≡◌, ℕ, ◌≤◌, Bool, true, List, [], ◌∷◌, ◌++◌, map, get_or, refl, ap, ◌∙◌, codes, Some, le_trans}
use Rattle.std.specs.Prelude.{All}
use Rattle.std.specs.List.{list_any}
use Rattle.std.proofs.lemmas.Bool.{or_right}
use Rattle.std.proofs.lemmas.List.Folds.{list_any-append}
use Rattle.control_vectors.specs.Controls.{Control}
use Rattle.control_vectors.specs.declared.PairKind.TheVariants as pair
use Rattle.programs.specs.declared.op.Statement.{Statement}
use Rattle.programs.specs.Families.{family}
use Rattle.programs.specs.Mentions.{Label}
use Rattle.programs.specs.Outlines.{Shapes, len_in}
use Rattle.typed_trees.specs.declared.typed.ColumnRef.{ColumnRef}
use Rattle.typed_trees.specs.declared.typed.TypedExpr.{TypedExpr}
use Rattle.expr_steps.specs.Lowered.{Bytes}
use Rattle.program_writers.specs.Names.{IsBelow, is_word}
use Rattle.program_writers.specs.Statements.{out, mark, attribute, at_places}
use Rattle.program_writers.specs.Statements as statements
use Rattle.program_writers.specs.Writers.{tell, ◌>>=◌, through, make}
use Rattle.program_writers.proofs.Numbers.{below_more}
use Rattle.plan_programs.specs.Rows.{everywhere, and_true, places_of, selected, kept}
use Rattle.plan_programs.specs.Sites.{Base, value_of, moved_to}
use Rattle.lowered_stages.specs.Parts.{SamePlaces}
use Rattle.attribute_origins.specs.Traces.{Origin, Trace, Traced, Traces, shapes_of}
use Rattle.attribute_origins.specs.Origins.{traced}
use Rattle.plan_obeyed.specs.Obeyed.{is_select}
use Rattle.lowered_obeys.proofs.Traced.{Knows, moved, paths_of, gather_traced}
use Rattle.lowered_obeys.proofs.Leaving.{Leaves, agrees_then, Each, tells, then_each, less_leaves, through_leaves, MakesIt}
use Rattle.lowered_obeys.proofs.Calm.{Calm, HasOut, plain_leaves, pair_leaves, value_leaves}
use Rattle.lowered_obeys.proofs.Selecting.{HasLength, places_leave}
use Rattle.lowered_obeys.proofs.Standing.{StandsIn, stands_still, gathered_stands, gathered_carries}

-- rows stand at another base with the same places
pub record StandsSame (m : ℕ) (place : ColumnRef → Origin) (b c : Base) (next : ℕ) (made : Traces) : Type 0 where
  pub stands : StandsIn m place c next made
  pub same : SamePlaces b c

-- where they were gathered from these attributes
pub record IsMoved (m : ℕ) (place : ColumnRef → Origin) (b : Base) (traces : List Trace) (len : ℕ) (c : Base) (next : ℕ) (made : Traces) : Type 0 where
  pub same : StandsSame m place b c next made
  pub len_is : same.stands.vector.len ≡ len
  pub traces_are : same.stands.vector.traces ≡ map (moved c.vector traces len) (paths_of traces)

pub all_below : (k l : ℕ) → k ≤ l → (os : List Origin) → All (λ o. IsBelow k o.vector) os → All (λ o. IsBelow l o.vector) os
all_below k l le os each = λ i d h. below_more k l (get_or os i d).vector le (each i d h)

module _ (T : Shapes) (select : Control) (groups : List Origin) where
  pub all_leave : (b : Base) (k : ℕ) (made : Traces) → Leaves T (everywhere b) k made HasOut (Each (Calm select groups))
  all_leave b k made = pair_leaves T select groups (codes "all") pair.Equals (attribute b.vector mark) (attribute b.vector mark) k made refl

  truth_leaves : (texts : List Bytes) (b : Base) (all : Label) (e : TypedExpr) (k : ℕ) (made : Traces) → Leaves T (and_true texts b all e) k made HasOut (Each (Calm select groups))
  truth_leaves texts b all e k made =
      then_each T (Calm select groups) (value_of texts (codes "where") b e) (λ value. make (codes "all") (statements.pair pair.LogicalAnd (attribute all out) (attribute value out))) k made HasOut HasOut (value_leaves T select groups texts (codes "where") b e k made refl)
      (λ value next between le h same. pair_leaves T select groups (codes "all") pair.LogicalAnd (attribute all out) (attribute value out) next between refl)

  truths_leave : (texts : List Bytes) (b : Base) (es : List TypedExpr) (all : Label) (k : ℕ) (made : Traces) → HasOut all k made → Leaves T (through (and_true texts b) all es) k made HasOut (Each (Calm select groups))
  truths_leave texts b es all k made h = through_leaves T (Calm select groups) (and_true texts b) (λ rest a. HasOut a) (λ e rest a l made2 g. truth_leaves texts b a e l made2) es all k made h

  -- what is gathered from a base
  pub moved_leaves : (m : ℕ) (place : ColumnRef → Origin) (word places : Label) (b : Base) (k : ℕ) (made : Traces) (u : Traced) → is_word word ≡ true → (h : StandsIn m place b k made) → Knows made places u
      → Leaves T (make word (at_places b.vector places) >>= λ rows. tell (moved_to rows b)) k made (IsMoved m place b h.vector.traces u.len) (Each (Calm select groups))
  moved_leaves m place word places b k made u w h e =
      let o = at_places b.vector places in
      then_each T (Calm select groups) (make word o) (λ rows. tell (moved_to rows b)) k made (MakesIt k (λ n. traced T made n o)) (IsMoved m place b h.vector.traces u.len) (plain_leaves T select groups word o k made w refl refl)
      (λ name next between le p same.
      let is = gather_traced T made name b.vector places out h.vector u h.known e in
      let there = p.known ∙ ap (λ (v : Traced). Some v) is in
      tells T (Calm select groups) (moved_to name b) next between (IsMoved m place b h.vector.traces u.len) (record {
        same = record {
          stands = record { vector = _; known = there; marks = gathered_stands m place b k made name u.len h; columns = λ c has. gathered_carries name h.vector.traces u.len _ (place c) (h.columns c has); below = p.below };
          same = record { columns = refl; aggregates = refl };
        };
        len_is = refl;
        traces_are = refl;
      }))

  selected_leaves : (m : ℕ) (place : ColumnRef → Origin) (b : Base) (all : Label) (k : ℕ) (made : Traces) → All (λ o. IsBelow k o.vector) groups → StandsIn m place b k made → HasOut all k made → Leaves T (selected select b all) k made (StandsSame m place b) (Each (Calm select groups))
  selected_leaves m place b all k made below h g =
      then_each T (Calm select groups) (places_of select b.vector all) (λ places. make (codes "rows") (at_places b.vector places) >>= λ rows. tell (moved_to rows b)) k made (HasLength (len_in (shapes_of made) b.vector)) (StandsSame m place b)
      (places_leave T select groups b.vector all k made below g)
      (λ places next between le p same.
      let again = stands_still m place b k next made between le same h in
      less_leaves T (make (codes "rows") (at_places b.vector places) >>= λ rows. tell (moved_to rows b)) next between (IsMoved m place b again.vector.traces p.vector.len) (StandsSame m place b) (Each (Calm select groups)) (Each (Calm select groups)) (λ c next2 after le2 same2 x. x.same) (λ final l x. x)
      (moved_leaves m place (codes "rows") places b next between p.vector refl again p.known))

  pub kept_leaves : (m : ℕ) (place : ColumnRef → Origin) (texts : List Bytes) (b : Base) (es : List TypedExpr) (k : ℕ) (made : Traces) → All (λ o. IsBelow k o.vector) groups → StandsIn m place b k made → Leaves T (kept select texts b es) k made (StandsSame m place b) (Each (Calm select groups))
  kept_leaves m place texts b [] k made below h = tells T (Calm select groups) b k made (StandsSame m place b) (record { stands = h; same = record { columns = refl; aggregates = refl } })
  kept_leaves m place texts b (e ∷ es) k made below h =
      then_each T (Calm select groups) (everywhere b) (λ all. through (and_true texts b) all (e ∷ es) >>= λ truth. selected select b truth) k made HasOut (StandsSame m place b) (all_leave b k made)
      (λ all next between le g same.
      then_each T (Calm select groups) (through (and_true texts b) all (e ∷ es)) (λ truth. selected select b truth) next between HasOut (StandsSame m place b) (truths_leave texts b (e ∷ es) all next between g)
      (λ truth last after le2 g2 same2.
      selected_leaves m place b truth last after (all_below k last (le_trans le le2) groups below) (stands_still m place b k last made after (le_trans le le2) (agrees_then k next made between after le same same2) h) g2))

  -- of any base the statements are as calm
  pub having_leaves : (texts : List Bytes) (b : Base) (es : List TypedExpr) (k : ℕ) (made : Traces) → All (λ o. IsBelow k o.vector) groups → Leaves T (kept select texts b es) k made (λ c next after. Unit {0}) (Each (Calm select groups))
  having_leaves texts b [] k made below = tells T (Calm select groups) b k made (λ c next after. Unit {0}) tt
  having_leaves texts b (e ∷ es) k made below =
      then_each T (Calm select groups) (everywhere b) (λ all. through (and_true texts b) all (e ∷ es) >>= λ truth. selected select b truth) k made HasOut (λ c next after. Unit {0}) (all_leave b k made)
      (λ all next between le g same.
      then_each T (Calm select groups) (through (and_true texts b) all (e ∷ es)) (λ truth. selected select b truth) next between HasOut (λ c l after. Unit {0}) (truths_leave texts b (e ∷ es) all next between g)
      (λ truth last after le2 g2 same2.
      then_each T (Calm select groups) (places_of select b.vector truth) (λ places. make (codes "rows") (at_places b.vector places) >>= λ rows. tell (moved_to rows b)) last after (HasLength (len_in (shapes_of after) b.vector)) (λ c l now. Unit {0})
      (places_leave T select groups b.vector truth last after (all_below k last (le_trans le le2) groups below) g2)
      (λ places end now le3 p same3.
      let o = at_places b.vector places in
      then_each T (Calm select groups) (make (codes "rows") o) (λ rows. tell (moved_to rows b)) end now (MakesIt end (λ n. traced T now n o)) (λ c l here. Unit {0}) (plain_leaves T select groups (codes "rows") o end now refl refl refl)
      (λ rows stop here le4 q same4. tells T (Calm select groups) (moved_to rows b) stop here (λ c l x. Unit {0}) tt))))

-- ---- where there is a condition, something selects

selects : List Statement → Bool
selects l = list_any (λ s. is_select (family s.op)) l

pub kept_selects : (select : Control) (texts : List Bytes) (b : Base) (e : TypedExpr) (es : List TypedExpr) (k : ℕ) → list_any (λ s. is_select (family s.op)) (kept select texts b (e ∷ es) k).statements ≡ true
unfolding selects
kept_selects select texts b e es k =
    let first = everywhere b k in
    let second = through (and_true texts b) first.told (e ∷ es) first.next in
    let third = selected select b second.told second.next in
    list_any-append (λ s. is_select (family s.op)) first.statements (second.statements ++ third.statements)
    ∙ or_right (selects first.statements) (selects (second.statements ++ third.statements)) (list_any-append (λ s. is_select (family s.op)) second.statements third.statements ∙ or_right (selects second.statements) (selects third.statements) refl)

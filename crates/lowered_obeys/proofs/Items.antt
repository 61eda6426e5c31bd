-- The items in order: nothing is folded any more.
use Rattle.std.proofs.Common.{◌≡◌, ℕ, ◌+◌, true, false, List, map, refl, codes, le_refl}
use Rattle.std.specs.List.{enumerate_from}
use Rattle.control_vectors.specs.Controls.{Control}
use Rattle.programs.specs.declared.op.Op.{Op}
use Rattle.programs.specs.declared.op.Op.TheVariants as op
use Rattle.programs.specs.Families.{family, Order, Persist}
use Rattle.programs.specs.Mentions.{Label, is_persist}
use Rattle.programs.specs.Outlines.{Shapes}
use Rattle.typed_trees.specs.declared.typed.KeyRef.{KeyRef}
use Rattle.typed_trees.specs.declared.typed.KeyRef.TheVariants.{Item, Column}
use Rattle.typed_trees.specs.declared.typed.OrderKey.{OrderKey}
use Rattle.typed_trees.specs.declared.typed.TypedExpr.{TypedExpr}
use Rattle.expr_steps.specs.Lowered.{Bytes}
use Rattle.program_writers.specs.Names.{is_word}
use Rattle.program_writers.specs.Statements.{out, mark, with_attribute, at_places}
use Rattle.program_writers.specs.Writers.{Writer, ◌>>=◌, through, make, show, numbered, statement}
use Rattle.plan_programs.specs.Items.{item_path, mark_alone, item_of, items_of, order_path, key_of, numbered_key, keys_of, key_by, in_order, answered}
use Rattle.plan_programs.specs.Sites.{Base, path_in, value_of}
use Rattle.attribute_origins.specs.Traces.{Origin, Traces}
use Rattle.attribute_origins.specs.Origins.{traced}
use Rattle.lowered_obeys.proofs.Leaving.{Leaves, less_leaves, Each, then_each, through_leaves, make_leaves, MakesIt}
use Rattle.lowered_obeys.proofs.Calm.{Settled, Calm, is_plain, plain_calm, order_settled, one_each, HasOut, plain_leaves, value_leaves}
use Rattle.lowered_obeys.proofs.Aggregates.{Anything}

module _ (T : Shapes) (select : Control) (groups : List Origin) where
  pub settle : {A : Type 0} (m : Writer A) (k : ℕ) (made : Traces) (P : A → ℕ → Traces → Type 0) → Leaves T m k made P (Each (Calm select groups)) → Leaves T m k made Anything (Each (Settled select groups))
  settle m k made P g = less_leaves T m k made P Anything (Each (Settled select groups)) (Each (Calm select groups)) (λ a next after le same h. tt) (λ final l h. λ i d less. (h i d less).settled) g

  -- one statement
  plain_settles : (word : Label) (o : Op) (k : ℕ) (made : Traces) → is_word word ≡ true → is_persist o ≡ false → is_plain (family o) ≡ true → Leaves T (make word o) k made Anything (Each (Settled select groups))
  plain_settles word o k made w shows plain = settle (make word o) k made (MakesIt k (λ n. traced T made n o)) (plain_leaves T select groups word o k made w shows plain)

  -- ---- the items

  item_settles : (texts : List Bytes) (b : Base) (items : Label) (n : ℕ) (e : TypedExpr) (k : ℕ) (made : Traces) → Leaves T (item_of texts b items (n, e)) k made Anything (Each (Settled select groups))
  item_settles texts b items n e k made =
      then_each T (Settled select groups) (value_of texts (codes "item") b e) (λ value. make (codes "items") (with_attribute items (item_path n) value out)) k made Anything Anything (settle (value_of texts (codes "item") b e) k made HasOut (value_leaves T select groups texts (codes "item") b e k made refl))
      (λ value next between le x same. plain_settles (codes "items") (with_attribute items (item_path n) value out) next between refl refl refl)

  items_settle : (texts : List Bytes) (b : Base) (items : List TypedExpr) (k : ℕ) (made : Traces) → Leaves T (items_of texts b items) k made Anything (Each (Settled select groups))
  items_settle texts b items k made =
      then_each T (Settled select groups) (mark_alone (codes "items") b.vector) (λ vector. through (item_of texts b) vector (enumerate_from 1 items)) k made Anything Anything (plain_settles (codes "items") (op.Project b.vector mark mark) k made refl refl refl)
      (λ vector next between le x same. through_leaves T (Settled select groups) (item_of texts b) (λ rest a l after. Unit {0}) (λ e rest a l after y. item_settles texts b a e.0 e.1 l after) (enumerate_from 1 items) vector next between tt)

  -- ---- in order

  key_settles : (b : Base) (items keys : Label) (j : ℕ) (key : KeyRef) (k : ℕ) (made : Traces) → Leaves T (key_of b items keys j key) k made Anything (Each (Settled select groups))
  key_settles b items keys j (Item n) k made = plain_settles (codes "keys") (with_attribute keys (order_path j) items (item_path (n + 1))) k made refl refl refl
  key_settles b items keys j (Column c) k made = plain_settles (codes "keys") (with_attribute keys (order_path j) b.vector (path_in b c)) k made refl refl refl

  keys_settle : (b : Base) (items : Label) (keys : List OrderKey) (k : ℕ) (made : Traces) → Leaves T (keys_of b items keys) k made Anything (Each (Settled select groups))
  keys_settle b items keys k made =
      then_each T (Settled select groups) (mark_alone (codes "keys") b.vector) (λ vector. through (numbered_key b items) vector (enumerate_from 0 keys)) k made Anything Anything (plain_settles (codes "keys") (op.Project b.vector mark mark) k made refl refl refl)
      (λ vector next between le x same. through_leaves T (Settled select groups) (numbered_key b items) (λ rest a l after. Unit {0}) (λ e rest a l after y. key_settles b items a e.0 e.1.key l after) (enumerate_from 0 keys) vector next between tt)

  order_settles : (b : Base) (items : Label) (keys : List OrderKey) (k : ℕ) (made : Traces) → Leaves T (in_order b items keys) k made Anything (Each (Settled select groups))
  order_settles b items keys k made =
      then_each T (Settled select groups) (keys_of b items keys) (λ by. make (codes "order") (op.Order by mark out (map key_by (enumerate_from 0 keys))) >>= λ order. make (codes "answer") (at_places items order)) k made Anything Anything (keys_settle b items keys k made)
      (λ by next between le x same.
      let o = op.Order by mark out (map key_by (enumerate_from 0 keys)) in
      then_each T (Settled select groups) (make (codes "order") o) (λ order. make (codes "answer") (at_places items order)) next between (MakesIt next (λ n. traced T between n o)) Anything
      (make_leaves T (codes "order") o next between (Each (Settled select groups)) refl refl (λ final same2 there. one_each (Settled select groups) final (statement (numbered (codes "order") next) o) (order_settled select groups final (Order by mark out (map key_by (enumerate_from 0 keys))) refl)))
      (λ order last after le2 y same2. plain_settles (codes "answer") (at_places items order) last after refl refl refl))

  -- the result makes no vector
  show_settles : (name a : Label) (k : ℕ) (made : Traces) → Leaves T (show name (op.Persist a)) k made Anything (Each (Settled select groups))
  show_settles name a k made = record { holds = tt; kept = λ n below. refl; ascends = le_refl k; stands = λ final same. one_each (Settled select groups) final (statement name (op.Persist a)) (plain_calm select groups final (Persist a) refl).settled }

  pub answered_settles : (texts : List Bytes) (b : Base) (items : List TypedExpr) (keys : List OrderKey) (k : ℕ) (made : Traces) → Leaves T (answered texts b items keys) k made Anything (Each (Settled select groups))
  answered_settles texts b items keys k made =
      then_each T (Settled select groups) (items_of texts b items) (λ vector. in_order b vector keys >>= λ answer. show (codes "answer") (op.Persist answer)) k made Anything Anything (items_settle texts b items k made)
      (λ vector next between le x same.
      then_each T (Settled select groups) (in_order b vector keys) (λ answer. show (codes "answer") (op.Persist answer)) next between Anything Anything (order_settles b vector keys next between)
      (λ answer last after le2 y same2. show_settles (codes "answer") answer last after))

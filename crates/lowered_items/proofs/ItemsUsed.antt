-- The items' vector reaches that of the base.
use Rattle.std.proofs.Common.{ℕ, ◌+◌, List, [], ◌∷◌, refl, map, codes}
use Rattle.std.specs.List.{enumerate_from}
use Rattle.programs.specs.declared.op.Op.TheVariants as op
use Rattle.programs.specs.Mentions.{Label}
use Rattle.typed_trees.specs.declared.typed.KeyRef.{KeyRef}
use Rattle.typed_trees.specs.declared.typed.KeyRef.TheVariants.{Item, Column}
use Rattle.typed_trees.specs.declared.typed.OrderKey.{OrderKey}
use Rattle.typed_trees.specs.declared.typed.TypedExpr.{TypedExpr}
use Rattle.expr_steps.specs.Lowered.{Bytes}
use Rattle.program_writers.specs.Statements.{out, mark, with_attribute, at_places}
use Rattle.program_writers.specs.Writers.{Writer, tell, ◌>>=◌, through, make, numbered}
use Rattle.writer_runs.proofs.Used.{beside}
use Rattle.plan_programs.specs.Sites.{Base, path_in, value_of}
use Rattle.plan_programs.specs.Items.{item_path, item_of, items_of, order_path, key_of, numbered_key, keys_of, key_by, in_order}
use Rattle.lowered_kept.specs.Values.{ValueUses}
use Rattle.lowered_items.specs.Items.{ItemsUse}
use Rattle.lowered_items.proofs.Used.{UsesAt, here, there, includes_one, includes_more, fewer, then_used, last_used, used_then, idle_then, nothing_used, through_used, through_idle}

-- ---- items

module _ (values : ValueUses) (texts : List Bytes) (b : Base) where
  item_used : (items : Label) (x : ℕ × TypedExpr) (k : ℕ) → UsesAt ((item_of texts b items x k).told ∷ []) (items ∷ []) (item_of texts b items x) k
  item_used items (j, e) k =
      let m = value_of texts (codes "item") b e in
      let value = (m k).told in
      let name = numbered (codes "items") (m k).next in
      then_used (λ value. make (codes "items") (with_attribute items (item_path j) value out)) (name ∷ []) (value ∷ items ∷ []) (items ∷ []) m k
      (fewer (value ∷ items ∷ []) (b.vector ∷ items ∷ []) (items ∷ []) m k (includes_one (b.vector ∷ items ∷ []) items (there b.vector items (items ∷ []) (here items [])))
      (beside (value ∷ []) (b.vector ∷ []) (items ∷ []) (m k).statements (values texts (codes "item") b e k)))
      (last_used (codes "items") (with_attribute items (item_path j) value out) (m k).next (name ∷ []) (value ∷ items ∷ []) (here name [])
      (includes_more (items ∷ value ∷ name ∷ []) value (items ∷ []) (there items value (value ∷ name ∷ []) (here value (name ∷ [])))
      (includes_one (items ∷ value ∷ name ∷ []) items (here items (value ∷ name ∷ [])))))

  pub items_used : (items : List TypedExpr) (k : ℕ) → UsesAt ((items_of texts b items k).told ∷ []) (b.vector ∷ []) (items_of texts b items) k
  items_used items k =
      let name = numbered (codes "items") k in
      let rest : Label → Writer Label = λ vector. through (item_of texts b) vector (enumerate_from 1 items) in
      used_then (codes "items") (op.Project b.vector mark mark) rest k ((rest name (k + 1)).told ∷ []) (name ∷ []) (b.vector ∷ []) (here name [])
      (includes_one (b.vector ∷ name ∷ []) b.vector (here b.vector (name ∷ [])))
      (through_used (λ (l : Label). l) (item_of texts b) item_used (enumerate_from 1 items) name (k + 1))

-- ---- in order: keys are never Over

module _ (b : Base) (items : Label) where
  key_idle : (wanted : List Label) (keys : Label) (x : ℕ × OrderKey) (k : ℕ) → UsesAt wanted wanted (numbered_key b items keys x) k
  key_idle wanted keys (j, x) k = by x.key
    where
      by : (r : KeyRef) → UsesAt wanted wanted (key_of b items keys j r) k
      by (Item n) = idle_then (codes "keys") (with_attribute keys (order_path j) items (item_path (n + 1))) tell k wanted wanted refl (nothing_used wanted)
      by (Column c) = idle_then (codes "keys") (with_attribute keys (order_path j) b.vector (path_in b c)) tell k wanted wanted refl (nothing_used wanted)

  keys_idle : (keys : List OrderKey) (wanted : List Label) (k : ℕ) → UsesAt wanted wanted (keys_of b items keys) k
  keys_idle keys wanted k =
      idle_then (codes "keys") (op.Project b.vector mark mark) (λ vector. through (numbered_key b items) vector (enumerate_from 0 keys)) k wanted wanted refl
      (through_idle (numbered_key b items) wanted (key_idle wanted) (enumerate_from 0 keys) (numbered (codes "keys") k) (k + 1))

  pub in_order_used : (keys : List OrderKey) (k : ℕ) → UsesAt ((in_order b items keys k).told ∷ []) (items ∷ []) (in_order b items keys) k
  in_order_used keys k =
      let w = keys_of b items keys k in
      let order = numbered (codes "order") w.next in
      let name = numbered (codes "answer") (w.next + 1) in
      then_used (λ by. make (codes "order") (op.Order by mark out (map key_by (enumerate_from 0 keys))) >>= λ order. make (codes "answer") (at_places items order))
      (name ∷ []) (items ∷ []) (items ∷ []) (keys_of b items keys) k (keys_idle keys (items ∷ []) k)
      (idle_then (codes "order") (op.Order w.told mark out (map key_by (enumerate_from 0 keys))) (λ order. make (codes "answer") (at_places items order)) w.next (name ∷ []) (items ∷ []) refl
      (last_used (codes "answer") (at_places items order) (w.next + 1) (name ∷ []) (items ∷ []) (here name []) (includes_one (items ∷ order ∷ name ∷ []) items (here items (order ∷ name ∷ [])))))

pub items_use : ItemsUse
items_use values texts b items keys k =
    let w = items_of texts b items k in
    then_used (λ vector. in_order b vector keys) ((in_order b w.told keys w.next).told ∷ []) (w.told ∷ []) (b.vector ∷ []) (items_of texts b items) k (items_used values texts b items k)
    (in_order_used b w.told keys w.next)

-- The items of a query for each row or group, in order.
-- After SQL-92 (ISO/IEC 9075:1992), 7.9 <query specification> and 13.1 <order by clause>.
use Rattle.std.specs.Prelude.{ℕ, ◌+◌, List, ◌++◌, map, codes}
use Rattle.std.specs.Fmt.{decimal}
use Rattle.std.specs.List.{enumerate_from}
use Rattle.programs.specs.declared.op.Op.TheVariants as op
use Rattle.programs.specs.declared.order_keys.OrderPath.{OrderPath}
use Rattle.programs.specs.Mentions.{Label}
use Rattle.typed_trees.specs.declared.typed.KeyRef.{KeyRef}
use Rattle.typed_trees.specs.declared.typed.KeyRef.TheVariants.{Item, Column}
use Rattle.typed_trees.specs.declared.typed.OrderKey.{OrderKey}
use Rattle.typed_trees.specs.declared.typed.TypedExpr.{TypedExpr}
use Rattle.expr_steps.specs.Lowered.{Bytes}
use Rattle.program_writers.specs.Writers.{Writer, ◌>>=◌, through, make, show}
use Rattle.program_writers.specs.Statements.{out, mark, with_attribute, at_places}
use Rattle.plan_programs.specs.Sites.{Base, path_in, value_of}

-- items count from 1
abbrev pub item_path : ℕ → Label
item_path k = codes ".c" ++ decimal k

-- the mark of a vector alone
abbrev pub mark_alone : Label → Label → Writer Label
mark_alone word vector = make word (op.Project vector mark mark)

abbrev pub item_of : List Bytes → Base → Label → ℕ × TypedExpr → Writer Label
item_of texts b items (k, e) = do
  value ← value_of texts (codes "item") b e
  make (codes "items") (with_attribute items (item_path k) value out)

-- the items alone, with the mark
abbrev pub items_of : List Bytes → Base → List TypedExpr → Writer Label
items_of texts b items = do
  vector ← mark_alone (codes "items") b.vector
  through (item_of texts b) vector (enumerate_from 1 items)

-- ---- in order

abbrev pub order_path : ℕ → Label
order_path j = codes ".key" ++ decimal j

-- an item, or a column
abbrev pub key_of : Base → Label → Label → ℕ → KeyRef → Writer Label
key_of b items keys j (Item n) = make (codes "keys") (with_attribute keys (order_path j) items (item_path (n + 1)))
key_of b items keys j (Column c) = make (codes "keys") (with_attribute keys (order_path j) b.vector (path_in b c))

abbrev pub numbered_key : Base → Label → Label → ℕ × OrderKey → Writer Label
numbered_key b items keys (j, k) = key_of b items keys j k.key

abbrev pub keys_of : Base → Label → List OrderKey → Writer Label
keys_of b items keys = do
  vector ← mark_alone (codes "keys") b.vector
  through (numbered_key b items) vector (enumerate_from 0 keys)

abbrev pub key_by : ℕ × OrderKey → OrderPath
key_by (j, k) = record { path = order_path j; descending = k.descending }

abbrev pub in_order : Base → Label → List OrderKey → Writer Label
in_order b items keys = do
  by ← keys_of b items keys
  order ← make (codes "order") (op.Order by mark out (map key_by (enumerate_from 0 keys)))
  make (codes "answer") (at_places items order)

-- the one result
abbrev pub answered : List Bytes → Base → List TypedExpr → List OrderKey → Writer (Unit {0})
answered texts b items keys = do
  vector ← items_of texts b items
  answer ← in_order b vector keys
  show (codes "answer") (op.Persist answer)

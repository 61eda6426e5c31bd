use Rattle.std.proofs.Common.{◌≡◌, take, length}
use Rattle.std.specs.Prelude.{All}
use Rattle.programs.specs.Vectors.{seen}
use Rattle.answer_texts.specs.Texts.{item_types}
use Rattle.answer_print.specs.Held.{item_columns}
use Rattle.answer_print.specs.Shown.{seen_items}
use Rattle.answer_print.proofs.items.items_of.Given as goal

abbrev pub invariant-loop-k : goal.invariant-loop-k
invariant-loop-k l = record {
  columns : seen_items l.items.items ≡ item_columns (seen l.v) 1 (take l.k (item_types l.q));
  long : All (λ it. length it.column.now.slots ≡ l.v.length) l.items.items;
}

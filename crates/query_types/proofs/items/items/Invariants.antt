use Rattle.std.proofs.Common.{◌≡◌, drop}
use Rattle.query_types.specs.Items.{items, nothing_shown, IsShort}
use Rattle.query_types.specs.Names.{seen}
use Rattle.query_types.proofs.items.items.Given as goal

abbrev pub invariant-loop-x : goal.invariant-loop-x
invariant-loop-x l = record { so_far : items (seen l.scope) nothing_shown l.list l.fn.aggregates ≡ items (seen l.scope) l.shown (drop l.x-index l.list) l.aggregates; short : IsShort l.shown }

use Rattle.std.proofs.Common.{◌≡◌, drop}
use Rattle.query_types.specs.Items.{star_items, nothing_shown, IsShort}
use Rattle.query_types.specs.Names.{seen}
use Rattle.query_types.proofs.items.star_items.Given as goal

abbrev pub invariant-loop-f : goal.invariant-loop-f
invariant-loop-f l = record { so_far : star_items (seen l.scope) l.at nothing_shown l.all ≡ star_items (seen l.scope) l.at l.shown (drop l.f-index l.all); short : IsShort l.shown }

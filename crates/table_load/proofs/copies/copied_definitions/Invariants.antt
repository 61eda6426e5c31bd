use Rattle.std.proofs.Common.{◌≡◌, take}
use Rattle.table_load.proofs.copies.copied_definitions.Given as goal

abbrev pub invariant-loop-def : goal.invariant-loop-def
invariant-loop-def l = l.copies.items ≡ take l.def-index l.defs

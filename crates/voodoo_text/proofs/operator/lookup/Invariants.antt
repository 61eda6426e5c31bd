use Rattle.std.proofs.Common.{◌≡◌, length, map}
use Rattle.voodoo_text.specs.Operators.{lookup}
use Rattle.voodoo_text.proofs.operator.lookup.Given as goal

abbrev pub invariant-loop-table : goal.invariant-loop-table
invariant-loop-table l = lookup (map (λ o. (o.0.now, o.1)) l.table) l.word ≡ lookup (map (λ o. (o.0.now, o.1)) l.initial.table) l.word

abbrev pub decreases-loop-table : goal.decreases-loop-table
decreases-loop-table l = length l.table

use Rattle.std.proofs.Common.{◌≡◌, ◌++◌, length, map}
use Rattle.std.specs.List.{flat_map}
use Rattle.voodoo_text.specs.Arguments.{argument_text}
use Rattle.voodoo_text.specs.Canonical.{after_comma}
use Rattle.voodoo_text.proofs.argument.write_others.Given as goal

abbrev pub invariant-others : goal.invariant-others
invariant-others l = l.out.items ++ flat_map after_comma (map argument_text l.rest) ≡ l.fn.out.items ++ flat_map after_comma (map argument_text l.fn.arguments)

abbrev pub decreases-others : goal.decreases-others
decreases-others l = length l.rest

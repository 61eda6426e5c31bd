use Rattle.std.proofs.Common.{◌≡◌, ◌++◌, length, map}
use Rattle.std.specs.List.{flat_map}
use Rattle.voodoo_text.specs.Canonical.{after_comma, key_text}
use Rattle.voodoo_text.specs.Spelled.{KeysInRange}
use Rattle.voodoo_text.proofs.argument.write_keys.Given as goal

abbrev pub invariant-keys : goal.invariant-keys
invariant-keys l = record {
  text : l.out.items ++ flat_map after_comma (map key_text l.rest) ≡ l.fn.out.items ++ flat_map after_comma (map key_text l.fn.keys);
  ranges : KeysInRange l.rest → KeysInRange l.fn.keys;
}

abbrev pub decreases-keys : goal.decreases-keys
decreases-keys l = length l.rest

use Rattle.std.proofs.Common.{◌≡◌, ◌+◌, length}
use Rattle.voodoo_text.specs.Lexis.{inner_len}
use Rattle.voodoo_text.proofs.lexis.inner_len.Given as goal

abbrev pub invariant-bytes : goal.invariant-bytes
invariant-bytes l = record {
  value : l.len + inner_len l.rest ≡ inner_len l.fn.z;
  within : l.len + length l.rest ≡ length l.fn.z;
}

abbrev pub decreases-bytes : goal.decreases-bytes
decreases-bytes l = length l.rest

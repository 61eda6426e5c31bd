use Rattle.std.proofs.Common.{◌≡◌, ◌≤◌, length}
use Rattle.voodoo_text.specs.Tokens.{tokens_from}
use Rattle.voodoo_text.proofs.line.skip_blanks.Given as goal

abbrev pub invariant-blanks : goal.invariant-blanks
invariant-blanks l = record {
  same : tokens_from l.fn.after_name 0 l.fn.z ≡ tokens_from l.directly 0 l.rest;
  within : length l.rest ≤ length l.fn.z;
}

abbrev pub decreases-blanks : goal.decreases-blanks
decreases-blanks l = length l.rest

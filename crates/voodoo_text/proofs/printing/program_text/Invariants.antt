use Rattle.std.proofs.Common.{◌≡◌, ◌++◌, length}
use Rattle.voodoo_text.specs.Canonical.{text_of}
use Rattle.voodoo_text.specs.Spelled.{HasRanges}
use Rattle.voodoo_text.proofs.printing.program_text.Given as goal

abbrev pub invariant-statements : goal.invariant-statements
invariant-statements l = record {
  text : l.text.items ++ text_of l.rest ≡ text_of l.fn.p;
  ranges : HasRanges l.rest → HasRanges l.fn.p;
}

abbrev pub decreases-statements : goal.decreases-statements
decreases-statements l = length l.rest

use Rattle.std.proofs.Common.{◌≡◌, ◌+◌, ◌≤◌, length}
use Rattle.voodoo_text.specs.Reading.{lines, onto, read_lines}
use Rattle.voodoo_text.specs.Spelled.{CanBeSpelled}
use Rattle.voodoo_text.proofs.read_text.read_lines.Given as goal

abbrev pub invariant-lines : goal.invariant-lines
invariant-lines l = record {
  so_far : onto l.statements.items l.numbers.items (read_lines l.number (lines l.rest)) ≡ read_lines 1 (lines l.fn.bytes);
  from : 1 ≤ l.number;
  room : l.number + length l.rest ≤ length l.fn.bytes + 1;
  names : CanBeSpelled l.statements.items;
}

abbrev pub decreases-lines : goal.decreases-lines
decreases-lines l = length l.rest

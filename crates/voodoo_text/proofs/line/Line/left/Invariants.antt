use Rattle.std.proofs.Common.{◌≡◌, ◌+◌, length}
use Rattle.voodoo_text.proofs.line.Line.left.Given as goal

abbrev pub invariant-tokens : goal.invariant-tokens
invariant-tokens l = l.count + length l.ahead ≡ length l.fn.self

abbrev pub decreases-tokens : goal.decreases-tokens
decreases-tokens l = length l.ahead

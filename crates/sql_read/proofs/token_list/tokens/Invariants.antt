use Rattle.std.proofs.Common.{◌≡◌, ◌≤◌, ◌+◌, ◌-◌, ◌++◌, length, vec_len}
use Rattle.sql_read.specs.Tokens.{tokens_from, limited}
use Rattle.sql_read.proofs.token_list.tokens.Given as goal

abbrev pub invariant-loop-z : goal.invariant-loop-z
invariant-loop-z l = record {
  so_far : l.out.items ++ limited (l.limit - vec_len l.out) (tokens_from 0 l.at l.z) ≡ limited l.limit (tokens_from 0 0 l.text);
  room : vec_len l.out ≤ l.limit;
  place : l.at + length l.z ≡ length l.text;
}

abbrev pub decreases-loop-z : goal.decreases-loop-z
decreases-loop-z l = length l.z

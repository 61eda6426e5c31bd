use Rattle.std.proofs.Common.{◌≡◌, string_bytes, take, flat_map, encode_utf8}
use Rattle.std.specs.Char.{to_ascii_lowercase}
use Rattle.sql_read.proofs.words.lower_case.Given as goal

abbrev pub invariant-loop-b : goal.invariant-loop-b
invariant-loop-b l = string_bytes l.name ≡ flat_map (λ b. encode_utf8 (to_ascii_lowercase b)) (take l.b-index l.word)

-- The worked lines, by computation.
use Rattle.std.proofs.Common.{◌≡◌, true, lit<, refl}
use Rattle.std.specs.Prelude.{codes, nat_lt}
use Rattle.std.specs.List.{list_all}
use Rattle.std.specs.Str.{is_utf8}
use Rattle.std.proofs.lemmas.Bool.{ltb-true}
use Rattle.std.proofs.lemmas.Fmt.{decimal_digit}
use Rattle.std.proofs.lemmas.Str.{IsUtf8-from_ascii, is_utf8-from_IsUtf8}
use Rattle.key_paths.proofs.Bools.{all_ascii}
use Rattle.voodoo_text.specs.Values.{Bytes}
use Rattle.phrases.specs.Parsers.{turns}
use Rattle.voodoo_text.specs.Kinds.{same_kind}
use Rattle.voodoo_text.specs.Lexis.{front, sign}
use Rattle.voodoo_text.specs.Operators.{operator_of}
use Rattle.voodoo_text.specs.Places as p
use Rattle.voodoo_text.specs.Statements as st
use Rattle.voodoo_text.specs.Reading.{read_text}
use Rattle.voodoo_text.specs.Examples.{WorkedLines}
use Rattle.key_paths.specs.Paths.{is_path}

utf8 : (w : Bytes) → list_all (λ b. nat_lt b 128) w ≡ true → is_utf8 w ≡ true
utf8 w h = is_utf8-from_IsUtf8 w (IsUtf8-from_ascii w (all_ascii (λ b. nat_lt b 128) (λ b t. ltb-true b 128 t) w h))

pub worked_lines : WorkedLines
unfolding turns same_kind front sign operator_of p.expect p.attribute p.control p.number p.column p.operand p.size p.descends p.key p.another_key p.keys st.load st.range st.cross st.zip st.project st.upsert st.gather st.scatter st.rank st.materialize st.fold st.order st.pair st.bit_shift st.single st.arguments st.operator st.assigned st.persisted st.after_word st.statement_of st.at_end st.line_of read_text is_path
worked_lines = record {
  load = refl;
  persist = refl;
  name_persist = refl;
  range = refl;
  cross = refl;
  zip = refl;
  project = refl;
  upsert = refl;
  gather = refl;
  scatter = refl;
  rank = refl;
  materialize = refl;
  fold = refl;
  order = refl;
  pair = refl;
  bit_shift = refl;
  alias = refl;
  parted = refl;
  shift = refl;
  not_admissible = refl;
  no_token = refl;
  three_lines = rw (utf8 (codes "t = Load(t)\nv = BitShift(t.a, 128, .h)\n$\n") refl) refl;
  lines = rw (utf8 (codes "\nt = Load(t)\n # the answer\nPersist(out, t)") refl) refl;
  printed = rw (decimal_digit 0 (lit< tt), decimal_digit 1 (lit< tt)) refl;
}

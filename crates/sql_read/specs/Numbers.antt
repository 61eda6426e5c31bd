-- What a number is like as a token, whatever the text: its digits make at most 2^127 - 1, and at most 18 of them stand after its point.
use Rattle.std.specs.Prelude.{◌≤◌}
use Rattle.sql_read.specs.declared.token_list.Token.{Token}
use Rattle.sql_read.specs.Lexis.{max_integer, max_scale}

-- a token that is no number has the value 0 and the scale 0
pub record IsMeasured (t : Token) : Type 0 where
  pub value : t.value ≤ max_integer
  pub scale : t.scale ≤ max_scale

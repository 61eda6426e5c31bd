-- What a text literal is like as a token, whatever the text: it begins and ends with a quote.
use Rattle.std.specs.Prelude.{◌≡◌, ℕ, ◌-◌, ◌≤◌, length, drop, slice_index}
use Rattle.sql_read.specs.declared.kind.Kind.TheVariants as k
use Rattle.sql_read.specs.declared.token_list.Token.{Token}
use Rattle.sql_read.specs.Lexis.{Bytes}

-- so many bytes at the front, the first and the last a quote
pub record IsClosed (z : Bytes) (n : ℕ) : Type 0 where
  pub two : 2 ≤ n
  pub within : n ≤ length z
  pub first : slice_index z 0 ≡ 39
  pub end : slice_index z (n - 1) ≡ 39

abbrev pub IsLiteralAt : Bytes → Token → Type 0
IsLiteralAt text t = t.kind ≡ k.Quoted → IsClosed (drop t.at text) t.len

-- The values of text literals. After SQL-92 (ISO/IEC 9075:1992), 5.3 <character string literal>.
use Rattle.std.specs.Prelude.{◌≡◌, ℕ, ◌-◌, ◌==◌, ◌&&◌, if◌then◌else◌, [], ◌∷◌, take, drop}
use Rattle.std.specs.List.{All}
use Rattle.std.specs.Str.{IsUtf8}
use Rattle.std.specs.Str.Lossy.{utf8_lossy}
use Rattle.sql_read.specs.declared.kind.Kind.TheVariants as k
use Rattle.sql_read.specs.declared.token_list.Token.{Token}
use Rattle.sql_read.specs.Lexis.{Bytes}
use Rattle.sql_read.specs.Schema.{extent}
use Rattle.sql_read.specs.Tokens.{tokens}
use Rattle.query_read.specs.Marked.{marked}

-- what stands between the quotes of a literal
abbrev pub inner : Bytes → Token → Bytes
inner text t = take (t.len - 2) (drop 1 (extent text t))

-- two quotes in a row are one
unfoldable pub single_quoted : Bytes → Bytes
single_quoted [] = []
single_quoted (b ∷ []) = b ∷ []
single_quoted (b ∷ c ∷ z) = if b == 39 && c == 39 then 39 ∷ single_quoted z else b ∷ single_quoted (c ∷ z)

-- The value of a text literal. A name of text is UTF-8, and so is what stands between the quotes in a text of UTF-8: there nothing is
-- replaced.
abbrev pub content : Bytes → Token → Bytes
content text t = utf8_lossy (single_quoted (inner text t))

-- the text literals of a text of UTF-8, among the tokens that a query is read from, have their bytes as values, with two quotes in a row as one
abbrev pub LiteralLaw : Type 0
LiteralLaw = (text : Bytes) (n : ℕ) → IsUtf8 text → All (λ t. t.kind ≡ k.Quoted → content text t ≡ single_quoted (inner text t)) (marked (tokens n text))

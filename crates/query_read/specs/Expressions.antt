-- The grammar of expressions, over the tokens of a text: which tokens are which expression.
-- After SQL-92 (ISO/IEC 9075:1992), 6.4 <column reference>, 6.5 <set function specification>, 6.9 <case abbreviation>, 6.12 <numeric value expression>, 8.2 to 8.4, 8.6 <null predicate> and 8.12 <search condition>.
use Rattle.std.specs.Prelude.{ℕ, zero, suc, Bool, not, ◌&&◌, List, [], ◌∷◌, ◌++◌, Option, Some, None, ℤ, pos}
use Rattle.phrases.specs.Phrases.{Phrase, token, nothing, none, ◌>>=◌, ◌>>◌, ◌<|>◌, Repeated}
use Rattle.sql_read.specs.declared.kind.Kind.{Kind}
use Rattle.sql_read.specs.declared.kind.Kind.TheVariants as k
use Rattle.sql_read.specs.declared.token_list.Token.{Token}
use Rattle.sql_read.specs.Lexis.{Bytes}
use Rattle.sql_read.specs.Schema.{is, word}
use Rattle.query_trees.specs.declared.expr.BinaryOp.{BinaryOp}
use Rattle.query_trees.specs.declared.expr.BinaryOp.TheVariants as op
use Rattle.query_trees.specs.declared.expr.Polarity.{Polarity}
use Rattle.query_trees.specs.declared.expr.Polarity.TheVariants.{Plain, Negated}
use Rattle.query_trees.specs.declared.expr.ColumnName.{ColumnName}
use Rattle.query_trees.specs.declared.expr.Divisor.{Divisor}
use Rattle.query_trees.specs.declared.expr.Expr.{Expr}
use Rattle.query_trees.specs.declared.expr.Form.TheVariants as f
use Rattle.query_read.specs.declared.enclosing.Enclosure.{Enclosure}
use Rattle.query_read.specs.declared.enclosing.Choices.{Choices}
use Rattle.query_read.specs.Asked.{Asked}
use Rattle.query_read.specs.Literals.{content}
use Rattle.query_read.specs.Days.{day_at, span_at, moved, no_date, no_span, leaves}
use Rattle.query_trees.specs.Nodes.{node}
use Rattle.query_read.specs.Nodes.{signs, steps, compares, numerals, aggregates, of, sign_of, sum_op, comparison, aggregate_of, numbered, binary, divisor_of, divided, counted_node, choice, chosen, enclosure, bare, qualified}

-- one token that passes the test, and is not bad
abbrev pub sound : (Token → Bool) → (Token → Bool) → Phrase Token Token
sound test bad = token (λ t. test t && not (bad t))

-- A gap stands where a text may have nothing that is not refused: a parenthesis past the last level, the text of a date, or the DAY
-- of a step that leaves the range. It is no token of any text, so no text has one; the beginning of a text may go on with a gap alone.
abbrev pub gap : {A : Type 0} → A → Phrase Token A
gap a = word k.Blank >> nothing a

-- "," and one more
abbrev pub another : {A : Type 0} → Phrase Token A → List A → Phrase Token (List A)
another L xs = do
  word k.Comma
  x ← L
  nothing (xs ++ x ∷ [])

-- one or more, with commas between them
abbrev pub series : {A : Type 0} → Phrase Token A → Phrase Token (List A)
series L = do
  x ← L
  Repeated (another L) (x ∷ [])

-- column = name ["." name]
abbrev pub column : Bytes → Phrase Token ColumnName
column text = do
  n ← word k.Name
  (do word k.Dot; c ← word k.Name; nothing (qualified text n c)) <|> nothing (bare text n)

-- the text of a DATE, and that of an INTERVAL
abbrev pub date_text : Asked → Bytes → Phrase Token ℤ
date_text m text = (do t ← sound (is k.Quoted) (no_date m text); nothing (day_at text t)) <|> gap (pos 0)

abbrev pub span_text : Asked → Bytes → Phrase Token ℤ
span_text m text = (do t ← sound (is k.Quoted) (no_span m text); nothing (span_at text t)) <|> gap (pos 0)

-- DAY, where the date is in range
abbrev pub last_day : Asked → ℤ → Phrase Token ℤ
last_day m day = (sound (is k.Day) (leaves m day) >> nothing day) <|> gap day

-- ("+" | "-") INTERVAL text DAY
abbrev pub step : Asked → Bytes → ℤ → Phrase Token ℤ
step m text day = do
  s ← token (of steps)
  word k.Interval
  days ← span_text m text
  last_day m (moved (sign_of s.kind) days day)

-- date = DATE text {("+" | "-") INTERVAL text DAY}
abbrev pub date : Asked → Bytes → Phrase Token Expr
date m text = do
  t ← word k.Date
  first ← date_text m text
  day ← Repeated (step m text) first
  nothing (node t.at (f.Date day))

-- what opens a level, in so many levels more
pub record Depth : Type 1 where
  -- "(" expr ")"
  pub parens : Phrase Token Enclosure
  -- "(" ("*" | expr) ")"
  pub counted : Phrase Token (Option Expr)
  -- "(" sum {"," sum} ")"
  pub list : Phrase Token (List Expr)
  -- "(" expr "," expr {"," expr} ")"
  pub choices : Phrase Token Choices
  -- NOT neg
  pub nots : Phrase Token Expr
  -- ("+" | "-") atom
  pub signed : Phrase Token Expr

abbrev pub number : Phrase Token Expr
number = do t ← token (of numerals); nothing (numbered t)

abbrev pub literal : Bytes → Phrase Token Expr
literal text = do t ← word k.Quoted; nothing (node t.at (f.Text (content text t)))

abbrev pub reference : Bytes → Phrase Token Expr
reference text = do c ← column text; nothing (node c.at (f.Column c))

-- COUNT "(" ("*" | expr) ")"
abbrev pub count : Depth → Phrase Token Expr
count d = do t ← word k.Count; x ← d.counted <|> gap None; nothing (counted_node t x)

-- what a gap stands for
abbrev pub nowhere : Enclosure
nowhere = record { at = 0; value = node 0 (f.Number 0 0) }

abbrev pub no_choices : Choices
no_choices = choice nowhere.value []

-- (SUM | MIN | MAX | AVG) "(" expr ")"
abbrev pub aggregate : Depth → Phrase Token Expr
aggregate d = do t ← token (of aggregates); x ← d.parens <|> gap nowhere; nothing (node t.at (f.Aggregate (aggregate_of t.kind) x.value))

-- COALESCE "(" expr "," expr {"," expr} ")"
abbrev pub coalesce : Depth → Phrase Token Expr
coalesce d = do t ← word k.Coalesce; x ← d.choices <|> gap no_choices; nothing (chosen t x)

abbrev pub enclosed : Depth → Phrase Token Expr
enclosed d = do x ← d.parens; nothing (node x.at (f.Enclosed x.value))

module _ (m : Asked) (text : Bytes) (d : Depth) where
  -- atom = integer | decimal | text | date | column | aggregate | COALESCE "(" expr "," expr {"," expr} ")" | "(" expr ")"
  abbrev pub atom : Phrase Token Expr
  atom = number <|> (literal text <|> (date m text <|> (reference text <|> (count d <|> (aggregate d <|> (coalesce d <|> enclosed d))))))

  -- factor = ["+" | "-"] atom
  abbrev pub factor : Phrase Token Expr
  factor = d.signed <|> atom

  abbrev pub times : Expr → Phrase Token Expr
  times a = do t ← word k.Star; b ← factor; nothing (binary op.Multiply t.at a b)

-- ["+" | "-"] integer
abbrev pub divisor : Phrase Token Divisor
divisor = (do s ← token (of signs); n ← word k.Digits; nothing (divisor_of (Some (sign_of s.kind)) n)) <|> (do n ← word k.Digits; nothing (divisor_of None n))

abbrev pub over : Expr → Phrase Token Expr
over a = do t ← word k.Slash; v ← divisor; nothing (divided t.at a v)

-- [NOT], before NULL
abbrev pub polarity : Phrase Token Polarity
polarity = (word k.Not >> nothing Negated) <|> nothing Plain

-- IS [NOT] NULL
abbrev pub nullity : Expr → Phrase Token Expr
nullity a = do t ← word k.Is; p ← polarity; word k.Null; nothing (node a.at (f.IsNull p t.at a))

-- an operator, and what stands to its right
abbrev pub operation : Kind → BinaryOp → Phrase Token Expr → Expr → Phrase Token Expr
operation kind o L a = do t ← word kind; b ← L; nothing (binary o t.at a b)

module _ (m : Asked) (text : Bytes) (d : Depth) where
  -- term = factor {"*" factor | "/" ["+" | "-"] integer}
  abbrev pub term : Phrase Token Expr
  term = factor m text d >>= Repeated (λ a. times m text d a <|> over a)

  abbrev pub added : Expr → Phrase Token Expr
  added a = do s ← token (of signs); b ← term; nothing (binary (sum_op s.kind) s.at a b)

  -- sum = term {("+" | "-") term}
  abbrev pub sum : Phrase Token Expr
  sum = term >>= Repeated added

  abbrev pub compared : Expr → Phrase Token Expr
  compared a = do t ← token (of compares); b ← sum; nothing (binary (comparison t.kind) t.at a b)

  abbrev pub between : Polarity → Expr → Phrase Token Expr
  between p a = do
    t ← word k.Between
    low ← sum
    word k.And
    high ← sum
    nothing (node a.at (f.Between p t.at a low high))

  abbrev pub contained : Polarity → Expr → Phrase Token Expr
  contained p a = do
    t ← word k.In
    xs ← d.list <|> gap []
    nothing (node a.at (f.In p t.at a xs))

  abbrev pub ranged : Polarity → Expr → Phrase Token Expr
  ranged p a = between p a <|> contained p a

  abbrev pub negated : Expr → Phrase Token Expr
  negated a = word k.Not >> ranged Negated a

  -- pred = sum [("=" | "<>" | "<" | "<=" | ">" | ">=") sum | [NOT] BETWEEN sum AND sum | [NOT] IN "(" sum {"," sum} ")" | IS [NOT] NULL]
  abbrev pub predicate_tail : Expr → Phrase Token Expr
  predicate_tail a = compared a <|> (negated a <|> (ranged Plain a <|> (nullity a <|> nothing a)))

  abbrev pub pred : Phrase Token Expr
  pred = sum >>= predicate_tail

  -- neg = {NOT} pred
  abbrev pub neg : Phrase Token Expr
  neg = d.nots <|> pred

  -- conj = neg {AND neg}
  abbrev pub conj : Phrase Token Expr
  conj = neg >>= Repeated (operation k.And op.And neg)

  -- expr = conj {OR conj}
  abbrev pub expr : Phrase Token Expr
  expr = conj >>= Repeated (operation k.Or op.Or conj)

  -- the same one level deeper
  abbrev pub parens : Phrase Token Enclosure
  parens = do t ← word k.OpenParen; a ← expr; word k.CloseParen; nothing (enclosure t a)

  abbrev pub listed : Phrase Token (List Expr)
  listed = do word k.OpenParen; xs ← series sum; word k.CloseParen; nothing xs

  abbrev pub star_or_expr : Phrase Token (Option Expr)
  star_or_expr = (word k.Star >> nothing None) <|> (do a ← expr; nothing (Some a))

  abbrev pub counted : Phrase Token (Option Expr)
  counted = do word k.OpenParen; x ← star_or_expr; word k.CloseParen; nothing x

  abbrev pub alternatives : Phrase Token Choices
  alternatives = do a ← expr; word k.Comma; xs ← series expr; nothing (choice a xs)

  abbrev pub choices : Phrase Token Choices
  choices = do word k.OpenParen; x ← alternatives; word k.CloseParen; nothing x

  abbrev pub nots : Phrase Token Expr
  nots = do t ← word k.Not; a ← neg; nothing (node t.at (f.Not a))

  abbrev pub signed : Phrase Token Expr
  signed = do s ← token (of signs); a ← atom m text d; nothing (node s.at (f.Signed (sign_of s.kind) a))

-- what may open so many levels
unfoldable pub depth : Asked → Bytes → ℕ → Depth
depth m text zero = record { parens = none; counted = none; list = none; choices = none; nots = none; signed = none }
depth m text (suc n) =
    let d = depth m text n in
    record { parens = parens m text d; counted = counted m text d; list = listed m text d; choices = choices m text d; nots = nots m text d; signed = signed m text d }

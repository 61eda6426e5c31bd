-- Each parser of what opens no level is good for its rule of the grammar.
use Rattle.std.proofs.Common.{◌≡◌, Bool, true, false, ◌||◌, List, [], ◌∷◌, ◌++◌, length, Err, refl, ◌∙◌, inr, ℤ, pos}
use Rattle.std.specs.Prelude.{Option}
use Rattle.std.specs.Prelude as Opt
use Rattle.phrases.specs.declared.refusal.ReadError.TheVariants.{Refused}
use Rattle.phrases.specs.Phrases.{Phrase, Both, nothing, token, ◌<|>◌, ◌>>◌, Repeated}
use Rattle.phrases.specs.Parsers as p
use Rattle.phrases.specs.Parsers.{pure, refuse, either, next, repeat, ◌>>=◌}
use Rattle.phrases.proofs.Good.{Some, free, good_pure, good_bind, good_either}
use Rattle.phrases.proofs.Repeats.{Turns, good_repeat}
use Rattle.phrases.proofs.Shapes.{some_both, some_nothing, some_repeated, good_map, good_list, next-free}
use Rattle.phrases.proofs.First.{Starts, quiet_nothing}
use Rattle.sql_read.specs.declared.kind.Kind.{Kind}
use Rattle.sql_read.specs.declared.kind.Kind.TheVariants as k
use Rattle.sql_read.specs.declared.token_list.Token.{Token}
use Rattle.sql_read.specs.Kinds.{same_kind}
use Rattle.sql_read.specs.Lexis.{Bytes}
use Rattle.sql_read.specs.Schema.{is, word}
use Rattle.sql_read.proofs.GoodSchema.{of_kind}
use Rattle.query_read.specs.declared.fault.Fault.{Fault}
use Rattle.query_read.specs.declared.fault.Fault.TheVariants.{Unexpected, NoDate, NoSpan, OutOfRange}
use Rattle.query_trees.specs.declared.expr.BinaryOp.{BinaryOp}
use Rattle.query_trees.specs.declared.expr.ColumnName.{ColumnName}
use Rattle.query_trees.specs.declared.expr.Divisor.{Divisor}
use Rattle.query_trees.specs.declared.expr.Expr.{Expr}
use Rattle.query_trees.specs.declared.expr.Form.TheVariants as f
use Rattle.query_trees.specs.declared.expr.Polarity.{Polarity}
use Rattle.query_trees.specs.declared.expr.Polarity.TheVariants.{Plain, Negated}
use Rattle.query_read.specs.Asked.{Asked}
use Rattle.query_read.specs.Days.{day_at, span_at, moved, no_date, no_span, leaves}
use Rattle.query_trees.specs.Nodes.{node}
use Rattle.query_read.specs.Nodes.{signs, steps, of, sign_of, binary, divisor_of, divided, bare, qualified}
use Rattle.query_read.specs.Expressions as g
use Rattle.query_read.specs.ExpressionParsers as r
use Rattle.query_read.specs.ExpressionParsers.{Parser, expect, expect_of}
use Rattle.query_read.proofs.TokenKinds.{gap, FitsQ, some_word, word_map, some_map, after, after_of, starts_word, starts_of, avoids_word, argument, some_argument}
use Rattle.query_read.proofs.Checked.{fits_sound}

-- ---- lists with commas

abbrev pub is_comma : Kind → Bool
is_comma x = same_kind x k.Comma

pub fits_another : {A : Type 0} (L : Phrase Token A) (q : Parser A) (stop : Token → Bool) → FitsQ L stop q → Some L → (xs : List A) → FitsQ (g.another L xs) stop (r.another q xs)
unfolding r.another
fits_another L q stop good some xs = after k.Comma (λ _. Both L (λ x. nothing (xs ++ x ∷ []))) _ stop
    (λ _. good_map L q stop good (λ x. xs ++ x ∷ []))
    (λ _. some_both L (λ x. nothing (xs ++ x ∷ [])) some (λ x. some_nothing (xs ++ x ∷ [])))

pub turn_another : {A : Type 0} (L : Phrase Token A) (q : Parser A) (f : Kind → Bool) → f k.Comma ≡ false → FitsQ L (of f) q → Some L → Turns gap (g.another L) (of f) (is k.Comma) (r.another q)
turn_another L q f apart good some = record {
  good = fits_another L q (of f) good some;
  begins = λ xs ys rest b l. starts_word k.Comma (λ _. Both L (λ x. nothing (xs ++ x ∷ []))) ys rest b l;
  apart = λ t h. of_kind f k.Comma t h ∙ apart;
}

abbrev pub series_stops : (Kind → Bool) → Kind → Bool
series_stops f x = is_comma x || f x

pub fits_series : {A : Type 0} (L : Phrase Token A) (q : Parser A) (f : Kind → Bool) → f k.Comma ≡ false → FitsQ L (of f) q → Some L → FitsQ (g.series L) (of (series_stops f)) (r.series q)
unfolding r.series
fits_series L q f apart good some = good_list L q (of f) (g.another L) (is k.Comma) (r.another q) (λ x. x ∷ []) good (turn_another L q f apart good some)

pub some_series : {A : Type 0} (L : Phrase Token A) → Some L → Some (g.series L)
some_series L some = some_both L (λ x. Repeated (g.another L) (x ∷ [])) some (λ x. some_repeated (g.another L) (x ∷ []))

-- ---- columns

abbrev pub column_stops : Kind → Bool
column_stops x = same_kind x k.Dot

abbrev dotted : Bytes → Token → Phrase Token ColumnName
dotted text n = word k.Dot >> Both (word k.Name) (λ c. nothing (qualified text n c))

abbrev maybe_dotted : Bytes → Token → Phrase Token ColumnName
maybe_dotted text n = dotted text n <|> nothing (bare text n)

some_maybe_dotted : (text : Bytes) (n : Token) → Some (maybe_dotted text n)
some_maybe_dotted text n = record { text = []; value = bare text n; reads = inr (refl, refl) }

fits_maybe_dotted : (text : Bytes) (n : Token) → FitsQ (maybe_dotted text n) (is k.Dot) (either (is k.Dot) (expect k.Dot >>= (λ _. expect k.Name >>= (λ c. pure (qualified text n c)))) (pure (bare text n)))
fits_maybe_dotted text n = good_either (dotted text n) (nothing (bare text n)) _ _ (is k.Dot) (is k.Dot)
    (after k.Dot (λ _. Both (word k.Name) (λ c. nothing (qualified text n c))) _ (is k.Dot) (λ _. word_map k.Name (qualified text n) (is k.Dot)) (λ _. some_map k.Name (qualified text n)))
    (good_pure (bare text n) (is k.Dot))
    (starts_word k.Dot (λ _. Both (word k.Name) (λ c. nothing (qualified text n c))))
    (quiet_nothing (is k.Dot) (bare text n))

pub fits_column : (text : Bytes) → FitsQ (g.column text) (of column_stops) (r.column text)
unfolding r.column
fits_column text = after k.Name (maybe_dotted text) _ (is k.Dot) (fits_maybe_dotted text) (some_maybe_dotted text)

pub some_column : (text : Bytes) → Some (g.column text)
some_column text = some_both (word k.Name) (maybe_dotted text) (some_word k.Name) (some_maybe_dotted text)

pub starts_column : (text : Bytes) → Starts (is k.Name) (g.column text)
starts_column text = starts_word k.Name (maybe_dotted text)

-- ---- dates

-- a literal, perhaps a bad one
abbrev literal_of : (Token → Bool) → (Token → ℤ) → Phrase Token ℤ
literal_of bad value = Both (g.sound (is k.Quoted) bad) (λ t. nothing (value t))

shut_literal : (fault : Fault) (bad : Token → Bool) (value : Token → ℤ) (t : Token) (s : List Token) → gap t ≡ true → (r.sound fault (is k.Quoted) bad >>= (λ t. pure (value t))) (t ∷ s) ≡ Err (Refused Unexpected (length (t ∷ s)))
unfolding r.sound p.expect same_kind
shut_literal fault bad value t s h = let e = of_kind (λ x. same_kind x k.Quoted) k.Blank t h in rw e refl

fits_literal : (fault : Fault) (bad : Token → Bool) (value : Token → ℤ) (stop : Token → Bool) → FitsQ (literal_of bad value <|> g.gap (pos 0)) stop (r.sound fault (is k.Quoted) bad >>= (λ t. pure (value t)))
fits_literal fault bad value stop = argument (literal_of bad value) stop (r.sound fault (is k.Quoted) bad >>= (λ t. pure (value t))) (pos 0)
    (good_map (g.sound (is k.Quoted) bad) (r.sound fault (is k.Quoted) bad) stop (fits_sound fault (is k.Quoted) bad gap stop) value)
    (shut_literal fault bad value)

fits_date_text : (m : Asked) (text : Bytes) (stop : Token → Bool) → FitsQ (g.date_text m text) stop (r.date_text m text)
unfolding r.date_text
fits_date_text m text stop = fits_literal NoDate (no_date m text) (day_at text) stop

fits_span_text : (m : Asked) (text : Bytes) (stop : Token → Bool) → FitsQ (g.span_text m text) stop (r.span_text m text)
unfolding r.span_text
fits_span_text m text stop = fits_literal NoSpan (no_span m text) (span_at text) stop

abbrev day_word : Asked → ℤ → Phrase Token ℤ
day_word m day = g.sound (is k.Day) (leaves m day) >> nothing day

shut_day : (m : Asked) (day : ℤ) (t : Token) (s : List Token) → gap t ≡ true → r.last_day m day (t ∷ s) ≡ Err (Refused Unexpected (length (t ∷ s)))
unfolding r.last_day r.sound p.expect same_kind
shut_day m day t s h = let e = of_kind (λ x. same_kind x k.Day) k.Blank t h in rw e refl

fits_day_word : (m : Asked) (day : ℤ) (stop : Token → Bool) → FitsQ (day_word m day) stop (r.last_day m day)
unfolding r.last_day
fits_day_word m day stop = good_map (g.sound (is k.Day) (leaves m day)) (r.sound OutOfRange (is k.Day) (leaves m day)) stop (fits_sound OutOfRange (is k.Day) (leaves m day) gap stop) (λ _. day)

fits_last_day : (m : Asked) (day : ℤ) (stop : Token → Bool) → FitsQ (g.last_day m day) stop (r.last_day m day)
fits_last_day m day stop = argument (day_word m day) stop (r.last_day m day) day (fits_day_word m day stop) (shut_day m day)

some_last_day : (m : Asked) (day : ℤ) → Some (g.last_day m day)
some_last_day m day = some_argument (day_word m day) day

some_date_text : (m : Asked) (text : Bytes) → Some (g.date_text m text)
some_date_text m text = some_argument (literal_of (no_date m text) (day_at text)) (pos 0)

some_span_text : (m : Asked) (text : Bytes) → Some (g.span_text m text)
some_span_text m text = some_argument (literal_of (no_span m text) (span_at text)) (pos 0)

abbrev step_days : Asked → Bytes → ℤ → Token → Phrase Token ℤ
step_days m text day s = Both (g.span_text m text) (λ days. g.last_day m (moved (sign_of s.kind) days day))

some_step_days : (m : Asked) (text : Bytes) (day : ℤ) (s : Token) → Some (step_days m text day s)
some_step_days m text day s = some_both (g.span_text m text) _ (some_span_text m text) (λ days. some_last_day m (moved (sign_of s.kind) days day))

fits_step_days : (m : Asked) (text : Bytes) (day : ℤ) (s : Token) (stop : Token → Bool) → FitsQ (step_days m text day s) stop (r.span_text m text >>= (λ days. r.last_day m (moved (sign_of s.kind) days day)))
fits_step_days m text day s stop = good_bind (g.span_text m text) (λ days. g.last_day m (moved (sign_of s.kind) days day)) (r.span_text m text) (λ days. r.last_day m (moved (sign_of s.kind) days day)) free stop
    (fits_span_text m text free)
    (λ days. fits_last_day m (moved (sign_of s.kind) days day) stop)
    (λ days ys rest b l h. next-free (ys ++ rest))
    (λ days. some_last_day m (moved (sign_of s.kind) days day))

fits_step : (m : Asked) (text : Bytes) (stop : Token → Bool) (day : ℤ) → FitsQ (g.step m text day) stop (r.step m text day)
unfolding r.step
fits_step m text stop day = after_of steps _ _ stop
    (λ s. after k.Interval (λ _. step_days m text day s) _ stop (λ _. fits_step_days m text day s stop) (λ _. some_step_days m text day s))
    (λ s. some_both (word k.Interval) (λ _. step_days m text day s) (some_word k.Interval) (λ _. some_step_days m text day s))

turn_step : (m : Asked) (text : Bytes) → Turns gap (g.step m text) free (of steps) (r.step m text)
turn_step m text = record {
  good = fits_step m text free;
  begins = λ day xs rest b l. starts_of steps _ xs rest b l;
  apart = λ t h. refl;
}

abbrev dated : Asked → Bytes → Token → ℤ → Phrase Token Expr
dated m text t first = Both (Repeated (g.step m text) first) (λ day. nothing (node t.at (f.Date day)))

fits_dated : (m : Asked) (text : Bytes) (t : Token) (first : ℤ) → FitsQ (dated m text t first) (of steps) (r.more_steps m text first >>= (λ day. pure (node t.at (f.Date day))))
fits_dated m text t first = good_map (Repeated (g.step m text) first) (r.more_steps m text first) (of steps)
    (good_repeat (g.step m text) free (of steps) (r.step m text) (turn_step m text) (of steps) (λ x h. h) (λ x h. refl) first)
    (λ day. node t.at (f.Date day))

some_dated : (m : Asked) (text : Bytes) (t : Token) (first : ℤ) → Some (dated m text t first)
some_dated m text t first = some_both (Repeated (g.step m text) first) _ (some_repeated (g.step m text) first) (λ day. some_nothing (node t.at (f.Date day)))

pub fits_date : (m : Asked) (text : Bytes) → FitsQ (g.date m text) (of steps) (r.date m text)
unfolding r.date
fits_date m text = after k.Date _ _ (of steps)
    (λ t. good_bind (g.date_text m text) (dated m text t) (r.date_text m text) _ free (of steps) (fits_date_text m text free) (fits_dated m text t)
    (λ first ys rest b l h. next-free (ys ++ rest)) (some_dated m text t))
    (λ t. some_both (g.date_text m text) (dated m text t) (some_date_text m text) (some_dated m text t))

pub starts_date : (m : Asked) (text : Bytes) → Starts (is k.Date) (g.date m text)
starts_date m text = starts_word k.Date _

-- ---- divisors

abbrev signed_divisor : Phrase Token Divisor
signed_divisor = Both (token (of signs)) (λ s. Both (word k.Digits) (λ n. nothing (divisor_of (Opt.Some (sign_of s.kind)) n)))

abbrev plain_divisor : Phrase Token Divisor
plain_divisor = Both (word k.Digits) (λ n. nothing (divisor_of Opt.None n))

some_divisor : Some g.divisor
some_divisor = let s = some_map k.Digits (divisor_of Opt.None) in record { text = s.text; value = s.value; reads = inr s.reads }

fits_divisor : (stop : Token → Bool) → FitsQ g.divisor stop r.divisor
unfolding r.divisor
fits_divisor stop = good_either signed_divisor plain_divisor _ _ (of signs) stop
    (after_of signs _ _ stop (λ s. word_map k.Digits (λ n. divisor_of (Opt.Some (sign_of s.kind)) n) stop) (λ s. some_map k.Digits (λ n. divisor_of (Opt.Some (sign_of s.kind)) n)))
    (word_map k.Digits (divisor_of Opt.None) stop)
    (starts_of signs (λ s. Both (word k.Digits) (λ n. nothing (divisor_of (Opt.Some (sign_of s.kind)) n))))
    (λ xs rest a l h. avoids_word signs k.Digits (λ n. nothing (divisor_of Opt.None n)) refl xs rest a l)

pub fits_over : (stop : Token → Bool) (a : Expr) → FitsQ (g.over a) stop (r.over a)
unfolding r.over
fits_over stop a = after k.Slash (λ t. Both g.divisor (λ v. nothing (divided t.at a v))) _ stop
    (λ t. good_map g.divisor r.divisor stop (fits_divisor stop) (divided t.at a))
    (λ t. some_both g.divisor (λ v. nothing (divided t.at a v)) some_divisor (λ v. some_nothing (divided t.at a v)))

-- ---- IS NULL

abbrev denied : Phrase Token Polarity
denied = word k.Not >> nothing Negated

fits_polarity : FitsQ g.polarity (is k.Not) r.polarity
unfolding r.polarity
fits_polarity = good_either denied (nothing Plain) _ _ (is k.Not) (is k.Not)
    (word_map k.Not (λ _. Negated) (is k.Not))
    (good_pure Plain (is k.Not))
    (starts_word k.Not (λ _. nothing Negated))
    (quiet_nothing (is k.Not) Plain)

some_polarity : Some g.polarity
some_polarity = record { text = []; value = Plain; reads = inr (refl, refl) }

abbrev of_null : Expr → Token → Polarity → Phrase Token Expr
of_null a t p = word k.Null >> nothing (node a.at (f.IsNull p t.at a))

some_of_null : (a : Expr) (t : Token) (p : Polarity) → Some (of_null a t p)
some_of_null a t p = some_map k.Null (λ _. node a.at (f.IsNull p t.at a))

fits_null_test : (stop : Token → Bool) (a : Expr) (t : Token) → FitsQ (Both g.polarity (of_null a t)) stop (r.polarity >>= (λ p. expect k.Null >>= (λ _. pure (node a.at (f.IsNull p t.at a)))))
unfolding same_kind
fits_null_test stop a t = good_bind g.polarity (of_null a t) r.polarity _ (is k.Not) stop fits_polarity
    (λ p. word_map k.Null (λ _. node a.at (f.IsNull p t.at a)) stop)
    (λ p ys rest b l e. avoids_word (λ x. same_kind x k.Not) k.Null (λ _. nothing (node a.at (f.IsNull p t.at a))) refl ys rest b l)
    (some_of_null a t)

pub fits_nullity : (stop : Token → Bool) (a : Expr) → FitsQ (g.nullity a) stop (r.nullity a)
unfolding r.nullity
fits_nullity stop a = after k.Is (λ t. Both g.polarity (of_null a t)) _ stop (fits_null_test stop a) (λ t. some_both g.polarity (of_null a t) some_polarity (some_of_null a t))

-- ---- an operator and its right side

pub fits_operation : (kind : Kind) (o : BinaryOp) (L : Phrase Token Expr) (q : Parser Expr) (stop : Token → Bool) → FitsQ L stop q → Some L → (a : Expr) → FitsQ (g.operation kind o L a) stop (r.operation kind o q a)
unfolding r.operation
fits_operation kind o L q stop good some a = after kind (λ t. Both L (λ b. nothing (binary o t.at a b))) _ stop
    (λ t. good_map L q stop good (λ b. binary o t.at a b))
    (λ t. some_both L (λ b. nothing (binary o t.at a b)) some (λ b. some_nothing (binary o t.at a b)))

pub turn_operation : (kind : Kind) (o : BinaryOp) (L : Phrase Token Expr) (q : Parser Expr) (h : Kind → Bool) → h kind ≡ false → FitsQ L (of h) q → Some L → Turns gap (g.operation kind o L) (of h) (is kind) (r.operation kind o q)
turn_operation kind o L q h apart good some = record {
  good = fits_operation kind o L q (of h) good some;
  begins = λ a xs rest b l. starts_word kind (λ t. Both L (λ b. nothing (binary o t.at a b))) xs rest b l;
  apart = λ t e. of_kind h kind t e ∙ apart;
}

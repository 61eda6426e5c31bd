-- Each parser of the schema is good for its rule of the grammar.
use Rattle.std.proofs.Common.{◌≡◌, Bool, true, false, ◌||◌, List, [], ◌++◌, refl, ap, ◌∙◌, inl, inr, ⊎_elim, rules}
use denote.Enum.Bare.{same_true, true_same}
use Rattle.phrases.specs.Phrases.{Phrase, Both, nothing, token, ◌<|>◌, ◌>>◌, Repeated}
use Rattle.phrases.specs.Parsers as p
use Rattle.phrases.specs.Parsers.{pure, refuse, either, next, ◌>>=◌}
use Rattle.phrases.proofs.Good.{Good, Some, good_pure, good_expect, good_bind, good_either}
use Rattle.phrases.proofs.Repeats.{Turn}
use Rattle.phrases.proofs.Shapes.{some_token, some_both, some_nothing, some_repeated, begins_token, begins_nothing, begins_repeated, good_map, good_after, good_repeated, after_repeated, map_text, next-or_right}
use Rattle.sql_read.specs.contracts.kind.Kind.{the_type}
use Rattle.sql_read.specs.declared.kind.Kind.{Kind}
use Rattle.sql_read.specs.declared.kind.Kind.TheVariants as k
use Rattle.sql_read.specs.declared.token_list.Token.{Token}
use Rattle.sql_read.specs.declared.fault.Fault.TheVariants.{Unexpected}
use Rattle.sql_read.specs.declared.definition.ColumnKind.TheVariants as kind
use Rattle.sql_read.specs.declared.definition.TableDef.{TableDef}
use Rattle.sql_read.specs.declared.schema.ColumnType.{ColumnType}
use Rattle.sql_read.specs.declared.schema.Draft.{Draft}
use Rattle.sql_read.specs.declared.schema.Parts.{Parts}
use Rattle.sql_read.specs.Kinds.{same_kind}
use Rattle.sql_read.specs.Lexis.{Bytes}
use Rattle.sql_read.specs.Schema as g
use Rattle.sql_read.specs.Schema.{is, word, is_integer_type}
use Rattle.sql_read.specs.SchemaParsers as r
use Rattle.sql_read.specs.SchemaParsers.{Parser, expect, begins_constraint, run}

-- ---- tests by kind

pub is_true : (kind : Kind) (t : Token) → is kind t ≡ true → t.kind ≡ kind
unfolding same_kind
is_true kind t h = same_true the_type (search rules) t.kind kind h

-- what a test by the kind says of a token of this kind
pub of_kind : (f : Kind → Bool) (kind : Kind) (t : Token) → is kind t ≡ true → f t.kind ≡ f kind
of_kind f kind t h = ap f (is_true kind t h)

some_word : (kind : Kind) → Some (word kind)
unfolding same_kind
some_word kind = let t : Token = record { kind = kind; at = 0; len = 0; value = 0; scale = 0 } in some_token (is kind) t (true_same the_type kind kind refl)

good_word : (kind : Kind) (stop : Token → Bool) → Good (word kind) stop (expect kind)
good_word kind stop = good_expect Unexpected (is kind) stop

word_map : {A : Type 0} (kind : Kind) (f : Token → A) (stop : Token → Bool) → Good (Both (word kind) (λ t. nothing (f t))) stop (expect kind >>= (λ t. pure (f t)))
word_map kind f stop = good_map (word kind) (expect kind) stop (good_word kind stop) f

some_map : {A : Type 0} (kind : Kind) (f : Token → A) → Some (Both (word kind) (λ t. nothing (f t)))
some_map kind f = some_both (word kind) (λ t. nothing (f t)) (some_word kind) (λ t. some_nothing (f t))

pub after : {A : Type 0} (kind : Kind) (M : Token → Phrase Token A) (q : Token → Parser A) (stop : Token → Bool) → ((t : Token) → Good (M t) stop (q t)) → ((t : Token) → Some (M t)) → Good (Both (word kind) M) stop (expect kind >>= q)
after kind M q stop good some = good_after Unexpected (is kind) M q stop good some

-- ---- types

-- the parenthesis that closes
abbrev closing : ColumnType → Phrase Token ColumnType
closing p = word k.CloseParen >> nothing p

some_closing : (p : ColumnType) → Some (closing p)
some_closing p = some_map k.CloseParen (λ _. p)

good_closing : (stop : Token → Bool) (p : ColumnType) → Good (closing p) stop (expect k.CloseParen >>= (λ _. pure p))
good_closing stop p = word_map k.CloseParen (λ _. p) stop

abbrev widths : Token → Phrase Token ColumnType
widths t = Both (word k.Digits) (λ n. closing (g.sized kind.Text t n))

some_widths : (t : Token) → Some (widths t)
some_widths t = some_both (word k.Digits) _ (some_word k.Digits) (λ n. some_closing (g.sized kind.Text t n))

some_width : (t : Token) → Some (g.width t)
some_width t = some_both (word k.OpenParen) _ (some_word k.OpenParen) (λ _. some_widths t)

good_width : (stop : Token → Bool) (t : Token) → Good (g.width t) stop (r.width t)
unfolding r.width
good_width stop t = after k.OpenParen _ _ stop
    (λ _. after k.Digits (λ n. closing (g.sized kind.Text t n)) _ stop (λ n. good_closing stop (g.sized kind.Text t n)) (λ n. some_closing (g.sized kind.Text t n)))
    (λ _. some_widths t)

begins_width : (sel : Token → Bool) (c : Bool) → ((t : Token) → is k.OpenParen t ≡ true → sel t ≡ c) → (w : Token) (xs rest : List Token) (a : ColumnType) → g.width w xs a → next sel (xs ++ rest) ≡ c
begins_width sel c h w = begins_token (is k.OpenParen) _ sel c h

-- a comma and the scale behind it
abbrev scaling : ColumnType → Phrase Token ColumnType
scaling p = word k.Comma >> Both (word k.Digits) (λ n. nothing (g.scaled p n))

good_scale : (p : ColumnType) → Good (g.scale p) (is k.Comma) (r.scale p)
unfolding r.scale
good_scale p = good_either (scaling p) (nothing p) _ (pure p) (is k.Comma) (is k.Comma)
    (after k.Comma _ _ (is k.Comma) (λ _. word_map k.Digits (λ n. g.scaled p n) (is k.Comma)) (λ _. some_map k.Digits (λ n. g.scaled p n)))
    (good_pure p (is k.Comma))
    (begins_token (is k.Comma) _ (is k.Comma) true (λ t h. h))
    (λ xs rest a l h. begins_nothing p (is k.Comma) false xs rest a l h)

some_scale : (p : ColumnType) → Some (g.scale p)
some_scale p = record { text = []; value = p; reads = inr (refl, refl) }

-- the scale, and the parenthesis that closes
abbrev scales : ColumnType → Phrase Token ColumnType
scales p = Both (g.scale p) closing

good_scales : (stop : Token → Bool) (p : ColumnType) → Good (scales p) stop (r.scale p >>= (λ q. expect k.CloseParen >>= (λ _. pure q)))
unfolding same_kind
good_scales stop p = good_bind (g.scale p) closing (r.scale p) _ (is k.Comma) stop (good_scale p) (good_closing stop)
    (λ q ys rest b l h. begins_token (is k.CloseParen) _ (is k.Comma) false (λ t e. of_kind (λ x. same_kind x k.Comma) k.CloseParen t e) ys rest b l)
    some_closing

some_scales : (p : ColumnType) → Some (scales p)
some_scales p = some_both (g.scale p) closing (some_scale p) some_closing

abbrev precisions : Token → Phrase Token ColumnType
precisions t = Both (word k.Digits) (λ n. scales (g.sized kind.Decimal t n))

some_precisions : (t : Token) → Some (precisions t)
some_precisions t = some_both (word k.Digits) _ (some_word k.Digits) (λ n. some_scales (g.sized kind.Decimal t n))

some_precision : (t : Token) → Some (g.precision t)
some_precision t = some_both (word k.OpenParen) _ (some_word k.OpenParen) (λ _. some_precisions t)

good_precision : (stop : Token → Bool) (t : Token) → Good (g.precision t) stop (r.precision t)
unfolding r.precision
good_precision stop t = after k.OpenParen _ _ stop
    (λ _. after k.Digits (λ n. scales (g.sized kind.Decimal t n)) _ stop (λ n. good_scales stop (g.sized kind.Decimal t n)) (λ n. some_scales (g.sized kind.Decimal t n)))
    (λ _. some_precisions t)

-- the width of CHAR, which may be left out
abbrev char_width : Token → Phrase Token ColumnType
char_width t = g.width t <|> nothing (g.typed kind.Text 1 t.at)

good_char_width : (t : Token) → Good (char_width t) (is k.OpenParen) (either (is k.OpenParen) (r.width t) (pure (g.typed kind.Text 1 t.at)))
good_char_width t = good_either (g.width t) (nothing (g.typed kind.Text 1 t.at)) (r.width t) (pure (g.typed kind.Text 1 t.at)) (is k.OpenParen) (is k.OpenParen) (good_width (is k.OpenParen) t) (good_pure (g.typed kind.Text 1 t.at) (is k.OpenParen))
    (begins_width (is k.OpenParen) true (λ t h. h) t)
    (λ xs rest a l h. begins_nothing (g.typed kind.Text 1 t.at) (is k.OpenParen) false xs rest a l h)

some_char_width : (t : Token) → Some (char_width t)
some_char_width t = record { text = []; value = g.typed kind.Text 1 t.at; reads = inr (refl, refl) }

abbrev integers : Phrase Token ColumnType
integers = Both (token is_integer_type) (λ t. nothing (g.typed kind.Integer 0 t.at))

abbrev dates : Phrase Token ColumnType
dates = Both (word k.Date) (λ t. nothing (g.typed kind.Date 0 t.at))

abbrev decimals : Phrase Token ColumnType
decimals = Both (word k.Decimal) g.precision

abbrev varchars : Phrase Token ColumnType
varchars = Both (word k.Varchar) g.width

abbrev chars : Phrase Token ColumnType
chars = Both (word k.Char) char_width

good_decimals : Good decimals (is k.OpenParen) (expect k.Decimal >>= r.precision)
good_decimals = after k.Decimal g.precision r.precision (is k.OpenParen) (good_precision (is k.OpenParen)) some_precision

good_varchars : Good varchars (is k.OpenParen) (expect k.Varchar >>= r.width)
good_varchars = after k.Varchar g.width r.width (is k.OpenParen) (good_width (is k.OpenParen)) some_width

good_chars : Good chars (is k.OpenParen) (expect k.Char >>= (λ t. either (is k.OpenParen) (r.width t) (pure (g.typed kind.Text 1 t.at))))
good_chars = after k.Char char_width _ (is k.OpenParen) good_char_width some_char_width

good_texts : Good (varchars <|> chars) (is k.OpenParen) (either (is k.Varchar) (expect k.Varchar >>= r.width) (expect k.Char >>= (λ t. either (is k.OpenParen) (r.width t) (pure (g.typed kind.Text 1 t.at)))))
unfolding same_kind
good_texts = good_either varchars chars _ _ (is k.Varchar) (is k.OpenParen) good_varchars good_chars
    (begins_token (is k.Varchar) _ (is k.Varchar) true (λ t h. h))
    (λ xs rest a l h. begins_token (is k.Char) char_width (is k.Varchar) false (λ t e. of_kind (λ x. same_kind x k.Varchar) k.Char t e) xs rest a l)

-- what a test says of a text type's first word
begins_texts : (f : Kind → Bool) → f k.Varchar ≡ false → f k.Char ≡ false → (xs rest : List Token) (a : ColumnType) → (varchars <|> chars) xs a → next (λ t. f t.kind) (xs ++ rest) ≡ false
begins_texts f v c xs rest a l = ⊎_elim
    (begins_token (is k.Varchar) _ (λ t. f t.kind) false (λ t e. of_kind f k.Varchar t e ∙ v) xs rest a)
    (begins_token (is k.Char) char_width (λ t. f t.kind) false (λ t e. of_kind f k.Char t e ∙ c) xs rest a)
    l

-- types with a number in parentheses
abbrev lengths : Phrase Token ColumnType
lengths = decimals <|> (varchars <|> chars)

good_lengths : Good lengths (is k.OpenParen) (either (is k.Decimal) (expect k.Decimal >>= r.precision) (either (is k.Varchar) (expect k.Varchar >>= r.width) (expect k.Char >>= (λ t. either (is k.OpenParen) (r.width t) (pure (g.typed kind.Text 1 t.at))))))
unfolding same_kind
good_lengths = good_either decimals (varchars <|> chars) _ _ (is k.Decimal) (is k.OpenParen) good_decimals good_texts
    (begins_token (is k.Decimal) _ (is k.Decimal) true (λ t h. h))
    (λ xs rest a l h. begins_texts (λ x. same_kind x k.Decimal) refl refl xs rest a l)

begins_lengths : (f : Kind → Bool) → f k.Decimal ≡ false → f k.Varchar ≡ false → f k.Char ≡ false → (xs rest : List Token) (a : ColumnType) → lengths xs a → next (λ t. f t.kind) (xs ++ rest) ≡ false
begins_lengths f d v c xs rest a l = ⊎_elim
    (begins_token (is k.Decimal) _ (λ t. f t.kind) false (λ t e. of_kind f k.Decimal t e ∙ d) xs rest a)
    (begins_texts f v c xs rest a)
    l

good_column_type : Good g.column_type (is k.OpenParen) r.column_type
unfolding r.column_type same_kind
good_column_type = good_either integers (dates <|> lengths) _ _ is_integer_type (is k.OpenParen)
    (good_map (token is_integer_type) (p.expect Unexpected is_integer_type) (is k.OpenParen) (good_expect Unexpected is_integer_type (is k.OpenParen)) (λ t. g.typed kind.Integer 0 t.at))
    (good_either dates lengths _ _ (is k.Date) (is k.OpenParen)
    (word_map k.Date (λ t. g.typed kind.Date 0 t.at) (is k.OpenParen))
    good_lengths
    (begins_token (is k.Date) _ (is k.Date) true (λ t h. h))
    (λ xs rest a l h. begins_lengths (λ x. same_kind x k.Date) refl refl refl xs rest a l))
    (begins_token is_integer_type _ is_integer_type true (λ t h. h))
    (λ xs rest a l h. ⊎_elim
    (begins_token (is k.Date) _ is_integer_type false (λ t e. of_kind g.names_integers k.Date t e) xs rest a)
    (begins_lengths g.names_integers refl refl refl xs rest a)
    l)

some_column_type : Some g.column_type
some_column_type = let s = some_both (word k.Date) _ (some_word k.Date) (λ t. some_nothing (g.typed kind.Date 0 t.at)) in record { text = s.text; value = s.value; reads = inr (inl s.reads) }

-- ---- columns

abbrev not_null : Draft → Phrase Token Draft
not_null d = word k.Not >> (word k.Null >> nothing (g.marked_not_null d))

abbrev own_key : Draft → Phrase Token Draft
own_key d = Both (word k.Primary) (λ t. word k.Key >> nothing (g.marked_key d t))

good_constraint : (stop : Token → Bool) (d : Draft) → Good (g.constraint d) stop (r.constraint d)
unfolding r.constraint same_kind
good_constraint stop d = good_either (not_null d) (own_key d) _ _ (is k.Not) stop
    (after k.Not _ _ stop (λ _. word_map k.Null (λ _. g.marked_not_null d) stop) (λ _. some_map k.Null (λ _. g.marked_not_null d)))
    (after k.Primary _ _ stop (λ t. word_map k.Key (λ _. g.marked_key d t) stop) (λ t. some_map k.Key (λ _. g.marked_key d t)))
    (begins_token (is k.Not) _ (is k.Not) true (λ t h. h))
    (λ xs rest a l h. begins_token (is k.Primary) _ (is k.Not) false (λ t e. of_kind (λ x. same_kind x k.Not) k.Primary t e) xs rest a l)

abbrev starts_constraint : Kind → Bool
starts_constraint x = same_kind x k.Not || same_kind x k.Primary

not_open : (t : Token) → begins_constraint t ≡ true → is k.OpenParen t ≡ false
unfolding same_kind
not_open t h = by_test (is k.Not t) (is k.Primary t) refl refl h
  where
    by_test : (a b : Bool) → is k.Not t ≡ a → is k.Primary t ≡ b → (a || b) ≡ true → is k.OpenParen t ≡ false
    by_test true b e f h = of_kind (λ x. same_kind x k.OpenParen) k.Not t e
    by_test false true e f h = of_kind (λ x. same_kind x k.OpenParen) k.Primary t f
    by_test false false e f h = absurd (cc)

turn_constraint : Turn g.constraint (is k.OpenParen) begins_constraint r.constraint
unfolding same_kind
turn_constraint = record {
  good = good_constraint (is k.OpenParen);
  begins = λ d xs rest e l. ⊎_elim
      (begins_token (is k.Not) _ begins_constraint true (λ t h. of_kind starts_constraint k.Not t h) xs rest e)
      (begins_token (is k.Primary) _ begins_constraint true (λ t h. of_kind starts_constraint k.Primary t h) xs rest e)
      l;
  apart = not_open;
}

abbrev stop_column : Token → Bool
stop_column t = begins_constraint t || is k.OpenParen t

abbrev constrained : Bytes → Parts → Token → ColumnType → Phrase Token Parts
constrained text b n t = Both (Repeated g.constraint (g.begun text n t b.keys)) (λ d. nothing (g.with_column b d))

good_constrained : (text : Bytes) (b : Parts) (n : Token) (t : ColumnType) → Good (constrained text b n t) stop_column (r.constraints (g.begun text n t b.keys) >>= (λ d. pure (g.with_column b d)))
good_constrained text b n t = good_map (Repeated g.constraint (g.begun text n t b.keys)) (r.constraints (g.begun text n t b.keys)) stop_column (good_repeated g.constraint (is k.OpenParen) begins_constraint r.constraint turn_constraint (g.begun text n t b.keys)) (g.with_column b)

some_constrained : (text : Bytes) (b : Parts) (n : Token) (t : ColumnType) → Some (constrained text b n t)
some_constrained text b n t = some_both (Repeated g.constraint (g.begun text n t b.keys)) (λ d. nothing (g.with_column b d)) (some_repeated g.constraint (g.begun text n t b.keys)) (λ d. some_nothing (g.with_column b d))

abbrev typed_column : Bytes → Parts → Token → Phrase Token Parts
typed_column text b n = Both g.column_type (constrained text b n)

good_typed_column : (text : Bytes) (b : Parts) (n : Token) → Good (typed_column text b n) stop_column (r.column_type >>= (λ t. r.constraints (g.begun text n t b.keys) >>= (λ d. pure (g.with_column b d))))
good_typed_column text b n = good_bind g.column_type (constrained text b n) r.column_type _ (is k.OpenParen) stop_column good_column_type (good_constrained text b n)
    (λ t ys rest c l h.
    ap (λ y. next (is k.OpenParen) (y ++ rest)) (map_text (Repeated g.constraint (g.begun text n t b.keys)) (g.with_column b) ys c l)
    ∙ after_repeated g.constraint (is k.OpenParen) begins_constraint r.constraint turn_constraint (g.begun text n t b.keys) l.between l.left rest l.reads_left (next-or_right begins_constraint (is k.OpenParen) rest h))
    (some_constrained text b n)

some_typed_column : (text : Bytes) (b : Parts) (n : Token) → Some (typed_column text b n)
some_typed_column text b n = some_both g.column_type (constrained text b n) some_column_type (some_constrained text b n)

good_column : (text : Bytes) (b : Parts) → Good (g.column text b) stop_column (r.column text b)
unfolding r.column
good_column text b = after k.Name (typed_column text b) _ stop_column (good_typed_column text b) (some_typed_column text b)

-- ---- keys and parts

abbrev key_name : Bytes → Parts → Token → Phrase Token Parts
key_name text b t = word k.OpenParen >> Both (word k.Name) (λ n. word k.CloseParen >> nothing (g.with_key text b t n))

some_key_name : (text : Bytes) (b : Parts) (t : Token) → Some (key_name text b t)
some_key_name text b t = some_both (word k.OpenParen) _ (some_word k.OpenParen) (λ _. some_both (word k.Name) _ (some_word k.Name) (λ n. some_map k.CloseParen (λ _. g.with_key text b t n)))

good_key : (stop : Token → Bool) (text : Bytes) (b : Parts) → Good (g.key text b) stop (r.key text b)
unfolding r.key
good_key stop text b = after k.Primary _ _ stop
    (λ t. after k.Key _ _ stop
    (λ _. after k.OpenParen _ _ stop
    (λ _. after k.Name _ _ stop (λ n. word_map k.CloseParen (λ _. g.with_key text b t n) stop) (λ n. some_map k.CloseParen (λ _. g.with_key text b t n)))
    (λ _. some_both (word k.Name) _ (some_word k.Name) (λ n. some_map k.CloseParen (λ _. g.with_key text b t n))))
    (λ _. some_key_name text b t))
    (λ t. some_both (word k.Key) _ (some_word k.Key) (λ _. some_key_name text b t))

good_part : (text : Bytes) (b : Parts) → Good (g.part text b) stop_column (r.part text b)
unfolding r.part same_kind
good_part text b = good_either (g.column text b) (g.key text b) (r.column text b) (r.key text b) (is k.Name) stop_column (good_column text b) (good_key stop_column text b)
    (begins_token (is k.Name) _ (is k.Name) true (λ t h. h))
    (λ xs rest a l h. begins_token (is k.Primary) _ (is k.Name) false (λ t e. of_kind (λ x. same_kind x k.Name) k.Primary t e) xs rest a l)

some_part : (text : Bytes) (b : Parts) → Some (g.part text b)
some_part text b = let s = some_both (word k.Name) (typed_column text b) (some_word k.Name) (some_typed_column text b) in record { text = s.text; value = s.value; reads = inl s.reads }

abbrev next_part : Bytes → Parts → Phrase Token Parts
next_part text b = word k.Comma >> g.part text b

turn_part : (text : Bytes) → Turn (next_part text) stop_column (is k.Comma) (r.next_part text)
unfolding r.next_part same_kind
turn_part text = record {
  good = λ b. after k.Comma (λ _. g.part text b) (λ _. r.part text b) stop_column (λ _. good_part text b) (λ _. some_part text b);
  begins = λ b xs rest c l. begins_token (is k.Comma) _ (is k.Comma) true (λ t h. h) xs rest c l;
  apart = λ t h. of_kind (λ x. starts_constraint x || same_kind x k.OpenParen) k.Comma t h;
}

-- ---- tables

abbrev closed_table : Bytes → Token → Parts → Phrase Token TableDef
closed_table text n c = word k.CloseParen >> nothing (g.table text n c)

abbrev listed : Bytes → Token → Parts → Phrase Token TableDef
listed text n b = Both (Repeated (next_part text) b) (closed_table text n)

abbrev stop_parts : Token → Bool
stop_parts t = is k.Comma t || stop_column t

good_listed : (stop : Token → Bool) (text : Bytes) (n : Token) (b : Parts) → Good (listed text n b) stop (r.more_parts text b >>= (λ c. expect k.CloseParen >>= (λ _. pure (g.table text n c))))
unfolding same_kind
good_listed stop text n b = good_bind (Repeated (next_part text) b) (closed_table text n) (r.more_parts text b) _ stop_parts stop
    (good_repeated (next_part text) stop_column (is k.Comma) (r.next_part text) (turn_part text) b)
    (λ c. word_map k.CloseParen (λ _. g.table text n c) stop)
    (λ c ys rest t l h. begins_token (is k.CloseParen) _ stop_parts false (λ t e. of_kind (λ x. same_kind x k.Comma || (starts_constraint x || same_kind x k.OpenParen)) k.CloseParen t e) ys rest t l)
    (λ c. some_map k.CloseParen (λ _. g.table text n c))

some_listed : (text : Bytes) (n : Token) (b : Parts) → Some (listed text n b)
some_listed text n b = some_both (Repeated (next_part text) b) (closed_table text n) (some_repeated (next_part text) b) (λ c. some_map k.CloseParen (λ _. g.table text n c))

abbrev parts_of : Bytes → Token → Phrase Token TableDef
parts_of text n = Both (g.part text g.no_parts) (listed text n)

good_parts_of : (stop : Token → Bool) (text : Bytes) (n : Token) → Good (parts_of text n) stop (r.part text g.no_parts >>= (λ b. r.more_parts text b >>= (λ c. expect k.CloseParen >>= (λ _. pure (g.table text n c)))))
unfolding same_kind
good_parts_of stop text n = good_bind (g.part text g.no_parts) (listed text n) (r.part text g.no_parts) _ stop_column stop (good_part text g.no_parts) (good_listed stop text n)
    (λ b ys rest t l h. begins_repeated (next_part text) stop_column (is k.Comma) (r.next_part text) (turn_part text) (closed_table text n) stop_column false
    (λ t e. of_kind (λ x. starts_constraint x || same_kind x k.OpenParen) k.Comma t e)
    (λ c us more d m. begins_token (is k.CloseParen) _ stop_column false (λ t e. of_kind (λ x. starts_constraint x || same_kind x k.OpenParen) k.CloseParen t e) us more d m)
    b ys rest t l)
    (some_listed text n)

some_parts_of : (text : Bytes) (n : Token) → Some (parts_of text n)
some_parts_of text n = some_both (g.part text g.no_parts) (listed text n) (some_part text g.no_parts) (some_listed text n)

abbrev opened : Bytes → Token → Phrase Token TableDef
opened text n = word k.OpenParen >> parts_of text n

some_opened : (text : Bytes) (n : Token) → Some (opened text n)
some_opened text n = some_both (word k.OpenParen) _ (some_word k.OpenParen) (λ _. some_parts_of text n)

some_named : (text : Bytes) → Some (Both (word k.Name) (opened text))
some_named text = some_both (word k.Name) (opened text) (some_word k.Name) (some_opened text)

pub good_create : (stop : Token → Bool) (text : Bytes) → Good (g.create text) stop (r.create text)
unfolding r.create
good_create stop text = after k.Create _ _ stop
    (λ _. after k.Table _ _ stop
    (λ _. after k.Name (opened text) _ stop
    (λ n. after k.OpenParen _ _ stop (λ _. good_parts_of stop text n) (λ _. some_parts_of text n))
    (some_opened text))
    (λ _. some_named text))
    (λ _. some_both (word k.Table) _ (some_word k.Table) (λ _. some_named text))

pub begins_create : (sel : Token → Bool) (c : Bool) → ((t : Token) → is k.Create t ≡ true → sel t ≡ c) → (text : Bytes) (xs rest : List Token) (t : TableDef) → g.create text xs t → next sel (xs ++ rest) ≡ c
begins_create sel c h text = begins_token (is k.Create) _ sel c h

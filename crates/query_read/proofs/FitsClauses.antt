-- Each parser of clauses is good for its rule of the grammar, and so is that of queries.
use Rattle.std.proofs.Common.{◌≡◌, ℕ, Bool, true, false, ◌||◌, List, [], ◌∷◌, ◌++◌, refl, inl, inr}
use Rattle.std.specs.Prelude.{Option}
use Rattle.std.specs.Prelude as Opt
use Rattle.phrases.specs.Phrases.{Phrase, Both, nothing, ◌<|>◌, ◌>>◌, Repeated}
use Rattle.phrases.specs.Parsers.{pure, either, next, ◌>>=◌}
use Rattle.phrases.proofs.Good.{Some, good_pure, good_bind, good_either, weaken, next-weaker}
use Rattle.phrases.proofs.Repeats.{Turns}
use Rattle.phrases.proofs.Shapes.{some_both, some_nothing, some_repeated, or_left, or_right, good_map, good_repeated}
use Rattle.phrases.proofs.First.{Starts, starts_both, starts_either, Avoids, avoids_starts, avoids_either, avoids_both, Quiet, quiet_starts, quiet_nothing, quiet_both, quiet_either, quiet_repeated}
use Rattle.sql_read.specs.declared.kind.Kind.{Kind}
use Rattle.sql_read.specs.declared.kind.Kind.TheVariants as k
use Rattle.sql_read.specs.declared.token_list.Token.{Token}
use Rattle.sql_read.specs.Kinds.{same_kind}
use Rattle.sql_read.specs.Lexis.{Bytes}
use Rattle.sql_read.specs.Schema.{is, word}
use Rattle.sql_read.proofs.GoodSchema.{of_kind}
use Rattle.query_trees.specs.declared.expr.ColumnName.{ColumnName}
use Rattle.query_trees.specs.declared.expr.Expr.{Expr}
use Rattle.query_trees.specs.declared.clauses.Alias.{Alias}
use Rattle.query_trees.specs.declared.clauses.SelectItem.{SelectItem}
use Rattle.query_trees.specs.declared.clauses.SelectList.{SelectList}
use Rattle.query_trees.specs.declared.clauses.SelectList.TheVariants as select
use Rattle.query_trees.specs.declared.clauses.TableName.{TableName}
use Rattle.query_trees.specs.declared.clauses.Join.{Join}
use Rattle.query_trees.specs.declared.clauses.Source.{Source}
use Rattle.query_trees.specs.declared.clauses.Direction.{Direction}
use Rattle.query_trees.specs.declared.clauses.Direction.TheVariants.{Ascending, Descending}
use Rattle.query_trees.specs.declared.clauses.SortKey.{SortKey}
use Rattle.query_trees.specs.declared.query.Query.{Query}
use Rattle.query_read.specs.declared.grouping.Grouping.{Grouping}
use Rattle.query_read.specs.Asked.{Asked}
use Rattle.query_read.specs.Classes.{joins}
use Rattle.query_read.specs.Nodes.{of, alias_of, table_of, cross_join, key_join, grouping, by_place, by_column, query_of}
use Rattle.query_read.specs.Expressions as e
use Rattle.query_read.specs.ExpressionParsers as y
use Rattle.query_read.specs.Clauses as g
use Rattle.query_read.specs.ClauseParsers as r
use Rattle.query_read.specs.ExpressionParsers.{Parser, expect}
use Rattle.query_read.proofs.TokenKinds.{gap, FitsQ, joins_are, some_word, word_map, some_map, after, starts_word, starts_in, quiet_word, avoids_word}
use Rattle.query_read.proofs.FitsAtoms.{column_stops, series_stops, fits_series, some_series, fits_column, some_column, starts_column}
use Rattle.query_read.proofs.FitsExpressions.{expr_stops, fits_expr, some_expr, avoids_expr}

-- any token
abbrev pub every : Token → Bool
every t = true

-- nothing follows
nothing_left : (sel : Token → Bool) (rest : List Token) → next every rest ≡ false → next sel rest ≡ false
nothing_left sel [] h = refl
nothing_left sel (t ∷ rest) h = absurd (cc)

-- ---- aliases and tables

abbrev pub alias_stops : Kind → Bool
alias_stops x = same_kind x k.As || same_kind x k.Name

fits_named : (text : Bytes) (stop : Token → Bool) → FitsQ (g.named text) stop (r.named text)
unfolding r.named
fits_named text stop = word_map k.Name (λ n. Opt.Some (alias_of text n)) stop

some_named : (text : Bytes) → Some (g.named text)
some_named text = some_map k.Name (λ n. Opt.Some (alias_of text n))

abbrev maybe_named : Bytes → Phrase Token (Option Alias)
maybe_named text = g.named text <|> nothing Opt.None

fits_maybe_named : (text : Bytes) → FitsQ (maybe_named text) (of alias_stops) (either (is k.Name) (r.named text) (pure Opt.None))
fits_maybe_named text = good_either (g.named text) (nothing Opt.None) (r.named text) (pure Opt.None) (is k.Name) (of alias_stops) (fits_named text (of alias_stops)) (good_pure Opt.None (of alias_stops))
    (starts_word k.Name _)
    (λ xs rest a l h. quiet_nothing (is k.Name) Opt.None xs rest a l (next-weaker (is k.Name) (of alias_stops) (λ t e. or_right (same_kind t.kind k.As) (same_kind t.kind k.Name) e) rest h))

fits_alias : (text : Bytes) → FitsQ (g.alias text) (of alias_stops) (r.alias text)
unfolding r.alias same_kind
fits_alias text = good_either (word k.As >> g.named text) (maybe_named text) (expect k.As >>= (λ _. r.named text)) (either (is k.Name) (r.named text) (pure Opt.None)) (is k.As) (of alias_stops)
    (after k.As (λ _. g.named text) _ (of alias_stops) (λ _. fits_named text (of alias_stops)) (λ _. some_named text))
    (fits_maybe_named text)
    (starts_word k.As (λ _. g.named text))
    (λ xs rest a l h. quiet_either (is k.As) (g.named text) (nothing Opt.None) (quiet_word (λ x. same_kind x k.As) k.Name _ refl) (quiet_nothing (is k.As) Opt.None) xs rest a l
    (next-weaker (is k.As) (of alias_stops) (λ t e. or_left (same_kind t.kind k.As) (same_kind t.kind k.Name) e) rest h))

some_alias : (text : Bytes) → Some (g.alias text)
some_alias text = record { text = []; value = Opt.None; reads = inr (inr (refl, refl)) }

-- what no alias begins with
quiet_alias : (text : Bytes) (f : Kind → Bool) → f k.As ≡ false → f k.Name ≡ false → Quiet (of f) (g.alias text)
quiet_alias text f a b = quiet_either (of f) (word k.As >> g.named text) (maybe_named text) (quiet_word f k.As _ a) (quiet_either (of f) (g.named text) (nothing Opt.None) (quiet_word f k.Name _ b) (quiet_nothing (of f) Opt.None))

-- what may follow a rule that an alias ends, where f does not go on with what comes before the alias
abbrev aliased_stops : (Kind → Bool) → Kind → Bool
aliased_stops f x = alias_stops x || f x

fits_table : (text : Bytes) → FitsQ (g.table text) (of alias_stops) (r.table text)
unfolding r.table
fits_table text = after k.Name (λ n. Both (g.alias text) (λ a. nothing (table_of text n a))) _ (of alias_stops)
    (λ n. good_map (g.alias text) (r.alias text) (of alias_stops) (fits_alias text) (table_of text n))
    (λ n. some_both (g.alias text) _ (some_alias text) (λ a. some_nothing (table_of text n a)))

some_table : (text : Bytes) → Some (g.table text)
some_table text = some_both (word k.Name) (λ n. Both (g.alias text) (λ a. nothing (table_of text n a))) (some_word k.Name) (λ n. some_both (g.alias text) _ (some_alias text) (λ a. some_nothing (table_of text n a)))

-- ---- joins

abbrev join_stops : Kind → Bool
join_stops x = alias_stops x || column_stops x

abbrev added : Bytes → Token → Phrase Token Join
added text t = Both (g.table text) (λ x. nothing (cross_join t x))

fits_cross : (text : Bytes) (t : Token) → FitsQ (added text t) (of join_stops) (r.table text >>= (λ x. pure (cross_join t x)))
fits_cross text t = weaken (added text t) (r.table text >>= (λ x. pure (cross_join t x))) (of alias_stops) (of join_stops)
    (good_map (g.table text) (r.table text) (of alias_stops) (fits_table text) (cross_join t)) (λ u h. or_left (alias_stops u.kind) (column_stops u.kind) h)

some_cross : (text : Bytes) (t : Token) → Some (added text t)
some_cross text t = some_both (g.table text) _ (some_table text) (λ x. some_nothing (cross_join t x))

fits_by_comma : (text : Bytes) → FitsQ (g.by_comma text) (of join_stops) (r.by_comma text)
unfolding r.by_comma
fits_by_comma text = after k.Comma (added text) _ (of join_stops) (fits_cross text) (some_cross text)

fits_by_cross : (text : Bytes) → FitsQ (g.by_cross text) (of join_stops) (r.by_cross text)
unfolding r.by_cross
fits_by_cross text = after k.Cross (λ t. word k.Join >> added text t) _ (of join_stops)
    (λ t. after k.Join (λ _. added text t) _ (of join_stops) (λ _. fits_cross text t) (λ _. some_cross text t))
    (λ t. some_both (word k.Join) (λ _. added text t) (some_word k.Join) (λ _. some_cross text t))

-- the parts of ON, from the last to the first
abbrev on_right : Bytes → Token → TableName → ColumnName → Token → Phrase Token Join
on_right text t x a q = Both (e.column text) (λ b. nothing (key_join t x a q b))

abbrev on_equal : Bytes → Token → TableName → ColumnName → Phrase Token Join
on_equal text t x a = Both (word k.Equal) (on_right text t x a)

abbrev on_left : Bytes → Token → TableName → Phrase Token Join
on_left text t x = Both (e.column text) (on_equal text t x)

abbrev on_word : Bytes → Token → TableName → Phrase Token Join
on_word text t x = word k.On >> on_left text t x

some_right : (text : Bytes) (t : Token) (x : TableName) (a : ColumnName) (q : Token) → Some (on_right text t x a q)
some_right text t x a q = some_both (e.column text) _ (some_column text) (λ b. some_nothing (key_join t x a q b))

some_equal : (text : Bytes) (t : Token) (x : TableName) (a : ColumnName) → Some (on_equal text t x a)
some_equal text t x a = some_both (word k.Equal) (on_right text t x a) (some_word k.Equal) (some_right text t x a)

some_left : (text : Bytes) (t : Token) (x : TableName) → Some (on_left text t x)
some_left text t x = some_both (e.column text) (on_equal text t x) (some_column text) (some_equal text t x)

some_on_word : (text : Bytes) (t : Token) (x : TableName) → Some (on_word text t x)
some_on_word text t x = some_both (word k.On) (λ _. on_left text t x) (some_word k.On) (λ _. some_left text t x)

fits_equal : (text : Bytes) (t : Token) (x : TableName) (a : ColumnName) → FitsQ (on_equal text t x a) (of column_stops) (expect k.Equal >>= (λ q. y.column text >>= (λ b. pure (key_join t x a q b))))
fits_equal text t x a = after k.Equal (on_right text t x a) _ (of column_stops)
    (λ q. good_map (e.column text) (y.column text) (of column_stops) (fits_column text) (key_join t x a q)) (some_right text t x a)

fits_left : (text : Bytes) (t : Token) (x : TableName) → FitsQ (on_left text t x) (of column_stops) (y.column text >>= (λ a. expect k.Equal >>= (λ q. y.column text >>= (λ b. pure (key_join t x a q b)))))
unfolding same_kind
fits_left text t x = good_bind (e.column text) (on_equal text t x) (y.column text) _ (of column_stops) (of column_stops) (fits_column text) (fits_equal text t x)
    (λ a ys rest b l h. avoids_word column_stops k.Equal (on_right text t x a) refl ys rest b l)
    (some_equal text t x)

fits_on : (text : Bytes) (t : Token) → FitsQ (g.on text t) (of join_stops) (r.on text t)
unfolding r.on same_kind
fits_on text t = weaken (g.on text t) _ (of column_stops) (of join_stops)
    (good_bind (g.table text) (on_word text t) (r.table text) _ (of alias_stops) (of column_stops) (fits_table text)
    (λ x. after k.On (λ _. on_left text t x) _ (of column_stops) (λ _. fits_left text t x) (λ _. some_left text t x))
    (λ x ys rest b l h. avoids_word alias_stops k.On (λ _. on_left text t x) refl ys rest b l)
    (some_on_word text t))
    (λ u h. or_right (alias_stops u.kind) (column_stops u.kind) h)

some_on : (text : Bytes) (t : Token) → Some (g.on text t)
some_on text t = some_both (g.table text) (on_word text t) (some_table text) (some_on_word text t)

abbrev inner_join : Bytes → Phrase Token Join
inner_join text = Both (word k.Inner) (λ t. word k.Join >> g.on text t)

abbrev plain_join : Bytes → Phrase Token Join
plain_join text = Both (word k.Join) (g.on text)

fits_by_key : (text : Bytes) → FitsQ (g.by_key text) (of join_stops) (r.by_key text)
unfolding r.by_key same_kind
fits_by_key text = good_either (inner_join text) (plain_join text) _ _ (is k.Inner) (of join_stops)
    (after k.Inner (λ t. word k.Join >> g.on text t) _ (of join_stops)
    (λ t. after k.Join (λ _. g.on text t) _ (of join_stops) (λ _. fits_on text t) (λ _. some_on text t))
    (λ t. some_both (word k.Join) (λ _. g.on text t) (some_word k.Join) (λ _. some_on text t)))
    (after k.Join (g.on text) _ (of join_stops) (fits_on text) (some_on text))
    (starts_word k.Inner _)
    (λ xs rest a l h. avoids_word (λ x. same_kind x k.Inner) k.Join (g.on text) refl xs rest a l)

abbrev keyed_or_crossed : Bytes → Phrase Token Join
keyed_or_crossed text = g.by_cross text <|> g.by_key text

abbrev any_join : Bytes → Phrase Token Join
any_join text = g.by_comma text <|> keyed_or_crossed text

avoids_by_key : (text : Bytes) (f : Kind → Bool) → f k.Inner ≡ false → f k.Join ≡ false → Avoids (of f) (g.by_key text)
avoids_by_key text f a b = avoids_either (of f) (inner_join text) (plain_join text) (avoids_word f k.Inner _ a) (avoids_word f k.Join (g.on text) b)

avoids_other : (text : Bytes) (f : Kind → Bool) → f k.Cross ≡ false → f k.Inner ≡ false → f k.Join ≡ false → Avoids (of f) (keyed_or_crossed text)
avoids_other text f c a b = avoids_either (of f) (g.by_cross text) (g.by_key text) (avoids_word f k.Cross _ c) (avoids_by_key text f a b)

fits_added_table : (text : Bytes) → FitsQ (any_join text) (of join_stops) (r.added_table text)
unfolding r.added_table same_kind
fits_added_table text = good_either (g.by_comma text) (keyed_or_crossed text) (r.by_comma text) (either (is k.Cross) (r.by_cross text) (r.by_key text)) (is k.Comma) (of join_stops)
    (fits_by_comma text)
    (good_either (g.by_cross text) (g.by_key text) (r.by_cross text) (r.by_key text) (is k.Cross) (of join_stops) (fits_by_cross text) (fits_by_key text)
    (starts_word k.Cross _)
    (λ xs rest a l h. avoids_by_key text (λ x. same_kind x k.Cross) refl refl xs rest a l))
    (starts_word k.Comma (added text))
    (λ xs rest a l h. avoids_other text (λ x. same_kind x k.Comma) refl refl refl xs rest a l)

starts_join : (text : Bytes) → Starts (of joins) (any_join text)
starts_join text = starts_either (of joins) (g.by_comma text) (keyed_or_crossed text) (starts_in joins k.Comma (added text) refl)
    (starts_either (of joins) (g.by_cross text) (g.by_key text) (starts_in joins k.Cross _ refl)
    (starts_either (of joins) (inner_join text) (plain_join text) (starts_in joins k.Inner _ refl) (starts_in joins k.Join (g.on text) refl)))

fits_join : (text : Bytes) (js : List Join) → FitsQ (g.join text js) (of join_stops) (r.join text js)
unfolding r.join
fits_join text js = good_map (any_join text) (r.added_table text) (of join_stops) (fits_added_table text) (λ j. js ++ j ∷ [])

turn_join : (text : Bytes) → Turns gap (g.join text) (of join_stops) (of joins) (r.join text)
unfolding same_kind
turn_join text = record {
  good = fits_join text;
  begins = λ js xs rest b l. starts_both (of joins) (any_join text) (λ j. nothing (js ++ j ∷ [])) (starts_join text) xs rest b l;
  apart = λ t h. joins_are join_stops false refl refl refl refl t.kind h;
}

abbrev source_stops : Kind → Bool
source_stops x = joins x || join_stops x

abbrev joined : Bytes → TableName → Phrase Token Source
joined text t = Both (Repeated (g.join text) []) (λ js. nothing (record { first = t; joins = js }))

some_joined : (text : Bytes) (t : TableName) → Some (joined text t)
some_joined text t = some_both (Repeated (g.join text) []) _ (some_repeated (g.join text) []) (λ js. some_nothing (record { first = t; joins = js }))

quiet_joined : (text : Bytes) (f : Kind → Bool) → f k.Comma ≡ false → f k.Cross ≡ false → f k.Inner ≡ false → f k.Join ≡ false → (t : TableName) → Quiet (of f) (joined text t)
quiet_joined text f a b c d t = quiet_both (of f) (Repeated (g.join text) []) (λ js. nothing (record { first = t; joins = js }))
    (quiet_repeated (of f) (g.join text) (λ js. quiet_starts (of joins) (of f) (g.join text js) (λ u h. joins_are f false a b c d u.kind h) (starts_both (of joins) (any_join text) _ (starts_join text))) [])
    (λ js. quiet_nothing (of f) (record { first = t; joins = js }))

fits_source : (text : Bytes) → FitsQ (g.source text) (of source_stops) (r.source text)
unfolding r.source same_kind
fits_source text = good_bind (g.table text) (joined text) (r.table text) _ (of alias_stops) (of source_stops) (fits_table text)
    (λ t. good_map (Repeated (g.join text) []) (r.more_joins text []) (of source_stops) (good_repeated (g.join text) (of join_stops) (of joins) (r.join text) (turn_join text) []) (λ js. record { first = t; joins = js }))
    (λ t ys rest b l h. quiet_joined text alias_stops refl refl refl refl t ys rest b l
    (next-weaker (of alias_stops) (of source_stops) (λ u e. or_left (alias_stops u.kind) (column_stops u.kind) (or_right (joins u.kind) (join_stops u.kind) e)) rest h))
    (some_joined text)

some_source : (text : Bytes) → Some (g.source text)
some_source text = some_both (g.table text) (joined text) (some_table text) (some_joined text)

-- ---- directions and keys

abbrev directions : Kind → Bool
directions x = same_kind x k.Asc || same_kind x k.Desc

abbrev asc : Phrase Token Direction
asc = word k.Asc >> nothing Ascending

abbrev desc : Phrase Token Direction
desc = word k.Desc >> nothing Descending

abbrev desc_or_none : Phrase Token Direction
desc_or_none = desc <|> nothing Ascending

fits_direction : FitsQ g.direction (of directions) r.direction
unfolding r.direction same_kind
fits_direction = good_either asc desc_or_none _ _ (is k.Asc) (of directions)
    (word_map k.Asc (λ _. Ascending) (of directions))
    (good_either desc (nothing Ascending) _ _ (is k.Desc) (of directions) (word_map k.Desc (λ _. Descending) (of directions)) (good_pure Ascending (of directions))
    (starts_word k.Desc _)
    (λ xs rest a l h. quiet_nothing (is k.Desc) Ascending xs rest a l (next-weaker (is k.Desc) (of directions) (λ t e. or_right (same_kind t.kind k.Asc) (same_kind t.kind k.Desc) e) rest h)))
    (starts_word k.Asc _)
    (λ xs rest a l h. quiet_either (is k.Asc) desc (nothing Ascending) (quiet_word (λ x. same_kind x k.Asc) k.Desc _ refl) (quiet_nothing (is k.Asc) Ascending) xs rest a l
    (next-weaker (is k.Asc) (of directions) (λ t e. or_left (same_kind t.kind k.Asc) (same_kind t.kind k.Desc) e) rest h))

some_direction : Some g.direction
some_direction = record { text = []; value = Ascending; reads = inr (inr (refl, refl)) }

quiet_direction : (f : Kind → Bool) → f k.Asc ≡ false → f k.Desc ≡ false → Quiet (of f) g.direction
quiet_direction f a b = quiet_either (of f) asc desc_or_none (quiet_word f k.Asc _ a) (quiet_either (of f) desc (nothing Ascending) (quiet_word f k.Desc _ b) (quiet_nothing (of f) Ascending))

abbrev placed : Phrase Token SortKey
placed = Both (word k.Digits) (λ n. nothing (by_place n))

abbrev columned : Bytes → Phrase Token SortKey
columned text = Both (e.column text) (λ c. nothing (by_column c))

fits_sort_by : (text : Bytes) → FitsQ (g.sort_by text) (of column_stops) (r.sort_by text)
unfolding r.sort_by same_kind
fits_sort_by text = good_either placed (columned text) _ _ (is k.Digits) (of column_stops)
    (word_map k.Digits by_place (of column_stops))
    (good_map (e.column text) (y.column text) (of column_stops) (fits_column text) by_column)
    (starts_word k.Digits _)
    (λ xs rest a l h. avoids_starts (is k.Name) (is k.Digits) (columned text) (λ t u. of_kind (λ x. same_kind x k.Digits) k.Name t u) (starts_both (is k.Name) (e.column text) _ (starts_column text)) xs rest a l)

some_sort_by : (text : Bytes) → Some (g.sort_by text)
some_sort_by text = let s = some_map k.Digits by_place in record { text = s.text; value = s.value; reads = inl s.reads }

abbrev key_stops : Kind → Bool
key_stops x = directions x || column_stops x

abbrev directed : SortKey → Phrase Token SortKey
directed b = Both g.direction (λ x. nothing (record b { direction = x }))

some_directed : (b : SortKey) → Some (directed b)
some_directed b = some_both g.direction _ some_direction (λ x. some_nothing (record b { direction = x }))

fits_key : (text : Bytes) → FitsQ (g.key text) (of key_stops) (r.key text)
unfolding r.key same_kind
fits_key text = good_bind (g.sort_by text) directed (r.sort_by text) _ (of column_stops) (of key_stops) (fits_sort_by text)
    (λ b. weaken (directed b) (r.direction >>= (λ x. pure (record b { direction = x }))) (of directions) (of key_stops) (good_map g.direction r.direction (of directions) fits_direction (λ x. record b { direction = x })) (λ t h. or_left (directions t.kind) (column_stops t.kind) h))
    (λ b ys rest c l h. quiet_both (of column_stops) g.direction (λ x. nothing (record b { direction = x })) (quiet_direction column_stops refl refl) (λ x. quiet_nothing (of column_stops) (record b { direction = x })) ys rest c l
    (next-weaker (of column_stops) (of key_stops) (λ t e. or_right (directions t.kind) (column_stops t.kind) e) rest h))
    some_directed

some_key : (text : Bytes) → Some (g.key text)
some_key text = some_both (g.sort_by text) directed (some_sort_by text) some_directed

abbrev keys_stops : Kind → Bool
keys_stops = series_stops key_stops

abbrev order_stops : Kind → Bool
order_stops x = same_kind x k.Order || keys_stops x

abbrev ordered : Bytes → Phrase Token (List SortKey)
ordered text = word k.Order >> (word k.By >> e.series (g.key text))

fits_order : (text : Bytes) → FitsQ (g.order text) (of order_stops) (r.order text)
unfolding r.order same_kind
fits_order text = good_either (ordered text) (nothing []) _ _ (is k.Order) (of order_stops)
    (weaken (ordered text) _ (of keys_stops) (of order_stops)
    (after k.Order (λ _. word k.By >> e.series (g.key text)) _ (of keys_stops)
    (λ _. after k.By (λ _. e.series (g.key text)) _ (of keys_stops) (λ _. fits_series (g.key text) (r.key text) key_stops refl (fits_key text) (some_key text)) (λ _. some_series (g.key text) (some_key text)))
    (λ _. some_both (word k.By) (λ _. e.series (g.key text)) (some_word k.By) (λ _. some_series (g.key text) (some_key text))))
    (λ t h. or_right (same_kind t.kind k.Order) (keys_stops t.kind) h))
    (good_pure [] (of order_stops))
    (starts_word k.Order _)
    (λ xs rest a l h. quiet_nothing (is k.Order) [] xs rest a l (next-weaker (is k.Order) (of order_stops) (λ t e. or_left (same_kind t.kind k.Order) (keys_stops t.kind) e) rest h))

some_order : (text : Bytes) → Some (g.order text)
some_order text = record { text = []; value = []; reads = inr (refl, refl) }

quiet_order : (text : Bytes) (f : Kind → Bool) → f k.Order ≡ false → Quiet (of f) (g.order text)
quiet_order text f a = quiet_either (of f) (ordered text) (nothing []) (quiet_word f k.Order _ a) (quiet_nothing (of f) [])

-- ---- the end

abbrev semicolon : Query → Phrase Token Query
semicolon q = word k.Semicolon >> nothing q

fits_closed : (q : Query) → FitsQ (g.closed q) every (r.closed q)
unfolding r.closed
fits_closed q = good_either (semicolon q) (nothing q) _ _ (is k.Semicolon) every (word_map k.Semicolon (λ _. q) every) (good_pure q every)
    (starts_word k.Semicolon _)
    (λ xs rest a l h. quiet_nothing (is k.Semicolon) q xs rest a l (nothing_left (is k.Semicolon) rest h))

some_closed : (q : Query) → Some (g.closed q)
some_closed q = record { text = []; value = q; reads = inr (refl, refl) }

quiet_closed : (q : Query) (f : Kind → Bool) → f k.Semicolon ≡ false → Quiet (of f) (g.closed q)
quiet_closed q f a = quiet_either (of f) (semicolon q) (nothing q) (quiet_word f k.Semicolon _ a) (quiet_nothing (of f) q)

-- ---- DISTINCT

abbrev distinct_word : Phrase Token (Option ℕ)
distinct_word = Both (word k.Distinct) (λ t. nothing (Opt.Some t.at))

fits_distinct : FitsQ g.distinct (is k.Distinct) r.distinct
unfolding r.distinct
fits_distinct = good_either distinct_word (nothing Opt.None) _ _ (is k.Distinct) (is k.Distinct) (word_map k.Distinct (λ t. Opt.Some t.at) (is k.Distinct)) (good_pure Opt.None (is k.Distinct))
    (starts_word k.Distinct _)
    (quiet_nothing (is k.Distinct) Opt.None)

-- ---- the clauses, over expressions

module _ (m : Asked) (text : Bytes) (n : ℕ) where
  abbrev E : Phrase Token Expr
  E = e.expr m text (e.depth m text n)

  abbrev q : Parser Expr
  q = y.expr m text (y.under m text n)

  abbrev item_stops : Kind → Bool
  item_stops x = alias_stops x || expr_stops x

  abbrev aliased : Expr → Phrase Token SelectItem
  aliased a = Both (g.alias text) (λ x. nothing (record { value = a; alias = x }))

  some_aliased : (a : Expr) → Some (aliased a)
  some_aliased a = some_both (g.alias text) _ (some_alias text) (λ x. some_nothing (record { value = a; alias = x }))

  fits_item : FitsQ (g.item text E) (of item_stops) (r.item text q)
  unfolding r.item same_kind
  fits_item = good_bind E aliased q _ (of expr_stops) (of item_stops) (fits_expr m text n)
      (λ a. weaken (aliased a) (r.alias text >>= (λ x. pure (record { value = a; alias = x }))) (of alias_stops) (of item_stops) (good_map (g.alias text) (r.alias text) (of alias_stops) (fits_alias text) (λ x. record { value = a; alias = x })) (λ t h. or_left (alias_stops t.kind) (expr_stops t.kind) h))
      (λ a ys rest b l h. quiet_both (of expr_stops) (g.alias text) (λ x. nothing (record { value = a; alias = x })) (quiet_alias text expr_stops refl refl) (λ x. quiet_nothing (of expr_stops) (record { value = a; alias = x })) ys rest b l
      (next-weaker (of expr_stops) (of item_stops) (λ t u. or_right (alias_stops t.kind) (expr_stops t.kind) u) rest h))
      some_aliased

  some_item : Some (g.item text E)
  some_item = some_both E aliased (some_expr m text n) some_aliased

  abbrev items : Phrase Token SelectList
  items = Both (e.series (g.item text E)) (λ xs. nothing (select.Items xs))

  abbrev star_list : Phrase Token SelectList
  star_list = Both (word k.Star) (λ t. nothing (select.All t.at))

  abbrev list_stops : Kind → Bool
  list_stops = series_stops item_stops

  avoids_items : (f : Kind → Bool) → Avoids (of f) E → Avoids (of f) items
  avoids_items f a xs rest b l = avoids_both (of f) (e.series (g.item text E)) _ (avoids_both (of f) (g.item text E) _ (avoids_both (of f) E aliased a)) xs rest b l

  fits_list : FitsQ (g.list text E) (of list_stops) (r.list text q)
  unfolding r.list same_kind
  fits_list = good_either star_list items _ _ (is k.Star) (of list_stops)
      (word_map k.Star (λ t. select.All t.at) (of list_stops))
      (good_map (e.series (g.item text E)) (y.series (r.item text q)) (of list_stops) (fits_series (g.item text E) (r.item text q) item_stops refl fits_item some_item) (λ xs. select.Items xs))
      (starts_word k.Star _)
      (λ xs rest a l h. avoids_items (λ x. same_kind x k.Star) (avoids_expr m text n (λ x. same_kind x k.Star) refl) xs rest a l)

  some_list : Some (g.list text E)
  some_list = let s = some_map k.Star (λ t. select.All t.at) in record { text = s.text; value = s.value; reads = inl s.reads }

  avoids_list : (f : Kind → Bool) → f k.Star ≡ false → Avoids (of f) E → Avoids (of f) (g.list text E)
  avoids_list f a b = avoids_either (of f) star_list items (avoids_word f k.Star _ a) (avoids_items f b)

  abbrev condition_stops : Kind → Kind → Bool
  condition_stops kind x = same_kind x kind || expr_stops x

  abbrev holding : Kind → Phrase Token (Option Expr)
  holding kind = word kind >> Both E (λ a. nothing (Opt.Some a))

  fits_condition : (kind : Kind) → FitsQ (g.condition kind E) (of (condition_stops kind)) (r.condition kind q)
  unfolding r.condition
  fits_condition kind = good_either (holding kind) (nothing Opt.None) _ _ (is kind) (of (condition_stops kind))
      (weaken (holding kind) _ (of expr_stops) (of (condition_stops kind))
      (after kind (λ _. Both E (λ a. nothing (Opt.Some a))) _ (of expr_stops) (λ _. good_map E q (of expr_stops) (fits_expr m text n) (λ a. Opt.Some a)) (λ _. some_both E _ (some_expr m text n) (λ a. some_nothing (Opt.Some a))))
      (λ t h. or_right (same_kind t.kind kind) (expr_stops t.kind) h))
      (good_pure Opt.None (of (condition_stops kind)))
      (starts_word kind _)
      (λ xs rest a l h. quiet_nothing (is kind) Opt.None xs rest a l (next-weaker (is kind) (of (condition_stops kind)) (λ t u. or_left (same_kind t.kind kind) (expr_stops t.kind) u) rest h))

  some_condition : (kind : Kind) → Some (g.condition kind E)
  some_condition kind = record { text = []; value = Opt.None; reads = inr (refl, refl) }

  quiet_condition : (kind : Kind) (f : Kind → Bool) → f kind ≡ false → Quiet (of f) (g.condition kind E)
  quiet_condition kind f a = quiet_either (of f) (holding kind) (nothing Opt.None) (quiet_word f kind _ a) (quiet_nothing (of f) Opt.None)

  abbrev columns_stops : Kind → Bool
  columns_stops = series_stops column_stops

  abbrev having_of : List ColumnName → Phrase Token Grouping
  having_of cs = Both (g.condition k.Having E) (λ h. nothing (grouping cs h))

  abbrev by_stops : Kind → Bool
  by_stops x = columns_stops x || condition_stops k.Having x

  abbrev grouped_columns : Phrase Token Grouping
  grouped_columns = Both (e.series (e.column text)) having_of

  some_having : (cs : List ColumnName) → Some (having_of cs)
  some_having cs = some_both (g.condition k.Having E) _ (some_condition k.Having) (λ h. some_nothing (grouping cs h))

  some_grouped : Some grouped_columns
  some_grouped = some_both (e.series (e.column text)) having_of (some_series (e.column text) (some_column text)) some_having

  fits_grouped : FitsQ grouped_columns (of by_stops) (y.series (y.column text) >>= (λ cs. r.condition k.Having q >>= (λ h. pure (grouping cs h))))
  unfolding same_kind
  fits_grouped = good_bind (e.series (e.column text)) having_of (y.series (y.column text)) _ (of columns_stops) (of by_stops)
      (fits_series (e.column text) (y.column text) column_stops refl (fits_column text) (some_column text))
      (λ cs. weaken (having_of cs) (r.condition k.Having q >>= (λ h. pure (grouping cs h))) (of (condition_stops k.Having)) (of by_stops) (good_map (g.condition k.Having E) (r.condition k.Having q) (of (condition_stops k.Having)) (fits_condition k.Having) (grouping cs)) (λ t h. or_right (columns_stops t.kind) (condition_stops k.Having t.kind) h))
      (λ cs ys rest b l h. quiet_both (of columns_stops) (g.condition k.Having E) (λ x. nothing (grouping cs x)) (quiet_condition k.Having columns_stops refl) (λ x. quiet_nothing (of columns_stops) (grouping cs x)) ys rest b l
      (next-weaker (of columns_stops) (of by_stops) (λ t u. or_left (columns_stops t.kind) (condition_stops k.Having t.kind) u) rest h))
      some_having

  abbrev groups_stops : Kind → Bool
  groups_stops x = same_kind x k.Group || by_stops x

  fits_groups : FitsQ (g.groups text E) (of groups_stops) (r.groups text q)
  unfolding r.groups r.by_groups
  fits_groups = good_either (g.by_groups text E) (nothing (grouping [] Opt.None)) _ _ (is k.Group) (of groups_stops)
      (weaken (g.by_groups text E) _ (of by_stops) (of groups_stops)
      (after k.Group (λ _. word k.By >> grouped_columns) _ (of by_stops)
      (λ _. after k.By (λ _. grouped_columns) _ (of by_stops) (λ _. fits_grouped) (λ _. some_grouped))
      (λ _. some_both (word k.By) (λ _. grouped_columns) (some_word k.By) (λ _. some_grouped)))
      (λ t h. or_right (same_kind t.kind k.Group) (by_stops t.kind) h))
      (good_pure (grouping [] Opt.None) (of groups_stops))
      (starts_word k.Group _)
      (λ xs rest a l h. quiet_nothing (is k.Group) (grouping [] Opt.None) xs rest a l (next-weaker (is k.Group) (of groups_stops) (λ t u. or_left (same_kind t.kind k.Group) (by_stops t.kind) u) rest h))

  some_groups : Some (g.groups text E)
  some_groups = record { text = []; value = grouping [] Opt.None; reads = inr (refl, refl) }

  quiet_groups : (f : Kind → Bool) → f k.Group ≡ false → Quiet (of f) (g.groups text E)
  quiet_groups f a = quiet_either (of f) (g.by_groups text E) (nothing (grouping [] Opt.None)) (quiet_word f k.Group _ a) (quiet_nothing (of f) (grouping [] Opt.None))

  -- ---- the query, from its end

  module _ (s : Token) (x : Option ℕ) (l : SelectList) where
    abbrev from_order : Source → Option Expr → Grouping → Phrase Token Query
    from_order t w h = Both (g.order text) (λ o. g.closed (query_of s x l t w h o))

    some_from_order : (t : Source) (w : Option Expr) (h : Grouping) → Some (from_order t w h)
    some_from_order t w h = some_both (g.order text) _ (some_order text) (λ o. some_closed (query_of s x l t w h o))

    fits_from_order : (t : Source) (w : Option Expr) (h : Grouping) → FitsQ (from_order t w h) every (r.order text >>= (λ o. r.closed (query_of s x l t w h o)))
    unfolding same_kind
    fits_from_order t w h = good_bind (g.order text) (λ o. g.closed (query_of s x l t w h o)) (r.order text) _ (of order_stops) every (fits_order text)
        (λ o. fits_closed (query_of s x l t w h o))
        (λ o ys rest b c e. quiet_closed (query_of s x l t w h o) order_stops refl ys rest b c (nothing_left (of order_stops) rest e))
        (λ o. some_closed (query_of s x l t w h o))

    quiet_from_order : (f : Kind → Bool) → f k.Order ≡ false → f k.Semicolon ≡ false → (t : Source) (w : Option Expr) (h : Grouping) → Quiet (of f) (from_order t w h)
    quiet_from_order f a b t w h = quiet_both (of f) (g.order text) _ (quiet_order text f a) (λ o. quiet_closed (query_of s x l t w h o) f b)

    abbrev from_groups : Source → Option Expr → Phrase Token Query
    from_groups t w = Both (g.groups text E) (from_order t w)

    some_from_groups : (t : Source) (w : Option Expr) → Some (from_groups t w)
    some_from_groups t w = some_both (g.groups text E) (from_order t w) some_groups (some_from_order t w)

    fits_from_groups : (t : Source) (w : Option Expr) → FitsQ (from_groups t w) every (r.groups text q >>= (λ h. r.order text >>= (λ o. r.closed (query_of s x l t w h o))))
    unfolding same_kind
    fits_from_groups t w = good_bind (g.groups text E) (from_order t w) (r.groups text q) _ (of groups_stops) every fits_groups (fits_from_order t w)
        (λ h ys rest b c e. quiet_from_order groups_stops refl refl t w h ys rest b c (nothing_left (of groups_stops) rest e))
        (some_from_order t w)

    quiet_from_groups : (f : Kind → Bool) → f k.Group ≡ false → f k.Order ≡ false → f k.Semicolon ≡ false → (t : Source) (w : Option Expr) → Quiet (of f) (from_groups t w)
    quiet_from_groups f c a b t w = quiet_both (of f) (g.groups text E) (from_order t w) (quiet_groups f c) (quiet_from_order f a b t w)

    abbrev from_where : Source → Phrase Token Query
    from_where t = Both (g.condition k.Where E) (from_groups t)

    some_from_where : (t : Source) → Some (from_where t)
    some_from_where t = some_both (g.condition k.Where E) (from_groups t) (some_condition k.Where) (some_from_groups t)

    fits_from_where : (t : Source) → FitsQ (from_where t) every (r.condition k.Where q >>= (λ w. r.groups text q >>= (λ h. r.order text >>= (λ o. r.closed (query_of s x l t w h o)))))
    unfolding same_kind
    fits_from_where t = good_bind (g.condition k.Where E) (from_groups t) (r.condition k.Where q) _ (of (condition_stops k.Where)) every (fits_condition k.Where) (fits_from_groups t)
        (λ w ys rest b c e. quiet_from_groups (condition_stops k.Where) refl refl refl t w ys rest b c (nothing_left (of (condition_stops k.Where)) rest e))
        (some_from_groups t)

    quiet_from_where : (f : Kind → Bool) → f k.Where ≡ false → f k.Group ≡ false → f k.Order ≡ false → f k.Semicolon ≡ false → (t : Source) → Quiet (of f) (from_where t)
    quiet_from_where f d c a b t = quiet_both (of f) (g.condition k.Where E) (from_groups t) (quiet_condition k.Where f d) (quiet_from_groups f c a b t)

    abbrev from_source : Phrase Token Query
    from_source = Both (g.source text) from_where

    some_from_source : Some from_source
    some_from_source = some_both (g.source text) from_where (some_source text) some_from_where

    fits_from_source : FitsQ from_source every (r.source text >>= (λ t. r.condition k.Where q >>= (λ w. r.groups text q >>= (λ h. r.order text >>= (λ o. r.closed (query_of s x l t w h o))))))
    unfolding same_kind
    fits_from_source = good_bind (g.source text) from_where (r.source text) _ (of source_stops) every (fits_source text) fits_from_where
        (λ t ys rest b c e. quiet_from_where source_stops refl refl refl refl t ys rest b c (nothing_left (of source_stops) rest e))
        some_from_where

  abbrev after_list : Token → Option ℕ → SelectList → Phrase Token Query
  after_list s x l = word k.From >> from_source s x l

  some_after_list : (s : Token) (x : Option ℕ) (l : SelectList) → Some (after_list s x l)
  some_after_list s x l = some_both (word k.From) (λ _. from_source s x l) (some_word k.From) (λ _. some_from_source s x l)

  abbrev after_distinct : Token → Option ℕ → Phrase Token Query
  after_distinct s x = Both (g.list text E) (after_list s x)

  some_after_distinct : (s : Token) (x : Option ℕ) → Some (after_distinct s x)
  some_after_distinct s x = some_both (g.list text E) (after_list s x) some_list (some_after_list s x)

  fits_after_distinct : (s : Token) (x : Option ℕ) → FitsQ (after_distinct s x) every (r.list text q >>= (λ l. expect k.From >>= (λ _. r.source text >>= (λ t. r.condition k.Where q >>= (λ w. r.groups text q >>= (λ h. r.order text >>= (λ o. r.closed (query_of s x l t w h o))))))))
  unfolding same_kind
  fits_after_distinct s x = good_bind (g.list text E) (after_list s x) (r.list text q) _ (of list_stops) every fits_list
      (λ l. after k.From (λ _. from_source s x l) _ every (λ _. fits_from_source s x l) (λ _. some_from_source s x l))
      (λ l ys rest b c e. avoids_word list_stops k.From (λ _. from_source s x l) refl ys rest b c)
      (some_after_list s x)

  abbrev after_select : Token → Phrase Token Query
  after_select s = Both g.distinct (after_distinct s)

  some_distinct : Some g.distinct
  some_distinct = record { text = []; value = Opt.None; reads = inr (refl, refl) }

  some_after_select : (s : Token) → Some (after_select s)
  some_after_select s = some_both g.distinct (after_distinct s) some_distinct (some_after_distinct s)

  pub some_query : Some (g.query m text n)
  some_query = some_both (word k.Select) after_select (some_word k.Select) some_after_select

  pub fits_query : FitsQ (g.query m text n) every (r.query m text n)
  unfolding r.query_over same_kind
  fits_query = after k.Select after_select _ every
      (λ s. good_bind g.distinct (after_distinct s) r.distinct _ (is k.Distinct) every fits_distinct (fits_after_distinct s)
      (λ x ys rest b c e. avoids_both (is k.Distinct) (g.list text E) (after_list s x)
      (avoids_list (λ z. same_kind z k.Distinct) refl (avoids_expr m text n (λ z. same_kind z k.Distinct) refl)) ys rest b c)
      (some_after_distinct s))
      some_after_select

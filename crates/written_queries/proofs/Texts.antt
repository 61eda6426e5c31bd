-- The literals of a query that is read are within bounds.
use Rattle.std.proofs.Common.{◌≡◌, Bool, true, false, ◌&&◌, if◌then◌else◌, List, [], ◌∷◌, ◌++◌, Option, Some, None, refl, subst}
use Rattle.std.specs.Prelude.{Ok, Err}
use Rattle.std.specs.List.{All, list_all}
use Rattle.std.specs.Str.{is_utf8}
use Rattle.std.specs.Str.Lossy.{utf8_valid_len}
use Rattle.std.proofs.lemmas.Bool.{and_from}
use Rattle.std.proofs.lemmas.List.Elements.{All-nil, All-cons, All-head, All-tail}
use Rattle.phrases.specs.declared.refusal.ReadError.TheVariants as read
use Rattle.phrases.specs.Parsers.{Outcome, ended, next}
use Rattle.sql_read.specs.declared.kind.Kind.{Kind}
use Rattle.sql_read.specs.declared.kind.Kind.TheVariants as k
use Rattle.sql_read.specs.declared.refusal.SqlKind.TheVariants as sql
use Rattle.sql_read.specs.declared.refusal.SqlRefusal.TheVariants.{Bad}
use Rattle.sql_read.specs.declared.token_list.Token.{Token}
use Rattle.sql_read.specs.Lexis.{Bytes}
use Rattle.sql_read.specs.Numbers.{IsMeasured}
use Rattle.sql_read.specs.Schema.{is}
use Rattle.sql_read.specs.Tokens.{Tokens, tokens}
use Rattle.sql_read.proofs.NumberLaws.{tokens_are_measured}
use Rattle.query_trees.specs.declared.clauses.Direction.TheVariants.{Ascending, Descending}
use Rattle.query_trees.specs.declared.clauses.SelectItem.{SelectItem}
use Rattle.query_trees.specs.declared.clauses.SelectList.{SelectList}
use Rattle.query_trees.specs.declared.clauses.SelectList.TheVariants as select
use Rattle.query_trees.specs.declared.expr.Expr.{Expr}
use Rattle.query_trees.specs.declared.query.Query.{Query}
use Rattle.query_read.specs.declared.fault.Fault.{Fault}
use Rattle.query_read.specs.declared.fault.Fault.TheVariants.{Unexpected}
use Rattle.query_read.specs.declared.grouping.Grouping.{Grouping}
use Rattle.query_read.specs.Asked.{all}
use Rattle.query_read.specs.Classes.{joins}
use Rattle.query_read.specs.Marked.{ends_date, as_step, marked_after}
use Rattle.query_read.specs.Nodes as nodes
use Rattle.query_read.specs.Nodes.{of, alias_of, table_of, cross_join, key_join, grouping, by_place, by_column}
use Rattle.query_read.specs.ExpressionParsers as e
use Rattle.query_read.specs.ExpressionParsers.{Parser}
use Rattle.query_read.specs.ClauseParsers as c
use Rattle.query_read.specs.QueryText.{query_tokens, answered, read_tokens, query_of}
use Rattle.written_queries.specs.Bounds.{item_bounded, list_bounded, optional_bounded, IsBounded, BoundedLaw}
use Rattle.written_queries.proofs.BoundedForms.{Holds}
use Rattle.written_queries.proofs.Keeping.{Within, Keeps, Any, keeps_value, keeps_both, past, past_word, keeps_either, keeps_repeated, keeps_series, any_value}
use Rattle.written_queries.proofs.Literals.{any_column, keeps_expression}

-- ---- clauses without expressions

any_named : (text : Bytes) → Keeps Any (c.named text)
unfolding c.named
any_named text = past_word Unexpected (is k.Name) (λ n. any_value (Some (alias_of text n)))

any_alias : (text : Bytes) → Keeps Any (c.alias text)
unfolding c.alias
any_alias text = keeps_either (is k.As) (past_word Unexpected (is k.As) (λ _. any_named text)) (keeps_either (is k.Name) (any_named text) (any_value None))

any_table : (text : Bytes) → Keeps Any (c.table text)
unfolding c.table
any_table text = past_word Unexpected (is k.Name) (λ n. past (c.alias text) (any_alias text) (λ a. any_value (table_of text n a)))

any_on : (text : Bytes) (t : Token) → Keeps Any (c.on text t)
unfolding c.on
any_on text t =
    past (c.table text) (any_table text) (λ x. past_word Unexpected (is k.On) (λ _. past (e.column text) (any_column text) (λ a.
    past_word Unexpected (is k.Equal) (λ q. past (e.column text) (any_column text) (λ b. any_value (key_join t x a q b))))))

any_join : (text : Bytes) → Keeps Any (c.added_table text)
unfolding c.added_table c.by_comma c.by_cross c.by_key
any_join text =
    keeps_either (is k.Comma) (past_word Unexpected (is k.Comma) (λ t. past (c.table text) (any_table text) (λ x. any_value (cross_join t x))))
    (keeps_either (is k.Cross) (past_word Unexpected (is k.Cross) (λ t. past_word Unexpected (is k.Join) (λ _. past (c.table text) (any_table text) (λ x. any_value (cross_join t x)))))
    (keeps_either (is k.Inner) (past_word Unexpected (is k.Inner) (λ t. past_word Unexpected (is k.Join) (λ _. any_on text t))) (past_word Unexpected (is k.Join) (λ t. any_on text t))))

any_source : (text : Bytes) → Keeps Any (c.source text)
unfolding c.source c.join
any_source text =
    past (c.table text) (any_table text) (λ t. past (c.more_joins text [])
    (keeps_repeated Any (of joins) (c.join text) (λ js _. past (c.added_table text) (any_join text) (λ j. any_value (js ++ j ∷ []))) [] tt)
    (λ js. any_value (record { first = t; joins = js })))

any_distinct : Keeps Any c.distinct
unfolding c.distinct
any_distinct = keeps_either (is k.Distinct) (past_word Unexpected (is k.Distinct) (λ t. any_value (Some t.at))) (any_value None)

any_all : {A : Type 0} (q : Parser A) → Keeps Any q → Keeps Any (e.series q)
any_all q l = record { holds = λ ts rest xs w h. (tt, ((keeps_series Any q l).holds ts rest xs w h).1) }

any_direction : Keeps Any c.direction
unfolding c.direction
any_direction = keeps_either (is k.Asc) (past_word Unexpected (is k.Asc) (λ _. any_value Ascending)) (keeps_either (is k.Desc) (past_word Unexpected (is k.Desc) (λ _. any_value Descending)) (any_value Ascending))

any_key : (text : Bytes) → Keeps Any (c.key text)
unfolding c.key c.sort_by
any_key text =
    past (c.sort_by text) (keeps_either (is k.Digits) (past_word Unexpected (is k.Digits) (λ n. any_value (by_place n))) (past (e.column text) (any_column text) (λ x. any_value (by_column x)))) (λ b.
    past c.direction any_direction (λ x. any_value (record b { direction = x })))

any_order : (text : Bytes) → Keeps Any (c.order text)
unfolding c.order
any_order text = keeps_either (is k.Order) (past_word Unexpected (is k.Order) (λ _. past_word Unexpected (is k.By) (λ _. any_all (c.key text) (any_key text)))) (any_value [])

-- ---- clauses with expressions

abbrev Listed : SelectList → Type 0
Listed l = list_bounded l ≡ true

abbrev Optional : Option Expr → Type 0
Optional o = optional_bounded o ≡ true

abbrev ItemHolds : SelectItem → Type 0
ItemHolds x = item_bounded x ≡ true

abbrev Grouped : Grouping → Type 0
Grouped x = Optional x.having

items_hold : (xs : List SelectItem) → All ItemHolds xs → list_all item_bounded xs ≡ true
items_hold [] h = refl
items_hold (x ∷ xs) h = and_from (item_bounded x) (list_all item_bounded xs) (All-head ItemHolds x xs h) (items_hold xs (All-tail ItemHolds x xs h))

module _ (text : Bytes) (q : Parser Expr) (l : Keeps Holds q) where
  keeps_item : Keeps ItemHolds (c.item text q)
  unfolding c.item
  keeps_item = keeps_both q l (λ a h. past (c.alias text) (any_alias text) (λ x. keeps_value ItemHolds (record { value = a; alias = x }) h))

  keeps_list : Keeps Listed (c.list text q)
  unfolding c.list
  keeps_list = keeps_either (is k.Star)
      (past_word Unexpected (is k.Star) (λ t. keeps_value Listed (select.All t.at) refl))
      (keeps_both (e.series (c.item text q)) (keeps_series ItemHolds (c.item text q) keeps_item) (λ xs h. keeps_value Listed (select.Items xs) (items_hold xs h)))

  keeps_condition : (kind : Kind) → Keeps Optional (c.condition kind q)
  unfolding c.condition
  keeps_condition kind = keeps_either (is kind) (past_word Unexpected (is kind) (λ _. keeps_both q l (λ a h. keeps_value Optional (Some a) h))) (keeps_value Optional None refl)

  keeps_groups : Keeps Grouped (c.groups text q)
  unfolding c.groups c.by_groups
  keeps_groups = keeps_either (is k.Group)
      (past_word Unexpected (is k.Group) (λ _. past_word Unexpected (is k.By) (λ _. past (e.series (e.column text)) (any_all (e.column text) (any_column text)) (λ cs.
      keeps_both (c.condition k.Having q) (keeps_condition k.Having) (λ h i. keeps_value Grouped (grouping cs h) i)))))
      (keeps_value Grouped (grouping [] None) refl)

  keeps_closed : (x : Query) → IsBounded x → Keeps IsBounded (c.closed x)
  unfolding c.closed
  keeps_closed x h = keeps_either (is k.Semicolon) (past_word Unexpected (is k.Semicolon) (λ _. keeps_value IsBounded x h)) (keeps_value IsBounded x h)

  keeps_query : Keeps IsBounded (c.query_over text q)
  unfolding c.query_over
  keeps_query =
      past_word Unexpected (is k.Select) (λ s. past c.distinct any_distinct (λ x. keeps_both (c.list text q) keeps_list (λ items i. past_word Unexpected (is k.From) (λ _.
      past (c.source text) (any_source text) (λ t. keeps_both (c.condition k.Where q) (keeps_condition k.Where) (λ w j. keeps_both (c.groups text q) keeps_groups (λ g a.
      past (c.order text) (any_order text) (λ o.
      keeps_closed (nodes.query_of s x items t w g o) (and_from (list_bounded items) _ i (and_from (optional_bounded w) (optional_bounded g.having) j a))))))))))

-- ---- the tokens of a text

step_measured : (b : Bool) (t : Token) → IsMeasured t → IsMeasured (as_step b t)
step_measured true t h = record { value = h.value; scale = h.scale }
step_measured false t h = h

marked_measured : (before latest : Kind) (ts : Tokens) → Within ts → Within (marked_after before latest ts)
marked_measured before latest [] h = All-nil IsMeasured
marked_measured before latest (t ∷ ts) h =
    All-cons IsMeasured (as_step (ends_date before latest && next (is k.Interval) ts) t) (marked_after latest t.kind ts)
    (step_measured (ends_date before latest && next (is k.Interval) ts) t (All-head IsMeasured t ts h))
    (marked_measured latest t.kind ts (All-tail IsMeasured t ts h))

within_text : (text : Bytes) → Within (query_tokens text)
within_text text = marked_measured k.Blank k.Blank (tokens 2048 text) (tokens_are_measured text 2048)

-- ---- whole texts

by_outcome : (text : Bytes) (o : Outcome Token Fault Query) (q : Query) → c.query all text 64 (query_tokens text) ≡ o → answered text (query_tokens text) (ended Unexpected o) ≡ Ok q → IsBounded q
by_outcome text (Ok (p, [])) q is h =
    let same : p ≡ q = cc in
    subst IsBounded same ((keeps_query text (e.expr all text (e.under all text 64)) (keeps_expression text 64)).holds (query_tokens text) [] p (within_text text) is).0
by_outcome text (Ok (p, t ∷ ts)) q is h = absurd (cc)
by_outcome text (Err read.NoMemory) q is h = absurd (cc)
by_outcome text (Err (read.Refused fault left)) q is h = absurd (cc)

by_text : (text : Bytes) (b : Bool) (q : Query) → (if b then read_tokens text (query_tokens text) else Err (Bad (utf8_valid_len text) sql.NotText)) ≡ Ok q → IsBounded q
by_text text true q h = by_outcome text (c.query all text 64 (query_tokens text)) q refl h
by_text text false q h = absurd (cc)

pub bounded_law : BoundedLaw
unfolding query_of
bounded_law text q h = by_text text (is_utf8 text) q h

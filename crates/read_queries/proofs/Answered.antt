-- HAVING is answered after GROUP BY alone.
use Rattle.std.proofs.Common.{◌≡◌, Bool, true, false, if◌then◌else◌, [], ◌∷◌, ◌++◌, None, refl, subst}
use Rattle.std.specs.Prelude.{Ok, Err}
use Rattle.std.specs.Str.{is_utf8}
use Rattle.std.specs.Str.Lossy.{utf8_valid_len}
use Rattle.phrases.specs.declared.refusal.ReadError.TheVariants as read
use Rattle.phrases.specs.Parsers.{Outcome, ended}
use Rattle.sql_read.specs.declared.kind.Kind.TheVariants as k
use Rattle.sql_read.specs.declared.refusal.SqlKind.TheVariants as sql
use Rattle.sql_read.specs.declared.refusal.SqlRefusal.TheVariants.{Bad}
use Rattle.sql_read.specs.declared.token_list.Token.{Token}
use Rattle.sql_read.specs.Lexis.{Bytes}
use Rattle.sql_read.specs.Schema.{is}
use Rattle.query_trees.specs.declared.expr.Expr.{Expr}
use Rattle.query_trees.specs.declared.query.Query.{Query}
use Rattle.query_read.specs.declared.fault.Fault.{Fault}
use Rattle.query_read.specs.declared.fault.Fault.TheVariants.{Unexpected}
use Rattle.query_read.specs.Asked.{all}
use Rattle.query_read.specs.Nodes.{grouping}
use Rattle.query_read.specs.Nodes as nodes
use Rattle.query_read.specs.ExpressionParsers as e
use Rattle.query_read.specs.ExpressionParsers.{Parser}
use Rattle.query_read.specs.ClauseParsers as c
use Rattle.query_read.specs.QueryText.{query_tokens, answered, read_tokens, query_of}
use Rattle.query_shapes.specs.Laws.{HasGroups}
use Rattle.read_queries.specs.Laws.{AnswerLaw}
use Rattle.read_queries.proofs.Groups.{Written, Grouped, one_more}
use Rattle.read_queries.proofs.Gives.{Gives, past, gives_value, gives_both, gives_either, gives_repeated}

gives_columns : (text : Bytes) → Gives Written (e.series (e.column text))
unfolding e.series e.another
gives_columns text =
    past (e.column text) (λ x. gives_repeated Written (is k.Comma) (e.another (e.column text))
    (λ cs _. past (e.expect k.Comma) (λ _. past (e.column text) (λ y. gives_value Written (cs ++ y ∷ []) (one_more cs y)))) (x ∷ []) refl)

module _ (text : Bytes) (p : Parser Expr) where
  gives_groups : Gives Grouped (c.groups text p)
  unfolding c.groups c.by_groups
  gives_groups = gives_either (is k.Group)
      (past (e.expect k.Group) (λ _. past (e.expect k.By) (λ _. gives_both (e.series (e.column text)) (gives_columns text) (λ cs w.
      past (c.condition k.Having p) (λ h. gives_value Grouped (grouping cs h) (λ _. w))))))
      (gives_value Grouped (grouping [] None) (λ e. e))

  gives_query : Gives HasGroups (c.query_over text p)
  unfolding c.query_over c.closed
  gives_query =
      past (e.expect k.Select) (λ s. past c.distinct (λ x. past (c.list text p) (λ l. past (e.expect k.From) (λ _. past (c.source text) (λ t.
      past (c.condition k.Where p) (λ w. gives_both (c.groups text p) gives_groups (λ h is_grouped. past (c.order text) (λ o.
      let q = nodes.query_of s x l t w h o in
      gives_either (is k.Semicolon) (past (e.expect k.Semicolon) (λ _. gives_value HasGroups q is_grouped)) (gives_value HasGroups q is_grouped)))))))))

-- ---- whole texts

by_outcome : (text : Bytes) (o : Outcome Token Fault Query) (q : Query) → c.query all text 64 (query_tokens text) ≡ o → answered text (query_tokens text) (ended Unexpected o) ≡ Ok q → HasGroups q
by_outcome text (Ok (p, [])) q is h =
    let same : p ≡ q = cc in
    subst HasGroups same ((gives_query text (e.expr all text (e.under all text 64))).holds (query_tokens text) [] p is)
by_outcome text (Ok (p, t ∷ ts)) q is h = absurd (cc)
by_outcome text (Err read.NoMemory) q is h = absurd (cc)
by_outcome text (Err (read.Refused f left)) q is h = absurd (cc)

by_text : (text : Bytes) (b : Bool) (q : Query) → (if b then read_tokens text (query_tokens text) else Err (Bad (utf8_valid_len text) sql.NotText)) ≡ Ok q → HasGroups q
by_text text true q h = by_outcome text (c.query all text 64 (query_tokens text)) q refl h
by_text text false q h = absurd (cc)

pub answer_law : AnswerLaw
unfolding query_of
answer_law text q h = by_text text (is_utf8 text) q h

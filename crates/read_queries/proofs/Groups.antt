-- HAVING is read after GROUP BY alone.
use Rattle.std.proofs.Common.{◌≡◌, true, List, [], ◌∷◌, ◌++◌, None, is_some, refl}
use Rattle.phrases.specs.Phrases.{Phrase}
use Rattle.sql_read.specs.declared.token_list.Token.{Token}
use Rattle.sql_read.specs.Lexis.{Bytes}
use Rattle.query_trees.specs.declared.expr.ColumnName.{ColumnName}
use Rattle.query_trees.specs.declared.expr.Expr.{Expr}
use Rattle.query_read.specs.declared.grouping.Grouping.{Grouping}
use Rattle.query_read.specs.Asked.{all}
use Rattle.query_read.specs.Nodes.{grouping, query_of}
use Rattle.query_read.specs.Expressions as g
use Rattle.query_read.specs.Clauses as c
use Rattle.query_read.specs.QueryText.{query_tokens}
use Rattle.query_types.specs.Grouping.{is_written}
use Rattle.query_shapes.specs.Laws.{HasGroups}
use Rattle.read_queries.specs.Laws.{GroupsLaw}
use Rattle.read_queries.proofs.Yields.{Yields, anything, yields_value, yields_both, yields_either, yields_repeated}

abbrev pub Written : List ColumnName → Type 0
Written cs = is_written cs ≡ true

pub one_more : (cs : List ColumnName) (x : ColumnName) → Written (cs ++ x ∷ [])
one_more [] x = refl
one_more (c ∷ cs) x = refl

yields_columns : (text : Bytes) → Yields Written (g.series (g.column text))
yields_columns text =
    yields_both anything (λ x _. yields_repeated Written (g.another (g.column text))
    (λ cs _. yields_both anything (λ _ _. yields_both anything (λ y _. yields_value Written (cs ++ y ∷ []) (one_more cs y)))) (x ∷ []) refl)

abbrev pub Grouped : Grouping → Type 0
Grouped x = is_some x.having ≡ true → Written x.groups

module _ (text : Bytes) (E : Phrase Token Expr) where
  yields_groups : Yields Grouped (c.groups text E)
  yields_groups = yields_either
      (yields_both anything (λ _ _. yields_both anything (λ _ _. yields_both (yields_columns text) (λ cs w. yields_both anything (λ h _. yields_value Grouped (grouping cs h) (λ _. w))))))
      (yields_value Grouped (grouping [] None) (λ e. e))

  yields_query : Yields HasGroups (c.query_over text E)
  yields_query =
      yields_both anything (λ s _. yields_both anything (λ x _. yields_both anything (λ l _. yields_both anything (λ _ _. yields_both anything (λ t _.
      yields_both anything (λ w _. yields_both yields_groups (λ h is. yields_both anything (λ o _.
      let q = query_of s x l t w h o in
      yields_either (yields_both anything (λ _ _. yields_value HasGroups q is)) (yields_value HasGroups q is)))))))))

pub groups_law : GroupsLaw
groups_law text q h = (yields_query text (g.expr all text (g.depth all text 64))).holds (query_tokens text) q h.1

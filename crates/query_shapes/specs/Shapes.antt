-- The shape of a typed query: how long its lists are, and what stands in none.
-- After SQL-92 (ISO/IEC 9075:1992), 7.4 <from clause>, 7.8 <having clause>, 7.9 <query specification> and 13.1 <order by clause>; the limits are this project's own.
use Rattle.std.specs.Prelude.{◌≡◌, ◌≤◌, [], All, length, None}
use Rattle.typed_trees.specs.declared.typed.TypedQuery.{TypedQuery}

pub record IsShaped (t : TypedQuery) : Type 0 where
  pub some_source : 1 ≤ length t.sources
  pub few_sources : length t.sources ≤ 8
  -- no table has a condition of its own
  pub plain : All (λ s. s.filter ≡ []) t.sources
  pub few_items : length t.items ≤ 64
  pub few_groups : length t.groups ≤ 4
  pub few_keys : length t.order ≤ 8
  -- HAVING is a condition on groups
  pub having : t.groups ≡ [] → t.having ≡ None

-- What the parts that write groups make: the groups, with the values of their aggregates, or Over exactly where one of these is.
-- After SQL-92 (ISO/IEC 9075:1992), 7.7 <group by clause> and 6.5 <set function specification>.
use Rattle.std.specs.Prelude.{◌≡◌, ℕ, ◌≤◌, ◌<◌, true, List, [], ◌∷◌, All, length, ◌==◌, Option}
use Rattle.std.specs.List.{list_any}
use Rattle.programs.specs.Mentions.{Label}
use Rattle.programs.specs.Outlines.{outlines}
use Rattle.programs.specs.Vectors.{Env}
use Rattle.typed_trees.specs.declared.typed.TypedExpr.{TypedExpr}
use Rattle.typed_trees.specs.Names.{same_column}
use Rattle.typed_trees.specs.Types.{DataType}
use Rattle.typed_values.specs.Values.{value}
use Rattle.value_laws.specs.Laws.{KindLaw}
use Rattle.query_answers.specs.Answers.{FromRow, groups_of, on_group, on_row}
use Rattle.query_answers.specs.Clauses.{Clauses}
use Rattle.query_answers.specs.Overs.{each}
use Rattle.expr_steps.specs.Lowered.{Bytes}
use Rattle.expr_values.specs.Laws.{KnownLaw, value_slot}
use Rattle.held_rows.specs.Held.{Held, present}
use Rattle.program_writers.specs.Names.{IsBelow, is_word}
use Rattle.program_writers.specs.Statements.{mark}
use Rattle.plan_programs.specs.Sites.{Base, value_of}
use Rattle.plan_programs.specs.Groups.{grouped}
use Rattle.writer_checks.specs.Checks.{HasShape}
use Rattle.writer_runs.specs.Runs.{Delivers}
use Rattle.lowered_stages.specs.Laws.{Tells}
use Rattle.lowered_stages.specs.Stages.{StandsAt, Stands}
use Rattle.lowered_stages.specs.Parts.{CanGroup, CanGroupRows, CanValue, CanValueAll, itself}

-- the value of an expression on rows that stand at a base
abbrev pub ValueOfRows : Type 0
ValueOfRows =
    (texts : List Bytes) (at : ℕ → Option DataType) (held : Held FromRow) (store env : Env) (b : Base) (word : Label) (e : TypedExpr) (k : ℕ)
    → is_word word ≡ true → IsBelow k b.vector → StandsAt texts env b on_row held → CanValue at b e → CanValueAll texts at on_row (present held) e
    → Delivers store (value_of texts word b e) k env (each (λ r. value (on_row r) e) (present held)) (λ values name next after. IsBelow next name × Tells held (λ r. value_slot texts (value (on_row r) e)) name after)

-- the groups, with the values of their aggregates, of which there are no more than a query has; the base's vector has a mark, and no attribute below it: only so do
-- the marks run alone
abbrev pub GroupsRun : Type 0
GroupsRun =
    (texts : List Bytes) (q : Clauses) (len : ℕ) (rows : List FromRow) (b : Base) (k : ℕ) (store env : Env)
    → CanGroup b q.groups q.aggregates → CanGroupRows texts q.groups q.aggregates rows → length q.aggregates ≤ 512 → IsBelow k b.vector → Stands texts b on_row len rows env → HasShape (outlines env) b.vector len (mark ∷ [])
    → Delivers store (grouped texts b q.groups q.aggregates) k env (each (on_group q) (groups_of q.groups rows))
    (λ groups c next after. (count : ℕ) × (Stands texts c itself count groups after × (IsBelow next c.vector × (All (λ g. list_any (λ p. same_column p.column g) c.columns ≡ true) q.groups × ((n : ℕ) → n < length q.aggregates → list_any (λ p. p.aggregate == n) c.aggregates ≡ true)))))

-- what values are, groups are made of
abbrev pub RunLaw : Type 0
RunLaw = KindLaw → KnownLaw → ValueOfRows → GroupsRun

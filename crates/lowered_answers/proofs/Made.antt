-- What the parts of a plan's program make, one behind another: the rows of its answer, or they are Over where it is.
use Rattle.std.proofs.Common.{◌≡◌, ℕ, ◌≤◌, ◌<◌, Bool, true, false, List, [], ◌∷◌, map, length, refl, sym, ap, ◌∙◌, subst, option_to_list, Result, Ok, Err, ◌^◌, ◌==◌, arith}
use Rattle.std.specs.List.{All, list_any}
use Rattle.expr_lower.specs.declared.places.ColumnPlace.{ColumnPlace}
use Rattle.expr_lower.specs.declared.places.AggregatePlace.{AggregatePlace}
use Rattle.typed_trees.specs.Names.{same_column}
use Rattle.control_vectors.specs.declared.Over.{Over}
use Rattle.programs.specs.Mentions.{Label, has_name}
use Rattle.programs.specs.Vectors.{Vector, Env, nothing}
use Rattle.typed_trees.specs.Types.{types_of}
use Rattle.typed_values.specs.Values.{On}
use Rattle.query_answers.specs.Answers.{Row, FromRow, OutputRow, condition, groups_of, on_group, on_row, output_row}
use Rattle.query_answers.specs.Clauses.{Clauses}
use Rattle.query_answers.specs.Overs.{each}
use Rattle.query_answers.specs.Overs as overs
use Rattle.plan_laws.specs.PlanAnswers.{clauses_of_plan, plan_answer}
use Rattle.program_writers.specs.Names.{IsBelow}
use Rattle.program_writers.specs.Writers.{◌>>=◌}
use Rattle.writer_runs.specs.Runs.{Makes, Delivers, Sees}
use Rattle.plan_programs.specs.Sites.{Base}
use Rattle.plan_programs.specs.Rows.{kept}
use Rattle.plan_programs.specs.Groups.{grouped}
use Rattle.plan_programs.specs.Lowered.{from_rows, stands_on}
use Rattle.lowered_stages.specs.Stages.{Stands}
use Rattle.lowered_stages.specs.Parts.{CanValue, CanValueAll, itself, IsKeyOf, key_alike, SamePlaces, answer_rows}
use Rattle.lowered_items.specs.Items.{ShowsItems}
use Rattle.lowered_premises.specs.Sources.{alone, met_rows, IsRowOf, IsGroupOf, HasGroupPlaces}
use Rattle.lowered_premises.specs.Laws.{where_rows, having_groups}
use Rattle.lowered_answers.proofs.Lists.{all_none, all_more}
use Rattle.lowered_answers.proofs.Bodies.{items_on, behind_where, behind_rows, body}
use Rattle.lowered_answers.proofs.Delivering.{Behind, makes_then, delivers_then, delivers_less, delivers_same}
use Rattle.programs.specs.Check.{Known, at_start}
use Rattle.programs.specs.Outlines.{Shapes, outlines}
use Rattle.program_writers.specs.Statements.{mark}
use Rattle.voodoo_ops.specs.Laws.{MeaningLaws}
use Rattle.writer_checks.specs.Checks.{IsFresh, HasShape}
use Rattle.lowered_stages.specs.Stages.{IsShaped}
use Rattle.lowered_answers.proofs.Outlined.{outlined}
use Rattle.lowered_answers.proofs.Runs.{RunLaws, Premises, Given, texts, store, HoldsAt, RowsStand, having_conditions, from_made, where_few, where_members, where_made}
use Rattle.lowered_answers.proofs.Checks.{PassLaws, RowsShaped, from_passes, kept_passes, values_over}

-- rows that stand, with what a check knows of their vector
abbrev pub Stood : Given → List FromRow → Base → ℕ → Env → Type 0
Stood g rows b next after = RowsStand g rows b next after × (IsFresh next (outlines after) × RowsShaped g b (outlines after))

from_stood : MeaningLaws → RunLaws → Premises → PassLaws → (g : Given) → Makes (store g) (from_rows g.select (texts g) g.defs g.plan.sources) 0 nothing (Stood g (map alone (met_rows g.source g.table)))
from_stood meanings laws h passes g =
    outlined meanings (store g) (from_rows g.select (texts g) g.defs g.plan.sources) 0 nothing at_start (Ok (map alone (met_rows g.source g.table))) (RowsStand g) (RowsShaped g) refl (all_none (λ o. o.len ≤ 2 ^ 22)) (from_passes laws h passes g) (from_made laws h g)

where_stood : MeaningLaws → RunLaws → Premises → PassLaws → (g : Given) (b : Base) (next : ℕ) (between : Env) → Stood g (map alone (met_rows g.source g.table)) b next between → Delivers (store g) (kept g.select (texts g) b g.plan.filter) next between (where_rows g.plan g.source g.table) (Stood g)
where_stood meanings laws h passes g b next between (stands, (fresh, shaped)) =
    let known : Known = record { shape = []; vectors = outlines between; results = λ n. false } in
    outlined meanings (store g) (kept g.select (texts g) b g.plan.filter) next between known (where_rows g.plan g.source g.table) (RowsStand g) (RowsShaped g) refl (all_none (λ o. o.len ≤ 2 ^ 22))
    (kept_passes h passes g b g.plan.filter next known fresh (values_over h g b shaped.1).filter shaped) (where_made laws h g b next between stands)

-- the mark among a base's paths
mark_alone : (len : ℕ) (b : Base) (shapes : Shapes) → IsShaped len b shapes → HasShape shapes b.vector len (mark ∷ [])
mark_alone len b shapes s = record {
  outline = s.outline;
  known = s.known;
  len_is = s.len_is;
  clear = s.clear;
  shallow = s.shallow;
  each = all_more (λ p. has_name s.outline.paths p ≡ true) mark [] (s.each 0 mark (omega arith)) (all_none (λ p. has_name s.outline.paths p ≡ true));
}

-- ---- the items of rows, or of groups

abbrev clauses : Given → Clauses
clauses g = clauses_of_plan g.plan

abbrev AnswerAt : Given → List Row → Label → ℕ → Env → Type 0
AnswerAt g rows name next after = HoldsAt (texts g) (length g.plan.items) rows name next after

abbrev MadeItems : Given → List OutputRow → Label → ℕ → Env → Type 0
MadeItems g outputs name next after = (v : Vector) × (Sees after name v × (ShowsItems (texts g) (length g.plan.items) (answer_rows (clauses g) outputs) v × IsBelow next name))

items_made : {A : Type 0} (laws : RunLaws) (g : Given) (on : A → On) (len : ℕ) (rows : List A) (b : Base) (k : ℕ) (env : Env)
    → All (CanValue (types_of g.plan.aggregates) b) g.plan.items → All (CanValueAll (texts g) (types_of g.plan.aggregates) on rows) g.plan.items → All (λ key. IsKeyOf (length g.plan.items) b key.key) g.plan.order → All (λ key. key_alike (texts g) on rows key.key) g.plan.order
    → IsBelow k b.vector → Stands (texts g) b on len rows env
    → Delivers (store g) (items_on (texts g) g.plan b) k env (overs.◌>>=◌ (each (λ a. output_row (clauses g) (on a)) rows) (λ outputs. Ok (answer_rows (clauses g) outputs))) (AnswerAt g)
items_made {A} laws g on len rows b k env values asked keys alike below stands =
    delivers_less (store g) (items_on (texts g) g.plan b) k env (each (λ a. output_row (clauses g) (on a)) rows) (answer_rows (clauses g)) (MadeItems g) (AnswerAt g) (λ outputs name next after e h. (h.0, (h.1.0, h.1.1.0)))
    (laws.items_run A (texts g) (types_of g.plan.aggregates) on (clauses g) len rows b k (store g) env values asked g.can.well_formed.few_items g.can.well_formed.few_keys keys alike below stands)

abbrev GroupsStand : Given → List On → Base → ℕ → Env → Type 0
GroupsStand g groups c next after = (count : ℕ) × (Stands (texts g) c itself count groups after × (IsBelow next c.vector × HasGroupPlaces (clauses g) c))

abbrev GroupsMade : Given → List On → Base → ℕ → Env → Type 0
GroupsMade g groups c next after = (count : ℕ) × (Stands (texts g) c itself count groups after × (IsBelow next c.vector × (All (λ u. list_any (λ p. same_column p.column u) c.columns ≡ true) g.plan.groups × ((n : ℕ) → n < length g.plan.aggregates → list_any (λ p. p.aggregate == n) c.aggregates ≡ true))))

having_made : RunLaws → Premises → (g : Given) → g.plan.grouped ≡ true → (rows : List FromRow) → All (IsRowOf g.table) rows → length rows ≤ 2 ^ 20 → (b : Base) (k : ℕ) (env : Env) → Stood g rows b k env
    → Delivers (store g) (stands_on g.select (texts g) g.plan true b) k env (having_groups g.plan rows) (GroupsStand g)
having_made laws h g is rows members few b k env ((stands, (below, places)), (fresh, (shaped, have))) =
    let values = (h.places g.defs g.ts g.plan g.source g.def g.table b g.can g.over places).grouping in
    let asked = (h.rows g.defs g.ts g.plan g.source g.def g.table rows g.can g.over members few).grouping in
    delivers_then (store g) (grouped (texts g) b g.plan.groups g.plan.aggregates) (λ c. kept g.select (texts g) c (option_to_list g.plan.having)) k env (each (on_group (clauses g)) (groups_of g.plan.groups rows)) (GroupsMade g)
    (λ groups. overs.kept (λ on. condition (option_to_list g.plan.having) (itself on)) groups) (GroupsStand g)
    (laws.grouped_run (texts g) (clauses g) (length g.table.rows) rows b k (store g) env values asked g.can.small.aggregates below stands (mark_alone (length g.table.rows) b (outlines env) shaped)) kept_groups
  where
    still_places : (c d : Base) → SamePlaces c d → HasGroupPlaces (clauses g) c → HasGroupPlaces (clauses g) d
    still_places c d s p = record {
      columns = subst (λ (l : List ColumnPlace). All (λ u. list_any (λ p. same_column p.column u) l ≡ true) g.plan.groups) (sym s.columns) p.columns;
      aggregates = λ n less. ap (λ (l : List AggregatePlace). list_any (λ p. p.aggregate == n) l) s.aggregates ∙ p.aggregates n less;
    }

    kept_groups : (groups : List On) → each (on_group (clauses g)) (groups_of g.plan.groups rows) ≡ Ok groups → Behind (store g) (λ c. kept g.select (texts g) c (option_to_list g.plan.having)) k env (GroupsMade g groups) (overs.kept (λ on. condition (option_to_list g.plan.having) (itself on)) groups) (GroupsStand g)
    kept_groups groups made c next between le (count, (stand, (name, (columns, aggregates)))) still =
        let places_of : HasGroupPlaces (clauses g) c = record { columns = columns; aggregates = aggregates } in
        let having = (h.group_places g.defs g.ts g.plan g.source g.def g.table c g.can g.over is places_of).having in
        let stood = (h.groups g.defs g.ts g.plan g.source g.def g.table rows groups g.can g.over members (h.members.groups g.plan rows groups made)).having in
        delivers_same (store g) (kept g.select (texts g) c (option_to_list g.plan.having)) next between (overs.kept (λ on. condition (option_to_list g.plan.having) (itself on)) groups) (λ left d n after. Stands (texts g) d itself count left after × (IsBelow n d.vector × SamePlaces c d)) (GroupsStand g)
        (λ left d n after e t. (count, (t.0, (t.1.0, still_places c d t.1.1 places_of))))
        (laws.kept_run On g.select (texts g) (types_of g.plan.aggregates) itself count groups c (option_to_list g.plan.having) next (store g) between (having_conditions g.plan.having g.can.well_formed.typed.having) having stood name stand)

-- the groups that are left are groups
left_groups : Premises → (g : Given) (rows : List FromRow) (left : List On) → having_groups g.plan rows ≡ Ok left → All (IsGroupOf (clauses g) rows) left
left_groups h g rows left e = by (each (on_group (clauses g)) (groups_of g.plan.groups rows)) refl e
  where
    by : (r : Result (List On) Over) → each (on_group (clauses g)) (groups_of g.plan.groups rows) ≡ r → overs.◌>>=◌ r (λ groups. overs.kept (λ on. condition (option_to_list g.plan.having) (itself on)) groups) ≡ Ok left → All (IsGroupOf (clauses g) rows) left
    by (Ok groups) made q = h.members.kept_groups g.plan rows (λ on. condition (option_to_list g.plan.having) (itself on)) groups left q (h.members.groups g.plan rows groups made)
    by (Err o) made q = absurd cc

-- ---- behind WHERE

grouped_made : RunLaws → Premises → (g : Given) → g.plan.grouped ≡ true → (rows : List FromRow) → All (IsRowOf g.table) rows → length rows ≤ 2 ^ 20 → (b : Base) (k : ℕ) (env : Env) → Stood g rows b k env
    → Delivers (store g) (stands_on g.select (texts g) g.plan true b >>= items_on (texts g) g.plan) k env (overs.◌>>=◌ (having_groups g.plan rows) (λ groups. overs.◌>>=◌ (each (λ on. output_row (clauses g) (itself on)) groups) (λ outputs. Ok (answer_rows (clauses g) outputs)))) (AnswerAt g)
grouped_made laws h g is rows members few b k env stands =
    delivers_then (store g) (stands_on g.select (texts g) g.plan true b) (items_on (texts g) g.plan) k env (having_groups g.plan rows) (GroupsStand g) (λ groups. overs.◌>>=◌ (each (λ on. output_row (clauses g) (itself on)) groups) (λ outputs. Ok (answer_rows (clauses g) outputs))) (AnswerAt g)
    (having_made laws h g is rows members few b k env stands)
    (λ groups made c next between le t still.
    let places = h.group_places g.defs g.ts g.plan g.source g.def g.table c g.can g.over is t.1.1.1 in
    let stood = h.groups g.defs g.ts g.plan g.source g.def g.table rows groups g.can g.over members (left_groups h g rows groups made) in
    items_made laws g itself t.0 groups c next between places.items stood.items places.keys stood.keys t.1.1.0 t.1.0)

plain_made : RunLaws → Premises → (g : Given) → g.plan.grouped ≡ false → (rows : List FromRow) → All (IsRowOf g.table) rows → length rows ≤ 2 ^ 20 → (b : Base) (k : ℕ) (env : Env) → Stood g rows b k env
    → Delivers (store g) (stands_on g.select (texts g) g.plan false b >>= items_on (texts g) g.plan) k env (overs.◌>>=◌ (each (λ row. output_row (clauses g) (on_row row)) rows) (λ outputs. Ok (answer_rows (clauses g) outputs))) (AnswerAt g)
plain_made laws h g is rows members few b k env ((stands, (below, places)), shaped) =
    let values = h.places g.defs g.ts g.plan g.source g.def g.table b g.can g.over places in
    let asked = h.rows g.defs g.ts g.plan g.source g.def g.table rows g.can g.over members few in
    items_made laws g on_row (length g.table.rows) rows b k env (values.items is) (asked.items is) values.keys asked.keys below stands

behind_made : MeaningLaws → RunLaws → Premises → PassLaws → (g : Given) (q : Bool) → g.plan.grouped ≡ q → (b : Base) (k : ℕ) (env : Env) → Stood g (map alone (met_rows g.source g.table)) b k env → Delivers (store g) (behind_rows g.select (texts g) g.plan b) k env (plan_answer g.ts g.plan) (AnswerAt g)
behind_made meanings laws h passes g true is b k env stands =
    subst (λ (r : Result (List Row) Over). Delivers (store g) (behind_rows g.select (texts g) g.plan b) k env r (AnswerAt g)) (sym (h.shapes.grouped g.defs g.ts g.plan g.source g.def g.table g.over is))
    (delivers_then (store g) (kept g.select (texts g) b g.plan.filter) (behind_where g.select (texts g) g.plan) k env (where_rows g.plan g.source g.table) (Stood g) (λ rows. overs.◌>>=◌ (having_groups g.plan rows) (λ groups. overs.◌>>=◌ (each (λ on. output_row (clauses g) (itself on)) groups) (λ outputs. Ok (answer_rows (clauses g) outputs)))) (AnswerAt g)
    (where_stood meanings laws h passes g b k env stands)
    (λ rows made c next between le t still.
    subst (λ (u : Bool). Delivers (store g) (stands_on g.select (texts g) g.plan u c >>= items_on (texts g) g.plan) next between (overs.◌>>=◌ (having_groups g.plan rows) (λ groups. overs.◌>>=◌ (each (λ on. output_row (clauses g) (itself on)) groups) (λ outputs. Ok (answer_rows (clauses g) outputs)))) (AnswerAt g)) (sym is)
    (grouped_made laws h g is rows (where_members h g rows made) (where_few g rows made) c next between t)))
behind_made meanings laws h passes g false is b k env stands =
    subst (λ (r : Result (List Row) Over). Delivers (store g) (behind_rows g.select (texts g) g.plan b) k env r (AnswerAt g)) (sym (h.shapes.plain g.defs g.ts g.plan g.source g.def g.table g.over is))
    (delivers_then (store g) (kept g.select (texts g) b g.plan.filter) (behind_where g.select (texts g) g.plan) k env (where_rows g.plan g.source g.table) (Stood g) (λ rows. overs.◌>>=◌ (each (λ row. output_row (clauses g) (on_row row)) rows) (λ outputs. Ok (answer_rows (clauses g) outputs))) (AnswerAt g)
    (where_stood meanings laws h passes g b k env stands)
    (λ rows made c next between le t still.
    subst (λ (u : Bool). Delivers (store g) (stands_on g.select (texts g) g.plan u c >>= items_on (texts g) g.plan) next between (overs.◌>>=◌ (each (λ row. output_row (clauses g) (on_row row)) rows) (λ outputs. Ok (answer_rows (clauses g) outputs))) (AnswerAt g)) (sym is)
    (plain_made laws h g is rows (where_members h g rows made) (where_few g rows made) c next between t)))

-- the whole
pub body_made : MeaningLaws → RunLaws → Premises → PassLaws → (g : Given) → Delivers (store g) (body g.select (texts g) g.defs g.plan) 0 nothing (plan_answer g.ts g.plan) (AnswerAt g)
body_made meanings laws h passes g =
    makes_then (store g) (from_rows g.select (texts g) g.defs g.plan.sources) (behind_rows g.select (texts g) g.plan) 0 nothing (Stood g (map alone (met_rows g.source g.table))) (plan_answer g.ts g.plan) (AnswerAt g) (from_stood meanings laws h passes g)
    (λ b next between le stands still. behind_made meanings laws h passes g g.plan.grouped refl b next between stands)

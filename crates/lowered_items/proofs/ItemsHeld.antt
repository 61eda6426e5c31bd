-- The items of the rows that stand at a base, one attribute after another.
use Rattle.std.proofs.Common.{◌≡◌, ◌∙◌, ℕ, ◌+◌, ◌≤◌, ◌<◌, ◌^◌, Bool, List, [], ◌∷◌, ◌++◌, map, length, refl, sym, ap, arith, codes, is_ok, Option, Result, Ok, Err}
use Rattle.std.specs.List.{All, list_all, enumerate_from}
use Rattle.std.proofs.lemmas.List.Elements.{All-nil, All-cons, All-head, All-tail}
use Rattle.control_vectors.specs.Slots.{Slot}
use Rattle.control_vectors.specs.declared.Over.{Over}
use Rattle.programs.specs.declared.op.Op.TheVariants as op
use Rattle.programs.specs.Mentions.{Label}
use Rattle.programs.specs.Vectors.{Env, slots_of}
use Rattle.sql_values.specs.Values.{Value}
use Rattle.typed_trees.specs.declared.typed.TypedExpr.{TypedExpr}
use Rattle.typed_trees.specs.Types.{DataType}
use Rattle.typed_values.specs.Values.{On, value}
use Rattle.query_answers.specs.Answers.{OutputRow, output_row}
use Rattle.query_answers.specs.Clauses.{Clauses}
use Rattle.query_answers.specs.Overs.{each}
use Rattle.expr_steps.specs.Lowered.{Bytes}
use Rattle.expr_values.specs.Laws.{value_slot}
use Rattle.held_rows.specs.Held.{Held, Told, present, column, one}
use Rattle.held_rows.specs.Vectors.{IsBeside}
use Rattle.program_writers.specs.Names.{IsBelow}
use Rattle.program_writers.specs.Statements.{out, mark, with_attribute}
use Rattle.program_writers.specs.Writers.{through, make}
use Rattle.program_writers.proofs.Numbers.{below_more}
use Rattle.plan_programs.specs.Sites.{Base, value_of}
use Rattle.plan_programs.specs.Items.{item_path, item_of, items_of}
use Rattle.writer_runs.specs.Runs.{Delivers}
use Rattle.writer_runs.proofs.Composed.{makes_tell}
use Rattle.lowered_stages.specs.Laws.{Tells}
use Rattle.lowered_stages.specs.Stages.{StandsAt, column_told, aggregate_told}
use Rattle.lowered_stages.specs.Parts.{CanValue, CanValueAll}
use Rattle.lowered_kept.specs.Values.{ValueRuns}
use Rattle.lowered_kept.proofs.Delivering.{delivers_makes}
use Rattle.lowered_kept.proofs.Bound.{bound}
use Rattle.lowered_items.proofs.Delivering.{delivers_both}
use Rattle.lowered_items.proofs.Holding.{Holding, Held_by, holding_later, upsert_holding, mark_holding}
use Rattle.lowered_items.proofs.Lists.{more, ok_each, all_turned}
use Rattle.lowered_items.proofs.Parts.{Kept, delivers_after}
use Rattle.lowered_items.proofs.Paths.{item_apart, mark_item}

module _ {A : Type 0} (texts : List Bytes) (on : A → On) where
  -- what an item asks of a row
  abbrev pub asked : TypedExpr → A → Slot
  asked e a = value_slot texts (value (on a) e)

  abbrev pub item_told : ℕ → TypedExpr → Told A
  item_told j e = (item_path j, asked e)

  abbrev pub items_told : List TypedExpr → List (Told A)
  items_told es = more item_told 1 es ((mark, one) ∷ [])

  pub stands_later : (held : Held A) (b : Base) (k : ℕ) (before after : Env) → IsBelow k b.vector → Kept k before after → StandsAt texts before b on held → StandsAt texts after b on held
  stands_later held b k before after below kept st = record { vector = st.vector; sees = kept b.vector below ∙ st.sees; holds = st.holds }

-- the paths of the items from some number on stand beside those that are told
abbrev OffFrom : {A : Type 0} → ℕ → List (Told A) → Type 0
OffFrom j told = (i : ℕ) → j ≤ i → i < 2 ^ 64 → All (IsBeside (item_path i)) told

off_more : {A : Type 0} (j : ℕ) (f : A → Slot) (told : List (Told A)) → j < 2 ^ 64 → OffFrom j told → OffFrom (j + 1) ((item_path j, f) ∷ told)
off_more j f told few off i above small =
    All-cons (IsBeside (item_path i)) (item_path j, f) told (item_apart j i few small (λ e. absurd (omega (arith, e, above)))) (off i (omega (arith, above)) small)

off_mark : {A : Type 0} → OffFrom {A = A} 1 ((mark, one) ∷ [])
off_mark i above small = All-cons (IsBeside (item_path i)) (mark, one) [] (mark_item i small) (All-nil (IsBeside (item_path i)))

module _ {A : Type 0} (values : ValueRuns) (texts : List Bytes) (at : ℕ → Option DataType) (on : A → On) (held : Held A) (b : Base) (store : Env) where
  abbrev column_of : TypedExpr → Result (List Value) Over
  column_of e = each (λ a. value (on a) e) (present held)

  item_delivers : (told : List (Told A)) (j : ℕ) (e : TypedExpr) (k : ℕ) (env : Env) (items : Label) → CanValue at b e → CanValueAll texts at on (present held) e → All (IsBeside (item_path j)) told
      → IsBelow k b.vector → StandsAt texts env b on held → Holding held told k env items
      → Delivers store (item_of texts b items (j, e)) k env (column_of e) (λ vs. Held_by held (item_told texts on j e ∷ told))
  item_delivers told j e k env items can all off below st h =
      delivers_makes store (value_of texts (codes "item") b e) (λ value. make (codes "items") (with_attribute items (item_path j) value out)) k env (column_of e)
      (λ vs name next after. IsBelow next name × Tells held (asked texts on e) name after) (λ vs. Held_by held (item_told texts on j e ∷ told))
      (values A texts at on held store env b (codes "item") e k refl below st can all)
      (λ vs name next between up p kept.
      upsert_holding held store (codes "items") next between items (item_path j) name out (asked texts on e) told p.1.vector refl
      (holding_later held told k next env between items up kept h) (record { sees = p.1.sees; below = p.0 }) p.1.slots off)

  items_deliver : (es : List TypedExpr) (told : List (Told A)) (j k : ℕ) (env : Env) (items : Label) → All (CanValue at b) es → All (CanValueAll texts at on (present held)) es → OffFrom j told → j + length es ≤ 65
      → IsBelow k b.vector → StandsAt texts env b on held → Holding held told k env items
      → Delivers store (through (item_of texts b) items (enumerate_from j es)) k env (each column_of es) (λ vs. Held_by held (more (item_told texts on) j es told))
  items_deliver [] told j k env items can all off few below st h = makes_tell Label store items k env (Held_by held told) h
  items_deliver (e ∷ es) told j k env items can all off few below st h =
      let small : j < 2 ^ 64 = omega (arith, few) in
      delivers_both store (item_of texts b items (j, e)) (λ next. through (item_of texts b) next (enumerate_from (j + 1) es)) k env (column_of e) (each column_of es) (λ v vs. v ∷ vs)
      (Held_by held (item_told texts on j e ∷ told)) (Held_by held (more (item_told texts on) (j + 1) es (item_told texts on j e ∷ told)))
      (item_delivers told j e k env items (All-head (CanValue at b) e es can) (All-head (CanValueAll texts at on (present held)) e es all) (off j (omega arith) small) below st h)
      (λ name next between up g kept.
      items_deliver es (item_told texts on j e ∷ told) (j + 1) next between name (All-tail (CanValue at b) e es can) (All-tail (CanValueAll texts at on (present held)) e es all) (off_more j (asked texts on e) told small off) (omega (arith, few))
      (below_more k next b.vector up below) (stands_later texts on held b k env between below kept st) g)

  pub items_held : (es : List TypedExpr) (k : ℕ) (env : Env) → All (CanValue at b) es → All (CanValueAll texts at on (present held)) es → length es ≤ 64
      → IsBelow k b.vector → StandsAt texts env b on held
      → Delivers store (items_of texts b es) k env (each column_of es) (λ vs. Held_by held (items_told texts on es))
  items_held es k env can all few below st =
      delivers_after store (make (codes "items") (op.Project b.vector mark mark)) (λ vector. through (item_of texts b) vector (enumerate_from 1 es)) k env (Held_by held ((mark, one) ∷ [])) (each column_of es) (λ vs. Held_by held (items_told texts on es))
      (mark_holding held store (codes "items") k env b.vector st.vector refl (record { sees = st.sees; below = below }) st.holds.len (All-head (λ (t : Told A). slots_of st.vector.attributes t.0 ≡ column t.1 held) (mark, one) (map (column_told texts on) b.columns ++ map (aggregate_told texts on) b.aggregates) st.holds.each))
      (λ name next between up g kept.
      items_deliver es ((mark, one) ∷ []) 1 next between name can all off_mark (omega (arith, few)) (below_more k next b.vector up below) (stands_later texts on held b k env between below kept st) g)

-- ---- Over on some row, item by item or row by row

ok_row : (q : Clauses) (on : On) → is_ok (output_row q on) ≡ list_all (λ e. is_ok (value on e)) q.items
ok_row q on = ok_map (each (value on) q.items) ∙ ok_each (value on) q.items
  where
    as_row : List Value → OutputRow
    as_row items = record { on = on; items = items }

    ok_map : (r : Result (List Value) Over) → is_ok (bound r (λ items. Ok (as_row items))) ≡ is_ok r
    ok_map (Ok vs) = refl
    ok_map (Err e) = refl

pub ok_alike : {A : Type 0} (q : Clauses) (on : A → On) (rows : List A) → is_ok (each (λ e. each (λ a. value (on a) e) rows) q.items) ≡ is_ok (each (λ a. output_row q (on a)) rows)
ok_alike {A} q on rows =
    let columns : (λ (e : TypedExpr). is_ok (each (λ a. value (on a) e) rows)) ≡ (λ (e : TypedExpr). list_all (λ a. is_ok (value (on a) e)) rows) = (λ i e. ok_each (λ a. value (on a) e) rows i) in
    let row : (λ (a : A). list_all (λ e. is_ok (value (on a) e)) q.items) ≡ (λ (a : A). is_ok (output_row q (on a))) = (λ i a. sym (ok_row q (on a)) i) in
    ok_each (λ e. each (λ a. value (on a) e) rows) q.items
    ∙ ap (λ (test : TypedExpr → Bool). list_all test q.items) columns
    ∙ all_turned (λ (e : TypedExpr) (a : A). is_ok (value (on a) e)) q.items rows
    ∙ ap (λ (test : A → Bool). list_all test rows) row
    ∙ sym (ok_each (λ a. output_row q (on a)) rows)

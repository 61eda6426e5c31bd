-- The items of rows that stand at a base, in order, are the rows of the answer.
use Rattle.std.proofs.Common.{◌≡◌, ◌∙◌, ℕ, zero, suc, ◌+◌, ◌-◌, ◌≤◌, ◌<◌, List, [], ◌∷◌, map, length, refl, sym, ap, subst, arith, slice_get, Option, Some, None}
use Rattle.std.specs.List.{All, range_with_len}
use Rattle.std.proofs.lemmas.List.{length-map}
use Rattle.std.proofs.lemmas.List.Elements.{All-nil, All-cons, All-map}
use Rattle.control_vectors.specs.Slots.{Slot}
use Rattle.programs.specs.Mentions.{Label}
use Rattle.programs.specs.Vectors.{Vector, Env, slots_of}
use Rattle.sort_order.specs.Orders.{sorted_by}
use Rattle.table_load.specs.Databases.{coded}
use Rattle.table_load.specs.Values.{value_at}
use Rattle.typed_trees.specs.declared.typed.TypedExpr.{TypedExpr}
use Rattle.typed_values.specs.Values.{On, value}
use Rattle.query_answers.specs.Answers.{Row, OutputRow, output_row, comes_before}
use Rattle.query_answers.specs.Answers as answers
use Rattle.query_answers.specs.Clauses.{Clauses}
use Rattle.query_answers.specs.Overs.{each}
use Rattle.expr_steps.specs.Lowered.{Bytes}
use Rattle.expr_values.specs.Laws.{value_slot}
use Rattle.held_rows.specs.Held.{Held, Told, Holds, present, column, one, packed}
use Rattle.held_rows.specs.Laws.{row_before}
use Rattle.program_writers.specs.Names.{IsBelow}
use Rattle.program_writers.specs.Statements.{mark}
use Rattle.program_writers.proofs.Numbers.{below_more}
use Rattle.plan_programs.specs.Items.{item_path, items_of, in_order}
use Rattle.writer_runs.specs.Runs.{Delivers, Sees}
use Rattle.lowered_stages.specs.Parts.{CanValueAll, key_alike, ordered_items, answer_rows}
use Rattle.lowered_items.specs.Items.{ShowsItems, ItemsRun}
use Rattle.lowered_items.proofs.Delivering.{delivers_alike}
use Rattle.lowered_kept.proofs.Delivering.{delivers_makes}
use Rattle.lowered_items.proofs.Holding.{Held_by}
use Rattle.lowered_items.proofs.InOrder.{Rows_by, row_key, in_order_makes, stands_there, sorted_many, present_few, packed_long}
use Rattle.lowered_items.proofs.ItemsHeld.{asked, item_told, items_told, items_held, ok_alike, stands_later}
use Rattle.lowered_items.proofs.KeyOrder.{AllCan, of_kinds, before_is, item_is}
use Rattle.lowered_items.proofs.Lists.{more_old, more_new, each_at, Pairs, pairs_long, sorted_pairs, packed_same, Gave, each_pairs}
use Rattle.lowered_items.proofs.Parts.{delivers_weaker}

all_range : (P : ℕ → Type 0) (a m : ℕ) → ((i : ℕ) → i < m → P (a + i)) → All P (range_with_len a m)
all_range P a zero h = All-nil P
all_range P a (suc m) h =
    let first : a + zero ≡ a = omega arith in
    All-cons P a (range_with_len (a + 1) m) (subst P first (h zero (omega arith)))
    (all_range P (a + 1) m (λ i lt. let same : a + suc i ≡ (a + 1) + i = omega arith in subst P same (h (suc i) (omega (arith, lt)))))

-- the items of an output row
abbrev items_in : OutputRow → Row
items_in o = o.items

-- what an item's attribute tells of a row of the answer
abbrev item_at : List Bytes → ℕ → Row → Slot
item_at texts i row = coded texts (value_at i row)

abbrev answer_told : List Bytes → ℕ → Told Row
answer_told texts n = (item_path n, item_at texts (n - 1))

module _ {A : Type 0} (texts : List Bytes) (on : A → On) (q : Clauses) (Q : A → Type 0) where
  abbrev Made : A → OutputRow → Type 0
  Made = Gave (λ a. output_row q (on a)) Q

  abbrev Rows : Held A → List A
  Rows held = sorted_by (row_before (map (row_key texts on q.items) q.order)) (present held)

  asked_is : (i : ℕ) (e : TypedExpr) → slice_get q.items i ≡ Some e → (a : A) (o : OutputRow) → Made a o → asked texts on e a ≡ item_at texts i (items_in o)
  asked_is i e h a o made = ap (value_slot texts) (item_is q (on a) o made.0 i e h)

  module _ (held : Held A) (sorted : List OutputRow) (pairs : Pairs Made (Rows held) sorted) (v : Vector) (len : v.len ≡ length held) (h : Holds v (packed (length held) (Rows held)) (items_told texts on q.items)) where
    abbrev Told_is : Told A → Type 0
    Told_is t = slots_of v.attributes t.0 ≡ column t.1 (packed (length held) (Rows held))

    abbrev Shows : Told Row → Type 0
    Shows t = slots_of v.attributes t.0 ≡ column t.1 (packed v.len (map items_in sorted))

    shows_mark : Shows (mark, one)
    shows_mark =
        more_old (item_told texts on) Told_is 1 q.items ((mark, one) ∷ []) h.each 0 (mark, one) (omega arith)
        ∙ packed_same Made one items_in one (λ a o made. refl) (length held) (Rows held) sorted pairs
        ∙ ap (λ (n : ℕ). column one (packed n (map items_in sorted))) (sym len)

    shows_item : (i : ℕ) → i < length q.items → Shows (answer_told texts (1 + i))
    shows_item i there = by (slice_get q.items i) refl
      where
        by : (x : Option TypedExpr) → slice_get q.items i ≡ x → Shows (answer_told texts (1 + i))
        by None e = absurd (stands_there q.items i there e)
        by (Some x) e =
            let back : i ≡ 1 + i - 1 = omega arith in
            each_at (item_told texts on) Told_is 1 i q.items x (more_new (item_told texts on) Told_is 1 q.items ((mark, one) ∷ []) h.each) e
            ∙ packed_same Made (asked texts on x) items_in (item_at texts i) (asked_is i x e) (length held) (Rows held) sorted pairs
            ∙ ap (λ (n : ℕ). column (item_at texts i) (packed n (map items_in sorted))) (sym len)
            ∙ ap (λ (n : ℕ). column (item_at texts n) (packed v.len (map items_in sorted))) back

    shows_all : All Shows ((mark, one) ∷ map (answer_told texts) (range_with_len 1 (length q.items)))
    shows_all =
        All-cons Shows (mark, one) (map (answer_told texts) (range_with_len 1 (length q.items))) shows_mark
        (All-map Shows (answer_told texts) (range_with_len 1 (length q.items)) (all_range (λ n. Shows (answer_told texts n)) 1 (length q.items) shows_item))

    rows_fit : length (map items_in sorted) ≤ v.len
    rows_fit =
        omega (arith, len, length-map sorted items_in, pairs_long Made (Rows held) sorted pairs, sorted_many (row_before (map (row_key texts on q.items) q.order)) (present held), present_few held)

    pub shows_items : ShowsItems texts (length q.items) (map items_in sorted) v
    shows_items = record {
      fit = rows_fit;
      holds = record { len = sym (packed_long v.len (map items_in sorted) rows_fit); each = shows_all };
    }

pub items_run : ItemsRun
items_run kinds knows codes values A texts at on q len rows b k store env can stand few short are alike below st =
    let held = st.held in
    let Given : List A → Type 0 = λ l. All (CanValueAll texts at on l) q.items in
    let Alike : List A → Type 0 = λ l. All (λ key. key_alike texts on l key.key) q.order in
    let stand_there : Given (present held) = subst Given (sym st.rows_are) stand in
    let alike_there : Alike (present held) = subst Alike (sym st.rows_are) alike in
    let found = of_kinds texts on q b kinds knows at (present held) can stand_there q.order are alike_there in
    let Q : A → Type 0 = AllCan texts on q b kinds knows at (present held) can stand_there q.order found.kinds_are in
    let Rows_made : Label → ℕ → Env → Type 0 = Rows_by texts on held b store q.items q.order in
    let Wanted : List OutputRow → Label → ℕ → Env → Type 0 = λ outputs name next after. (v : Vector) × (Sees after name v × (ShowsItems texts (length q.items) (answer_rows q outputs) v × IsBelow next name)) in
    let made =
    delivers_makes store (items_of texts b q.items) (λ vector. in_order b vector q.order) k env (each (λ e. each (λ a. value (on a) e) (present held)) q.items) (λ vs. Held_by held (items_told texts on q.items)) (λ vs. Rows_made)
    (items_held values texts at on held b store q.items k env can stand_there few below st.at)
    (λ vs name next between up g kept.
    in_order_makes texts on held b store q.items q.order next between name are short (below_more k next b.vector up below) (stands_later texts on held b k env between below kept st.at) g) in
    let there =
    delivers_weaker store (ordered_items texts b q.items q.order) k env (each (λ a. output_row q (on a)) (present held)) (λ outputs. Rows_made) Wanted
    (λ outputs name next after e up kept g.
    let pairs = each_pairs (λ a. output_row q (on a)) Q (present held) outputs found.each_can e in
    let sorted =
    sorted_pairs (Gave (λ a. output_row q (on a)) Q) (row_before (map (row_key texts on q.items) q.order)) (comes_before q.order)
    (λ a z o p made other. before_is texts on q b codes q.order found.kinds_are are a z o p made.0 other.0 (made.1 o made.0) (other.1 p other.0)) (present held) outputs pairs in
    (g.vector, (g.has.sees, (shows_items texts on q Q held (answers.in_order q.order outputs) sorted g.vector g.len g.holds, g.has.below))))
    (delivers_alike store (ordered_items texts b q.items q.order) k env (each (λ e. each (λ a. value (on a) e) (present held)) q.items) (each (λ a. output_row q (on a)) (present held)) Rows_made (ok_alike q on (present held)) made) in
    subst (λ (l : List A). Delivers store (ordered_items texts b q.items q.order) k env (each (λ a. output_row q (on a)) l) Wanted) st.rows_are there

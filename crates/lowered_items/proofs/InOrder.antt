-- The items' vector, with its rows in the order of their keys.
use Rattle.std.proofs.Common.{◌≡◌, ◌∙◌, ℕ, zero, suc, ◌+◌, ◌-◌, ◌≤◌, ◌<◌, ◌^◌, Bool, true, false, cond, List, [], ◌∷◌, ◌++◌, map, replicate, length, refl, sym, ap, arith, codes, Option, Some, None, slice_get, length-append}
use Rattle.std.specs.List.{All, enumerate_from}
use Rattle.std.proofs.lemmas.List.{length-map, length-replicate}
use Rattle.std.proofs.lemmas.List.Elements.{All-nil, All-cons, All-head, All-tail}
use Rattle.control_vectors.specs.Slots.{Slot}
use Rattle.programs.specs.declared.op.Op.TheVariants as op
use Rattle.programs.specs.Mentions.{Label}
use Rattle.programs.specs.Vectors.{Vector, Env, slots_of}
use Rattle.slot_moves.specs.Moves.{gathered}
use Rattle.sort_order.specs.Orders.{inserted, sorted_by, ordered}
use Rattle.table_load.specs.Databases.{coded}
use Rattle.typed_trees.specs.declared.typed.KeyRef.{KeyRef}
use Rattle.typed_trees.specs.declared.typed.KeyRef.TheVariants.{Item, Column}
use Rattle.typed_trees.specs.declared.typed.OrderKey.{OrderKey}
use Rattle.typed_trees.specs.declared.typed.TypedExpr.{TypedExpr}
use Rattle.typed_values.specs.Values.{On}
use Rattle.voodoo_ops.specs.Moves.{gather, order}
use Rattle.voodoo_ops.specs.Moves as moves
use Rattle.expr_steps.specs.Lowered.{Bytes}
use Rattle.held_rows.specs.Held.{Held, Told, Holds, present, column, one, packed}
use Rattle.held_rows.specs.Laws.{Key, row_before}
use Rattle.held_rows.specs.Laws as held_laws
use Rattle.held_rows.specs.Vectors.{IsBeside}
use Rattle.held_rows.proofs.Sorted.{order_law}
use Rattle.held_rows.proofs.Upserted.{first_slots}
use Rattle.held_rows.proofs.VectorLaws.{vector_laws}
use Rattle.program_writers.specs.Names.{IsBelow}
use Rattle.program_writers.specs.Statements.{out, mark, at_places}
use Rattle.program_writers.specs.Writers.{◌>>=◌, through, make}
use Rattle.program_writers.proofs.Numbers.{below_more}
use Rattle.plan_programs.specs.Sites.{Base, path_in}
use Rattle.plan_programs.specs.Items.{item_path, order_path, key_of, numbered_key, keys_of, key_by, in_order}
use Rattle.writer_runs.specs.Runs.{Makes}
use Rattle.writer_runs.proofs.Composed.{makes_tell, makes_bind}
use Rattle.lowered_stages.specs.Stages.{StandsAt, column_told, aggregate_told}
use Rattle.lowered_stages.specs.Parts.{IsKeyOf}
use Rattle.lowered_kept.proofs.Valued.{IsHeld, column_held}
use Rattle.lowered_items.proofs.Holding.{Holding, Held_by, holding_later, upsert_holding, mark_holding}
use Rattle.lowered_items.proofs.ItemsHeld.{asked, item_told, items_told, stands_later}
use Rattle.lowered_items.proofs.Lists.{more, more_old, more_new, EachFrom, each_at}
use Rattle.lowered_items.proofs.Parts.{Has, NowHas, makes_order, makes_gather}
use Rattle.lowered_items.proofs.Paths.{key_apart, mark_key}

-- ---- how many rows there are

inserted_many : {X : Type 0} (before : X → X → Bool) (x : X) (xs : List X) → length (inserted before x xs) ≡ suc (length xs)
inserted_many before x [] = refl
inserted_many before x (y ∷ xs) = by (before y x) (inserted_many before x xs)
  where
    by : (t : Bool) → length (inserted before x xs) ≡ suc (length xs) → length (cond t (y ∷ inserted before x xs) (x ∷ y ∷ xs)) ≡ suc (suc (length xs))
    by true h = ap suc h
    by false h = refl

pub sorted_many : {X : Type 0} (before : X → X → Bool) (xs : List X) → length (sorted_by before xs) ≡ length xs
sorted_many before [] = refl
sorted_many before (x ∷ xs) = inserted_many before x (sorted_by before xs) ∙ ap suc (sorted_many before xs)

pub present_few : {A : Type 0} (held : Held A) → length (present held) ≤ length held
present_few [] = omega arith
present_few (None ∷ held) = omega (arith, present_few held)
present_few (Some a ∷ held) = omega (arith, present_few held)

pub packed_long : {A : Type 0} (n : ℕ) (rows : List A) → length rows ≤ n → length (packed n rows) ≡ n
packed_long {A} n rows h =
    let some : A → Option A = λ a. Some a in
    let nobody : Option A = None in
    let others : List (Option A) = replicate (n - length rows) nobody in
    omega (arith, h, length-append (map some rows) others, length-map rows some, length-replicate (n - length rows) nobody)

-- ---- what is so of two lists is so of the first

all_first : {X : Type 0} (P : X → Type 0) (xs ys : List X) → All P (xs ++ ys) → All P xs
all_first P [] ys h = All-nil P
all_first P (x ∷ xs) ys h = All-cons P x xs (All-head P x (xs ++ ys) h) (all_first P xs ys (All-tail P x (xs ++ ys) h))

-- ---- keys

module _ {A : Type 0} (texts : List Bytes) (on : A → On) (es : List TypedExpr) where
  -- what a key asks of a row
  abbrev pub item_slot : Option TypedExpr → A → Slot
  item_slot None a = None
  item_slot (Some e) a = asked texts on e a

  abbrev pub key_slot : KeyRef → A → Slot
  key_slot (Item n) a = item_slot (slice_get es n) a
  key_slot (Column c) a = coded texts ((on a).column c)

  abbrev pub key_told : ℕ → OrderKey → Told A
  key_told j key = (order_path j, key_slot key.key)

  abbrev pub row_key : OrderKey → Key A
  row_key key = (key.descending, key_slot key.key)

  abbrev pub keys_told : List OrderKey → List (Told A)
  keys_told keys = more key_told 0 keys ((mark, one) ∷ [])

-- an item that there is
pub stands_there : (es : List TypedExpr) (n : ℕ) → n < length es → slice_get es n ≡ None → ⊥
stands_there [] n h e = absurd (omega (arith, h))
stands_there (x ∷ es) zero h e = absurd (let no : Some x ≡ None = e in cc)
stands_there (x ∷ es) (suc n) h e = stands_there es n (omega (arith, h)) e

abbrev OffFrom : {A : Type 0} → ℕ → List (Told A) → Type 0
OffFrom j told = (i : ℕ) → j ≤ i → i < 2 ^ 64 → All (IsBeside (order_path i)) told

off_more : {A : Type 0} (j : ℕ) (f : A → Slot) (told : List (Told A)) → j < 2 ^ 64 → OffFrom j told → OffFrom (j + 1) ((order_path j, f) ∷ told)
off_more j f told few off i above small =
    All-cons (IsBeside (order_path i)) (order_path j, f) told (key_apart j i few small (λ e. absurd (omega (arith, e, above)))) (off i (omega (arith, above)) small)

off_mark : {A : Type 0} → OffFrom {A = A} 0 ((mark, one) ∷ [])
off_mark i above small = All-cons (IsBeside (order_path i)) (mark, one) [] (mark_key i small) (All-nil (IsBeside (order_path i)))

module _ {A : Type 0} (texts : List Bytes) (on : A → On) (held : Held A) (b : Base) (store : Env) (es : List TypedExpr) where
  -- the slots of an item in the items' vector
  item_is : (v : Vector) (n : ℕ) → All (λ t. slots_of v.attributes t.0 ≡ column t.1 held) (items_told texts on es) → n < length es → slots_of v.attributes (item_path (n + 1)) ≡ column (key_slot texts on es (Item n)) held
  item_is v n h there = by (slice_get es n) refl
    where
      by : (o : Option TypedExpr) → slice_get es n ≡ o → slots_of v.attributes (item_path (n + 1)) ≡ column (item_slot texts on es o) held
      by None e = absurd (stands_there es n there e)
      by (Some x) e =
          let from = more_new (item_told texts on) (λ t. slots_of v.attributes t.0 ≡ column t.1 held) 1 es ((mark, one) ∷ []) h in
          let place : 1 + n ≡ n + 1 = omega arith in
          ap (λ (i : ℕ). slots_of v.attributes (item_path i)) (sym place) ∙ each_at (item_told texts on) (λ t. slots_of v.attributes t.0 ≡ column t.1 held) 1 n es x from e

  key_makes : (told : List (Told A)) (j k : ℕ) (env : Env) (items keys : Label) (key : OrderKey) → IsKeyOf (length es) b key.key → All (IsBeside (order_path j)) told
      → IsBelow k b.vector → StandsAt texts env b on held → Holding held (items_told texts on es) k env items → Holding held told k env keys
      → Makes store (numbered_key b items keys (j, key)) k env (Held_by held (key_told texts on es j key ∷ told))
  key_makes told j k env items keys key is off below st shown h = by key.key is
    where
      by : (r : KeyRef) → IsKeyOf (length es) b r → Makes store (key_of b items keys j r) k env (Held_by held ((order_path j, key_slot texts on es r) ∷ told))
      by (Item n) there =
          upsert_holding held store (codes "keys") k env keys (order_path j) items (item_path (n + 1)) (key_slot texts on es (Item n)) told shown.vector refl h shown.has (item_is shown.vector n shown.holds.each there) off
      by (Column c) there =
          let others = map (column_told texts on) b.columns ++ map (aggregate_told texts on) b.aggregates in
          upsert_holding held store (codes "keys") k env keys (order_path j) b.vector (path_in b c) (key_slot texts on es (Column c)) told st.vector refl h (record { sees = st.sees; below = below })
          (column_held texts on held st.vector b.columns c
          (all_first (IsHeld texts on held st.vector) (map (column_told texts on) b.columns) (map (aggregate_told texts on) b.aggregates) (All-tail (IsHeld texts on held st.vector) (mark, one) others st.holds.each)) there) off

  keys_through : (ks : List OrderKey) (told : List (Told A)) (j k : ℕ) (env : Env) (items keys : Label) → All (λ key. IsKeyOf (length es) b key.key) ks → OffFrom j told → j + length ks ≤ 8
      → IsBelow k b.vector → StandsAt texts env b on held → Holding held (items_told texts on es) k env items → Holding held told k env keys
      → Makes store (through (numbered_key b items) keys (enumerate_from j ks)) k env (Held_by held (more (key_told texts on es) j ks told))
  keys_through [] told j k env items keys are off few below st shown h = makes_tell Label store keys k env (Held_by held told) h
  keys_through (key ∷ ks) told j k env items keys are off few below st shown h =
      let small : j < 2 ^ 64 = omega (arith, few) in
      makes_bind Label Label store (numbered_key b items keys (j, key)) (λ next. through (numbered_key b items) next (enumerate_from (j + 1) ks)) k env
      (Held_by held (key_told texts on es j key ∷ told)) (Held_by held (more (key_told texts on es) (j + 1) ks (key_told texts on es j key ∷ told)))
      (key_makes told j k env items keys key (All-head (λ (x : OrderKey). IsKeyOf (length es) b x.key) key ks are) (off j (omega arith) small) below st shown h)
      (λ name next between up g kept.
      keys_through ks (key_told texts on es j key ∷ told) (j + 1) next between items name (All-tail (λ (x : OrderKey). IsKeyOf (length es) b x.key) key ks are) (off_more j (key_slot texts on es key.key) told small off) (omega (arith, few))
      (below_more k next b.vector up below) (stands_later texts on held b k env between below kept st) (holding_later held (items_told texts on es) k next env between items up kept shown) g)

  keys_make : (ks : List OrderKey) (k : ℕ) (env : Env) (items : Label) → All (λ key. IsKeyOf (length es) b key.key) ks → length ks ≤ 8
      → IsBelow k b.vector → StandsAt texts env b on held → Holding held (items_told texts on es) k env items
      → Makes store (keys_of b items ks) k env (Held_by held (keys_told texts on es ks))
  keys_make ks k env items are few below st shown =
      let others = map (column_told texts on) b.columns ++ map (aggregate_told texts on) b.aggregates in
      makes_bind Label Label store (make (codes "keys") (op.Project b.vector mark mark)) (λ vector. through (numbered_key b items) vector (enumerate_from 0 ks)) k env (Held_by held ((mark, one) ∷ [])) (Held_by held (keys_told texts on es ks))
      (mark_holding held store (codes "keys") k env b.vector st.vector refl (record { sees = st.sees; below = below }) st.holds.len (All-head (IsHeld texts on held st.vector) (mark, one) others st.holds.each))
      (λ name next between up g kept.
      keys_through ks ((mark, one) ∷ []) 0 next between items name are off_mark (omega (arith, few)) (below_more k next b.vector up below) (stands_later texts on held b k env between below kept st)
      (holding_later held (items_told texts on es) k next env between items up kept shown) g)

  -- ---- the order

  sort_keys : (v : Vector) (j : ℕ) (ks : List OrderKey) → EachFrom (key_told texts on es) (λ t. slots_of v.attributes t.0 ≡ column t.1 held) j ks
      → map (moves.sort_key v) (map key_by (enumerate_from j ks)) ≡ map (held_laws.sort_key held) (map (row_key texts on es) ks)
  sort_keys v j [] h = refl
  sort_keys v j (key ∷ ks) h =
      let first : moves.sort_key v (key_by (j, key)) ≡ held_laws.sort_key held (row_key texts on es key) = ap (λ (slots : List Slot). record { descending = key.descending; slots = slots }) h.0 in
      let others = sort_keys v (j + 1) ks h.1 in
      λ i. first i ∷ others i

  abbrev pub sorted_rows : List OrderKey → List A
  sorted_rows ks = sorted_by (row_before (map (row_key texts on es) ks)) (present held)

  -- the places of the rows in order
  order_is : (v : Vector) (ks : List OrderKey) → Holds v held (keys_told texts on es ks)
      → slots_of (order v mark out (map key_by (enumerate_from 0 ks))).attributes out ≡ ordered (column one held) (map (held_laws.sort_key held) (map (row_key texts on es) ks))
  order_is v ks h =
      let Told_is : Told A → Type 0 = λ t. slots_of v.attributes t.0 ≡ column t.1 held in
      let marks : slots_of v.attributes mark ≡ column one held = All-head Told_is (mark, one) [] (more_old (key_told texts on es) Told_is 0 ks ((mark, one) ∷ []) h.each) in
      let keys = sort_keys v 0 ks (more_new (key_told texts on es) Told_is 0 ks ((mark, one) ∷ []) h.each) in
      let slots = ordered (slots_of v.attributes mark) (map (moves.sort_key v) (map key_by (enumerate_from 0 ks))) in
      first_slots out slots [] ∙ (λ i. ordered (marks i) (keys i))

  sorted_long : (ks : List OrderKey) → length (packed (length held) (sorted_rows ks)) ≡ length held
  sorted_long ks =
      packed_long (length held) (sorted_rows ks)
      (omega (arith, sorted_many (row_before (map (row_key texts on es) ks)) (present held), present_few held))

  -- the rows in order, and what the items tell of them
  pub record InRows (ks : List OrderKey) (k : ℕ) (env : Env) (name : Label) : Type 0 where
    pub vector : Vector
    pub has : Has k env name vector
    pub len : vector.len ≡ length held
    pub holds : Holds vector (packed (length held) (sorted_rows ks)) (items_told texts on es)

  abbrev pub Rows_by : List OrderKey → Label → ℕ → Env → Type 0
  Rows_by ks name next after = InRows ks next after name

  answer_makes : (ks : List OrderKey) (k : ℕ) (env : Env) (items places : Label) (v : Vector) → Holds v held (keys_told texts on es ks) → Holding held (items_told texts on es) k env items
      → Has k env places (order v mark out (map key_by (enumerate_from 0 ks))) → Makes store (make (codes "answer") (at_places items places)) k env (Rows_by ks)
  answer_makes ks k env items places v h shown has =
      let w = order v mark out (map key_by (enumerate_from 0 ks)) in
      let kept = packed (length held) (sorted_rows ks) in
      let moved : (f : A → Slot) → gathered (column f held) (slots_of w.attributes out) ≡ column f kept = λ f. ap (gathered (column f held)) (order_is v ks h) ∙ order_law held (map (row_key texts on es) ks) f in
      let g = makes_gather store (codes "answer") k env refl items places shown.vector w shown.has has in
      record {
        after = g.after;
        ran = g.ran;
        holds = record {
          vector = gather shown.vector w out;
          has = g.holds;
          len = h.len;
          holds = vector_laws.at_places shown.vector w out held kept (items_told texts on es) shown.holds (h.len ∙ sym (sorted_long ks)) (sorted_long ks) moved;
        };
        kept = g.kept;
        ascends = g.ascends;
      }

  pub in_order_makes : (ks : List OrderKey) (k : ℕ) (env : Env) (items : Label) → All (λ key. IsKeyOf (length es) b key.key) ks → length ks ≤ 8
      → IsBelow k b.vector → StandsAt texts env b on held → Holding held (items_told texts on es) k env items
      → Makes store (in_order b items ks) k env (Rows_by ks)
  in_order_makes ks k env items are few below st shown =
      let by_paths = map key_by (enumerate_from 0 ks) in
      makes_bind Label Label store (keys_of b items ks) (λ by. make (codes "order") (op.Order by mark out by_paths) >>= λ places. make (codes "answer") (at_places items places)) k env (Held_by held (keys_told texts on es ks)) (Rows_by ks)
      (keys_make ks k env items are few below st shown)
      (λ by next between up g kept.
      makes_bind Label Label store (make (codes "order") (op.Order by mark out by_paths)) (λ places. make (codes "answer") (at_places items places)) next between (NowHas (order g.vector mark out by_paths)) (Rows_by ks)
      (makes_order store (codes "order") next between refl by mark by_paths g.vector g.has)
      (λ places last behind upward has left.
      answer_makes ks last behind items places g.vector g.holds (holding_later held (items_told texts on es) next last between behind items upward left (holding_later held (items_told texts on es) k next env between items up kept shown)) has))

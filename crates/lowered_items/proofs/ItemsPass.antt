-- The items in order pass the check.
use Rattle.std.proofs.Common.{◌≡◌, ◌∙◌, ℕ, suc, ◌+◌, ◌≤◌, ◌<◌, ◌^◌, Bool, true, false, ◌||◌, List, [], ◌∷◌, ◌++◌, map, length, refl, ap, subst, arith, codes, slice_get, if◌then◌else◌, Option, Some, None}
use Rattle.std.specs.Fmt.{decimal}
use Rattle.std.specs.List.{All, list_any, enumerate_from}
use Rattle.std.specs.Str.{bytes_eq}
use Rattle.std.proofs.lemmas.List.{length-map}
use Rattle.std.proofs.lemmas.List.Elements.{All-nil, All-cons, All-head, All-tail}
use Rattle.std.proofs.lemmas.Slice.Eq.{bytes_eq-Decides}
use Rattle.key_paths.specs.Substructures.{is_at_or_below}
use Rattle.programs.specs.declared.op.Op.TheVariants as op
use Rattle.programs.specs.declared.order_keys.OrderPath.{OrderPath}
use Rattle.programs.specs.Check.{Known}
use Rattle.programs.specs.Mentions.{Label, has_name}
use Rattle.programs.specs.Outlines.{outlined, Shapes}
use Rattle.typed_trees.specs.declared.typed.ColumnRef.{ColumnRef}
use Rattle.typed_trees.specs.declared.typed.KeyRef.{KeyRef}
use Rattle.typed_trees.specs.declared.typed.KeyRef.TheVariants.{Item, Column}
use Rattle.typed_trees.specs.declared.typed.OrderKey.{OrderKey}
use Rattle.typed_trees.specs.declared.typed.TypedExpr.{TypedExpr}
use Rattle.typed_trees.specs.Names.{same_column}
use Rattle.typed_trees.specs.Types.{DataType}
use Rattle.expr_steps.specs.Lowered.{Bytes}
use Rattle.expr_lower.specs.declared.places.ColumnPlace.{ColumnPlace}
use Rattle.expr_lower.specs.Statements.{column_path}
use Rattle.program_writers.specs.Names.{is_word, IsBelow}
use Rattle.program_writers.specs.Statements.{out, mark, with_attribute, at_places}
use Rattle.program_writers.specs.Writers.{◌>>=◌, through, make}
use Rattle.plan_programs.specs.Sites.{Base, path_in, value_of}
use Rattle.plan_programs.specs.Items.{item_path, item_of, items_of, order_path, key_of, numbered_key, keys_of, key_by, in_order}
use Rattle.writer_checks.specs.Checks.{IsFresh, HasShape, Passes, PassesFrom}
use Rattle.writer_checks.specs.Laws.{IsAttribute, Shaped}
use Rattle.writer_checks.specs.Paths.{one}
use Rattle.writer_checks.proofs.Composing.{compose_laws}
use Rattle.writer_checks.proofs.Going.{still_has, weaker}
use Rattle.writer_checks.proofs.Outlined.{one_clear, one_shallow, names_one}
use Rattle.writer_checks.proofs.Passing.{operator_laws}
use Rattle.writer_checks.proofs.Routes.{path_laws}
use Rattle.lowered_stages.specs.Stages.{IsShaped, paths_of}
use Rattle.lowered_stages.specs.Parts.{CanValue, IsKeyOf, ordered_items}
use Rattle.lowered_kept.specs.Values.{ValuePasses}
use Rattle.lowered_items.specs.Items.{IsAlone, ItemsAlone, ItemsPass}
use Rattle.lowered_items.proofs.Alone.{Exactly, still_exactly, all_more, or_right, exact_upsert, exact_gather}
use Rattle.lowered_items.proofs.InOrder.{stands_there}
use Rattle.lowered_items.proofs.Lists.{more, more_long, more_old, more_new, EachFrom, each_at}
use Rattle.lowered_items.proofs.Paths.{mark_item, mark_key, item_flat, key_flat, item_apart, key_apart, item_attribute, key_attribute}

-- ---- shapes

-- names below k are left alone
abbrev Left : ℕ → Shapes → Shapes → Type 0
Left k before after = (name : Label) → IsBelow k name → after name ≡ before name

-- some of the paths
fewer_paths : (shapes : Shapes) (a : Label) (len : ℕ) (paths some : List Label) (h : HasShape shapes a len paths) → All (λ p. has_name h.outline.paths p ≡ true) some → HasShape shapes a len some
fewer_paths shapes a len paths some h each = record { outline = h.outline; known = h.known; len_is = h.len_is; clear = h.clear; shallow = h.shallow; each = each }

one_path : (shapes : Shapes) (a : Label) (len : ℕ) (paths : List Label) (p : Label) (h : HasShape shapes a len paths) → has_name h.outline.paths p ≡ true → HasShape shapes a len (p ∷ [])
one_path shapes a len paths p h e = fewer_paths shapes a len paths (p ∷ []) h (All-cons (λ q. has_name h.outline.paths q ≡ true) p [] e (All-nil (λ q. has_name h.outline.paths q ≡ true)))

first_path : (shapes : Shapes) (a : Label) (len : ℕ) (p : Label) (paths : List Label) → HasShape shapes a len (p ∷ paths) → HasShape shapes a len (p ∷ [])
first_path shapes a len p paths h = one_path shapes a len (p ∷ paths) p h (All-head (λ q. has_name h.outline.paths q ≡ true) p paths h.each)

-- each of some names is one of them
all_named : (names : List Label) → All (λ p. has_name names p ≡ true) names
all_named [] = All-nil (λ p. has_name [] p ≡ true)
all_named (n ∷ names) =
    All-cons (λ p. has_name (n ∷ names) p ≡ true) n names (ap (λ (b : Bool). b || has_name names n) ((bytes_eq-Decides n n).1 refl))
    (all_more (λ p. has_name names p ≡ true) (λ p. has_name (n ∷ names) p ≡ true) (λ p e. or_right (bytes_eq n p) (has_name names p) e) names (all_named names))

mark_attribute : IsAttribute mark
mark_attribute = path_laws.attribute_one (codes "mark") refl (omega arith)

-- the mark alone
mark_passes : (tables : Shapes) (word : Label) (a : Label) (len : ℕ) (paths : List Label) (k : ℕ) (known : Known) → is_word word ≡ true → IsFresh k known.vectors → len ≤ 2 ^ 22 → HasShape known.vectors a len (mark ∷ paths)
    → Passes tables (make word (op.Project a mark mark)) k known (Exactly len (mark ∷ []))
mark_passes tables word a len paths k known w fresh small h =
    weaker tables (make word (op.Project a mark mark)) k known (λ name shapes. shapes name ≡ Some (outlined len (mark ∷ []))) (Exactly len (mark ∷ []))
    (λ name shapes kept e. record {
      shape = record { outline = outlined len (mark ∷ []); known = e; len_is = refl; clear = one_clear len mark refl; shallow = one_shallow len mark refl; each = names_one mark };
      many = refl;
      among = names_one mark;
    })
    (operator_laws.project tables word a mark mark len k known w fresh mark_attribute mark_attribute small (first_path known.vectors a len mark paths h))

-- ---- items

abbrev Beside : Label → Label → Type 0
Beside p r = is_at_or_below r p ≡ false

abbrev ItemsOff : ℕ → List Label → Type 0
ItemsOff j paths = (i : ℕ) → j ≤ i → i < 2 ^ 64 → All (Beside (item_path i)) paths

items_off : (j : ℕ) (paths : List Label) → j < 2 ^ 64 → ItemsOff j paths → ItemsOff (j + 1) (item_path j ∷ paths)
items_off j paths few off i above small = All-cons (Beside (item_path i)) (item_path j) paths (item_apart j i few small (λ e. absurd (omega (arith, e, above)))) (off i (omega (arith, above)) small)

mark_off : ItemsOff 1 (mark ∷ [])
mark_off i above small = All-cons (Beside (item_path i)) mark [] (mark_item i small) (All-nil (Beside (item_path i)))

abbrev item_paths : ℕ → List TypedExpr → List Label → List Label
item_paths = more (λ j e. item_path j)

-- what each of the paths has, an item's has
item_has : (Named : Label → Type 0) (es : List TypedExpr) (n : ℕ) → n < length es → All Named (item_paths 1 es (mark ∷ [])) → Named (item_path (n + 1))
item_has Named es n there h = by (slice_get es n) refl
  where
    by : (x : Option TypedExpr) → slice_get es n ≡ x → Named (item_path (n + 1))
    by None e = absurd (stands_there es n there e)
    by (Some x) e = let place : 1 + n ≡ n + 1 = omega arith in subst (λ (i : ℕ). Named (item_path i)) place (each_at (λ j e. item_path j) Named 1 n es x (more_new (λ j e. item_path j) Named 1 es (mark ∷ []) h) e)

module _ (values : ValuePasses) (tables : Shapes) (texts : List Bytes) (at : ℕ → Option DataType) (len : ℕ) (b : Base) (small : len ≤ 2 ^ 22) where
  item_passes : (j : ℕ) (e : TypedExpr) (r : Label) (paths : List Label) (k : ℕ) (known : Known) (items : Label) → CanValue at b e → j < 2 ^ 64 → All (Beside (item_path j)) (one r ∷ paths)
      → IsFresh k known.vectors → IsShaped len b known.vectors → Exactly len (one r ∷ paths) items known.vectors
      → Passes tables (item_of texts b items (j, e)) k known (Exactly len (item_path j ∷ one r ∷ paths))
  item_passes j e r paths k known items can few off fresh shaped h =
      compose_laws.bind Label Label tables (value_of texts (codes "item") b e) (λ value. make (codes "items") (with_attribute items (item_path j) value out)) k known (Shaped len (out ∷ [])) (Exactly len (item_path j ∷ one r ∷ paths))
      (values tables texts at (codes "item") len b e refl small can k known fresh shaped)
      (λ value next between up new made kept.
      let still = still_exactly k known.vectors between.vectors items len (one r ∷ paths) fresh kept h in
      exact_upsert tables (codes "items") items (item_path j) value out len (one r ∷ paths) len next between refl new (item_attribute j few) small still made
      (path_laws.none_above_one between.vectors items (codes "c" ++ decimal j) r len paths (item_flat j few) still.shape) off)

  items_through : (es : List TypedExpr) (j : ℕ) (r : Label) (paths : List Label) (k : ℕ) (known : Known) (items : Label) → All (CanValue at b) es → ItemsOff j (one r ∷ paths) → j + length es ≤ 65
      → IsFresh k known.vectors → IsShaped len b known.vectors → Exactly len (one r ∷ paths) items known.vectors
      → Passes tables (through (item_of texts b) items (enumerate_from j es)) k known (Exactly len (item_paths j es (one r ∷ paths)))
  items_through [] j r paths k known items can off few fresh shaped h = compose_laws.tell Label tables items k known (Exactly len (one r ∷ paths)) fresh h
  items_through (e ∷ es) j r paths k known items can off few fresh shaped h =
      let low : j < 2 ^ 64 = omega (arith, few) in
      compose_laws.bind Label Label tables (item_of texts b items (j, e)) (λ next. through (item_of texts b) next (enumerate_from (j + 1) es)) k known
      (Exactly len (item_path j ∷ one r ∷ paths)) (Exactly len (item_paths (j + 1) es (item_path j ∷ one r ∷ paths)))
      (item_passes j e r paths k known items (All-head (CanValue at b) e es can) low (off j (omega arith) low) fresh shaped h)
      (λ name next between up new made kept.
      items_through es (j + 1) (codes "c" ++ decimal j) (one r ∷ paths) next between name (All-tail (CanValue at b) e es can) (items_off j (one r ∷ paths) low off) (omega (arith, few)) new
      (still_has k known.vectors between.vectors b.vector len (paths_of b) fresh kept shaped) made)

  items_pass : (es : List TypedExpr) (k : ℕ) (known : Known) → All (CanValue at b) es → length es ≤ 64 → IsFresh k known.vectors → IsShaped len b known.vectors
      → Passes tables (items_of texts b es) k known (Exactly len (item_paths 1 es (mark ∷ [])))
  items_pass es k known can few fresh shaped =
      compose_laws.bind Label Label tables (make (codes "items") (op.Project b.vector mark mark)) (λ vector. through (item_of texts b) vector (enumerate_from 1 es)) k known (Exactly len (mark ∷ [])) (Exactly len (item_paths 1 es (mark ∷ [])))
      (mark_passes tables (codes "items") b.vector len (map (λ p. p.path) b.columns ++ map (λ p. p.path) b.aggregates) k known refl fresh small shaped)
      (λ name next between up new made kept.
      items_through es 1 (codes "mark") [] next between name can mark_off (omega (arith, few)) new (still_has k known.vectors between.vectors b.vector len (paths_of b) fresh kept shaped) made)

-- ---- keys

abbrev KeysOff : ℕ → List Label → Type 0
KeysOff j paths = (i : ℕ) → j ≤ i → i < 2 ^ 64 → All (Beside (order_path i)) paths

keys_off : (j : ℕ) (paths : List Label) → j < 2 ^ 64 → KeysOff j paths → KeysOff (j + 1) (order_path j ∷ paths)
keys_off j paths few off i above small = All-cons (Beside (order_path i)) (order_path j) paths (key_apart j i few small (λ e. absurd (omega (arith, e, above)))) (off i (omega (arith, above)) small)

mark_keys_off : KeysOff 0 (mark ∷ [])
mark_keys_off i above small = All-cons (Beside (order_path i)) mark [] (mark_key i small) (All-nil (Beside (order_path i)))

abbrev key_paths : ℕ → List OrderKey → List Label → List Label
key_paths = more (λ j key. order_path j)

-- the place of a column is one of the places
column_named : (P : Label → Type 0) (places : List ColumnPlace) (c : ColumnRef) (others : List Label) → All P (map (λ p. p.path) places ++ others) → list_any (λ p. same_column p.column c) places ≡ true → P (column_path places c)
column_named P [] c others h found = absurd cc
column_named P (p ∷ places) c others h found =
    by (same_column p.column c) (All-head P p.path (map (λ p. p.path) places ++ others) h) (λ f. column_named P places c others (All-tail P p.path (map (λ p. p.path) places ++ others) h) f) found
  where
    by : (t : Bool) → P p.path → (list_any (λ q. same_column q.column c) places ≡ true → P (column_path places c)) → (t || list_any (λ q. same_column q.column c) places) ≡ true → P (if t then p.path else column_path places c)
    by true first rest f = first
    by false first rest f = rest f

module _ (tables : Shapes) (len : ℕ) (b : Base) (es : List TypedExpr) (small : len ≤ 2 ^ 22) where
  item_named : (shapes : Shapes) (items : Label) (n : ℕ) → n < length es → HasShape shapes items len (item_paths 1 es (mark ∷ [])) → HasShape shapes items len (item_path (n + 1) ∷ [])
  item_named shapes items n there h = one_path shapes items len (item_paths 1 es (mark ∷ [])) (item_path (n + 1)) h (item_has (λ p. has_name h.outline.paths p ≡ true) es n there h.each)

  key_passes : (j : ℕ) (key : OrderKey) (r : Label) (paths : List Label) (k : ℕ) (known : Known) (items keys : Label) → IsKeyOf (length es) b key.key → j < 2 ^ 64 → All (Beside (order_path j)) (one r ∷ paths)
      → IsFresh k known.vectors → IsShaped len b known.vectors → HasShape known.vectors items len (item_paths 1 es (mark ∷ [])) → HasShape known.vectors keys len (one r ∷ paths)
      → Passes tables (numbered_key b items keys (j, key)) k known (Shaped len (order_path j ∷ one r ∷ paths))
  key_passes j key r paths k known items keys is few off fresh shaped shown h = by key.key is
    where
      by : (x : KeyRef) → IsKeyOf (length es) b x → Passes tables (key_of b items keys j x) k known (Shaped len (order_path j ∷ one r ∷ paths))
      by (Item n) there =
          operator_laws.upsert tables (codes "keys") keys (order_path j) items (item_path (n + 1)) len (one r ∷ paths) len k known refl fresh (key_attribute j few) small h (item_named known.vectors items n there shown)
          (path_laws.none_above_one known.vectors keys (codes "key" ++ decimal j) r len paths (key_flat j few) h) off
      by (Column c) there =
          let Named : Label → Type 0 = λ p. has_name shaped.outline.paths p ≡ true in
          let others = map (λ p. p.path) b.aggregates in
          operator_laws.upsert tables (codes "keys") keys (order_path j) b.vector (path_in b c) len (one r ∷ paths) len k known refl fresh (key_attribute j few) small h
          (one_path known.vectors b.vector len (paths_of b) (path_in b c) shaped (column_named Named b.columns c others (All-tail Named mark (map (λ p. p.path) b.columns ++ others) shaped.each) there))
          (path_laws.none_above_one known.vectors keys (codes "key" ++ decimal j) r len paths (key_flat j few) h) off

  keys_through : (ks : List OrderKey) (j : ℕ) (r : Label) (paths : List Label) (k : ℕ) (known : Known) (items keys : Label) → All (λ key. IsKeyOf (length es) b key.key) ks → KeysOff j (one r ∷ paths) → j + length ks ≤ 8
      → IsFresh k known.vectors → IsShaped len b known.vectors → HasShape known.vectors items len (item_paths 1 es (mark ∷ [])) → HasShape known.vectors keys len (one r ∷ paths)
      → Passes tables (through (numbered_key b items) keys (enumerate_from j ks)) k known (Shaped len (key_paths j ks (one r ∷ paths)))
  keys_through [] j r paths k known items keys are off few fresh shaped shown h = compose_laws.tell Label tables keys k known (Shaped len (one r ∷ paths)) fresh h
  keys_through (key ∷ ks) j r paths k known items keys are off few fresh shaped shown h =
      let low : j < 2 ^ 64 = omega (arith, few) in
      compose_laws.bind Label Label tables (numbered_key b items keys (j, key)) (λ next. through (numbered_key b items) next (enumerate_from (j + 1) ks)) k known
      (Shaped len (order_path j ∷ one r ∷ paths)) (Shaped len (key_paths (j + 1) ks (order_path j ∷ one r ∷ paths)))
      (key_passes j key r paths k known items keys (All-head (λ (x : OrderKey). IsKeyOf (length es) b x.key) key ks are) low (off j (omega arith) low) fresh shaped shown h)
      (λ name next between up new made kept.
      keys_through ks (j + 1) (codes "key" ++ decimal j) (one r ∷ paths) next between items name (All-tail (λ (x : OrderKey). IsKeyOf (length es) b x.key) key ks are) (keys_off j (one r ∷ paths) low off) (omega (arith, few)) new
      (still_has k known.vectors between.vectors b.vector len (paths_of b) fresh kept shaped) (still_has k known.vectors between.vectors items len (item_paths 1 es (mark ∷ [])) fresh kept shown) made)

  keys_pass : (ks : List OrderKey) (k : ℕ) (known : Known) (items : Label) → All (λ key. IsKeyOf (length es) b key.key) ks → length ks ≤ 8
      → IsFresh k known.vectors → IsShaped len b known.vectors → HasShape known.vectors items len (item_paths 1 es (mark ∷ []))
      → Passes tables (keys_of b items ks) k known (Shaped len (key_paths 0 ks (mark ∷ [])))
  keys_pass ks k known items are few fresh shaped shown =
      compose_laws.bind Label Label tables (make (codes "keys") (op.Project b.vector mark mark)) (λ vector. through (numbered_key b items) vector (enumerate_from 0 ks)) k known (Exactly len (mark ∷ [])) (Shaped len (key_paths 0 ks (mark ∷ [])))
      (mark_passes tables (codes "keys") b.vector len (map (λ p. p.path) b.columns ++ map (λ p. p.path) b.aggregates) k known refl fresh small shaped)
      (λ name next between up new made kept.
      keys_through ks 0 (codes "mark") [] next between items name are mark_keys_off (omega (arith, few)) new
      (still_has k known.vectors between.vectors b.vector len (paths_of b) fresh kept shaped) (still_has k known.vectors between.vectors items len (item_paths 1 es (mark ∷ [])) fresh kept shown) made.shape)

  -- ---- in order

  sorts : (names : List Label) (j : ℕ) (ks : List OrderKey) → EachFrom (λ j key. order_path j) (λ p. has_name names p ≡ true) j ks → All (λ key. has_name names key.path ≡ true) (map key_by (enumerate_from j ks))
  sorts names j [] h = All-nil (λ (key : OrderPath). has_name names key.path ≡ true)
  sorts names j (key ∷ ks) h = All-cons (λ (x : OrderPath). has_name names x.path ≡ true) (key_by (j, key)) (map key_by (enumerate_from (j + 1) ks)) h.0 (sorts names (j + 1) ks h.1)

  counted : (j : ℕ) (ks : List OrderKey) → length (enumerate_from j ks) ≡ length ks
  counted j [] = refl
  counted j (key ∷ ks) = ap suc (counted (j + 1) ks)

  in_order_passes : (ks : List OrderKey) (k : ℕ) (known : Known) (items : Label) → All (λ key. IsKeyOf (length es) b key.key) ks → length ks ≤ 8
      → IsFresh k known.vectors → IsShaped len b known.vectors → Exactly len (item_paths 1 es (mark ∷ [])) items known.vectors
      → Passes tables (in_order b items ks) k known (Exactly len (item_paths 1 es (mark ∷ [])))
  in_order_passes ks k known items are few fresh shaped shown =
      let by_paths = map key_by (enumerate_from 0 ks) in
      let names = key_paths 0 ks (mark ∷ []) in
      let Named : Label → Type 0 = λ p. has_name names p ≡ true in
      let each_named = sorts names 0 ks (more_new (λ j key. order_path j) Named 0 ks (mark ∷ []) (all_named names)) in
      compose_laws.bind Label Label tables (keys_of b items ks) (λ by. make (codes "order") (op.Order by mark out by_paths) >>= λ places. make (codes "answer") (at_places items places)) k known (Shaped len names) (Exactly len (item_paths 1 es (mark ∷ [])))
      (keys_pass ks k known items are few fresh shaped shown.shape)
      (λ by next between up new made kept.
      let Has : Label → Type 0 = λ p. has_name made.outline.paths p ≡ true in
      let marked = fewer_paths between.vectors by len names (mark ∷ names) made (All-cons Has mark names (All-head Has mark [] (more_old (λ j key. order_path j) Has 0 ks (mark ∷ []) made.each)) made.each) in
      let still = still_exactly k known.vectors between.vectors items len (item_paths 1 es (mark ∷ [])) fresh kept shown in
      compose_laws.bind Label Label tables (make (codes "order") (op.Order by mark out by_paths)) (λ places. make (codes "answer") (at_places items places)) next between (Shaped len (out ∷ [])) (Exactly len (item_paths 1 es (mark ∷ [])))
      (operator_laws.order tables (codes "order") by mark by_paths len names next between refl new small marked each_named (omega (arith, few, length-map (enumerate_from 0 ks) key_by, counted 0 ks)))
      (λ places last behind upward newer placed left.
      exact_gather tables (codes "answer") items places len len (item_paths 1 es (mark ∷ [])) last behind refl newer small
      (still_exactly next between.vectors behind.vectors items len (item_paths 1 es (mark ∷ [])) new left still) placed))

items_exact : ValuePasses → (tables : Shapes) (texts : List Bytes) (at : ℕ → Option DataType) (len : ℕ) (b : Base) (items : List TypedExpr) (keys : List OrderKey) → len ≤ 2 ^ 22 → All (CanValue at b) items → length items ≤ 64 → length keys ≤ 8 → All (λ key. IsKeyOf (length items) b key.key) keys
    → PassesFrom tables (ordered_items texts b items keys) (IsShaped len b) (Exactly len (item_paths 1 items (mark ∷ [])))
items_exact values tables texts at len b items keys small can few short are k known fresh shaped =
    compose_laws.bind Label Label tables (items_of texts b items) (λ vector. in_order b vector keys) k known (Exactly len (item_paths 1 items (mark ∷ []))) (Exactly len (item_paths 1 items (mark ∷ [])))
    (items_pass values tables texts at len b small items k known can few fresh shaped)
    (λ vector next between up new made kept.
    in_order_passes tables len b items small keys next between vector are short new (still_has k known.vectors between.vectors b.vector len (paths_of b) fresh kept shaped) made)

alone_is : (len : ℕ) (items : List TypedExpr) (name : Label) (shapes : Shapes) → Exactly len (item_paths 1 items (mark ∷ [])) name shapes → IsAlone shapes name len (length items)
alone_is len items name shapes h =
    let s = h.shape in
    let Has : Label → Type 0 = λ p. has_name s.outline.paths p ≡ true in
    record {
      shape = record { outline = s.outline; known = s.known; len_is = s.len_is; clear = s.clear; shallow = s.shallow; each = more_old (λ j e. item_path j) Has 1 items (mark ∷ []) s.each };
      many = h.many ∙ more_long (λ j e. item_path j) 1 items (mark ∷ []);
      named = λ n there. item_has Has items n there s.each;
    }

items_alone : ValuePasses → ItemsAlone
items_alone values tables texts at len b items keys small can few short are k known fresh shaped =
    weaker tables (ordered_items texts b items keys) k known (Exactly len (item_paths 1 items (mark ∷ []))) (λ name shapes. IsAlone shapes name len (length items)) (λ name shapes kept h. alone_is len items name shapes h)
    (items_exact values tables texts at len b items keys small can few short are k known fresh shaped)

pub all_items_pass : ItemsPass
all_items_pass values = (
  items_alone values,
  λ tables texts at len b items keys small can few short are k known fresh shaped.
      weaker tables (ordered_items texts b items keys) k known (λ name shapes. IsAlone shapes name len (length items)) (Shaped len (mark ∷ [])) (λ name shapes kept h. h.shape)
      (items_alone values tables texts at len b items keys small can few short are k known fresh shaped),
)

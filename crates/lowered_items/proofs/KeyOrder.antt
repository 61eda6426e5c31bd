-- Rows compare by the slots of their keys as their output rows do by the keys' values: each key has values of one kind, and known texts.
use Rattle.std.proofs.Common.{◌≡◌, ◌∙◌, ℕ, zero, suc, ◌<◌, Bool, true, false, List, [], ◌∷◌, map, length, refl, sym, ap, subst, slice_get, slice_index_or, IfOk, Option, Some, None, Result, Ok, Err}
use Rattle.std.specs.List.{All}
use Rattle.std.specs.Ordering.{is_lt, ordering_then}
use Rattle.std.proofs.lemmas.List.Elements.{All-nil, All-cons, All-head, All-tail}
use Rattle.control_vectors.specs.declared.Over.{Over}
use Rattle.sort_order.specs.Orders as slots
use Rattle.sql_values.specs.Values.{Value, null}
use Rattle.table_load.specs.Databases.{coded}
use Rattle.typed_trees.specs.declared.kinds.Kind.{Kind}
use Rattle.typed_trees.specs.declared.typed.KeyRef.{KeyRef}
use Rattle.typed_trees.specs.declared.typed.KeyRef.TheVariants.{Item, Column}
use Rattle.typed_trees.specs.declared.typed.OrderKey.{OrderKey}
use Rattle.typed_trees.specs.declared.typed.TypedExpr.{TypedExpr}
use Rattle.typed_trees.specs.Types.{DataType}
use Rattle.typed_values.specs.Values.{On, Valued, value}
use Rattle.value_laws.specs.Laws.{KindLaw, is_of}
use Rattle.query_answers.specs.Answers.{OutputRow, output_row, key_value, by_keys, comes_before}
use Rattle.query_answers.specs.Answers as answers
use Rattle.query_answers.specs.Clauses.{Clauses}
use Rattle.query_answers.specs.Overs.{each}
use Rattle.expr_steps.specs.Lowered.{Bytes}
use Rattle.expr_values.specs.Laws.{CanStand, KnownLaw, is_known, value_slot}
use Rattle.held_rows.specs.Laws.{rows_cmp, row_before}
use Rattle.plan_programs.specs.Sites.{Base}
use Rattle.lowered_stages.specs.Parts.{CanValue, CanValueAll, IsKeyOf, key_alike}
use Rattle.lowered_items.specs.Items.{CodesCompare}
use Rattle.lowered_kept.proofs.Bound.{bound}
use Rattle.lowered_items.proofs.InOrder.{item_slot, key_slot, row_key, stands_there}
use Rattle.lowered_items.proofs.Lists.{Pairs, Gave, each_pairs}

-- ---- lists

all_of : {X : Type 0} (P : X → Type 0) → ((x : X) → P x) → (xs : List X) → All P xs
all_of P f xs k d lt = f (slice_index_or xs k d)

all_two : {X : Type 0} (P Q R : X → Type 0) → ((x : X) → P x → Q x → R x) → (xs : List X) → All P xs → All Q xs → All R xs
all_two P Q R f xs h g k d lt = f (slice_index_or xs k d) (h k d lt) (g k d lt)

all_unmapped : {X Y : Type 0} (P : Y → Type 0) (f : X → Y) (xs : List X) → All P (map f xs) → All (λ x. P (f x)) xs
all_unmapped P f [] h = All-nil (λ x. P (f x))
all_unmapped P f (x ∷ xs) h = All-cons (λ x. P (f x)) x xs (All-head P (f x) (map f xs) h) (all_unmapped P f xs (All-tail P (f x) (map f xs) h))

all_at : {X : Type 0} (P : X → Type 0) (xs : List X) (n : ℕ) (x : X) → All P xs → slice_get xs n ≡ Some x → P x
all_at P [] n x h e = absurd cc
all_at P (y ∷ xs) zero x h e = let same : y ≡ x = let t : Some y ≡ Some x = e in cc in subst P same (All-head P y xs h)
all_at P (y ∷ xs) (suc n) x h e = all_at P xs n x (All-tail P y xs h) e

pairs_at : {X Y : Type 0} (R : X → Y → Type 0) (xs : List X) (ys : List Y) (n : ℕ) (x : X) (d : Y) → Pairs R xs ys → slice_get xs n ≡ Some x → R x (slice_index_or ys n d)
pairs_at R [] ys n x d p e = absurd cc
pairs_at R (z ∷ xs) [] n x d p e = absurd p
pairs_at R (z ∷ xs) (y ∷ ys) zero x d p e = let same : z ≡ x = let t : Some z ≡ Some x = e in cc in subst (λ (w : _). R w y) same p.0
pairs_at R (z ∷ xs) (y ∷ ys) (suc n) x d p e = pairs_at R xs ys n x d p.1 e

-- ---- output rows

module _ (q : Clauses) (on : On) (o : OutputRow) (made : output_row q on ≡ Ok o) where
  parts : (o.on ≡ on) × (each (value on) q.items ≡ Ok o.items)
  parts = by (each (value on) q.items) refl made
    where
      as_row : List Value → OutputRow
      as_row items = record { on = on; items = items }

      by : (r : Result (List Value) Over) → each (value on) q.items ≡ r → bound r (λ items. Ok (as_row items)) ≡ Ok o → (o.on ≡ on) × (each (value on) q.items ≡ Ok o.items)
      by (Err e) s h = absurd cc
      by (Ok items) s h =
          let same : as_row items ≡ o = let t : Ok (as_row items) ≡ Ok o = h in cc in
          (sym (ap (λ (r : OutputRow). r.on) same), s ∙ ap (λ (r : OutputRow). Ok r.items) same)

  pub on_is : o.on ≡ on
  on_is = parts.0

  -- the value of an item
  pub item_is : (n : ℕ) (e : TypedExpr) → slice_get q.items n ≡ Some e → value on e ≡ Ok (slice_index_or o.items n null)
  item_is n e h =
      let Any : TypedExpr → Type 0 = λ x. Unit {0} in
      (pairs_at (Gave (value on) Any) q.items o.items n e null (each_pairs (value on) Any q.items o.items (all_of Any (λ x. tt) q.items) parts.1) h).0

-- ---- keys

module _ {A : Type 0} (texts : List Bytes) (on : A → On) (q : Clauses) (b : Base) where
  slot_is : (r : KeyRef) (a : A) (o : OutputRow) → IsKeyOf (length q.items) b r → output_row q (on a) ≡ Ok o → key_slot texts on q.items r a ≡ coded texts (key_value r o)
  slot_is (Column c) a o is made = ap (λ (x : On). coded texts (x.column c)) (sym (on_is q (on a) o made))
  slot_is (Item n) a o there made = by (slice_get q.items n) refl
    where
      by : (x : Option TypedExpr) → slice_get q.items n ≡ x → item_slot texts on q.items x a ≡ coded texts (slice_index_or o.items n null)
      by None e = absurd (stands_there q.items n there e)
      by (Some x) e = ap (value_slot texts) (item_is q (on a) o made n x e)

  -- in each key a value of its kind, and a known text
  abbrev pub KeysCan : List OrderKey → List Kind → OutputRow → Type 0
  KeysCan [] kinds o = Unit {0}
  KeysCan (key ∷ ks) [] o = ⊥
  KeysCan (key ∷ ks) (kind ∷ kinds) o = ((is_of kind (key_value key.key o) ≡ true) × (is_known texts (key_value key.key o) ≡ true)) × KeysCan ks kinds o

  directed_is : CodesCompare → (kind : Kind) (descending : Bool) (v w : Value) → is_of kind v ≡ true → is_of kind w ≡ true → is_known texts v ≡ true → is_known texts w ≡ true
      → slots.directed descending (coded texts v) (coded texts w) ≡ answers.directed descending v w
  directed_is codes kind false v w iv iw kv kw = codes texts kind v w iv iw kv kw
  directed_is codes kind true v w iv iw kv kw = codes texts kind w v iw iv kw kv

  cmp_is : CodesCompare → (ks : List OrderKey) (kinds : List Kind) → All (λ key. IsKeyOf (length q.items) b key.key) ks → (a z : A) (o p : OutputRow)
      → output_row q (on a) ≡ Ok o → output_row q (on z) ≡ Ok p → KeysCan ks kinds o → KeysCan ks kinds p → rows_cmp (map (row_key texts on q.items) ks) a z ≡ by_keys ks o p
  cmp_is codes [] kinds are a z o p e f h g = refl
  cmp_is codes (key ∷ ks) [] are a z o p e f h g = absurd h
  cmp_is codes (key ∷ ks) (kind ∷ kinds) are a z o p e f h g =
      let is = All-head (λ (x : OrderKey). IsKeyOf (length q.items) b x.key) key ks are in
      let x = slot_is key.key a o is e in
      let y = slot_is key.key z p is f in
      let first = directed_is codes kind key.descending (key_value key.key o) (key_value key.key p) h.0.0 g.0.0 h.0.1 g.0.1 in
      let others = cmp_is codes ks kinds (All-tail (λ (x : OrderKey). IsKeyOf (length q.items) b x.key) key ks are) a z o p e f h.1 g.1 in
      (λ i. ordering_then (slots.directed key.descending (x i) (y i)) (others i)) ∙ (λ i. ordering_then (first i) (by_keys ks o p))

  pub before_is : CodesCompare → (ks : List OrderKey) (kinds : List Kind) → All (λ key. IsKeyOf (length q.items) b key.key) ks → (a z : A) (o p : OutputRow)
      → output_row q (on a) ≡ Ok o → output_row q (on z) ≡ Ok p → KeysCan ks kinds o → KeysCan ks kinds p → row_before (map (row_key texts on q.items) ks) a z ≡ comes_before ks o p
  before_is codes ks kinds are a z o p e f h g = ap is_lt (cmp_is codes ks kinds are a z o p e f h g)

  -- ---- the kind of a key

  abbrev Fine : Kind → KeyRef → A → Type 0
  Fine kind r a = (o : OutputRow) → output_row q (on a) ≡ Ok o → (is_of kind (key_value r o) ≡ true) × (is_known texts (key_value r o) ≡ true)

  record OfKind (rows : List A) (r : KeyRef) : Type 0 where
    kind : Kind
    each_is : All (Fine kind r) rows

  module _ (kinds : KindLaw) (knows : KnownLaw) (at : ℕ → Option DataType) (rows : List A) (can : All (CanValue at b) q.items) (stand : All (CanValueAll texts at on rows) q.items) where
    item_kind : (n : ℕ) → n < length q.items → OfKind rows (Item n)
    item_kind n there = by (slice_get q.items n) refl
      where
        by : (x : Option TypedExpr) → slice_get q.items n ≡ x → OfKind rows (Item n)
        by None e = absurd (stands_there q.items n there e)
        by (Some x) e =
            let low = (all_at (CanValue at b) q.items n x can e).lowerable in
            let standing : All (λ a. CanStand texts at (on a) x) rows = all_at (CanValueAll texts at on rows) q.items n x stand e in
            let one : (a : A) → CanStand texts at (on a) x → Fine low.type.kind (Item n) a = λ a s o made.
            let v = item_is q (on a) o made n x e in
            (subst (λ (r : Valued). IfOk r (λ w. is_of low.type.kind w ≡ true)) v (kinds at (on a) x low.type low.is s.types), subst (λ (r : Valued). IfOk r (λ w. is_known texts w ≡ true)) v (knows texts at (on a) x low s)) in
            record { kind = low.type.kind; each_is = all_two (λ a. CanStand texts at (on a) x) (λ a. Unit {0}) (Fine low.type.kind (Item n)) (λ a s u. one a s) rows standing (all_of (λ a. Unit {0}) (λ a. tt) rows) }

    key_kind : (r : KeyRef) → IsKeyOf (length q.items) b r → key_alike texts on rows r → OfKind rows r
    key_kind (Item n) there alike = item_kind n there
    key_kind (Column c) is alike =
        let of = all_unmapped (λ v. is_of alike.kind v ≡ true) (λ a. (on a).column c) rows alike.each_is in
        let known = all_unmapped (λ v. is_known texts v ≡ true) (λ a. (on a).column c) rows alike.known in
        record {
          kind = alike.kind;
          each_is =
              all_two (λ a. is_of alike.kind ((on a).column c) ≡ true) (λ a. is_known texts ((on a).column c) ≡ true) (Fine alike.kind (Column c))
              (λ a h g o made. let same = on_is q (on a) o made in (ap (λ (x : On). is_of alike.kind (x.column c)) same ∙ h, ap (λ (x : On). is_known texts (x.column c)) same ∙ g)) rows of known;
        }

    abbrev pub AllCan : List OrderKey → List Kind → A → Type 0
    AllCan ks kinds a = (o : OutputRow) → output_row q (on a) ≡ Ok o → KeysCan ks kinds o

    pub record OfKinds (ks : List OrderKey) : Type 0 where
      pub kinds_are : List Kind
      pub each_can : All (AllCan ks kinds_are) rows

    pub of_kinds : (ks : List OrderKey) → All (λ key. IsKeyOf (length q.items) b key.key) ks → All (λ key. key_alike texts on rows key.key) ks → OfKinds ks
    of_kinds [] are alike = record { kinds_are = []; each_can = all_of (AllCan [] []) (λ a o made. tt) rows }
    of_kinds (key ∷ ks) are alike =
        let first = key_kind key.key (All-head (λ (x : OrderKey). IsKeyOf (length q.items) b x.key) key ks are) (All-head (λ (x : OrderKey). key_alike texts on rows x.key) key ks alike) in
        let others = of_kinds ks (All-tail (λ (x : OrderKey). IsKeyOf (length q.items) b x.key) key ks are) (All-tail (λ (x : OrderKey). key_alike texts on rows x.key) key ks alike) in
        record {
          kinds_are = first.kind ∷ others.kinds_are;
          each_can = all_two (Fine first.kind key.key) (AllCan ks others.kinds_are) (AllCan (key ∷ ks) (first.kind ∷ others.kinds_are)) (λ a h g o made. (h o made, g o made)) rows first.each_is others.each_can;
        }

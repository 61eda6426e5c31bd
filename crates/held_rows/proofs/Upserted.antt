-- Attributes that are looked up in vectors that Range, Upsert and Gather make.
use Rattle.std.proofs.Common.{◌≡◌, ◌∙◌, ℕ, zero, suc, ◌+◌, ◌*◌, pos, Bool, true, false, cond, not, List, [], ◌∷◌, length, map, refl, sym, ap, arith, Option, Some, None}
use Rattle.std.specs.Prelude.{is_some, slice_index_or}
use Rattle.std.specs.List.{All, range_with_len}
use Rattle.std.specs.Map.{lookup}
use Rattle.std.specs.Option.{option_map, unwrap_or}
use Rattle.std.specs.Str.{bytes_eq}
use Rattle.std.proofs.lemmas.Bool.{false≢true}
use Rattle.std.proofs.lemmas.List.{length-map, nil_from_length}
use Rattle.std.proofs.lemmas.List.Elements.{All-nil, All-cons, All-head, All-tail}
use Rattle.std.proofs.lemmas.List.FromFn.{fill_by_all}
use Rattle.std.proofs.lemmas.Map.Entries.{lookup-filter-keys}
use Rattle.std.proofs.lemmas.Map.Made.{lookup-map_values}
use Rattle.std.proofs.lemmas.Slice.Eq.{bytes_eq-Decides}
use Rattle.control_vectors.specs.Slots.{Slot}
use Rattle.control_vectors.specs.Controls.{control_at, control_list}
use Rattle.key_paths.specs.Substructures.{is_at_or_below}
use Rattle.key_paths.proofs.Orders.{at_or_below_itself}
use Rattle.programs.specs.Mentions.{Label}
use Rattle.programs.specs.Merges.{entered, merged}
use Rattle.programs.specs.Vectors.{Attribute, Vector, slots_of}
use Rattle.voodoo_ops.specs.Attributes.{comes_before, beside, resized, upserted}
use Rattle.voodoo_ops.specs.Moves.{gather}
use Rattle.voodoo_ops.specs.Ranges.{ranged}
use Rattle.program_writers.specs.Statements.{ones}
use Rattle.slot_moves.specs.Moves.{gathered}
use Rattle.held_rows.specs.Held.{Held, at, column, one, Told, Holds}
use Rattle.held_rows.specs.Vectors.{IsBeside, IsOf}

pub same_path : (p : Label) → bytes_eq p p ≡ true
same_path p = (bytes_eq-Decides p p).1 refl

pub not_true : (b : Bool) → (b ≡ true → ⊥) → b ≡ false
not_true true h = absurd (h refl)
not_true false h = refl

-- an attribute that a vector begins with
pub first_slots : (p : Label) (xs : List Slot) (others : List Attribute) → slots_of ((p, xs) ∷ others) p ≡ xs
first_slots p xs others = ap (λ (b : Bool). unwrap_or (cond b (Some xs) (lookup (bytes_eq p) others)) []) (same_path p)

-- ---- Range

one_at : (i : ℕ) → control_at ones i ≡ pos 1
one_at i = let none : i * 0 ≡ 0 = omega arith in rw none refl

ones_are : {A : Type 0} (rows : List A) (a k : ℕ) → length rows ≡ k → map (λ x. Some x) (map (control_at ones) (range_with_len a k)) ≡ column one (map (λ x. Some x) rows)
ones_are [] a zero e = refl
ones_are [] a (suc k) e = absurd (omega (arith, e))
ones_are (x ∷ rows) a zero e = absurd (omega (arith, e))
ones_are (x ∷ rows) a (suc k) e =
    let first = one_at a in
    let others = ones_are rows (a + 1) k (omega (arith, e)) in
    λ t. Some (first t) ∷ others t

pub range_holds : {A : Type 0} (rows : List A) (p : Label) → Holds (ranged (length rows) p ones) (map (λ a. Some a) rows) ((p, one) ∷ [])
range_holds {A} rows p =
    let some : A → Option A = λ a. Some a in
    record {
      len = sym (length-map rows some);
      each =
          All-cons (λ (t : Told A). slots_of (ranged (length rows) p ones).attributes t.0 ≡ column t.1 (map some rows)) (p, one) []
          (first_slots p (map (λ x. Some x) (control_list ones (length rows))) [] ∙ ones_are rows 0 (length rows) refl)
          (All-nil (λ (t : Told A). slots_of (ranged (length rows) p ones).attributes t.0 ≡ column t.1 (map some rows)));
    }

-- ---- Upsert

module _ (test : Label → Bool) (x : Attribute) where
  found_entered : (ys : List Attribute) → test x.0 ≡ true → lookup test ys ≡ None → lookup test (entered comes_before x (merged comes_before []) ys) ≡ Some x.1
  found_entered [] t h = ap (λ (b : Bool). cond b (Some x.1) None) t
  found_entered (y ∷ ys) t h = by (comes_before y x) (test y.0) refl h (λ n. found_entered ys t n)
    where
      by : (c b : Bool) → test y.0 ≡ b → cond b (Some y.1) (lookup test ys) ≡ None
          → (lookup test ys ≡ None → lookup test (entered comes_before x (merged comes_before []) ys) ≡ Some x.1)
          → lookup test (cond c (y ∷ entered comes_before x (merged comes_before []) ys) (x ∷ y ∷ ys)) ≡ Some x.1
      by false b e n further = ap (λ (d : Bool). cond d (Some x.1) (lookup test (y ∷ ys))) t
      by true true e n further = absurd cc
      by true false e n further = ap (λ (d : Bool). cond d (Some y.1) (lookup test (entered comes_before x (merged comes_before []) ys))) e ∙ further n

  passed_entered : (ys : List Attribute) → test x.0 ≡ false → lookup test (entered comes_before x (merged comes_before []) ys) ≡ lookup test ys
  passed_entered [] t = ap (λ (b : Bool). cond b (Some x.1) None) t
  passed_entered (y ∷ ys) t = by (comes_before y x) (passed_entered ys t)
    where
      by : (c : Bool) → lookup test (entered comes_before x (merged comes_before []) ys) ≡ lookup test ys → lookup test (cond c (y ∷ entered comes_before x (merged comes_before []) ys) (x ∷ y ∷ ys)) ≡ lookup test (y ∷ ys)
      by false h = ap (λ (d : Bool). cond d (Some x.1) (lookup test (y ∷ ys))) t
      by true h = ap (λ (o : Option (List Slot)). cond (test y.0) (Some y.1) o) h

-- an attribute beside a path is found among those beside it, and the path itself is not
in_beside : (p m : Label) (attributes : List Attribute) → lookup (bytes_eq m) (beside p attributes) ≡ cond (not (is_at_or_below m p)) (lookup (bytes_eq m) attributes) None
in_beside p m attributes =
    lookup-filter-keys (bytes_eq m) (λ k. not (is_at_or_below k p)) (not (is_at_or_below m p))
    (λ k e. ap (λ (l : Label). not (is_at_or_below l p)) (sym ((bytes_eq-Decides m k).0 e))) attributes

pub upserted_here : (p : Label) (xs : List Slot) (attributes : List Attribute) → slots_of (merged comes_before ((p, xs) ∷ []) (beside p attributes)) p ≡ xs
upserted_here p xs attributes =
    ap (λ (o : Option (List Slot)). unwrap_or o [])
    (found_entered (bytes_eq p) (p, xs) (beside p attributes) (same_path p)
    (in_beside p p attributes ∙ ap (λ (b : Bool). cond (not b) (lookup (bytes_eq p) attributes) None) (at_or_below_itself p)))

pub upserted_there : (p m : Label) (xs : List Slot) (attributes : List Attribute) → is_at_or_below m p ≡ false → slots_of (merged comes_before ((p, xs) ∷ []) (beside p attributes)) m ≡ slots_of attributes m
upserted_there p m xs attributes h =
    let other : bytes_eq m p ≡ false = not_true (bytes_eq m p) (λ e. false≢true (sym h ∙ ap (λ (l : Label). is_at_or_below l p) ((bytes_eq-Decides m p).0 e) ∙ at_or_below_itself p)) in
    ap (λ (o : Option (List Slot)). unwrap_or o [])
    (passed_entered (bytes_eq m) (p, xs) (beside p attributes) other
    ∙ in_beside p m attributes ∙ ap (λ (b : Bool). cond (not b) (lookup (bytes_eq m) attributes) None) h)

-- as many slots as there are
pub resized_same : (xs : List Slot) (n : ℕ) → length xs ≡ n → resized n xs ≡ xs
resized_same xs n e = sym (fill_by_all (λ i. slice_index_or xs i None) xs n None e (λ i h. refl))

module _ {A : Type 0} (a b : Vector) (p q : Label) (held : Held A) (f : A → Slot) where
  abbrev Tells : Told A → Type 0
  Tells t = slots_of (upserted a p b q).attributes t.0 ≡ column t.1 held

  others_stay : (attributes : List (Told A)) → All (λ t. slots_of a.attributes t.0 ≡ column t.1 held) attributes → All (IsBeside p) attributes → All Tells attributes
  others_stay [] h g = All-nil Tells
  others_stay (t ∷ attributes) h g =
      All-cons Tells t attributes
      (upserted_there p t.0 (resized a.len (slots_of b.attributes q)) a.attributes (All-head (IsBeside p) t attributes g) ∙ All-head (λ u. slots_of a.attributes u.0 ≡ column u.1 held) t attributes h)
      (others_stay attributes (All-tail (λ u. slots_of a.attributes u.0 ≡ column u.1 held) t attributes h) (All-tail (IsBeside p) t attributes g))

  pub upsert_holds : (attributes : List (Told A)) → Holds a held attributes → slots_of b.attributes q ≡ column f held → All (IsBeside p) attributes → Holds (upserted a p b q) held ((p, f) ∷ attributes)
  upsert_holds attributes h e g =
      let many : length (column f held) ≡ a.len = length-map held (at f) ∙ sym h.len in
      record {
        len = h.len;
        each =
            All-cons Tells (p, f) attributes
            (upserted_here p (resized a.len (slots_of b.attributes q)) a.attributes ∙ ap (resized a.len) e ∙ resized_same (column f held) a.len many)
            (others_stay attributes h.each g);
      }

-- ---- Gather

gathered_slots : (m : Label) (places : List Slot) (attributes : List Attribute) → slots_of (map (λ t. (t.0, gathered t.1 places)) attributes) m ≡ unwrap_or (option_map (λ xs. gathered xs places) (lookup (bytes_eq m) attributes)) []
gathered_slots m places attributes = ap (λ (o : Option (List Slot)). unwrap_or o []) (lookup-map_values (λ xs. gathered xs places) (bytes_eq m) attributes)

module _ {A : Type 0} (a b : Vector) (pos : Label) (held kept : Held A) where
  abbrev places : List Slot
  places = slots_of b.attributes pos

  abbrev Moves : Told A → Type 0
  Moves t = slots_of (gather a b pos).attributes t.0 ≡ column t.1 kept

  -- an attribute that is there moves, and one that is not has no places to move to
  one_moves : (f : A → Slot) (o : Option (List Slot)) → (is_some o ≡ false → length kept ≡ length held) → unwrap_or o [] ≡ column f held → gathered (column f held) places ≡ column f kept
      → unwrap_or (option_map (λ xs. gathered xs places) o) [] ≡ column f kept
  one_moves f (Some xs) many e h = ap (λ (l : List Slot). gathered l places) e ∙ h
  one_moves f None many e h =
      let none : 0 ≡ length (column f held) = ap (λ (l : List Slot). length l) e in
      let same : length (column f held) ≡ length held = length-map held (at f) in
      let empty : kept ≡ [] = nil_from_length kept (many refl ∙ sym same ∙ sym none) in
      sym (ap (column f) empty)

  all_move : (attributes : List (Told A)) → All (λ t. slots_of a.attributes t.0 ≡ column t.1 held) attributes → All (λ t. is_some (lookup (bytes_eq t.0) a.attributes) ≡ false → length kept ≡ length held) attributes
      → ((f : A → Slot) → gathered (column f held) places ≡ column f kept) → All Moves attributes
  all_move [] h g m = All-nil Moves
  all_move (t ∷ attributes) h g m =
      All-cons Moves t attributes
      (gathered_slots t.0 places a.attributes
      ∙ one_moves t.1 (lookup (bytes_eq t.0) a.attributes) (All-head (λ u. is_some (lookup (bytes_eq u.0) a.attributes) ≡ false → length kept ≡ length held) t attributes g) (All-head (λ u. slots_of a.attributes u.0 ≡ column u.1 held) t attributes h) (m t.1))
      (all_move attributes (All-tail (λ u. slots_of a.attributes u.0 ≡ column u.1 held) t attributes h) (All-tail (λ u. is_some (lookup (bytes_eq u.0) a.attributes) ≡ false → length kept ≡ length held) t attributes g) m)

  as_many : length kept ≡ length held → (attributes : List (Told A)) → All (λ t. is_some (lookup (bytes_eq t.0) a.attributes) ≡ false → length kept ≡ length held) attributes
  as_many e [] = All-nil (λ t. is_some (lookup (bytes_eq t.0) a.attributes) ≡ false → length kept ≡ length held)
  as_many e (t ∷ attributes) = All-cons (λ u. is_some (lookup (bytes_eq u.0) a.attributes) ≡ false → length kept ≡ length held) t attributes (λ n. e) (as_many e attributes)

  all_there : (attributes : List (Told A)) → All (IsOf a) attributes → All (λ t. is_some (lookup (bytes_eq t.0) a.attributes) ≡ false → length kept ≡ length held) attributes
  all_there [] h = All-nil (λ t. is_some (lookup (bytes_eq t.0) a.attributes) ≡ false → length kept ≡ length held)
  all_there (t ∷ attributes) h =
      All-cons (λ u. is_some (lookup (bytes_eq u.0) a.attributes) ≡ false → length kept ≡ length held) t attributes
      (λ n. absurd (false≢true (sym n ∙ All-head (IsOf a) t attributes h))) (all_there attributes (All-tail (IsOf a) t attributes h))

  pub gather_holds : (attributes : List (Told A)) → Holds a held attributes → b.len ≡ length kept → length kept ≡ length held → ((f : A → Slot) → gathered (column f held) places ≡ column f kept) → Holds (gather a b pos) kept attributes
  gather_holds attributes h len many m = record { len = len; each = all_move attributes h.each (as_many many attributes) m }

  pub gather_any_holds : (attributes : List (Told A)) → Holds a held attributes → All (IsOf a) attributes → b.len ≡ length kept → ((f : A → Slot) → gathered (column f held) places ≡ column f kept) → Holds (gather a b pos) kept attributes
  gather_any_holds attributes h there len m = record { len = len; each = all_move attributes h.each (all_there attributes there) m }

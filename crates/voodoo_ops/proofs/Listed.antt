-- Attributes that are listed one by one.
use Rattle.std.proofs.Common.{◌≡◌, ℕ, ◌+◌, ◌<◌, ◌≤◌, Bool, true, false, ◌||◌, not, cond, if◌then◌else◌, None, List, [], ◌∷◌, ◌++◌, map, filter, take, length, get_or, refl, sym, ap, ◌∙◌, arith, append_assoc}
use Rattle.std.specs.Prelude.{All}
use Rattle.std.specs.List.{list_any}
use Rattle.std.proofs.lemmas.List.{take_more, map-append, length-take, get_or-take}
use Rattle.std.proofs.lemmas.List.FromFn.{fill_by_all, length-map-range_with_len, map-range_with_len_more}
use Rattle.std.proofs.lemmas.List.Elements.{filter_more, All-nil, All-cons, All-head, All-tail}
use Rattle.key_paths.specs.Paths.{IsPath}
use Rattle.key_paths.specs.Substructures.{is_at_or_below}
use Rattle.control_vectors.specs.Slots.{Slot}
use Rattle.struct_vectors.specs.Columns.{ColumnValue}
use Rattle.struct_vectors.specs.Vectors.{paths_of}
use Rattle.slot_moves.specs.Moves.{gathered}
use Rattle.programs.specs.Mentions.{Label}
use Rattle.programs.specs.Vectors.{Attribute, seen_attributes}
use Rattle.programs.specs.Moves.{moved, is_deep}
use Rattle.voodoo_ops.specs.Attributes.{below, beside, resized}
use Rattle.voodoo_ops.specs.Columns.{Attributes, fronts, front_column, moved_columns, others_of}
use Rattle.voodoo_ops.specs.Handing.{is_on, on_side, under}
use Rattle.voodoo_ops.specs.declared.attributes.Side.{Side}
use Rattle.voodoo_ops.specs.Moves.{moved_to}

append_none : (xs : Attributes) → xs ≡ xs ++ []
append_none [] = refl
append_none (x ∷ xs) = ap (λ (l : Attributes). x ∷ l) (append_none xs)

-- ---- one more attribute of a list
take_next : (xs : Attributes) (k : ℕ) (t : Label × ColumnValue) → k < length xs → t ≡ get_or xs k t → take (k + 1) xs ≡ take k xs ++ t ∷ []
take_next xs k t h at = take_more xs k t h ∙ ap (λ (u : Label × ColumnValue). take k xs ++ u ∷ []) (sym at)

-- at some places
pub gathered_more : (places : List Slot) (xs : Attributes) (k : ℕ) (t : Label × ColumnValue) (old now : List Attribute) → k < length xs → t ≡ get_or xs k t → now ≡ old ++ moved_to places ((t.0, t.1.slots) ∷ []) → old ≡ moved_to places (seen_attributes (take k xs)) → now ≡ moved_to places (seen_attributes (take (k + 1) xs))
gathered_more places xs k t old now h at m e =
    m ∙ ap (λ (l : List Attribute). l ++ moved_to places ((t.0, t.1.slots) ∷ [])) e
    ∙ sym (map-append (λ (u : Attribute). (u.0, gathered u.1 places)) (seen_attributes (take k xs)) ((t.0, t.1.slots) ∷ []))
    ∙ ap (moved_to places) (sym (ap seen_attributes (take_next xs k t h at) ∙ map-append (λ (a : Label × ColumnValue). (a.0, a.1.slots)) (take k xs) (t ∷ [])))

-- its first slots
pub fronts_more : (n : ℕ) (xs : Attributes) (k : ℕ) (t : Label × ColumnValue) (old now : Attributes) → k < length xs → t ≡ get_or xs k t → now ≡ old ++ (t.0, front_column n t.1) ∷ [] → old ≡ fronts n (take k xs) → now ≡ fronts n (take (k + 1) xs)
fronts_more n xs k t old now h at m e =
    m ∙ ap (λ (l : Attributes). l ++ (t.0, front_column n t.1) ∷ []) e
    ∙ sym (ap (fronts n) (take_next xs k t h at) ∙ map-append (λ (u : Label × ColumnValue). (u.0, front_column n u.1)) (take k xs) (t ∷ []))

-- on one side of a path
abbrev if_on : Side → Label → Label × ColumnValue → Attributes
if_on side p t = cond (is_on side t.0 p) (t ∷ []) []

chosen_next : (side : Side) (p : Label) (xs : Attributes) (k : ℕ) (t : Label × ColumnValue) → k < length xs → t ≡ get_or xs k t → on_side side p (take (k + 1) xs) ≡ on_side side p (take k xs) ++ if_on side p t
chosen_next side p xs k t h at = filter_more (λ (u : Label × ColumnValue). is_on side u.0 p) xs k t h ∙ ap (λ (u : Label × ColumnValue). on_side side p (take k xs) ++ if_on side p u) (sym at)

pub copies_more : (side : Side) (p : Label) (xs : Attributes) (k : ℕ) (t : Label × ColumnValue) (old now : Attributes) → k < length xs → t ≡ get_or xs k t → is_on side t.0 p ≡ true → now ≡ old ++ t ∷ [] → old ≡ on_side side p (take k xs) → now ≡ on_side side p (take (k + 1) xs)
copies_more side p xs k t old now h at on m e =
    m ∙ ap (λ (l : Attributes). l ++ t ∷ []) e
    ∙ ap (λ (b : Bool). on_side side p (take k xs) ++ cond b (t ∷ []) []) (sym on)
    ∙ sym (chosen_next side p xs k t h at)

pub copies_same : (side : Side) (p : Label) (xs : Attributes) (k : ℕ) (t : Label × ColumnValue) (old : Attributes) → k < length xs → t ≡ get_or xs k t → is_on side t.0 p ≡ false → old ≡ on_side side p (take k xs) → old ≡ on_side side p (take (k + 1) xs)
copies_same side p xs k t old h at off e =
    e ∙ append_none (on_side side p (take k xs))
    ∙ ap (λ (b : Bool). on_side side p (take k xs) ++ cond b (t ∷ []) []) (sym off)
    ∙ sym (chosen_next side p xs k t h at)

abbrev kept : Label → Attributes → Attributes
kept p attributes = filter (λ t. is_at_or_below t.0 p) attributes

-- ---- attributes that are moved one by one
or_first : (a b : Bool) → (a || b) ≡ false → a ≡ false
or_first true b e = absurd cc
or_first false b e = refl

or_second : (a b : Bool) → (a || b) ≡ false → b ≡ false
or_second true b e = absurd cc
or_second false b e = e

-- ---- the first slots
pub resized_take : (n : ℕ) (xs : List Slot) → n ≤ length xs → take n xs ≡ resized n xs
resized_take n xs h = fill_by_all (λ i. get_or xs i None) (take n xs) n None (omega (arith, length-take n xs)) (λ k l. get_or-take n xs k None l)

pub paths_pushed : (old now : Attributes) (p : Label) (c : ColumnValue) → now ≡ old ++ (p, c) ∷ [] → IsPath p → All IsPath (paths_of old) → All IsPath (paths_of now)
paths_pushed old now p c e h each = rw e (pushed old each)
  where
    pushed : (l : Attributes) → All IsPath (paths_of l) → All IsPath (paths_of (l ++ (p, c) ∷ []))
    pushed [] k = All-cons IsPath p [] h (All-nil IsPath)
    pushed (a ∷ l) k = All-cons IsPath a.0 (paths_of (l ++ (p, c) ∷ [])) (All-head IsPath a.0 (paths_of l) k) (pushed l (All-tail IsPath a.0 (paths_of l) k))

-- those that were moved, and those that are left
pub record Moving (p q : Label) (whole now left : Attributes) : Type 0 where
  pub so_far : now ++ map (under p q) left ≡ map (under p q) whole
  pub each : All (λ t. is_at_or_below t.0 p ≡ true) left
  pub shallow : list_any is_deep (paths_of (map (under p q) left)) ≡ false
  pub paths : All IsPath (paths_of now)
  pub ends : 0 < length now → IsPath p × IsPath q

pub moving_start : (p q : Label) (whole now left : Attributes) → now ≡ [] → left ≡ whole → All (λ t. is_at_or_below t.0 p ≡ true) whole → list_any is_deep (paths_of (map (under p q) whole)) ≡ false → Moving p q whole now left
moving_start p q whole now left e f below shallow = rw (e, f) (record {
  so_far = refl;
  each = below;
  shallow = shallow;
  paths = All-nil IsPath;
  ends = λ h. absurd (omega arith);
})

pub moving_below : (p q : Label) (whole now left rest : Attributes) (x : Label) (c : ColumnValue) → left ≡ (x, c) ∷ rest → Moving p q whole now left → is_at_or_below x p ≡ true
moving_below p q whole now left rest x c e m = All-head (λ t. is_at_or_below t.0 p ≡ true) (x, c) rest (rw e at m.each)

pub moving_shallow : (p q : Label) (whole now left rest : Attributes) (x : Label) (c : ColumnValue) → left ≡ (x, c) ∷ rest → Moving p q whole now left → is_deep (moved p q x) ≡ false
moving_shallow p q whole now left rest x c e m = or_first (is_deep (moved p q x)) (list_any is_deep (paths_of (map (under p q) rest))) (rw e at m.shallow)

pub moving_on : (p q : Label) (whole now more left rest : Attributes) (x : Label) (c : ColumnValue) → left ≡ (x, c) ∷ rest → more ≡ now ++ (moved p q x, c) ∷ [] → IsPath (moved p q x) → IsPath p → IsPath q → Moving p q whole now left → Moving p q whole more rest
moving_on p q whole now more left rest x c e m hx hp hq g = record {
  so_far = ap (λ (l : Attributes). l ++ map (under p q) rest) m ∙ append_assoc now ((moved p q x, c) ∷ []) (map (under p q) rest) ∙ ap (λ (l : Attributes). now ++ map (under p q) l) (sym e) ∙ g.so_far;
  each = All-tail (λ t. is_at_or_below t.0 p ≡ true) (x, c) rest (rw e at g.each);
  shallow = or_second (is_deep (moved p q x)) (list_any is_deep (paths_of (map (under p q) rest))) (rw e at g.shallow);
  paths = paths_pushed now more (moved p q x) c m hx g.paths;
  ends = λ h. (hp, hq);
}

append_empty : (xs : Attributes) → xs ++ [] ≡ xs
append_empty [] = refl
append_empty (x ∷ xs) = ap (λ (l : Attributes). x ∷ l) (append_empty xs)

pub moving_end : (p q : Label) (whole now left : Attributes) → left ≡ [] → Moving p q whole now left → now ≡ map (under p q) whole
moving_end p q whole now left e g = sym (append_empty now) ∙ ap (λ (l : Attributes). now ++ map (under p q) l) (sym e) ∙ g.so_far

-- ---- what is seen of them
pub seen_moved : (p q : Label) (attributes : Attributes) → seen_attributes (moved_columns p q attributes) ≡ map (λ t. (moved p q t.0, t.1)) (below p (seen_attributes attributes))
seen_moved p q [] = refl
seen_moved p q (a ∷ attributes) = by (is_at_or_below a.0 p) (seen_moved p q attributes)
  where
    by : (b : Bool) → seen_attributes (moved_columns p q attributes) ≡ map (λ t. (moved p q t.0, t.1)) (below p (seen_attributes attributes)) → seen_attributes (map (under p q) (if b then a ∷ kept p attributes else kept p attributes)) ≡ map (λ t. (moved p q t.0, t.1)) (if b then (a.0, a.1.slots) ∷ below p (seen_attributes attributes) else below p (seen_attributes attributes))
    by true e = ap (λ (l : List Attribute). (moved p q a.0, a.1.slots) ∷ l) e
    by false e = e

pub seen_others : (p : Label) (attributes : Attributes) → seen_attributes (others_of p attributes) ≡ beside p (seen_attributes attributes)
seen_others p [] = refl
seen_others p (a ∷ attributes) = by (not (is_at_or_below a.0 p)) (seen_others p attributes)
  where
    by : (b : Bool) → seen_attributes (others_of p attributes) ≡ beside p (seen_attributes attributes) → seen_attributes (if b then a ∷ others_of p attributes else others_of p attributes) ≡ (if b then (a.0, a.1.slots) ∷ beside p (seen_attributes attributes) else beside p (seen_attributes attributes))
    by true e = ap (λ (l : List Attribute). (a.0, a.1.slots) ∷ l) e
    by false e = e

pub length-resized : (n : ℕ) (xs : List Slot) → length (resized n xs) ≡ n
length-resized n xs = length-map-range_with_len (λ i. get_or xs i None) 0 n

pub resized_more : (i : ℕ) (xs : List Slot) → resized (i + 1) xs ≡ resized i xs ++ get_or xs i None ∷ []
resized_more i xs = map-range_with_len_more (λ k. get_or xs k None) 0 i i (omega arith)

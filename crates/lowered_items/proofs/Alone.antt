-- Exactly which paths a vector has, where attributes are added one by one to one that stands alone.
use Rattle.std.proofs.Common.{◌≡◌, ◌∙◌, ℕ, suc, ◌≤◌, ◌^◌, Bool, true, false, cond, not, ◌||◌, List, [], ◌∷◌, length, refl, sym, ap, subst, Option, Some}
use Rattle.std.specs.List.{All}
use Rattle.std.specs.Option.{option_map}
use Rattle.std.specs.Str.{bytes_eq}
use Rattle.std.proofs.lemmas.List.{length-map}
use Rattle.std.proofs.lemmas.List.Elements.{All-nil, All-cons, All-head, All-tail}
use Rattle.std.proofs.lemmas.Slice.Eq.{bytes_eq-Decides}
use Rattle.key_paths.specs.Substructures.{is_at_or_below, is_before}
use Rattle.programs.specs.Check.{Known}
use Rattle.programs.specs.Mentions.{Label, has_name}
use Rattle.programs.specs.Merges.{entered, merged}
use Rattle.programs.specs.Moves.{others, upserted}
use Rattle.programs.specs.Outlines.{Outline, outlined, Shapes, outlines, outline_of}
use Rattle.programs.specs.Vectors.{Vector}
use Rattle.program_writers.specs.Names.{IsBelow, is_word}
use Rattle.program_writers.specs.Statements.{out, with_attribute, at_places}
use Rattle.program_writers.specs.Writers.{make, numbered}
use Rattle.writer_checks.specs.Checks.{IsFresh, HasShape, Passes}
use Rattle.writer_checks.specs.Laws.{IsAttribute, NoneAbove}
use Rattle.writer_checks.proofs.Attributes.{upserted_names}
use Rattle.writer_checks.proofs.Changes.{upsert_fine}
use Rattle.writer_checks.proofs.Going.{known_below}
use Rattle.writer_checks.proofs.Making.{made_passes, add_shape-same}
use Rattle.writer_checks.proofs.Operators.{gather_fine}
use Rattle.lowered_items.specs.Items.{HoldLaw}

-- a vector of this length with these paths, and no other
pub record Exactly (len : ℕ) (paths : List Label) (name : Label) (shapes : Shapes) : Type 0 where
  pub shape : HasShape shapes name len paths
  pub many : length shape.outline.paths ≡ length paths
  pub among : All (λ p. has_name paths p ≡ true) shape.outline.paths

pub still_exactly : (k : ℕ) (before after : Shapes) (name : Label) (len : ℕ) (paths : List Label) → IsFresh k before → ((n : Label) → IsBelow k n → after n ≡ before n) → Exactly len paths name before → Exactly len paths name after
still_exactly k before after name len paths fresh kept h =
    let s = h.shape in
    record {
      shape = record { outline = s.outline; known = kept name (known_below k before name len paths fresh s) ∙ s.known; len_is = s.len_is; clear = s.clear; shallow = s.shallow; each = s.each };
      many = h.many;
      among = h.among;
    }

-- ---- one path more

module _ (x : Label) where
  entered_many : (ys : List Label) → length (entered is_before x (merged is_before []) ys) ≡ suc (length ys)
  entered_many [] = refl
  entered_many (y ∷ ys) = by (is_before y x) (entered_many ys)
    where
      by : (c : Bool) → length (entered is_before x (merged is_before []) ys) ≡ suc (length ys)
          → length (cond c (y ∷ entered is_before x (merged is_before []) ys) (x ∷ y ∷ ys)) ≡ suc (suc (length ys))
      by true h = ap suc h
      by false h = refl

  entered_each : (P : Label → Type 0) (ys : List Label) → P x → All P ys → All P (entered is_before x (merged is_before []) ys)
  entered_each P [] p h = All-cons P x [] p h
  entered_each P (y ∷ ys) p h = by (is_before y x) (entered_each P ys p (All-tail P y ys h))
    where
      by : (c : Bool) → All P (entered is_before x (merged is_before []) ys) → All P (cond c (y ∷ entered is_before x (merged is_before []) ys) (x ∷ y ∷ ys))
      by true g = All-cons P y (entered is_before x (merged is_before []) ys) (All-head P y ys h) g
      by false g = All-cons P x (y ∷ ys) p h

-- those that are not at or below a path are all of them
all_others : (p : Label) (paths : List Label) → All (λ r. is_at_or_below r p ≡ false) paths → others p paths ≡ paths
all_others p [] h = refl
all_others p (r ∷ paths) h =
    ap (λ (b : Bool). cond (not b) (r ∷ others p paths) (others p paths)) (All-head (λ (u : Label). is_at_or_below u p ≡ false) r paths h)
    ∙ ap (λ (l : List Label). r ∷ l) (all_others p paths (All-tail (λ (u : Label). is_at_or_below u p ≡ false) r paths h))

-- what is so of some paths is so of one of them
among_all : (P : Label → Type 0) (names : List Label) (n : Label) → All P names → has_name names n ≡ true → P n
among_all P [] n h e = absurd cc
among_all P (p ∷ names) n h e = by (bytes_eq p n) refl (λ g. among_all P names n (All-tail P p names h) g) e
  where
    by : (c : Bool) → bytes_eq p n ≡ c → (has_name names n ≡ true → P n) → (c || has_name names n) ≡ true → P n
    by true s rest g = subst P ((bytes_eq-Decides p n).0 s) (All-head P p names h)
    by false s rest g = rest g

pub all_more : {X : Type 0} (P Q : X → Type 0) → ((x : X) → P x → Q x) → (xs : List X) → All P xs → All Q xs
all_more P Q f [] h = All-nil Q
all_more P Q f (x ∷ xs) h = All-cons Q x xs (f x (All-head P x xs h)) (all_more P Q f xs (All-tail P x xs h))

pub or_right : (a b : Bool) → b ≡ true → (a || b) ≡ true
or_right true b e = refl
or_right false b e = e

pub exact_upsert : (tables : Shapes) (word a p b q : Label) (len : ℕ) (paths : List Label) (other : ℕ) (k : ℕ) (known : Known) → is_word word ≡ true → IsFresh k known.vectors → IsAttribute p → len ≤ 2 ^ 22
    → Exactly len paths a known.vectors → HasShape known.vectors b other (q ∷ []) → NoneAbove known.vectors a p → All (λ r. is_at_or_below r p ≡ false) paths
    → Passes tables (make word (with_attribute a p b q)) k known (Exactly len (p ∷ paths))
exact_upsert tables word a p b q len paths other k known w fresh at small h g above off =
    let old = h.shape.outline.paths in
    let o = outlined len (upserted p old) in
    let fine = upsert_fine tables known.vectors a p b q len paths other at h.shape g above in
    let Named : Label → Type 0 = λ r. has_name (p ∷ paths) r ≡ true in
    let same = all_others p old (all_more (λ r. has_name paths r ≡ true) (λ r. is_at_or_below r p ≡ false) (λ r e. among_all (λ u. is_at_or_below u p ≡ false) paths r off e) old h.among) in
    made_passes tables word (with_attribute a p b q) o k known (Exactly len (p ∷ paths)) w fresh fine small
    (record {
      shape = record { outline = o; known = add_shape-same known.vectors (numbered word k) o; len_is = refl; clear = fine.clear; shallow = fine.shallow; each = upserted_names p old paths h.shape.each off };
      many = ap (λ (l : List Label). length (merged is_before (p ∷ []) l)) same ∙ entered_many p old ∙ ap suc h.many;
      among =
          subst (λ (l : List Label). All Named (merged is_before (p ∷ []) l)) (sym same)
          (entered_each p Named old (ap (λ (c : Bool). c || has_name paths p) ((bytes_eq-Decides p p).1 refl))
          (all_more (λ r. has_name paths r ≡ true) Named (λ r e. or_right (bytes_eq p r) (has_name paths r) e) old h.among));
    })

-- ---- the same paths at other places

pub exact_gather : (tables : Shapes) (word a b : Label) (len other : ℕ) (paths : List Label) (k : ℕ) (known : Known) → is_word word ≡ true → IsFresh k known.vectors → len ≤ 2 ^ 22
    → Exactly other paths a known.vectors → HasShape known.vectors b len (out ∷ []) → Passes tables (make word (at_places a b)) k known (Exactly len paths)
exact_gather tables word a b len other paths k known w fresh small h g =
    let o = outlined len h.shape.outline.paths in
    let fine = gather_fine tables known.vectors a b out len other paths h.shape g in
    made_passes tables word (at_places a b) o k known (Exactly len paths) w fresh fine small
    (record {
      shape = record { outline = o; known = add_shape-same known.vectors (numbered word k) o; len_is = refl; clear = fine.clear; shallow = fine.shallow; each = h.shape.each };
      many = h.many;
      among = h.among;
    })

-- ---- what a run made

pub hold_law : HoldLaw
hold_law texts items rows v env shapes name len shown sees same h =
    let seen : outlines env name ≡ Some (outline_of v) = ap (λ (o : Option Vector). option_map outline_of o) sees in
    let both : Some h.shape.outline ≡ Some (outline_of v) = sym h.shape.known ∙ sym same ∙ seen in
    let is : h.shape.outline ≡ outline_of v = cc in
    record {
      fit = shown.fit;
      holds = shown.holds;
      alone = sym (length-map v.attributes (λ t. t.0)) ∙ sym (ap (λ (o : Outline). length o.paths) is) ∙ h.many;
    }

-- The runs of a vector stay where an attribute beside them is added.
use Rattle.std.proofs.Common.{◌≡◌, ◌∙◌, ℕ, Bool, true, false, cond, not, ◌&&◌, List, [], ◌∷◌, drop, length, map, filter, refl, sym, ap, subst, arith, nat_eq}
use Rattle.std.specs.List.{starts_with}
use Rattle.std.proofs.lemmas.Bool.{and_parts, false≢true}
use Rattle.std.proofs.lemmas.Bool.Decides.{nat_tests}
use Rattle.control_vectors.specs.Runs as tuples
use Rattle.control_vectors.specs.Runs.{side_by_side}
use Rattle.key_paths.specs.Substructures.{begins_segment_or_ends, is_at_or_below}
use Rattle.programs.specs.Mentions.{Label}
use Rattle.programs.specs.Merges.{entered, merged}
use Rattle.programs.specs.Vectors.{Attribute, Vector, slots_of}
use Rattle.voodoo_ops.specs.Attributes.{comes_before, below, beside, resized, upserted}
use Rattle.voodoo_ops.specs.Runs.{run_marks}
use Rattle.program_writers.specs.Statements.{val, run}

same_byte : (x y : ℕ) → nat_eq x y ≡ true → x ≡ y
same_byte x y h = grind (arith, nat_tests)

-- a path whose first bytes are those of another
abbrev goes_below : Label → Label → Bool
goes_below p q = starts_with nat_eq p q && begins_segment_or_ends (drop (length q) p)

head_is : (x y : ℕ) (p q : Label) → goes_below (x ∷ p) (y ∷ q) ≡ true → (y ≡ x) × (goes_below p q ≡ true)
head_is x y p q h =
    let a = and_parts (nat_eq y x && starts_with nat_eq p q) (begins_segment_or_ends (drop (length q) p)) h in
    let b = and_parts (nat_eq y x) (starts_with nat_eq p q) a.0 in
    (same_byte y x b.0, ap (λ (t : Bool). t && begins_segment_or_ends (drop (length q) p)) b.1 ∙ a.1)

pub run_or_value : (p : Label) → is_at_or_below p run ≡ true → is_at_or_below p val ≡ false
run_or_value [] h = absurd (false≢true h)
run_or_value (x ∷ []) h = absurd (false≢true (head_is x 46 [] (114 ∷ 117 ∷ 110 ∷ []) h).1)
run_or_value (x ∷ y ∷ p) h =
    let first = head_is x 46 (y ∷ p) (114 ∷ 117 ∷ 110 ∷ []) h in
    let second = head_is y 114 p (117 ∷ 110 ∷ []) first.1 in
    subst (λ (z : ℕ). is_at_or_below (z ∷ y ∷ p) val ≡ false) first.0 (subst (λ (z : ℕ). is_at_or_below (46 ∷ z ∷ p) val ≡ false) second.0 refl)

module _ (test : Attribute → Bool) where
  -- an attribute that does not pass is none of those that do
  passed_over : (x : Attribute) (ys : List Attribute) → test x ≡ false → filter test (entered comes_before x (merged comes_before []) ys) ≡ filter test ys
  passed_over x [] e = ap (λ (b : Bool). cond b (x ∷ []) []) e
  passed_over x (y ∷ ys) e = by (comes_before y x) (passed_over x ys e)
    where
      by : (c : Bool) → filter test (entered comes_before x (merged comes_before []) ys) ≡ filter test ys → filter test (cond c (y ∷ entered comes_before x (merged comes_before []) ys) (x ∷ y ∷ ys)) ≡ filter test (y ∷ ys)
      by true h = ap (λ (l : List Attribute). cond (test y) (y ∷ l) l) h
      by false h = ap (λ (b : Bool). cond b (x ∷ filter test (y ∷ ys)) (filter test (y ∷ ys))) e

  twice : (other : Attribute → Bool) → ((t : Attribute) → test t ≡ true → other t ≡ true) → (ys : List Attribute) → filter test (filter other ys) ≡ filter test ys
  twice other f [] = refl
  twice other f (y ∷ ys) = by (test y) (other y) refl refl (twice other f ys)
    where
      by : (b c : Bool) → test y ≡ b → other y ≡ c → filter test (filter other ys) ≡ filter test ys → filter test (cond (other y) (y ∷ filter other ys) (filter other ys)) ≡ filter test (y ∷ ys)
      by b true e o h = ap (λ (t : Bool). filter test (cond t (y ∷ filter other ys) (filter other ys))) o ∙ ap (λ (l : List Attribute). cond (test y) (y ∷ l) l) h
      by true false e o h = absurd (false≢true (sym o ∙ f y e))
      by false false e o h = ap (λ (t : Bool). filter test (cond t (y ∷ filter other ys) (filter other ys))) o ∙ h ∙ sym (ap (λ (t : Bool). cond t (y ∷ filter test ys) (filter test ys)) e)

below_stays : (a b : Vector) (q : Label) → below run (upserted a val b q).attributes ≡ below run a.attributes
below_stays a b q =
    passed_over (λ t. is_at_or_below t.0 run) (val, resized a.len (slots_of b.attributes q)) (beside val a.attributes) refl
    ∙ twice (λ t. is_at_or_below t.0 run) (λ t. not (is_at_or_below t.0 val)) (λ t e. ap not (run_or_value t.0 e)) a.attributes

pub marks_stay : (a b : Vector) (q : Label) → run_marks (upserted a val b q) run ≡ run_marks a run
marks_stay a b q = ap (λ (l : List Attribute). tuples.run_marks (side_by_side a.len (map (λ t. t.1) l))) (below_stays a b q)

-- Where the runs of a vector's attributes begin.
use Rattle.std.proofs.Common.{◌≡◌, ℕ, zero, suc, ◌+◌, ◌-◌, ◌<◌, ◌≤◌, List, [], ◌∷◌, Bool, true, false, ◌||◌, ◌&&◌, not, if◌then◌else◌, refl, ap, sym, ◌∙◌, length, take, set, get_or, map, arith, Some, None, inl, inr}
use Rattle.std.proofs.lemmas.Bool.{cases_lt}
use Rattle.std.specs.Prelude.{slice_get, ◌==◌}
use Rattle.std.specs.List.{list_any}
use Rattle.std.proofs.Math.Dec.{eqb-suc-zero}
use Rattle.std.proofs.lemmas.List.{take_more, length-map, get_or-set_other, get_or-set_same}
use Rattle.std.proofs.lemmas.List.Folds.{list_any-append}
use Rattle.std.proofs.lemmas.Option.{get_or_from_slice_get}
use Rattle.control_vectors.specs.Slots.{Slot}
use Rattle.key_paths.specs.Substructures.{is_at_or_below}
use Rattle.struct_vectors.specs.Columns.{ColumnValue}
use Rattle.struct_vectors.specs.Vectors.{HaveLength}
use Rattle.programs.specs.Mentions.{Label}
use Rattle.programs.specs.Vectors.{Attribute, seen_attributes}
use Rattle.voodoo_ops.specs.Attributes.{below}
use Rattle.control_vectors.specs.Runs.{slot_eq, differs, side_by_side, run_marks}
use Rattle.control_vectors.proofs.RunLaws.{marks_side_by_side}
use Rattle.voodoo_ops.specs.Runs.{changes_below}

or_false : (b : Bool) → (b || false) ≡ b
or_false true = refl
or_false false = refl

or_true : (b : Bool) → (b || true) ≡ true
or_true true = refl
or_true false = refl

or_assoc : (a b c : Bool) → ((a || b) || c) ≡ (a || (b || c))
or_assoc true b c = refl
or_assoc false b c = refl

list_any-filter : (p : Label) (i : ℕ) (ts : List Attribute) → list_any (λ t. differs t.1 i) (below p ts) ≡ list_any (λ t. changes_below p t i) ts
list_any-filter p i [] = refl
list_any-filter p i (t ∷ ts) = by (is_at_or_below t.0 p) (list_any-filter p i ts)
  where
    by : (b : Bool) → list_any (λ u. differs u.1 i) (below p ts) ≡ list_any (λ u. changes_below p u i) ts → list_any (λ u. differs u.1 i) (if b then t ∷ below p ts else below p ts) ≡ ((b && differs t.1 i) || list_any (λ u. changes_below p u i) ts)
    by true e = ap (λ (x : Bool). differs t.1 i || x) e
    by false e = e

-- one more attribute
pub changes_more : (p : Label) (ts : List Attribute) (k i : ℕ) → k < length ts → list_any (λ t. differs t.1 i) (below p (take (k + 1) ts)) ≡ (list_any (λ t. differs t.1 i) (below p (take k ts)) || changes_below p (get_or ts k ([], [])) i)
changes_more p ts k i h =
    list_any-filter p i (take (k + 1) ts)
    ∙ ap (list_any (λ t. changes_below p t i)) (take_more ts k ([], []) h)
    ∙ list_any-append (λ t. changes_below p t i) (take k ts) (get_or ts k ([], []) ∷ [])
    ∙ ap (λ (b : Bool). list_any (λ t. changes_below p t i) (take k ts) || b) (or_false (changes_below p (get_or ts k ([], [])) i))
    ∙ ap (λ (b : Bool). b || changes_below p (get_or ts k ([], [])) i) (sym (list_any-filter p i (take k ts)))

pub length_seen : (attributes : List (Label × ColumnValue)) → length (seen_attributes attributes) ≡ length attributes
length_seen attributes = length-map attributes (λ a. (a.0, a.1.slots))

-- an attribute at a place
pub item_long : (n : ℕ) (attributes : List (Label × ColumnValue)) (k : ℕ) (t : Label × ColumnValue) → HaveLength n attributes → k < length attributes → t ≡ get_or attributes k t → length t.1.slots ≡ n
item_long n attributes k t each h at = ap (λ (u : Label × ColumnValue). length u.1.slots) at ∙ each k t h

pub seen_at : (attributes : List (Label × ColumnValue)) (k : ℕ) (t : Label × ColumnValue) → k < length attributes → t ≡ get_or attributes k t → get_or (seen_attributes attributes) k ([], []) ≡ (t.0, t.1.slots)
seen_at [] k t h at = absurd (omega arith)
seen_at (a ∷ attributes) zero t h at = ap (λ (u : Label × ColumnValue). let x : Attribute = (u.0, u.1.slots) in x) (sym at)
seen_at (a ∷ attributes) (suc k) t h at = seen_at attributes k t (omega arith) at

-- ---- the changes of one column
slot_is : (xs : List Slot) (i : ℕ) (s : Slot) → slice_get xs i ≡ Some s → get_or xs i None ≡ s
slot_is xs i s e = get_or_from_slice_get xs i s None e

pub differs_is : (xs : List Slot) (i : ℕ) (s t : Slot) → slice_get xs i ≡ Some s → slice_get xs (i - 1) ≡ Some t → differs xs i ≡ not (slot_eq s t)
differs_is xs i s t e f = rw (slot_is xs i s e, slot_is xs (i - 1) t f) refl

-- what one more place makes of the marks
pub record Marking (old now : List Bool) (xs : List Slot) (i : ℕ) : Type 0 where
  pub first : get_or now 0 false ≡ get_or old 0 false
  pub done : (k : ℕ) → 0 < k → k < i → get_or now k false ≡ (get_or old k false || differs xs k)
  pub left : (k : ℕ) → i ≤ k → get_or now k false ≡ get_or old k false

pub marking_set : (old now : List Bool) (xs : List Slot) (i : ℕ) → 1 ≤ i → i < length now → Marking old now xs i → differs xs i ≡ true → Marking old (set now i true) xs (i + 1)
marking_set old now xs i low h m e = record {
  first = get_or-set_other now i 0 true false (omega arith) ∙ m.first;
  done = λ k l r. elim (cases_lt k i) [
    | inl less ↦ get_or-set_other now i k true false (omega arith) ∙ m.done k l less
    | inr more ↦ let same : k ≡ i = omega arith in rw (same, get_or-set_same now i true false h, e) (sym (or_true (get_or old i false)))
  ];
  left = λ k l. get_or-set_other now i k true false (omega arith) ∙ m.left k (omega arith);
}

pub marking_keep : (old now : List Bool) (xs : List Slot) (i : ℕ) → 1 ≤ i → Marking old now xs i → differs xs i ≡ false → Marking old now xs (i + 1)
marking_keep old now xs i low m e = record {
  first = m.first;
  done = λ k l r. elim (cases_lt k i) [
    | inl less ↦ m.done k l less
    | inr more ↦ let same : k ≡ i = omega arith in rw (same, e) (m.left i (omega arith) ∙ sym (or_false (get_or old i false)))
  ];
  left = λ k l. m.left k (omega arith);
}

-- ---- all marks
any_column : (keys : List Attribute) (k : ℕ) → list_any (λ t. differs t.1 k) keys ≡ list_any (λ xs. differs xs k) (map (λ t. t.1) keys)
any_column [] k = refl
any_column (t ∷ keys) k = ap (λ (b : Bool). differs t.1 k || b) (any_column keys k)

pub marks_are : (marks : List Bool) (keys : List Attribute) (n : ℕ) → length marks ≡ n → (0 < length marks → get_or marks 0 false ≡ true) → ((k : ℕ) → 0 < k → k < length marks → get_or marks k false ≡ list_any (λ t. differs t.1 k) keys) → marks ≡ run_marks (side_by_side n (map (λ t. t.1) keys))
marks_are marks keys n each first later = marks_side_by_side n (map (λ t. t.1) keys) marks each at
  where
    at : (k : ℕ) → k < n → get_or marks k false ≡ (k == 0 || list_any (λ xs. differs xs k) (map (λ t. t.1) keys))
    at zero h = first (omega arith)
    at (suc k) h = later (suc k) (omega arith) (omega arith) ∙ any_column keys (suc k) ∙ sym (ap (λ (b : Bool). b || list_any (λ xs. differs xs (suc k)) (map (λ t. t.1) keys)) (eqb-suc-zero k))

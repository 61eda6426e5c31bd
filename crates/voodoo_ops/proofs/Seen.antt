-- Vectors of columns, seen as their slots.
use Rattle.std.proofs.Common.{◌≡◌, ℕ, suc, Bool, true, false, List, [], ◌∷◌, map, take, length, refl, sym, ap, ◌∙◌, arith, if◌then◌else◌, Option, Some, None, unwrap_or, Result, Ok, Err}
use Rattle.std.specs.Prelude.{is_some}
use Rattle.std.specs.Option.{option_map}
use Rattle.std.specs.Map.{lookup}
use Rattle.std.specs.Str.{bytes_eq}
use Rattle.std.proofs.lemmas.Bool.{false≢true}
use Rattle.std.proofs.lemmas.Map.Made.{lookup-map_values}
use Rattle.control_vectors.specs.Slots.{Slot, Cell, all_slots}
use Rattle.control_vectors.specs.declared.Over.{Over}
use Rattle.struct_vectors.specs.Columns.{ColumnValue}
use Rattle.struct_vectors.specs.Vectors.{VectorValue, paths_of, HaveLength}
use Rattle.slot_columns.proofs.Listings.{length_listed}
use Rattle.programs.specs.Mentions.{Label}
use Rattle.programs.specs.Vectors.{Attribute, Vector, slots_of, cut_to, column, seen, seen_attributes}
use Rattle.voodoo_ops.specs.Columns.{fronts}
use Rattle.voodoo_ops.specs.Stops as stops

pub paths-seen : (attributes : List (Label × ColumnValue)) → map (λ t. t.0) (seen_attributes attributes) ≡ paths_of attributes
paths-seen [] = refl
paths-seen (a ∷ attributes) = ap (λ (l : List Label). a.0 ∷ l) (paths-seen attributes)

pub seen-fronts : (n : ℕ) (attributes : List (Label × ColumnValue)) → seen_attributes (fronts n attributes) ≡ cut_to n (seen_attributes attributes)
seen-fronts n [] = refl
seen-fronts n (a ∷ attributes) = ap (λ (l : List Attribute). (a.0, take n a.1.slots) ∷ l) (seen-fronts n attributes)

pub paths-fronts : (n : ℕ) (attributes : List (Label × ColumnValue)) → paths_of (fronts n attributes) ≡ paths_of attributes
paths-fronts n [] = refl
paths-fronts n (a ∷ attributes) = ap (λ (l : List Label). a.0 ∷ l) (paths-fronts n attributes)

-- ---- a column that a look-up finds

lookup-seen : (p : Label) (attributes : List (Label × ColumnValue)) → lookup (bytes_eq p) (seen_attributes attributes) ≡ option_map (λ c. c.slots) (lookup (bytes_eq p) attributes)
lookup-seen p attributes = lookup-map_values (λ (c : ColumnValue). c.slots) (bytes_eq p) attributes

pub found_slots : (p : Label) (v : VectorValue) (w : Vector) (c : ColumnValue) → seen v ≡ w → Some c ≡ lookup (bytes_eq p) v.attributes → c.slots ≡ slots_of w.attributes p
found_slots p v w c is e =
    sym (ap (λ (u : Vector). slots_of u.attributes p) (sym is) ∙ ap (λ (o : Option (List Slot)). unwrap_or o []) (lookup-seen p v.attributes ∙ ap (option_map (λ (d : ColumnValue). d.slots)) (sym e)))

long : (n : ℕ) (p : Label) (attributes : List (Label × ColumnValue)) (c : ColumnValue) → HaveLength n attributes → Some c ≡ lookup (bytes_eq p) attributes → length c.slots ≡ n
long n p [] c each e = absurd cc
long n p (a ∷ attributes) c each e = by (bytes_eq p a.0) e (λ h. long n p attributes c (λ k d l. each (suc k) d (omega arith)) h)
  where
    by : (b : Bool) → Some c ≡ (if b then Some a.1 else lookup (bytes_eq p) attributes) → (Some c ≡ lookup (bytes_eq p) attributes → length c.slots ≡ n) → length c.slots ≡ n
    by true h rest = let same : c ≡ a.1 = cc in ap (λ (d : ColumnValue). length d.slots) same ∙ each 0 a (omega arith)
    by false h rest = rest h

pub found_length : (p : Label) (v : VectorValue) (w : Vector) (c : ColumnValue) → seen v ≡ w → HaveLength v.length v.attributes → Some c ≡ lookup (bytes_eq p) v.attributes → length c.slots ≡ w.len
found_length p v w c is each e = long v.length p v.attributes c each e ∙ ap (λ (u : Vector). u.len) is

pub not_found : (p : Label) (v : VectorValue) (w : Vector) → seen v ≡ w → None ≡ lookup (bytes_eq p) v.attributes → is_some (lookup (bytes_eq p) w.attributes) ≡ true → ⊥
not_found p v w is none h =
    false≢true (ap is_some (ap (option_map (λ (c : ColumnValue). c.slots)) none ∙ sym (lookup-seen p v.attributes)) ∙ ap (λ (u : Vector). is_some (lookup (bytes_eq p) u.attributes)) is ∙ h)

-- by the attributes that are left
pub column_first : (q p : Label) (c : ColumnValue) (items rest attributes : List (Label × ColumnValue)) → items ≡ (p, c) ∷ rest → bytes_eq q p ≡ true → lookup (bytes_eq q) items ≡ lookup (bytes_eq q) attributes → Some c ≡ lookup (bytes_eq q) attributes
column_first q p c items rest attributes e on same =
    sym (ap (λ (b : Bool). if b then Some c else lookup (bytes_eq q) rest) on) ∙ sym (ap (lookup (bytes_eq q)) e) ∙ same

pub none_there : (q : Label) (items attributes : List (Label × ColumnValue)) → length items ≡ 0 → lookup (bytes_eq q) items ≡ lookup (bytes_eq q) attributes → None ≡ lookup (bytes_eq q) attributes
none_there q [] attributes e same = same
none_there q (t ∷ items) attributes e same = absurd (omega arith)

-- ---- how many slots are meant

pub cells_long : (n : ℕ) (cells : List Cell) → length cells ≡ n → stops.HaveLength n (all_slots cells)
cells_long n cells e = by (all_slots cells) refl
  where
    by : (r : Result (List Slot) Over) → all_slots cells ≡ r → stops.HaveLength n r
    by (Ok xs) h = length_listed cells xs h ∙ e
    by (Err x) h = tt

pub column_long : (p : Label) (n m : ℕ) (xs ys : List Slot) (v : Vector) → v ≡ column p m xs → xs ≡ ys → m ≡ n → v ≡ column p n ys
column_long p n m xs ys v e f g = rw (e, f, g) refl

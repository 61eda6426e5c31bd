-- The texts of tables are texts of their dictionary.
use Rattle.std.proofs.Common.{Ordering, ◌≡◌, ◌∙◌, ℕ, zero, suc, ◌+◌, ◌≤◌, Bool, true, false, ◌||◌, List, [], ◌∷◌, length, refl, sym, ap, subst, arith, ⊎_elim}
use Rattle.std.specs.declared.cmp.Ordering.TheVariants.{Less, Equal, Greater}
use Rattle.std.specs.Ordering.{is_eq}
use Rattle.std.specs.Prelude.{flat_map}
use Rattle.std.specs.List.{Contains}
use Rattle.std.specs.Str.{bytes_eq}
use Rattle.std.proofs.lemmas.Bool.{false≢true}
use Rattle.std.proofs.lemmas.Cmp.{nat_list_cmp_total, tied_itself}
use Rattle.std.proofs.lemmas.Map.Text.{is_eq-slice_cmp}
use Rattle.std.proofs.lemmas.List.{get_or_past}
use Rattle.std.proofs.lemmas.List.Elements.{Contains-append_left, Contains-append_right}
use Rattle.dict_codes.specs.Ascending.{ascending, ascending_from, placed, with_item}
use Rattle.dict_codes.specs.Dictionaries.{dictionary_of, is_among}
use Rattle.dict_codes.proofs.Members.{first_or_later, here, nothing_in, there}
use Rattle.sql_values.specs.Texts.{by_bytes}
use Rattle.sql_values.specs.Values.{Value, number, text, truth, null}
use Rattle.table_load.specs.Databases.{row_texts, rows_texts, tables_texts}
use Rattle.table_load.specs.Values.{Table, value_at}
use Rattle.expr_values.specs.Laws.{is_known}

-- ---- texts among ascending ones

or_left : (a b : Bool) → a ≡ true → (a || b) ≡ true
or_left a b h = ap (λ x. x || b) h

or_right : (a b : Bool) → b ≡ true → (a || b) ≡ true
or_right true b h = refl
or_right false b h = h

or_else : (a b c : Bool) → (b ≡ true → c ≡ true) → (a || b) ≡ true → (a || c) ≡ true
or_else true b c f h = refl
or_else false b c f h = f h

itself : (x : List ℕ) → bytes_eq x x ≡ true
itself x = sym (is_eq-slice_cmp x x) ∙ ap is_eq (tied_itself nat_list_cmp_total x)

keeps : (x z : List ℕ) (ys : List (List ℕ)) → is_among ys z ≡ true → is_among (with_item by_bytes x ys) z ≡ true
keeps x z [] h = absurd (false≢true h)
keeps x z (y ∷ ys) h = by (by_bytes x y) (keeps x z ys)
  where
    by : (c : Ordering) → (is_among ys z ≡ true → is_among (with_item by_bytes x ys) z ≡ true) → is_among (placed c x y ys (with_item by_bytes x ys)) z ≡ true
    by Less f = or_right (bytes_eq z x) (is_among (y ∷ ys) z) h
    by Equal f = h
    by Greater f = or_else (bytes_eq z y) (is_among ys z) (is_among (with_item by_bytes x ys) z) f h

has : (x : List ℕ) (ys : List (List ℕ)) → is_among (with_item by_bytes x ys) x ≡ true
has x [] = or_left (bytes_eq x x) false (itself x)
has x (y ∷ ys) = by (by_bytes x y) refl (has x ys)
  where
    by : (c : Ordering) → by_bytes x y ≡ c → is_among (with_item by_bytes x ys) x ≡ true → is_among (placed c x y ys (with_item by_bytes x ys)) x ≡ true
    by Less e f = or_left (bytes_eq x x) (is_among (y ∷ ys) x) (itself x)
    by Equal e f = or_left (bytes_eq x y) (is_among ys x) (sym (is_eq-slice_cmp x y) ∙ ap is_eq e)
    by Greater e f = or_right (bytes_eq x y) (is_among (with_item by_bytes x ys) x) f

from_keeps : (z : List ℕ) (done xs : List (List ℕ)) → is_among done z ≡ true → is_among (ascending_from by_bytes done xs) z ≡ true
from_keeps z done [] h = h
from_keeps z done (x ∷ xs) h = from_keeps z (with_item by_bytes x done) xs (keeps x z done h)

from_has : (z : List ℕ) (done xs : List (List ℕ)) → Contains xs z → is_among (ascending_from by_bytes done xs) z ≡ true
from_has z done [] h = absurd (nothing_in z h)
from_has z done (x ∷ xs) h =
    ⊎_elim (λ e. subst (λ (w : List ℕ). is_among (ascending_from by_bytes done (x ∷ xs)) w ≡ true) e (from_keeps x (with_item by_bytes x done) xs (has x done)))
    (λ m. from_has z (with_item by_bytes x done) xs m) (first_or_later x z xs h)

pub among_texts : (texts : List (List ℕ)) (z : List ℕ) → Contains texts z → is_among (dictionary_of texts) z ≡ true
unfolding ascending
among_texts texts z h = from_has z [] texts h

-- ---- how many there are

one_more : (x : List ℕ) (ys : List (List ℕ)) → length (with_item by_bytes x ys) ≤ length ys + 1
one_more x [] = omega arith
one_more x (y ∷ ys) = by (by_bytes x y) (one_more x ys)
  where
    by : (c : Ordering) → length (with_item by_bytes x ys) ≤ length ys + 1 → length (placed c x y ys (with_item by_bytes x ys)) ≤ length (y ∷ ys) + 1
    by Less f = omega arith
    by Equal f = omega arith
    by Greater f = omega (arith, f)

from_few : (done xs : List (List ℕ)) → length (ascending_from by_bytes done xs) ≤ length done + length xs
from_few done [] = omega arith
from_few done (x ∷ xs) = omega (arith, from_few (with_item by_bytes x done) xs, one_more x done)

pub few_texts : (texts : List (List ℕ)) → length (dictionary_of texts) ≤ length texts
unfolding ascending
few_texts texts = omega (arith, from_few [] texts)

-- ---- the texts of values

in_row : (r : List Value) (k : ℕ) (x : List ℕ) → value_at k r ≡ text x → Contains (row_texts r) x
in_row [] k x e = let none : value_at k [] ≡ null = get_or_past [] k null (omega arith) in absurd cc
in_row (number z ∷ r) zero x e = absurd cc
in_row (text t ∷ r) zero x e = let same : t ≡ x = cc in subst (Contains (t ∷ row_texts r)) same (here t (row_texts r))
in_row (truth b ∷ r) zero x e = absurd cc
in_row (null ∷ r) zero x e = absurd cc
in_row (number z ∷ r) (suc k) x e = in_row r k x e
in_row (text t ∷ r) (suc k) x e = there t x (row_texts r) (in_row r k x e)
in_row (truth b ∷ r) (suc k) x e = in_row r k x e
in_row (null ∷ r) (suc k) x e = in_row r k x e

pub in_joined : {X Y : Type 0} (f : X → List Y) (xs : List X) (x : X) (y : Y) → Contains xs x → Contains (f x) y → Contains (flat_map f xs) y
in_joined f [] x y h g = absurd (nothing_in x h)
in_joined {X} {Y} f (w ∷ ws) x y h g =
    ⊎_elim (λ e. Contains-append_left (f w) (flat_map f ws) y (subst (λ (v : X). Contains (f v) y) (sym e) g))
    (λ m. Contains-append_right (f w) (flat_map f ws) y (in_joined f ws x y m g)) (first_or_later w x ws h)

-- each value of a row of one of the tables
pub value_known : (ts : List Table) (t : Table) (r : List Value) (k : ℕ) → Contains ts t → Contains t.rows r → is_known (dictionary_of (tables_texts ts)) (value_at k r) ≡ true
value_known ts t r k h g = by (value_at k r) refl
  where
    by : (v : Value) → value_at k r ≡ v → is_known (dictionary_of (tables_texts ts)) v ≡ true
    by (number z) e = refl
    by (text x) e = among_texts (tables_texts ts) x (in_joined (λ (u : Table). rows_texts u.rows) ts t x h (in_joined row_texts t.rows r x g (in_row r k x e)))
    by (truth b) e = refl
    by null e = refl

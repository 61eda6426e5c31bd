-- Vectors: their paths and columns, and look-ups by path.
use Rattle.std.proofs.Common.{◌≡◌, ℕ, zero, suc, ◌+◌, ◌<◌, ◌≤◌, Bool, true, false, List, [], ◌∷◌, length, get_or, drop, refl, ap, sym, ◌∙◌, arith}
use Rattle.std.specs.Prelude.{Option, Some, None}
use Rattle.std.specs.List.{zip}
use Rattle.std.specs.Map.{lookup}
use Rattle.std.specs.Str.{bytes_eq}
use Rattle.std.proofs.lemmas.List.{drop_more, get_or_default}
use Rattle.std.proofs.Math.ListN.{drop_of_length-le}
use Rattle.struct_vectors.specs.Columns.{ColumnValue, narrow}
use Rattle.struct_vectors.specs.Vectors.{paths_of, columns_of}

-- paths and columns that are joined and parted again
pub paths_of-zip : (paths : List (List ℕ)) (columns : List ColumnValue) → length columns ≡ length paths → paths_of (zip paths columns) ≡ paths
paths_of-zip [] columns e = refl
paths_of-zip (p ∷ paths) [] e = absurd (omega arith)
paths_of-zip (p ∷ paths) (c ∷ columns) e = ap (λ (l : List (List ℕ)). p ∷ l) (paths_of-zip paths columns (omega arith))

pub columns_of-zip : (paths : List (List ℕ)) (columns : List ColumnValue) → length columns ≡ length paths → columns_of (zip paths columns) ≡ columns
columns_of-zip [] [] e = refl
columns_of-zip [] (c ∷ columns) e = absurd (omega arith)
columns_of-zip (p ∷ paths) [] e = refl
columns_of-zip (p ∷ paths) (c ∷ columns) e = ap (λ (l : List ColumnValue). c ∷ l) (columns_of-zip paths columns (omega arith))

pub zip-parts : (attributes : List (List ℕ × ColumnValue)) → zip (paths_of attributes) (columns_of attributes) ≡ attributes
zip-parts [] = refl
zip-parts (a ∷ attributes) = ap (λ (l : List (List ℕ × ColumnValue)). a ∷ l) (zip-parts attributes)

-- ---- look-ups, from a place on

pub look_here : {X : Type 0} (t : List ℕ → Bool) (es : List (List ℕ × X)) (i : ℕ) (e : List ℕ × X) → i < length es → e ≡ get_or es i e → t e.0 ≡ true → lookup t (drop i es) ≡ Some e.1
look_here t es i e h is found = rw (drop_more es i e h, ← is, found) refl

pub look_next : {X : Type 0} (t : List ℕ → Bool) (es : List (List ℕ × X)) (i : ℕ) (e : List ℕ × X) → i < length es → e ≡ get_or es i e → t e.0 ≡ false → lookup t (drop (i + 1) es) ≡ lookup t (drop i es)
look_next t es i e h is missed = rw (drop_more es i e h, ← is, missed) refl

pub look_past : {X : Type 0} (t : List ℕ → Bool) (es : List (List ℕ × X)) (i : ℕ) → length es ≤ i → lookup t (drop i es) ≡ None
look_past t es i h = rw (drop_of_length-le es h) refl

-- paths and columns at a place
pub get_or-zip : (paths : List (List ℕ)) (columns : List ColumnValue) (i : ℕ) (p : List ℕ) (c : ColumnValue) → i < length paths → length columns ≡ length paths → p ≡ get_or paths i p → c ≡ get_or columns i c → ◌≡◌ {A = List ℕ × ColumnValue} (p, c) (get_or (zip paths columns) i (p, c))
get_or-zip [] columns i p c h e ep ec = absurd (omega arith)
get_or-zip (q ∷ paths) [] i p c h e ep ec = absurd (omega arith)
get_or-zip (q ∷ paths) (d ∷ columns) zero p c h e ep ec = cc
get_or-zip (q ∷ paths) (d ∷ columns) (suc i) p c h e ep ec = get_or-zip paths columns i p c (omega arith) (omega arith) ep ec

pub length-zip : (paths : List (List ℕ)) (columns : List ColumnValue) → length columns ≡ length paths → length (zip paths columns) ≡ length paths
length-zip [] columns e = refl
length-zip (q ∷ paths) [] e = absurd (omega arith)
length-zip (q ∷ paths) (d ∷ columns) e = ap suc (length-zip paths columns (omega arith))

-- ---- a column by its path

some_column : ColumnValue
some_column = record { slots = []; form = narrow }

path_at-zip : (paths : List (List ℕ)) (columns : List ColumnValue) (i : ℕ) (d : List ℕ × ColumnValue) → length columns ≡ length paths → i < length paths → (get_or (zip paths columns) i d).0 ≡ get_or paths i d.0
path_at-zip [] columns i d e h = absurd (omega arith)
path_at-zip (q ∷ paths) [] i d e h = absurd (omega arith)
path_at-zip (q ∷ paths) (c ∷ columns) zero d e h = refl
path_at-zip (q ∷ paths) (c ∷ columns) (suc i) d e h = path_at-zip paths columns i d (omega arith) (omega arith)

pub column_here : (p q : List ℕ) (paths slice : List (List ℕ)) (columns : List ColumnValue) (i : ℕ) (c : ColumnValue) (o : Option ColumnValue) → slice ≡ paths → i < length slice → length columns ≡ length paths → q ≡ get_or slice i q → c ≡ get_or columns i c → true ≡ bytes_eq p q → lookup (bytes_eq p) (drop i (zip paths columns)) ≡ o → Some c ≡ o
column_here p q paths slice columns i c o same h e is at found rest =
    let within : i < length paths = rw same at h in
    let here : ◌≡◌ {A = List ℕ × ColumnValue} (q, c) (get_or (zip paths columns) i (q, c)) = get_or-zip paths columns i q c within e (rw same at is) at in
    sym (look_here (bytes_eq p) (zip paths columns) i (q, c) (omega (arith, length-zip paths columns e)) here (sym found)) ∙ rest

pub column_next : (p q : List ℕ) (paths slice : List (List ℕ)) (columns : List ColumnValue) (i : ℕ) (o : Option ColumnValue) → slice ≡ paths → i < length slice → length columns ≡ length paths → q ≡ get_or slice i q → false ≡ bytes_eq p q → lookup (bytes_eq p) (drop i (zip paths columns)) ≡ o → lookup (bytes_eq p) (drop (i + 1) (zip paths columns)) ≡ o
unfolding some_column
column_next p q paths slice columns i o same h e is missed rest =
    let within : i < length paths = rw same at h in
    let d : List ℕ × ColumnValue = (q, some_column) in
    let a : List ℕ × ColumnValue = get_or (zip paths columns) i d in
    let inside : i < length (zip paths columns) = omega (arith, length-zip paths columns e) in
    let key : a.0 ≡ q = path_at-zip paths columns i d e within ∙ sym (rw same at is) in
    look_next (bytes_eq p) (zip paths columns) i a inside (get_or_default (zip paths columns) i d a inside) (ap (bytes_eq p) key ∙ sym missed) ∙ rest

pub column_none : (p : List ℕ) (paths slice : List (List ℕ)) (columns : List ColumnValue) (i : ℕ) (o : Option ColumnValue) → slice ≡ paths → length slice ≤ i → length columns ≡ length paths → lookup (bytes_eq p) (drop i (zip paths columns)) ≡ o → None ≡ o
column_none p paths slice columns i o same h e rest =
    let past : length paths ≤ i = rw same at h in
    sym (look_past (bytes_eq p) (zip paths columns) i (omega (arith, length-zip paths columns e))) ∙ rest

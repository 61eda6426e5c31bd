-- Rows as they are held: a cell more, and a row more.
use Rattle.std.proofs.Common.{◌≡◌, ◌∙◌, ℕ, zero, suc, ◌+◌, ◌<◌, ◌≤◌, ℤ, pos, negsuc, Bool, true, false, cond, List, [], ◌∷◌, ◌++◌, length, get_or, refl, sym, ap, inl, inr, ◌⊎◌, arith, append_assoc, append-nil, length-append, add-one}
use Rattle.std.specs.Prelude.{Some, None, Result, Ok, Err, IfOk, slice_get}
use Rattle.std.specs.List.{list_any}
use Rattle.std.specs.Str.{bytes_eq}
use Rattle.std.proofs.lemmas.Bool.{cases_lt}
use Rattle.std.proofs.lemmas.List.{get_or_append_left, get_or_push, flat_map_more}
use Rattle.std.proofs.lemmas.Option.{get_or_from_slice_get}
use Rattle.control_vectors.specs.Slots.{Slot}
use Rattle.sql_values.specs.Values.{Value, number, text, truth, null}
use Rattle.table_load.specs.Databases.{row_texts, rows_texts}
use Rattle.table_load.specs.HeldColumns.{AreCells, AreColumns, cells_at, code_of, IsCell, IsCode, note, noted, row_at, rows_held, rows_to, value_of, values_of, with_cells}

-- ---- texts that are noted

-- texts that only grow
pub record Grows (old new : List (List ℕ)) : Type 0 where
  pub more : List (List ℕ)
  pub is : new ≡ old ++ more

pub grows_not : (old : List (List ℕ)) → Grows old old
grows_not old = record { more = []; is = sym (append-nil old) }

pub grows_on : (a b c : List (List ℕ)) → Grows a b → Grows b c → Grows a c
grows_on a b c g h = record { more = g.more ++ h.more; is = h.is ∙ ap (λ l. l ++ h.more) g.is ∙ append_assoc a g.more h.more }

note_grows : (texts : List (List ℕ)) (t : List ℕ) → Grows texts (note texts t)
note_grows texts t = by_test (list_any (bytes_eq t) texts)
  where
    by_test : (b : Bool) → Grows texts (cond b texts (texts ++ t ∷ []))
    by_test true = grows_not texts
    by_test false = record { more = t ∷ []; is = refl }

pub noted_grows : (texts more : List (List ℕ)) → Grows texts (noted texts more)
unfolding noted
noted_grows texts [] = grows_not texts
noted_grows texts (t ∷ more) = grows_on texts (note texts t) (noted texts (t ∷ more)) (note_grows texts t) (noted_grows (note texts t) more)

pub noted-append : (texts a b : List (List ℕ)) → noted texts (a ++ b) ≡ noted (noted texts a) b
unfolding noted
noted-append texts [] b = refl
noted-append texts (t ∷ a) b = noted-append (note texts t) a b

pub noted_none : (texts : List (List ℕ)) → texts ≡ noted texts []
unfolding noted
noted_none texts = refl

-- what is no text is noted nowhere
pub number_noted : {E : Type 0} (texts : List (List ℕ)) (r : Result Slot E) → IfOk r (λ cell. texts ≡ noted texts (row_texts (value_of texts false cell ∷ [])))
number_noted texts (Ok None) = noted_none texts
number_noted texts (Ok (Some z)) = noted_none texts
number_noted texts (Err e) = tt

pub noted_one : (texts : List (List ℕ)) (t : List ℕ) → note texts t ≡ noted texts (t ∷ [])
unfolding noted
noted_one texts t = refl

pub grown_length : (old new : List (List ℕ)) → Grows old new → length old ≤ length new
grown_length old new g = omega (arith, ap length g.is, length-append old g.more)

-- ---- a cell while texts grow

code_within : (m n : ℕ) (z : ℤ) → m ≤ n → IsCode m z → IsCode n z
code_within m n (pos c) h w = omega arith
code_within m n (negsuc c) h w = w

pub cell_within : (m n : ℕ) (k : Bool) (z : Slot) → m ≤ n → IsCell m k z → IsCell n k z
cell_within m n true (Some z) h w = code_within m n z h w
cell_within m n true None h w = tt
cell_within m n false z h w = tt

code_below : (m : ℕ) (z : ℤ) → IsCode m z → code_of z < m
code_below m (pos c) w = w
code_below m (negsuc c) w = absurd w

pub value_grown : (old new : List (List ℕ)) (k : Bool) (z : Slot) → Grows old new → IsCell (length old) k z → value_of new k z ≡ value_of old k z
value_grown old new k None g w = refl
value_grown old new true (Some z) g w = ap text (ap (λ l. get_or l (code_of z) []) g.is ∙ get_or_append_left old g.more [] (code_of z) (code_below (length old) z w))
value_grown old new false (Some z) g w = refl

-- the cell of a text that has a place
pub text_cell : (texts : List (List ℕ)) (z : ℤ) (t : List ℕ) (n : ℕ) → z ≡ pos n → slice_get texts n ≡ Some t → n < length texts → (text t ≡ value_of texts true (Some z)) × IsCell (length texts) true (Some z)
text_cell texts z t n e s h = rw e (ap text (sym (get_or_from_slice_get texts n t [] s)), h)

-- ---- the first cells of a row

pub values_grown : (old new : List (List ℕ)) (ks : List Bool) (zs : List Slot) → Grows old new → AreCells (length old) ks zs → values_of new ks zs ≡ values_of old ks zs
values_grown old new [] zs g w = refl
values_grown old new (k ∷ ks) [] g w = refl
values_grown old new (k ∷ ks) (z ∷ zs) g w = rw (value_grown old new k z g w.0, values_grown old new ks zs g w.1) refl

pub cells_within : (m n : ℕ) (ks : List Bool) (zs : List Slot) → m ≤ n → AreCells m ks zs → AreCells n ks zs
cells_within m n ks [] h w = tt
cells_within m n [] (z ∷ zs) h w = absurd w
cells_within m n (k ∷ ks) (z ∷ zs) h w = (cell_within m n k z h w.0, cells_within m n ks zs h w.1)

pub values_push : (texts : List (List ℕ)) (ks : List Bool) (zs : List Slot) (z : Slot) → length zs < length ks → values_of texts ks (zs ++ z ∷ []) ≡ values_of texts ks zs ++ value_of texts (get_or ks (length zs) false) z ∷ []
values_push texts [] zs z h = absurd (omega arith)
values_push texts (k ∷ ks) [] z h = values_none ks
  where
    values_none : (ks : List Bool) → value_of texts k z ∷ values_of texts ks [] ≡ value_of texts k z ∷ []
    values_none [] = refl
    values_none (l ∷ ls) = refl
values_push texts (k ∷ ks) (y ∷ zs) z h = ap (λ l. value_of texts k y ∷ l) (values_push texts ks zs z (omega arith))

pub cells_push : (m : ℕ) (ks : List Bool) (zs : List Slot) (z : Slot) → length zs < length ks → AreCells m ks zs → IsCell m (get_or ks (length zs) false) z → AreCells m ks (zs ++ z ∷ [])
cells_push m [] zs z h w c = absurd (omega arith)
cells_push m (k ∷ ks) [] z h w c = (c, tt)
cells_push m (k ∷ ks) (y ∷ zs) z h w c = (w.0, cells_push m ks zs z (omega arith) w.1 c)

pub row_texts-append : (a b : List Value) → row_texts (a ++ b) ≡ row_texts a ++ row_texts b
row_texts-append [] b = refl
row_texts-append (number z ∷ a) b = row_texts-append a b
row_texts-append (text t ∷ a) b = ap (λ l. t ∷ l) (row_texts-append a b)
row_texts-append (truth c ∷ a) b = row_texts-append a b
row_texts-append (null ∷ a) b = row_texts-append a b

-- ---- columns with a row more

pub with_cells-whole : (m n count : ℕ) (ks : List Bool) (cs : List (List Slot)) (zs : List Slot) → m ≤ count → length zs ≡ length ks → AreColumns m n ks cs → AreCells count ks zs → AreColumns count (n + 1) ks (with_cells cs zs)
with_cells-whole m n count [] [] zs h l w c = tt
with_cells-whole m n count [] (x ∷ cs) zs h l w c = absurd w
with_cells-whole m n count (k ∷ ks) [] zs h l w c = absurd w
with_cells-whole m n count (k ∷ ks) (x ∷ cs) [] h l w c = absurd (omega (arith, l))
with_cells-whole m n count (k ∷ ks) (x ∷ cs) (z ∷ zs) h l w c = (
  omega (arith, w.0, length-append x (z ∷ [])),
  (λ i d b. by_place i d (omega (arith, b, length-append x (z ∷ [])))),
  with_cells-whole m n count ks cs zs h (omega (arith, l)) w.2 c.1,
)
  where
    at_or_before : (i : ℕ) (d : Slot) → (i < length x) ⊎ (length x ≤ i) → i < length x + 1 → IsCell count k (get_or (x ++ z ∷ []) i d)
    at_or_before i d (inl before) b = rw (get_or_append_left x (z ∷ []) d i before) (cell_within m count k (get_or x i d) h (w.1 i d before))
    at_or_before i d (inr at) b = rw (get_or_push x z d i (omega (arith, at, b))) c.0

    by_place : (i : ℕ) (d : Slot) → i < length x + 1 → IsCell count k (get_or (x ++ z ∷ []) i d)
    by_place i d b = at_or_before i d (cases_lt i (length x)) b

-- the cells of the rows before stay
pub cells_before : (m n i : ℕ) (ks : List Bool) (cs : List (List Slot)) (zs : List Slot) → i < n → AreColumns m n ks cs → cells_at i (with_cells cs zs) ≡ cells_at i cs
cells_before m n i [] [] zs h w = refl
cells_before m n i [] (x ∷ cs) zs h w = absurd w
cells_before m n i (k ∷ ks) [] zs h w = absurd w
cells_before m n i (k ∷ ks) (x ∷ cs) [] h w = refl
cells_before m n i (k ∷ ks) (x ∷ cs) (z ∷ zs) h w = rw (get_or_append_left x (z ∷ []) None i (omega (arith, w.0)), cells_before m n i ks cs zs h w.2) refl

-- and those of the last row are the new ones
pub cells_last : (m n : ℕ) (ks : List Bool) (cs : List (List Slot)) (zs : List Slot) → length zs ≡ length ks → AreColumns m n ks cs → cells_at n (with_cells cs zs) ≡ zs
cells_last m n [] [] [] l w = refl
cells_last m n [] [] (z ∷ zs) l w = absurd (omega (arith, l))
cells_last m n [] (x ∷ cs) zs l w = absurd w
cells_last m n (k ∷ ks) [] zs l w = absurd w
cells_last m n (k ∷ ks) (x ∷ cs) [] l w = absurd (omega (arith, l))
cells_last m n (k ∷ ks) (x ∷ cs) (z ∷ zs) l w = rw (get_or_push x z None n w.0, cells_last m n ks cs zs (omega (arith, l)) w.2) refl

pub cells_at-are : (m n i : ℕ) (ks : List Bool) (cs : List (List Slot)) → i < n → AreColumns m n ks cs → AreCells m ks (cells_at i cs)
cells_at-are m n i [] [] h w = tt
cells_at-are m n i [] (x ∷ cs) h w = absurd w
cells_at-are m n i (k ∷ ks) [] h w = absurd w
cells_at-are m n i (k ∷ ks) (x ∷ cs) h w = (w.1 i None (omega (arith, w.0)), cells_at-are m n i ks cs h w.2)

pub rows_to-same : (row other : ℕ → List Value) (n : ℕ) → ((i : ℕ) → i < n → row i ≡ other i) → rows_to row n ≡ rows_to other n
unfolding rows_to
rows_to-same row other zero h = refl
rows_to-same row other (suc n) h = rw (rows_to-same row other n (λ i l. h i (omega arith)), h n (omega arith)) refl

pub rows_to-more : (row : ℕ → List Value) (n : ℕ) → rows_to row (n + 1) ≡ rows_to row n ++ row n ∷ []
unfolding rows_to
rows_to-more row n = ap (rows_to row) (add-one n)

pub rows_to-none : (row : ℕ → List Value) → rows_to row 0 ≡ []
unfolding rows_to
rows_to-none row = refl

pub length-rows_to : (row : ℕ → List Value) (n : ℕ) → length (rows_to row n) ≡ n
unfolding rows_to
length-rows_to row zero = refl
length-rows_to row (suc n) = omega (arith, length-append (rows_to row n) (row n ∷ []), length-rows_to row n)

-- the rows that are held stay while texts grow
pub rows_grown : (old new : List (List ℕ)) (ks : List Bool) (cs : List (List Slot)) (n : ℕ) → Grows old new → AreColumns (length old) n ks cs → rows_held new ks cs n ≡ rows_held old ks cs n
rows_grown old new ks cs n g w = rows_to-same (row_at new ks cs) (row_at old ks cs) n (λ i h. values_grown old new ks (cells_at i cs) g (cells_at-are (length old) n i ks cs h w))

-- with a row more, the rows that are held are those before and it
pub rows_more : (old new : List (List ℕ)) (ks : List Bool) (cs : List (List Slot)) (zs : List Slot) (n : ℕ) → Grows old new → AreColumns (length old) n ks cs → length zs ≡ length ks
    → rows_held new ks (with_cells cs zs) (n + 1) ≡ rows_held old ks cs n ++ values_of new ks zs ∷ []
rows_more old new ks cs zs n g w l =
    rows_to-more (row_at new ks (with_cells cs zs)) n
    ∙ ap (λ rows. rows ++ values_of new ks (cells_at n (with_cells cs zs)) ∷ [])
    (rows_to-same (row_at new ks (with_cells cs zs)) (row_at new ks cs) n (λ i h. ap (values_of new ks) (cells_before (length old) n i ks cs zs h w)) ∙ rows_grown old new ks cs n g w)
    ∙ ap (λ cells. rows_held old ks cs n ++ values_of new ks cells ∷ []) (cells_last (length old) n ks cs zs l w)

pub rows_texts-more : (rows : List (List Value)) (row : List Value) → rows_texts (rows ++ row ∷ []) ≡ rows_texts rows ++ row_texts row
rows_texts-more rows row = sym (flat_map_more row_texts [] rows row)

-- Where keys stand among the rows that are held.
use Rattle.std.proofs.Common.{◌≡◌, ◌∙◌, ℕ, zero, suc, ◌+◌, ◌<◌, ◌≤◌, ℤ, pos, negsuc, Bool, true, false, cond, List, [], ◌∷◌, ◌++◌, length, map, take, get_or, Option, Some, None, refl, sym, ap, subst, inl, inr, ◌⊎◌, arith, add-one}
use Rattle.std.specs.Prelude.{IfSome}
use Rattle.std.specs.Option.{option_map, option_or}
use Rattle.std.specs.declared.cmp.Ordering.{Ordering}
use Rattle.std.specs.declared.cmp.Ordering.TheVariants.{Less, Equal, Greater}
use Rattle.std.specs.Ordering.{int_cmp, int_eq, is_eq}
use Rattle.std.specs.List.{All, IsDistinct, list_any, position_from}
use Rattle.std.specs.Str.{bytes_eq}
use Rattle.std.specs.Cmp.Lexicographic.{nat_list_eq_equiv}
use Rattle.std.proofs.lemmas.Bool.{cases_Bool, cases_lt}
use Rattle.std.proofs.lemmas.Bool.Decides.{Decides-int_eq}
use Rattle.std.proofs.lemmas.List.{map-append, take_all, take_more}
use Rattle.std.proofs.lemmas.Map.Text.{is_eq-slice_cmp}
use Rattle.std.proofs.lemmas.Map.Keys.{apart_from_distinct, IsDistinct-push}
use Rattle.control_vectors.specs.Slots.{Slot}
use Rattle.table_load.specs.Values.{same_value, value_at}
use Rattle.table_load.specs.HeldColumns.{AreColumns, cells_at, empty_columns, IsCell, note, noted, row_at, rows_held, rows_to, value_in, value_of, values_of, with_cells}
use Rattle.table_load.specs.Reading.{Agrees, key_cell, key_twice, noted_places, twice_at}
use Rattle.table_load.proofs.Rowwise.{Grows, cell_within, grown_length, rows_to-more, rows_to-none, value_grown}

-- ---- places in a list

pub position_map : {X Y : Type 0} (p : Y → Bool) (f : X → Y) (n : ℕ) (xs : List X) → position_from p n (map f xs) ≡ position_from (λ x. p (f x)) n xs
position_map p f n [] = refl
position_map p f n (x ∷ xs) = ap (λ o. cond (p (f x)) (Some n) o) (position_map p f (n + 1) xs)

pub position_same : {X : Type 0} (p q : X → Bool) (n : ℕ) (xs : List X) → All (λ x. p x ≡ q x) xs → position_from p n xs ≡ position_from q n xs
position_same p q n [] h = refl
position_same p q n (x ∷ xs) h = rw (h 0 x (omega arith), position_same p q (n + 1) xs (λ k d l. h (suc k) d (omega arith))) refl

pub position_push : {X : Type 0} (p : X → Bool) (n : ℕ) (xs : List X) (y : X) → position_from p n (xs ++ y ∷ []) ≡ option_or (position_from p n xs) (cond (p y) (Some (n + length xs)) None)
position_push p n [] y = ap (λ (k : ℕ). cond (p y) (Some k) None) (omega arith)
position_push p n (x ∷ xs) y =
    elim (cases_Bool (p x)) [
      | inl is ↦ rw is refl
      | inr isnt ↦
          let more : (n + 1) + length xs ≡ n + suc (length xs) = omega arith in
          rw (isnt, ← more) (position_push p (n + 1) xs y)
    ]

-- ---- cells that are equal as their values are

pub noted_distinct : (texts more : List (List ℕ)) → IsDistinct bytes_eq texts → IsDistinct bytes_eq (noted texts more)
unfolding noted
noted_distinct texts [] d = d
noted_distinct texts (t ∷ more) d = noted_distinct (note texts t) more (by_test (list_any (bytes_eq t) texts) refl)
  where
    by_test : (b : Bool) → list_any (bytes_eq t) texts ≡ b → IsDistinct bytes_eq (cond b texts (texts ++ t ∷ []))
    by_test true e = d
    by_test false e = IsDistinct-push nat_list_eq_equiv texts t d e

not_equal : (y z : ℤ) → (y ≡ z → ⊥) → int_eq y z ≡ false
not_equal y z n = elim (cases_Bool (int_eq y z)) as (λ _. int_eq y z ≡ false) [
  | inl is ↦ absurd (n ((Decides-int_eq y z).0 is))
  | inr isnt ↦ isnt
]

not_pos : (a b : ℕ) → (a ≡ b → ⊥) → pos a ≡ pos b → ⊥
not_pos a b n e = let same : a ≡ b = cc in absurd (n same)

same_codes : (texts : List (List ℕ)) (a b : ℕ) → IsDistinct bytes_eq texts → a < length texts → b < length texts → bytes_eq (get_or texts a []) (get_or texts b []) ≡ int_eq (pos b) (pos a)
same_codes texts a b d ha hb = by_order (cases_lt a b) (cases_lt b a)
  where
    by_order : (a < b) ⊎ (b ≤ a) → (b < a) ⊎ (a ≤ b) → bytes_eq (get_or texts a []) (get_or texts b []) ≡ int_eq (pos b) (pos a)
    by_order (inl before) r = apart_from_distinct bytes_eq texts a b [] d before hb ∙ sym (not_equal (pos b) (pos a) (not_pos b a (λ e. omega (arith, e))))
    by_order (inr l) (inl behind) = nat_list_eq_equiv.symm (get_or texts a []) (get_or texts b []) ∙ (apart_from_distinct bytes_eq texts b a [] d behind ha ∙ sym (not_equal (pos b) (pos a) (not_pos b a (λ e. omega (arith, e)))))
    by_order (inr l) (inr m) = let same : a ≡ b = omega arith in rw same (nat_list_eq_equiv.refl (get_or texts b []) ∙ sym ((Decides-int_eq (pos b) (pos b)).1 refl))

same_numbers : (x y : ℤ) → is_eq (int_cmp x y) ≡ int_eq y x
same_numbers x y = by_order (int_cmp x y) refl
  where
    by_order : (o : Ordering) → int_cmp x y ≡ o → is_eq o ≡ int_eq y x
    by_order Equal e = let same : x ≡ y = grind arith in rw same (sym ((Decides-int_eq y y).1 refl))
    by_order Less e = sym (not_equal y x (λ same. grind arith))
    by_order Greater e = sym (not_equal y x (λ same. grind arith))

-- whether a cell has this number
abbrev pub has_number : ℤ → Slot → Bool
has_number q None = false
has_number q (Some y) = int_eq y q

pub same_cells : (texts : List (List ℕ)) (k : Bool) (z : ℤ) (y : Slot) → IsDistinct bytes_eq texts → IsCell (length texts) k (Some z) → IsCell (length texts) k y → same_value (value_in texts k z) (value_of texts k y) ≡ has_number z y
same_cells texts false z None d w v = refl
same_cells texts false z (Some y) d w v = same_numbers z y
same_cells texts true z None d w v = refl
same_cells texts true (pos a) (Some (pos b)) d w v = is_eq-slice_cmp (get_or texts a []) (get_or texts b []) ∙ same_codes texts a b d w v
same_cells texts true (pos a) (Some (negsuc b)) d w v = absurd v
same_cells texts true (negsuc a) (Some y) d w v = absurd w

-- ---- a column of the rows that are held

value_held : (texts : List (List ℕ)) (m n i key : ℕ) (ks : List Bool) (cs : List (List Slot)) → AreColumns m n ks cs → key < length ks
    → value_at key (values_of texts ks (cells_at i cs)) ≡ value_of texts (get_or ks key false) (get_or (get_or cs key []) i None)
value_held texts m n i key [] cs w h = absurd (omega arith)
value_held texts m n i key (k ∷ ks) [] w h = absurd w
value_held texts m n i zero (k ∷ ks) (c ∷ cs) w h = refl
value_held texts m n i (suc key) (k ∷ ks) (c ∷ cs) w h = value_held texts m n i key ks cs w.2 (omega arith)

pub column_whole : (m n key : ℕ) (ks : List Bool) (cs : List (List Slot)) → AreColumns m n ks cs → key < length ks → (length (get_or cs key []) ≡ n) × All (IsCell m (get_or ks key false)) (get_or cs key [])
column_whole m n key [] cs w h = absurd (omega arith)
column_whole m n key (k ∷ ks) [] w h = absurd w
column_whole m n zero (k ∷ ks) (c ∷ cs) w h = (w.0, w.1)
column_whole m n (suc key) (k ∷ ks) (c ∷ cs) w h = column_whole m n key ks cs w.2 (omega arith)

pub column_held : (texts : List (List ℕ)) (m n key : ℕ) (ks : List Bool) (cs : List (List Slot)) → AreColumns m n ks cs → key < length ks
    → map (value_at key) (rows_held texts ks cs n) ≡ map (value_of texts (get_or ks key false)) (get_or cs key [])
column_held texts m n key ks cs w h =
    let whole = column_whole m n key ks cs w h in
    first_rows n (omega arith) ∙ ap (map (value_of texts (get_or ks key false))) (take_all n (get_or cs key []) (omega (arith, whole.0)))
  where
    first_rows : (j : ℕ) → j ≤ n → map (value_at key) (rows_to (row_at texts ks cs) j) ≡ map (value_of texts (get_or ks key false)) (take j (get_or cs key []))
    first_rows zero l = ap (map (value_at key)) (rows_to-none (row_at texts ks cs))
    first_rows (suc j) l =
        let whole = column_whole m n key ks cs w h in
        let column = get_or cs key [] in
        let f = value_of texts (get_or ks key false) in
        let last = value_held texts m n j key ks cs w h in
        let more = take_more column j None (omega (arith, whole.0)) in
        ap (map (value_at key)) (ap (rows_to (row_at texts ks cs)) (sym (add-one j)) ∙ rows_to-more (row_at texts ks cs) j)
        ∙ map-append (value_at key) (rows_to (row_at texts ks cs) j) (row_at texts ks cs j ∷ [])
        ∙ rw (first_rows j (omega arith), last) (sym (ap (map f) (ap (λ i. take i column) (sym (add-one j)) ∙ more) ∙ map-append f (take j column) (get_or column j None ∷ [])))

-- ---- keys

-- the places of a key's cells are those of its column
abbrev pub KeysPlaced : Option ℕ → List (List Slot) → (ℤ → Option ℕ) → Type 0
KeysPlaced None cs earlier = Unit {0}
KeysPlaced (Some key) cs earlier = (q : ℤ) → earlier q ≡ position_from (has_number q) 1 (get_or cs key [])

pub agrees : (key : Option ℕ) (old new : List (List ℕ)) (ks : List Bool) (cs : List (List Slot)) (n : ℕ) (earlier : ℤ → Option ℕ) → IfSome key (λ k. k < length ks) → Grows old new → IsDistinct bytes_eq new
    → AreColumns (length old) n ks cs → KeysPlaced key cs earlier → Agrees key new ks (rows_held old ks cs n) earlier
agrees None old new ks cs n earlier h g d w p = tt
agrees (Some key) old new ks cs n earlier h g d w p = λ z c.
    let k = get_or ks key false in
    let column = get_or cs key [] in
    let v = value_in new k z in
    let rows = rows_held old ks cs n in
    sym (position_map (same_value v) (value_at key) 1 rows)
    ∙ ap (position_from (same_value v) 1) (column_held old (length old) n key ks cs w h)
    ∙ position_map (same_value v) (value_of old k) 1 column
    ∙ position_same (λ y. same_value v (value_of old k y)) (has_number z) 1 column (λ i e l. each z c (get_or column i e) ((column_whole (length old) n key ks cs w h).1 i e l))
    ∙ sym (p z)
  where
    each : (z : ℤ) → IsCell (length new) (get_or ks key false) (Some z) → (y : Slot) → IsCell (length old) (get_or ks key false) y
        → same_value (value_in new (get_or ks key false) z) (value_of old (get_or ks key false) y) ≡ has_number z y
    each z c y b =
        ap (same_value (value_in new (get_or ks key false) z)) (sym (value_grown old new (get_or ks key false) y g b))
        ∙ same_cells new (get_or ks key false) z y d c (cell_within (length old) (length new) (get_or ks key false) y (grown_length old new g) b)

column_more : (m n key : ℕ) (ks : List Bool) (cs : List (List Slot)) (zs : List Slot) → AreColumns m n ks cs → length zs ≡ length ks → key < length ks → get_or (with_cells cs zs) key [] ≡ get_or cs key [] ++ get_or zs key None ∷ []
column_more m n key [] cs zs w l h = absurd (omega arith)
column_more m n key (k ∷ ks) [] zs w l h = absurd w
column_more m n key (k ∷ ks) (c ∷ cs) [] w l h = absurd (omega (arith, l))
column_more m n zero (k ∷ ks) (c ∷ cs) (z ∷ zs) w l h = refl
column_more m n (suc key) (k ∷ ks) (c ∷ cs) (z ∷ zs) w l h = column_more m n key ks cs zs w.2 (omega (arith, l)) (omega arith)

nothing_else : (o : Option ℕ) → o ≡ option_or o None
nothing_else None = refl
nothing_else (Some x) = refl

pub placed_more : (key : Option ℕ) (m n : ℕ) (ks : List Bool) (cs : List (List Slot)) (zs : List Slot) (old new : ℤ → Option ℕ) → IfSome key (λ k. k < length ks) → AreColumns m n ks cs → length zs ≡ length ks
    → KeysPlaced key cs old → key_twice key old zs ≡ None → ((q : ℤ) → new q ≡ noted_places key zs (n + 1) old q) → KeysPlaced key (with_cells cs zs) new
placed_more None m n ks cs zs old new h w l p t u = tt
placed_more (Some key) m n ks cs zs old new h w l p t u = λ q. by_cell q (key_cell key zs) refl
  where
    column : List Slot
    column = get_or cs key []

    count : 1 + length column ≡ n + 1
    count = omega (arith, (column_whole m n key ks cs w h).0)

    -- a null is noted nowhere
    grown : (q : ℤ) (cell : Slot) → key_cell key zs ≡ cell → position_from (has_number q) 1 (get_or (with_cells cs zs) key []) ≡ option_or (old q) (cond (has_number q cell) (Some (n + 1)) None)
    grown q cell e =
        ap (position_from (has_number q) 1) (column_more m n key ks cs zs w l h)
        ∙ position_push (has_number q) 1 column (key_cell key zs)
        ∙ rw (sym (p q), count, e) refl

    absent : (z : ℤ) → key_cell key zs ≡ Some z → old z ≡ None
    absent z stands = not_found (old z) (ap (twice_at key old) (sym stands) ∙ t)
      where
        not_found : (o : Option ℕ) → option_map {U = ℕ × ℕ} (λ row. (key + 1, row)) o ≡ None → o ≡ None
        not_found None e = refl
        not_found (Some row) e = absurd (cc)

    place : (q z : ℤ) → key_cell key zs ≡ Some z → (int_eq z q ≡ true) ⊎ (int_eq z q ≡ false) → new q ≡ position_from (has_number q) 1 (get_or (with_cells cs zs) key [])
    place q z stands (inl is) =
        let gone : old q ≡ None = subst (λ a. old a ≡ None) ((Decides-int_eq z q).0 is) (absent z stands) in
        let new_is : noted_places (Some key) zs (n + 1) old q ≡ Some (n + 1) = rw (stands, is) refl in
        let there : option_or (old q) (cond (int_eq z q) (Some (n + 1)) None) ≡ Some (n + 1) = rw (gone, is) refl in
        u q ∙ new_is ∙ sym (grown q (Some z) stands ∙ there)
    place q z stands (inr isnt) =
        let new_is : noted_places (Some key) zs (n + 1) old q ≡ old q = rw (stands, isnt) refl in
        let there : option_or (old q) (cond (int_eq z q) (Some (n + 1)) None) ≡ old q = rw isnt (sym (nothing_else (old q))) in
        u q ∙ new_is ∙ sym (grown q (Some z) stands ∙ there)

    by_cell : (q : ℤ) (cell : Slot) → key_cell key zs ≡ cell → new q ≡ position_from (has_number q) 1 (get_or (with_cells cs zs) key [])
    by_cell q None e =
        let new_is : noted_places (Some key) zs (n + 1) old q ≡ old q = rw e refl in
        u q ∙ new_is ∙ nothing_else (old q) ∙ sym (grown q None e)
    by_cell q (Some z) e = place q z e (cases_Bool (int_eq z q))

pub empty_whole : (ks : List Bool) → AreColumns 0 0 ks (empty_columns (length ks))
empty_whole [] = tt
empty_whole (k ∷ ks) = (refl, (λ i d h. absurd (omega arith)), empty_whole ks)

no_cell_yet : (count key : ℕ) → get_or (empty_columns count) key [] ≡ []
no_cell_yet zero key = refl
no_cell_yet (suc count) zero = refl
no_cell_yet (suc count) (suc key) = no_cell_yet count key

pub placed_none : (key : Option ℕ) (count : ℕ) (earlier : ℤ → Option ℕ) → ((q : ℤ) → earlier q ≡ None) → KeysPlaced key (empty_columns count) earlier
placed_none None count earlier h = tt
placed_none (Some key) count earlier h = λ q. h q ∙ sym (ap (position_from (has_number q) 1) (no_cell_yet count key))

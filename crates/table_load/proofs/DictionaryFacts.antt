-- The dictionary of tables, from their distinct texts.
use Rattle.std.proofs.Common.{◌≡◌, ℕ, Bool, true, false, cond, List, [], ◌∷◌, ◌++◌, flat_map, Result, Ok, Err, refl, sym, subst, inl, inr, ◌⊎◌, ⊎_elim}
use Rattle.std.specs.Prelude.{IfOk, ◌↔◌}
use Rattle.std.specs.List.{Contains, list_any}
use Rattle.std.specs.Str.{bytes_eq}
use Rattle.std.proofs.lemmas.Cmp.{nat_list_cmp_total}
use Rattle.std.proofs.lemmas.List.Elements.{Contains-append_cases, Contains-append_left, Contains-append_right, Contains-push, Contains-push_cases}
use Rattle.std.proofs.lemmas.List.Folds.{Any-from_list_any}
use Rattle.std.proofs.lemmas.Slice.Eq.{bytes_eq-Decides}
use Rattle.dict_codes.specs.Dictionaries.{dictionary_of, IsAscending}
use Rattle.dict_codes.proofs.AscendingLaws.{ascending-is}
use Rattle.dict_codes.proofs.DictionaryLaws.{sorted_from_ascending}
use Rattle.dict_codes.proofs.Members.{first_or_later, here, nothing_in, there}
use Rattle.table_load.specs.Databases.{rows_texts, tables_texts}
use Rattle.table_load.specs.HeldColumns.{note, noted}
use Rattle.table_load.specs.Values.{Table}
use Rattle.table_load.proofs.Rowwise.{noted_grows}

note_within : (texts : List (List ℕ)) (b t : List ℕ) → Contains (note texts b) t → Contains texts t ⊎ (b ≡ t)
note_within texts b t h = by_test (list_any (bytes_eq b) texts) h
  where
    by_test : (c : Bool) → Contains (cond c texts (texts ++ b ∷ [])) t → Contains texts t ⊎ (b ≡ t)
    by_test true g = inl g
    by_test false g = Contains-push_cases texts b t g

note_has : (texts : List (List ℕ)) (b : List ℕ) → Contains (note texts b) b
note_has texts b = by_test (list_any (bytes_eq b) texts) refl
  where
    by_test : (c : Bool) → list_any (bytes_eq b) texts ≡ c → Contains (cond c texts (texts ++ b ∷ [])) b
    by_test true e =
        let (k, x, h, s, p) = Any-from_list_any (bytes_eq b) texts e in
        subst (Contains texts) (sym ((bytes_eq-Decides b x).0 p)) (k, h, s)
    by_test false e = Contains-push texts b

noted_keeps : (texts more : List (List ℕ)) (t : List ℕ) → Contains texts t → Contains (noted texts more) t
noted_keeps texts more t h = let g = noted_grows texts more in subst (λ l. Contains l t) (sym g.is) (Contains-append_left texts g.more t h)

noted_within : (texts more : List (List ℕ)) (t : List ℕ) → Contains (noted texts more) t → Contains texts t ⊎ Contains more t
unfolding noted
noted_within texts [] t h = inl h
noted_within texts (b ∷ more) t h =
    ⊎_elim (λ a. ⊎_elim (λ l. inl l) (λ e. inr (subst (Contains (b ∷ more)) e (here b more))) (note_within texts b t a)) (λ m. inr (there b t more m)) (noted_within (note texts b) more t h)

noted_has : (texts more : List (List ℕ)) (t : List ℕ) → Contains more t → Contains (noted texts more) t
unfolding noted
noted_has texts [] t h = absurd (nothing_in t h)
noted_has texts (b ∷ more) t h =
    ⊎_elim (λ e. subst (Contains (noted (note texts b) more)) e (noted_keeps (note texts b) more b (note_has texts b))) (λ m. noted_has (note texts b) more t m) (first_or_later b t more h)

-- the distinct texts of each table, one table after the other
abbrev pub distinct_texts : List Table → List (List ℕ)
distinct_texts tables = flat_map (λ t. noted [] (rows_texts t.rows)) tables

pub all_within : (tables : List Table) (t : List ℕ) → Contains (distinct_texts tables) t → Contains (tables_texts tables) t
all_within [] t h = h
all_within (x ∷ xs) t h =
    ⊎_elim (λ a. Contains-append_left (rows_texts x.rows) (tables_texts xs) t (⊎_elim (λ n. absurd (nothing_in t n)) (λ m. m) (noted_within [] (rows_texts x.rows) t a)))
    (λ b. Contains-append_right (rows_texts x.rows) (tables_texts xs) t (all_within xs t b)) (Contains-append_cases (noted [] (rows_texts x.rows)) (distinct_texts xs) t h)

pub all_there : (tables : List Table) (t : List ℕ) → Contains (tables_texts tables) t → Contains (distinct_texts tables) t
all_there [] t h = h
all_there (x ∷ xs) t h =
    ⊎_elim (λ a. Contains-append_left (noted [] (rows_texts x.rows)) (distinct_texts xs) t (noted_has [] (rows_texts x.rows) t a))
    (λ b. Contains-append_right (noted [] (rows_texts x.rows)) (distinct_texts xs) t (all_there xs t b)) (Contains-append_cases (rows_texts x.rows) (tables_texts xs) t h)

pub made_of_tables : {E : Type 0} (r : Result (List (List ℕ)) E) (tables : List Table) (texts : List (List ℕ)) → texts ≡ distinct_texts tables → IfOk r IsAscending → IfOk r (λ d. (t : List ℕ) → Contains d t ↔ Contains texts t)
    → IfOk r (λ d. d ≡ dictionary_of (tables_texts tables))
made_of_tables (Ok d) tables texts e a s =
    sym (ascending-is nat_list_cmp_total (tables_texts tables) d (sorted_from_ascending d a)
    (λ t h. (s t).1 (subst (λ l. Contains l t) (sym e) (all_there tables t h)))
    (λ t h. all_within tables t (subst (λ l. Contains l t) e ((s t).0 h))))
made_of_tables (Err x) tables texts e a s = tt

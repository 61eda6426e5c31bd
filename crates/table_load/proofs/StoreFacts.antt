-- The vectors of tables, one more, and that their names differ.
use Rattle.std.proofs.Common.{◌≡◌, ◌≢◌, ◌∙◌, ℕ, zero, suc, ◌+◌, ◌<◌, ◌≤◌, Bool, true, false, List, [], ◌∷◌, ◌++◌, length, map, take, drop, get_or, refl, sym, ap, inl, inr, ◌⊎◌, arith}
use Rattle.std.specs.List.{AllPairs, filter, list_any}
use Rattle.std.specs.Str.{bytes_eq}
use Rattle.std.proofs.lemmas.Bool.{cases_Bool, cases_lt, false≢true}
use Rattle.std.proofs.lemmas.List.{drop_all, drop_more, get_or-map, get_or-take, length-map, length-take-le}
use Rattle.std.proofs.lemmas.List.Folds.{list_any_at}
use Rattle.std.proofs.lemmas.Slice.Eq.{bytes_eq-Decides}
use Rattle.sql_read.specs.declared.definition.TableDef.{TableDef}
use Rattle.sql_types.specs.Catalog.{findings, is_later_table, table_twice, tables_twice, too_many_tables, with_earlier}
use Rattle.sql_types.proofs.FindingFolds.{length-with_earlier}
use Rattle.struct_vectors.specs.Stores.{HaveDistinctNames}
use Rattle.table_load.specs.Databases.{store_of, vector_of_table}
use Rattle.table_load.specs.Values.{Table}

abbrev pub degrees : List Table → List ℕ
degrees tables = map (λ t. t.degree) tables

abbrev pub widths : List TableDef → List ℕ
widths defs = map (λ d. length d.columns) defs

pub record NextTable (dictionary : List (List ℕ)) (defs : List TableDef) (i : ℕ) (t : Table) (rest : List Table) (d : TableDef) : Type 0 where
  pub within : i < length defs
  pub loaded : t.degree ≡ length (get_or defs i d).columns
  pub later : degrees rest ≡ widths (drop (i + 1) defs)
  pub is : store_of dictionary (drop i defs) (t ∷ rest) ≡ ((get_or defs i d).name, vector_of_table dictionary (get_or defs i d) t) ∷ store_of dictionary (drop (i + 1) defs) rest

first_same : (a b : ℕ) (xs ys : List ℕ) → a ∷ xs ≡ b ∷ ys → (a ≡ b) × (xs ≡ ys)
first_same a b xs ys e = (ap (λ l. get_or l 0 a) e, ap (drop 1) e)

pub next_table : (dictionary : List (List ℕ)) (defs : List TableDef) (i : ℕ) (t : Table) (rest : List Table) (d : TableDef) → degrees (t ∷ rest) ≡ widths (drop i defs) → NextTable dictionary defs i t rest d
next_table dictionary defs i t rest d e = by_place (cases_lt i (length defs))
  where
    by_place : (i < length defs) ⊎ (length defs ≤ i) → NextTable dictionary defs i t rest d
    by_place (inl h) =
        let more = drop_more defs i d h in
        let parts = first_same t.degree (length (get_or defs i d).columns) (degrees rest) (widths (drop (i + 1) defs)) (e ∙ ap widths more) in
        record { within = h; loaded = parts.0; later = parts.1; is = rw more refl }
    by_place (inr past) = let none : degrees (t ∷ rest) ≡ [] = e ∙ ap widths (drop_all i defs past) in absurd (cc)

pub no_table : (dictionary : List (List ℕ)) (defs : List TableDef) → store_of dictionary defs [] ≡ []
no_table dictionary [] = refl
no_table dictionary (d ∷ ds) = refl

-- ---- names that differ

pub none_passes : {X : Type 0} (p : X → Bool) (xs : List X) (k : ℕ) (d : X) → filter p xs ≡ [] → k < length xs → p (get_or xs k d) ≡ false
none_passes p [] k d e h = absurd (omega arith)
none_passes p (x ∷ xs) k d e h = by_test (cases_Bool (p x)) k h (λ j f l. none_passes p xs j d f l)
  where
    by_test : (p x ≡ true) ⊎ (p x ≡ false) → (k : ℕ) → k < length (x ∷ xs) → ((j : ℕ) → filter p xs ≡ [] → j < length xs → p (get_or xs j d) ≡ false) → p (get_or (x ∷ xs) k d) ≡ false
    by_test (inl is) k h later = let none = rw is at e in absurd (cc)
    by_test (inr isnt) zero h later = isnt
    by_test (inr isnt) (suc k) h later = later k (rw isnt at e) (omega arith)

earlier_at : {X : Type 0} (xs : List X) (k : ℕ) (d : X) → k < length xs → get_or (with_earlier xs) k ([], d) ≡ (take k xs, get_or xs k d)
earlier_at [] k d h = absurd (omega arith)
earlier_at (x ∷ xs) zero d h = refl
earlier_at {X = X} (x ∷ xs) (suc k) d h =
    let behind : List X × X → List X × X = λ p. (x ∷ p.0, p.1) in
    get_or-map behind (with_earlier xs) k ([], d) ([], d) (omega (arith, length-with_earlier xs)) ∙ ap behind (earlier_at xs k d (omega arith))

pub no_findings : {X : Type 0} (a b c : List X) → a ++ (b ++ c) ≡ [] → b ≡ []
no_findings [] [] c e = refl
no_findings [] (y ∷ b) c e = absurd (cc)
no_findings (x ∷ a) b c e = absurd (cc)

pub unmapped : {X Y : Type 0} (f : X → Y) (xs : List X) → map f xs ≡ [] → xs ≡ []
unmapped f [] e = refl
unmapped f (x ∷ xs) e = absurd (cc)

-- where none has the name of an earlier one, no two have one name
abbrev pub is_later : {X : Type 0} → (X → List ℕ) → List X × X → Bool
is_later name p = list_any (λ x. bytes_eq (name x) (name p.1)) p.0

pub all_differ : {X : Type 0} (name : X → List ℕ) (xs : List X) → filter (is_later name) (with_earlier xs) ≡ [] → AllPairs (λ a b. name a ≢ name b) xs
all_differ {X = X} name xs later i j d h l =
    let none = none_passes (is_later name) (with_earlier xs) j ([], d) later (omega (arith, l, length-with_earlier xs)) in
    let here : is_later name (take j xs, get_or xs j d) ≡ false = ap (is_later name) (sym (earlier_at xs j d l)) ∙ none in
    λ same. false≢true (sym here ∙ list_any_at (λ x. bytes_eq (name x) (name (get_or xs j d))) (take j xs) i d (long i j h l) (passes i j d h same))
  where
    long : (i j : ℕ) → i < j → j < length xs → i < length (take j xs)
    long i j h l = omega (arith, h, length-take-le j xs (omega (arith, l)))

    passes : (i j : ℕ) (d : X) → i < j → name (get_or xs i d) ≡ name (get_or xs j d) → bytes_eq (name (get_or (take j xs) i d)) (name (get_or xs j d)) ≡ true
    passes i j d h same = ap (λ x. bytes_eq (name x) (name (get_or xs j d))) (get_or-take j xs i d h) ∙ (bytes_eq-Decides (name (get_or xs i d)) (name (get_or xs j d))).1 same

pub names_differ : (defs : List TableDef) → findings defs ≡ [] → AllPairs (λ a b. a.name ≢ b.name) defs
unfolding findings
names_differ defs e = all_differ (λ t. t.name) defs (unmapped table_twice (filter is_later_table (with_earlier defs)) (no_findings (too_many_tables defs) (tables_twice defs) _ e))

-- where each table has a definition, the store's names are those of the definitions
store_names : (dictionary : List (List ℕ)) (defs : List TableDef) (tables : List Table) → degrees tables ≡ widths defs → map (λ v. v.0) (store_of dictionary defs tables) ≡ map (λ d. d.name) defs
store_names dictionary [] [] e = refl
store_names dictionary [] (t ∷ ts) e = absurd (cc)
store_names dictionary (d ∷ ds) [] e = absurd (cc)
store_names dictionary (d ∷ ds) (t ∷ ts) e = ap (λ l. d.name ∷ l) (store_names dictionary ds ts (first_same t.degree (length d.columns) (degrees ts) (widths ds) e).1)

pub distinct_store : (dictionary : List (List ℕ)) (defs : List TableDef) (tables : List Table) → findings defs ≡ [] → degrees tables ≡ widths defs → HaveDistinctNames (store_of dictionary defs tables)
distinct_store dictionary [] tables f e i j d h l = absurd (omega (arith, l))
distinct_store dictionary (def ∷ more) tables f e i j d h l =
    let defs : List TableDef = def ∷ more in
    let store = store_of dictionary defs tables in
    let names = store_names dictionary defs tables e in
    let long : length store ≡ length defs = sym (length-map store (λ v. v.0)) ∙ ap length names ∙ length-map defs (λ d. d.name) in
    let name_of : (k : ℕ) → k < length store → (get_or store k d).0 ≡ (get_or defs k def).name = λ k b.
    sym (get_or-map (λ v. v.0) store k d [] b) ∙ ap (λ l. get_or l k []) names ∙ get_or-map (λ (x : TableDef). x.name) defs k def [] (omega (arith, b, long))
    in
    λ same. names_differ defs f i j def h (omega (arith, l, long)) (sym (name_of i (omega (arith, h, l))) ∙ same ∙ name_of j l)

-- The key's column of a loaded table is a key: no two rows have an equal value there.
use Rattle.std.proofs.Common.{◌≡◌, ◌∙◌, ℕ, zero, suc, ◌+◌, ◌<◌, Bool, true, false, if◌then◌else◌, List, [], ◌∷◌, length, map, take, get_or, Option, Some, None, Result, Ok, Err, refl, sym, ap, subst, arith, ⊎_elim}
use Rattle.std.specs.Prelude.{MatchResult, nat_le, ◌==◌}
use Rattle.std.specs.List.{position_from}
use Rattle.std.proofs.lemmas.Bool.{false≢true, cases_lt}
use Rattle.std.proofs.lemmas.List.{get_or-take, get_or_past, get_or_default, length-take-le}
use Rattle.sql_read.specs.declared.definition.TableDef.{TableDef}
use Rattle.sql_values.specs.Values.{Value, number, text, truth, null}
use Rattle.table_load.specs.declared.refusal.DataKind.{DataKind}
use Rattle.table_load.specs.declared.refusal.DataKind.TheVariants.{TooManyRows, FieldCount}
use Rattle.table_load.specs.Values.{same_value, value_at, field_values}
use Rattle.table_load.specs.Tables.{key_place, row_with_key, new_key, keyed_at, with_key, before_row, row_from, most_rows, record_row}
use Rattle.table_load.specs.Rules.{AreRows, RefusesAt}
use Rattle.table_load.proofs.RuleLaws.{table_rule}
use Rattle.query_answers.specs.Laws.{IsKey}
use Rattle.query_answers.specs.LoadedKeys.{LoadedKey}
use Rattle.query_answers.proofs.Joins.{same_is}

-- a row is the values of its fields
row_is : (j : ℕ) (us : List (Result Value DataKind)) (row : List Value) → row_from j us ≡ Ok row → us ≡ map (λ v. Ok v) row
row_is j [] [] e = refl
row_is j [] (v ∷ vs) e = absurd cc
row_is j (Err kind ∷ us) row e = absurd cc
row_is j (Ok u ∷ us) row e = by (row_from (j + 1) us) refl row e (λ ws h. row_is (j + 1) us ws h)
  where
    by : (r : Result (List Value) (ℕ × DataKind)) → row_from (j + 1) us ≡ r → (row : List Value) → before_row u r ≡ Ok row → ((ws : List Value) → row_from (j + 1) us ≡ Ok ws → us ≡ map (λ v. Ok v) ws) → Ok u ∷ us ≡ map (λ v. Ok v) row
    by (Err p) h row e further = absurd cc
    by (Ok ws) h [] e further = absurd cc
    by (Ok ws) h (v ∷ vs) e further =
        let first : u ≡ v = cc in
        let others : ws ≡ vs = cc in
        let tails : us ≡ map (λ w. Ok w) vs = further ws h ∙ ap (map (λ w. Ok w)) others in
        λ i. Ok (first i) ∷ tails i

-- the value in the key's column is that of no earlier row
key_is_new : (key : ℕ) (earlier : Value → Option ℕ) (us : List (Result Value DataKind)) (row : List Value) → keyed_at key earlier us ≡ map (λ v. Ok v) row → key < length row → earlier (value_at key row) ≡ None
key_is_new key earlier us [] e h = absurd (omega arith)
key_is_new key earlier [] (v ∷ vs) e h = absurd cc
key_is_new (suc key) earlier (u ∷ us) (v ∷ vs) e h = key_is_new key earlier us vs (cc) (omega arith)
key_is_new zero earlier (Err kind ∷ us) (v ∷ vs) e h = absurd cc
key_is_new zero earlier (Ok u ∷ us) (v ∷ vs) e h = by (earlier u) refl cc
  where
    by : (o : Option ℕ) → earlier u ≡ o → new_key u o ≡ Ok v → earlier v ≡ None
    by None q g = let same : u ≡ v = cc in subst (λ (w : Value). earlier w ≡ None) same q
    by (Some n) q g = absurd cc

none_passes : {A : Type 0} (p : A → Bool) (n : ℕ) (xs : List A) (d : A) (i : ℕ) → position_from p n xs ≡ None → i < length xs → p (get_or xs i d) ≡ false
none_passes p n [] d i e h = absurd (omega arith)
none_passes p n (x ∷ xs) d i e h = by (p x) refl e (λ j g l. none_passes p (n + 1) xs d j g l) i h
  where
    by : (b : Bool) → p x ≡ b → (if b then Some n else position_from p (n + 1) xs) ≡ None → ((j : ℕ) → position_from p (n + 1) xs ≡ None → j < length xs → p (get_or xs j d) ≡ false) → (i : ℕ) → i < length (x ∷ xs) → p (get_or (x ∷ xs) i d) ≡ false
    by true q g further i h = absurd cc
    by false q g further zero h = q
    by false q g further (suc i) h = further i g (omega arith)

not_null : (v : Value) → same_value v null ≡ false
not_null null = refl
not_null (number x) = refl
not_null (text x) = refl
not_null (truth x) = refl

turned : (v w : Value) → same_value v w ≡ false → same_value w v ≡ false
turned v w e = by (same_value w v) refl
  where
    by : (b : Bool) → same_value w v ≡ b → same_value w v ≡ false
    by false q = q
    by true q =
        let one : w ≡ v = same_is w v q in
        let same : same_value w v ≡ same_value v w = λ i. same_value (one i) (sym one i) in
        absurd (false≢true (sym e ∙ (sym same ∙ q)))

-- what a record makes, by its key and the tests before
abbrev record_by : TableDef → List (List Value) → List (List ℕ) → Option ℕ → Bool → Bool → Result (List Value) (ℕ × DataKind)
record_by t seen fields key full fits = if full then Err (0, TooManyRows) else if fits then row_from 1 (with_key key seen (field_values t t.columns fields)) else Err (0, FieldCount)

module _ (t : TableDef) (key : ℕ) (named : key_place t ≡ Some key) where
  -- a row that is made after some others
  made : (seen : List (List Value)) (fields : List (List ℕ)) (row : List Value) → record_row t seen fields ≡ Ok row → row_from 1 (keyed_at key (row_with_key key seen) (field_values t t.columns fields)) ≡ Ok row
  made seen fields row e =
      by (nat_le most_rows (length seen)) (length fields == length t.columns) (sym (ap (λ (o : Option ℕ). record_by t seen fields o (nat_le most_rows (length seen)) (length fields == length t.columns)) named) ∙ e)
    where
      by : (a b : Bool) → record_by t seen fields (Some key) a b ≡ Ok row → row_from 1 (keyed_at key (row_with_key key seen) (field_values t t.columns fields)) ≡ Ok row
      by true b g = absurd cc
      by false true g = g
      by false false g = absurd cc

  -- its value in the key's column is equal to none of theirs
  new_there : (seen : List (List Value)) (fields : List (List ℕ)) (row : List Value) → record_row t seen fields ≡ Ok row → (i : ℕ) (d : List Value) → i < length seen → key < length row → same_value (value_at key row) (value_at key (get_or seen i d)) ≡ false
  new_there seen fields row e i d h g =
      let values = row_is 1 (keyed_at key (row_with_key key seen) (field_values t t.columns fields)) row (made seen fields row e) in
      none_passes (λ other. same_value (value_at key row) (value_at key other)) 1 seen d i (key_is_new key (row_with_key key seen) (field_values t t.columns fields) row values g) h

  new_key_value : (seen : List (List Value)) (fields : List (List ℕ)) (row : List Value) → record_row t seen fields ≡ Ok row → (i : ℕ) (d : List Value) → i < length seen → same_value (value_at key (get_or seen i d)) (value_at key row) ≡ false
  new_key_value seen fields row e i d h =
      ⊎_elim (λ g. turned (value_at key row) (value_at key (get_or seen i d)) (new_there seen fields row e i d h g))
      (λ g. ap (λ (v : Value). same_value (value_at key (get_or seen i d)) v) (get_or_past row key null g) ∙ not_null (value_at key (get_or seen i d)))
      (cases_lt key (length row))

  keys_of_rows : (records : List (List (List ℕ))) (rows : List (List Value)) → AreRows t records rows → IsKey key rows
  keys_of_rows records rows are i j d h g =
      let within : j < length records = omega (arith, are.as_many) in
      let many : length (take j rows) ≡ j = length-take-le j rows (omega arith) in
      let row_j : get_or rows j [] ≡ get_or rows j d = get_or_default rows j [] d g in
      let row_i : get_or (take j rows) i d ≡ get_or rows i d = get_or-take j rows i d h in
      ap (λ (r : List Value). same_value (value_at key (get_or rows i d)) (value_at key r)) (sym row_j)
      ∙ (ap (λ (r : List Value). same_value (value_at key r) (value_at key (get_or rows j []))) (sym row_i)
      ∙ new_key_value (take j rows) (get_or records j []) (get_or rows j []) (are.each j within) i d (omega (arith, many)))

-- so is that of each table that was read
pub loaded : LoadedKey
loaded t records rows key e named = keys_of_rows t key named records rows (subst (λ r. MatchResult r (AreRows t records) (RefusesAt t records)) e (table_rule t records))

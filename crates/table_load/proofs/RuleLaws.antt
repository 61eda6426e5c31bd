-- The answer for each list of records is that of the rules.
use Rattle.std.proofs.Common.{◌≡◌, ◌∙◌, ℕ, zero, suc, ◌+◌, ◌<◌, List, [], ◌∷◌, ◌++◌, length, take, get_or, Result, Ok, Err, refl, sym, ap, subst, arith, append_assoc, append-nil, length-append}
use Rattle.std.specs.Prelude.{MatchResult}
use Rattle.sql_read.specs.declared.definition.TableDef.{TableDef}
use Rattle.sql_values.specs.Values.{Value}
use Rattle.table_load.specs.declared.refusal.DataKind.{DataKind}
use Rattle.table_load.specs.declared.refusal.DataRefusal.{DataRefusal}
use Rattle.table_load.specs.declared.refusal.DataRefusal.TheVariants.{Bad, NoMemory}
use Rattle.table_load.specs.Tables.{record_row, rows_after, then_rows}
use Rattle.table_load.specs.Rules.{AreRows, OneAnswer, RefusesAt, TableRule}

abbrev Records : Type 0
Records = List (List (List ℕ))

abbrev Rows : Type 0
Rows = List (List Value)

-- the same after some rows
record After (t : TableDef) (seen : Rows) (records : Records) (new : Rows) : Type 0 where
  as_many : length new ≡ length records
  each : (k : ℕ) → k < length records → record_row t (seen ++ take k new) (get_or records k []) ≡ Ok (get_or new k [])

record Made (t : TableDef) (seen : Rows) (records : Records) (rows : Rows) : Type 0 where
  new : Rows
  is : rows ≡ seen ++ new
  after : After t seen records new

record Stopped (t : TableDef) (seen : Rows) (records : Records) (n column : ℕ) (kind : DataKind) : Type 0 where
  place : ℕ
  within : place < length records
  new : Rows
  number : n ≡ length seen + place + 1
  after : After t seen (take place records) new
  refused : record_row t (seen ++ new) (get_or records place []) ≡ Err (column, kind)

abbrev StoppedBy : TableDef → Rows → Records → DataRefusal → Type 0
StoppedBy t seen records NoMemory = ⊥
StoppedBy t seen records (Bad n column kind) = Stopped t seen records n column kind

none_after : (t : TableDef) (seen : Rows) → After t seen [] []
none_after t seen = record { as_many = refl; each = λ k l. absurd (omega arith) }

-- one record more at the front
after_first : (t : TableDef) (seen : Rows) (r : List (List ℕ)) (records : Records) (row : List Value) (new : Rows) → record_row t seen r ≡ Ok row → After t (seen ++ row ∷ []) records new → After t seen (r ∷ records) (row ∷ new)
after_first t seen r records row new e h = record { as_many = ap suc h.as_many; each = at }
  where
    at : (k : ℕ) → k < length (r ∷ records) → record_row t (seen ++ take k (row ∷ new)) (get_or (r ∷ records) k []) ≡ Ok (get_or (row ∷ new) k [])
    at zero l = ap (λ (s : Rows). record_row t s r) (append-nil seen) ∙ e
    at (suc k) l = ap (λ (s : Rows). record_row t s (get_or records k [])) (sym (append_assoc seen (row ∷ []) (take k new))) ∙ h.each k (omega arith)

abbrev Decides : TableDef → Rows → Records → Result Rows DataRefusal → Type 0
Decides t seen records outcome = MatchResult outcome (Made t seen records) (StoppedBy t seen records)

onward : (t : TableDef) (seen : Rows) (r : List (List ℕ)) (records : Records) (row : List Value) → record_row t seen r ≡ Ok row → (outcome : Result Rows DataRefusal) → Decides t (seen ++ row ∷ []) records outcome → Decides t seen (r ∷ records) outcome
onward t seen r records row e (Ok rows) m = record { new = row ∷ m.new; is = m.is ∙ append_assoc seen (row ∷ []) m.new; after = after_first t seen r records row m.new e m.after }
onward t seen r records row e (Err NoMemory) m = m
onward t seen r records row e (Err (Bad n column kind)) m = record {
  place = suc m.place;
  within = omega (arith, m.within);
  new = row ∷ m.new;
  number = omega (arith, m.number, length-append seen (row ∷ []));
  after = after_first t seen r (take m.place records) row m.new e m.after;
  refused = ap (λ (s : Rows). record_row t s (get_or records m.place [])) (sym (append_assoc seen (row ∷ []) m.new)) ∙ m.refused;
}

decides : (t : TableDef) (seen : Rows) (records : Records) → Decides t seen records (rows_after t seen records)
unfolding rows_after
decides t seen [] = record { new = []; is = sym (append-nil seen); after = none_after t seen }
decides t seen (r ∷ records) = by_row (record_row t seen r) refl (λ row. decides t (seen ++ row ∷ []) records)
  where
    by_row : (o : Result (List Value) (ℕ × DataKind)) → record_row t seen r ≡ o → ((row : List Value) → Decides t (seen ++ row ∷ []) records (rows_after t (seen ++ row ∷ []) records))
        → Decides t seen (r ∷ records) (then_rows o (length seen + 1) (λ row. rows_after t (seen ++ row ∷ []) records))
    by_row (Ok row) e rest = onward t seen r records row e (rows_after t (seen ++ row ∷ []) records) (rest row)
    by_row (Err p) e rest = record {
      place = 0;
      within = omega arith;
      new = [];
      number = omega arith;
      after = none_after t seen;
      refused = ap (λ (s : Rows). record_row t s r) (append-nil seen) ∙ e;
    }

-- from no rows on
from_none : (t : TableDef) (records : Records) (outcome : Result Rows DataRefusal) → Decides t [] records outcome → MatchResult outcome (AreRows t records) (RefusesAt t records)
from_none t records (Ok rows) m = subst (AreRows t records) (sym m.is) (record { as_many = m.after.as_many; each = m.after.each })
from_none t records (Err NoMemory) m = m
from_none t records (Err (Bad n column kind)) m = (
  m.place,
  m.number ∙ omega arith,
  record {
    within = m.within;
    rows = m.new;
    before = record { as_many = m.after.as_many; each = m.after.each };
    refused = m.refused;
  },
)

pub table_rule : TableRule
table_rule t records = from_none t records (rows_after t [] records) (decides t [] records)

-- ---- what fits the rule is the answer

-- the row of the first record, and the rest after it
first_read : (t : TableDef) (seen : Rows) (r : List (List ℕ)) (records : Records) (row : List Value) (new : Rows) → After t seen (r ∷ records) (row ∷ new) → record_row t seen r ≡ Ok row
first_read t seen r records row new h = ap (λ (s : Rows). record_row t s r) (sym (append-nil seen)) ∙ h.each 0 (omega arith)

rest_after : (t : TableDef) (seen : Rows) (r : List (List ℕ)) (records : Records) (row : List Value) (new : Rows) → After t seen (r ∷ records) (row ∷ new) → After t (seen ++ row ∷ []) records new
rest_after t seen r records row new h = record {
  as_many = omega (arith, h.as_many);
  each = λ k l. ap (λ (s : Rows). record_row t s (get_or records k [])) (append_assoc seen (row ∷ []) (take k new)) ∙ h.each (suc k) (omega arith);
}

made_is : (t : TableDef) (seen : Rows) (records : Records) (new : Rows) → After t seen records new → rows_after t seen records ≡ Ok (seen ++ new)
unfolding rows_after
made_is t seen [] [] h = ap (λ (s : Rows). Ok s) (sym (append-nil seen))
made_is t seen [] (row ∷ new) h = absurd (omega (arith, h.as_many))
made_is t seen (r ∷ records) [] h = absurd (omega (arith, h.as_many))
made_is t seen (r ∷ records) (row ∷ new) h =
    rw (first_read t seen r records row new h) (made_is t (seen ++ row ∷ []) records new (rest_after t seen r records row new h) ∙ ap (λ (s : Rows). Ok s) (append_assoc seen (row ∷ []) new))

stopped_is : (t : TableDef) (seen : Rows) (records : Records) (place : ℕ) (new : Rows) (column : ℕ) (kind : DataKind) → place < length records → After t seen (take place records) new
    → record_row t (seen ++ new) (get_or records place []) ≡ Err (column, kind) → rows_after t seen records ≡ Err (Bad (length seen + place + 1) column kind)
unfolding rows_after
stopped_is t seen [] place new column kind l h e = absurd (omega arith)
stopped_is t seen (r ∷ records) zero (row ∷ new) column kind l h e = absurd (omega (arith, h.as_many))
stopped_is t seen (r ∷ records) zero [] column kind l h e =
    let here : record_row t seen r ≡ Err (column, kind) = ap (λ (s : Rows). record_row t s r) (sym (append-nil seen)) ∙ e in
    rw here (ap (λ n. Err (Bad n column kind)) (omega arith))
stopped_is t seen (r ∷ records) (suc place) [] column kind l h e = absurd (omega (arith, h.as_many))
stopped_is t seen (r ∷ records) (suc place) (row ∷ new) column kind l h e =
    let later = ap (λ (s : Rows). record_row t s (get_or records place [])) (append_assoc seen (row ∷ []) new) ∙ e in
    rw (first_read t seen r (take place records) row new h)
    (stopped_is t (seen ++ row ∷ []) records place new column kind (omega arith) (rest_after t seen r (take place records) row new h) later
    ∙ ap (λ n. Err (Bad n column kind)) (omega (arith, length-append seen (row ∷ []))))

pub one_answer : OneAnswer
one_answer t records (Ok rows) m = made_is t [] records rows (record { as_many = m.as_many; each = m.each })
one_answer t records (Err NoMemory) m = absurd m
one_answer t records (Err (Bad n column kind)) (k, number, m) =
    stopped_is t [] records k m.rows column kind m.within (record { as_many = m.before.as_many; each = m.before.each }) m.refused ∙ ap (λ i. Err (Bad i column kind)) (omega (arith, number))

-- The values of loaded tables fit slots of 128 bits.
use Rattle.std.proofs.Common.{◌≡◌, ◌∙◌, ℕ, zero, suc, ◌+◌, ◌-◌, ◌*◌, ◌^◌, ◌<◌, ◌≤◌, ℤ, pos, negsuc, neg_ℤ, Bool, true, false, cond, List, [], ◌∷◌, length, Some, refl, ap, subst, arith}
use Rattle.std.specs.Prelude.{int_le, nat_le, slice_get}
use Rattle.std.proofs.lemmas.Bool.{and_parts, false≢true, leb-true, lt-ltb}
use Rattle.std.proofs.lemmas.List.Sums.{sum_by-cons}
use Rattle.std.proofs.lemmas.Nat.{pow-add}
use Rattle.control_vectors.specs.Slots.{fits_128}
use Rattle.dict_codes.specs.Dictionaries.{rank_in}
use Rattle.number_fields.specs.Ranges.{lies_between}
use Rattle.sql_read.specs.declared.definition.ColumnDef.{ColumnDef}
use Rattle.sql_read.specs.declared.definition.ColumnKind.{ColumnKind}
use Rattle.sql_read.specs.declared.definition.ColumnKind.TheVariants as kind
use Rattle.sql_read.specs.declared.definition.TableDef.{TableDef}
use Rattle.sql_types.specs.Widths.{IsSized, IsSizedAs}
use Rattle.sql_values.specs.Texts.{is_below}
use Rattle.sql_values.specs.Values.{Value, number, text, truth, null}
use Rattle.table_load.specs.ColumnTypes.{FitsKind, FitsColumn, FitsColumns}
use Rattle.table_load.specs.Databases.{coded}
use Rattle.table_load.specs.Values.{value_at}
use Rattle.lowered_stages.specs.Parts.{fits_slot}

-- ---- numbers

most_127 : 2 ^ 127 ≡ 170141183460469231731687303715884105728
most_127 = refl

small : (n m : ℕ) → m < 2 ^ 127 → nat_le n m ≡ true → fits_128 (pos n) ≡ true
small n m l h = lt-ltb n (2 ^ 127) (omega (arith, l, leb-true n m h))

between : (a b : ℕ) → a < 2 ^ 127 → b < 2 ^ 127 → (z : ℤ) → lies_between (negsuc a) (pos b) z ≡ true → fits_128 z ≡ true
between a b l m (pos n) h = small n b m (and_parts (int_le (negsuc a) (pos n)) (int_le (pos n) (pos b)) h).1
between a b l m (negsuc n) h = small n a l (and_parts (int_le (negsuc a) (negsuc n)) (int_le (negsuc n) (pos b)) h).0

around : (m : ℕ) → m < 2 ^ 127 → (z : ℤ) → lies_between (neg_ℤ (pos m)) (pos m) z ≡ true → fits_128 z ≡ true
around zero l (pos n) h = small n zero l (and_parts (int_le (pos 0) (pos n)) (int_le (pos n) (pos 0)) h).1
around zero l (negsuc n) h = absurd (false≢true (and_parts (int_le (pos 0) (negsuc n)) (int_le (negsuc n) (pos 0)) h).0)
around (suc m) l z h = between m (suc m) (omega (arith, l)) l z h

ten_up : (p k : ℕ) → 10 ^ p ≤ 10 ^ (k + p)
ten_up p zero = let same : 0 + p ≡ p = omega arith in rw same (omega arith)
ten_up p (suc k) =
    let same : suc k + p ≡ 1 + (k + p) = omega arith in
    let times : 10 ^ (suc k + p) ≡ 10 * 10 ^ (k + p) = ap (λ (n : ℕ). 10 ^ n) same ∙ pow-add 10 1 (k + p) in
    omega (arith, times, ten_up p k)

digits_few : (p : ℕ) → p ≤ 18 → 10 ^ p - 1 < 2 ^ 127
digits_few p l =
    let up = ten_up p (18 - p) in
    let all : 18 - p + p ≡ 18 = omega (arith, l) in
    let top : 10 ^ (18 - p + p) ≡ 1000000000000000000 = ap (λ (n : ℕ). 10 ^ n) all in
    omega (arith, up, top, most_127)

number_fits : (k : ColumnKind) (width scale : ℕ) (z : ℤ) → IsSizedAs k width scale → FitsKind k width (number z) → fits_128 z ≡ true
number_fits kind.Integer width scale z sized h = between 9223372036854775807 9223372036854775807 (omega (arith, most_127)) (omega (arith, most_127)) z h
number_fits kind.Date width scale z sized h = between 719161 2932896 (omega (arith, most_127)) (omega (arith, most_127)) z h
number_fits kind.Decimal width scale z sized h = around (10 ^ width - 1) (digits_few width sized.1) z h
number_fits kind.Text width scale z sized h = absurd h

-- ---- codes

rank_few : (texts : List (List ℕ)) (t : List ℕ) → rank_in texts t ≤ length texts
rank_few [] t = omega arith
rank_few (x ∷ texts) t = omega (arith, counted, rank_few texts t, one (is_below x t))
  where
    one : (b : Bool) → cond b 1 0 ≤ 1
    one true = omega arith
    one false = omega arith

    counted : rank_in (x ∷ texts) t ≡ cond (is_below x t) 1 0 + rank_in texts t
    counted = sum_by-cons (λ y. cond (is_below y t) 1 0) x texts

-- ---- values

value_fits : (texts : List (List ℕ)) → length texts < 2 ^ 32 → (def : TableDef) (c : ColumnDef) (v : Value) → IsSized c → FitsColumn def c v → fits_slot (coded texts v) ≡ true
value_fits texts few def c (number z) sized h = number_fits c.kind c.width c.scale z sized h
value_fits texts few def c (text t) sized h = lt-ltb (rank_in texts t) (2 ^ 127) (omega (arith, few, rank_few texts t, most_127))
value_fits texts few def c (truth true) sized h = refl
value_fits texts few def c (truth false) sized h = refl
value_fits texts few def c null sized h = refl

-- a row's value in a column's place
pub row_fits : (texts : List (List ℕ)) → length texts < 2 ^ 32 → (def : TableDef) (cs : List ColumnDef) (row : List Value) (k : ℕ) (c : ColumnDef) → slice_get cs k ≡ Some c → IsSized c → FitsColumns def cs row → fits_slot (coded texts (value_at k row)) ≡ true
row_fits texts few def [] row k c at sized h = absurd cc
row_fits texts few def (d ∷ ds) [] k c at sized h = absurd h
row_fits texts few def (d ∷ ds) (v ∷ vs) zero c at sized h =
    let same : c ≡ d = cc in
    value_fits texts few def d v (subst IsSized same sized) h.0
row_fits texts few def (d ∷ ds) (v ∷ vs) (suc k) c at sized h = row_fits texts few def ds vs k c at sized h.1

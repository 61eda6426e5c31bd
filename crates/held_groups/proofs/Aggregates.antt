-- Aggregates as folds over the slots of a group.
use Rattle.std.proofs.Common.{◌≡◌, ◌∙◌, ℕ, suc, ◌<◌, ◌≤◌, ◌^◌, ℤ, pos, ◌+ℤ◌, int_div, Bool, true, false, not, if◌then◌else◌, nat_lt, List, [], ◌∷◌, map, length, Option, Some, None, Result, Ok, Err, IsOkAnd, refl, sym, ap, subst, ⊎_elim, arith}
use Rattle.std.specs.Bool.{then_some}
use Rattle.std.specs.List.{AllByRecursion, Contains, list_all}
use Rattle.std.specs.Ordering.{int_eq, is_eq}
use Rattle.std.proofs.lemmas.Bool.{false≢true}
use Rattle.std.proofs.lemmas.Bool.Decides.{nat_tests}
use Rattle.std.proofs.lemmas.Cmp.{int_cmp_total, tied_itself}
use Rattle.std.proofs.lemmas.Int.{ints}
use Rattle.std.proofs.lemmas.List.{length-map}
use Rattle.std.proofs.lemmas.List.Sums.{length-filter, count_by-le-length}
use Rattle.std.proofs.lemmas.Simd.{map-map}
use Rattle.control_vectors.specs.Slots.{Slot, Cell, numbers, fitted, in_128_bits, or_over as cell_or_over}
use Rattle.control_vectors.specs.Folds.{fold_slots, total_of, sum_of as sum_cell}
use Rattle.control_vectors.specs.declared.FoldKind.TheVariants as fold
use Rattle.control_vectors.specs.declared.Over.{Over}
use Rattle.control_vectors.specs.declared.PairKind.TheVariants.{Divide, Fill}
use Rattle.dict_codes.proofs.Members.{first_or_later}
use Rattle.slot_wise.specs.Pairs.{truth as one_for}
use Rattle.sql_values.specs.Values.{Value, number, text, truth, null}
use Rattle.table_load.specs.Databases.{coded}
use Rattle.query_trees.specs.declared.expr.Sign.TheVariants.{Plus}
use Rattle.typed_trees.specs.declared.kinds.Kind.{Kind}
use Rattle.typed_trees.specs.declared.kinds.Kind.TheVariants.{Number, Date, Text, Truth}
use Rattle.typed_trees.specs.declared.typed.AggregateKind.TheVariants.{Count, Sum, Min, Max, Avg}
use Rattle.typed_trees.specs.Kinds.{is_number}
use Rattle.typed_trees.specs.Types.{DataType}
use Rattle.typed_values.specs.Aggregates.{those_there, sum_of, mean_of, numbers_in, aggregate_over}
use Rattle.typed_values.specs.Values.{Valued, exact, or_over, with, is_null, quotient_value, value}
use Rattle.value_laws.specs.Laws.{is_of}
use Rattle.query_answers.specs.Answers.{FromRow, column_value, on_row}
use Rattle.query_answers.specs.FoldLaws.{number_slot, one_slot, is_numeric, Compare}
use Rattle.query_answers.specs.Overs.{◌>>=◌, each}
use Rattle.query_answers.proofs.Folds.{argument_laws}
use Rattle.query_answers.proofs.SlotFolds.{slot_laws}
use Rattle.expr_values.specs.Laws.{value_slot, value_cell}
use Rattle.held_groups.specs.Groups.{CanCode}
use Rattle.held_groups.specs.Aggregates.{pair_cell, nought, there, counted, cell_of_aggregate, IsFew, ThereLaw, ValuesLaw, RowsLaw, RowCountLaw}
use Rattle.held_groups.specs.Overs.{ok_value}
use Rattle.held_groups.proofs.Codes.{code_law}
use Rattle.held_groups.proofs.Sorted.{all_from, all_at}

pub there_law : ThereLaw
there_law None = refl
there_law (Some z) = ap (λ (b : Bool). pair_cell Fill (Ok (Some (one_for b))) nought) (ap is_eq (tied_itself int_cmp_total z))

-- a number that has 128 bits
few_fits : (n : ℕ) → n < 2 ^ 127 → fitted (pos n) ≡ Ok (Some (pos n))
few_fits n h = let fits : nat_lt n (2 ^ 127) ≡ true = grind (arith, nat_tests) in ap (λ (b : Bool). cell_or_over (if b then Some (pos n) else None)) fits

length_there : (vs : List Value) → length (those_there vs) ≤ length vs
length_there vs = omega (arith, length-filter (λ v. not (is_null v)) vs, count_by-le-length (λ v. not (is_null v)) vs)

module _ (texts : List (List ℕ)) where
  cell_of_bound : (r : Valued) → (r >>= λ v. Ok (coded texts v)) ≡ value_cell texts r
  cell_of_bound (Ok v) = refl
  cell_of_bound (Err e) = refl

  fitted_cell : (z : ℤ) → fitted z ≡ value_cell texts (exact z)
  fitted_cell z = by (in_128_bits z)
    where
      by : (o : Option ℤ) → cell_or_over o ≡ value_cell texts (or_over o)
      by None = refl
      by (Some x) = refl

  -- ---- counts

  there_coded : (v : Value) → there (coded texts v) ≡ one_slot v
  there_coded null = refl
  there_coded (number z) = refl
  there_coded (text t) = refl
  there_coded (truth true) = refl
  there_coded (truth false) = refl

  all_there : (vs : List Value) → map there (map (coded texts) vs) ≡ map one_slot vs
  all_there [] = refl
  all_there (v ∷ vs) = λ i. there_coded v i ∷ all_there vs i

  -- how many values are there, where there is any value
  abbrev pub count_cell : List Value → Cell
  count_cell [] = Ok None
  count_cell (v ∷ vs) = Ok (Some (pos (length (those_there (v ∷ vs)))))

  some_sum : (v : Value) (vs : List Value) → sum_cell (numbers (map one_slot (v ∷ vs))) ≡ fitted (total_of (numbers (map one_slot (v ∷ vs))))
  some_sum null vs = refl
  some_sum (number z) vs = refl
  some_sum (text t) vs = refl
  some_sum (truth b) vs = refl

  counted_is : (vs : List Value) → IsFew vs → counted (map (coded texts) vs) ≡ count_cell vs
  counted_is [] h = refl
  counted_is (v ∷ vs) h =
      ap (fold_slots fold.Sum) (all_there (v ∷ vs))
      ∙ (some_sum v vs ∙ (ap fitted (slot_laws.count (v ∷ vs)) ∙ few_fits (length (those_there (v ∷ vs))) (omega (arith, length_there (v ∷ vs), h))))

  count_is : (vs : List Value) → IsFew vs → cell_of_aggregate Count (map (coded texts) vs) ≡ value_cell texts (aggregate_over Count vs)
  count_is vs h = ap (λ (c : Cell). pair_cell Fill c nought) (counted_is vs h) ∙ by vs
    where
      by : (ws : List Value) → pair_cell Fill (count_cell ws) nought ≡ value_cell texts (aggregate_over Count ws)
      by [] = refl
      by (w ∷ ws) = refl

  -- ---- sums

  all_numeric : (vs : List Value) → AllByRecursion (λ v. is_of Number v ≡ true) vs → list_all is_numeric vs ≡ true
  all_numeric [] a = refl
  all_numeric (number z ∷ vs) a = all_numeric vs a.1
  all_numeric (null ∷ vs) a = all_numeric vs a.1
  all_numeric (text t ∷ vs) a = absurd (false≢true a.0)
  all_numeric (truth b ∷ vs) a = absurd (false≢true a.0)

  number_slots : (vs : List Value) → AllByRecursion (λ v. is_of Number v ≡ true) vs → map (coded texts) vs ≡ map number_slot vs
  number_slots [] a = refl
  number_slots (number z ∷ vs) a = ap (λ (l : List Slot). Some z ∷ l) (number_slots vs a.1)
  number_slots (null ∷ vs) a = ap (λ (l : List Slot). None ∷ l) (number_slots vs a.1)
  number_slots (text t ∷ vs) a = absurd (false≢true a.0)
  number_slots (truth b ∷ vs) a = absurd (false≢true a.0)

  number_bound : (ts : List Value) → (sum_of ts >>= λ v. Ok (number_slot v)) ≡ value_cell texts (sum_of ts)
  number_bound [] = refl
  number_bound (t ∷ ts) = by (in_128_bits (total_of (numbers_in (t ∷ ts))))
    where
      by : (o : Option ℤ) → (or_over o >>= λ v. Ok (number_slot v)) ≡ value_cell texts (or_over o)
      by None = refl
      by (Some x) = refl

  sum_is : (vs : List Value) → AllByRecursion (λ v. is_of Number v ≡ true) vs → fold_slots fold.Sum (map (coded texts) vs) ≡ value_cell texts (aggregate_over Sum vs)
  sum_is vs a = ap (fold_slots fold.Sum) (number_slots vs a) ∙ (slot_laws.sum vs (all_numeric vs a) ∙ number_bound (those_there vs))

  -- ---- means

  not_zero : (n : ℕ) → int_eq (pos (suc n)) (pos 0) ≡ false
  not_zero n = grind (arith, ints)

  plus_is : (n : ℕ) → pos 0 +ℤ pos n ≡ pos n
  plus_is n = omega (arith, ints)

  divided : (ts : List Value) → pair_cell Divide (value_cell texts (sum_of ts)) (Ok (Some (pos (length ts)))) ≡ value_cell texts (mean_of ts)
  divided [] = refl
  divided (t ∷ ts) = by (in_128_bits (total_of (numbers_in (t ∷ ts))))
    where
      by : (o : Option ℤ) → pair_cell Divide (value_cell texts (or_over o)) (Ok (Some (pos (suc (length ts))))) ≡ value_cell texts (with (or_over o) (λ sum. quotient_value sum Plus (suc (length ts))))
      by None = refl
      by (Some x) =
          ap (λ (b : Bool). if b then Ok None else fitted (int_div x (pos (suc (length ts))))) (not_zero (length ts))
          ∙ (fitted_cell (int_div x (pos (suc (length ts)))) ∙ ap (λ (d : ℤ). value_cell texts (exact (int_div x d))) (sym (plus_is (suc (length ts)))))

  mean_is : (vs : List Value) → AllByRecursion (λ v. is_of Number v ≡ true) vs → IsFew vs → cell_of_aggregate Avg (map (coded texts) vs) ≡ value_cell texts (aggregate_over Avg vs)
  mean_is [] a h = refl
  mean_is (v ∷ vs) a h = (λ i. pair_cell Divide (sum_is (v ∷ vs) a i) (counted_is (v ∷ vs) h i)) ∙ divided (those_there (v ∷ vs))

  -- ---- values of one kind

  null_can : (k : Kind) → CanCode texts k null
  null_can k = record { is = refl; known = refl }

  codes_compare : (k : Kind) (vs : List Value) → ((v : Value) → Contains vs v → CanCode texts k v) → Compare (coded texts) vs
  codes_compare k vs can a b h g = code_law texts k a b (can_all a h) (can_all b g)
    where
      can_all : (v : Value) → Contains (null ∷ vs) v → CanCode texts k v
      can_all v m = ⊎_elim (λ e. subst (CanCode texts k) e (null_can k)) (λ l. can v l) (first_or_later null v vs m)

  number_kind : (k : Kind) (t u : DataType) → then_some (is_number k) t ≡ Some u → (v : Value) → CanCode texts k v → is_of Number v ≡ true
  number_kind Number t u e v c = c.is
  number_kind Date t u e v c = absurd cc
  number_kind Text t u e v c = absurd cc
  number_kind Truth t u e v c = absurd cc

  all_numbers : (t u : DataType) (vs : List Value) → then_some (is_number t.kind) t ≡ Some u → ((v : Value) → Contains vs v → CanCode texts t.kind v) → AllByRecursion (λ v. is_of Number v ≡ true) vs
  all_numbers t u vs e can = all_from (λ v. is_of Number v ≡ true) vs (λ v m. number_kind t.kind t u e v (can v m))

pub values_law : ValuesLaw
values_law texts Count t u vs e can few = count_is texts vs few
values_law texts Sum t u vs e can few = sum_is texts vs (all_numbers texts t u vs e can)
values_law texts Min t u vs e can few = slot_laws.least (coded texts) vs refl (codes_compare texts t.kind vs can) ∙ cell_of_bound texts (aggregate_over Min vs)
values_law texts Max t u vs e can few = slot_laws.greatest (coded texts) vs refl (codes_compare texts t.kind vs can) ∙ cell_of_bound texts (aggregate_over Max vs)
values_law texts Avg t u vs e can few = mean_is texts vs (all_numbers texts t u vs e can) few

-- ---- over rows

module _ (texts : List (List ℕ)) (k : Kind) (f : FromRow → Valued) where
  abbrev pub Stand : List FromRow → Type 0
  Stand rows = AllByRecursion (λ r. IsOkAnd (f r) (CanCode texts k)) rows

  abbrev pub values_on : List FromRow → List Value
  values_on rows = map (λ r. ok_value (f r)) rows

  each_ok : (rows : List FromRow) → Stand rows → each f rows ≡ Ok (values_on rows)
  each_ok [] a = refl
  each_ok (r ∷ rows) a = by (f r) a.0 (each_ok rows a.1)
    where
      by : (v : Valued) → IsOkAnd v (CanCode texts k) → each f rows ≡ Ok (values_on rows) → (v >>= λ y. each f rows >>= λ ys. Ok (y ∷ ys)) ≡ Ok (ok_value v ∷ values_on rows)
      by (Ok v) h e = ap (λ (l : Result (List Value) Over). l >>= λ ys. Ok (v ∷ ys)) e
      by (Err e) h g = absurd h

  slots_ok : (rows : List FromRow) → map (λ r. value_slot texts (f r)) rows ≡ map (coded texts) (values_on rows)
  slots_ok [] = refl
  slots_ok (r ∷ rows) = λ i. by (f r) i ∷ slots_ok rows i
    where
      by : (v : Valued) → value_slot texts v ≡ coded texts (ok_value v)
      by (Ok v) = refl
      by (Err e) = refl

  can_ok : (rows : List FromRow) → Stand rows → AllByRecursion (CanCode texts k) (values_on rows)
  can_ok [] a = tt
  can_ok (r ∷ rows) a = (by (f r) a.0, can_ok rows a.1)
    where
      by : (v : Valued) → IsOkAnd v (CanCode texts k) → CanCode texts k (ok_value v)
      by (Ok v) h = h
      by (Err e) h = absurd h

pub rows_law : RowsLaw
rows_law texts kind t u x rows e h few =
    let f : FromRow → Valued = λ row. value (on_row row) x in
    let stand = all_from (λ r. IsOkAnd (f r) (CanCode texts t.kind)) rows h in
    let values = values_on texts t.kind f rows in
    ap (cell_of_aggregate kind) (slots_ok texts t.kind f rows)
    ∙ (values_law texts kind t u values e (all_at (CanCode texts t.kind) values (can_ok texts t.kind f rows stand)) (omega (arith, length-map rows (λ r. ok_value (f r)), few))
    ∙ sym (ap (value_cell texts) (argument_laws.over_rows kind x rows ∙ ap (λ (l : Result (List Value) Over). l >>= aggregate_over kind) (each_ok texts t.kind f rows stand))))

pub row_count_law : RowCountLaw
row_count_law texts rows few =
    let ones = map (λ (r : FromRow). number (pos 1)) rows in
    ap (cell_of_aggregate Count) (sym (map-map (coded texts) (λ (r : FromRow). number (pos 1)) rows))
    ∙ (count_is texts ones (omega (arith, length-map rows (λ (r : FromRow). number (pos 1)), few))
    ∙ ap (λ n. Ok (Some (pos n))) (all_ones rows ∙ sym (length-map rows column_value)))
  where
    all_ones : (rs : List FromRow) → length (those_there (map (λ (r : FromRow). number (pos 1)) rs)) ≡ length rs
    all_ones [] = refl
    all_ones (r ∷ rs) = ap suc (all_ones rs)

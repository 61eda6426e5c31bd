-- Aggregates of a list in two parts, over rows, and as folds over slots.
use Rattle.std.proofs.Common.{Ordering, ◌≡◌, ◌∙◌, ℕ, ℤ, pos, ◌+◌, ◌+ℤ◌, Bool, true, false, cond, not, if◌then◌else◌, List, [], ◌∷◌, ◌++◌, length, map, Some, Result, Ok, Err, refl, sym, ap, length-append, append-nil}
use Rattle.std.specs.declared.cmp.Ordering.TheVariants.{Less, Equal, Greater}
use Rattle.std.specs.List.{AllByRecursion, fold, list_all}
use Rattle.std.specs.Ordering.{is_lt, is_gt, ordering_reverse}
use Rattle.std.proofs.lemmas.Bool.{false≢true}
use Rattle.std.proofs.lemmas.Cmp.{upto}
use Rattle.std.specs.Cmp.{IsStrictWeakOrder}
use Rattle.std.proofs.lemmas.List.{length-map}
use Rattle.std.proofs.lemmas.List.Elements.{filter-append}
use Rattle.std.proofs.lemmas.List.Sorted.{ranks_by}
use Rattle.std.proofs.lemmas.Simd.{map-map}
use Rattle.std.proofs.lemmas.List.Sums.{fold-append}
use Rattle.control_vectors.specs.Folds.{total_of}
use Rattle.control_vectors.specs.declared.Over.{Over}
use Rattle.control_vectors.proofs.FoldLaws.{total_of-append}
use Rattle.query_trees.specs.declared.expr.Sign.TheVariants.{Plus}
use Rattle.sql_values.specs.Values.{Value, number, text, truth, null, by_value}
use Rattle.sql_values.proofs.Orders.{value_order}
use Rattle.typed_trees.specs.declared.typed.AggregateKind.{AggregateKind}
use Rattle.typed_trees.specs.declared.typed.AggregateKind.TheVariants.{Count, Sum, Min, Max, Avg}
use Rattle.typed_trees.specs.declared.typed.TypedExpr.{TypedExpr}
use Rattle.typed_values.specs.Aggregates.{those_there, numbers_in, lesser, greater, least_of, greatest_of, sum_of, aggregate_over, argument_over}
use Rattle.typed_values.specs.Values.{Valued, with, exact, is_null, quotient_value, all_valued, more_valued, value, value_on_row}
use Rattle.query_answers.specs.Overs.{◌>>=◌, each}
use Rattle.query_answers.specs.Answers.{FromRow, column_value, on_row}
use Rattle.query_answers.specs.FoldLaws.{lesser_there, PartLaws, ArgumentLaws}

-- ---- those that are there, and the numbers

there_append : (vs ws : List Value) → those_there (vs ++ ws) ≡ those_there vs ++ those_there ws
there_append vs ws = filter-append (λ v. not (is_null v)) vs ws

numbers_append : (vs ws : List Value) → numbers_in (vs ++ ws) ≡ numbers_in vs ++ numbers_in ws
numbers_append [] ws = refl
numbers_append (number z ∷ vs) ws = ap (λ (l : List ℤ). z ∷ l) (numbers_append vs ws)
numbers_append (text t ∷ vs) ws = numbers_append vs ws
numbers_append (truth b ∷ vs) ws = numbers_append vs ws
numbers_append (null ∷ vs) ws = numbers_append vs ws

numbers_there : (vs : List Value) → numbers_in (those_there vs) ≡ numbers_in vs
numbers_there [] = refl
numbers_there (number z ∷ vs) = ap (λ (l : List ℤ). z ∷ l) (numbers_there vs)
numbers_there (text t ∷ vs) = numbers_there vs
numbers_there (truth b ∷ vs) = numbers_there vs
numbers_there (null ∷ vs) = numbers_there vs

all_there : (vs : List Value) → AllByRecursion (λ v. is_null v ≡ false) (those_there vs)
all_there [] = tt
all_there (number z ∷ vs) = (refl, all_there vs)
all_there (text t ∷ vs) = (refl, all_there vs)
all_there (truth b ∷ vs) = (refl, all_there vs)
all_there (null ∷ vs) = all_there vs

-- ---- counts and sums

count : (vs ws : List Value) → aggregate_over Count (vs ++ ws) ≡ Ok (number (pos (length (those_there vs) + length (those_there ws))))
count vs ws = ap (λ (n : ℕ). Ok (number (pos n))) (ap (λ (l : List Value). length l) (there_append vs ws) ∙ length-append (those_there vs) (those_there ws))

none_there : (vs : List Value) → sum_of (those_there vs) ≡ (if list_all is_null vs then Ok null else exact (total_of (numbers_in (those_there vs))))
none_there [] = refl
none_there (number z ∷ vs) = refl
none_there (text t ∷ vs) = refl
none_there (truth b ∷ vs) = refl
none_there (null ∷ vs) = none_there vs

pub sum_is : (vs : List Value) → aggregate_over Sum vs ≡ (if list_all is_null vs then Ok null else exact (total_of (numbers_in vs)))
sum_is vs = none_there vs ∙ ap (λ (l : List ℤ). if list_all is_null vs then Ok null else exact (total_of l)) (numbers_there vs)

total : (vs ws : List Value) → total_of (numbers_in (vs ++ ws)) ≡ total_of (numbers_in vs) +ℤ total_of (numbers_in ws)
total vs ws = ap total_of (numbers_append vs ws) ∙ total_of-append (numbers_in vs) (numbers_in ws)

mean : (vs : List Value) → aggregate_over Avg vs ≡ (aggregate_over Sum vs >>= λ sum. quotient_value sum Plus (length (those_there vs)))
mean vs = by (sum_of (those_there vs))
  where
    by : (r : Valued) → with r (λ sum. quotient_value sum Plus (length (those_there vs))) ≡ (r >>= λ sum. quotient_value sum Plus (length (those_there vs)))
    by (Ok v) = refl
    by (Err e) = refl

-- ---- the least and the greatest

-- the second of two where the first is beyond it, by a test that orders them
module _ (beyond : Value → Value → Bool) (o : IsStrictWeakOrder beyond) where
  abbrev pick : Value → Value → Value
  pick a b = cond (beyond a b) b a

  far : (a b c : Value) → beyond a b ≡ true → beyond b c ≡ true → beyond a c ≡ true
  far a b c e f = by (beyond a c) refl
    where
      by : (x : Bool) → beyond a c ≡ x → beyond a c ≡ true
      by true g = g
      by false g = absurd (false≢true (sym (o.chain a c b g (o.one_way b c f)) ∙ e))

  pick_assoc : (a b c : Value) → pick (pick a b) c ≡ pick a (pick b c)
  pick_assoc a b c = by (beyond a b) (beyond b c) refl refl
    where
      by : (x y : Bool) → beyond a b ≡ x → beyond b c ≡ y → pick (cond x b a) c ≡ pick a (cond y c b)
      by true true e f = ap (λ (t : Bool). cond t c b) f ∙ sym (ap (λ (t : Bool). cond t c a) (far a b c e f))
      by true false e f = ap (λ (t : Bool). cond t c b) f ∙ sym (ap (λ (t : Bool). cond t b a) e)
      by false true e f = refl
      by false false e f = ap (λ (t : Bool). cond t c a) (o.chain a b c e f) ∙ sym (ap (λ (t : Bool). cond t b a) e)

  pick_from : (a b : Value) (vs : List Value) → fold pick (pick a b) vs ≡ pick a (fold pick b vs)
  pick_from a b [] = refl
  pick_from a b (v ∷ vs) = ap (λ (x : Value). fold pick x vs) (pick_assoc a b v) ∙ pick_from a (pick b v) vs

  pick_there : (a : Value) (vs : List Value) → is_null a ≡ false → AllByRecursion (λ v. is_null v ≡ false) vs → is_null (fold pick a vs) ≡ false
  pick_there a [] h g = h
  pick_there a (v ∷ vs) h g = pick_there (pick a v) vs (by (beyond a v)) g.1
    where
      by : (x : Bool) → is_null (cond x v a) ≡ false
      by true = g.0
      by false = h

  abbrev best : List Value → Valued
  best [] = Ok null
  best (v ∷ vs) = Ok (fold pick v vs)

  -- of two lists without nulls; two picks of no list but the other are the other's
  best_append : (two : Value → Value → Value) → ((v : Value) → is_null v ≡ false → (two null v ≡ v) × (two v null ≡ v)) → ((v w : Value) → is_null v ≡ false → is_null w ≡ false → two v w ≡ pick v w) → two null null ≡ null
      → (vs ws : List Value) → AllByRecursion (λ v. is_null v ≡ false) vs → AllByRecursion (λ v. is_null v ≡ false) ws → best (vs ++ ws) ≡ (best vs >>= λ a. best ws >>= λ b. Ok (two a b))
  best_append two alone both none [] [] h g = ap (λ (v : Value). Ok v) (sym none)
  best_append two alone both none [] (w ∷ ws) h g = ap (λ (v : Value). Ok v) (sym (alone (fold pick w ws) (pick_there w ws g.0 g.1)).0)
  best_append two alone both none (v ∷ vs) [] h g = ap (λ (l : List Value). Ok (fold pick v l)) (append-nil vs) ∙ ap (λ (x : Value). Ok x) (sym (alone (fold pick v vs) (pick_there v vs h.0 h.1)).1)
  best_append two alone both none (v ∷ vs) (w ∷ ws) h g =
      ap (λ (x : Value). Ok x) (fold-append pick v vs (w ∷ ws) ∙ (pick_from (fold pick v vs) w ws ∙ sym (both (fold pick v vs) (fold pick w ws) (pick_there v vs h.0 h.1) (pick_there w ws g.0 g.1))))

-- ---- by the order of values

above_order : IsStrictWeakOrder (λ a b. is_gt (by_value a b))
above_order = record { one_way = λ a b e. ap is_gt (value_order.total.antisymm b a) ∙ by (by_value a b) e; chain = λ a b c e f. upto value_order.total a b c e f }
  where
    by : (c : Ordering) → is_gt c ≡ true → is_gt (ordering_reverse c) ≡ false
    by Less e = sym e
    by Equal e = refl
    by Greater e = refl

below_order : IsStrictWeakOrder (λ a b. is_lt (by_value a b))
below_order = ranks_by value_order.total (λ (v : Value). v)

least_is : (vs : List Value) → least_of vs ≡ best (λ a b. is_gt (by_value a b)) above_order vs
least_is [] = refl
least_is (v ∷ vs) = refl

greatest_is : (vs : List Value) → greatest_of vs ≡ best (λ a b. is_lt (by_value a b)) below_order vs
greatest_is [] = refl
greatest_is (v ∷ vs) = refl

there_or_not : (a b : Value) → is_null a ≡ false → (lesser_there null a ≡ a) × (lesser_there a null ≡ a)
there_or_not a b h = (refl, ap (λ (t : Bool). if t then null else if true then a else lesser a null) h)

least : (vs ws : List Value) → aggregate_over Min (vs ++ ws) ≡ (aggregate_over Min vs >>= λ a. aggregate_over Min ws >>= λ b. Ok (lesser_there a b))
least vs ws =
    least_is (those_there (vs ++ ws))
    ∙ (ap (best (λ a b. is_gt (by_value a b)) above_order) (there_append vs ws)
    ∙ (best_append (λ a b. is_gt (by_value a b)) above_order lesser_there (λ v h. there_or_not v v h) both refl (those_there vs) (those_there ws) (all_there vs) (all_there ws)
    ∙ λ i. sym (least_is (those_there vs)) i >>= λ a. sym (least_is (those_there ws)) i >>= λ b. Ok (lesser_there a b)))
  where
    both : (v w : Value) → is_null v ≡ false → is_null w ≡ false → lesser_there v w ≡ cond (is_gt (by_value v w)) w v
    both v w h g = ap (λ (t : Bool). if t then w else if is_null w then v else lesser v w) h ∙ ap (λ (t : Bool). if t then v else lesser v w) g

below_null : (v : Value) → is_null v ≡ false → (greater null v ≡ v) × (greater v null ≡ v)
below_null (number z) h = (refl, refl)
below_null (text t) h = (refl, refl)
below_null (truth b) h = (refl, refl)
below_null null h = absurd (false≢true (sym h))

greatest : (vs ws : List Value) → aggregate_over Max (vs ++ ws) ≡ (aggregate_over Max vs >>= λ a. aggregate_over Max ws >>= λ b. Ok (greater a b))
greatest vs ws =
    greatest_is (those_there (vs ++ ws))
    ∙ (ap (best (λ a b. is_lt (by_value a b)) below_order) (there_append vs ws)
    ∙ (best_append (λ a b. is_lt (by_value a b)) below_order greater below_null (λ v w h g. refl) refl (those_there vs) (those_there ws) (all_there vs) (all_there ws)
    ∙ λ i. sym (greatest_is (those_there vs)) i >>= λ a. sym (greatest_is (those_there ws)) i >>= λ b. Ok (greater a b)))

pub part_laws : PartLaws
part_laws = record { count = count; sum_is = sum_is; total = total; least = least; greatest = greatest; mean = mean }

-- ---- over rows

values_of : (f : FromRow → Valued) (rows : List FromRow) → all_valued (map f rows) ≡ each f rows
values_of f [] = refl
values_of f (r ∷ rows) = by (f r) ∙ ap (λ (l : Result (List Value) Over). f r >>= λ y. l >>= λ ys. Ok (y ∷ ys)) (values_of f rows)
  where
    more : (v : Value) (l : Result (List Value) Over) → more_valued v l ≡ (l >>= λ ys. Ok (v ∷ ys))
    more v (Ok ys) = refl
    more v (Err e) = refl

    by : (v : Valued) → all_valued (v ∷ map f rows) ≡ (v >>= λ y. all_valued (map f rows) >>= λ ys. Ok (y ∷ ys))
    by (Ok v) = more v (all_valued (map f rows))
    by (Err e) = refl

over_rows : (kind : AggregateKind) (e : TypedExpr) (rows : List FromRow) → argument_over kind (Some e) (map column_value rows) ≡ (each (λ row. value (on_row row) e) rows >>= aggregate_over kind)
over_rows kind e rows =
    let all = ap all_valued (map-map (λ columns. value_on_row columns e) column_value rows) ∙ values_of (λ row. value (on_row row) e) rows in
    ap (λ (l : Result (List Value) Over). with l (aggregate_over kind)) all ∙ by (each (λ row. value (on_row row) e) rows)
  where
    by : (l : Result (List Value) Over) → with l (aggregate_over kind) ≡ (l >>= aggregate_over kind)
    by (Ok vs) = refl
    by (Err e) = refl

pub argument_laws : ArgumentLaws
argument_laws = record { over_rows = over_rows; count_rows = λ kind rows. ap (λ (n : ℕ). Ok (number (pos n))) (length-map rows column_value) }

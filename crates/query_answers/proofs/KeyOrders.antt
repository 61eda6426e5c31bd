-- The orders of group keys and of output rows, and their stable sorts.
use Rattle.std.proofs.Common.{Ordering, ◌≡◌, ◌∙◌, Bool, true, false, cond, not, ◌&&◌, List, [], ◌∷◌, map, refl, ap}
use Rattle.std.specs.declared.cmp.Ordering.TheVariants.{Less, Equal, Greater}
use Rattle.std.specs.Ordering.{is_lt, is_eq, ordering_then, ordering_reverse}
use Rattle.std.specs.Cmp.{IsTotalOrder, IsStrictWeakOrder}
use Rattle.std.specs.List.Sorted.{ties}
use Rattle.std.proofs.lemmas.Cmp.{lists_total, on_total, then_total, back_total}
use Rattle.std.proofs.lemmas.List.Sorted.{ranks_by}
use Rattle.sql_values.specs.Values.{Value, by_value}
use Rattle.sql_values.proofs.Orders.{value_order}
use Rattle.sort_order.specs.Orders.{inserted, sorted_by}
use Rattle.sort_order.proofs.StableSorts.{insertion_sorts, insertion_is_stable, stable_sort}
use Rattle.typed_trees.specs.declared.typed.OrderKey.{OrderKey}
use Rattle.query_answers.specs.Answers.{OutputRow, by_key, key_value, directed, by_keys, comes_before}
use Rattle.query_answers.specs.Laws.{OrderLaws}

-- ---- group keys

pub keys_total : IsTotalOrder by_key
keys_total = lists_total value_order.total

then_parts : (a b : Ordering) → ordering_then a b ≡ Equal → (a ≡ Equal) × (b ≡ Equal)
then_parts Less b e = absurd cc
then_parts Equal b e = (refl, e)
then_parts Greater b e = absurd cc

-- keys that neither is below the other are one
pub keys_alike : (a b : List Value) → by_key a b ≡ Equal → a ≡ b
keys_alike [] [] e = refl
keys_alike [] (w ∷ ws) e = absurd cc
keys_alike (v ∷ vs) [] e = absurd cc
keys_alike (v ∷ vs) (w ∷ ws) e =
    let p = then_parts (by_value v w) (by_key vs ws) e in
    let same : v ≡ w = value_order.alike v w p.0 in
    let others : vs ≡ ws = keys_alike vs ws p.1 in
    λ i. same i ∷ others i

-- what ties by an order is what it finds equal
module _ {K X : Type 0} {R : K → K → Ordering} (o : IsTotalOrder R) (key : X → K) where
  pub ties_are : (x y : X) → ties (λ a b. is_lt (R (key a) (key b))) x y ≡ is_eq (R (key x) (key y))
  ties_are x y = ap (λ (r : Ordering). not (is_lt (R (key x) (key y))) && not (is_lt r)) (o.antisymm (key y) (key x)) ∙ by (R (key x) (key y))
    where
      by : (r : Ordering) → (not (is_lt r) && not (is_lt (ordering_reverse r))) ≡ is_eq r
      by Less = refl
      by Equal = refl
      by Greater = refl

-- ---- output rows

directed_total : (b : Bool) → IsTotalOrder (directed b)
directed_total false = value_order.total
directed_total true = back_total value_order.total

pub by_keys_total : (keys : List OrderKey) → IsTotalOrder (by_keys keys)
by_keys_total [] = record { antisymm = λ a b. refl; trans = λ a b c p q. absurd cc; congr = λ a b c p. refl }
by_keys_total (k ∷ ks) = then_total (on_total (key_value k.key) (directed_total k.descending)) (by_keys_total ks)

pub comes_before_order : (keys : List OrderKey) → IsStrictWeakOrder (comes_before keys)
comes_before_order keys = ranks_by (by_keys_total keys) (λ (r : OutputRow). r)

-- ---- a sort of what places hold is the sort of the places

module _ {A B : Type 0} (lt : B → B → Bool) (f : A → B) where
  inserted_map : (x : A) (ys : List A) → inserted lt (f x) (map f ys) ≡ map f (inserted (λ a b. lt (f a) (f b)) x ys)
  inserted_map x [] = refl
  inserted_map x (y ∷ ys) = by (lt (f y) (f x)) (inserted_map x ys)
    where
      by : (b : Bool) → inserted lt (f x) (map f ys) ≡ map f (inserted (λ a b. lt (f a) (f b)) x ys)
          → cond b (f y ∷ inserted lt (f x) (map f ys)) (f x ∷ f y ∷ map f ys) ≡ map f (cond b (y ∷ inserted (λ a b. lt (f a) (f b)) x ys) (x ∷ y ∷ ys))
      by true h = ap (λ (l : List B). f y ∷ l) h
      by false h = refl

  pub sorted_map : (xs : List A) → sorted_by lt (map f xs) ≡ map f (sorted_by (λ a b. lt (f a) (f b)) xs)
  sorted_map [] = refl
  sorted_map (x ∷ xs) = ap (inserted lt (f x)) (sorted_map xs) ∙ inserted_map x (sorted_by (λ a b. lt (f a) (f b)) xs)

pub order_laws : OrderLaws
order_laws = record {
  ascends = λ keys rows. insertion_sorts (comes_before keys) (comes_before_order keys) rows;
  stable = λ keys rows. insertion_is_stable (comes_before keys) (comes_before_order keys) rows;
  only = λ keys rows sorted up ties. stable_sort (comes_before keys) (comes_before_order keys) rows sorted up ties;
  of_places = λ keys row places. sorted_map (comes_before keys) row places;
}

-- Before each fold over groups stands one Order by the group columns.
use Rattle.std.proofs.Common.{◌≡◌, ◌<◌, Bool, true, false, not, ◌&&◌, ◌||◌, List, [], ◌∷◌, ◌++◌, length, get_or, append_assoc, append-nil, refl, sym, ap, ◌∙◌, if◌then◌else◌}
use Rattle.std.specs.Prelude.{All, filter}
use Rattle.std.specs.List.{list_any, list_all}
use Rattle.std.proofs.lemmas.Bool.{and_from}
use Rattle.std.proofs.lemmas.List.Elements.{All-nil, All-cons, All-head, All-tail, filter-append}
use Rattle.std.proofs.lemmas.List.Folds.{list_all-append}
use Rattle.control_vectors.specs.Controls.{Control}
use Rattle.programs.specs.declared.op.Statement.{Statement}
use Rattle.programs.specs.Families.{Family, family, Order}
use Rattle.attribute_origins.specs.Traces.{Origin, Traces}
use Rattle.plan_obeyed.specs.Columns.{carries_some}
use Rattle.plan_obeyed.specs.Runs.{is_one}
use Rattle.plan_obeyed.specs.Groups.{with_before, each_behind, order_keys, orders_group, orders_groups, are_sorted}
use Rattle.lowered_obeys.proofs.Calm.{is_order, folds_over, Calm, Settled}
use Rattle.lowered_obeys.proofs.Folding.{Brought}
use Rattle.lowered_obeys.proofs.Grouped.{filter_none}
use Rattle.lowered_obeys.proofs.Sorting.{Sorts}

-- ---- each statement with those before it

abbrev each_of : (Statement → Bool) → (List Statement → Bool) → List Statement → List Statement → Bool
each_of test holds before l = list_all (λ p. not (test p.1) || holds p.0) (with_before before l)

before_append : (before a b : List Statement) → with_before before (a ++ b) ≡ with_before before a ++ with_before (before ++ a) b
before_append before [] b = ap (λ (l : List Statement). with_before l b) (sym (append-nil before))
before_append before (s ∷ a) b = ap (λ (l : List (List Statement × Statement)). (before, s) ∷ l) (before_append (before ++ s ∷ []) a b ∙ ap (λ (l : List Statement). with_before (before ++ s ∷ []) a ++ with_before l b) (append_assoc before (s ∷ []) a))

each_append : (test : Statement → Bool) (holds : List Statement → Bool) (before a b : List Statement) → each_of test holds before a ≡ true → each_of test holds (before ++ a) b ≡ true → each_of test holds before (a ++ b) ≡ true
each_append test holds before a b h g =
    ap (list_all (λ (p : List Statement × Statement). not (test p.1) || holds p.0)) (before_append before a b)
    ∙ list_all-append (λ (p : List Statement × Statement). not (test p.1) || holds p.0) (with_before before a) (with_before (before ++ a) b) ∙ and_from (each_of test holds before a) (each_of test holds (before ++ a) b) h g

-- where none passes the test
each_none : (test : Statement → Bool) (holds : List Statement → Bool) (l before : List Statement) → All (λ s. test s ≡ false) l → each_of test holds before l ≡ true
each_none test holds [] before h = refl
each_none test holds (s ∷ l) before h =
    ap (λ (b : Bool). (not b || holds before) && each_of test holds (before ++ s ∷ []) l) (All-head (λ s. test s ≡ false) s l h) ∙ each_none test holds l (before ++ s ∷ []) (All-tail (λ s. test s ≡ false) s l h)

-- where something stays so of those before
each_held : (test : Statement → Bool) (holds : List Statement → Bool) (H : List Statement → Type 0) → ((before : List Statement) → H before → holds before ≡ true) → (l before : List Statement) → All (λ s. (b : List Statement) → H b → H (b ++ s ∷ [])) l → H before → each_of test holds before l ≡ true
each_held test holds H so [] before more h = refl
each_held test holds H so (s ∷ l) before more h =
    ap (λ (b : Bool). (not (test s) || b) && each_of test holds (before ++ s ∷ []) l) (so before h) ∙ ap (λ (b : Bool). b && each_of test holds (before ++ s ∷ []) l) (or_true (not (test s)))
    ∙ each_held test holds H so l (before ++ s ∷ []) (All-tail (λ s. (b : List Statement) → H b → H (b ++ s ∷ [])) s l more) (All-head (λ s. (b : List Statement) → H b → H (b ++ s ∷ [])) s l more before h)
  where
    or_true : (b : Bool) → (b || true) ≡ true
    or_true true = refl
    or_true false = refl

-- ---- what is no Order has no keys

no_keys : (final : Traces) (f : Family) → is_order f ≡ false → order_keys final f ≡ []
no_keys final (Order a m p keys) e = absurd cc
no_keys final f e = refl

orders_none : (final : Traces) (groups : List Origin) (s : Statement) → is_order (family s.op) ≡ false → orders_group final groups s ≡ false
orders_none final groups s e = ap (list_any (carries_some groups)) (no_keys final (family s.op) e)

-- ---- the whole

module _ (select : Control) (groups : List Origin) (final : Traces) (some : 0 < length groups) where
  abbrev IsSorted : Statement → List Statement → Type 0
  IsSorted order before = filter (orders_group final groups) before ≡ order ∷ []

  settled_none : (l : List Statement) → All (Settled select groups final) l → All (λ s. folds_over final groups (family s.op) ≡ false) l
  settled_none l h = λ i d less. (h i d less).groupless some

  still_sorted : (order s : Statement) → is_order (family s.op) ≡ false → (before : List Statement) → IsSorted order before → IsSorted order (before ++ s ∷ [])
  still_sorted order s e before h =
      filter-append (orders_group final groups) before (s ∷ []) ∙ ap (λ (l : List Statement). l ++ filter (orders_group final groups) (s ∷ [])) h
      ∙ ap (λ (b : Bool). (order ∷ []) ++ (if b then s ∷ [] else [])) (orders_none final groups s e)

  first_sorted : (a : List Statement) (order : Statement) → All (Calm select groups final) a → Sorts select groups final order → IsSorted order (a ++ order ∷ [])
  first_sorted a order calm sorts =
      filter-append (orders_group final groups) a (order ∷ [])
      ∙ ap (λ (l : List Statement). l ++ filter (orders_group final groups) (order ∷ [])) (filter_none (orders_group final groups) a (λ i d less. orders_none final groups (get_or a i d) (calm i d less).orders))
      ∙ ap (λ (b : Bool). if b then order ∷ [] else []) sorts.some

  pub brought_law : (a : List Statement) (order : Statement) (b c : List Statement) → All (Calm select groups final) a → Sorts select groups final order → All (Brought select groups final) b → All (Settled select groups final) c
      → each_behind (λ s. folds_over final groups (family s.op)) (are_sorted final groups) (a ++ ((order ∷ b) ++ c)) ≡ true
  brought_law a order b c calm sorts brought settled =
      let test = λ (s : Statement). folds_over final groups (family s.op) in
      let holds = are_sorted final groups in
      let at : List Statement = a ++ order ∷ [] in
      let one : each_of test holds a (order ∷ []) ≡ true = each_none test holds (order ∷ []) a (All-cons (λ s. test s ≡ false) order [] (sorts.settled.groupless some) (All-nil (λ s. test s ≡ false))) in
      each_append test holds [] a ((order ∷ b) ++ c) (each_none test holds a [] (settled_none a (λ i d less. (calm i d less).settled)))
      (each_append test holds a (order ∷ []) (b ++ c) one
      (each_append test holds at b c
      (each_held test holds (IsSorted order) (λ before h. ap (is_one (orders_groups final groups)) h ∙ sorts.all) b at (λ i d less before h. still_sorted order (get_or b i d) (brought i d less).orders before h) (first_sorted a order calm sorts))
      (each_none test holds c (at ++ b) (settled_none c settled))))

-- The groups of rows are the runs of the sorted ones, whose tuples are equal where group keys are.
use Rattle.std.proofs.Common.{Ordering, ◌≡◌, ◌∙◌, ℕ, Bool, true, false, ◌&&◌, List, [], ◌∷◌, ◌++◌, map, Some, None, refl, sym, ap, subst}
use Rattle.std.specs.Prelude.{◌↔◌}
use Rattle.std.specs.declared.cmp.Ordering.TheVariants.{Less, Equal, Greater}
use Rattle.std.specs.List.{AllByRecursion, Contains, flat_map, list_all}
use Rattle.std.specs.Cmp.{IsStrictWeakOrder}
use Rattle.std.specs.Option.{option_cmp}
use Rattle.std.specs.Ordering.{int_cmp, is_eq, ordering_then}
use Rattle.std.proofs.lemmas.Bool.{false≢true}
use Rattle.std.proofs.lemmas.List.Elements.{Contains-append_left, Contains-append_right}
use Rattle.std.proofs.lemmas.List.Sorted.{ranks_by}
use Rattle.dict_codes.proofs.Members.{here, there}
use Rattle.control_vectors.specs.Slots.{Slot}
use Rattle.control_vectors.specs.Runs.{slot_eq, tuple_eq, run_marks, runs}
use Rattle.sort_order.specs.Orders.{sorted_by}
use Rattle.sort_order.proofs.StableSorts.{insertion_sorts, insertion_is_stable}
use Rattle.sql_values.specs.Values.{by_value}
use Rattle.typed_trees.specs.declared.typed.ColumnRef.{ColumnRef}
use Rattle.query_answers.specs.Answers.{FromRow, column_value, group_key, by_key}
use Rattle.query_answers.specs.Runs.{key_before, key_marks, run_group}
use Rattle.query_answers.proofs.Groups.{groups_are, marks_are}
use Rattle.query_answers.proofs.KeyOrders.{keys_total}
use Rattle.held_rows.specs.Laws.{row_before}
use Rattle.held_runs.specs.Laws.{tuple_by, row_runs}
use Rattle.held_runs.proofs.Heads.{rows_again}
use Rattle.held_groups.specs.Groups.{column_slot, column_key, AreSame, sorted_rows, run_slots, GroupLaw, MemberLaw}
use Rattle.held_groups.proofs.Codes.{code_law}
use Rattle.held_groups.proofs.Sorted.{all_from, all_at, all_sorted, Kinds, RowCanCode, kinds_of, each_can, sort_law}

-- ---- tests of all elements of lists that have the same ones

both_ways : (a b : Bool) → (a ≡ true → b ≡ true) → (b ≡ true → a ≡ true) → a ≡ b
both_ways true b f g = sym (f refl)
both_ways false true f g = g refl
both_ways false false f g = refl

module _ {X : Type 0} (p : X → Bool) where
  and_both : (a b : Bool) → (a && b) ≡ true → (a ≡ true) × (b ≡ true)
  and_both true b e = (refl, e)
  and_both false b e = absurd (false≢true e)

  passes : (xs : List X) → list_all p xs ≡ true → AllByRecursion (λ x. p x ≡ true) xs
  passes [] e = tt
  passes (x ∷ xs) e = let both = and_both (p x) (list_all p xs) e in (both.0, passes xs both.1)

  all_pass : (xs : List X) → AllByRecursion (λ x. p x ≡ true) xs → list_all p xs ≡ true
  all_pass [] a = refl
  all_pass (x ∷ xs) a = λ i. a.0 i && all_pass xs a.1 i

  within : (xs ys : List X) → ((x : X) → Contains ys x → Contains xs x) → list_all p xs ≡ true → list_all p ys ≡ true
  within xs ys h e = all_pass ys (all_from (λ x. p x ≡ true) ys (λ x g. all_at (λ x. p x ≡ true) xs (passes xs e) x (h x g)))

  same_tests : (xs ys : List X) → ((x : X) → Contains xs x ↔ Contains ys x) → list_all p xs ≡ list_all p ys
  same_tests xs ys h = both_ways (list_all p xs) (list_all p ys) (within xs ys (λ x g. (h x).1 g)) (within ys xs (λ x g. (h x).0 g))

-- ---- tuples are equal as keys are

slots_equal : (x y : Slot) → slot_eq x y ≡ is_eq (option_cmp int_cmp x y)
slots_equal None None = refl
slots_equal None (Some y) = refl
slots_equal (Some x) None = refl
slots_equal (Some x) (Some y) = refl

then_equal : (c d : Ordering) → is_eq (ordering_then c d) ≡ (is_eq c && is_eq d)
then_equal Less d = refl
then_equal Equal d = refl
then_equal Greater d = refl

-- whether two rows have equal values in a column
abbrev pub equal_in : FromRow → FromRow → ColumnRef → Bool
equal_in r s c = is_eq (by_value (column_value r c) (column_value s c))

keys_equal : (columns : List ColumnRef) (r s : FromRow) → is_eq (by_key (group_key columns r) (group_key columns s)) ≡ list_all (equal_in r s) columns
keys_equal [] r s = refl
keys_equal (c ∷ cs) r s = then_equal (by_value (column_value r c) (column_value s c)) (by_key (group_key cs r) (group_key cs s)) ∙ ap (λ (b : Bool). equal_in r s c && b) (keys_equal cs r s)

module _ (texts : List (List ℕ)) (r s : FromRow) where
  abbrev pub CanBoth : (columns : List ColumnRef) → Kinds columns → Type 0
  CanBoth columns kinds = RowCanCode texts columns kinds r × RowCanCode texts columns kinds s

  abbrev pub later_kinds : (c : ColumnRef) (cs : List ColumnRef) → Kinds (c ∷ cs) → Kinds cs
  later_kinds c cs kinds = λ d k. kinds d (there c d cs k)

  equal_slots : (c : ColumnRef) (cs : List ColumnRef) (kinds : Kinds (c ∷ cs)) → CanBoth (c ∷ cs) kinds → slot_eq (column_slot texts c r) (column_slot texts c s) ≡ equal_in r s c
  equal_slots c cs kinds h =
      slots_equal (column_slot texts c r) (column_slot texts c s)
      ∙ ap is_eq (code_law texts (kinds c (here c cs)) (column_value r c) (column_value s c) (h.0 c (here c cs)) (h.1 c (here c cs)))

  later : (c : ColumnRef) (cs : List ColumnRef) (kinds : Kinds (c ∷ cs)) → CanBoth (c ∷ cs) kinds → CanBoth cs (later_kinds c cs kinds)
  later c cs kinds h = (λ d k. h.0 d (there c d cs k), λ d k. h.1 d (there c d cs k))

  behind_equal : (behind : List ColumnRef) (kinds : Kinds behind) → CanBoth behind kinds → tuple_eq (tuple_by (map (column_slot texts) behind) r) (tuple_by (map (column_slot texts) behind) s) ≡ list_all (equal_in r s) behind
  behind_equal [] kinds h = refl
  behind_equal (c ∷ cs) kinds h = λ i. equal_slots c cs kinds h i && behind_equal cs (later_kinds c cs kinds) (later c cs kinds h) i

  tuples_equal : (front behind : List ColumnRef) (kinds : Kinds (front ++ behind)) → CanBoth (front ++ behind) kinds → tuple_eq (tuple_by (run_slots texts front behind) r) (tuple_by (run_slots texts front behind) s) ≡ list_all (equal_in r s) (front ++ behind)
  tuples_equal [] behind kinds h = behind_equal behind kinds h
  tuples_equal (c ∷ cs) behind kinds h = λ i. equal_slots c (cs ++ behind) kinds h i && tuples_equal cs behind (later_kinds c (cs ++ behind) kinds) (later c (cs ++ behind) kinds h) i

  agree : (columns front behind : List ColumnRef) (kinds : Kinds columns) → CanBoth columns kinds → AreSame columns (front ++ behind) → tuple_eq (tuple_by (run_slots texts front behind) r) (tuple_by (run_slots texts front behind) s) ≡ is_eq (by_key (group_key columns r) (group_key columns s))
  agree columns front behind kinds h same =
      let others : CanBoth (front ++ behind) (λ c k. kinds c ((same c).1 k)) = (λ c k. h.0 c ((same c).1 k), λ c k. h.1 c ((same c).1 k)) in
      tuples_equal front behind (λ c k. kinds c ((same c).1 k)) others ∙ (sym (same_tests (equal_in r s) columns (front ++ behind) same) ∙ sym (keys_equal columns r s))

-- ---- the groups

pub key_order : (columns : List ColumnRef) → IsStrictWeakOrder (key_before columns)
key_order columns = ranks_by keys_total (group_key columns)

pub group_law : GroupLaw
group_law texts c cs front behind rows can same =
    let columns = c ∷ cs in
    let sorted = sorted_rows texts columns rows in
    let is : sorted ≡ sorted_by (key_before columns) rows = sort_law texts columns rows can in
    let kinds = kinds_of texts columns rows can in
    let all : AllByRecursion (RowCanCode texts columns kinds) sorted = all_sorted (RowCanCode texts columns kinds) (row_before (map (column_key texts) columns)) rows (each_can texts columns rows can) in
    let at = all_at (RowCanCode texts columns kinds) sorted all in
    let marks : run_marks (map (tuple_by (run_slots texts front behind)) sorted) ≡ key_marks (map (group_key columns) sorted) =
    marks_are (group_key columns) (tuple_by (run_slots texts front behind)) sorted (λ r s p q. agree texts r s columns front behind kinds (at r p, at s q) same) in
    ap (λ (ms : List Bool). map (run_group columns) (runs ms sorted)) marks
    ∙ (ap (λ (l : List FromRow). map (run_group columns) (runs (key_marks (map (group_key columns) l)) l)) is
    ∙ sym (groups_are c cs rows (sorted_by (key_before columns) rows) (insertion_sorts (key_before columns) (key_order columns) rows) (insertion_is_stable (key_before columns) (key_order columns) rows)))

-- ---- the rows of runs

module _ {X : Type 0} where
  in_parts : (x : X) (parts : List (List X)) (all : List X) → ((y : X) → Contains (flat_map (λ ys. ys) parts) y → Contains all y) → AllByRecursion (λ ys. Contains ys x → Contains all x) parts
  in_parts x [] all k = tt
  in_parts x (ys ∷ parts) all k = (
    λ m. k x (Contains-append_left ys (flat_map (λ zs. zs) parts) x m),
    in_parts x parts all (λ y m. k y (Contains-append_right ys (flat_map (λ zs. zs) parts) y m)),
  )

  in_flat : (parts : List (List X)) (xs : List X) (x : X) → Contains parts xs → Contains xs x → Contains (flat_map (λ ys. ys) parts) x
  in_flat parts xs x h g = all_at (λ ys. Contains ys x → Contains (flat_map (λ zs. zs) parts) x) parts (in_parts x parts (flat_map (λ zs. zs) parts) (λ y k. k)) xs h g

pub member_law : MemberLaw
member_law texts fs columns rows run row h g =
    let sorted = sorted_rows texts columns rows in
    let member : Contains sorted row = subst (λ (l : List FromRow). Contains l row) (rows_again fs sorted) (in_flat (row_runs fs sorted) run row h g) in
    all_at (Contains rows) sorted (all_sorted (Contains rows) (row_before (map (column_key texts) columns)) rows (all_from (Contains rows) rows (λ r k. k))) row member

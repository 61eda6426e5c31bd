-- Slots that are kept as numbers with marks.
use Rattle.std.proofs.Common.{◌≡◌, ℕ, ℤ, pos, Bool, true, false, ◌||◌, not, List, [], ◌∷◌, ◌++◌, length, refl, ap, sym, ◌∙◌, arith}
use Rattle.std.specs.Prelude.{Option, Some, None, is_some, is_none, unwrap_or}
use Rattle.std.specs.List.{list_any}
use Rattle.std.proofs.lemmas.List.{length_push}
use Rattle.std.proofs.lemmas.List.Folds.{list_any-append}
use Rattle.struct_vectors.specs.Columns.{ColumnValue, KeptForm, listed_form, some_slots, marked_slot, marked_slots, has_empty}
use Rattle.struct_vectors.specs.Makers.{MakerValue, MayKeep}
use Rattle.struct_vectors.specs.Numbers.{MayHold}

not-not : (b : Bool) → not (not b) ≡ b
not-not true = refl
not-not false = refl

-- a column of such slots, kept so
abbrev pub column_of : List (Option ℤ) → KeptForm → ColumnValue
column_of slots form = record { slots = slots; form = form }

-- a slot is its number, or 0, with a mark
pub marked_slot-of_slot : (s : Option ℤ) → marked_slot (unwrap_or s (pos 0)) (is_some s) ≡ s
marked_slot-of_slot None = refl
marked_slot-of_slot (Some x) = refl

-- one slot more
pub marked_slots_more : (xs : List ℤ) (marks : List Bool) (x : ℤ) (m : Bool) → length marks ≡ length xs → marked_slots (xs ++ x ∷ []) (marks ++ m ∷ []) ≡ marked_slots xs marks ++ marked_slot x m ∷ []
marked_slots_more [] [] x m e = refl
marked_slots_more [] (k ∷ marks) x m e = absurd (omega arith)
marked_slots_more (y ∷ xs) [] x m e = absurd (omega arith)
marked_slots_more (y ∷ xs) (k ∷ marks) x m e = ap (λ (l : List (Option ℤ)). marked_slot y k ∷ l) (marked_slots_more xs marks x m (omega arith))

-- some slot is empty where some mark is not set
is_none-marked_slot : (x : ℤ) (m : Bool) → is_none (marked_slot x m) ≡ not m
is_none-marked_slot x true = refl
is_none-marked_slot x false = refl

pub has_empty-marked_slots : (xs : List ℤ) (marks : List Bool) → length marks ≡ length xs → has_empty (marked_slots xs marks) ≡ list_any not marks
has_empty-marked_slots [] [] e = refl
has_empty-marked_slots [] (k ∷ marks) e = absurd (omega arith)
has_empty-marked_slots (y ∷ xs) [] e = absurd (omega arith)
has_empty-marked_slots (y ∷ xs) (k ∷ marks) e = rw (is_none-marked_slot y k, has_empty-marked_slots xs marks (omega arith)) refl

-- where every mark is set, the slots are the numbers
pub marked_slots-all : (xs : List ℤ) (marks : List Bool) → length marks ≡ length xs → list_any not marks ≡ false → marked_slots xs marks ≡ some_slots xs
marked_slots-all [] marks e h = refl
marked_slots-all (y ∷ xs) [] e h = absurd (omega arith)
marked_slots-all (y ∷ xs) (true ∷ marks) e h = ap (λ (l : List (Option ℤ)). Some y ∷ l) (marked_slots-all xs marks (omega arith) h)
marked_slots-all (y ∷ xs) (false ∷ marks) e h = cc

or_false : (b : Bool) → (b || false) ≡ b
or_false true = refl
or_false false = refl

pub list_any_more : (marks : List Bool) (m : Bool) → list_any not (marks ++ m ∷ []) ≡ (list_any not marks || not m)
list_any_more marks m = list_any-append not marks (m ∷ []) ∙ ap (λ b. list_any not marks || b) (or_false (not m))

-- the number of a slot that may be kept
pub may_hold : (wide : Bool) (s : Option ℤ) → MayKeep wide s → MayHold wide (unwrap_or s (pos 0))
may_hold true s h = tt
may_hold false None h = record { sfits = omega arith }
may_hold false (Some x) h = h x refl

-- whether some slot is empty, with one slot more
pub empties_more : (some_empty : Bool) (marks : List Bool) (m none s : Bool) → some_empty ≡ list_any not marks → m ≡ s → s ≡ not none → (some_empty || none) ≡ list_any not (marks ++ m ∷ [])
empties_more some_empty marks m none s e em es = rw (list_any_more marks m, em, es, e) (ap (λ b. list_any not marks || b) (sym (not-not none)))

-- two makers of the same room, form and slots are one
pub same_maker : (r r' : ℕ) (w w' : Bool) (s s' : List (Option ℤ)) → r ≡ r' → w ≡ w' → s ≡ s' → let m : MakerValue = record { room = r; wide = w; slots = s } in let n : MakerValue = record { room = r'; wide = w'; slots = s' } in m ≡ n
same_maker r r' w w' s s' e f g = cc

-- the column of slots that are done
pub done_marked : (xs : List ℤ) (marks : List Bool) (wide : Bool) (r : ColumnValue) → length marks ≡ length xs → list_any not marks ≡ true → r ≡ column_of (marked_slots xs marks) (listed_form wide true) → r ≡ column_of (marked_slots xs marks) (listed_form wide (has_empty (marked_slots xs marks)))
done_marked xs marks wide r e h is = is ∙ ap (λ b. column_of (marked_slots xs marks) (listed_form wide b)) (sym (has_empty-marked_slots xs marks e ∙ h))

pub done_all : (xs : List ℤ) (marks : List Bool) (wide : Bool) (r : ColumnValue) → length marks ≡ length xs → list_any not marks ≡ false → r ≡ column_of (some_slots xs) (listed_form wide false) → r ≡ column_of (marked_slots xs marks) (listed_form wide (has_empty (marked_slots xs marks)))
done_all xs marks wide r e h is =
    is
    ∙ (ap (λ (l : List (Option ℤ)). column_of l (listed_form wide false)) (sym (marked_slots-all xs marks e h))
    ∙ ap (λ b. column_of (marked_slots xs marks) (listed_form wide b)) (sym (has_empty-marked_slots xs marks e ∙ h)))

-- numbers and marks that gain one each
pub lengths_more : (xs ys : List ℤ) (marks more : List Bool) (x : ℤ) (m : Bool) → length marks ≡ length xs → ys ≡ xs ++ x ∷ [] → more ≡ marks ++ m ∷ [] → length more ≡ length ys
lengths_more xs ys marks more x m e f g = rw (f, g) (omega (arith, length_push marks m, length_push xs x))

pub slots_more : (xs ys : List ℤ) (marks more : List Bool) (x : ℤ) (m : Bool) (s : Option ℤ) → length marks ≡ length xs → ys ≡ xs ++ x ∷ [] → more ≡ marks ++ m ∷ [] → x ≡ unwrap_or s (pos 0) → m ≡ is_some s → marked_slots ys more ≡ marked_slots xs marks ++ s ∷ []
slots_more xs ys marks more x m s e f g ex em =
    rw (f, g) (marked_slots_more xs marks x m e ∙ ap (λ (t : Option ℤ). marked_slots xs marks ++ t ∷ []) (rw (ex, em) (marked_slot-of_slot s)))

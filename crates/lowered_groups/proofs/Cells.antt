-- Cells at the places of groups: where one is Over, and what an operator makes of two where none is.
use Rattle.std.proofs.Common.{◌≡◌, ◌∙◌, ℕ, zero, suc, Bool, true, false, List, [], ◌∷◌, map, replicate, refl, sym, ap, Some, None, Result, Ok, Err}
use Rattle.std.specs.Prelude.{slice_index_or, if◌then◌else◌}
use Rattle.std.specs.List.{AllByRecursion}
use Rattle.std.proofs.lemmas.Bool.{false≢true}
use Rattle.control_vectors.specs.Slots.{Slot, Cell, over, has_over, slots_in, all_slots}
use Rattle.control_vectors.specs.declared.Over.{Over}
use Rattle.control_vectors.specs.declared.PairKind.{PairKind}
use Rattle.slot_wise.specs.Pairs.{pair_slot}
use Rattle.held_groups.specs.Aggregates.{pair_cell}
use Rattle.held_rows.specs.Held.{Held, present, column}
use Rattle.held_rows.specs.Laws.{both_at}
use Rattle.held_runs.specs.Laws.{cell_at, one_cell}
use Rattle.query_answers.specs.Overs as overs

-- the slot of a cell that is not Over
abbrev pub slot_of : Cell → Slot
slot_of (Ok s) = s
slot_of (Err e) = None

-- a part that is Over where another is
pub absorbed : {C D : Type 0} (r : Result C Over) (t : Result D Over) → ((e : Over) → r ≡ Err e → t ≡ Err e) → overs.◌>>=◌ r (λ c. t) ≡ t
absorbed (Ok c) t h = refl
absorbed (Err e) t h = sym (h e refl)

module _ {A : Type 0} (c : A → Cell) where
  abbrev pub cells : Held A → List Cell
  cells held = map (cell_at c) held

  -- no cell is Over
  abbrev pub AreOk : Held A → Type 0
  AreOk [] = Unit {0}
  AreOk (None ∷ held) = AreOk held
  AreOk (Some a ∷ held) = (c a ≡ Ok (slot_of (c a))) × AreOk held

  pub are_ok : (held : Held A) → has_over (cells held) ≡ false → AreOk held
  are_ok [] h = tt
  are_ok (None ∷ held) h = are_ok held h
  are_ok (Some a ∷ held) h = by (c a) refl (are_ok held)
    where
      by : (x : Cell) → c a ≡ x → (has_over (cells held) ≡ false → AreOk held) → (c a ≡ Ok (slot_of (c a))) × AreOk held
      by (Ok s) e further = (e ∙ ap (λ (x : Cell). Ok (slot_of x)) (sym e), further (sym (ap (λ (x : Cell). has_over (x ∷ cells held)) e) ∙ h))
      by (Err o) e further = absurd (false≢true (sym h ∙ ap (λ (x : Cell). has_over (x ∷ cells held)) e))

  pub slots_are : (held : Held A) → AreOk held → slots_in (cells held) ≡ column (λ a. slot_of (c a)) held
  slots_are [] h = refl
  slots_are (None ∷ held) h = ap (λ (l : List Slot). None ∷ l) (slots_are held h)
  slots_are (Some a ∷ held) h = ap (λ (x : Cell). slots_in (x ∷ cells held)) h.0 ∙ ap (λ (l : List Slot). slot_of (c a) ∷ l) (slots_are held h.1)

when_ok : (b : Bool) (xs ys : List Slot) → (if b then Err over else Ok ys) ≡ Ok xs → (b ≡ false) × (ys ≡ xs)
when_ok true xs ys h = absurd cc
when_ok false xs ys h = (refl, (cc))

when_over : (b : Bool) (ys : List Slot) (e : Over) → (if b then Err over else Ok ys) ≡ Err e → b ≡ true
when_over true ys e h = refl
when_over false ys e h = absurd cc

-- where none is Over they are the slots of a column
pub ok_cells : {A : Type 0} (c : A → Cell) (held : Held A) (xs : List Slot) → all_slots (cells c held) ≡ Ok xs → AreOk c held × (xs ≡ column (λ a. slot_of (c a)) held)
ok_cells c held xs h =
    let parts = when_ok (has_over (cells c held)) xs (slots_in (cells c held)) h in
    let each : AreOk c held = are_ok c held parts.0 in
    (each, sym parts.1 ∙ slots_are c held each)

pub over_cells : (xs : List Cell) (e : Over) → all_slots xs ≡ Err e → has_over xs ≡ true
over_cells xs e h = when_over (has_over xs) (slots_in xs) e h

pub all_over : (xs : List Cell) → has_over xs ≡ true → all_slots xs ≡ Err over
all_over xs h = ap (λ (b : Bool). if b then Err over else Ok (slots_in xs)) h

-- ---- cells that agree

pub agreeing : {A : Type 0} (c d : A → Cell) (held : Held A) → AllByRecursion (λ a. c a ≡ d a) (present held) → cells c held ≡ cells d held
agreeing c d [] h = refl
agreeing c d (None ∷ held) h = ap (λ (l : List Cell). Ok None ∷ l) (agreeing c d held h)
agreeing c d (Some a ∷ held) h = ap (λ (x : Cell). x ∷ cells c held) h.0 ∙ ap (λ (l : List Cell). d a ∷ l) (agreeing c d held h.1)

-- ---- two cells

module _ {A : Type 0} (kind : PairKind) (c d : A → Cell) where
  abbrev pub paired_cell : A → Cell
  paired_cell a = pair_cell kind (c a) (d a)

  pub both_cells : (held : Held A) → pair_slot kind None None ≡ Ok None → AreOk c held → AreOk d held → map (both_at kind (λ a. slot_of (c a)) (λ a. slot_of (d a))) held ≡ cells paired_cell held
  both_cells [] none h g = refl
  both_cells (None ∷ held) none h g = ap (λ (x : Cell). x ∷ map (both_at kind (λ a. slot_of (c a)) (λ a. slot_of (d a))) held) none ∙ ap (λ (l : List Cell). Ok None ∷ l) (both_cells held none h g)
  both_cells (Some a ∷ held) none h g =
      ap (λ (l : List Cell). pair_slot kind (slot_of (c a)) (slot_of (d a)) ∷ l) (both_cells held none h.1 g.1)
      ∙ ap (λ (x : Cell). x ∷ cells paired_cell held) (sym (ap (λ (x : Cell). pair_cell kind x (d a)) h.0 ∙ ap (pair_cell kind (Ok (slot_of (c a)))) g.0))

  first_over : (x y : Cell) → has_over (x ∷ []) ≡ true → has_over (pair_cell kind x y ∷ []) ≡ true
  first_over (Ok s) y h = absurd (false≢true h)
  first_over (Err e) (Ok s) h = refl
  first_over (Err e) (Err o) h = refl

  second_over : (x y : Cell) → has_over (y ∷ []) ≡ true → has_over (pair_cell kind x y ∷ []) ≡ true
  second_over x (Ok s) h = absurd (false≢true h)
  second_over (Ok s) (Err e) h = refl
  second_over (Err o) (Err e) h = refl

-- whether the first of some cells is Over, or another
over_first : (x : Cell) (xs : List Cell) → has_over (x ∷ []) ≡ true → has_over (x ∷ xs) ≡ true
over_first (Ok s) xs h = absurd (false≢true h)
over_first (Err e) xs h = refl

over_later : (x : Cell) (xs : List Cell) → has_over xs ≡ true → has_over (x ∷ xs) ≡ true
over_later (Ok s) xs h = h
over_later (Err e) xs h = refl

-- a cell that is Over where another is, at each place
pub spreads : {A : Type 0} (c d : A → Cell) → ((a : A) → has_over (c a ∷ []) ≡ true → has_over (d a ∷ []) ≡ true) → (held : Held A) → has_over (cells c held) ≡ true → has_over (cells d held) ≡ true
spreads c d f [] h = absurd (false≢true h)
spreads c d f (None ∷ held) h = spreads c d f held h
spreads c d f (Some a ∷ held) h = by (c a) refl (spreads c d f held)
  where
    by : (x : Cell) → c a ≡ x → (has_over (cells c held) ≡ true → has_over (cells d held) ≡ true) → has_over (d a ∷ cells d held) ≡ true
    by (Ok s) e further = over_later (d a) (cells d held) (further (sym (ap (λ (x : Cell). has_over (x ∷ cells c held)) e) ∙ h))
    by (Err o) e further = over_first (d a) (cells d held) (f a (ap (λ (x : Cell). has_over (x ∷ [])) e))

pub first_spreads : {A : Type 0} (kind : PairKind) (c d : A → Cell) (held : Held A) (e : Over) → all_slots (cells c held) ≡ Err e → all_slots (cells (paired_cell kind c d) held) ≡ Err e
first_spreads kind c d held e h = all_over (cells (paired_cell kind c d) held) (spreads c (paired_cell kind c d) (λ a. first_over kind c d (c a) (d a)) held (over_cells (cells c held) e h))

pub second_spreads : {A : Type 0} (kind : PairKind) (c d : A → Cell) (held : Held A) (e : Over) → all_slots (cells d held) ≡ Err e → all_slots (cells (paired_cell kind c d) held) ≡ Err e
second_spreads kind c d held e h = all_over (cells (paired_cell kind c d) held) (spreads d (paired_cell kind c d) (λ a. second_over kind c d (c a) (d a)) held (over_cells (cells d held) e h))

-- ---- one cell

pub first_of : (n : ℕ) (x : Cell) → (n ≡ 0 → x ≡ Ok None) → (xs : List Slot) → all_slots (one_cell n x) ≡ Ok xs → all_slots (x ∷ []) ≡ Ok (slice_index_or xs 0 None ∷ [])
first_of zero x none xs h = ap (λ (y : Cell). all_slots (y ∷ [])) (none refl) ∙ ap (λ (l : List Slot). Ok (slice_index_or l 0 None ∷ [])) (when_ok false xs [] h).1
first_of (suc n) (Ok s) none xs h = ap (λ (l : List Slot). Ok (slice_index_or l 0 None ∷ [])) (when_ok (has_over (Ok s ∷ replicate n (Ok None))) xs (slots_in (Ok s ∷ replicate n (Ok None))) h).1
first_of (suc n) (Err e) none xs h = absurd cc

nothing_over : (n : ℕ) → has_over (replicate n (Ok None)) ≡ false
nothing_over zero = refl
nothing_over (suc n) = nothing_over n

pub first_over_of : (n : ℕ) (x : Cell) (e : Over) → all_slots (one_cell n x) ≡ Err e → all_slots (x ∷ []) ≡ Err e
first_over_of zero x e h = absurd cc
first_over_of (suc n) (Ok s) e h = absurd (false≢true (sym (nothing_over n) ∙ when_over (has_over (replicate n (Ok None))) (slots_in (Ok s ∷ replicate n (Ok None))) e h))
first_over_of (suc n) (Err o) e h = refl

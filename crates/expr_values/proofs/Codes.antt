-- What a piece of code makes at one place, behind what is made already.
use Rattle.std.proofs.Common.{◌≡◌, ℕ, ◌+◌, ℤ, pos, false, true, List, [], ◌∷◌, ◌++◌, length, get_or, Some, None, Result, Ok, Err, refl, sym, ap, ◌∙◌, subst, arith, append_assoc, append-nil, length-append}
use Rattle.control_vectors.specs.Slots.{Slot, Cell}
use Rattle.control_vectors.specs.declared.Over.{Over}
use Rattle.control_vectors.specs.declared.PairKind.{PairKind}
use Rattle.slot_wise.specs.Pairs.{pair_slot}
use Rattle.expr_steps.specs.declared.steps.Source.{Source}
use Rattle.expr_steps.specs.declared.steps.Source.TheVariants.{Number}
use Rattle.expr_steps.specs.declared.steps.Step.{Step}
use Rattle.expr_steps.specs.Codes.{Code, Coded, from_source, pair_step, one, and_then}
use Rattle.expr_steps.specs.Lowered.{zero, unit}
use Rattle.expr_values.specs.Places.{Place, slot_from, step_cell, with_cell, made_by}

-- ---- sources

-- a source that has this slot, whatever else is made
abbrev pub Stands : Place → List Slot → Source → Slot → Type 0
Stands p made x s = (more : List Slot) → slot_from p (made ++ more) x ≡ s

pub still : (p : Place) (made new : List Slot) (x : Source) (s : Slot) → Stands p made x s → Stands p (made ++ new) x s
still p made new x s h more = ap (λ (l : List Slot). slot_from p l x) (append_assoc made new more) ∙ h (new ++ more)

pub now : (p : Place) (made : List Slot) (x : Source) (s : Slot) → Stands p made x s → slot_from p made x ≡ s
now p made x s h = ap (λ (l : List Slot). slot_from p l x) (sym (append-nil made)) ∙ h []

pub number_stands : (p : Place) (made : List Slot) (z : ℤ) → Stands p made (Number z) (Some z)
number_stands p made z more = refl

-- the 0 and the 1 that stand before all others
pub record Begins (p : Place) (made : List Slot) : Type 0 where
  pub zero : Stands p made zero (Some (pos 0))
  pub unit : Stands p made unit (Some (pos 1))

-- ---- codes

-- what a piece makes, and the slot that its result has from then on
pub record Makes (p : Place) (made : List Slot) (c : Coded) (s : Slot) : Type 0 where
  pub new : List Slot
  pub is : made_by p c.steps made ≡ Ok (made ++ new)
  pub stands : Stands p (made ++ new) c.result s

-- a piece that is numbered behind what is made: it is Over, or leaves a slot
abbrev pub Gives : Place → List Slot → Code → Cell → Type 0
Gives p made m (Ok s) = Makes p made (m (length made)) s
Gives p made m (Err e) = made_by p (m (length made)).steps made ≡ Err e

pub as_cell : (p : Place) (made : List Slot) (m : Code) (r q : Cell) → r ≡ q → Gives p made m r → Gives p made m q
as_cell p made m r q e h = subst (λ (c : Cell). Gives p made m c) e h

pub source_gives : (p : Place) (made : List Slot) (x : Source) (s : Slot) → Stands p made x s → Gives p made (from_source x) (Ok s)
source_gives p made x s h = record { new = []; is = ap (λ l. Ok l) (sym (append-nil made)); stands = still p made [] x s h }

slot_behind : (made : List Slot) (s : Slot) (more : List Slot) → get_or ((made ++ s ∷ []) ++ more) (length made) None ≡ s
slot_behind [] s more = refl
slot_behind (x ∷ made) s more = slot_behind made s more

pub one_gives : (p : Place) (made : List Slot) (kind : PairKind) (x y : Source) (s t : Slot) → Stands p made x s → Stands p made y t → Gives p made (one kind x y) (pair_slot kind s t)
one_gives p made kind x y s t h g = by (pair_slot kind s t) (λ i. pair_slot kind (now p made x s h i) (now p made y t g i))
  where
    by : (r : Cell) → step_cell p made (pair_step kind x y) ≡ r → Gives p made (one kind x y) r
    by (Ok v) e = record { new = v ∷ []; is = ap (λ (c : Cell). with_cell made c (made_by p [])) e; stands = slot_behind made v }
    by (Err o) e = ap (λ (c : Cell). with_cell made c (made_by p [])) e

-- ---- one piece behind another

abbrev pub then_made : Result (List Slot) Over → (List Slot → Result (List Slot) Over) → Result (List Slot) Over
then_made (Ok l) f = f l
then_made (Err e) f = Err e

pub made_append : (p : Place) (a b : List Step) (made : List Slot) → made_by p (a ++ b) made ≡ then_made (made_by p a made) (made_by p b)
made_append p [] b made = refl
made_append p (step ∷ a) b made = by (λ x. made_append p a b (made ++ x ∷ [])) (step_cell p made step)
  where
    by : ((x : Slot) → made_by p (a ++ b) (made ++ x ∷ []) ≡ then_made (made_by p a (made ++ x ∷ [])) (made_by p b)) → (c : Cell) → with_cell made c (made_by p (a ++ b)) ≡ then_made (with_cell made c (made_by p a)) (made_by p b)
    by rest (Ok x) = rest x
    by rest (Err e) = refl

IsLonger : List Slot → List Step → Result (List Slot) Over → Type 0
IsLonger made a (Ok l) = length l ≡ length made + length a
IsLonger made a (Err e) = ℕ

made_length : (p : Place) (a : List Step) (made : List Slot) → IsLonger made a (made_by p a made)
unfolding IsLonger
made_length p [] made = omega arith
made_length p (step ∷ a) made = by (λ x. made_length p a (made ++ x ∷ [])) (step_cell p made step)
  where
    longer : (x : Slot) (r : Result (List Slot) Over) → IsLonger (made ++ x ∷ []) a r → IsLonger made (step ∷ a) r
    longer x (Ok l) h = h ∙ (ap (λ (n : ℕ). n + length a) (length-append made (x ∷ [])) ∙ omega arith)
    longer x (Err e) h = 0

    by : ((x : Slot) → IsLonger (made ++ x ∷ []) a (made_by p a (made ++ x ∷ []))) → (c : Cell) → IsLonger made (step ∷ a) (with_cell made c (made_by p a))
    by rest (Ok x) = longer x (made_by p a (made ++ x ∷ [])) (rest x)
    by rest (Err e) = 0

-- what stands behind a piece is numbered from there
pub next_number : (p : Place) (made : List Slot) (c : Coded) (s : Slot) (h : Makes p made c s) → length (made ++ h.new) ≡ length made + length c.steps
unfolding IsLonger
next_number p made c s h = subst (λ (r : Result (List Slot) Over). IsLonger made c.steps r) h.is (made_length p c.steps made)

abbrev pub then_cell : Cell → (Slot → Cell) → Cell
then_cell (Ok s) g = g s
then_cell (Err e) g = Err e

pub slot_same : (s t : Slot) → (let c : Cell = Ok s in c ≡ Ok t) → s ≡ t
slot_same s t e = cc

pub never : (e : Over) (t : Slot) → (let c : Cell = Err e in c ≡ Ok t) → false ≡ true
never e t h = absurd (cc)

behind : (p : Place) (made : List Slot) (m : Code) (f : Source → Code) (s : Slot) (h : Makes p made (m (length made)) s) (q : Cell) → Gives p (made ++ h.new) (f (m (length made)).result) q → Gives p made (and_then m f) q
behind p made m f s h q g = by q g
  where
    number : f (m (length made)).result (length (made ++ h.new)) ≡ f (m (length made)).result (length made + length (m (length made)).steps)
    number = ap (f (m (length made)).result) (next_number p made (m (length made)) s h)

    whole : (r : Result (List Slot) Over) → made_by p (f (m (length made)).result (length (made ++ h.new))).steps (made ++ h.new) ≡ r → made_by p (and_then m f (length made)).steps made ≡ r
    whole r e =
        made_append p (m (length made)).steps (f (m (length made)).result (length made + length (m (length made)).steps)).steps made
        ∙ (ap (λ (l : Result (List Slot) Over). then_made l (made_by p (f (m (length made)).result (length made + length (m (length made)).steps)).steps)) h.is ∙ (ap (λ (c : Coded). made_by p c.steps (made ++ h.new)) (sym number) ∙ e))

    by : (q : Cell) → Gives p (made ++ h.new) (f (m (length made)).result) q → Gives p made (and_then m f) q
    by (Ok t) g = record {
      new = h.new ++ g.new;
      is = whole (Ok ((made ++ h.new) ++ g.new)) g.is ∙ ap (λ l. Ok l) (append_assoc made h.new g.new);
      stands =
          let there : Stands p ((made ++ h.new) ++ g.new) (f (m (length made)).result (length made + length (m (length made)).steps)).result t = subst (λ (c : Coded). Stands p ((made ++ h.new) ++ g.new) c.result t) number g.stands in
          subst (λ (l : List Slot). Stands p l (f (m (length made)).result (length made + length (m (length made)).steps)).result t) (append_assoc made h.new g.new) there;
    }
    by (Err e) g = whole (Err e) g

-- whatever stands behind the one stands behind the other
abbrev pub Later : Place → List Slot → List Slot → Type 0
Later p made l = (x : Source) (s : Slot) → Stands p made x s → Stands p l x s

pub begins_later : (p : Place) (made l : List Slot) → Later p made l → Begins p made → Begins p l
begins_later p made l later b = record { zero = later zero (Some (pos 0)) b.zero; unit = later unit (Some (pos 1)) b.unit }

pub then_gives : (p : Place) (made : List Slot) (m : Code) (f : Source → Code) (r : Cell) (g : Slot → Cell) → Gives p made m r → ((l : List Slot) → Later p made l → (x : Source) (s : Slot) → r ≡ Ok s → Stands p l x s → Gives p l (f x) (g s)) →
    Gives p made (and_then m f) (then_cell r g)
then_gives p made m f (Ok s) g h next = behind p made m f s h (g s) (next (made ++ h.new) (still p made h.new) (m (length made)).result s refl h.stands)
then_gives p made m f (Err e) g h next =
    let number = length made + length (m (length made)).steps in
    made_append p (m (length made)).steps (f (m (length made)).result number).steps made ∙ ap (λ (l : Result (List Slot) Over). then_made l (made_by p (f (m (length made)).result number).steps)) h

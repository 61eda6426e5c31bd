-- What results show stands where they come last.
use Rattle.std.proofs.Common.{◌≡◌, Bool, true, false, ◌||◌, List, [], ◌∷◌, ◌++◌, refl, sym, ap, ◌∙◌, if◌then◌else◌, Option, Some, None, Ok, Err}
use Rattle.std.specs.Prelude.{is_some}
use Rattle.std.specs.List.{list_any}
use Rattle.std.specs.Str.{bytes_eq}
use Rattle.programs.specs.declared.op.ProgramKind.{ProgramKind}
use Rattle.programs.specs.declared.op.Statement.{Statement}
use Rattle.programs.specs.Check.{Known, Checked, fault_of, after_fault, with_result, with_vector, learn, check_one, then_check, check_from}
use Rattle.programs.specs.Families.{Family, family, Persist}
use Rattle.programs.specs.MadeOutlines.{made_outline}
use Rattle.programs.specs.Mentions.{Label, shows_result, is_persist}
use Rattle.programs.specs.Outlines.{Outline, Shapes}
use Rattle.programs.proofs.CheckSteps.{sound_of}
use Rattle.writer_runs.specs.Laws.{StandLaws}
use Rattle.writer_runs.specs.Uses.{StandsBy, ResultsStand, ShowsNothing}
use Rattle.writer_runs.proofs.Names.{name_same}

alone : (f : Family) → StandsBy f []
alone (Persist a) = tt
alone f = tt

nothing_shown : (f : Family) (rest : List Statement) → shows_result f ≡ false → StandsBy f rest
nothing_shown (Persist a) rest h = absurd cc
nothing_shown f rest h = tt

pub or_none : (x y : Bool) → (x || y) ≡ false → (x ≡ false) × (y ≡ false)
or_none true y h = absurd cc
or_none false y h = (refl, h)

and_none : (x y : Bool) → x ≡ false → y ≡ false → (x || y) ≡ false
and_none true y h k = absurd cc
and_none false y h k = k

pub at_end : (a : List Statement) (s : Statement) → ShowsNothing a → ResultsStand (a ++ s ∷ [])
at_end [] s h = (alone (family s.op), tt)
at_end (t ∷ a) s h =
    let both = or_none (is_persist t.op) (list_any (λ s. is_persist s.op) a) h in
    (nothing_shown (family t.op) (a ++ s ∷ []) both.0, at_end a s both.1)

append : (a b : List Statement) → ShowsNothing a → ShowsNothing b → ShowsNothing (a ++ b)
append [] b ha hb = hb
append (s ∷ a) b ha hb =
    let both = or_none (is_persist s.op) (list_any (λ s. is_persist s.op) a) ha in
    and_none (is_persist s.op) (list_any (λ s. is_persist s.op) (a ++ b)) both.0 (append a b both.1 hb)

-- ---- a check behind which the results are as before

record Then (r : Checked) (f : Known → Checked) (after : Known) : Type 0 where
  next : Known
  first : r ≡ Ok next
  rest : f next ≡ Ok after

then_of : (r : Checked) (f : Known → Checked) (after : Known) → then_check r f ≡ Ok after → Then r f after
then_of (Err e) f after h = absurd cc
then_of (Ok known) f after h = record { next = known; first = refl; rest = h }

no_fault : (known l next : Known) (o : Option ProgramKind) → after_fault known l o ≡ Ok next → (o ≡ None) × (l ≡ next)
no_fault known l next (Some kind) h = absurd cc
no_fault known l next None h = (refl, cc)

results_grow_by : (b : Bool) (known : Known) (n : Label) (o : Outline) (m : Label) → known.results m ≡ true → (if b then with_result known n else with_vector known n o).results m ≡ true
results_grow_by true known n o m h = by (bytes_eq n m)
  where
    by : (b : Bool) → (if b then true else known.results m) ≡ true
    by true = refl
    by false = h
results_grow_by false known n o m h = h

results_grow : (tables : Shapes) (a : List Statement) (known after : Known) (m : Label) → check_from tables a known ≡ Ok after → known.results m ≡ true → after.results m ≡ true
results_grow tables [] known after m e h = let same : known ≡ after = cc in ap (λ (k : Known). k.results m) (sym same) ∙ h
results_grow tables (s ∷ a) known after m e h =
    let t = then_of (check_one tables known s.name s.op) (check_from tables a) after e in
    let one = no_fault known (learn tables known s.name s.op) t.next (fault_of tables known s.name s.op) t.first in
    results_grow tables a t.next after m t.rest (ap (λ (k : Known). k.results m) (sym one.1) ∙ results_grow_by (is_persist s.op) known s.name (made_outline tables known.vectors s.op) m h)

-- a result's name is new, and known behind it
shown_once : (b : Bool) (known : Known) (n : Label) (o : Outline) (taken : Bool) → b ≡ true → (if b then known.results n else taken) ≡ false → bytes_eq n n ≡ true
    → (known.results n ≡ false) × ((if b then with_result known n else with_vector known n o).results n ≡ true)
shown_once true known n o taken e once same = (once, ap (λ (b : Bool). if b then true else known.results n) same)
shown_once false known n o taken e once same = absurd cc

kept_results : (b : Bool) (known : Known) (n : Label) (o : Outline) → b ≡ false → (if b then with_result known n else with_vector known n o).results ≡ known.results
kept_results true known n o e = absurd cc
kept_results false known n o e = refl

shows_none : (b : Bool) → (b ≡ true → ⊥) → b ≡ false
shows_none true h = absurd (h refl)
shows_none false h = refl

passed : (tables : Shapes) (a : List Statement) (known after : Known) → check_from tables a known ≡ Ok after → after.results ≡ known.results → ShowsNothing a
passed tables [] known after e same = refl
passed tables (s ∷ a) known after e same =
    let t = then_of (check_one tables known s.name s.op) (check_from tables a) after e in
    let one = no_fault known (learn tables known s.name s.op) t.next (fault_of tables known s.name s.op) t.first in
    let made = made_outline tables known.vectors s.op in
    let none = shows_none (is_persist s.op) (λ shows.
    let once = shown_once (is_persist s.op) known s.name made (is_some (known.vectors s.name)) shows (sound_of tables known s.name s.op one.0).once (name_same s.name) in
    let after_one : t.next.results s.name ≡ true = ap (λ (k : Known). k.results s.name) (sym one.1) ∙ once.1 in
    let after_all : after.results s.name ≡ true = results_grow tables a t.next after s.name t.rest after_one in
    let before : known.results s.name ≡ true = ap (λ (r : Label → Bool). r s.name) (sym same) ∙ after_all in
    let once_not = once.0 in
    absurd cc) in
    and_none (is_persist s.op) (list_any (λ s. is_persist s.op) a) none (passed tables a t.next after t.rest (same ∙ sym (kept_results (is_persist s.op) known s.name made none) ∙ ap (λ (k : Known). k.results) one.1))

pub stand_laws : StandLaws
stand_laws = record { at_end = at_end; append = append; passed = passed }

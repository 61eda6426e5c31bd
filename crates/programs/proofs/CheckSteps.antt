-- A statement that is no fault has a draft without a clash.
use Rattle.std.proofs.Common.{◌≡◌, ℕ, ◌+◌, ◌<◌, List, ◌∷◌, drop, length, get_or, Bool, true, false, refl, ap, sym, ◌∙◌, Option, Some, None, Ok, if◌then◌else◌}
use Rattle.std.proofs.lemmas.List.{drop_more}
use Rattle.programs.specs.declared.check.ProgramRefusal.{ProgramRefusal}
use Rattle.programs.specs.declared.check.ProgramRefusal.TheVariants as program
use Rattle.programs.specs.declared.op.Op.{Op}
use Rattle.programs.specs.declared.op.Statement.{Statement}
use Rattle.programs.specs.declared.op.ProgramKind.{ProgramKind}
use Rattle.programs.specs.Mentions.{Label}
use Rattle.programs.specs.Outlines.{Outline, Shapes}
use Rattle.programs.specs.MadeOutlines.{made_outline}
use Rattle.programs.specs.Faults.{unknown_name, no_such_path, no_length, path_clash, too_deep, too_many_keys}
use Rattle.programs.specs.Check.{Known, Checked, name_twice, fault_of, after_fault, then_check, learn, known_behind, check_one, check_from, at_start}
use Rattle.programs.specs.Refusals.{RefusesAt}

if_none : (b : Bool) (k : ProgramKind) (o : Option ProgramKind) → (if b then Some k else o) ≡ None → (b ≡ false) × (o ≡ None)
if_none true k o e = absurd cc
if_none false k o e = (refl, e)

-- what holds of a statement that is no fault
pub record Sound (tables : Shapes) (known : Known) (n : Label) (op : Op) : Type 0 where
  pub names : unknown_name tables known.vectors op ≡ false
  pub paths : no_such_path known.vectors op ≡ false
  pub long : no_length op ≡ false
  pub clear : path_clash (made_outline tables known.vectors op) ≡ false
  pub shallow : too_deep (made_outline tables known.vectors op) ≡ false
  pub keys : too_many_keys op ≡ false
  pub once : name_twice known n op ≡ false

pub sound_of : (tables : Shapes) (known : Known) (n : Label) (op : Op) → fault_of tables known n op ≡ None → Sound tables known n op
sound_of tables known n op e =
    let a = if_none (unknown_name tables known.vectors op) _ _ e in
    let b = if_none (no_such_path known.vectors op) _ _ a.1 in
    let c = if_none (no_length op) _ _ b.1 in
    let d = if_none (path_clash (made_outline tables known.vectors op)) _ _ c.1 in
    let f = if_none (too_deep (made_outline tables known.vectors op)) _ _ d.1 in
    let g = if_none (too_many_keys op) _ _ f.1 in
    let h = if_none (name_twice known n op) _ _ g.1 in
    record { names = a.0; paths = b.0; long = c.0; clear = d.0; shallow = f.0; keys = g.0; once = h.0 }

pub drafted_clear : (drafted meant : Outline) → drafted ≡ meant → path_clash meant ≡ false → path_clash drafted ≡ false
drafted_clear drafted meant e h = ap path_clash e ∙ h

-- ---- one statement that is no fault, and one that is
pub learned_one : (T : Shapes) (known k : Known) (n : Label) (op : Op) (drafted : Outline) → None ≡ fault_of T known n op → drafted ≡ made_outline T known.vectors op → k ≡ known_behind known n op drafted → check_one T known n op ≡ Ok k
learned_one T known k n op drafted e d is =
    ap (after_fault known (learn T known n op)) (sym e) ∙ ap (λ (o : Outline). Ok (known_behind known n op o)) (sym d) ∙ ap (λ (x : Known). Ok x) (sym is)

-- the statements from a place on, by the first of them
check_here : (T : Shapes) (statements : List Statement) (i : ℕ) (s : Statement) (known : Known) → i < length statements → s ≡ get_or statements i s → check_from T (drop i statements) known ≡ then_check (check_one T known s.name s.op) (check_from T (drop (i + 1) statements))
check_here T statements i s known h is = ap (λ (l : List Statement). check_from T l known) (drop_more statements i s h ∙ ap (λ (x : Statement). x ∷ drop (i + 1) statements) (sym is))

pub check_next : (T : Shapes) (statements : List Statement) (i : ℕ) (s : Statement) (known next : Known) → i < length statements → s ≡ get_or statements i s → check_one T known s.name s.op ≡ Ok next → check_from T statements at_start ≡ check_from T (drop i statements) known → check_from T statements at_start ≡ check_from T (drop (i + 1) statements) next
check_next T statements i s known next h is e so_far = so_far ∙ check_here T statements i s known h is ∙ ap (λ (r : Checked). then_check r (check_from T (drop (i + 1) statements))) e

pub check_stops : (T : Shapes) (statements : List Statement) (i : ℕ) (s : Statement) (known : Known) (e : ProgramRefusal) → i < length statements → s ≡ get_or statements i s → RefusesAt (check_one T known s.name s.op) e → check_from T statements at_start ≡ check_from T (drop i statements) known → RefusesAt (check_from T statements at_start) e
check_stops T statements i s known (program.Bad n kind) h is e so_far = so_far ∙ check_here T statements i s known h is ∙ ap (λ (r : Checked). then_check r (check_from T (drop (i + 1) statements))) e
check_stops T statements i s known program.NoMemory h is e so_far = tt

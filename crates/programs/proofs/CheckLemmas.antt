-- Checks compose, and statements leave what is known of other names alone.
use Rattle.std.proofs.Common.{◌≡◌, List, [], ◌∷◌, ◌++◌, Bool, true, false, refl, sym, ap, ◌∙◌, Option, Some, None, Ok, Err, if◌then◌else◌}
use Rattle.std.specs.Str.{bytes_eq}
use Rattle.programs.specs.declared.op.Op.{Op}
use Rattle.programs.specs.declared.op.ProgramKind.{ProgramKind}
use Rattle.programs.specs.declared.op.Statement.{Statement}
use Rattle.programs.specs.Mentions.{Label, is_persist}
use Rattle.programs.specs.Outlines.{Outline, Shapes, add_shape}
use Rattle.programs.specs.MadeOutlines.{made_outline}
use Rattle.programs.specs.Laws.{Avoids, CheckLaws}
use Rattle.programs.specs.Check.{Known, with_result, with_vector, learn, fault_of, Checked, after_fault, check_one, then_check, check_from}

then_same : (r : Checked) (f g : Known → Checked) → ((k : Known) → f k ≡ g k) → then_check r f ≡ then_check r g
then_same (Err e) f g same = refl
then_same (Ok known) f g same = same known

then_then : (r : Checked) (f g : Known → Checked) → then_check (then_check r f) g ≡ then_check r (λ k. then_check (f k) g)
then_then (Err e) f g = refl
then_then (Ok known) f g = refl

pub check_from-append : (tables : Shapes) (a b : List Statement) (known : Known) → check_from tables (a ++ b) known ≡ then_check (check_from tables a known) (check_from tables b)
check_from-append tables [] b known = refl
check_from-append tables (s ∷ a) b known =
    then_same (check_one tables known s.name s.op) _ _ (λ k. check_from-append tables a b k)
    ∙ sym (then_then (check_one tables known s.name s.op) (check_from tables a) (check_from tables b))

pub add_shape-other : (shapes : Shapes) (n m : Label) (shape : Outline) → bytes_eq n m ≡ false → add_shape shapes n shape m ≡ shapes m
add_shape-other shapes n m shape e = ap (λ (b : Bool). if b then Some shape else shapes m) e

learn_frame : (tables : Shapes) (known : Known) (n m : Label) (op : Op) → bytes_eq n m ≡ false → (learn tables known n op).vectors m ≡ known.vectors m
learn_frame tables known n m op e = by (is_persist op)
  where
    by : (b : Bool) → (if b then with_result known n else with_vector known n (made_outline tables known.vectors op)).vectors m ≡ known.vectors m
    by true = refl
    by false = add_shape-other known.vectors n m (made_outline tables known.vectors op) e

one_frame : (known next after : Known) (m : Label) (fault : Option ProgramKind) → next.vectors m ≡ known.vectors m → after_fault known next fault ≡ Ok after → after.vectors m ≡ known.vectors m
one_frame known next after m None e h = let same : next ≡ after = cc in ap (λ (k : Known). k.vectors m) (sym same) ∙ e
one_frame known next after m (Some kind) e h = absurd cc

pub check_from-frame : (tables : Shapes) (a : List Statement) (known after : Known) (m : Label) → Avoids m a → check_from tables a known ≡ Ok after → after.vectors m ≡ known.vectors m
check_from-frame tables [] known after m other e = let same : known ≡ after = cc in ap (λ (k : Known). k.vectors m) (sym same)
check_from-frame tables (s ∷ a) known after m other e =
    more (λ middle h. check_from-frame tables a middle after m other.1 h) (check_one tables known s.name s.op) refl e
  where
    more : ((middle : Known) → check_from tables a middle ≡ Ok after → after.vectors m ≡ middle.vectors m) → (r : Checked) → check_one tables known s.name s.op ≡ r → then_check r (check_from tables a) ≡ Ok after → after.vectors m ≡ known.vectors m
    more rest (Err o) q h = absurd cc
    more rest (Ok middle) q h =
        rest middle h ∙ one_frame known (learn tables known s.name s.op) middle m (fault_of tables known s.name s.op) (learn_frame tables known s.name m s.op other.0) q

pub check_laws : CheckLaws
check_laws = record {
  composes = check_from-append;
  frame = check_from-frame;
}

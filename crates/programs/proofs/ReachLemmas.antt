-- Which statements are reached.
use Rattle.std.proofs.Common.{◌≡◌, List, [], ◌∷◌, ◌++◌, Bool, true, false, ◌||◌, refl, sym, ap, ◌∙◌, subst}
use Rattle.std.specs.Str.{bytes_eq}
use Rattle.programs.specs.declared.op.Statement.{Statement}
use Rattle.programs.specs.Mentions.{Label, has_name, is_persist, mentioned}
use Rattle.programs.specs.Reaching.{Reached, reach_if, reach_one, reached}
use Rattle.programs.specs.Laws.{Keeps, ReachLaws, and_behind}

reach_if-behind : (b : Bool) (s : Statement) (r : Reached) (kept : List Statement) → reach_if b s (and_behind r kept) ≡ and_behind (reach_if b s r) kept
reach_if-behind true s r kept = refl
reach_if-behind false s r kept = refl

pub reached-append : (wanted : List Label) (a b : List Statement) → reached wanted (a ++ b) ≡ and_behind (reached (reached wanted b).names a) (reached wanted b).kept
reached-append wanted [] b = refl
reached-append wanted (s ∷ a) b =
    let r = reached (reached wanted b).names a in
    ap (reach_one s) (reached-append wanted a b)
    ∙ reach_if-behind (is_persist s.op || has_name r.names s.name) s r (reached wanted b).kept

pub or_true : (b : Bool) → (b || true) ≡ true
or_true true = refl
or_true false = refl

pub has_name-behind : (xs wanted : List Label) (n : Label) → has_name wanted n ≡ true → has_name (xs ++ wanted) n ≡ true
has_name-behind [] wanted n h = h
has_name-behind (x ∷ xs) wanted n h = ap (λ (b : Bool). bytes_eq x n || b) (has_name-behind xs wanted n h) ∙ or_true (bytes_eq x n)

-- one statement whose name is mentioned behind it
pub reached-one : (wanted : List Label) (s : Statement) → has_name wanted s.name ≡ true → reached wanted (s ∷ []) ≡ record { names = mentioned s.op ++ wanted; kept = s ∷ [] }
reached-one wanted s h =
    ap (λ (b : Bool). reach_if b s (record { names = wanted; kept = [] })) (ap (λ (b : Bool). is_persist s.op || b) h ∙ or_true (is_persist s.op))

pub keeps-one : (wanted : List Label) (s : Statement) → has_name wanted s.name ≡ true → Keeps wanted (s ∷ [])
keeps-one wanted s h = record {
  kept = ap (λ (r : Reached). r.kept) (reached-one wanted s h);
  names = λ n m. subst (λ (r : Reached). has_name r.names n ≡ true) (sym (reached-one wanted s h)) (has_name-behind (mentioned s.op) wanted n m);
}

pub keeps-append : (wanted : List Label) (a b : List Statement) → Keeps wanted b → Keeps (reached wanted b).names a → Keeps wanted (a ++ b)
keeps-append wanted a b kb ka = record {
  kept = ap (λ (r : Reached). r.kept) (reached-append wanted a b) ∙ ap (λ (l : List Statement). l ++ (reached wanted b).kept) ka.kept ∙ ap (λ (l : List Statement). a ++ l) kb.kept;
  names = λ n h. subst (λ (r : Reached). has_name r.names n ≡ true) (sym (reached-append wanted a b)) (ka.names n (kb.names n h));
}

pub reach_laws : ReachLaws
reach_laws = record {
  composes = reached-append;
  keeps = keeps-append;
  keeps_one = keeps-one;
}

-- The results of some statements depend on the vectors that the reached ones among them mention.
use Rattle.std.proofs.Common.{◌≡◌, List, [], ◌∷◌, Bool, true, false, ◌||◌, refl, ap, sym, ◌∙◌, if◌then◌else◌, Option, Some, None, Result, Ok, Err}
use Rattle.std.specs.Option.{option_map}
use Rattle.std.specs.Str.{bytes_eq}
use Rattle.std.proofs.lemmas.Slice.Eq.{bytes_eq-Decides}
use Rattle.control_vectors.specs.declared.Over.{Over}
use Rattle.programs.specs.declared.op.Statement.{Statement}
use Rattle.programs.specs.Families.{family}
use Rattle.programs.specs.Mentions.{Label, mentioned, has_name}
use Rattle.programs.specs.Outlines.{outline_of}
use Rattle.programs.specs.Reaching.{reach_if, reached, is_reached}
use Rattle.programs.specs.Vectors.{Vector, Env, Named, put}
use Rattle.programs.proofs.Marks.{has_name-append}
use Rattle.voodoo_ops.specs.Meaning.{effect, after_effect, result_of}
use Rattle.voodoo_ops.specs.Streams.{SameFor, behind, then_show, results_from}
use Rattle.voodoo_ops.proofs.Ready.{Ready}
use Rattle.voodoo_ops.proofs.SameEffects.{AreSame, effect_same, result_same}

bytes_eq-refl : (a : Label) → bytes_eq a a ≡ true
bytes_eq-refl a = (bytes_eq-Decides a a).1 refl

or_true : (b : Bool) → (b || true) ≡ true
or_true true = refl
or_true false = refl

same_of : (V W : Env) (names : List Label) → ((m : Label) → has_name names m ≡ true → W m ≡ V m) → AreSame V W names
same_of V W [] h = tt
same_of V W (a ∷ names) h =
    (sym (h a (ap (λ (b : Bool). b || has_name names a) (bytes_eq-refl a))), same_of V W names (λ m e. h m (ap (λ (b : Bool). bytes_eq a m || b) e ∙ or_true (bytes_eq a m))))

-- ---- a statement that is kept
names_kept : (s : Statement) (rest : List Statement) (m : Label) → is_reached (reached [] rest).names s ≡ true → has_name (reached [] (s ∷ rest)).names m ≡ (has_name (mentioned s.op) m || has_name (reached [] rest).names m)
names_kept s rest m on =
    ap (λ (b : Bool). has_name (reach_if b s (reached [] rest)).names m) on ∙ has_name-append (mentioned s.op) (reached [] rest).names m

-- what it mentions, and what is needed behind it
pub same_mentioned : (V W : Env) (s : Statement) (rest : List Statement) → is_reached (reached [] rest).names s ≡ true → SameFor (s ∷ rest) V W → AreSame V W (mentioned s.op)
same_mentioned V W s rest on h =
    same_of V W (mentioned s.op) (λ m e. h m (names_kept s rest m on ∙ ap (λ (b : Bool). b || has_name (reached [] rest).names m) e))

pub same_behind : (V W : Env) (s : Statement) (rest : List Statement) → is_reached (reached [] rest).names s ≡ true → SameFor (s ∷ rest) V W → SameFor rest V W
same_behind V W s rest on h m e = h m (names_kept s rest m on ∙ ap (λ (b : Bool). has_name (mentioned s.op) m || b) e ∙ or_true (has_name (mentioned s.op) m))

pub same_put : (V W : Env) (n : Label) (v : Vector) (rest : List Statement) → SameFor rest V W → SameFor rest (put V n v) (put W n v)
same_put V W n v rest h m e = ap (λ (o : Option Vector). if bytes_eq n m then Some v else o) (h m e)

-- ---- the results
pub results_same : (store : Env) (l : List Statement) (V W : Env) → SameFor l V W → results_from store (reached [] l).kept V ≡ results_from store (reached [] l).kept W
results_same store [] V W h = refl
results_same store (s ∷ rest) V W h = by (results_same store rest) (is_reached (reached [] rest).names s) refl
  where
    kept : List Statement
    kept = (reached [] rest).kept

    Same : Type 0
    Same = (X Y : Env) → SameFor rest X Y → results_from store (reached [] rest).kept X ≡ results_from store (reached [] rest).kept Y

    next : Same → is_reached (reached [] rest).names s ≡ true → (o : Option (Result Vector Over)) → then_show (after_effect V s.name o) (results_from store kept) ≡ then_show (after_effect W s.name o) (results_from store kept)
    next same on None = same V W (same_behind V W s rest on h)
    next same on (Some (Err x)) = refl
    next same on (Some (Ok v)) = same (put V s.name v) (put W s.name v) (same_put V W s.name v rest (same_behind V W s rest on h))

    here : Same → is_reached (reached [] rest).names s ≡ true → results_from store (s ∷ kept) V ≡ results_from store (s ∷ kept) W
    here behind_it on =
        let same = same_mentioned V W s rest on h in
        ap (λ (named : Named). behind named (then_show (after_effect V s.name (effect store V s.op)) (results_from store kept))) (result_same V W s.name (family s.op) [] same)
        ∙ ap (behind (result_of W s.name (family s.op) []))
        (next behind_it on (effect store V s.op) ∙ ap (λ (o : Option (Result Vector Over)). then_show (after_effect W s.name o) (results_from store kept)) (effect_same store V W (family s.op) same))

    by : Same → (b : Bool) → is_reached (reached [] rest).names s ≡ b → results_from store (reach_if b s (reached [] rest)).kept V ≡ results_from store (reach_if b s (reached [] rest)).kept W
    by same true on = here same on
    by same false off = same V W (λ m e. h m (ap (λ (b : Bool). has_name (reach_if b s (reached [] rest)).names m) off ∙ e))

-- the statements may be run from the vectors that they need alone
pub ready_same : (store env held : Env) (rest : List Statement) → SameFor rest env held → Ready store env rest → Ready store held rest
ready_same store env held rest h r = record {
  known = r.known;
  after = r.after;
  passes = r.passes;
  small = r.small;
  agree = λ m e. ap (option_map outline_of) (h m e) ∙ r.agree m e;
}

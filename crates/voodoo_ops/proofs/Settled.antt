-- In a program that passes the check no vector is made twice, so that a result stays what it is where its Persist is met.
use Rattle.std.proofs.Common.{◌≡◌, List, [], ◌∷◌, ◌++◌, Bool, true, false, ◌||◌, refl, ap, sym, ◌∙◌, if◌then◌else◌, Option, Some, None, Result, Ok, Err}
use Rattle.std.specs.Prelude.{is_some, is_none}
use Rattle.std.specs.Str.{bytes_eq}
use Rattle.std.proofs.lemmas.Bool.{false≢true}
use Rattle.std.proofs.lemmas.Slice.Eq.{bytes_eq-Decides}
use Rattle.control_vectors.specs.declared.Over.{Over}
use Rattle.programs.specs.declared.op.Op.{Op}
use Rattle.programs.specs.declared.op.ProgramKind.{ProgramKind}
use Rattle.programs.specs.declared.op.Statement.{Statement}
use Rattle.programs.specs.Families.{Family, family, Persist}
use Rattle.programs.specs.Mentions.{Label, shows_result, is_persist}
use Rattle.programs.specs.Outlines.{Outline, Shapes, add_shape}
use Rattle.programs.specs.MadeOutlines.{made_outline}
use Rattle.programs.specs.Faults.{first_fault, op_tests, tests_by}
use Rattle.programs.specs.Check.{Known, learn, fault_of, check_from}
use Rattle.programs.specs.Reaching.{reach_if, reached, is_reached}
use Rattle.programs.specs.Vectors.{Vector, Env, Named, put, known}
use Rattle.voodoo_ops.specs.Meaning.{Run, effect_by, effect, after_effect, step, then_run, run_from, result_of, results, shown}
use Rattle.voodoo_ops.specs.Streams.{behind, then_show, results_from}
use Rattle.voodoo_ops.proofs.Compositions.{put_other}
use Rattle.voodoo_ops.proofs.Fitting.{clear_of}
use Rattle.voodoo_ops.proofs.Ready.{passed, front_clear, learned, learned_result, some_effect}

-- ---- vectors that are not made again
abbrev pub MakesOthers : Label → List Statement → Type 0
MakesOthers m [] = Unit {0}
MakesOthers m (s ∷ rest) = (is_persist s.op ≡ false → bytes_eq s.name m ≡ false) × MakesOthers m rest

abbrev pub ShowsLast : Family → List Statement → Type 0
ShowsLast (Persist a) rest = MakesOthers a rest
ShowsLast _ rest = Unit {0}

abbrev pub AreSettled : List Statement → Type 0
AreSettled [] = Unit {0}
AreSettled (s ∷ rest) = ShowsLast (family s.op) rest × AreSettled rest

-- ---- a check that passes
last_clear : (l : List (Bool × ProgramKind)) (t : Bool × ProgramKind) → first_fault (l ++ t ∷ []) ≡ None → t.0 ≡ false
last_clear [] t e = by t.0 e
  where
    by : (b : Bool) → (if b then Some t.1 else None) ≡ None → b ≡ false
    by true h = absurd cc
    by false h = refl
last_clear (u ∷ l) t e = by u.0 e (last_clear l t)
  where
    by : (b : Bool) → (if b then Some u.1 else first_fault (l ++ t ∷ [])) ≡ None → (first_fault (l ++ t ∷ []) ≡ None → t.0 ≡ false) → t.0 ≡ false
    by true h rest = absurd cc
    by false h rest = rest h

new_name : (T : Shapes) (k : Known) (n : Label) (op : Op) → fault_of T k n op ≡ None → is_persist op ≡ false → is_some (k.vectors n) ≡ false
new_name T k n op e p =
    ap (λ (b : Bool). if b then k.results n else is_some (k.vectors n)) (sym p) ∙ last_clear (op_tests T k.vectors op) _ e

another_name : (k : Known) (n m : Label) → is_some (k.vectors m) ≡ true → is_some (k.vectors n) ≡ false → bytes_eq n m ≡ false
another_name k n m on off = by (bytes_eq n m) refl
  where
    by : (b : Bool) → bytes_eq n m ≡ b → b ≡ false
    by true e = let same : n ≡ m = (bytes_eq-Decides n m).0 e in absurd (false≢true (sym off ∙ ap (λ (a : Label). is_some (k.vectors a)) same ∙ on))
    by false e = refl

some_added : (V : Shapes) (n m : Label) (o : Outline) → is_some (V m) ≡ true → is_some (add_shape V n o m) ≡ true
some_added V n m o h = by (bytes_eq n m)
  where
    by : (b : Bool) → is_some (if b then Some o else V m) ≡ true
    by true = refl
    by false = h

stays_known : (T : Shapes) (k : Known) (n m : Label) (op : Op) → is_some (k.vectors m) ≡ true → is_some ((learn T k n op).vectors m) ≡ true
stays_known T k n m op h = by (is_persist op) refl
  where
    by : (b : Bool) → is_persist op ≡ b → is_some ((learn T k n op).vectors m) ≡ true
    by true e = ap is_some (learned_result T k n m op e) ∙ h
    by false e = ap is_some (learned T k n m op e) ∙ some_added k.vectors n m (made_outline T k.vectors op) h

known_others : (T : Shapes) (rest : List Statement) (k after : Known) (m : Label) → is_some (k.vectors m) ≡ true → check_from T rest k ≡ Ok after → MakesOthers m rest
known_others T [] k after m h e = tt
known_others T (s ∷ rest) k after m h e =
    let next = learn T k s.name s.op in
    let p = passed T rest k next after (fault_of T k s.name s.op) e in
    (λ q. another_name k s.name m h (new_name T k s.name s.op p.0 q), known_others T rest next after m (stays_known T k s.name m s.op h) p.1)

some_name : (o : Option Outline) → (is_none o || false) ≡ false → is_some o ≡ true
some_name None e = absurd cc
some_name (Some x) e = refl

shows_last : (T : Shapes) (rest : List Statement) (k next after : Known) (f : Family) → first_fault (tests_by T k.vectors f) ≡ None → ((m : Label) → is_some (k.vectors m) ≡ true → is_some (next.vectors m) ≡ true) → check_from T rest next ≡ Ok after → ShowsLast f rest
shows_last T rest k next after (Persist a) e stays h = known_others T rest next after a (stays a (some_name (k.vectors a) (clear_of T k.vectors (Persist a) e).names)) h
shows_last T rest k next after _ e stays h = tt

pub settled : (T : Shapes) (l : List Statement) (k after : Known) → check_from T l k ≡ Ok after → AreSettled l
settled T [] k after e = tt
settled T (s ∷ rest) k after e =
    let next = learn T k s.name s.op in
    let p = passed T rest k next after (fault_of T k s.name s.op) e in
    (shows_last T rest k next after (family s.op) (front_clear (op_tests T k.vectors s.op) _ p.0) (λ m. stays_known T k s.name m s.op) p.1, settled T rest next after p.1)

-- ---- the statements that are reached
others_kept : (m : Label) (wanted : List Label) (l : List Statement) → MakesOthers m l → MakesOthers m (reached wanted l).kept
others_kept m wanted [] h = tt
others_kept m wanted (s ∷ rest) h = by (is_reached (reached wanted rest).names s) (others_kept m wanted rest h.1)
  where
    by : (b : Bool) → MakesOthers m (reached wanted rest).kept → MakesOthers m (reach_if b s (reached wanted rest)).kept
    by true k = (h.0, k)
    by false k = k

last_kept : (f : Family) (wanted : List Label) (l : List Statement) → ShowsLast f l → ShowsLast f (reached wanted l).kept
last_kept (Persist a) wanted l h = others_kept a wanted l h
last_kept _ wanted l h = tt

pub settled_kept : (wanted : List Label) (l : List Statement) → AreSettled l → AreSettled (reached wanted l).kept
settled_kept wanted [] h = tt
settled_kept wanted (s ∷ rest) h = by (is_reached (reached wanted rest).names s) (settled_kept wanted rest h.1)
  where
    by : (b : Bool) → AreSettled (reached wanted rest).kept → AreSettled (reach_if b s (reached wanted rest)).kept
    by true k = (last_kept (family s.op) wanted rest h.0, k)
    by false k = k

-- ---- the results one by one
left_alone : (store env now : Env) (n m : Label) (op : Op) (o : Option (Result Vector Over)) → effect store env op ≡ o → (is_persist op ≡ false → bytes_eq n m ≡ false) → after_effect env n o ≡ Ok now → now m ≡ env m
left_alone store env now n m op None q h e = let same : env ≡ now = cc in ap (λ (f : Env). f m) (sym same)
left_alone store env now n m op (Some (Err x)) q h e = absurd cc
left_alone store env now n m op (Some (Ok v)) q h e =
    let same : put env n v ≡ now = cc in
    ap (λ (f : Env). f m) (sym same) ∙ put_other env n m v (h (some_effect store env (family op) (Ok v) q))

others_left : (store : Env) (l : List Statement) (env after : Env) (m : Label) → MakesOthers m l → run_from store l env ≡ Ok after → after m ≡ env m
others_left store [] env after m h e = let same : env ≡ after = cc in ap (λ (f : Env). f m) (sym same)
others_left store (s ∷ rest) env after m h e = more (λ now k. others_left store rest now after m h.1 k) (step store env s.name s.op) refl e
  where
    more : ((now : Env) → run_from store rest now ≡ Ok after → after m ≡ now m) → (r : Run) → step store env s.name s.op ≡ r → then_run r (run_from store rest) ≡ Ok after → after m ≡ env m
    more behind_it (Err x) q k = absurd cc
    more behind_it (Ok now) q k = behind_it now k ∙ left_alone store env now s.name m s.op (effect store env s.op) refl h.0 q

-- a result is the same when all statements are run
result_settled : (store env now after : Env) (n : Label) (f : Family) (rest : List Statement) (named : Named) → ShowsLast f rest → (shows_result f ≡ true → env ≡ now) → run_from store rest now ≡ Ok after → result_of after n f named ≡ result_of env n f [] ++ named
result_settled store env now after n (Persist a) rest named h same e =
    ap (λ (o : Option Vector). (n, known o) ∷ named) (others_left store rest now after a h e ∙ ap (λ (k : Env). k a) (sym (same refl)))
result_settled store env now after n _ rest named h same e = refl

no_vector : (store env now : Env) (n : Label) (f : Family) (o : Option (Result Vector Over)) → effect_by store env f ≡ o → shows_result f ≡ true → after_effect env n o ≡ Ok now → env ≡ now
no_vector store env now n f None q h e = cc
no_vector store env now n f (Some r) q h e = absurd (false≢true (sym (some_effect store env f r q) ∙ h))

pub shown_settled : (store : Env) (l : List Statement) (env : Env) → AreSettled l → shown (run_from store l env) l ≡ results_from store l env
shown_settled store [] env h = refl
shown_settled store (s ∷ rest) env h = more (λ now. shown_settled store rest now h.1) (step store env s.name s.op) refl
  where
    after_step : (now : Env) → step store env s.name s.op ≡ Ok now → (r : Run) → run_from store rest now ≡ r → shown r rest ≡ results_from store rest now → shown r (s ∷ rest) ≡ behind (result_of env s.name (family s.op) []) (results_from store rest now)
    after_step now q (Err x) k e = ap (behind (result_of env s.name (family s.op) [])) e
    after_step now q (Ok after) k e =
        ap (λ (l : Named). let x : Result Named Over = Ok l in x) (result_settled store env now after s.name (family s.op) rest (results after rest) h.0 (λ p. no_vector store env now s.name (family s.op) (effect store env s.op) refl p q) k)
        ∙ ap (behind (result_of env s.name (family s.op) [])) e

    more : ((now : Env) → shown (run_from store rest now) rest ≡ results_from store rest now) → (r : Run) → step store env s.name s.op ≡ r → shown (then_run (step store env s.name s.op) (run_from store rest)) (s ∷ rest) ≡ behind (result_of env s.name (family s.op) []) (then_show (step store env s.name s.op) (results_from store rest))
    more same (Err x) q = rw q refl
    more same (Ok now) q = rw q (after_step now q (run_from store rest now) refl (same now))

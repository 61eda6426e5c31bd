-- A checked program meets none of its faults while it runs.
use Rattle.std.proofs.Common.{◌≡◌, ℕ, ◌^◌, ◌<◌, ◌≤◌, Bool, true, false, ◌||◌, List, [], ◌∷◌, ◌++◌, length, get_or, refl, sym, ap, ◌∙◌, arith, subst, append_assoc, Option, Some, None, Result, Ok, Err, if◌then◌else◌}
use Rattle.std.specs.Prelude.{nat_lt}
use Rattle.std.specs.Str.{bytes_eq}
use Rattle.std.proofs.lemmas.Bool.{false≢true}
use Rattle.std.proofs.lemmas.Slice.Eq.{bytes_eq-Decides}
use Rattle.control_vectors.specs.declared.Over.{Over}
use Rattle.programs.specs.declared.op.Op.{Op}
use Rattle.programs.specs.Families.{Family, family, Persist}
use Rattle.programs.specs.declared.op.Statement.{Statement}
use Rattle.programs.specs.declared.op.ProgramKind.{ProgramKind}
use Rattle.programs.specs.declared.op.ProgramKind.TheVariants.{TooManyStatements}
use Rattle.programs.specs.Mentions.{Label, mentioned, shows_result, is_persist, has_name}
use Rattle.programs.specs.Vectors.{Vector, Env, nothing, put, known}
use Rattle.programs.specs.Reaching.{reach_if, reached, is_reached}
use Rattle.programs.specs.Outlines.{Outline, no_outline, Shapes, outlines, outline_of, add_shape}
use Rattle.programs.specs.MadeOutlines.{made_by, made_outline}
use Rattle.programs.specs.Faults.{first_fault, op_tests}
use Rattle.programs.specs.Check.{Known, with_result, with_vector, Fault, fault, Checked, learn, known_behind, fault_of, after_fault, then_check, check_from, at_start, shape_of, names_result, limit_from}
use Rattle.programs.proofs.Marks.{has_name-append}
use Rattle.programs.proofs.ShapeLaws.{all_short}
use Rattle.voodoo_ops.specs.Meaning.{effect_by, effect, after_effect, step}
use Rattle.voodoo_ops.specs.Fits.{Fits, Runnable}
use Rattle.voodoo_ops.proofs.Agreeing.{Agree, made_same, tests_same}
use Rattle.voodoo_ops.proofs.Outlining.{outline_made, outlines-put}

abbrev pub AllShort : List Outline → Type 0
AllShort shape = (k : ℕ) (d : Outline) → k < length shape → (get_or shape k d).len ≤ 2 ^ 22

-- the rest of a program passes the check from what is known, and the vectors that it wants are there as they are known
pub record Ready (store env : Env) (rest : List Statement) : Type 0 where
  pub known : Known
  pub after : Known
  pub passes : check_from (outlines store) rest known ≡ Ok after
  pub small : AllShort after.shape
  pub agree : (m : Label) → has_name (reached [] rest).names m ≡ true → outlines env m ≡ known.vectors m

-- ---- one statement of a check that passes

pub passed : (T : Shapes) (rest : List Statement) (known next after : Known) (o : Option ProgramKind) → then_check (after_fault known next o) (check_from T rest) ≡ Ok after → (o ≡ None) × (check_from T rest next ≡ Ok after)
passed T rest known next after None e = (refl, e)
passed T rest known next after (Some kind) e = absurd cc

pub front_clear : (l : List (Bool × ProgramKind)) (t : Bool × ProgramKind) → first_fault (l ++ t ∷ []) ≡ None → first_fault l ≡ None
front_clear [] t e = refl
front_clear (u ∷ l) t e = by u.0 e (front_clear l t)
  where
    by : (b : Bool) → (if b then Some u.1 else first_fault (l ++ t ∷ [])) ≡ None → (first_fault (l ++ t ∷ []) ≡ None → first_fault l ≡ None) → (if b then Some u.1 else first_fault l) ≡ None
    by true h rest = absurd cc
    by false h rest = rest h

-- what is known later begins with what is known now
pub record Grows (now later : List Outline) : Type 0 where
  pub more : List Outline
  pub is : later ≡ now ++ more

append_none : (xs : List Outline) → xs ≡ xs ++ []
append_none [] = refl
append_none (x ∷ xs) = ap (λ (l : List Outline). x ∷ l) (append_none xs)

grows_none : (xs ys : List Outline) → ys ≡ xs → Grows xs ys
grows_none xs ys e = record { more = []; is = e ∙ append_none xs }

grows_then : (xs ys zs : List Outline) (o : Outline) → ys ≡ xs ++ o ∷ [] → Grows ys zs → Grows xs zs
grows_then xs ys zs o e g = record { more = o ∷ g.more; is = g.is ∙ ap (λ (l : List Outline). l ++ g.more) e ∙ append_assoc xs (o ∷ []) g.more }

nothing_made : (T V : Shapes) (f : Family) → shows_result f ≡ true → made_by T V f ≡ no_outline
nothing_made T V (Persist a) e = refl
nothing_made T V _ e = absurd cc

pub shape_behind : (known : Known) (n : Label) (op : Op) (T V : Shapes) → (known_behind known n op (made_outline T V op)).shape ≡ known.shape ++ made_outline T V op ∷ []
shape_behind known n op T V = by (is_persist op) refl
  where
    made : Outline
    made = made_outline T V op

    by : (b : Bool) → is_persist op ≡ b → (if b then with_result known n else with_vector known n made).shape ≡ known.shape ++ made ∷ []
    by true e = ap (λ (o : Outline). known.shape ++ o ∷ []) (sym (nothing_made T V (family op) e))
    by false e = refl

pub grows : (T : Shapes) (rest : List Statement) (known after : Known) → check_from T rest known ≡ Ok after → Grows known.shape after.shape
grows T [] known after e = let same : known ≡ after = cc in grows_none known.shape after.shape (ap (λ (k : Known). k.shape) (sym same))
grows T (s ∷ rest) known after e =
    let next = learn T known s.name s.op in
    let p = passed T rest known next after (fault_of T known s.name s.op) e in
    grows_then known.shape next.shape after.shape (made_outline T known.vectors s.op) (shape_behind known s.name s.op T known.vectors) (grows T rest next after p.1)

place_of_end : (xs more : List Outline) (o d : Outline) → (length xs < length ((xs ++ o ∷ []) ++ more)) × (get_or ((xs ++ o ∷ []) ++ more) (length xs) d ≡ o)
place_of_end [] more o d = (omega arith, refl)
place_of_end (x ∷ xs) more o d = let r = place_of_end xs more o d in (omega (arith, r.0), r.1)

pub short_one : (xs ys after : List Outline) (o : Outline) → ys ≡ xs ++ o ∷ [] → Grows ys after → AllShort after → o.len ≤ 2 ^ 22
short_one xs ys after o e g h =
    let is : after ≡ (xs ++ o ∷ []) ++ g.more = g.is ∙ ap (λ (l : List Outline). l ++ g.more) e in
    let p = place_of_end xs g.more o o in
    let within : length xs < length after = rw is p.0 in
    let here : get_or after (length xs) o ≡ o = ap (λ (l : List Outline). get_or l (length xs) o) is ∙ p.1 in
    subst (λ (q : Outline). q.len ≤ 2 ^ 22) here (h (length xs) o within)

-- ---- names that are mentioned

bytes_eq-refl : (a : Label) → bytes_eq a a ≡ true
bytes_eq-refl a = (bytes_eq-Decides a a).1 refl

or_true : (b : Bool) → (b || true) ≡ true
or_true true = refl
or_true false = refl

agree_of : (V W : Shapes) (names : List Label) → ((m : Label) → has_name names m ≡ true → V m ≡ W m) → Agree V W names
agree_of V W [] h = tt
agree_of V W (a ∷ names) h =
    (h a (ap (λ (b : Bool). b || has_name names a) (bytes_eq-refl a)), agree_of V W names (λ m e. h m (ap (λ (b : Bool). bytes_eq a m || b) e ∙ or_true (bytes_eq a m))))

names_kept : (s : Statement) (rest : List Statement) → is_reached (reached [] rest).names s ≡ true → (reached [] (s ∷ rest)).names ≡ mentioned s.op ++ (reached [] rest).names
names_kept s rest on = ap (λ (b : Bool). (reach_if b s (reached [] rest)).names) on

names_left : (s : Statement) (rest : List Statement) → is_reached (reached [] rest).names s ≡ false → (reached [] (s ∷ rest)).names ≡ (reached [] rest).names
names_left s rest off = ap (λ (b : Bool). (reach_if b s (reached [] rest)).names) off

mentions_agree : (store env : Env) (s : Statement) (rest : List Statement) (r : Ready store env (s ∷ rest)) → is_reached (reached [] rest).names s ≡ true → Agree (outlines env) r.known.vectors (mentioned s.op)
mentions_agree store env s rest r on =
    agree_of (outlines env) r.known.vectors (mentioned s.op)
    (λ m e. r.agree m (ap (λ (l : List Label). has_name l m) (names_kept s rest on) ∙ has_name-append (mentioned s.op) (reached [] rest).names m ∙ ap (λ (b : Bool). b || has_name (reached [] rest).names m) e))

-- ---- a statement that is kept may be run

pub ready_fits : (store env : Env) (s : Statement) (rest : List Statement) → Ready store env (s ∷ rest) → is_reached (reached [] rest).names s ≡ true → Fits (outlines store) (outlines env) (family s.op)
ready_fits store env s rest r on =
    let T = outlines store in
    let next = learn T r.known s.name s.op in
    let p = passed T rest r.known next r.after (fault_of T r.known s.name s.op) r.passes in
    let same = mentions_agree store env s rest r on in
    record {
      sound = ap first_fault (tests_same T (outlines env) r.known.vectors (family s.op) same) ∙ front_clear (op_tests T r.known.vectors s.op) _ p.0;
      small = subst (λ (o : Outline). o.len ≤ 2 ^ 22) (sym (made_same T (outlines env) r.known.vectors (family s.op) same)) (short_one r.known.shape next.shape r.after.shape (made_outline T r.known.vectors s.op) (shape_behind r.known s.name s.op T r.known.vectors) (grows T rest next r.after p.1) r.small);
    }

-- ---- behind one more statement

pub learned : (T : Shapes) (known : Known) (n m : Label) (op : Op) → is_persist op ≡ false → (learn T known n op).vectors m ≡ add_shape known.vectors n (made_outline T known.vectors op) m
learned T known n m op e = ap (λ (b : Bool). (if b then with_result known n else with_vector known n (made_outline T known.vectors op)).vectors m) e

pub learned_result : (T : Shapes) (known : Known) (n m : Label) (op : Op) → is_persist op ≡ true → (learn T known n op).vectors m ≡ known.vectors m
learned_result T known n m op e = ap (λ (b : Bool). (if b then with_result known n else with_vector known n (made_outline T known.vectors op)).vectors m) e

pub no_effect : (store env : Env) (f : Family) → effect_by store env f ≡ None → shows_result f ≡ true
no_effect store env (Persist a) e = refl
no_effect store env _ e = absurd cc

pub some_effect : (store env : Env) (f : Family) (r : Result Vector Over) → effect_by store env f ≡ Some r → shows_result f ≡ false
some_effect store env (Persist a) r e = absurd cc
some_effect store env _ r e = refl

pub put_agrees : (env : Env) (V : Shapes) (n m : Label) (v : Vector) (o : Outline) → outline_of v ≡ o → outlines env m ≡ V m → outlines (put env n v) m ≡ add_shape V n o m
put_agrees env V n m v o e h = outlines-put env n v m ∙ by (bytes_eq n m)
  where
    by : (b : Bool) → (if b then Some (outline_of v) else outlines env m) ≡ (if b then Some o else V m)
    by true = ap (λ (p : Outline). Some p) e
    by false = h

pub ready_next : (store env now : Env) (s : Statement) (rest : List Statement) → Ready store env (s ∷ rest) → is_reached (reached [] rest).names s ≡ true → step store env s.name s.op ≡ Ok now → Ready store now rest
ready_next store env now s rest r on e = go (effect store env s.op) refl e
  where
    T : Shapes
    T = outlines store

    next : Known
    next = learn (outlines store) r.known s.name s.op

    p : (fault_of (outlines store) r.known s.name s.op ≡ None) × (check_from (outlines store) rest next ≡ Ok r.after)
    p = passed (outlines store) rest r.known next r.after (fault_of (outlines store) r.known s.name s.op) r.passes

    kept : (m : Label) → has_name (reached [] rest).names m ≡ true → outlines env m ≡ r.known.vectors m
    kept m h = r.agree m (ap (λ (l : List Label). has_name l m) (names_kept s rest on) ∙ has_name-append (mentioned s.op) (reached [] rest).names m ∙ ap (λ (b : Bool). has_name (mentioned s.op) m || b) h ∙ or_true (has_name (mentioned s.op) m))

    go : (o : Option (Result Vector Over)) → effect store env s.op ≡ o → after_effect env s.name o ≡ Ok now → Ready store now rest
    go None q f =
        let same : env ≡ now = cc in
        subst (λ (k : Env). Ready store k rest) same (record {
          known = next;
          after = r.after;
          passes = p.1;
          small = r.small;
          agree = λ m h. kept m h ∙ sym (learned_result (outlines store) r.known s.name m s.op (no_effect store env (family s.op) q));
        })
    go (Some (Err x)) q f = absurd cc
    go (Some (Ok v)) q f =
        let same : put env s.name v ≡ now = cc in
        let made : outline_of v ≡ made_outline (outlines store) r.known.vectors s.op = outline_made store env (family s.op) (Ok v) v (ready_fits store env s rest r on).small q refl ∙ made_same (outlines store) (outlines env) r.known.vectors (family s.op) (mentions_agree store env s rest r on) in
        subst (λ (k : Env). Ready store k rest) same (record {
          known = next;
          after = r.after;
          passes = p.1;
          small = r.small;
          agree = λ m h. put_agrees env r.known.vectors s.name m v (made_outline (outlines store) r.known.vectors s.op) made (kept m h) ∙ sym (learned (outlines store) r.known s.name m s.op (some_effect store env (family s.op) (Ok v) q));
        })

-- a statement that is not kept
or_left : (a b : Bool) → (a || b) ≡ false → (a ≡ false) × (b ≡ false)
or_left true b e = absurd cc
or_left false b e = (refl, e)

apart_name : (names : List Label) (n m : Label) → has_name names n ≡ false → has_name names m ≡ true → bytes_eq n m ≡ false
apart_name names n m off on = by (bytes_eq n m) refl
  where
    by : (b : Bool) → bytes_eq n m ≡ b → b ≡ false
    by true e = let same : n ≡ m = (bytes_eq-Decides n m).0 e in absurd (false≢true (sym off ∙ ap (has_name names) same ∙ on))
    by false e = refl

pub ready_skip : (store env : Env) (s : Statement) (rest : List Statement) → Ready store env (s ∷ rest) → is_reached (reached [] rest).names s ≡ false → Ready store env rest
ready_skip store env s rest r off =
    let T = outlines store in
    let next = learn T r.known s.name s.op in
    let p = passed T rest r.known next r.after (fault_of T r.known s.name s.op) r.passes in
    let parts = or_left (is_persist s.op) (has_name (reached [] rest).names s.name) off in
    record {
      known = next;
      after = r.after;
      passes = p.1;
      small = r.small;
      agree = λ m h.
          r.agree m (ap (λ (l : List Label). has_name l m) (names_left s rest off) ∙ h)
          ∙ sym (learned T r.known s.name m s.op parts.0 ∙ ap (λ (b : Bool). if b then Some (made_outline T r.known.vectors s.op) else r.known.vectors m) (apart_name (reached [] rest).names s.name m parts.1 h));
    }

-- ---- at the start

checked_is : (named : Bool) (c : Checked) (shape : List Outline) → shape_of named c ≡ Ok shape → (k : Known) × (c ≡ Ok k) × (k.shape ≡ shape)
checked_is named (Err e) shape h = absurd cc
checked_is true (Ok k) shape h = (k, refl, cc)
checked_is false (Ok k) shape h = absurd cc

pub ready_start : (store : Env) (program : List Statement) → Runnable store program → Ready store nothing program
ready_start store program r = by (nat_lt 65536 (length program)) r.passes
  where
    few : (b : Bool) (x : Fault) (c : Result (List Outline) Fault) → (if b then Err x else c) ≡ Ok r.shape → c ≡ Ok r.shape
    few true x c e = absurd cc
    few false x c e = e

    by : (b : Bool) → (if b then Err (fault 65537 TooManyStatements) else shape_of (names_result program) (check_from (outlines store) program at_start)) ≡ Ok r.shape → Ready store nothing program
    by b e =
        let c = checked_is (names_result program) (check_from (outlines store) program at_start) r.shape (few b (fault 65537 TooManyStatements) (shape_of (names_result program) (check_from (outlines store) program at_start)) e) in
        record {
          known = at_start;
          after = c.0;
          passes = c.1;
          small = λ k d h. all_short 1 c.0.shape (ap (limit_from 1) c.2 ∙ r.small) k d h;
          agree = λ m h. refl;
        }

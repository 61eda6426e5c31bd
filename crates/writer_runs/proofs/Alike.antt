-- A program whose statements are used means what they make in order: where only some are kept, the vectors at names that are wanted are the same.
use Rattle.std.proofs.Common.{◌≡◌, Bool, true, false, ◌||◌, if◌then◌else◌, List, [], ◌∷◌, ◌++◌, refl, sym, ap, ◌∙◌, subst, Option, Some, None, Result, Ok, Err}
use Rattle.std.specs.Str.{bytes_eq}
use Rattle.control_vectors.specs.declared.Over.{Over}
use Rattle.programs.specs.declared.op.Statement.{Statement}
use Rattle.programs.specs.Families.{Family, family, Persist}
use Rattle.programs.specs.Laws.{Avoids}
use Rattle.programs.specs.Mentions.{Label, mentioned, mentioned_by, shows_result, is_persist, has_name}
use Rattle.programs.specs.Reaching.{Reached, reach_if, is_reached, reached}
use Rattle.programs.specs.Vectors.{Vector, Env, Named, nothing, put, known}
use Rattle.programs.proofs.Marks.{has_name-append}
use Rattle.programs.proofs.ReachLemmas.{has_name-behind}
use Rattle.voodoo_ops.specs.Meaning.{Run, effect_by, after_effect, then_run, run_from, result_of, results, shown}
use Rattle.voodoo_ops.proofs.Compositions.{run_from-frame, put_other}
use Rattle.writer_runs.specs.Laws.{UseLaw}
use Rattle.writer_runs.specs.Uses.{never_over, is_used, AreUsed, StandsBy, ResultsStand}
use Rattle.writer_runs.proofs.Agreeing.{Agree, AgreeAll, agree_all, effect_same}
use Rattle.writer_runs.proofs.Calm.{never_over_makes}
use Rattle.program_writers.proofs.Numbers.{texts_differ}

-- two runs that are both Over, or show the same
abbrev Alike : Run → Run → (Env → Named) → (Env → Named) → Type 0
Alike (Err d) (Err e) f g = d ≡ e
Alike (Err d) (Ok y) f g = ⊥
Alike (Ok x) (Err e) f g = ⊥
Alike (Ok x) (Ok y) f g = f x ≡ g y

shown_alike : (r q : Run) (a b : List Statement) → Alike r q (λ x. results x a) (λ y. results y b) → shown r a ≡ shown q b
shown_alike (Err d) (Err e) a b h = ap (λ (o : Over). Err o) h
shown_alike (Err d) (Ok y) a b h = absurd h
shown_alike (Ok x) (Err e) a b h = absurd h
shown_alike (Ok x) (Ok y) a b h = ap (λ (l : Named). Ok l) h

also_shown : (r q : Run) (f h g k : Env → Named) → ((x : Env) → f x ≡ h x) → ((y : Env) → g y ≡ k y) → Alike r q f g → Alike r q h k
also_shown (Err d) (Err e) f h g k p s a = a
also_shown (Err d) (Ok y) f h g k p s a = absurd a
also_shown (Ok x) (Err e) f h g k p s a = absurd a
also_shown (Ok x) (Ok y) f h g k p s a = sym (p x) ∙ a ∙ s y

-- ---- a statement that shows a result, and one that shows none

persisted : (store : Env) (a b : List Statement) (n p : Label) (V W : Env) (r q : Run) → run_from store a V ≡ r → run_from store b W ≡ q → Avoids p a → Avoids p b → V p ≡ W p
    → Alike r q (λ x. results x a) (λ y. results y b) → Alike r q (λ x. (n, known (x p)) ∷ results x a) (λ y. (n, known (y p)) ∷ results y b)
persisted store a b n p V W (Err d) (Err e) er eq ha hb same h = h
persisted store a b n p V W (Err d) (Ok y) er eq ha hb same h = absurd h
persisted store a b n p V W (Ok x) (Err e) er eq ha hb same h = absurd h
persisted store a b n p V W (Ok x) (Ok y) er eq ha hb same h =
    let at : x p ≡ y p = run_from-frame store a V x p ha er ∙ same ∙ sym (run_from-frame store b W y p hb eq) in
    ap (λ (o : Option Vector). (n, known o) ∷ results x a) at ∙ ap (λ (l : Named). (n, known (y p)) ∷ l) h

pub no_result : (f : Family) (n : Label) (x : Env) (l : Named) → shows_result f ≡ false → l ≡ result_of x n f l
no_result (Persist a) n x l h = absurd cc
no_result f n x l h = refl

not_shown : (f : Family) (n : Label) (r q : Run) (a b : List Statement) → shows_result f ≡ false
    → Alike r q (λ x. results x a) (λ y. results y b) → Alike r q (λ x. result_of x n f (results x a)) (λ y. result_of y n f (results y b))
not_shown f n r q a b h alike = also_shown r q _ _ _ _ (λ x. no_result f n x (results x a) h) (λ y. no_result f n y (results y b) h) alike

-- ---- one more statement that is kept

agree_put : (V W : Env) (n : Label) (v : Vector) (names : List Label) → Agree V W names → Agree (put V n v) (put W n v) names
agree_put V W n v names h m has = same (bytes_eq n m)
  where
    same : (b : Bool) → (if b then Some v else V m) ≡ (if b then Some v else W m)
    same true = refl
    same false = h m has

-- what holds of the statements behind, from any vectors that agree at these names
abbrev Behind : Env → List Statement → List Statement → List Label → Type 0
Behind store a b names = (X Y : Env) → Agree X Y names → Alike (run_from store a X) (run_from store b Y) (λ x. results x a) (λ y. results y b)

both_made : (store : Env) (a b : List Statement) (n : Label) (V W : Env) (names : List Label) (o : Option (Result Vector Over)) → Agree V W names → Behind store a b names
    → Alike (then_run (after_effect V n o) (run_from store a)) (then_run (after_effect W n o) (run_from store b)) (λ x. results x a) (λ y. results y b)
both_made store a b n V W names None h behind = behind V W h
both_made store a b n V W names (Some (Err e)) h behind = refl
both_made store a b n V W names (Some (Ok v)) h behind = behind (put V n v) (put W n v) (agree_put V W n v names h)

both_step : (store : Env) (a b : List Statement) (n : Label) (V W : Env) (names : List Label) (f : Family) → AgreeAll V W (mentioned_by f) → Agree V W names → Behind store a b names
    → Alike (then_run (after_effect V n (effect_by store V f)) (run_from store a)) (then_run (after_effect W n (effect_by store W f)) (run_from store b)) (λ x. results x a) (λ y. results y b)
both_step store a b n V W names f m h behind =
    subst (λ (o : Option (Result Vector Over)). Alike (then_run (after_effect V n (effect_by store V f)) (run_from store a)) (then_run (after_effect W n o) (run_from store b)) (λ x. results x a) (λ y. results y b))
    (effect_same store V W f m) (both_made store a b n V W names (effect_by store V f) h behind)

kept_step : (store : Env) (a b : List Statement) (n : Label) (V W : Env) (names : List Label) (f : Family) → AgreeAll V W (mentioned_by f) → Agree V W names → StandsBy f a → StandsBy f b → Behind store a b names
    → Alike (then_run (after_effect V n (effect_by store V f)) (run_from store a)) (then_run (after_effect W n (effect_by store W f)) (run_from store b)) (λ x. result_of x n f (results x a)) (λ y. result_of y n f (results y b))
kept_step store a b n V W names (Persist p) m h sa sb behind = persisted store a b n p V W (run_from store a V) (run_from store b W) refl refl sa sb m.0 (behind V W h)
kept_step store a b n V W names f m h sa sb behind = not_shown f n _ _ a b refl (both_step store a b n V W names f m h behind)

-- ---- one that is not

or_none : (x y : Bool) → (x || y) ≡ false → (x ≡ false) × (y ≡ false)
or_none true y h = absurd cc
or_none false y h = (refl, h)

left_or : (x y : Bool) → (x || y) ≡ true → x ≡ false → y ≡ true
left_or true y h e = absurd cc
left_or false y h e = h

not_mentioned : (names : List Label) (n m : Label) → has_name names n ≡ false → has_name names m ≡ true → bytes_eq n m ≡ false
not_mentioned names n m off on = texts_differ n m (λ e. let same : has_name names n ≡ has_name names m = ap (has_name names) e in absurd cc)

agree_skip : (V W : Env) (n : Label) (v : Vector) (names : List Label) → has_name names n ≡ false → Agree V W names → Agree (put V n v) W names
agree_skip V W n v names off h m has = put_other V n m v (not_mentioned names n m off has) ∙ h m has

skipped : (store : Env) (a b : List Statement) (s : Statement) (V W : Env) (names : List Label) → is_used names s ≡ true → is_reached names s ≡ false → Agree V W names → Behind store a b names
    → Alike (run_from store (s ∷ a) V) (run_from store b W) (λ x. results x (s ∷ a)) (λ y. results y b)
skipped store a b s V W names used off h behind =
    let apart = or_none (is_persist s.op) (has_name names s.name) off in
    let c = never_over_makes store V (family s.op) (left_or (is_reached names s) (never_over s.op) used off) in
    let made = behind (put V s.name c.made) W (agree_skip V W s.name c.made names apart.1 h) in
    subst (λ (o : Option (Result Vector Over)). Alike (then_run (after_effect V s.name o) (run_from store a)) (run_from store b W) (λ x. results x (s ∷ a)) (λ y. results y b)) (sym c.is)
    (also_shown (run_from store a (put V s.name c.made)) (run_from store b W) _ _ _ _ (λ x. no_result (family s.op) s.name x (results x a) apart.0) (λ y. refl) made)

-- ---- all statements

avoid_if : (m : Label) (b : Bool) (s : Statement) (r : Reached) → bytes_eq s.name m ≡ false → Avoids m r.kept → Avoids m (reach_if b s r).kept
avoid_if m true s r e h = (e, h)
avoid_if m false s r e h = h

avoids_kept : (m : Label) (wanted : List Label) (a : List Statement) → Avoids m a → Avoids m (reached wanted a).kept
avoids_kept m wanted [] h = tt
avoids_kept m wanted (s ∷ a) h = avoid_if m (is_reached (reached wanted a).names s) s (reached wanted a) h.0 (avoids_kept m wanted a h.1)

stands_kept : (f : Family) (wanted : List Label) (a : List Statement) → StandsBy f a → StandsBy f (reached wanted a).kept
stands_kept (Persist p) wanted a h = avoids_kept p wanted a h
stands_kept f wanted a h = tt

agree_front : (V W : Env) (xs ys : List Label) → Agree V W (xs ++ ys) → AgreeAll V W xs
agree_front V W xs ys h = agree_all V W xs (λ n m. h n (has_name-append xs ys n ∙ ap (λ (b : Bool). b || has_name ys n) m))

agree_rest : (V W : Env) (xs ys : List Label) → Agree V W (xs ++ ys) → Agree V W ys
agree_rest V W xs ys h n m = h n (has_name-behind xs ys n m)

by_reach : (store : Env) (wanted : List Label) (a : List Statement) (s : Statement) (V W : Env) (b : Bool) → is_reached (reached wanted a).names s ≡ b → is_used (reached wanted a).names s ≡ true → StandsBy (family s.op) a
    → Behind store a (reached wanted a).kept (reached wanted a).names → Agree V W (reach_if b s (reached wanted a)).names
    → Alike (run_from store (s ∷ a) V) (run_from store (reach_if b s (reached wanted a)).kept W) (λ x. results x (s ∷ a)) (λ y. results y (reach_if b s (reached wanted a)).kept)
by_reach store wanted a s V W true e used stands behind h =
    let r = reached wanted a in
    kept_step store a r.kept s.name V W r.names (family s.op) (agree_front V W (mentioned s.op) r.names h) (agree_rest V W (mentioned s.op) r.names h) stands (stands_kept (family s.op) wanted a stands) behind
by_reach store wanted a s V W false e used stands behind h =
    let r = reached wanted a in skipped store a r.kept s V W r.names used e h behind

alike : (store : Env) (wanted : List Label) (a : List Statement) → AreUsed wanted a → ResultsStand a → Behind store a (reached wanted a).kept (reached wanted a).names
alike store wanted [] used stand X Y h = refl
alike store wanted (s ∷ a) used stand X Y h =
    by_reach store wanted a s X Y (is_reached (reached wanted a).names s) refl used.0 stand.0 (alike store wanted a used.1 stand.1) h

pub use_law : UseLaw
use_law store program used stand =
    sym (shown_alike (run_from store program nothing) (run_from store (reached [] program).kept nothing) program (reached [] program).kept (alike store [] program used stand nothing nothing (λ n m. refl)))

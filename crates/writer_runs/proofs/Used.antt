-- Used statements, one part behind another.
use Rattle.std.proofs.Common.{◌≡◌, Bool, true, false, ◌||◌, List, [], ◌∷◌, ◌++◌, refl, sym, ap, ◌∙◌, subst}
use Rattle.programs.specs.declared.op.Statement.{Statement}
use Rattle.programs.specs.Mentions.{Label, mentioned, is_persist, has_name}
use Rattle.programs.specs.Reaching.{Reached, reach_if, is_reached, reached}
use Rattle.programs.proofs.Marks.{has_name-append}
use Rattle.programs.proofs.ReachLemmas.{or_true, has_name-behind, reached-append}
use Rattle.writer_runs.specs.Laws.{UsedLaws}
use Rattle.writer_runs.specs.Uses.{never_over, is_used, AreUsed, Includes, Uses}

-- ---- more names that are wanted

or_more : (a x y : Bool) → (x ≡ true → y ≡ true) → (a || x) ≡ true → (a || y) ≡ true
or_more true x y f h = refl
or_more false x y f h = f h

or_before : (x y n : Bool) → (x ≡ true → y ≡ true) → (x || n) ≡ true → (y || n) ≡ true
or_before true y n f h = ap (λ (b : Bool). b || n) (f refl)
or_before false y n f h = ap (λ (b : Bool). y || b) h ∙ or_true y

reached_more : (names more : List Label) (s : Statement) → Includes more names → is_reached names s ≡ true → is_reached more s ≡ true
reached_more names more s h r = or_more (is_persist s.op) (has_name names s.name) (has_name more s.name) (h s.name) r

used_by_more : (names more : List Label) (s : Statement) → Includes more names → is_used names s ≡ true → is_used more s ≡ true
used_by_more names more s h u = or_before (is_reached names s) (is_reached more s) (never_over s.op) (reached_more names more s h) u

both_more : (xs names more : List Label) → Includes more names → Includes (xs ++ more) (xs ++ names)
both_more xs names more h n m =
    has_name-append xs more n ∙ or_more (has_name xs n) (has_name names n) (has_name more n) (h n) (sym (has_name-append xs names n) ∙ m)

reach_more : (b c : Bool) (s : Statement) (r q : Reached) → (b ≡ true → c ≡ true) → Includes q.names r.names → Includes (reach_if c s q).names (reach_if b s r).names
reach_more true true s r q f h = both_more (mentioned s.op) r.names q.names h
reach_more true false s r q f h = absurd (let no : false ≡ true = f refl in cc)
reach_more false true s r q f h = λ n m. has_name-behind (mentioned s.op) q.names n (h n m)
reach_more false false s r q f h = h

pub names_more : (wanted others : List Label) (a : List Statement) → Includes others wanted → Includes (reached others a).names (reached wanted a).names
names_more wanted others [] h = h
names_more wanted others (s ∷ a) h =
    let r = reached wanted a in
    let q = reached others a in
    let rest = names_more wanted others a h in
    reach_more (is_reached r.names s) (is_reached q.names s) s r q (reached_more r.names q.names s rest) rest

pub used_more : (wanted others : List Label) (a : List Statement) → Includes others wanted → AreUsed wanted a → AreUsed others a
used_more wanted others [] h u = tt
used_more wanted others (s ∷ a) h u =
    (used_by_more (reached wanted a).names (reached others a).names s (names_more wanted others a h) u.0, used_more wanted others a h u.1)

-- ---- names that are wanted behind are wanted in front

grow_if : (b : Bool) (s : Statement) (r : Reached) → Includes (reach_if b s r).names r.names
grow_if true s r = λ n m. has_name-behind (mentioned s.op) r.names n m
grow_if false s r = λ n m. m

pub names_grow : (wanted : List Label) (a : List Statement) → Includes (reached wanted a).names wanted
names_grow wanted [] n m = m
names_grow wanted (s ∷ a) n m = let r = reached wanted a in grow_if (is_reached r.names s) s r n (names_grow wanted a n m)

-- ---- one part behind another

names_append : (wanted : List Label) (a b : List Statement) → (reached wanted (a ++ b)).names ≡ (reached (reached wanted b).names a).names
names_append wanted a b = ap (λ (r : Reached). r.names) (reached-append wanted a b)

pub used_append : (wanted : List Label) (a b : List Statement) → AreUsed (reached wanted b).names a → AreUsed wanted b → AreUsed wanted (a ++ b)
used_append wanted [] b u v = v
used_append wanted (s ∷ a) b u v =
    (subst (λ (names : List Label). is_used names s ≡ true) (sym (names_append wanted a b)) u.0, used_append wanted a b u.1 v)

pub append : (wanted between front : List Label) (a b : List Statement) → Uses between front a → Uses wanted between b → Uses wanted front (a ++ b)
append wanted between front a b ha hb = record {
  used = used_append wanted a b (used_more between (reached wanted b).names a hb.reaches ha.used) hb.used;
  reaches = λ n m. subst (λ (names : List Label). has_name names n ≡ true) (sym (names_append wanted a b)) (names_more between (reached wanted b).names a hb.reaches n (ha.reaches n m));
}

pub more : (wanted others front fewer : List Label) (a : List Statement) → Includes others wanted → Includes front fewer → Uses wanted front a → Uses others fewer a
more wanted others front fewer a h k u = record {
  used = used_more wanted others a h u.used;
  reaches = λ n m. names_more wanted others a h n (u.reaches n (k n m));
}

or_cases : (x y z : Bool) → (x ≡ true → z ≡ true) → (y ≡ true → z ≡ true) → (x || y) ≡ true → z ≡ true
or_cases true y z f g h = f refl
or_cases false y z f g h = g h

includes_front : (xs ys : List Label) → Includes (xs ++ ys) xs
includes_front xs ys n m = has_name-append xs ys n ∙ ap (λ (b : Bool). b || has_name ys n) m

pub beside : (wanted front others : List Label) (a : List Statement) → Uses wanted front a → Uses (wanted ++ others) (front ++ others) a
beside wanted front others a u = record {
  used = used_more wanted (wanted ++ others) a (includes_front wanted others) u.used;
  reaches = λ n m. or_cases (has_name front n) (has_name others n) (has_name (reached (wanted ++ others) a).names n)
      (λ f. names_more wanted (wanted ++ others) a (includes_front wanted others) n (u.reaches n f))
      (λ o. names_grow (wanted ++ others) a n (has_name-behind wanted others n o))
      (sym (has_name-append front others n) ∙ m);
}

-- ---- one statement

reached_here : (wanted : List Label) (s : Statement) → is_reached wanted s ≡ true → Uses wanted (mentioned s.op ++ wanted) (s ∷ [])
reached_here wanted s h = record {
  used = (ap (λ (b : Bool). b || never_over s.op) h, tt);
  reaches = λ n m. subst (λ (b : Bool). has_name (reach_if b s (record { names = wanted; kept = [] })).names n ≡ true) (sym h) m;
}

pub one : (wanted : List Label) (s : Statement) → has_name wanted s.name ≡ true → Uses wanted (mentioned s.op ++ wanted) (s ∷ [])
one wanted s h = reached_here wanted s (ap (λ (b : Bool). is_persist s.op || b) h ∙ or_true (is_persist s.op))

pub result : (wanted : List Label) (s : Statement) → is_persist s.op ≡ true → Uses wanted (mentioned s.op ++ wanted) (s ∷ [])
result wanted s h = reached_here wanted s (ap (λ (b : Bool). b || has_name wanted s.name) h)

pub idle : (wanted : List Label) (s : Statement) → never_over s.op ≡ true → Uses wanted wanted (s ∷ [])
idle wanted s h = record {
  used = (ap (λ (b : Bool). is_reached wanted s || b) h ∙ or_true (is_reached wanted s), tt);
  reaches = grow_if (is_reached wanted s) s (record { names = wanted; kept = [] });
}

pub used_laws : UsedLaws
used_laws = record {
  none = λ wanted. record { used = tt; reaches = λ n m. m };
  one = one;
  result = result;
  idle = idle;
  append = append;
  more = more;
  beside = beside;
}

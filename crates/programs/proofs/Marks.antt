-- Which statements are reached: names that are wanted, and marks one by one.
use Rattle.std.proofs.Common.{◌≡◌, ℕ, ◌+◌, ◌<◌, ◌≤◌, List, [], ◌∷◌, ◌++◌, Bool, true, false, ◌||◌, if◌then◌else◌, refl, ap, sym, ◌∙◌, length, drop, set, get_or, replicate, arith, Some, Option, subst, inl, inr}
use Rattle.std.proofs.lemmas.Bool.{cases_lt}
use Rattle.std.specs.Prelude.{is_some}
use Rattle.std.proofs.lemmas.List.{drop_more, drop_all, length-set, length-replicate, drop-set, get_or-set_other, get_or-set_same, get_or-replicate, get_or_default}
use Rattle.std.proofs.lemmas.List.Folds.{list_any-append}
use Rattle.std.specs.Str.{bytes_eq}
use Rattle.programs.specs.declared.op.Statement.{Statement}
use Rattle.programs.specs.Mentions.{Label, mentioned, is_persist, has_name}
use Rattle.programs.specs.Indexes.{Places, no_places, noted}
use Rattle.programs.specs.Reaching.{Chooses, AlsoWants, Reached, reach_if, reach_one, reached, is_reached, chosen}

-- ---- which names are wanted
or_comm : (a b : Bool) → (a || b) ≡ (b || a)
or_comm true true = refl
or_comm true false = refl
or_comm false true = refl
or_comm false false = refl

or_assoc : (a b c : Bool) → (a || (b || c)) ≡ ((a || b) || c)
or_assoc true b c = refl
or_assoc false b c = refl

pub has_name-append : (xs ys : List Label) (n : Label) → has_name (xs ++ ys) n ≡ (has_name xs n || has_name ys n)
has_name-append xs ys n = list_any-append (λ m. bytes_eq m n) xs ys

is_some_noted : (b : Bool) (i : ℕ) (o : Option ℕ) → is_some (if b then Some i else o) ≡ (b || is_some o)
is_some_noted true i o = refl
is_some_noted false i o = refl

or_false : (b : Bool) → (b || false) ≡ b
or_false true = refl
or_false false = refl

pub wants_none : (wanted : Places) → AlsoWants wanted [] wanted
wants_none wanted m = refl

pub wants_one : (wanted now : Places) (n : Label) (i : ℕ) → now ≡ noted wanted n i → AlsoWants wanted (n ∷ []) now
wants_one wanted now n i e m = rw e (is_some_noted (bytes_eq n m) i (wanted m) ∙ ap (λ (b : Bool). b || is_some (wanted m)) (sym (or_false (bytes_eq n m))))

pub wants_both : (wanted middle now : Places) (xs ys : List Label) → AlsoWants wanted xs middle → AlsoWants middle ys now → AlsoWants wanted (xs ++ ys) now
wants_both wanted middle now xs ys h k m =
    k m ∙ ap (λ (b : Bool). has_name ys m || b) (h m) ∙ or_assoc (has_name ys m) (has_name xs m) (is_some (wanted m))
    ∙ ap (λ (b : Bool). b || is_some (wanted m)) (or_comm (has_name ys m) (has_name xs m) ∙ sym (has_name-append xs ys m))

pub wants_two : (wanted middle now : Places) (a b : Label) (i j : ℕ) → middle ≡ noted wanted a i → now ≡ noted middle b j → AlsoWants wanted (a ∷ b ∷ []) now
wants_two wanted middle now a b i j e f = wants_both wanted middle now (a ∷ []) (b ∷ []) (wants_one wanted middle a i e) (wants_one middle now b j f)

-- ---- which statements are reached

-- the marks of the statements from i on, and the names that those mention
pub record Marked (marks : List Bool) (statements : List Statement) (wanted : Places) (i : ℕ) : Type 0 where
  pub each : length marks ≡ length statements
  pub within : i ≤ length statements
  pub left : (k : ℕ) → k < i → get_or marks k false ≡ false
  pub kept : chosen (drop i marks) (drop i statements) ≡ (reached [] (drop i statements)).kept
  pub names : (n : Label) → is_some (wanted n) ≡ has_name (reached [] (drop i statements)).names n
  pub at : (k : ℕ) (t : Statement) → i ≤ k → k < length statements → t ≡ get_or statements k t → get_or marks k false ≡ is_reached (reached [] (drop (k + 1) statements)).names t

pub marked_start : (marks : List Bool) (statements : List Statement) (wanted : Places) → marks ≡ replicate (length statements) false → wanted ≡ no_places → Marked marks statements wanted (length statements)
marked_start marks statements wanted m e =
    let each : length marks ≡ length statements = ap length m ∙ length-replicate (length statements) false in
    record {
      each = each;
      within = omega arith;
      left = λ k h. ap (λ (l : List Bool). get_or l k false) m ∙ get_or-replicate (length statements) k false false h;
      kept = rw (drop_all (length statements) statements (omega arith), drop_all (length statements) marks (omega arith)) refl;
      names = λ n. rw (drop_all (length statements) statements (omega arith), e) refl;
      at = λ k t low high q. absurd (omega arith);
    }

at_place : (marks : List Bool) (statements : List Statement) (j k : ℕ) (s t : Statement) → k ≡ j → s ≡ get_or statements j s → t ≡ get_or statements k t → j < length statements → get_or marks j false ≡ is_reached (reached [] (drop (j + 1) statements)).names s → get_or marks k false ≡ is_reached (reached [] (drop (k + 1) statements)).names t
at_place marks statements j k s t e at q h m =
    let same : t ≡ s = q ∙ ap (λ (n : ℕ). get_or statements n t) e ∙ get_or_default statements j t s h ∙ sym at in
    rw (e, same) m

-- one more statement, which is not reached
pub marked_skip : (marks : List Bool) (statements : List Statement) (wanted : Places) (i j : ℕ) (s : Statement) → j + 1 ≡ i → Marked marks statements wanted i → s ≡ get_or statements j s → false ≡ (is_persist s.op || is_some (wanted s.name)) → Marked marks statements wanted j
marked_skip marks statements wanted i j s next h at off =
    let here : drop j statements ≡ s ∷ drop (j + 1) statements = drop_more statements j s (omega (arith, h.within)) ∙ ap (λ (x : Statement). x ∷ drop (j + 1) statements) (sym at) in
    let mark : drop j marks ≡ false ∷ drop (j + 1) marks = drop_more marks j false (omega (arith, h.within, h.each)) ∙ ap (λ (b : Bool). b ∷ drop (j + 1) marks) (h.left j (omega arith)) in
    let r = reached [] (drop (j + 1) statements) in
    let off_there : is_reached r.names s ≡ false = ap (λ (b : Bool). is_persist s.op || b) (sym (rw next (h.names s.name))) ∙ sym off in
    let same : reach_one s r ≡ r = ap (λ (b : Bool). reach_if b s r) off_there in
    record {
      each = h.each;
      within = omega (arith, h.within);
      left = λ k l. h.left k (omega arith);
      kept = rw (here, mark) (rw next h.kept ∙ sym (ap (λ (q : Reached). q.kept) same));
      names = λ n. rw here (rw next (h.names n) ∙ sym (ap (λ (q : Reached). has_name q.names n) same));
      at = λ k t low high q. elim (cases_lt j k) [
        | inl more ↦ h.at k t (omega arith) high q
        | inr here ↦ at_place marks statements j k s t (omega arith) at q (omega arith) (h.left j (omega arith) ∙ sym off_there)
      ];
    }

-- one more statement, which is reached
pub marked_keep : (marks : List Bool) (statements : List Statement) (wanted more : Places) (i j : ℕ) (s t : Statement) → j + 1 ≡ i → Marked marks statements wanted i → s ≡ get_or statements j s → true ≡ (is_persist s.op || is_some (wanted s.name)) → AlsoWants wanted (mentioned (get_or statements j t).op) more → Marked (set marks j true) statements more j
marked_keep marks statements wanted more i j s t next h at on wants =
    let same : get_or statements j t ≡ s = get_or_default statements j t s (omega (arith, h.within)) ∙ sym at in
    let m : AlsoWants wanted (mentioned s.op) more = subst (λ (u : Statement). AlsoWants wanted (mentioned u.op) more) same wants in
    let few : j < length marks = omega (arith, h.within, h.each) in
    let here : drop j statements ≡ s ∷ drop (j + 1) statements = drop_more statements j s (omega (arith, h.within)) ∙ ap (λ (x : Statement). x ∷ drop (j + 1) statements) (sym at) in
    let r = reached [] (drop (j + 1) statements) in
    let on_there : is_reached r.names s ≡ true = ap (λ (b : Bool). is_persist s.op || b) (sym (rw next (h.names s.name))) ∙ sym on in
    let same : reach_one s r ≡ record { names = mentioned s.op ++ r.names; kept = s ∷ r.kept } = ap (λ (b : Bool). reach_if b s r) on_there in
    record {
      each = length-set marks j true ∙ h.each;
      within = omega (arith, h.within);
      left = λ k l. get_or-set_other marks j k true false (omega arith) ∙ h.left k (omega arith);
      kept = rw (here, drop-set marks j true few) (ap (λ (l : List Statement). s ∷ l) (rw next h.kept) ∙ sym (ap (λ (q : Reached). q.kept) same));
      names = λ n. rw here (m n ∙ ap (λ (b : Bool). has_name (mentioned s.op) n || b) (rw next (h.names n)) ∙ sym (has_name-append (mentioned s.op) r.names n) ∙ sym (ap (λ (q : Reached). has_name q.names n) same));
      at = λ k t low high q. elim (cases_lt j k) [
        | inl more ↦ get_or-set_other marks j k true false (omega arith) ∙ h.at k t (omega arith) high q
        | inr here ↦ at_place (set marks j true) statements j k s t (omega arith) at q (omega arith) (get_or-set_same marks j true false few ∙ sym on_there)
      ];
    }

pub marked_end : (marks : List Bool) (statements : List Statement) (wanted : Places) → Marked marks statements wanted 0 → Chooses marks statements
marked_end marks statements wanted h = record { each = h.each; kept = h.kept; at = λ k s high q. h.at k s (omega arith) high q }

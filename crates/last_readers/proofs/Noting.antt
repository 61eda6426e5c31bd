-- The readers that are noted, from the last statement to the first.
use Rattle.std.proofs.Common.{◌≡◌, ℕ, ◌+◌, ◌<◌, ◌≤◌, List, [], ◌∷◌, ◌++◌, Bool, true, false, ◌||◌, not, if◌then◌else◌, refl, ap, sym, ◌∙◌, length, drop, get_or, arith, subst, Option, Some, None, inl, inr}
use Rattle.std.specs.Prelude.{is_some, nat_lt}
use Rattle.std.specs.Str.{bytes_eq}
use Rattle.std.proofs.lemmas.Bool.{cases_lt}
use Rattle.std.proofs.lemmas.List.{drop_more, drop_all, get_or_default}
use Rattle.std.proofs.lemmas.Slice.Eq.{bytes_eq-Decides}
use Rattle.programs.specs.declared.op.Statement.{Statement}
use Rattle.programs.specs.Mentions.{Label, mentioned, is_persist, has_name}
use Rattle.programs.specs.Indexes.{Places, no_places, noted}
use Rattle.programs.specs.Reaching.{Reached, reach_if, reach_one, reached, is_reached}
use Rattle.programs.proofs.Marks.{has_name-append}
use Rattle.last_readers.specs.Readers.{stands_from, noted_if, Notes}

-- ---- one reader
noted_none : (o : Option ℕ) (i : ℕ) → noted_if o false i ≡ o
noted_none (Some k) i = refl
noted_none None i = refl

noted_again : (o : Option ℕ) (b c : Bool) (i : ℕ) → noted_if (noted_if o b i) c i ≡ noted_if o (b || c) i
noted_again (Some k) b c i = refl
noted_again None true c i = refl
noted_again None false c i = refl

or_false : (b : Bool) → (b || false) ≡ b
or_false true = refl
or_false false = refl

-- where a name has a reader, another one changes nothing
noted_some : (o : Option ℕ) (b : Bool) (i : ℕ) → is_some o ≡ true → noted_if o b i ≡ o
noted_some (Some k) b i h = refl
noted_some None b i h = absurd cc

noted_first : (o : Option ℕ) (b : Bool) (i : ℕ) → is_some o ≡ false → noted_if o b i ≡ (if b then Some i else o)
noted_first (Some k) b i h = absurd cc
noted_first None b i h = refl

pub notes_none : (places : Places) (i : ℕ) → Notes places [] i places
notes_none places i n = sym (noted_none (places n) i)

pub notes_later : (places : Places) (a : Label) (i : ℕ) → true ≡ is_some (places a) → Notes places (a ∷ []) i places
notes_later places a i h n = by (bytes_eq a n) refl
  where
    by : (b : Bool) → bytes_eq a n ≡ b → places n ≡ noted_if (places n) (b || false) i
    by true e = let same : a ≡ n = (bytes_eq-Decides a n).0 e in sym (noted_some (places n) true i (ap (λ (m : Label). is_some (places m)) (sym same) ∙ sym h))
    by false e = sym (noted_none (places n) i)

pub notes_first : (places now : Places) (a : Label) (i : ℕ) → false ≡ is_some (places a) → now ≡ noted places a i → Notes places (a ∷ []) i now
notes_first places now a i h e n = ap (λ (p : Places). p n) e ∙ by (bytes_eq a n) refl
  where
    by : (b : Bool) → bytes_eq a n ≡ b → (if b then Some i else places n) ≡ noted_if (places n) (b || false) i
    by true e = let same : a ≡ n = (bytes_eq-Decides a n).0 e in sym (noted_first (places n) true i (ap (λ (m : Label). is_some (places m)) (sym same) ∙ sym h))
    by false e = sym (noted_none (places n) i)

pub notes_both : (places middle now : Places) (xs ys : List Label) (i : ℕ) → Notes places xs i middle → Notes middle ys i now → Notes places (xs ++ ys) i now
notes_both places middle now xs ys i h k n =
    k n ∙ ap (λ (o : Option ℕ). noted_if o (has_name ys n) i) (h n)
    ∙ noted_again (places n) (has_name xs n) (has_name ys n) i
    ∙ ap (λ (b : Bool). noted_if (places n) b i) (sym (has_name-append xs ys n))

-- ---- where a last reader stands
not_before : (k j : ℕ) → j ≤ k → not (nat_lt k j) ≡ true
not_before k j h = grind arith

before : (k j : ℕ) → k < j → not (nat_lt k j) ≡ false
before k j h = grind arith

-- it does not stand before i
abbrev pub IsBehind : ℕ → Option ℕ → Type 0
IsBehind i None = Unit {0}
IsBehind i (Some k) = i ≤ k

-- so it stands from i on wherever it stands from an earlier place on
stands_next : (o : Option ℕ) (i j : ℕ) → j ≤ i → IsBehind i o → stands_from o i ≡ stands_from o j
stands_next None i j h b = refl
stands_next (Some k) i j h b = not_before k i b ∙ sym (not_before k j (omega (arith, b, h)))

behind_earlier : (o : Option ℕ) (i j : ℕ) → j ≤ i → IsBehind i o → IsBehind j o
behind_earlier None i j h b = tt
behind_earlier (Some k) i j h b = omega (arith, b, h)

is_some-stands : (o : Option ℕ) (i : ℕ) → IsBehind i o → is_some o ≡ stands_from o i
is_some-stands None i b = refl
is_some-stands (Some k) i b = sym (not_before k i b)

-- a reader more, at place j
stands_noted : (o : Option ℕ) (b : Bool) (i j : ℕ) → j < i → IsBehind i o → stands_from (noted_if o b j) j ≡ (b || stands_from o i)
stands_noted (Some k) true i j h w = not_before k j (omega (arith, w, h))
stands_noted (Some k) false i j h w = not_before k j (omega (arith, w, h)) ∙ sym (not_before k i w)
stands_noted None true i j h w = not_before j j (omega arith)
stands_noted None false i j h w = refl

-- it tells nothing of the places behind j
stands_behind : (o : Option ℕ) (b : Bool) (j k : ℕ) → j < k → stands_from (noted_if o b j) k ≡ stands_from o k
stands_behind (Some l) b j k h = refl
stands_behind None true j k h = before j k h
stands_behind None false j k h = refl

behind_noted : (o : Option ℕ) (b : Bool) (i j : ℕ) → j ≤ i → IsBehind i o → IsBehind j (noted_if o b j)
behind_noted (Some k) b i j h w = omega (arith, w, h)
behind_noted None true i j h w = omega arith
behind_noted None false i j h w = tt

-- ---- the readers among the statements from i on
pub record Reading (places : Places) (statements : List Statement) (i : ℕ) : Type 0 where
  pub within : i ≤ length statements
  pub behind : (n : Label) → IsBehind i (places n)
  pub reads : (k : ℕ) (n : Label) → i ≤ k → has_name (reached [] (drop k statements)).names n ≡ stands_from (places n) k

pub reading_start : (places : Places) (statements : List Statement) (i : ℕ) → i ≡ length statements → places ≡ no_places → Reading places statements i
reading_start places statements i e p = rw p (record {
  within = omega (arith, e);
  behind = λ n. tt;
  reads = λ k n h. ap (λ (l : List Statement). has_name (reached [] l).names n) (drop_all k statements (omega (arith, e, h)));
})

reached_here : (statements : List Statement) (j : ℕ) (s : Statement) → j < length statements → s ≡ get_or statements j s → reached [] (drop j statements) ≡ reach_one s (reached [] (drop (j + 1) statements))
reached_here statements j s h at = ap (reached []) (drop_more statements j s h ∙ ap (λ (x : Statement). x ∷ drop (j + 1) statements) (sym at))

-- whether the statement before them is reached
reached_as : (places : Places) (statements : List Statement) (i : ℕ) (s : Statement) (b : Bool) → Reading places statements i → b ≡ (is_persist s.op || is_some (places s.name)) → is_reached (reached [] (drop i statements)).names s ≡ b
reached_as places statements i s b h e =
    ap (λ (c : Bool). is_persist s.op || c) (h.reads i s.name (omega arith) ∙ sym (is_some-stands (places s.name) i (h.behind s.name))) ∙ sym e

pub reading_skip : (places : Places) (statements : List Statement) (i j : ℕ) (s : Statement) → j + 1 ≡ i → Reading places statements i → s ≡ get_or statements j s → false ≡ (is_persist s.op || is_some (places s.name)) → Reading places statements j
reading_skip places statements i j s next h at off =
    let few : j < length statements = omega (arith, next, h.within) in
    let r = reached [] (drop (j + 1) statements) in
    let off_there : is_reached r.names s ≡ false = rw next (reached_as places statements i s false h off) in
    let same : reached [] (drop j statements) ≡ r = reached_here statements j s few at ∙ ap (λ (b : Bool). reach_if b s r) off_there in
    record {
      within = omega (arith, few);
      behind = λ n. behind_earlier (places n) i j (omega (arith, next)) (h.behind n);
      reads = λ k n low. elim (cases_lt j k) [
        | inl more ↦ h.reads k n (omega (arith, next, more))
        | inr here ↦
            let e : k ≡ j = omega (arith, low, here) in
            rw e (ap (λ (q : Reached). has_name q.names n) same ∙ rw next (h.reads i n (omega arith)) ∙ stands_next (places n) i j (omega (arith, next)) (h.behind n))
      ];
    }

pub reading_keep : (places now : Places) (statements : List Statement) (i j : ℕ) (s t : Statement) → j + 1 ≡ i → Reading places statements i → s ≡ get_or statements j s → true ≡ (is_persist s.op || is_some (places s.name)) → Notes places (mentioned (get_or statements j t).op) j now → Reading now statements j
reading_keep places now statements i j s t next h at on notes =
    let few : j < length statements = omega (arith, next, h.within) in
    let found : get_or statements j t ≡ s = get_or_default statements j t s few ∙ sym at in
    let m : Notes places (mentioned s.op) j now = subst (λ (u : Statement). Notes places (mentioned u.op) j now) found notes in
    let r = reached [] (drop (j + 1) statements) in
    let off_there : is_reached r.names s ≡ true = rw next (reached_as places statements i s true h on) in
    let same : reached [] (drop j statements) ≡ record { names = mentioned s.op ++ r.names; kept = s ∷ r.kept } = reached_here statements j s few at ∙ ap (λ (b : Bool). reach_if b s r) off_there in
    record {
      within = omega (arith, few);
      behind = λ n. subst (IsBehind j) (sym (m n)) (behind_noted (places n) (has_name (mentioned s.op) n) i j (omega (arith, next)) (h.behind n));
      reads = λ k n low. elim (cases_lt j k) [
        | inl more ↦ h.reads k n (omega (arith, next, more)) ∙ sym (ap (λ (o : Option ℕ). stands_from o k) (m n) ∙ stands_behind (places n) (has_name (mentioned s.op) n) j k more)
        | inr here ↦
            let e : k ≡ j = omega (arith, low, here) in
            rw e (ap (λ (q : Reached). has_name q.names n) same
            ∙ has_name-append (mentioned s.op) r.names n
            ∙ ap (λ (b : Bool). has_name (mentioned s.op) n || b) (rw next (h.reads i n (omega arith)))
            ∙ sym (ap (λ (o : Option ℕ). stands_from o j) (m n) ∙ stands_noted (places n) (has_name (mentioned s.op) n) i j (omega (arith, next)) (h.behind n)))
      ];
    }

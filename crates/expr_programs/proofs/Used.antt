-- Each statement of some steps is used, and the vector that they read is wanted in front of them.
use Rattle.std.proofs.Common.{◌≡◌, ℕ, ◌+◌, ◌-◌, ◌<◌, ◌≤◌, ◌==◌, ◌⊎◌, inl, inr, Bool, true, false, ◌||◌, ◌&&◌, List, [], ◌∷◌, ◌++◌, length, length-append, refl, sym, ap, ◌∙◌, subst, arith}
use Rattle.std.specs.Str.{bytes_eq}
use Rattle.std.proofs.lemmas.Bool.{or_left, or_right, or_cases, eqb-true, cases_lt}
use Rattle.std.proofs.lemmas.Slice.Eq.{bytes_eq-Decides}
use Rattle.control_vectors.specs.declared.PairKind.TheVariants as pair
use Rattle.programs.specs.declared.op.Statement.{Statement}
use Rattle.programs.specs.Families.{pair_of}
use Rattle.programs.specs.Mentions.{Label, operand_names, mentioned_by, mentioned, is_persist, has_name}
use Rattle.programs.specs.Reaching.{Reached, reach_if, is_reached, reached}
use Rattle.programs.proofs.Marks.{has_name-append}
use Rattle.expr_steps.specs.declared.steps.Source.{Source}
use Rattle.expr_steps.specs.declared.steps.Source.TheVariants as at
use Rattle.expr_steps.specs.declared.steps.Step.{Step}
use Rattle.expr_steps.specs.Codes.{pair_step}
use Rattle.expr_steps.specs.Lowered.{constants}
use Rattle.expr_lower.specs.Statements.{Site, numbered, value_name, name_of, operand_of, args_of, statement_of, statements_from}
use Rattle.expr_scopes.specs.Scopes.{Names, IsBefore, is_number, IsScoped, AreScoped, is_made, step_reads, reads, AreRead}
use Rattle.program_writers.specs.Writers.{numbered as part_name}
use Rattle.writer_checks.proofs.Operators.{pair_family}
use Rattle.writer_checks.proofs.Outlined.{same_name}
use Rattle.writer_runs.specs.Uses.{never_over, AreUsed}
use Rattle.expr_programs.specs.Values.{Base, site_of}
use Rattle.expr_programs.specs.Laws.{UseLaw}
use Rattle.expr_programs.proofs.Naming.{named_step, named_last}

-- ---- what a statement mentions

first_name : (a : Label) (rest : List Label) → has_name (a ∷ rest) a ≡ true
first_name a rest = or_left (bytes_eq a a) (has_name rest a) (same_name a)

behind : (names rest : List Label) (n : Label) → has_name rest n ≡ true → has_name (names ++ rest) n ≡ true
behind names rest n h = has_name-append names rest n ∙ or_right (has_name names n) (has_name rest n) h

before : (names rest : List Label) (n : Label) → has_name names n ≡ true → has_name (names ++ rest) n ≡ true
before names rest n h = has_name-append names rest n ∙ or_left (has_name names n) (has_name rest n) h

step_mentions : (s : Site) (step : Step) → mentioned (pair_of step.kind (args_of s step)) ≡ operand_names (operand_of s step.x) ++ operand_names (operand_of s step.y)
step_mentions s step = ap mentioned_by (pair_family step.kind (args_of s step))

first_mentioned : (s : Site) (step : Step) (n : Label) → has_name (operand_names (operand_of s step.x)) n ≡ true → has_name (mentioned (pair_of step.kind (args_of s step))) n ≡ true
first_mentioned s step n h = ap (λ (names : List Label). has_name names n) (step_mentions s step) ∙ before (operand_names (operand_of s step.x)) (operand_names (operand_of s step.y)) n h

second_mentioned : (s : Site) (step : Step) (n : Label) → has_name (operand_names (operand_of s step.y)) n ≡ true → has_name (mentioned (pair_of step.kind (args_of s step))) n ≡ true
second_mentioned s step n h = ap (λ (names : List Label). has_name names n) (step_mentions s step) ∙ behind (operand_names (operand_of s step.x)) (operand_names (operand_of s step.y)) n h

made_named : (s : Site) (i : ℕ) (x : Source) → is_made i x ≡ true → has_name (operand_names (operand_of s x)) (numbered s.stem i) ≡ true
made_named s i at.Mark h = absurd cc
made_named s i (at.Column c) h = absurd cc
made_named s i (at.Aggregate n) h = absurd cc
made_named s i (at.Made m) h = subst (λ (q : ℕ). has_name (numbered s.stem m ∷ []) (numbered s.stem q) ≡ true) (eqb-true m i h) (first_name (numbered s.stem m) [])
made_named s i (at.Number z) h = absurd cc

read_named : (s : Site) (step : Step) (i : ℕ) → step_reads i step ≡ true → has_name (mentioned (pair_of step.kind (args_of s step))) (numbered s.stem i) ≡ true
read_named s step i h = by (or_cases (is_made i step.x) (is_made i step.y) h)
  where
    by : (is_made i step.x ≡ true) ⊎ (is_made i step.y ≡ true) → has_name (mentioned (pair_of step.kind (args_of s step))) (numbered s.stem i) ≡ true
    by (inl a) = first_mentioned s step (numbered s.stem i) (made_named s i step.x a)
    by (inr b) = second_mentioned s step (numbered s.stem i) (made_named s i step.y b)

-- ---- a statement that is reached

grown : (b : Bool) (s : Statement) (r : Reached) (n : Label) → has_name r.names n ≡ true → has_name (reach_if b s r).names n ≡ true
grown true s r n h = behind (mentioned s.op) r.names n h
grown false s r n h = h

taken : (b : Bool) (s : Statement) (r : Reached) (n : Label) → b ≡ true → has_name (mentioned s.op) n ≡ true → has_name (reach_if b s r).names n ≡ true
taken true s r n e h = before (mentioned s.op) r.names n h
taken false s r n e h = absurd cc

reach_named : (names : List Label) (s : Statement) → has_name names s.name ≡ true → is_reached names s ≡ true
reach_named names s h = or_right (is_persist s.op) (has_name names s.name) h

-- ---- all of the later steps are reached

record AreReached (s : Site) (last j : ℕ) (steps : List Step) : Type 0 where
  used : AreUsed (value_name s.stem ∷ []) (statements_from s last j steps)
  named : (i : ℕ) → reads steps i ≡ true → has_name (reached (value_name s.stem ∷ []) (statements_from s last j steps)).names (numbered s.stem i) ≡ true

reads_some : (steps : List Step) (i : ℕ) → reads steps i ≡ true → 0 < length steps
reads_some [] i h = absurd cc
reads_some (step ∷ steps) i h = omega arith

nothing_behind : (s : Site) (last j : ℕ) (rest : List Step) → length rest ≡ 0 → has_name (reached (value_name s.stem ∷ []) (statements_from s last j rest)).names (value_name s.stem) ≡ true
nothing_behind s last j [] h = first_name (value_name s.stem) []
nothing_behind s last j (step ∷ rest) h = absurd (omega (arith, h))

named_here : (s : Site) (last j : ℕ) (rest : List Step) → (j + 1) + length rest ≡ last + 1 → (reads rest j || (j + 1 == last + 1)) ≡ true → AreReached s last (j + 1) rest → has_name (reached (value_name s.stem ∷ []) (statements_from s last (j + 1) rest)).names (name_of s.stem last j) ≡ true
named_here s last j rest n h r = by (or_cases (reads rest j) (j + 1 == last + 1) h)
  where
    names : List Label
    names = (reached (value_name s.stem ∷ []) (statements_from s last (j + 1) rest)).names

    by : (reads rest j ≡ true) ⊎ ((j + 1 == last + 1) ≡ true) → has_name names (name_of s.stem last j) ≡ true
    by (inl a) = let some = reads_some rest j a in subst (λ (m : Label). has_name names m ≡ true) (sym (named_step s.stem last j (omega (arith, some, n)))) (r.named j a)
    by (inr e) =
        let same = eqb-true (j + 1) (last + 1) e in
        subst (λ (m : Label). has_name names m ≡ true) (sym (named_last s.stem last j (omega (arith, same)))) (nothing_behind s last (j + 1) rest (omega (arith, same, n)))

all_reached : (s : Site) (last j : ℕ) (steps : List Step) → j + length steps ≡ last + 1 → AreRead (λ i. i + 1 == last + 1) j steps → AreReached s last j steps
all_reached s last j [] n read = record { used = tt; named = λ i h. absurd cc }
all_reached s last j (step ∷ rest) n read =
    let more = all_reached s last (j + 1) rest (omega (arith, n)) read.1 in
    let r = reached (value_name s.stem ∷ []) (statements_from s last (j + 1) rest) in
    let here = statement_of s (name_of s.stem last j) step in
    let is : is_reached r.names here ≡ true = reach_named r.names here (named_here s last j rest (omega (arith, n)) read.0 more) in
    record {
      used = (or_left (is_reached r.names here) (never_over here.op) is, more.used);
      named = λ i h. one_named s step rest r here i is (λ a. read_named s step i a) (λ b. more.named i b) (or_cases (step_reads i step) (reads rest i) h);
    }
  where
    one_named : (s : Site) (step : Step) (rest : List Step) (r : Reached) (here : Statement) (i : ℕ) → is_reached r.names here ≡ true → (step_reads i step ≡ true → has_name (mentioned here.op) (numbered s.stem i) ≡ true) → (reads rest i ≡ true → has_name r.names (numbered s.stem i) ≡ true) → (step_reads i step ≡ true) ⊎ (reads rest i ≡ true) → has_name (reach_if (is_reached r.names here) here r).names (numbered s.stem i) ≡ true
    one_named s step rest r here i is f g (inl a) = taken (is_reached r.names here) here r (numbered s.stem i) is (f a)
    one_named s step rest r here i is f g (inr b) = grown (is_reached r.names here) here r (numbered s.stem i) (g b)

-- ---- what the first of them reads: the vector, or a step before

data Leads (names : List Label) (s : Site) (k : ℕ) : Type 0 where
  vector : has_name names s.vector ≡ true → Leads names s k
  step : (i : ℕ) → i < k → has_name names (numbered s.stem i) ≡ true → Leads names s k

source_leads : (names : Names) (b : Base) (stem : Label) (k : ℕ) (x : Source) → IsBefore names k x → is_number x ≡ false → Leads (operand_names (operand_of (site_of b stem) x)) (site_of b stem) k
source_leads names b stem k at.Mark h n = vector (first_name b.vector [])
source_leads names b stem k (at.Column c) h n = vector (first_name b.vector [])
source_leads names b stem k (at.Aggregate a) h n = vector (first_name b.vector [])
source_leads names b stem k (at.Made i) h n = step i h (first_name (numbered stem i) [])
source_leads names b stem k (at.Number z) h n = absurd cc

leads_more : (few more : List Label) (s : Site) (k : ℕ) → ((n : Label) → has_name few n ≡ true → has_name more n ≡ true) → Leads few s k → Leads more s k
leads_more few more s k f (vector h) = vector (f s.vector h)
leads_more few more s k f (step i l h) = step i l (f (numbered s.stem i) h)

-- not both operands are numbers
step_leads : (names : Names) (b : Base) (stem : Label) (k : ℕ) (p : Step) → IsScoped names k p → Leads (mentioned (pair_of p.kind (args_of (site_of b stem) p))) (site_of b stem) k
step_leads names b stem k p h = by (is_number p.x) refl
  where
    s : Site
    s = site_of b stem

    other : (a c : Bool) → a ≡ true → (a && c) ≡ false → c ≡ false
    other true c e f = f
    other false c e f = absurd cc

    by : (q : Bool) → is_number p.x ≡ q → Leads (mentioned (pair_of p.kind (args_of s p))) s k
    by false e = leads_more (operand_names (operand_of s p.x)) (mentioned (pair_of p.kind (args_of s p))) s k (first_mentioned s p) (source_leads names b stem k p.x h.x e)
    by true e = leads_more (operand_names (operand_of s p.y)) (mentioned (pair_of p.kind (args_of s p))) s k (second_mentioned s p) (source_leads names b stem k p.y h.y (other (is_number p.x) (is_number p.y) e h.source))

-- ---- the whole

-- the two steps in front, where they are reached, mention the vector
front_leads : (s : Site) (last k : ℕ) (p : Step) (r : Reached) → k < last → has_name (mentioned (pair_of p.kind (args_of s p))) s.vector ≡ true → Leads r.names s (k + 1) → Leads (reach_if (is_reached r.names (statement_of s (name_of s.stem last k) p)) (statement_of s (name_of s.stem last k) p) r).names s k
front_leads s last k p r l m (vector h) = let here = statement_of s (name_of s.stem last k) p in vector (grown (is_reached r.names here) here r s.vector h)
front_leads s last k p r l m (step i h n) = by (cases_lt i k)
  where
    here : Statement
    here = statement_of s (name_of s.stem last k) p

    by : (i < k) ⊎ (k ≤ i) → Leads (reach_if (is_reached r.names here) here r).names s k
    by (inl less) = step i less (grown (is_reached r.names here) here r (numbered s.stem i) n)
    by (inr most) =
        let same : i ≡ k = omega (arith, most, h) in
        let name : has_name r.names (name_of s.stem last k) ≡ true = subst (λ (m : Label). has_name r.names m ≡ true) (ap (numbered s.stem) same ∙ sym (named_step s.stem last k l)) n in
        vector (taken (is_reached r.names here) here r s.vector (reach_named r.names here name) m)

leads_vector : (names : List Label) (s : Site) → Leads names s 0 → has_name names s.vector ≡ true
leads_vector names s (vector h) = h
leads_vector names s (step i l h) = absurd (omega (arith, l))

later_lead : (names : Names) (b : Base) (stem : Label) (last : ℕ) (later : List Step) → 0 < length later → 2 + length later ≡ last + 1 → AreScoped names 2 later → AreRead (λ i. i + 1 == last + 1) 2 later → Leads (reached (value_name stem ∷ []) (statements_from (site_of b stem) last 2 later)).names (site_of b stem) 2
later_lead names b stem last [] some n scoped read = absurd (omega (arith, some))
later_lead names b stem last (p ∷ rest) some n scoped read =
    let s = site_of b stem in
    let more = all_reached s last 3 rest (omega (arith, n)) read.1 in
    let r = reached (value_name stem ∷ []) (statements_from s last 3 rest) in
    let here = statement_of s (name_of stem last 2) p in
    let is : is_reached r.names here ≡ true = reach_named r.names here (named_here s last 2 rest (omega (arith, n)) read.0 more) in
    leads_more (mentioned here.op) (reach_if (is_reached r.names here) here r).names s 2 (λ m h. taken (is_reached r.names here) here r m is h) (step_leads names b stem 2 p scoped.0)

scoped_later : (names : Names) (later : List Step) → AreScoped names 0 (constants ++ later) → AreScoped names 2 later
scoped_later names later h = h.1.1

one_name : (a n : Label) → has_name (a ∷ []) n ≡ true → a ≡ n
one_name a n h = by (bytes_eq a n) refl h
  where
    by : (c : Bool) → bytes_eq a n ≡ c → (c || false) ≡ true → a ≡ n
    by true e t = (bytes_eq-Decides a n).0 e
    by false e t = absurd cc

pub use_law : UseLaw
use_law names word b later k scoped some read =
    let stem = part_name word k in
    let s = site_of b stem in
    let steps = constants ++ later in
    let last = length steps - 1 in
    let many : 2 + length later ≡ last + 1 = let n = length-append constants later in omega (arith, n) in
    let all : AreRead (λ i. i + 1 == last + 1) 2 later = subst (λ (n : ℕ). AreRead (λ i. i + 1 == n) 2 later) (length-append constants later ∙ many) read in
    let behind_two = all_reached s last 2 later many all in
    let r2 = reached (value_name stem ∷ []) (statements_from s last 2 later) in
    let one = statement_of s (name_of stem last 1) (pair_step pair.Equals at.Mark at.Mark) in
    let r1 = reach_if (is_reached r2.names one) one r2 in
    let zero = statement_of s (name_of stem last 0) (pair_step pair.Greater at.Mark at.Mark) in
    let lead2 = later_lead names b stem last later some many (scoped_later names later scoped) all in
    let lead1 = front_leads s last 1 (pair_step pair.Equals at.Mark at.Mark) r2 (omega (arith, many, some)) (first_name b.vector (b.vector ∷ [])) lead2 in
    let lead0 = front_leads s last 0 (pair_step pair.Greater at.Mark at.Mark) r1 (omega (arith, many, some)) (first_name b.vector (b.vector ∷ [])) lead1 in
    record {
      used = (or_right (is_reached r1.names zero) true refl, (or_right (is_reached r2.names one) true refl, behind_two.used));
      reaches = λ n h. subst (λ (m : Label). has_name (reach_if (is_reached r1.names zero) zero r1).names m ≡ true) (one_name b.vector n h) (leads_vector (reach_if (is_reached r1.names zero) zero r1).names s lead0);
    }

-- Used statements of parts, one behind another.
use Rattle.std.proofs.Common.{◌≡◌, ℕ, ◌+◌, Bool, true, false, ◌||◌, List, [], ◌∷◌, ◌++◌, refl, ap, ◌∙◌, subst}
use Rattle.std.specs.Str.{bytes_eq}
use Rattle.std.proofs.lemmas.Slice.Eq.{bytes_eq-Decides}
use Rattle.programs.specs.declared.op.Op.{Op}
use Rattle.programs.specs.Mentions.{Label, mentioned, has_name}
use Rattle.programs.proofs.ReachLemmas.{or_true}
use Rattle.program_writers.specs.Writers.{Writer, ◌>>=◌, through, make, numbered, statement}
use Rattle.writer_runs.specs.Uses.{never_over, Includes, Uses}
use Rattle.writer_runs.proofs.Used.{append, more, one, idle, used_laws}

-- ---- names among others

pub here : (n : Label) (names : List Label) → has_name (n ∷ names) n ≡ true
here n names = ap (λ (b : Bool). b || has_name names n) ((bytes_eq-Decides n n).1 refl)

pub there : (m n : Label) (names : List Label) → has_name names n ≡ true → has_name (m ∷ names) n ≡ true
there m n names h = ap (λ (b : Bool). bytes_eq m n || b) h ∙ or_true (bytes_eq m n)

pub includes_none : (names : List Label) → Includes names []
includes_none names n m = absurd (let no : false ≡ true = m in cc)

first_or : (x y z : Bool) → (x ≡ true → z ≡ true) → (y ≡ true → z ≡ true) → (x || y) ≡ true → z ≡ true
first_or true y z f g h = f refl
first_or false y z f g h = g h

pub includes_more : (names : List Label) (n : Label) (others : List Label) → has_name names n ≡ true → Includes names others → Includes names (n ∷ others)
includes_more names n others h g m e =
    first_or (bytes_eq n m) (has_name others m) (has_name names m)
    (λ same. subst (λ (l : Label). has_name names l ≡ true) ((bytes_eq-Decides n m).0 same) h)
    (g m) e

pub includes_one : (names : List Label) (n : Label) → has_name names n ≡ true → Includes names (n ∷ [])
includes_one names n h = includes_more names n [] h (includes_none names)

-- ---- parts

-- what is wanted in front of a part, where these names are wanted behind it
abbrev pub UsesAt : {A : Type 0} → List Label → List Label → Writer A → ℕ → Type 0
UsesAt wanted front m k = Uses wanted front (m k).statements

pub nothing_used : (wanted : List Label) → Uses wanted wanted []
nothing_used = used_laws.none

pub fewer : {A : Type 0} (wanted front less : List Label) (m : Writer A) (k : ℕ) → Includes front less → UsesAt wanted front m k → UsesAt wanted less m k
fewer wanted front less m k h u = more wanted wanted front less (m k).statements (λ n e. e) h u

module _ {A B : Type 0} (f : A → Writer B) (wanted between front : List Label) where
  pub then_used : (m : Writer A) (k : ℕ) → UsesAt between front m k → UsesAt wanted between (f (m k).told) (m k).next → UsesAt wanted front (m >>= f) k
  then_used m k u v = append wanted between front (m k).statements (f (m k).told (m k).next).statements u v

-- one statement that is never Over
pub idle_then : {B : Type 0} (word : Label) (op : Op) (f : Label → Writer B) (k : ℕ) (wanted front : List Label) → never_over op ≡ true
    → UsesAt wanted front (f (numbered word k)) (k + 1) → UsesAt wanted front (make word op >>= f) k
idle_then word op f k wanted front h u = then_used f wanted front front (make word op) k (idle front (statement (numbered word k) op) h) u

-- one statement that is wanted, and what it mentions
pub last_used : (word : Label) (op : Op) (k : ℕ) (wanted front : List Label) → has_name wanted (numbered word k) ≡ true → Includes (mentioned op ++ wanted) front → UsesAt wanted front (make word op) k
last_used word op k wanted front h g = fewer wanted (mentioned op ++ wanted) front (make word op) k g (one wanted (statement (numbered word k) op) h)

pub used_then : {B : Type 0} (word : Label) (op : Op) (f : Label → Writer B) (k : ℕ) (wanted between front : List Label) → has_name between (numbered word k) ≡ true → Includes (mentioned op ++ between) front
    → UsesAt wanted between (f (numbered word k)) (k + 1) → UsesAt wanted front (make word op >>= f) k
used_then word op f k wanted between front h g u = then_used f wanted between front (make word op) k (last_used word op k between front h g) u

-- ---- a part for each of some things

-- each hands on one name
pub through_used : {A B : Type 0} (name : A → Label) (f : A → B → Writer A) → ((a : A) (b : B) (k : ℕ) → UsesAt (name (f a b k).told ∷ []) (name a ∷ []) (f a b) k)
    → (bs : List B) (a : A) (k : ℕ) → UsesAt (name (through f a bs k).told ∷ []) (name a ∷ []) (through f a bs) k
through_used name f each [] a k = nothing_used (name a ∷ [])
through_used name f each (b ∷ bs) a k =
    let w = f a b k in
    then_used (λ next. through f next bs) (name (through f w.told bs w.next).told ∷ []) (name w.told ∷ []) (name a ∷ []) (f a b) k (each a b k)
    (through_used name f each bs w.told w.next)

-- none is ever Over
pub through_idle : {A B : Type 0} (f : A → B → Writer A) (wanted : List Label) → ((a : A) (b : B) (k : ℕ) → UsesAt wanted wanted (f a b) k)
    → (bs : List B) (a : A) (k : ℕ) → UsesAt wanted wanted (through f a bs) k
through_idle f wanted each [] a k = nothing_used wanted
through_idle f wanted each (b ∷ bs) a k =
    let w = f a b k in
    then_used (λ next. through f next bs) wanted wanted wanted (f a b) k (each a b k) (through_idle f wanted each bs w.told w.next)

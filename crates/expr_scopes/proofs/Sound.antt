-- Pieces of code one behind another: what each reads, and what is read of each.
use Rattle.std.proofs.Common.{◌≡◌, ℕ, ◌+◌, ◌≤◌, ◌==◌, ◌⊎◌, inl, inr, Bool, true, false, ◌&&◌, ◌||◌, List, [], ◌∷◌, ◌++◌, length, refl, ap, ◌∙◌, arith, subst, length-append}
use Rattle.std.proofs.lemmas.Bool.{or_left, or_right, or_cases, eq-eqb}
use Rattle.std.proofs.lemmas.List.Folds.{list_any-append}
use Rattle.control_vectors.specs.declared.PairKind.{PairKind}
use Rattle.expr_steps.specs.declared.steps.Source.{Source}
use Rattle.expr_steps.specs.declared.steps.Source.TheVariants.{Mark, Column, Aggregate, Made, Number}
use Rattle.expr_steps.specs.declared.steps.Step.{Step}
use Rattle.expr_steps.specs.Codes.{Code, Coded, from_source, pair_step, one, followed}
use Rattle.expr_scopes.specs.Scopes.{Names, IsBefore, is_number, AreScoped, is_made, step_reads, reads, AreRead}
use Rattle.expr_scopes.specs.Laws.{Stands, IsSound}

-- ---- what stands before a step

pub later : (names : Names) (k n : ℕ) (x : Source) → k ≤ n → IsBefore names k x → IsBefore names n x
later names k n Mark h b = tt
later names k n (Column c) h b = b
later names k n (Aggregate a) h b = b
later names k n (Made i) h b = omega (arith, h, b)
later names k n (Number z) h b = tt

pub stands_later : (names : Names) (k n : ℕ) (x : Source) → k ≤ n → Stands names k x → Stands names n x
stands_later names k n Mark h b = tt
stands_later names k n (Column c) h b = b
stands_later names k n (Aggregate a) h b = b
stands_later names k n (Made i) h b = omega (arith, h, b)
stands_later names k n (Number z) h b = b

pub stands_before : (names : Names) (k : ℕ) (x : Source) → Stands names k x → IsBefore names k x
stands_before names k Mark b = tt
stands_before names k (Column c) b = b
stands_before names k (Aggregate a) b = b
stands_before names k (Made i) b = b
stands_before names k (Number z) b = tt

no_number : (names : Names) (k : ℕ) (x : Source) → Stands names k x → is_number x ≡ false
no_number names k Mark b = refl
no_number names k (Column c) b = refl
no_number names k (Aggregate a) b = refl
no_number names k (Made i) b = refl
no_number names k (Number z) b = absurd b

not_first : (a b : Bool) → a ≡ false → (a && b) ≡ false
not_first a b h = ap (λ t. t && b) h

not_second : (a b : Bool) → b ≡ false → (a && b) ≡ false
not_second true b h = h
not_second false b h = refl

-- ---- lists of steps

pub scoped_append : (names : Names) (k : ℕ) (a b : List Step) → AreScoped names k a → AreScoped names (k + length a) b → AreScoped names k (a ++ b)
scoped_append names k [] b h more = let e : k + 0 ≡ k = omega arith in subst (λ n. AreScoped names n b) e more
scoped_append names k (s ∷ a) b h more =
    let e : k + length (s ∷ a) ≡ (k + 1) + length a = omega arith in
    (h.0, scoped_append names (k + 1) a b h.1 (subst (λ n. AreScoped names n b) e more))

reads_append : (a b : List Step) (j : ℕ) → reads (a ++ b) j ≡ (reads a j || reads b j)
reads_append a b j = list_any-append (step_reads j) a b

pub read_append : (wanted between : ℕ → Bool) (k : ℕ) (a b : List Step) → AreRead between k a → AreRead wanted (k + length a) b → ((j : ℕ) → between j ≡ true → (reads b j || wanted j) ≡ true) → AreRead wanted k (a ++ b)
read_append wanted between k [] b h more hand = let e : k + 0 ≡ k = omega arith in subst (λ n. AreRead wanted n b) e more
read_append wanted between k (s ∷ a) b h more hand =
    let e : k + length (s ∷ a) ≡ (k + 1) + length a = omega arith in
    (by (or_cases (reads a k) (between k) h.0), read_append wanted between (k + 1) a b h.1 (subst (λ n. AreRead wanted n b) e more) hand)
  where
    by : (reads a k ≡ true) ⊎ (between k ≡ true) → (reads (a ++ b) k || wanted k) ≡ true
    by (inl r) = or_left (reads (a ++ b) k) (wanted k) (reads_append a b k ∙ or_left (reads a k) (reads b k) r)
    by (inr w) = behind (or_cases (reads b k) (wanted k) (hand k w))
      where
        behind : (reads b k ≡ true) ⊎ (wanted k ≡ true) → (reads (a ++ b) k || wanted k) ≡ true
        behind (inl r) = or_left (reads (a ++ b) k) (wanted k) (reads_append a b k ∙ or_right (reads a k) (reads b k) r)
        behind (inr v) = or_right (reads (a ++ b) k) (wanted k) v

-- ---- code that reads an operand

abbrev pub Reads : Source → Coded → Type 0
Reads x c = (j : ℕ) → is_made j x ≡ true → (reads c.steps j || is_made j c.result) ≡ true

-- what leaves a value reads it, where what follows does
pub reads_first : (x : Source) (c : Coded) (f : Source → Code) (k : ℕ) → Reads x c → ((y : Source) (n : ℕ) → Reads y (f y n)) → Reads x (followed c f k)
reads_first x c f k first next j h = by (or_cases (reads c.steps j) (is_made j c.result) (first j h))
  where
    after : Coded
    after = f c.result (k + length c.steps)

    all : List Step
    all = c.steps ++ after.steps

    by : (reads c.steps j ≡ true) ⊎ (is_made j c.result ≡ true) → (reads all j || is_made j after.result) ≡ true
    by (inl r) = or_left (reads all j) (is_made j after.result) (reads_append c.steps after.steps j ∙ or_left (reads c.steps j) (reads after.steps j) r)
    by (inr m) = behind (or_cases (reads after.steps j) (is_made j after.result) (next c.result (k + length c.steps) j m))
      where
        behind : (reads after.steps j ≡ true) ⊎ (is_made j after.result ≡ true) → (reads all j || is_made j after.result) ≡ true
        behind (inl r) = or_left (reads all j) (is_made j after.result) (reads_append c.steps after.steps j ∙ or_right (reads c.steps j) (reads after.steps j) r)
        behind (inr v) = or_right (reads all j) (is_made j after.result) v

-- what follows reads it, whatever stands between
pub reads_behind : (x : Source) (c : Coded) (f : Source → Code) (k : ℕ) → ((y : Source) (n : ℕ) → Reads x (f y n)) → Reads x (followed c f k)
reads_behind x c f k next j h = behind (or_cases (reads after.steps j) (is_made j after.result) (next c.result (k + length c.steps) j h))
  where
    after : Coded
    after = f c.result (k + length c.steps)

    all : List Step
    all = c.steps ++ after.steps

    behind : (reads after.steps j ≡ true) ⊎ (is_made j after.result ≡ true) → (reads all j || is_made j after.result) ≡ true
    behind (inl r) = or_left (reads all j) (is_made j after.result) (reads_append c.steps after.steps j ∙ or_right (reads c.steps j) (reads after.steps j) r)
    behind (inr v) = or_right (reads all j) (is_made j after.result) v

-- ---- sound code

pub sound_source : (names : Names) (k : ℕ) (x : Source) → Stands names k x → IsSound names k (from_source x k)
sound_source names k x h = record { scoped = tt; result = stands_later names k (k + 0) x (omega arith) h; read = tt }

pub reads_source : (x : Source) (k : ℕ) → Reads x (from_source x k)
reads_source x k j h = h

-- one piece, and another that reads where it leaves its value
pub sound_then : (names : Names) (k : ℕ) (c : Coded) (f : Source → Code) → IsSound names k c → ((x : Source) (n : ℕ) → k ≤ n → Stands names n x → IsSound names n (f x n)) → ((x : Source) (n : ℕ) → Reads x (f x n)) → IsSound names k (followed c f k)
sound_then names k c f first next hand =
    let n = k + length c.steps in
    let after = f c.result n in
    let more = next c.result n (omega arith) first.result in
    let l = length-append c.steps after.steps in
    let e : n + length after.steps ≡ k + length (c.steps ++ after.steps) = omega (arith, l) in
    record {
      scoped = scoped_append names k c.steps after.steps first.scoped more.scoped;
      result = subst (λ m. Stands names m after.result) e more.result;
      read = read_append (λ j. is_made j after.result) (λ j. is_made j c.result) k c.steps after.steps first.read more.read (hand c.result n);
    }

same_number : (k : ℕ) → (k == k) ≡ true
same_number k = eq-eqb k k refl

-- one step, of an operand that stands before it and another
step_sound : (names : Names) (k : ℕ) (kind : PairKind) (x y : Source) → IsBefore names k x → IsBefore names k y → (is_number x && is_number y) ≡ false → IsSound names k (one kind x y k)
step_sound names k kind x y a b s = record { scoped = (record { x = a; y = b; source = s }, tt); result = omega arith; read = (same_number k, tt) }

pub one_first : (names : Names) (k : ℕ) (kind : PairKind) (x y : Source) → Stands names k x → IsBefore names k y → IsSound names k (one kind x y k)
one_first names k kind x y a b = step_sound names k kind x y (stands_before names k x a) b (not_first (is_number x) (is_number y) (no_number names k x a))

pub one_second : (names : Names) (k : ℕ) (kind : PairKind) (x y : Source) → IsBefore names k x → Stands names k y → IsSound names k (one kind x y k)
one_second names k kind x y a b = step_sound names k kind x y a (stands_before names k y b) (not_second (is_number x) (is_number y) (no_number names k y b))

pub reads_x : (kind : PairKind) (x y : Source) (k : ℕ) → Reads x (one kind x y k)
reads_x kind x y k j h = ap (λ t. ((t || is_made j y) || false) || is_made j (Made k)) h

pub reads_y : (kind : PairKind) (x y : Source) (k : ℕ) → Reads y (one kind x y k)
reads_y kind x y k j h = or_left (reads (pair_step kind x y ∷ []) j) (is_made j (Made k)) (or_left (is_made j x || is_made j y) false (or_right (is_made j x) (is_made j y) h))

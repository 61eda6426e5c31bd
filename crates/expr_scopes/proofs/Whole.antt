-- The steps of an expression: the first two, its code, and the one that gives its value.
use Rattle.std.proofs.Common.{◌≡◌, ℕ, ◌+◌, ◌==◌, ◌⊎◌, inl, inr, Bool, true, ◌||◌, List, [], ◌∷◌, length, refl, arith, length-append}
use Rattle.std.proofs.lemmas.Bool.{or_left, or_right, or_cases, eqb-true, eq-eqb}
use Rattle.control_vectors.specs.declared.PairKind.TheVariants as pair
use Rattle.typed_trees.specs.declared.typed.TypedExpr.{TypedExpr}
use Rattle.expr_steps.specs.declared.steps.Source.TheVariants.{Made}
use Rattle.expr_steps.specs.declared.steps.Step.{Step}
use Rattle.expr_steps.specs.Codes.{one, and_then}
use Rattle.expr_steps.specs.Lowered.{Bytes, lowered, constants, steps_of}
use Rattle.expr_scopes.specs.Scopes.{names_in, AreScoped, is_made, reads, AreRead}
use Rattle.expr_scopes.specs.Laws.{IsSound, later_steps, CodeLaw, ScopeLaw, ReadLaw}
use Rattle.expr_scopes.proofs.Sound.{scoped_append, reads_x}
use Rattle.expr_scopes.proofs.Pieces.{then_sound, two_sound}
use Rattle.expr_scopes.proofs.Naming.{within_itself}
use Rattle.expr_scopes.proofs.Forms.{sound}

pub code_law : CodeLaw
code_law texts e k two = sound texts e (names_in e) (within_itself e) k two

-- with the step that gives the value
whole_sound : (texts : List Bytes) (e : TypedExpr) → IsSound (names_in e) 2 (and_then (lowered texts e) (λ x. one pair.Fill x x) 2)
whole_sound texts e = then_sound (names_in e) (lowered texts e) (λ x. one pair.Fill x x) 2 (omega arith) (code_law texts e 2 (omega arith)) (λ x k two s. two_sound (names_in e) pair.Fill x x k two s s) (λ x k. reads_x pair.Fill x x k)

pub scope_law : ScopeLaw
scope_law texts e =
    let rest : AreScoped (names_in e) (0 + length constants) (later_steps texts e) = (whole_sound texts e).scoped in
    let first : AreScoped (names_in e) 0 constants = (record { x = tt; y = tt; source = refl }, (record { x = tt; y = tt; source = refl }, tt)) in
    scoped_append (names_in e) 0 constants (later_steps texts e) first rest

-- other names for what is wanted
read_as : (wanted others : ℕ → Bool) (k : ℕ) (steps : List Step) → ((j : ℕ) → wanted j ≡ true → others j ≡ true) → AreRead wanted k steps → AreRead others k steps
read_as wanted others k [] h r = tt
read_as wanted others k (s ∷ rest) h r = (by (or_cases (reads rest k) (wanted k) r.0), read_as wanted others (k + 1) rest h r.1)
  where
    by : (reads rest k ≡ true) ⊎ (wanted k ≡ true) → (reads rest k || others k) ≡ true
    by (inl a) = or_left (reads rest k) (others k) a
    by (inr b) = or_right (reads rest k) (others k) (h k b)

-- the number of the last step
last_number : (texts : List Bytes) (e : TypedExpr) (j : ℕ) → is_made j (Made (2 + length (lowered texts e 2).steps)) ≡ true → (j + 1 == length (steps_of texts e)) ≡ true
last_number texts e j h =
    let c = lowered texts e 2 in
    let at = eqb-true (2 + length c.steps) j h in
    let n = length-append c.steps (one pair.Fill c.result c.result (2 + length c.steps)).steps in
    let all = length-append constants (later_steps texts e) in
    eq-eqb (j + 1) (length (steps_of texts e)) (omega (arith, at, n, all))

pub read_law : ReadLaw
read_law texts e = read_as (λ j. is_made j (Made (2 + length (lowered texts e 2).steps))) (λ j. j + 1 == length (steps_of texts e)) 2 (later_steps texts e) (last_number texts e) (whole_sound texts e).read

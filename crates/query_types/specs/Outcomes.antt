-- What a step of typing comes to: a value, or the first refusal. A step inside an expression also has the aggregates that were met before it.
use Rattle.std.specs.Prelude.{◌≡◌, ◌≢◌, ℕ, Bool, true, false, List, Result, Ok, Err}
use Rattle.query_types.specs.declared.refusal.TypeKind.{TypeKind}
use Rattle.query_types.specs.declared.refusal.TypeRefusal.{TypeRefusal}
use Rattle.query_types.specs.declared.refusal.TypeRefusal.TheVariants.{NoMemory, Bad}
use Rattle.typed_trees.specs.declared.typed.Aggregate.{Aggregate}

abbrev pub Outcome : Type 0 → Type 0
Outcome A = Result A TypeRefusal

abbrev pub refusal : TypeKind → ℕ → TypeRefusal
refusal kind at = Bad at kind

abbrev pub refuse : {A : Type 0} → TypeKind → ℕ → Outcome A
refuse kind at = Err (refusal kind at)

abbrev pub and_then : {A B : Type 0} → Outcome A → (A → Outcome B) → Outcome B
and_then (Ok a) f = f a
and_then (Err e) f = Err e

-- a value, unless a refusal comes first
abbrev pub refuse_if : {A : Type 0} → Bool → TypeKind → ℕ → Outcome A → Outcome A
refuse_if true kind at outcome = refuse kind at
refuse_if false kind at outcome = outcome

-- ---- with the aggregates so far

abbrev pub Collecting : Type 0 → Type 0
Collecting A = List Aggregate → Outcome (A × List Aggregate)

infixl 10 ◌>>=◌
abbrev pub ◌>>=◌ : {A B : Type 0} → Collecting A → (A → Collecting B) → Collecting B
p >>= f = λ met. and_then (p met) (λ r. f r.0 r.1)

abbrev pub pure : {A : Type 0} → A → Collecting A
pure a = λ met. Ok (a, met)

abbrev pub lift : {A : Type 0} → Outcome A → Collecting A
lift outcome = λ met. and_then outcome (λ a. Ok (a, met))

-- ---- what a function ensures: the outcome, unless memory is refused

abbrev pub Gives : {A : Type 0} → Outcome A → Result A TypeRefusal → Type 0
Gives meant (Ok a) = meant ≡ Ok a
Gives meant (Err e) = e ≢ NoMemory → meant ≡ Err e

abbrev pub Collects : {A : Type 0} → Outcome (A × List Aggregate) → Result A TypeRefusal → List Aggregate → Type 0
Collects meant (Ok a) met = meant ≡ Ok (a, met)
Collects meant (Err e) met = e ≢ NoMemory → meant ≡ Err e

-- A step of typing that never comes to want of memory, and that each way to put steps together keeps it.
use Rattle.std.proofs.Common.{◌≡◌, ℕ, Bool, true, false, List, Ok, Err, ap, if◌then◌else◌}
use Rattle.query_types.specs.declared.refusal.TypeKind.{TypeKind}
use Rattle.query_types.specs.declared.refusal.TypeRefusal.{TypeRefusal}
use Rattle.query_types.specs.declared.refusal.TypeRefusal.TheVariants.{NoMemory}
use Rattle.typed_trees.specs.declared.typed.Aggregate.{Aggregate}
use Rattle.query_types.specs.Outcomes.{Outcome, refuse, refuse_if, and_then, Collecting, ◌>>=◌, pure, lift}

pub record Answers {A : Type 0} (o : Outcome A) : Type 0 where
  pub never : o ≡ Err NoMemory → ⊥

pub answers_value : {A : Type 0} (a : A) → Answers (Ok a)
answers_value a = record { never = λ h. cc }

pub answers_none : {A : Type 0} (kind : TypeKind) (at : ℕ) → Answers (refuse {A = A} kind at)
answers_none kind at = record { never = λ h. cc }

pub answers_if : {A : Type 0} {o : Outcome A} (c : Bool) (kind : TypeKind) (at : ℕ) → Answers o → Answers (refuse_if c kind at o)
answers_if {A = A} true kind at h = answers_none {A = A} kind at
answers_if false kind at h = h

pub answers_either : {A : Type 0} {o p : Outcome A} (c : Bool) → Answers o → Answers p → Answers (if c then o else p)
answers_either true h g = h
answers_either false h g = g

same_refusal : {A B : Type 0} (e : TypeRefusal) → ◌≡◌ {A = Outcome B} (Err e) (Err NoMemory) → ◌≡◌ {A = Outcome A} (Err e) (Err NoMemory)
same_refusal e h = let same : e ≡ NoMemory = cc in ap (λ r. Err r) same

pub answers_then : {A B : Type 0} {f : A → Outcome B} (o : Outcome A) → Answers o → ((a : A) → Answers (f a)) → Answers (and_then o f)
answers_then (Ok a) h g = g a
answers_then {A = A} {B = B} (Err e) h g = record { never = λ x. h.never (same_refusal {A = A} {B = B} e x) }

-- ---- with the aggregates so far

pub record Collects {A : Type 0} (p : Collecting A) : Type 0 where
  pub answers : (met : List Aggregate) → Answers (p met)

pub collects_pure : {A : Type 0} (a : A) → Collects (pure a)
collects_pure a = record { answers = λ met. answers_value (a, met) }

pub collects_lift : {A : Type 0} {o : Outcome A} → Answers o → Collects (lift o)
collects_lift {o = o} h = record { answers = λ met. answers_then o h (λ a. answers_value (a, met)) }

pub collects_then : {A B : Type 0} {p : Collecting A} {q : A → Collecting B} → Collects p → ((a : A) → Collects (q a)) → Collects (p >>= q)
collects_then {p = p} {q = q} h g = record { answers = λ met. answers_then (p met) (h.answers met) (λ r. (g r.0).answers r.1) }

pub collects_if : {A : Type 0} {p : Collecting A} (c : Bool) (kind : TypeKind) (at : ℕ) → Collects p → Collects (λ met. refuse_if c kind at (p met))
collects_if c kind at h = record { answers = λ met. answers_if c kind at (h.answers met) }

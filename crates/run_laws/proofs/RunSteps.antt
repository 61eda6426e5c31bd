-- A step of a run that never comes to want of memory, and that each way to put steps together keeps it.
use Rattle.std.proofs.Common.{◌≡◌, Bool, true, false, Ok, Err, Some, None, refl, ap, subst, if◌then◌else◌}
use Rattle.std.specs.Prelude.{Option}
use Rattle.std.specs.Option.{option_map}
use Rattle.run_steps.specs.declared.status.Status.{Status}
use Rattle.run_steps.specs.declared.status.Status.TheVariants.{NoMemory}
use Rattle.run_steps.specs.Outcomes.{Outcome, or_refuse, ◌>>=◌}

pub record Reports {A : Type 0} (o : Outcome A) : Type 0 where
  pub never : o ≡ Err NoMemory → ⊥

pub reports_value : {A : Type 0} (a : A) → Reports (Ok a)
reports_value a = record { never = λ h. cc }

pub reports_refusal : {A : Type 0} (status : Status) → (status ≡ NoMemory → ⊥) → Reports {A = A} (Err status)
reports_refusal status other = record { never = λ h. other (cc) }

pub reports_either : {A : Type 0} {o p : Outcome A} (c : Bool) → Reports o → Reports p → Reports (if c then o else p)
reports_either true h g = h
reports_either false h g = g

pub reports_or : {A : Type 0} (status : Status) (x : Option A) → (status ≡ NoMemory → ⊥) → Reports (or_refuse status x)
reports_or {A = A} status None other = reports_refusal {A = A} status other
reports_or status (Some a) other = reports_value a

same_status : {A B : Type 0} (status : Status) → ◌≡◌ {A = Outcome B} (Err status) (Err NoMemory) → ◌≡◌ {A = Outcome A} (Err status) (Err NoMemory)
same_status status h = let same : status ≡ NoMemory = cc in ap (λ r. Err r) same

pub reports_then : {A B : Type 0} {next : A → Outcome B} (o : Outcome A) → Reports o → ((a : A) → Reports (next a)) → Reports (o >>= next)
reports_then (Ok a) h g = g a
reports_then {A = A} {B = B} (Err status) h g = record { never = λ x. h.never (same_status {A = A} {B = B} status x) }

-- ---- what may be there or not

pub record Each {A : Type 0} (P : A → Type 0) (x : Option A) : Type 0 where
  pub each : (a : A) → x ≡ Some a → P a

pub each_none : {A : Type 0} {P : A → Type 0} → Each P None
each_none = record { each = λ a h. absurd (cc) }

some_same : {A : Type 0} (a b : A) → Some a ≡ Some b → a ≡ b
some_same a b h = cc

pub each_some : {A : Type 0} {P : A → Type 0} (a : A) → P a → Each P (Some a)
each_some {P = P} a h = record { each = λ b e. subst P (some_same a b e) h }

pub each_either : {A : Type 0} {P : A → Type 0} {x y : Option A} (c : Bool) → Each P x → Each P y → Each P (if c then x else y)
each_either true h g = h
each_either false h g = g

pub each_map : {A B : Type 0} {P : B → Type 0} (f : A → B) (x : Option A) → Each (λ a. P (f a)) x → Each P (option_map f x)
each_map f None h = each_none
each_map f (Some a) h = each_some (f a) (h.each a refl)

pub each_so : {A : Type 0} {P Q : A → Type 0} {x : Option A} → ((a : A) → P a → Q a) → Each P x → Each Q x
each_so so h = record { each = λ a e. so a (h.each a e) }

pub reports_with : {A B : Type 0} {next : A → Outcome B} (status : Status) (x : Option A) → (status ≡ NoMemory → ⊥) → Each (λ a. Reports (next a)) x → Reports (or_refuse status x >>= next)
reports_with {B = B} status None other h = reports_refusal {A = B} status other
reports_with status (Some a) other h = h.each a refl

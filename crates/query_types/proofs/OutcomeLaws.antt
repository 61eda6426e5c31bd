-- What steps had that came to a value.
use Rattle.std.proofs.Common.{◌≡◌, ℕ, Bool, true, false, List, Ok, Err, refl, ap}
use Rattle.query_types.specs.declared.refusal.TypeKind.{TypeKind}
use Rattle.typed_trees.specs.declared.typed.Aggregate.{Aggregate}
use Rattle.query_types.specs.Outcomes.{Outcome, refuse_if, and_then}

pub ok_same : {A : Type 0} (a b : A) → ◌≡◌ {A = Outcome A} (Ok a) (Ok b) → a ≡ b
ok_same a b h = cc

-- a first step, and the one after it
pub then_ok : {A B : Type 0} (o : Outcome A) (f : A → Outcome B) (b : B) → and_then o f ≡ Ok b → (a : A) × (o ≡ Ok a) × (f a ≡ Ok b)
then_ok (Ok a) f b h = (a, refl, h)
then_ok (Err d) f b h = absurd (cc)

-- a step that was not refused
pub not_refused : {A : Type 0} (c : Bool) (kind : TypeKind) (at : ℕ) (o : Outcome A) (a : A) → refuse_if c kind at o ≡ Ok a → (c ≡ false) × (o ≡ Ok a)
not_refused true kind at o a h = absurd (cc)
not_refused false kind at o a h = (refl, h)

-- a value with the aggregates so far
pub both_same : {A : Type 0} (a b : A) (before after : List Aggregate) → ◌≡◌ {A = Outcome (A × List Aggregate)} (Ok (a, before)) (Ok (b, after)) → (a ≡ b) × (before ≡ after)
both_same {A = A} a b before after h =
    let e : ◌≡◌ {A = A × List Aggregate} (a, before) (b, after) = ok_same (a, before) (b, after) h in
    (ap (λ (r : A × List Aggregate). r.0) e, ap (λ (r : A × List Aggregate). r.1) e)

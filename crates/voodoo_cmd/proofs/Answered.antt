-- What a run leaves, from what its two halves leave: the text that is to be written, and its writing.
use Rattle.std.proofs.Common.{List, ℕ, Ok, Err, Some, None, inl, inr}
use Rattle.std.specs.Prelude.{Option, IfSome}
use Rattle.std.proofs.KnownBytes.{Appends-nil, Keeps-refl}
use Rattle.io_edge.specs.Shelves.{FileMap}
use Rattle.run_steps.specs.declared.status.Status.{Status}
use Rattle.run_steps.specs.declared.status.Status.TheVariants.{Done, Usage, ReadFault, WriteFault, SchemaRefused, DataRefused, QueryRefused, AlgebraRefused, LimitReached, Overflow, NotYet, NoMemory}
use Rattle.run_steps.specs.Outcomes.{Outcome, Meets}
use Rattle.voodoo_cmd.specs.RunEffects.{Answers, Writes}

writes : (text : List ℕ) (status : Status) (old new : Option (List ℕ)) → Writes text status old new → Answers (Ok text) status old new
writes text Done old new h = h
writes text WriteFault old new h = h
writes text (Usage kind) old new h = absurd h
writes text (ReadFault role) old new h = absurd h
writes text (SchemaRefused at kind) old new h = absurd h
writes text (QueryRefused at kind) old new h = absurd h
writes text (AlgebraRefused line kind) old new h = absurd h
writes text (LimitReached what number) old new h = absurd h
writes text (NotYet role) old new h = absurd h
writes text NoMemory old new h = h
writes text (DataRefused table at_record at_column kind) old new h = absurd h
writes text Overflow old new h = absurd h

-- the text is there, and was written whole or in part
pub Answers-written : {B : Type 0} (seen : B → List ℕ) (value : B) (holds : Option FileMap) (outcome : FileMap → Outcome (List ℕ)) (status : Status) (old new : Option (List ℕ))
    → IfSome holds (λ files. Meets seen (Ok value) (outcome files)) → Writes (seen value) status old new → IfSome holds (λ files. Answers (outcome files) status old new)
Answers-written seen value None outcome status old new e h = tt
Answers-written seen value (Some files) outcome status old new e h = rw e (writes (seen value) status old new h)

refuses : {B : Type 0} (seen : B → List ℕ) (outcome : Outcome (List ℕ)) (status : Status) (old : Option (List ℕ)) → Meets seen (Err status) outcome → Answers outcome status old old
refuses seen (Ok text) status old (inl e) = cc
refuses seen (Ok text) (ReadFault role) old (inr h) = Keeps-refl old
refuses seen (Ok text) NoMemory old (inr h) = record { count = 0; appended = Appends-nil old }
refuses seen (Ok text) Done old (inr h) = elim h [ inl fault ↦ absurd fault | inr e ↦ cc ]
refuses seen (Ok text) WriteFault old (inr h) = elim h [ inl fault ↦ absurd fault | inr e ↦ cc ]
refuses seen (Ok text) (Usage kind) old (inr h) = elim h [ inl fault ↦ absurd fault | inr e ↦ cc ]
refuses seen (Ok text) (SchemaRefused at kind) old (inr h) = elim h [ inl fault ↦ absurd fault | inr e ↦ cc ]
refuses seen (Ok text) (QueryRefused at kind) old (inr h) = elim h [ inl fault ↦ absurd fault | inr e ↦ cc ]
refuses seen (Ok text) (AlgebraRefused line kind) old (inr h) = elim h [ inl fault ↦ absurd fault | inr e ↦ cc ]
refuses seen (Ok text) (DataRefused table at_record at_column kind) old (inr h) = elim h [ inl fault ↦ absurd fault | inr e ↦ cc ]
refuses seen (Ok text) Overflow old (inr h) = elim h [ inl fault ↦ absurd fault | inr e ↦ cc ]
refuses seen (Ok text) (LimitReached what number) old (inr h) = elim h [ inl fault ↦ absurd fault | inr e ↦ cc ]
refuses seen (Ok text) (NotYet role) old (inr h) = elim h [ inl fault ↦ absurd fault | inr e ↦ cc ]
refuses seen (Err refusal) status old (inl e) = (inl cc, Keeps-refl old)
refuses seen (Err refusal) status old (inr h) = (inr h, Keeps-refl old)

-- a step stopped, and nothing was written
pub Answers-refused : {B : Type 0} (seen : B → List ℕ) (holds : Option FileMap) (outcome : FileMap → Outcome (List ℕ)) (status : Status) (old : Option (List ℕ))
    → IfSome holds (λ files. Meets seen (Err status) (outcome files)) → IfSome holds (λ files. Answers (outcome files) status old old)
Answers-refused seen None outcome status old h = tt
Answers-refused seen (Some files) outcome status old h = refuses seen (outcome files) status old h

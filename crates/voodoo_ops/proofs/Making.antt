-- What an operator was meant to make.
use Rattle.std.proofs.Common.{◌≡◌, Option, Some, Result, Ok, Err, ap, ◌∙◌}
use Rattle.control_vectors.specs.declared.Over.{Over}
use Rattle.struct_vectors.specs.Vectors.{VectorValue}
use Rattle.slot_columns.specs.declared.stop.Stop.{Stop}
use Rattle.slot_columns.specs.declared.stop.Stop.TheVariants.{NoMemory, Overflow}
use Rattle.slot_columns.specs.Stops.{Exact, StopsAt}
use Rattle.std.specs.Result.{IsErr, IsErrAnd}
use Rattle.programs.specs.Vectors.{Vector, seen}
use Rattle.voodoo_ops.specs.Stops.{Makes}

pub makes : (r : Result VectorValue Stop) (o : Option (Result Vector Over)) (meant : Result Vector Over) → o ≡ Some meant → Exact seen r meant → Makes r o
makes (Ok v) o meant e h = e ∙ ap (λ (m : Result Vector Over). Some m) h
makes (Err NoMemory) o meant e h = tt
makes (Err Overflow) o meant e h = e ∙ ap (λ (m : Result Vector Over). Some m) h

-- a call that stopped, where whatever it may have stopped with was meant
pub exact_err : {A B : Type 0} (shows : A → B) (r : Result A Stop) (P : Stop → Type 0) (meant : Result B Over) → IsErr r → IsErrAnd r P → ((e : Stop) → P e → StopsAt e meant) → Exact shows r meant
exact_err shows (Ok x) P meant is holds each = absurd holds
exact_err shows (Err e) P meant is holds each = each e holds

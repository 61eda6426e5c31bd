-- What results print, from what the run of their program gives.
use Rattle.std.proofs.Common.{◌≡◌, ℕ, List, Ok, Err, inl, inr, ap, sym, subst, ◌∙◌}
use Rattle.std.specs.Prelude.{Result, IfOk}
use Rattle.control_vectors.specs.declared.Over.{Over}
use Rattle.programs.specs.Vectors.{Named}
use Rattle.typed_trees.specs.declared.typed.TypedQuery.{TypedQuery}
use Rattle.answer_print.specs.Conditions.{HoldsAnswer}
use Rattle.answer_print.specs.Held.{held_text}
use Rattle.run_steps.specs.declared.status.Status.{Status}
use Rattle.run_steps.specs.Expected.{text_outcome}
use Rattle.run_steps.specs.Outcomes.{Outcome, Meets}
use Rattle.run_steps.specs.Steps.{results_outcome}
use Rattle.query_runs.specs.Runs.{PrintsText}

same_named : (a b : Named) → ◌≡◌ {A = Outcome Named} (Ok a) (Ok b) → a ≡ b
same_named a b e = cc

module _ {B : Type 0} (seen : B → Named) (dictionary : List (List ℕ)) (q : TypedQuery) where
  pub prints : (text : Result (List ℕ) Over) (named : Result Named Over) (result : Result B Status) → PrintsText dictionary q text named → Meets seen result (results_outcome named)
      → Meets (λ r. held_text dictionary q (seen r)) result (text_outcome text)
  prints (Ok text) (Ok named) (Ok r) p h = ap (λ t. Ok t) (sym p.1 ∙ ap (held_text dictionary q) (same_named named (seen r) h))
  prints (Ok text) (Ok named) (Err status) p (inl e) = absurd cc
  prints (Ok text) (Ok named) (Err status) p (inr e) = inr e
  prints (Ok text) (Err f) result p h = absurd p
  prints (Err e) (Ok named) result p h = absurd p
  prints (Err e) (Err f) (Ok r) p h = absurd cc
  prints (Err e) (Err f) (Err status) p (inl s) = inl cc
  prints (Err e) (Err f) (Err status) p (inr s) = inr s

  pub printable : (text : Result (List ℕ) Over) (named : Result Named Over) (result : Result B Status) → PrintsText dictionary q text named → Meets seen result (results_outcome named)
      → IfOk result (λ r. HoldsAnswer q (seen r))
  printable (Ok text) (Ok named) (Ok r) p h = subst (HoldsAnswer q) (same_named named (seen r) h) p.0
  printable text named (Err status) p h = tt
  printable (Ok text) (Err f) (Ok r) p h = absurd p
  printable (Err e) (Ok named) (Ok r) p h = absurd p
  printable (Err e) (Err f) (Ok r) p h = absurd cc

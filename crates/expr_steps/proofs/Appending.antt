-- Pieces of code that are appended one behind another.
use Rattle.std.proofs.Common.{◌≡◌, ◌+◌, List, ◌++◌, length, refl, sym, ap, ◌∙◌, subst, append_assoc, append-nil, length-append, IfOk, Result, Ok, Err}
use Rattle.expr_steps.specs.declared.steps.Source.{Source}
use Rattle.expr_steps.specs.declared.steps.Step.{Step}
use Rattle.expr_steps.specs.Codes.{Code, Coded, from_source, and_then, Appends}

pub nothing_appended : (old : List Step) (x : Source) → Appends (from_source x) old old x
nothing_appended old x = record { steps = sym (append-nil old); result = refl }

-- what a piece is numbered from
next_number : (m : Code) (old mid : List Step) (x : Source) → Appends m old mid x → length mid ≡ length old + length (m (length old)).steps
next_number m old mid x a = ap length a.steps ∙ length-append old (m (length old)).steps

pub appended : (m : Code) (f : Source → Code) (old mid new : List Step) (x y : Source) → Appends m old mid x → Appends (f x) mid new y → Appends (and_then m f) old new y
appended m f old mid new x y a b =
    let at = next_number m old mid x a in
    let same : f x (length mid) ≡ f (m (length old)).result (length old + length (m (length old)).steps) = ap (λ (s : Source). f s (length mid)) a.result ∙ ap (f (m (length old)).result) at in
    record {
      steps =
          b.steps ∙ ap (λ (l : List Step). l ++ (f x (length mid)).steps) a.steps
          ∙ ap (λ (c : Coded). (old ++ (m (length old)).steps) ++ c.steps) same
          ∙ append_assoc old (m (length old)).steps (f (m (length old)).result (length old + length (m (length old)).steps)).steps;
      result = b.result ∙ ap (λ (c : Coded). c.result) same;
    }

-- ---- where memory may run out

pub passed_on : {E : Type 0} (m n : Code) (old new : List Step) (r : Result Source E) → n ≡ m → IfOk r (Appends m old new) → IfOk r (Appends n old new)
passed_on m n old new r e h = subst (λ (k : Code). IfOk r (Appends k old new)) (sym e) h

pub then_appended : {E : Type 0} (m : Code) (f : Source → Code) (old mid new : List Step) (x : Source) (r : Result Source E) → Appends m old mid x → IfOk r (Appends (f x) mid new) → IfOk r (Appends (and_then m f) old new)
then_appended m f old mid new x (Ok y) a b = appended m f old mid new x y a b
then_appended m f old mid new x (Err e) a b = tt

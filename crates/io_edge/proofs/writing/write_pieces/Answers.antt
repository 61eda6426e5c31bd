use Rattle.std.proofs.Common.{◌++◌, List, ℕ, ap, sym, ◌∙◌, subst, append_assoc, arith}
use Rattle.io_edge.specs.Sinks.{AppendsPrefix}
use Rattle.std.proofs.KnownBytes.{Appends-trans}
use Rattle.io_edge.proofs.Growth.{Appends-prefix, concatenated-first}
use Rattle.io_edge.proofs.writing.write_pieces.Goals as goal

pub returns-in-Err-clause-prefix : goal.returns-in-Err-clause-prefix
returns-in-Err-clause-prefix g c =
    subst (AppendsPrefix _ _) (sym (c.pieces.invariant.whole ∙ ap (λ (l : List ℕ). c.pieces.invariant.done ++ l) (concatenated-first c.pieces.rest.now _ c.in-len1-up.len_at_least)))
    (Appends-prefix _ _ _ _ _ _ c.pieces.invariant.written c.in-Err.ensures.prefix)

pub pieces-preserved : goal.pieces-preserved
pieces-preserved g c = record {
  later = omega (arith, c.pieces.invariant.later, c.in-Ok.ensures.cause.later);
  done = _;
  written = Appends-trans _ _ _ _ _ c.pieces.invariant.written c.in-Ok.ensures.whole;
  whole = c.pieces.invariant.whole ∙ ap (λ (l : List ℕ). c.pieces.invariant.done ++ l) (concatenated-first c.pieces.rest.now _ c.in-len1-up.len_at_least) ∙ sym (append_assoc c.pieces.invariant.done _ _);
}

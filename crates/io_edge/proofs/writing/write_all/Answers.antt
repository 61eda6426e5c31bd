use Rattle.std.proofs.Common.{◌+◌, ◌-◌, ◌≤◌, ℕ, List, arith, drop, length, length-drop, take}
use Rattle.std.specs.Prelude.{Option}
use Rattle.std.proofs.lemmas.Grind.{common_steps}
use Rattle.std.proofs.lemmas.List.{take_all}
use Rattle.std.proofs.Math.Seq.{take-add}
use Rattle.std.proofs.KnownBytes.{Appends-trans}
use Rattle.std.specs.Io.KnownBytes.{Appends}
use Rattle.io_edge.proofs.writing.write_all.Goals as goal

-- what is written of the rest goes on where the part before ended
goes_on : (a b c : Option (List ℕ)) (n k : ℕ) (text : List ℕ) → Appends a b (take n text) → Appends b c (take k (take (length text - n) (drop n text))) → Appends a c (take (n + k) text)
goes_on a b c n k text before now =
    let all : length (drop n text) ≤ length text - n = omega (arith, length-drop n text) in
    let rest = take_all (length text - n) (drop n text) all in
    rw take-add (Appends-trans a b c _ _ before (rw rest at now))

pub pieces-preserved : goal.pieces-preserved
pieces-preserved g c = record {
  later = omega (arith, c.pieces.invariant.later, c.in-Ok.ensures.cause.later);
  within = grind (arith, common_steps, c.in-Ok.ensures.bound);
  written = goes_on _ _ _ _ _ _ c.pieces.invariant.written c.in-Ok.ensures.bytes;
}

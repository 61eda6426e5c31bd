use Rattle.std.proofs.Common.{◌≡◌, ◌++◌, ◌<◌, drop, length}
use Rattle.std.specs.Prelude.{All}
use Rattle.key_paths.specs.Paths.{IsPath}
use Rattle.programs.specs.Moves.{projected}
use Rattle.programs.proofs.moving.projected_draft.Given as goal

abbrev pub invariant-loop-path : goal.invariant-loop-path
invariant-loop-path l = record {
  so_far : l.moved.items ++ projected l.p l.q (drop l.path-index l.paths) ≡ projected l.p l.q l.paths;
  each : All IsPath l.moved.items;
  ends : 0 < length l.moved.items → IsPath l.p × IsPath l.q;
}

use Rattle.std.proofs.Common.{refl, sym}
use Rattle.std.proofs.lemmas.List.Elements.{All-push}
use Rattle.key_paths.specs.Paths.{IsPath}
use Rattle.programs.specs.Faults.{IsClear}
use Rattle.programs.proofs.Projections.{projected_on, projected_off, projected_end, deep_here, deep_clear, rises_projected, rises_some}
use Rattle.programs.proofs.moving.projected_draft.Goals as goal
use Rattle.programs.proofs.moving.projected_draft.Goals.{then-starts_with+in_ok-now+in-Some+in_ok-push-in-Some, else-starts_with}

pub returns-in-None : goal.returns-in-None
returns-in-None c =
    let p = c.args.p.now in
    let q = c.args.q.now in
    let o = c.args.a.now in
    let paths = c.paths-paths.ensures in
    let clear : IsClear c.args.a.now = record { rises = paths.rises; paths = paths.paths; clear = paths.clear } in
    deep_clear p q o o.len c.in_ok-now.ensures.from c.in_ok-now.ensures.to clear
    (rw paths.value at (deep_here p q c.path-item.result c.paths-paths.result.now c.loop-path.moved.items c.loop-path.path-index c.loop-path-test.true c.path-item.is (sym c.if-starts_with.ensures.below) c.loop-path.invariant.so_far (rw c.in-None.is at c.in_ok-now.ensures.moved)))

pub loop-path-preserved : goal.loop-path-preserved
loop-path-preserved c =
    elim c.if-starts_with.branch [
      | then-starts_with+in_ok-now+in-Some+in_ok-push-in-Some w ↦
          let moved = rw w.in-Some.is at w.in_ok-now.ensures.moved in
          rw w.moved-is (record {
            so_far = projected_on c.args.p.now c.args.q.now c.path-item.result w.in-Some.now c.paths-paths.result.now c.loop-path.moved.items _ c.loop-path.path-index c.loop-path-test.true c.path-item.is (sym w.if-starts_with.ensures.below) moved.0 w.in_ok-push-in-Some.ensures.items c.loop-path.invariant.so_far;
            each = rw w.in_ok-push-in-Some.ensures.items (All-push IsPath c.loop-path.moved.items w.in-Some.now c.loop-path.invariant.each moved.1);
            ends = λ h. (w.in_ok-now.ensures.from, w.in_ok-now.ensures.to);
          })
      | else-starts_with w ↦
          rw w.moved-is (record {
            so_far = projected_off c.args.p.now c.args.q.now c.path-item.result c.paths-paths.result.now c.loop-path.moved.items _ c.loop-path.path-index c.loop-path-test.true c.path-item.is (sym w.if-starts_with.ensures.below) refl c.loop-path.invariant.so_far;
            each = c.loop-path.invariant.each;
            ends = c.loop-path.invariant.ends;
          })
    ]

pub of_paths-requires-clause-rises : goal.of_paths-requires-clause-rises
of_paths-requires-clause-rises c =
    let paths = c.paths-paths.ensures in
    let clear : IsClear c.args.a.now = record { rises = paths.rises; paths = paths.paths; clear = paths.clear } in
    let items = projected_end c.args.p.now c.args.q.now c.paths-paths.result.now c.loop-path.moved.items c.loop-path.path-index c.loop-path-test.false c.loop-path.invariant.so_far in
    rises_some c.loop-path.moved.items (λ h. let ends = c.loop-path.invariant.ends h in rw (items, paths.value) (rises_projected c.args.p.now c.args.q.now c.args.a.now ends.0 ends.1 clear))

use Rattle.std.proofs.Common.{◌+◌, true, false, refl, ap, subst, sym}
use Rattle.programs.specs.Vectors.{seen_all, tables}
use Rattle.slot_columns.specs.declared.stop.Stop.{Stop}
use Rattle.slot_columns.specs.Stops.{StopsAt}
use Rattle.voodoo_ops.specs.Envs.{env_in}
use Rattle.voodoo_ops.specs.Meaning.{meaning}
use Rattle.voodoo_ops.specs.declared.later.Later.{Later}
use Rattle.voodoo_ops.proofs.Making.{exact_err}
use Rattle.voodoo_ops.proofs.Evaluated.{going_end, going_fits, going_next, going_off, going_start, going_stops, reached_as}
use Rattle.voodoo_ops.proofs.evaluate.run_reached.Goals as goal
use Rattle.voodoo_ops.proofs.evaluate.run_reached.Goals.{then-is_reached+in_ok-run_one, else-is_reached}

pub loop-i-init : goal.loop-i-init
loop-i-init c = going_start (tables c.args.store.now) (env_in c.nothing-made.result) c.args.statements.now _ c.nothing-made.ensures (ap seen_all c.new-named.ensures.items) c.requires.runnable

pub run_one-requires : goal.run_one-requires
run_one-requires c =
    going_fits (tables c.args.store.now) (env_in c.loop-i.made) c.args.statements.now c.loop-i.i c.index-statements-i.result (seen_all c.loop-i.named.items) c.loop-i-test.true c.index-statements-i.is
    (reached_as c.args.readers.now c.args.statements.now c.loop-i.i c.index-statements-i.result true c.requires.last c.if-is_reached.ensures)
    c.loop-i.invariant

pub loop-i-preserved : goal.loop-i-preserved
loop-i-preserved c =
    let store = tables c.args.store.now in
    let env = env_in c.loop-i.made in
    let later : Later = record { readers = c.args.readers; from = c.loop-i.i + 1 } in
    elim c.if-is_reached.branch [
      | then-is_reached+in_ok-run_one w ↦
          rw (w.made-is, w.named-is) (going_next c.args.readers.now store env (env_in w.run_one.new.made) c.args.statements.now c.loop-i.i c.index-statements-i.result later w.in_ok-run_one.field-0 (seen_all c.loop-i.named.items) (seen_all w.run_one.new.named.items) c.requires.last refl refl c.loop-i-test.true c.index-statements-i.is w.if-is_reached.ensures w.in_ok-run_one.ensures.step w.in_ok-run_one.ensures.named c.loop-i.invariant)
      | else-is_reached w ↦
          rw (w.made-is, w.named-is) (going_off store env c.args.statements.now c.loop-i.i c.index-statements-i.result (seen_all c.loop-i.named.items) c.loop-i-test.true c.index-statements-i.is (reached_as c.args.readers.now c.args.statements.now c.loop-i.i c.index-statements-i.result false c.requires.last w.if-is_reached.ensures) c.loop-i.invariant)
    ]

pub returns-in_err-run_one : goal.returns-in_err-run_one
returns-in_err-run_one c =
    let store = tables c.args.store.now in
    let meant = meaning store c.args.statements.now in
    exact_err (λ named. seen_all named.items) c.from_residual.result _ meant c.from_residual.ensures.0 c.from_residual.ensures.1
    (λ e h. subst (λ (stop : Stop). StopsAt stop meant) (sym h)
    (going_stops c.args.readers.now store (env_in c.loop-i.made) c.args.statements.now c.loop-i.i c.index-statements-i.result c.in_err-run_one.field-0.0 (seen_all c.loop-i.named.items) c.requires.last c.loop-i-test.true c.index-statements-i.is c.if-is_reached.ensures c.in_err-run_one.ensures.step c.requires.runnable c.loop-i.invariant))

pub returns : goal.returns
returns c = going_end (tables c.args.store.now) (env_in c.loop-i.made) c.args.statements.now c.loop-i.i _ c.loop-i-test.false c.requires.runnable c.loop-i.invariant

use Rattle.std.proofs.Common.{ap, subst}
use Rattle.program_writers.specs.Codes.{Adds}
use Rattle.program_writers.specs.Writers.{◌>>=◌}
use Rattle.plan_programs.specs.Sites.{Base}
use Rattle.program_writers.proofs.Writing.{then_added}
use Rattle.plan_programs.specs.Groups.{Folding}
use Rattle.plan_programs.specs.Groups as spec
use Rattle.group_lower.proofs.groups.by_columns.Goals as goal

pub returns : goal.returns
returns c =
    then_added (spec.sorted c.args.b c.args.columns.now) (λ rows. spec.nought_at rows.vector >>= λ nought. spec.runs_of rows c.args.columns.now >>= λ runs. spec.keyed_groups rows c.args.columns.now nought runs)
    c.args.w.now c.sorted.new.w c.keyed_groups.new.w c.in_ok-rows.rows c.keyed_groups.result (λ f. f) c.in_ok-rows.ensures
    (then_added (spec.nought_at c.in_ok-rows.rows.vector) (λ nought. spec.runs_of c.in_ok-rows.rows c.args.columns.now >>= λ runs. spec.keyed_groups c.in_ok-rows.rows c.args.columns.now nought runs)
    c.sorted.new.w c.nought_at.new.w c.keyed_groups.new.w c.in_ok-nought.nought c.keyed_groups.result (λ f. f) (subst (λ v. Adds (spec.nought_at v) c.sorted.new.w c.nought_at.new.w c.in_ok-nought.nought) (ap (λ (x : Base). x.vector) c.rows.view_is) c.in_ok-nought.ensures)
    (then_added (spec.runs_of c.in_ok-rows.rows c.args.columns.now) (λ runs. spec.keyed_groups c.in_ok-rows.rows c.args.columns.now c.in_ok-nought.nought runs)
    c.nought_at.new.w c.runs_of.new.w c.keyed_groups.new.w c.in_ok-runs.runs c.keyed_groups.result (λ f. f) c.in_ok-runs.ensures c.keyed_groups.ensures))

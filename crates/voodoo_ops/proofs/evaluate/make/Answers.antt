use Rattle.std.proofs.Common.{ap, sym, ◌∙◌}
use Rattle.programs.specs.Families.{lent}
use Rattle.programs.specs.Outlines.{outlines}
use Rattle.programs.specs.Vectors.{tables}
use Rattle.voodoo_ops.specs.Envs.{env_in}
use Rattle.voodoo_ops.specs.Meaning.{effect_by}
use Rattle.voodoo_ops.proofs.Making.{makes}
use Rattle.voodoo_ops.proofs.Fitting.{fits_as, cross_fits, pair_fits, fold_fits, rank_fits, zip_fits, project_fits, upsert_fits, gather_fits, scatter_fits, order_fits, shift_fits}
use Rattle.voodoo_ops.proofs.evaluate.make.Goals as goal

pub zip_made-requires-clause-clear : goal.zip_made-requires-clause-clear
zip_made-requires-clause-clear c = (zip_fits (tables c.args.store.now) (env_in c.args.made.now) c.in-Zip.a.now c.in-Zip.b.now (fits_as (outlines (tables c.args.store.now)) (outlines (env_in c.args.made.now)) _ _ (ap lent (sym c.in-Zip.is) ∙ c.family.ensures) c.requires.fits)).2

pub cross_made-requires-clause-clear : goal.cross_made-requires-clause-clear
cross_made-requires-clause-clear c = (cross_fits (tables c.args.store.now) (env_in c.args.made.now) c.in-Cross.a.now c.in-Cross.p.now c.in-Cross.b.now c.in-Cross.q.now (fits_as (outlines (tables c.args.store.now)) (outlines (env_in c.args.made.now)) _ _ (ap lent (sym c.in-Cross.is) ∙ c.family.ensures) c.requires.fits)).clear

pub cross_made-requires-clause-short : goal.cross_made-requires-clause-short
cross_made-requires-clause-short c = (cross_fits (tables c.args.store.now) (env_in c.args.made.now) c.in-Cross.a.now c.in-Cross.p.now c.in-Cross.b.now c.in-Cross.q.now (fits_as (outlines (tables c.args.store.now)) (outlines (env_in c.args.made.now)) _ _ (ap lent (sym c.in-Cross.is) ∙ c.family.ensures) c.requires.fits)).short

pub project_made-requires-clause-clear : goal.project_made-requires-clause-clear
project_made-requires-clause-clear c = (project_fits (tables c.args.store.now) (env_in c.args.made.now) c.in-Project.a.now c.in-Project.p.now c.in-Project.q.now (fits_as (outlines (tables c.args.store.now)) (outlines (env_in c.args.made.now)) _ _ (ap lent (sym c.in-Project.is) ∙ c.family.ensures) c.requires.fits)).1

pub project_made-requires-clause-shallow : goal.project_made-requires-clause-shallow
project_made-requires-clause-shallow c = (project_fits (tables c.args.store.now) (env_in c.args.made.now) c.in-Project.a.now c.in-Project.p.now c.in-Project.q.now (fits_as (outlines (tables c.args.store.now)) (outlines (env_in c.args.made.now)) _ _ (ap lent (sym c.in-Project.is) ∙ c.family.ensures) c.requires.fits)).2

pub upsert_made-requires-clause-attribute : goal.upsert_made-requires-clause-attribute
upsert_made-requires-clause-attribute c = (upsert_fits (tables c.args.store.now) (env_in c.args.made.now) c.in-Upsert.a.now c.in-Upsert.p.now c.in-Upsert.b.now c.in-Upsert.q.now (fits_as (outlines (tables c.args.store.now)) (outlines (env_in c.args.made.now)) _ _ (ap lent (sym c.in-Upsert.is) ∙ c.family.ensures) c.requires.fits)).1

pub upsert_made-requires-clause-clear : goal.upsert_made-requires-clause-clear
upsert_made-requires-clause-clear c = (upsert_fits (tables c.args.store.now) (env_in c.args.made.now) c.in-Upsert.a.now c.in-Upsert.p.now c.in-Upsert.b.now c.in-Upsert.q.now (fits_as (outlines (tables c.args.store.now)) (outlines (env_in c.args.made.now)) _ _ (ap lent (sym c.in-Upsert.is) ∙ c.family.ensures) c.requires.fits)).2

pub gather_made-requires-clause-positions : goal.gather_made-requires-clause-positions
gather_made-requires-clause-positions c = (gather_fits (tables c.args.store.now) (env_in c.args.made.now) c.in-Gather.a.now c.in-Gather.b.now c.in-Gather.pos.now (fits_as (outlines (tables c.args.store.now)) (outlines (env_in c.args.made.now)) _ _ (ap lent (sym c.in-Gather.is) ∙ c.family.ensures) c.requires.fits)).1

pub scatter_made-requires-clause-positions : goal.scatter_made-requires-clause-positions
scatter_made-requires-clause-positions c = (scatter_fits (tables c.args.store.now) (env_in c.args.made.now) c.in-Scatter.a.now c.in-Scatter.size.now c.in-Scatter.b.now c.in-Scatter.pos.now (fits_as (outlines (tables c.args.store.now)) (outlines (env_in c.args.made.now)) _ _ (ap lent (sym c.in-Scatter.is) ∙ c.family.ensures) c.requires.fits)).2

pub rank_made-requires : goal.rank_made-requires
rank_made-requires c = rank_fits (tables c.args.store.now) (env_in c.args.made.now) c.in-Rank.kind c.in-Rank.args.now (fits_as (outlines (tables c.args.store.now)) (outlines (env_in c.args.made.now)) _ _ (ap lent (sym c.in-Rank.is) ∙ c.family.ensures) c.requires.fits)

pub fold_made-requires : goal.fold_made-requires
fold_made-requires c = fold_fits (tables c.args.store.now) (env_in c.args.made.now) c.in-Fold.kind c.in-Fold.args.now (fits_as (outlines (tables c.args.store.now)) (outlines (env_in c.args.made.now)) _ _ (ap lent (sym c.in-Fold.is) ∙ c.family.ensures) c.requires.fits)

pub order_made-requires-clause-mark : goal.order_made-requires-clause-mark
order_made-requires-clause-mark c = (order_fits (tables c.args.store.now) (env_in c.args.made.now) c.in-Order.a.now c.in-Order.mark.now c.in-Order.out.now c.in-Order.keys.now (fits_as (outlines (tables c.args.store.now)) (outlines (env_in c.args.made.now)) _ _ (ap lent (sym c.in-Order.is) ∙ c.family.ensures) c.requires.fits)).0

pub order_made-requires-clause-keys : goal.order_made-requires-clause-keys
order_made-requires-clause-keys c = (order_fits (tables c.args.store.now) (env_in c.args.made.now) c.in-Order.a.now c.in-Order.mark.now c.in-Order.out.now c.in-Order.keys.now (fits_as (outlines (tables c.args.store.now)) (outlines (env_in c.args.made.now)) _ _ (ap lent (sym c.in-Order.is) ∙ c.family.ensures) c.requires.fits)).1

pub pair_made-requires : goal.pair_made-requires
pair_made-requires c = pair_fits (tables c.args.store.now) (env_in c.args.made.now) c.in-Pair.kind c.in-Pair.args.now (fits_as (outlines (tables c.args.store.now)) (outlines (env_in c.args.made.now)) _ _ (ap lent (sym c.in-Pair.is) ∙ c.family.ensures) c.requires.fits)

pub shift_made-requires-clause-x : goal.shift_made-requires-clause-x
shift_made-requires-clause-x c = (shift_fits (tables c.args.store.now) (env_in c.args.made.now) c.in-BitShift.x.now c.in-BitShift.by c.in-BitShift.out.now (fits_as (outlines (tables c.args.store.now)) (outlines (env_in c.args.made.now)) _ _ (ap lent (sym c.in-BitShift.is) ∙ c.family.ensures) c.requires.fits)).0

pub returns-in-Upsert-clause-made : goal.returns-in-Upsert-clause-made
returns-in-Upsert-clause-made c = makes c.upsert_made.result _ _ (ap (effect_by (tables c.args.store.now) (env_in c.args.made.now)) (sym c.family.ensures ∙ ap lent c.in-Upsert.is)) c.upsert_made.ensures.made

pub returns-in-Gather-clause-made : goal.returns-in-Gather-clause-made
returns-in-Gather-clause-made c = makes c.gather_made.result _ _ (ap (effect_by (tables c.args.store.now) (env_in c.args.made.now)) (sym c.family.ensures ∙ ap lent c.in-Gather.is)) c.gather_made.ensures

pub returns-in-Scatter-clause-made : goal.returns-in-Scatter-clause-made
returns-in-Scatter-clause-made c = makes c.scatter_made.result _ _ (ap (effect_by (tables c.args.store.now) (env_in c.args.made.now)) (sym c.family.ensures ∙ ap lent c.in-Scatter.is)) c.scatter_made.ensures

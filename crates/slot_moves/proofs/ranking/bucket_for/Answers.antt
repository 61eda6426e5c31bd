use Rattle.std.proofs.Common.{ap, ◌∙◌, sym, None}
use Rattle.std.proofs.lemmas.Option.{get_or_from_slice_get}
use Rattle.sort_order.specs.Buckets.{bucket}
use Rattle.slot_moves.proofs.ranking.bucket_for.Goals as goal

pub returns : goal.returns
returns c = c.bucket_of.ensures ∙ ap (bucket c.args.pivots.now) (sym (get_or_from_slice_get c.args.keys.now.slots c.args.i c.get.result None c.get.ensures.slot))

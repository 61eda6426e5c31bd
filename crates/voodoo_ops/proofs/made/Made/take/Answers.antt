use Rattle.std.proofs.Common.{List, ℕ, None, ap, ◌∙◌}
use Rattle.std.specs.HashMap.{get_by_text}
use Rattle.std.specs.Option.{option_map}
use Rattle.std.specs.Str.{bytes_eq}
use Rattle.std.proofs.Math.Path.{fun_ext}
use Rattle.std.proofs.lemmas.Map.Text.{hash_map_updates_text}
use Rattle.programs.specs.Vectors.{seen}
use Rattle.voodoo_ops.proofs.Kept.{seen_without}
use Rattle.voodoo_ops.proofs.made.Made.take.Goals as goal

pub returns-clause-left : goal.returns-clause-left
returns-clause-left c =
    fun_ext (λ (q : List ℕ). ap (option_map seen) (rw c.text.ensures at (hash_map_updates_text c.text.result.now c.args.self.now.vectors c.remove.new.self None c.remove.ensures.updates q)) ∙ seen_without (bytes_eq c.args.name.now q) (get_by_text c.args.self.now.vectors q))

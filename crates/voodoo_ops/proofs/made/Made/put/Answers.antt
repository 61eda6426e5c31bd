use Rattle.std.proofs.Common.{List, ℕ, Some, ap, ◌∙◌}
use Rattle.std.specs.HashMap.{get_by_text}
use Rattle.std.specs.Option.{option_map}
use Rattle.std.specs.Str.{bytes_eq}
use Rattle.std.specs.String.{string_bytes}
use Rattle.std.proofs.Math.Path.{fun_ext}
use Rattle.std.proofs.lemmas.Map.Text.{hash_map_updates_text}
use Rattle.programs.specs.Vectors.{seen}
use Rattle.voodoo_ops.proofs.Kept.{seen_if}
use Rattle.voodoo_ops.proofs.made.Made.put.Goals as goal

pub returns : goal.returns
returns c =
    let ok = c.in_ok-insert.ensures in
    fun_ext (λ (q : List ℕ). ap (option_map seen) (rw (c.in_ok-key.ensures.ok, c.text.ensures) at (hash_map_updates_text (string_bytes c.in_ok-key.key) c.args.self.now.vectors c.insert.new.self (Some c.args.v) ok.updates q)) ∙ seen_if (bytes_eq c.args.name.now q) c.args.v (get_by_text c.args.self.now.vectors q))

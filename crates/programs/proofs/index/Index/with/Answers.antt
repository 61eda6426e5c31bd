use Rattle.std.proofs.Common.{Some, List, ℕ}
use Rattle.std.specs.String.{string_bytes}
use Rattle.std.proofs.Math.Path.{fun_ext}
use Rattle.std.proofs.lemmas.Map.Text.{hash_map_updates_text}
use Rattle.programs.proofs.index.Index.with.Goals as goal

pub returns : goal.returns
returns c =
    let ok = c.in_ok-insert.ensures in
    fun_ext (λ (q : List ℕ). rw (c.in_ok-key.ensures.ok, c.text.ensures) at (hash_map_updates_text (string_bytes c.in_ok-key.key) c.args.self.places c.insert.new.self (Some c.args.place) ok.updates q))

use Rattle.std.proofs.Common.{List, sym, ◌∙◌, subst, arith}
use Rattle.key_paths.specs.Paths.{IsPath}
use Rattle.program_writers.proofs.Routes.{numbered_path}
use Rattle.program_writers.proofs.paths.numbered.Goals as goal

pub of-requires : goal.of-requires
of-requires c = subst (λ (text : List _). IsPath text) (sym (c.as_str.ensures.value ∙ c.in_ok-text.ensures.ok)) (numbered_path c.args.word.now c.args.k c.requires.path c.requires.below_root c.requires.short (omega arith))

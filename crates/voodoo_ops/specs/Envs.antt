-- The vectors that a run has made, by name.
use Rattle.std.specs.Prelude.{None, if◌then◌else◌}
use Rattle.std.specs.HashMap.{get_by_text}
use Rattle.std.specs.Option.{option_map}
use Rattle.std.specs.Str.{bytes_eq}
use Rattle.programs.specs.Mentions.{Label}
use Rattle.programs.specs.Vectors.{Env, seen}
use Rattle.voodoo_ops.specs.declared.made.Made.{Made}

abbrev pub env_in : Made → Env
env_in m = λ n. option_map seen (get_by_text m.vectors n)

-- all but the vector of one name
abbrev pub without : Env → Label → Env
without env n = λ m. if bytes_eq n m then None else env m

use Rattle.std.proofs.Common.{◌≡◌, take, map}
use Rattle.plan_programs.specs.Groups as spec
use Rattle.plan_programs.specs.Sites.{path_in}
use Rattle.group_lower.proofs.groups.sort_keys.Given as goal

abbrev pub invariant-loop-c : goal.invariant-loop-c
invariant-loop-c l = l.keys.items ≡ map (λ c. spec.ascending (path_in l.b c)) (take l.c-index l.columns)

-- Paths that an operator moves or leaves out (Voodoo, PVLDB 9(14), 2016, section 2: Project and Upsert).
use Rattle.std.specs.Prelude.{Bool, not, List, [], ◌∷◌, ◌++◌, map, filter, length, drop, nat_lt, if◌then◌else◌}
use Rattle.std.specs.List.{count_by}
use Rattle.key_paths.specs.Paths.{is_dot}
use Rattle.key_paths.specs.Substructures.{is_root, is_at_or_below, is_before}
use Rattle.programs.specs.Mentions.{Label}
use Rattle.programs.specs.Merges.{merged}

-- what a path's further segments stand behind: all of it, and nothing for the root
abbrev pub stem : Label → Label
stem p = if is_root p then [] else p

-- the path of a stem: the root's is `.`
abbrev pub path_of : Label → Label
path_of [] = 46 ∷ []
path_of (byte ∷ bytes) = byte ∷ bytes

-- a path at or below p, with q in place of p at its start
abbrev pub moved : Label → Label → Label → Label
moved p q x = path_of (stem q ++ drop (length (stem p)) (stem x))

-- the paths at or below p, with q in place of p at their start
abbrev pub projected : Label → Label → List Label → List Label
projected p q paths = map (moved p q) (filter (λ x. is_at_or_below x p) paths)

-- the paths that are neither p nor below it
abbrev pub others : Label → List Label → List Label
others p paths = filter (λ x. not (is_at_or_below x p)) paths

-- p in place of the paths at or below it
abbrev pub upserted : Label → List Label → List Label
upserted p paths = merged is_before (p ∷ []) (others p paths)

-- whether a path has more than eight segments, each of which stands behind a dot
abbrev pub is_deep : Label → Bool
is_deep p = nat_lt 8 (count_by is_dot p)

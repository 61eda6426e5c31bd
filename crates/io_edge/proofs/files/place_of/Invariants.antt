use Rattle.std.proofs.Common.{◌≡◌, drop, map}
use Rattle.io_edge.specs.Files.{file_of, named_file}
use Rattle.io_edge.proofs.files.place_of.Given as goal

abbrev pub invariant-loop-i : goal.invariant-loop-i
invariant-loop-i l = file_of (map named_file (drop l.i l.files)) l.name ≡ file_of (map named_file l.files) l.name

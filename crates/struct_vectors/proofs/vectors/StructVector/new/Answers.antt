use Rattle.struct_vectors.proofs.ArrangeLaws.{shaped_of, arranged_of, refuses_clash, kept_apart, kept_lengths}
use Rattle.struct_vectors.proofs.vectors.StructVector.new.Goals as goal

pub returns-in-Some-first_clash-clause-refused : goal.returns-in-Some-first_clash-clause-refused
returns-in-Some-first_clash-clause-refused c =
    refuses_clash _ _ c.sort_by_path.new.attributes.items c.in-Some-first_clash.place c.clash_at.result (rw c.as_slice.ensures.value at c.in_default.ensures) c.sort_by_path.ensures.same c.sort_by_path.ensures.sorted (rw c.as_slice-3.ensures.value at c.in-Some-first_clash.ensures) c.clash_at.ensures

pub invariant_of-result : goal.invariant_of-result
invariant_of-result c =
    let xs = c.sort_by_path.new.attributes.items in (
      kept_lengths xs c.in_ok-paths.paths.items c.in_ok-paths.columns.items c.in_ok-paths.ensures.paths c.in_ok-paths.ensures.columns,
      rw (kept_apart xs c.in_ok-paths.paths.items c.in_ok-paths.columns.items c.in_ok-paths.ensures.paths c.in_ok-paths.ensures.columns)
          (shaped_of c.args.n c.args.attributes.items xs c.requires.short (rw c.as_slice-2.ensures.value at c.see_paths.ensures) c.requires.named (rw c.as_slice.ensures.value at c.in_default.ensures) c.sort_by_path.ensures.same c.sort_by_path.ensures.sorted (rw c.as_slice-3.ensures.value at c.in_default-first_clash.ensures)),
    )

pub returns-clause-attributes : goal.returns-clause-attributes
returns-clause-attributes c =
    let xs = c.sort_by_path.new.attributes.items in
    rw (kept_apart xs c.in_ok-paths.paths.items c.in_ok-paths.columns.items c.in_ok-paths.ensures.paths c.in_ok-paths.ensures.columns)
    (arranged_of c.args.attributes.items xs c.sort_by_path.ensures.same c.sort_by_path.ensures.sorted (rw c.as_slice-3.ensures.value at c.in_default-first_clash.ensures))

pub returns-clause-shaped : goal.returns-clause-shaped
returns-clause-shaped c =
    let xs = c.sort_by_path.new.attributes.items in
    rw (kept_apart xs c.in_ok-paths.paths.items c.in_ok-paths.columns.items c.in_ok-paths.ensures.paths c.in_ok-paths.ensures.columns)
    (shaped_of c.args.n c.args.attributes.items xs c.requires.short (rw c.as_slice-2.ensures.value at c.see_paths.ensures) c.requires.named (rw c.as_slice.ensures.value at c.in_default.ensures) c.sort_by_path.ensures.same c.sort_by_path.ensures.sorted (rw c.as_slice-3.ensures.value at c.in_default-first_clash.ensures))

use Rattle.std.proofs.Common.{◌≡◌, ◌≤◌, length, map, take}
use Rattle.std.specs.Prelude.{IfSome, Ok}
use Rattle.loaded_plans.specs.Laws.{AreLoaded}
use Rattle.run_steps.specs.Loaded.{AreShort}
use Rattle.run_steps.specs.Steps.{tables_from}
use Rattle.run_steps.proofs.tables_step.read_tables.Given as goal

abbrev pub invariant-loop-i : goal.invariant-loop-i
invariant-loop-i g l =
    let s = g.S.Shelf in
    record {
      same : s.holds l.shelf ≡ s.holds l.fn.shelf;
      later : s.faults l.fn.shelf ≤ s.faults l.shelf;
      degrees : map (λ t. t.degree) l.tables.items ≡ map (λ d. length d.columns) (take l.i l.defs);
      loaded_by : AreLoaded (take l.i l.defs) l.tables.items;
      short : AreShort l.tables.items;
      loaded : IfSome (s.holds l.fn.shelf) (λ files. tables_from files l.schema 1 (take l.i l.defs) ≡ Ok l.tables.items);
    }

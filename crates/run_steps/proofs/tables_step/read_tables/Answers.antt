use Rattle.std.proofs.Common.{◌∙◌, ◌≤◌, ◌^◌, length, map, ap, arith, refl}
use Rattle.std.proofs.lemmas.List.Elements.{All-nil, All-push}
use Rattle.std.specs.Global.{Vec}
use Rattle.table_load.specs.Values.{Table as TableValue}
use Rattle.table_load.proofs.Limits.{few_tables, few_columns}
use Rattle.run_steps.proofs.LoadedTables.{loaded_more, loaded_none}
use Rattle.run_steps.proofs.TablesLaws.{more_if_any, stop_if_any, none_if_any, degrees_more, table_fault}
use Rattle.run_steps.proofs.tables_step.read_tables.Goals as goal

abbrev is_short : TableValue → Type 0
is_short t = length t.rows ≤ 2 ^ 20

pub loop-i-init : goal.loop-i-init
loop-i-init g c = record {
  same = refl;
  later = omega arith;
  degrees = ap (map (λ t. t.degree)) c.in_ok-tables.ensures.items;
  loaded_by = loaded_none c.in_ok-tables.tables.items c.in_ok-tables.ensures.items;
  short = rw c.in_ok-tables.ensures.items (All-nil is_short);
  loaded = none_if_any (g.S.Shelf.holds c.args.shelf.now) c.args.schema.now c.in_ok-tables.tables.items c.in_ok-tables.ensures.items;
}

pub overflow_cast-i : goal.overflow_cast-i
overflow_cast-i g c = let few = few_tables c.args.defs.now c.requires.clean in omega (arith, few, c.loop-i-test.true)

pub overflow_add-i : goal.overflow_add-i
overflow_add-i g c = let few = few_tables c.args.defs.now c.requires.clean in omega (arith, few, c.loop-i-test.true)

pub read_table-requires : goal.read_table-requires
read_table-requires g c = record { few = rw c.index-defs-i.is (few_columns c.args.defs.now c.loop-i.i c.index-defs-i.result c.requires.clean c.loop-i-test.true) }

pub returns-in-Err-clause-tables : goal.returns-in-Err-clause-tables
returns-in-Err-clause-tables g c =
    stop_if_any (λ (v : Vec TableValue). v.items) (g.S.Shelf.holds c.args.shelf.now) c.args.schema.now c.args.defs.now c.loop-i.i c.index-defs-i.result c.loop-i.tables.items c.in-Err.status c.loop-i-test.true c.index-defs-i.is
    c.loop-i.invariant.loaded (rw c.loop-i.invariant.same at c.in-Err.ensures.table)

pub returns-in-Err-clause-cause : goal.returns-in-Err-clause-cause
returns-in-Err-clause-cause g c =
    table_fault (g.S.Shelf.holds c.args.shelf.now) c.args.schema.now c.args.defs.now c.loop-i.i _ _ _ c.index-defs-i.result c.loop-i.tables.items c.in-Err.status c.loop-i-test.true c.index-defs-i.is c.loop-i.invariant.later
    c.loop-i.invariant.loaded (rw c.loop-i.invariant.same at c.in-Err.ensures.cause)

pub loop-i-preserved : goal.loop-i-preserved
loop-i-preserved g c = record {
  same = c.read_table.ensures.same_files ∙ c.loop-i.invariant.same;
  later = omega (arith, c.loop-i.invariant.later, c.read_table.ensures.later);
  degrees = ap (map (λ t. t.degree)) c.in_ok-keep-in-Ok.ensures ∙ degrees_more c.args.defs.now c.loop-i.i c.index-defs-i.result c.loop-i.tables.items c.in-Ok.table c.loop-i-test.true c.index-defs-i.is c.loop-i.invariant.degrees c.in-Ok.ensures.degree;
  loaded_by = rw c.in_ok-keep-in-Ok.ensures (loaded_more c.args.defs.now c.loop-i.i c.index-defs-i.result c.loop-i.tables.items c.in-Ok.table c.loop-i-test.true c.index-defs-i.is c.loop-i.invariant.loaded_by c.in-Ok.ensures.loaded);
  short = rw c.in_ok-keep-in-Ok.ensures (All-push is_short c.loop-i.tables.items c.in-Ok.table c.loop-i.invariant.short c.in-Ok.ensures.short);
  loaded = rw c.in_ok-keep-in-Ok.ensures (more_if_any (g.S.Shelf.holds c.args.shelf.now) c.args.schema.now c.args.defs.now c.loop-i.i c.index-defs-i.result c.loop-i.tables.items c.in-Ok.table c.loop-i-test.true c.index-defs-i.is
      c.loop-i.invariant.loaded (rw c.loop-i.invariant.same at c.in-Ok.ensures.table));
}

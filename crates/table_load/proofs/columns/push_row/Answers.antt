use Rattle.std.proofs.Common.{rules, ◌≡◌, ◌∙◌, ◌≤◌, ◌<◌, ◌+◌, ◌++◌, ◌∷◌, [], None, length, get_or, set, arith, refl, sym, ap}
use Rattle.std.proofs.lemmas.List.{length-set, take_all}
use Rattle.table_load.specs.HeldColumns.{with_cells}
use Rattle.table_load.proofs.ColumnLaws.{other_default, push_at, with_first, with_nothing}
use Rattle.table_load.proofs.columns.push_row.Goals as goal
use Rattle.table_load.proofs.columns.push_row.Goals.{then-i-cells+in_ok-push, else-i-cells}

pub loop-i-init : goal.loop-i-init
loop-i-init c = record { so_far = sym (with_nothing c.args.columns.now.items); as_many = refl }

pub loop-i-preserved : goal.loop-i-preserved
loop-i-preserved c =
    elim c.if-i-cells.branch [
      | then-i-cells+in_ok-push w ↦
          let i = c.loop-i.i in
          let z = get_or c.args.cells.now i None in
          let first = c.args.columns.now.items in
          let long : i < length c.loop-i.columns.items = search rules in
          let room : i < length first = search rules in
          let here : w.index_mut.result.now ≡ get_or c.loop-i.columns.items i [] = w.index_mut.ensures.value ∙ other_default c.loop-i.columns.items i w.index_mut.result.now [] long in
          let pushed : w.push.new.self ≡ get_or c.loop-i.columns.items i [] ++ z ∷ [] = w.in_ok-push.ensures ∙ rw here (search rules) in
          record {
            so_far =
                ap (λ v. v.items) w.columns-is
                ∙ ap (set c.loop-i.columns.items i) pushed
                ∙ ap (λ l. set l i (get_or l i [] ++ z ∷ [])) c.loop-i.invariant.so_far
                ∙ sym (push_at first c.args.cells.now i None room w.if-i-cells.true);
            as_many = ap (λ v. length v.items) w.columns-is ∙ length-set c.loop-i.columns.items i w.push.new.self ∙ c.loop-i.invariant.as_many;
          }
      | else-i-cells w ↦
          let all = take_all c.loop-i.i c.args.cells.now w.if-i-cells.false in
          let more = take_all (c.loop-i.i + 1) c.args.cells.now (omega (arith, w.if-i-cells.false)) in
          record {
            so_far = ap (λ v. v.items) w.columns-is ∙ c.loop-i.invariant.so_far ∙ ap (with_cells c.args.columns.now.items) (all ∙ sym more);
            as_many = ap (λ v. length v.items) w.columns-is ∙ c.loop-i.invariant.as_many;
          }
    ]

pub returns : goal.returns
returns c =
    let past : length c.args.columns.now.items ≤ c.loop-i.i = search rules in
    c.loop-i.invariant.so_far ∙ with_first c.args.columns.now.items c.args.cells.now c.loop-i.i past

use Rattle.std.proofs.Common.{◌≡◌, Bool, List, map, drop, rules, ap, ◌∙◌, subst}
use Rattle.std.specs.Prelude.{IfOk}
use Rattle.std.specs.Ordering.{is_lt}
use Rattle.std.proofs.lemmas.Fn.{always_returns_same}
use Rattle.sort_order.specs.Keyed.{places_of}
use Rattle.sort_order.specs.Keys.{key_of}
use Rattle.sort_order.specs.Orders.{sorted_by}
use Rattle.sort_order.specs.declared.keyed.Keyed.{Keyed}
use Rattle.sort_order.proofs.KeyedSorts.{keyed_before, keyed_order}
use Rattle.sort_order.proofs.StableSorts.{stable_sort}
use Rattle.sort_order.proofs.keyed.sorted_keyed.Goals as goal

pub returns : goal.returns
returns g c =
    let others = drop 1 (map key_of (g.K.KeySource.keys c.args.keys.now)) in
    let before = keyed_before c.descending-descending.result others in
    let order = keyed_order c.descending-descending.result others in
    let sorted = stable_sort before order c.args.keyed.items c.sort_by.new.self.items
    (c.in_ok-sort_by.ensures.sorted before order (always_returns_same _ (λ a r. is_lt r ≡ before a.0.now a.1.0.now) _ (λ a r k e. search rules)))
    (c.in_ok-sort_by.ensures.stable before order (always_returns_same _ (λ a r. is_lt r ≡ before a.0.now a.1.0.now) _ (λ a r k e. search rules))) in
    subst (λ (l : List Keyed). IfOk c.places_in.result (λ v. v.items ≡ places_of l)) (c.as_slice.ensures.value ∙ sorted ∙ ap (λ (b : Bool). sorted_by (keyed_before b others) c.args.keyed.items) c.descending-descending.ensures) c.places_in.ensures

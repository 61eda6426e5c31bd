use Rattle.std.proofs.Common.{◌≡◌, map, rules}
use Rattle.std.specs.Ordering.{is_lt}
use Rattle.std.proofs.lemmas.Fn.{always_returns_same}
use Rattle.sort_order.specs.Keys.{key_of}
use Rattle.sort_order.specs.Orders.{comes_before}
use Rattle.sort_order.proofs.KeyOrders.{comes_before_order}
use Rattle.sort_order.proofs.StableSorts.{stable_sort}
use Rattle.sort_order.proofs.ordering.sorted_by_all.Goals as goal

pub returns : goal.returns
returns g c =
    let keys = map key_of (g.K.KeySource.keys c.args.keys.now) in
    let order = comes_before_order keys in
    stable_sort (comes_before keys) order c.args.places.items c.sort_by.new.self.items
    (c.in_ok-sort_by.ensures.sorted (comes_before keys) order (always_returns_same _ (λ a r. is_lt r ≡ comes_before keys a.0.now a.1.0.now) _ (λ a r k e. search rules)))
    (c.in_ok-sort_by.ensures.stable (comes_before keys) order (always_returns_same _ (λ a r. is_lt r ≡ comes_before keys a.0.now a.1.0.now) _ (λ a r k e. search rules)))

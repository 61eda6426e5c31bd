use Rattle.sort_order.specs.Orders.{comes_before}
use Rattle.sort_order.proofs.KeyOrders.{comes_before_order}
use Rattle.sort_order.proofs.StableSorts.{insertion_sorts, insertion_is_stable, stable_sort}
use Rattle.sort_order.proofs.laws.order_laws.Goals as goal

pub returns : goal.returns
returns c = record {
  ascends = λ keys places. insertion_sorts (comes_before keys) (comes_before_order keys) places;
  stable = λ keys places. insertion_is_stable (comes_before keys) (comes_before_order keys) places;
  only = λ keys places sorted up stable. stable_sort (comes_before keys) (comes_before_order keys) places sorted up stable;
}

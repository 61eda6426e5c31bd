use Rattle.program_writers.proofs.Digits.{printed, distinct}
use Rattle.program_writers.proofs.Numbers.{one_number, differ, below_differs, from_differs, numbered_has, followed_has, below_more, below_next, from_is_below}
use Rattle.program_writers.proofs.laws.name_laws.Goals as goal

pub returns : goal.returns
returns c = record {
  printed = printed;
  distinct = distinct;
  one_number = one_number;
  differ = differ;
  below_differs = below_differs;
  from_differs = from_differs;
  numbered_has = numbered_has;
  followed_has = followed_has;
  below_more = below_more;
  below_next = below_next;
  from_is_below = from_is_below;
}

use Rattle.wd_value.proofs.OrderLaws.{compare_total, compare-exact}
use Rattle.wd_value.proofs.laws.compare_is_a_total_order.Goals as goal

pub returns : goal.returns
returns c = record { total = compare_total; exact = compare-exact }

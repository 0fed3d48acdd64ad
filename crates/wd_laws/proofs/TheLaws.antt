-- The laws as they are stated, by counts of rows.
use Rattle.std.proofs.Common.{◌≡◌, ℕ, List, ap}
use Rattle.wd_laws.proofs.Calls.{by_row, same_partition_rows}
use Rattle.wd_laws.proofs.Exchange.{gives_all_looks}
use Rattle.wd_laws.proofs.LimitLaw.{Perm-cut}
use Rattle.wd_laws.proofs.Outcomes.{Agree-from_Alike}
use Rattle.wd_laws.proofs.PlanLaw.{one_outcome}
use Rattle.wd_laws.proofs.WindowLaw.{Alike-window}
use Rattle.wd_laws.specs.Laws.{LimitHasOne, PlanHasOne, SameRowsAtPlaces, ValuesGoByRows, WindowHasOne}
use Rattle.wd_value.proofs.Perms.{Perm, Perm-from_SameBag, Perm-refl, SameBag-from_Perm}
use Rattle.wd_value.proofs.SameLaws.{same_row-Decides}
use Rattle.wd_value.specs.Bags.{SameBag}
use Rattle.wd_value.specs.Rows.{Row, row_at, same_row}

rearranged : (rows others : List Row) → SameBag same_row rows others → Perm Row rows others
rearranged = Perm-from_SameBag same_row same_row-Decides

pub values_go_by_rows : ValuesGoByRows
values_go_by_rows class frame function rows others o1 o2 p q h same v1 v2 k l e = by_row class frame function rows others o1 o2 p q h (rearranged rows others same) v1 v2 k l e

pub same_rows_at_places : SameRowsAtPlaces
same_rows_at_places class width rows o1 o2 p wide h v1 v2 = same_partition_rows class rows rows o1 o2 p p (gives_all_looks class rows width wide h) (Perm-refl rows) v1 v2 (ap (row_at rows) (Perm-path p))
  where
    Perm-path : (n : ℕ) → n ≡ n
    Perm-path n = λ i. n

pub window_has_one : WindowHasOne
window_has_one w exchange width rows others os1 os2 same v1 v2 wide n a = Agree-from_Alike _ _ (Alike-window w exchange width rows others os1 os2 (rearranged rows others same) v1 v2 wide n a)

pub limit_has_one : LimitHasOne
limit_has_one limit width rows others o1 o2 same v1 v2 wide h = SameBag-from_Perm same_row same_row-Decides (Perm-cut limit rows others o1 o2 (rearranged rows others same) v1 v2 width wide h)

pub plan_has_one : PlanHasOne
plan_has_one plan instance other c1 c2 same v1 v2 h = Agree-from_Alike _ _ (one_outcome plan instance other c1 c2 same v1.lawful v2.lawful h)

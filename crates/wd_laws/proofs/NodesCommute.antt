-- Over rearranged rows the nodes have rearranged outcomes, and a Limit keeps the same rows.
use Rattle.std.proofs.Common.{List, ap}
use Rattle.wd_laws.proofs.Outcomes.{Agree-from_Alike, Alike-filter, Alike-join, Alike-map, Perm-distinct, Perm-pairs}
use Rattle.wd_laws.proofs.Grouping.{Alike-group}
use Rattle.wd_laws.proofs.Renaming.{renamed_order, renamed_ordering}
use Rattle.wd_laws.specs.Laws.{LimitCommutes, StepsCommute}
use Rattle.wd_plan.specs.Outcomes.{limited_rows}
use Rattle.wd_plan.specs.Sorting.{limit_class}
use Rattle.wd_value.proofs.Perms.{Perm, Perm-from_SameBag, SameBag-from_Perm}
use Rattle.wd_value.proofs.SameLaws.{same_row-Decides}
use Rattle.wd_value.specs.Bags.{SameBag}
use Rattle.wd_value.specs.Rows.{Row, same_row}

pub rearranged : (rows others : List Row) → SameBag same_row rows others → Perm Row rows others
rearranged = Perm-from_SameBag same_row same_row-Decides

pub steps_commute : StepsCommute
steps_commute = record {
  filter = λ condition rows others same. Agree-from_Alike _ _ (Alike-filter condition rows others (rearranged rows others same));
  map = λ outputs rows others same. Agree-from_Alike _ _ (Alike-map outputs rows others (rearranged rows others same));
  group = λ rule rows others same. Agree-from_Alike _ _ (Alike-group rule rows others (rearranged rows others same));
  join = λ condition left others right more same also. Agree-from_Alike _ _ (Alike-join condition _ _ (Perm-pairs (rearranged left others same) (rearranged right more also)));
  distinct = λ rows others same. SameBag-from_Perm same_row same_row-Decides (Perm-distinct (rearranged rows others same));
}

pub limit_commutes : LimitCommutes
limit_commutes limit rows ps ordering once v = record {
  valid = renamed_ordering rows ps once (limit_class limit) ordering v;
  same_rows = ap (limited_rows limit) (renamed_order rows ps once ordering);
}

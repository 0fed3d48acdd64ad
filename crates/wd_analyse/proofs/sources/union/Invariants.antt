use Rattle.std.proofs.Common.{◌≡◌, ◌+◌, ◌-◌, ◌++◌, true, drop, map, nat_lt}
use Rattle.std.specs.List.{list_all}
use Rattle.wd_analyse.proofs.sources.union.Given as goal

abbrev pub invariant-loop-column : goal.invariant-loop-column
invariant-loop-column l = record {
  list : l.list.items ++ map (λ c. l.by + c) (drop l.column-index l.others) ≡ l.columns ++ map (λ c. l.by + c) l.others;
  low : list_all (λ c. nat_lt c (65536 - l.by)) (drop l.column-index l.others) ≡ true;
}

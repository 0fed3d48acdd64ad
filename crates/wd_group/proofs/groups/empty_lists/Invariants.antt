use Rattle.std.proofs.Common.{◌≡◌, length}
use Rattle.std.specs.Prelude.{All}
use Rattle.wd_group.specs.Groups.{lists_of}
use Rattle.wd_group.proofs.groups.empty_lists.Given as goal

abbrev pub invariant-loop : goal.invariant-loop
invariant-loop l = record {
  long : length (lists_of l.lists.items) ≡ l.counter;
  empty : All (λ list. length list ≡ 0) (lists_of l.lists.items);
}

use Rattle.std.proofs.Common.{◌≡◌, [], map, replicate, vec_items}
use Rattle.wd_close.proofs.watchers.empties.Given as goal

abbrev pub invariant-loop : goal.invariant-loop
invariant-loop l = map vec_items l.list.items ≡ replicate l.counter []

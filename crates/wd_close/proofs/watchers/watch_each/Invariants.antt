use Rattle.std.proofs.Common.{◌≡◌, ◌+◌, ◌≤◌, drop, map, vec_items}
use Rattle.wd_close.specs.Reached as spec
use Rattle.wd_close.proofs.watchers.watch_each.Given as goal

abbrev pub invariant-loop-member : goal.invariant-loop-member
invariant-loop-member l = record {
  watchers : spec.watched_each (map vec_items l.watchers.items) l.fact (drop l.member-index l.members) ≡ spec.watched_each (map vec_items l.fn.watchers.items) l.fact l.members;
  count : l.count + spec.count_new (map vec_items l.watchers.items) l.fact (drop l.member-index l.members) ≡ spec.count_new (map vec_items l.fn.watchers.items) l.fact l.members;
  small : l.count ≤ l.member-index;
}

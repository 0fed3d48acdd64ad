use Rattle.std.proofs.Common.{◌≡◌, drop}
use Rattle.wd_close.specs.Reached.{Mirrors}
use Rattle.wd_close.specs.Reached as spec
use Rattle.wd_close.proofs.reached.add_all.Given as goal

abbrev pub invariant-loop-member : goal.invariant-loop-member
invariant-loop-member l = Mirrors l.set l.queue.items × (spec.all_added l.queue.items (drop l.member-index l.members) ≡ spec.all_added l.fn.queue.items l.members)

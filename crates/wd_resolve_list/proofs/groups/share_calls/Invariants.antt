use Rattle.std.proofs.Common.{◌≡◌, map, take}
use Rattle.wd_resolve_list.specs.SelectLists.{shared_call}
use Rattle.wd_resolve_list.proofs.groups.share_calls.Given as goal

abbrev pub invariant-loop-call : goal.invariant-loop-call
invariant-loop-call l = map shared_call l.all.items ≡ map shared_call (take l.call-index l.calls)
